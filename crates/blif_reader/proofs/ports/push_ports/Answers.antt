use Rattle.std.proofs.Common.{ℕ, ap, ◌∙◌, List, length, get_or, arith}
use Rattle.lists.proofs.Cuts.{added_more}
use Rattle.netlist_core.specs.declared.model.Port.{Port}
use Rattle.blif_text.specs.Models.{operands}
use Rattle.blif_reader.proofs.ports.push_ports.Goals as goal

pub loop-name-preserved : goal.loop-name-preserved
loop-name-preserved c =
    let line = c.args.line.now in
    let port = λ (name : List ℕ). (let port : Port = record { line = line.line; name = name } in port) in
    let i = c.loop-name.name-index in
    let name = c.name-item.result in
    let items = c.operands-name-items.ensures in
    let long = ap length items in
    added_more port c.args.ports.now.items c.loop-name.ports.items c.push.new.self.items (operands line) i name (port c.in_ok-copied.field-0) (omega (arith, long))
    c.in_ok-push.ensures.items (ap port (c.in_ok-copied.ensures ∙ c.as_slice.ensures ∙ c.name-item.is ∙ ap (λ l. get_or l i name) items)) c.loop-name.invariant
