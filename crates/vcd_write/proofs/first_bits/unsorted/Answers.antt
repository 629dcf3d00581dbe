use Rattle.std.proofs.Common.{◌≡◌, sym, ◌∙◌, ap, List, ◌++◌, length}
use Rattle.std.proofs.lemmas.List.{nil_from_length}
use Rattle.pattern_reading.specs.declared.ports.NetLine.{NetLine}
use Rattle.vcd_write.specs.FirstBits.{first_due_bits}
use Rattle.vcd_write.proofs.FirstBits.{no_nets, push_nets}
use Rattle.vcd_write.specs.NetWaves.{nets_in}
use Rattle.vcd_write.proofs.first_bits.unsorted.Goals as goal

pub returns-then-len-eq0 : goal.returns-then-len-eq0
returns-then-len-eq0 c =
    let nets = c.args.ports.now.nets in
    let none : length nets ≡ 0 = sym c.len.ensures ∙ c.if-len-eq0.true in
    c.new-due.ensures.items ∙ sym (ap (first_due_bits 0) (no_nets nets 0 c.args.ports.now.c (nil_from_length nets none)))

pub loop-context-preserved : goal.loop-context-preserved
loop-context-preserved c =
    push_nets c.loop-context.due.items c.push_context.new.due.items c.args.ports.now.nets c.loop-context.context c.loop-context.invariant
    (c.in_ok-push_context.ensures ∙ ap (λ (nets : List NetLine). c.loop-context.due.items ++ first_due_bits (length c.loop-context.due.items) (nets_in c.loop-context.context nets)) c.as_slice.ensures)
