use Rattle.std.proofs.Common.{sym, ap, ◌∙◌}
use Rattle.std.specs.Prelude.{option_map}
use Rattle.port_table.specs.Lent.{port_fault_of}
use Rattle.port_table.proofs.Walking.{reads_if_no_fault}
use Rattle.port_table.proofs.reading.read.Goals as goal

pub returns-clause-table : goal.returns-clause-table
returns-clause-table c =
    let none = sym c.in_ok-fault.ensures ∙ ap (λ f. option_map port_fault_of f) c.in_default.is in
    rw c.in_ok-ports_of.ensures (reads_if_no_fault c.args.text.now c.args.width c.args.height c.in_ok-lines.lines.items c.in_ok-lines.ensures (rw c.deref.ensures.value at none))
