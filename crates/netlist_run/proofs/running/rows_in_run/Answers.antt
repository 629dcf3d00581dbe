use Rattle.std.proofs.Common.{sym, subst, ◌∙◌, ℕ, List, [], Bool}
use Rattle.netlist_core.specs.declared.flat.Flat.{Flat}
use Rattle.netlist_text.specs.Parts.{AreParts}
use Rattle.netlist_run.proofs.Ran.{none_yet}
use Rattle.netlist_run.proofs.running.rows_in_run.Goals as goal

pub returns : goal.returns
returns c = λ design order parts.
    let flat = c.args.flat.now in
    let same = sym c.in_ok-machine.ensures.flat in (
      c.machine_rows.new.machine.state,
      c.in_ok-machine_rows.ensures design order (subst (λ (f : Flat). AreParts design f order) same parts)
          (none_yet design flat order c.args.streams.now c.in_ok-machine.machine.state parts c.in_ok-machine.ensures.state),
    )
