use Rattle.std.proofs.Common.{rules, refl, ℕ, ◌≡◌, ◌+◌, ◌∙◌, sym, ap, subst, List, ◌∷◌, [], ◌++◌, Bool}
use Rattle.netlist_core.specs.declared.flat.Flat.{Flat}
use Rattle.netlist_meaning.specs.FlatValuation.{IsCycle}
use Rattle.streams.specs.Rows.{bits_across, stream_row}
use Rattle.netlist_run.specs.Runs.{Ran}
use Rattle.netlist_run.proofs.Ran.{one_more}
use Rattle.netlist_run.proofs.running.machine_rows.Goals as goal

pub loop-cycle-init : goal.loop-cycle-init
loop-cycle-init c = (
  refl,
  c.requires.inputs,
  c.requires.outputs,
  λ design order parts ran.
      subst (λ (rows : List (List Bool)). Ran design c.args.streams.now 0 rows c.args.machine.now.state) (sym c.in_ok-rows.ensures.items) ran,
)

pub loop-cycle-preserved : goal.loop-cycle-preserved
loop-cycle-preserved c =
    let flat = c.args.machine.now.flat in
    let streams = c.args.streams.now in
    let n = c.loop-cycle.cycle in
    let rows = c.loop-cycle.rows.items in
    let kept = c.loop-cycle.invariant in
    let inputs = c.put_column.new.row in
    let outputs = c.cycle.new.outputs in
    let is_row : inputs ≡ stream_row streams n = c.put_column.ensures ∙ ap (λ (lists : List (List Bool)). bits_across lists n) c.as_slice.ensures in
    let cycle : IsCycle flat inputs c.loop-cycle.machine.state outputs c.cycle.new.self.state =
    subst (λ (f : Flat). IsCycle f inputs c.loop-cycle.machine.state outputs c.cycle.new.self.state) kept.0 c.cycle.ensures.cycle in
    let more : c.push.new.self.items ≡ rows ++ outputs ∷ [] = search rules in (
      c.cycle.ensures.flat ∙ kept.0,
      c.put_column.auto.row ∙ kept.1,
      c.cycle.auto.outputs ∙ kept.2,
      λ design order parts ran.
          subst (λ (rs : List (List Bool)). Ran design streams (n + 1) rs c.cycle.new.self.state) (sym more)
          (one_more design flat order streams n rows inputs c.loop-cycle.machine.state outputs c.cycle.new.self.state parts is_row cycle (kept.3 design order parts ran)),
    )

pub returns : goal.returns
returns c = λ design order parts ran.
    let all : c.loop-cycle.cycle ≡ c.args.streams.now.cycles = search rules in
    subst (λ (n : ℕ). Ran design c.args.streams.now n c.loop-cycle.rows.items c.loop-cycle.machine.state) all (c.loop-cycle.invariant.3 design order parts ran)
