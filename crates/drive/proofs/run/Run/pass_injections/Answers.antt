use Rattle.std.proofs.Common.{refl, sym, ap, ◌∙◌}
use Rattle.std.specs.Option.{option_map}
use Rattle.ww_rule.specs.Grid.{plane_of}
use Rattle.ww_rule.specs.Injections.{due_of_list}
use Rattle.drive.specs.Runs.{injection_laid}
use Rattle.drive.proofs.FirstMisses.{first_stays}
use Rattle.drive.proofs.run.Run.pass_injections.Goals as goal

pub loop-self-init : goal.loop-self-init
loop-self-init c = record { run = c.requires.run; planes = refl; misses = refl; order = c.requires.order }

pub loop-self-preserved : goal.loop-self-preserved
loop-self-preserved c =
    let next = c.go_further.ensures in
    let order = next.order in
    let further = c.loop-self-test.true in
    record {
      run = next.run;
      planes = next.planes ∙ c.loop-self.invariant.planes;
      misses = next.misses ∙ c.loop-self.invariant.misses;
      order = order;
    }

pub returns-else-not-is_past-clause-missed : goal.returns-else-not-is_past-clause-missed
returns-else-not-is_past-clause-missed c =
    let run = c.loop-self.self in
    let injections = run.bands.injections in
    let past = c.is_past.ensures c.if-not-is_past.false in
    ap (option_map (injection_laid run.orientation))
    (sym (first_stays (due_of_list injections) (plane_of run.bands.grid.rows) run.generation c.args.generation injections c.loop-self.invariant.order past))
