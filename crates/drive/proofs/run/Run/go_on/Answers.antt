use Rattle.std.proofs.Common.{refl, sym, ap, ◌∙◌}
use Rattle.std.specs.Option.{option_map}
use Rattle.drive.specs.Runs.{evolution, injection_laid}
use Rattle.drive.proofs.Turned.{laid_at}
use Rattle.drive.proofs.run.Run.go_on.Goals as goal

pub loop-self-init : goal.loop-self-init
loop-self-init c = record { run = c.requires.run; planes = refl; misses = refl; order = c.requires.order }

pub loop-self-preserved : goal.loop-self-preserved
loop-self-preserved c =
    let next = c.go_further.ensures in
    let order = next.order in
    let further = c.loop-self-test.true in
    record {
      run = next.run;
      planes = next.planes ∙ c.loop-self.invariant.planes;
      misses = next.misses ∙ c.loop-self.invariant.misses;
      order = order;
    }

pub returns-else-not-self-clause-shows : goal.returns-else-not-self-clause-shows
returns-else-not-self-clause-shows c =
    let run = c.loop-self.self in
    laid_at run.orientation (evolution run.bands) run.generation c.args.generation (sym (c.loop-self.invariant.run.still c.if-not-self.false c.args.generation c.loop-self.invariant.order))

pub returns-else-not-self-clause-missed : goal.returns-else-not-self-clause-missed
returns-else-not-self-clause-missed c =
    let run = c.loop-self.self in
    ap (option_map (injection_laid run.orientation)) (sym (c.loop-self.invariant.run.no_more c.if-not-self.false c.args.generation c.loop-self.invariant.order))
