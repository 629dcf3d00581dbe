use Rattle.std.proofs.Common.{sym, subst}
use Rattle.row_placer.specs.declared.job.Job.{Job}
use Rattle.row_placer.specs.Ready.{IsRunnable}
use Rattle.row_placer.specs.Steps.{PlacesJob}
use Rattle.row_placer.proofs.lanes.Lanes.run.Goals as goal

pub place_all-requires : goal.place_all-requires
place_all-requires c =
    let start = c.in_ok-lanes.ensures in
    record {
      start = start.begun;
      ready = subst (λ (j : Job). IsRunnable j c.args.loops c.args.left.now) (sym start.job) c.requires;
    }

pub returns-in-Ok : goal.returns-in-Ok
returns-in-Ok c = subst (λ (j : Job). PlacesJob j c.args.loops c.place_all.new.self) c.in_ok-lanes.ensures.job c.in-Ok.ensures
