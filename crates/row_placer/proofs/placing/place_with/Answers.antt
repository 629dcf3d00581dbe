use Rattle.std.proofs.Common.{sym, subst, length, arith}
use Rattle.std.proofs.lemmas.Result.{IfOk-weaker}
use Rattle.row_placer.specs.declared.placing.Placed.{Placed}
use Rattle.row_placer.specs.Placed.{IsPrepared, IsPlacedOn, IsPlacedWithin}
use Rattle.row_placer.proofs.Finish.{within_few}
use Rattle.row_placer.proofs.Sound.{sound}
use Rattle.row_placer.proofs.placing.place_with.Goals as goal

pub prepare-requires : goal.prepare-requires
prepare-requires c = record { loops = c.requires.loops; spare = c.requires.spare; sound = sound c.args.list.now; small = c.requires.small }

pub place_job-requires : goal.place_job-requires
place_job-requires c =
    let few = c.in_ok-job.ensures.few in
    record {
      loops = c.requires.loops;
      small = c.requires.small;
      few = omega (arith, few.most, c.requires.small, c.requires.spare);
      prepared = subst (λ left. IsPrepared c.args.list.now c.in_ok-job.field-0.job left c.in_ok-job.field-0.homes.items) (sym c.as_mut_slice.ensures.value) c.in_ok-job.ensures.prepared;
    }

pub returns : goal.returns
returns c =
    let list = c.args.list.now in
    let lanes = length c.in_ok-job.field-0.job.start in
    IfOk-weaker c.place_job.result (λ (placed : Placed). IsPlacedOn list lanes placed.program) (λ (placed : Placed). IsPlacedWithin list c.args.spare placed.program)
    (λ (placed : Placed). within_few list lanes c.args.spare placed.program c.in_ok-job.ensures.few) c.place_job.ensures
