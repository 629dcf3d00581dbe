use Rattle.std.proofs.Common.{◌≡◌, ◌∙◌, subst, inl, inr, get_or, arith}
use Rattle.std.proofs.lemmas.Bool.{cases_lt}
use Rattle.std.proofs.lemmas.List.{get_or_default}
use Rattle.band_core.specs.Together.{HasNoneDueFor}
use Rattle.band_core.proofs.MovedOn.{calm_for}
use Rattle.band_core.proofs.together.calm_generations.Goals as goal

pub loop-band-preserved : goal.loop-band-preserved
loop-band-preserved c =
    let bands = c.args.bands.now in
    let i = c.loop-band.band-index in
    let calm = c.calm_generations-calm.result in
    let less = c.calm_generations-calm.ensures.few in
    let few = c.loop-band.invariant.few in
    let own : HasNoneDueFor calm c.band-item.result = c.calm_generations-calm.ensures.later in
    record {
      few = omega (arith, less, few);
      calm = λ b d lt inside.
          elim (cases_lt b i) [
            | inl l ↦ calm_for c.loop-band.calm calm (get_or bands b d) less (c.loop-band.invariant.calm b d l inside)
            | inr ge ↦
                let q : i ≡ b = omega (arith, lt, ge) in
                subst (λ k. HasNoneDueFor calm (get_or bands k d)) q (subst (HasNoneDueFor calm) (c.band-item.is ∙ get_or_default bands i c.band-item.result d c.loop-band-test.true) own)
          ];
    }
