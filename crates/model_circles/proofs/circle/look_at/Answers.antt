use Rattle.std.proofs.Common.{true≢false, ◌≡◌, ◌∙◌, sym, ap, subst, slice_get, MatchOption, List, ℕ, Vec, Global}
use Rattle.netlist_core.specs.declared.model.Model.{Model}
use Rattle.model_index.specs.Numbers.{subckts_of}
use Rattle.model_index.proofs.Naming.{lines_at}
use Rattle.model_circles.specs.Ways.{IsWayBack, LeadsBackBy}
use Rattle.model_circles.proofs.Ranked.{skipped, improved}
use Rattle.model_circles.proofs.circle.look_at.Goals as goal

pub returns-then-ranks-inner : goal.returns-then-ranks-inner
returns-then-ranks-inner c =
    skipped c.args.models.now c.args.ranks.now c.requires.ranks c.args.n c.args.k c.in-Some.inner c.args.best c.requires.model (sym c.in-Some.ensures.number) c.if-ranks-inner.true

pub returns-in-Some-2 : goal.returns-in-Some-2
returns-in-Some-2 c =
    let lines : subckts_of c.args.models.now c.args.n ≡ c.index-models-n.result.subckts = lines_at c.args.models.now c.args.n c.index-models-n.result c.requires.model c.index-models-n.is in
    improved c.args.models.now c.args.n c.args.k c.in-Some.inner c.get.result.now c.of.result c.args.best (ap (λ v. slice_get v c.args.k) lines ∙ ap (λ (m : Model). slice_get m.subckts c.args.k) c.index-models-n.is ∙ c.get.ensures) (λ h. true≢false (sym (c.if-is_no_later.ensures.1 h))) (sym c.in-Some.ensures.number)
    (subst (λ v. IsWayBack c.args.models.now c.in-Some.inner c.args.n v) (sym c.of.ensures)
    (subst (λ o. MatchOption o ((numbers : List ℕ) → ¬ LeadsBackBy c.args.models.now c.in-Some.inner numbers c.args.n) (λ (way : Vec ℕ Global). IsWayBack c.args.models.now c.in-Some.inner c.args.n way.items)) c.in-Some-2.is c.in_ok-way_between.ensures))
