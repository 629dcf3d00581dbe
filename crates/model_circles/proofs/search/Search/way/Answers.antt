use Rattle.std.proofs.Common.{◌≡◌, ◌∙◌, sym, ap, subst, ◌<◌, ◌≤◌, length, get_or, reverse, ◌∷◌, arith}
use Rattle.std.proofs.lemmas.List.{get_or_default}
use Rattle.model_circles.specs.Ways.{IsWayBack}
use Rattle.model_circles.proofs.Trails.{IsTrail, longer, whole, reverse_push}
use Rattle.model_circles.proofs.search.Search.way.Goals as goal

pub loop-at-preserved : goal.loop-at-preserved
loop-at-preserved c =
    let s = c.args.self.now in
    let i = c.loop-at.invariant in
    let up : c.loop-at.at ≤ c.args.place = i.up_to in
    let fit : length s.parents.items ≡ length s.found.items = c.requires.search.parents_fit in
    let is : c.index-at.result.now ≡ get_or s.parents.items c.loop-at.at 0 = c.index-at.ensures ∙ get_or_default s.parents.items c.loop-at.at _ 0 (omega arith) in
    let less : c.index-at.result.now < c.loop-at.at = subst (λ v. v < c.loop-at.at) (sym is) (c.requires.search.before c.loop-at.at (omega arith) (omega arith)).0 in
    let here : c.index.result.now ≡ get_or s.found.items c.index-at.result.now 0 = c.index.ensures ∙ get_or_default s.found.items c.index-at.result.now _ 0 (omega arith) in
    subst (λ v. IsTrail c.args.models.now s.found.items c.args.place c.index-at.result.now v) (sym (ap reverse c.in_ok-push.ensures.items ∙ reverse_push c.loop-at.way.items c.index.result.now ∙ ap (λ v. v ∷ reverse c.loop-at.way.items) here))
    (longer c.args.models.now c.args.first s.places.items s.found.items s.parents.items c.args.place c.loop-at.at c.index-at.result.now (reverse c.loop-at.way.items) c.requires.search c.requires.place (omega arith) is i)

pub returns : goal.returns
returns c =
    let s = c.args.self.now in
    subst (λ v. IsWayBack c.args.models.now c.args.first (get_or s.found.items c.args.place 0) v) (sym c.reverse.ensures.items)
    (whole c.args.models.now c.args.first s.places.items s.found.items s.parents.items c.args.place c.loop-at.at (reverse c.loop-at.way.items) c.requires.search c.requires.place (omega arith) c.loop-at.invariant)
