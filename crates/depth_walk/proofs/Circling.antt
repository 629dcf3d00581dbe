-- A path of the walk that comes back to an open number is a circle.
use Rattle.std.proofs.Common.{◌≡◌, ◌≢◌, sym, ap, subst, ◌∙◌, ℕ, ◌+◌, ◌-◌, ◌<◌, List, length, get_or, drop, arith}
use Rattle.std.specs.Prelude.{AllPairs}
use Rattle.std.proofs.lemmas.List.{get_or-drop, length-drop, get_or_default}
use Rattle.depth_walk.specs.Links.{Links, LeadsTo}
use Rattle.depth_walk.specs.Order.{IsCircleOf}
use Rattle.depth_walk.specs.declared.walk.Mark.{Mark}
use Rattle.depth_walk.specs.declared.walk.Mark.TheVariants.{Open}
use Rattle.depth_walk.specs.declared.walk.Met.TheVariants.{Again}
use Rattle.depth_walk.specs.Walk.{mark_of, IsWalk, IsMet, IsTop}
use Rattle.depth_walk.proofs.Orders.{open_within}

-- what the number on top meets again is led back to
pub met_again : (links : Links) (marks : List Mark) (next stack order : List ℕ) (n from k place : ℕ) → IsWalk links marks next stack order → IsTop stack n → IsMet links marks n from (Again k place) → IsCircleOf links (drop place stack)
met_again links marks next stack order n from k place w top (b, leads, is_open) = record {
  some = omega (arith, long, below, some);
  numbers = λ i d l. (let less : place + i < length stack = omega (arith, long, l) in subst (λ v. v < length links) (sym (get_or_default (drop place stack) i d 0 l ∙ at i)) (open_within links marks (get_or stack (place + i) 0) (place + i) w.marks_fit (w.open_at (place + i) less)));
  once = once;
  steps = λ i l. (get_or next (get_or stack (place + i) 0) 0, step i l);
  closes = (k, subst (λ v. LeadsTo links v k (get_or (drop place stack) 0 0)) (sym last) (subst (LeadsTo links n k) (sym first) leads));
}
  where
    some : 0 < length stack
    some = top.0

    below : place < length stack
    below = (w.at_open b place is_open).0

    long : length (drop place stack) ≡ length stack - place
    long = length-drop place stack

    at : (i : ℕ) → get_or (drop place stack) i 0 ≡ get_or stack (place + i) 0
    at i = get_or-drop place stack i 0

    first : get_or (drop place stack) 0 0 ≡ b
    first = let e : place + 0 ≡ place = omega arith in at 0 ∙ ap (λ v. get_or stack v 0) e ∙ (w.at_open b place is_open).1

    last : get_or (drop place stack) (length (drop place stack) - 1) 0 ≡ n
    last = let e : place + (length (drop place stack) - 1) ≡ length stack - 1 = omega (arith, long, below, some) in at (length (drop place stack) - 1) ∙ ap (λ v. get_or stack v 0) e ∙ top.1

    step : (i : ℕ) → i + 1 < length (drop place stack) → LeadsTo links (get_or (drop place stack) i 0) (get_or next (get_or stack (place + i) 0) 0) (get_or (drop place stack) (i + 1) 0)
    step i l =
        let p : LeadsTo links (get_or stack (place + i) 0) (get_or next (get_or stack (place + i) 0) 0) (get_or stack (place + i + 1) 0) = w.path (place + i) (omega (arith, long, l)) in
        let e : place + i + 1 ≡ place + (i + 1) = omega arith in
        subst (λ v. LeadsTo links v (get_or next (get_or stack (place + i) 0) 0) (get_or (drop place stack) (i + 1) 0)) (sym (at i))
        (subst (LeadsTo links (get_or stack (place + i) 0) (get_or next (get_or stack (place + i) 0) 0)) (sym (at (i + 1)))
        (subst (λ v. LeadsTo links (get_or stack (place + i) 0) (get_or next (get_or stack (place + i) 0) 0) (get_or stack v 0)) e p))

    once : AllPairs (λ a b. a ≢ b) (drop place stack)
    once i j d less l same =
        let i_in : place + i < length stack = omega (arith, long, less, l) in
        let j_in : place + j < length stack = omega (arith, long, l) in
        let e : get_or stack (place + i) 0 ≡ get_or stack (place + j) 0 =
        sym (at i) ∙ get_or_default (drop place stack) i 0 d (omega (arith, less, l)) ∙ same ∙ get_or_default (drop place stack) j d 0 l ∙ at j in
        let o : Open (place + i) ≡ Open (place + j) = sym (w.open_at (place + i) i_in) ∙ ap (mark_of marks) e ∙ w.open_at (place + j) j_in in
        let p : place + i ≡ place + j = cc in
        absurd (omega arith)

pub again_within : (links : Links) (marks : List Mark) (next stack order : List ℕ) (n from k place : ℕ) → IsWalk links marks next stack order → IsMet links marks n from (Again k place) → place < length stack
again_within links marks next stack order n from k place w (b, leads, is_open) = (w.at_open b place is_open).0
