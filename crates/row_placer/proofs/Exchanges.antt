-- Exchanges of neighbours, one pair after another.
use Rattle.std.proofs.Common.{◌≡◌, refl, sym, ◌∙◌, ap, subst, ℕ, ◌+◌, ◌<◌, List, [], ◌∷◌, ◌++◌, take, length, get_or, arith}
use Rattle.std.proofs.lemmas.List.{take_more}
use Rattle.std.proofs.lemmas.List.Elements.{All-push}
use Rattle.channel_router.specs.Routes.{swapped}
use Rattle.row_placer.specs.declared.roles.Tag.{Tag}
use Rattle.row_placer.specs.Told.{free_tag, Rearranged}
use Rattle.row_placer.specs.Settling.{came_from, AreOnLanes, Exchanges}

one_more : (swaps : List ℕ) (at lane : ℕ) → came_from swaps (swapped at lane) ≡ came_from (swaps ++ at ∷ []) lane
one_more [] at lane = refl
one_more (s ∷ swaps) at lane = ap (swapped s) (one_more swaps at lane)

-- the first exchanges and the next one
pub came_once_more : (swaps : List ℕ) (n lane : ℕ) → n < length swaps → came_from (take n swaps) (swapped (get_or swaps n 0) lane) ≡ came_from (take (n + 1) swaps) lane
came_once_more swaps n lane less = one_more (take n swaps) (get_or swaps n 0) lane ∙ ap (λ s. came_from s lane) (sym (take_more swaps n 0 less))

pub exchanged_once_more : (old tags new : List Tag) (swaps : List ℕ) (n : ℕ) → n < length swaps → get_or swaps n 0 + 1 < length tags → Exchanges old (take n swaps) tags
    → length new ≡ length tags → Rearranged tags new (swapped (get_or swaps n 0)) → Exchanges old (take (n + 1) swaps) new
exchanged_once_more old tags new swaps n less on first long moved = record {
  within = subst (AreOnLanes (length old)) (sym (take_more swaps n 0 less))
      (All-push (λ (at : ℕ). at + 1 < length old) (take n swaps) (get_or swaps n 0) first.within (omega (arith, on, first.long)));
  long = long ∙ first.long;
  moved = λ lane. moved lane ∙ first.moved (swapped (get_or swaps n 0) lane) ∙ ap (λ i. get_or old i free_tag) (came_once_more swaps n lane less);
}
