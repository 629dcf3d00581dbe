-- The first miss in a pattern that lies turned in its bands.
use Rattle.std.proofs.Common.{pos, ℕ, zero, suc, ◌≡◌, refl, ap, ◌∙◌, Bool, true, false, cond, Some, List, [], ◌∷◌, map, filter}
use Rattle.std.specs.Prelude.{nat_le, not}
use Rattle.std.specs.List.{find}
use Rattle.std.specs.Option.{option_map}
use Rattle.std.proofs.Math.Path.{fun_ext}
use Rattle.ww_rule.specs.declared.pattern.Injection.{Injection}
use Rattle.ww_rule.specs.Injections.{due_of_list, before_injections}
use Rattle.ww_rule.specs.Wireworld.{Plane, next_plane, driven}
use Rattle.ww_rule.specs.Turns.{turned, injection_turned}
use Rattle.ww_rule.proofs.Turns.{next_plane_turned}
use Rattle.drive.specs.Misses.{is_conductor, misses, first_of_misses}
use Rattle.drive.proofs.FirstMisses.{up_to}
use Rattle.drive.proofs.Turned.{turned_back}

filter_turned : (g : ℕ) (is : List Injection) → filter (up_to g) (map injection_turned is) ≡ map injection_turned (filter (up_to g) is)
filter_turned g [] = refl
filter_turned g (i ∷ is) = go (nat_le i.generation g) (filter_turned g is)
  where
    go : (t : Bool) → filter (up_to g) (map injection_turned is) ≡ map injection_turned (filter (up_to g) is)
        → cond t (injection_turned i ∷ filter (up_to g) (map injection_turned is)) (filter (up_to g) (map injection_turned is)) ≡ map injection_turned (cond t (i ∷ filter (up_to g) is) (filter (up_to g) is))
    go true e = ap (λ (is : List Injection). injection_turned i ∷ is) e
    go false e = e

find_turned : (p : Injection → Bool) (is : List Injection) → option_map injection_turned (find p (map injection_turned is)) ≡ find (λ i. p (injection_turned i)) is
find_turned p [] = refl
find_turned p (i ∷ is) = go (p (injection_turned i)) (find_turned p is)
  where
    go : (t : Bool) → option_map injection_turned (find p (map injection_turned is)) ≡ find (λ i. p (injection_turned i)) is
        → option_map injection_turned (cond t (Some (injection_turned i)) (find p (map injection_turned is))) ≡ cond t (Some i) (find (λ i. p (injection_turned i)) is)
    go true e = refl
    go false e = e

module _ (injections : List Injection) (p q : Plane) (is : q ≡ turned p) where
  before_turned : (g : ℕ) → before_injections (due_of_list (map injection_turned injections)) q g ≡ turned (before_injections (due_of_list injections) p g)
  before_turned zero = is
  before_turned (suc g) =
      ap (λ (r : Plane). next_plane (turned r)) (ap (λ (planes : ℕ → Plane). planes g) (turned_back injections p q is))
      ∙ next_plane_turned (driven (due_of_list injections) p g)

  -- the first miss is the one of the pattern, turned
  pub first_turned : (g : ℕ) → option_map injection_turned (first_of_misses (map injection_turned injections) (due_of_list (map injection_turned injections)) q g) ≡ first_of_misses injections (due_of_list injections) p g
  first_turned g =
      let turned_misses = misses (due_of_list (map injection_turned injections)) q in
      ap (λ (is : List Injection). option_map injection_turned (find turned_misses is)) (filter_turned g injections)
      ∙ find_turned turned_misses (filter (up_to g) injections)
      ∙ ap (λ (test : Injection → Bool). find test (filter (up_to g) injections))
      (fun_ext (λ i. ap (λ (plane : Plane). not (is_conductor (plane (pos i.y) (pos i.x)))) (before_turned i.generation)))
