-- Marks of lanes, one after another.
use Rattle.std.proofs.Common.{◌≡◌, sym, ◌∙◌, subst, ⊎_elim, ℕ, ◌+◌, ◌<◌, Bool, true, false, ◌==◌, List, length, get_or, set, take, eq-eqb, get_or-set_other, get_or-set_same, arith}
use Rattle.std.specs.Prelude.{◌≢◌, AllPairs}
use Rattle.std.specs.List.{list_any}
use Rattle.std.proofs.lemmas.Bool.{cases_eq, eqb-true}
use Rattle.std.proofs.lemmas.Bool.Decides.{nat_tests}
use Rattle.std.proofs.lemmas.Grind.{get_or_default_zero}
use Rattle.std.proofs.lemmas.List.{get_or-take, length-set, length-take, take_more}
use Rattle.std.proofs.lemmas.List.Folds.{list_any_more, list_any_at, Any-from_list_any}
use Rattle.std.proofs.lemmas.List.Quantifiers.{all_pairs_push}

-- so many marks, each of which says whether its lane is one of these
pub record AreMarks (limit : ℕ) (lanes : List ℕ) (marks : List Bool) : Type 0 where
  pub full : length marks ≡ limit
  pub each : (lane : ℕ) → get_or marks lane false ≡ list_any (λ out. out == lane) lanes

-- one lane more
pub marks_more : (limit : ℕ) (lanes : List ℕ) (i lane : ℕ) (marks : List Bool) → i < length lanes → get_or lanes i 0 ≡ lane → lane < limit
    → AreMarks limit (take i lanes) marks → AreMarks limit (take (i + 1) lanes) (set marks lane true)
marks_more limit lanes i lane marks within is low m = record {
  full = length-set marks lane true ∙ m.full;
  each = λ k.
      (let more = list_any_more (λ out. out == k) lanes i 0 within in
      ⊎_elim
      (λ same. (let on : (get_or lanes i 0 == k) ≡ true = grind (arith, nat_tests) in
      let fits : lane < length marks = omega (arith, low, m.full) in
      let lit : get_or (set marks lane true) lane false ≡ true = get_or-set_same marks lane true false fits in
      grind (arith, nat_tests)))
      (λ differ. (let off : (get_or lanes i 0 == k) ≡ false = grind (arith, nat_tests) in
      let kept : get_or (set marks lane true) k false ≡ get_or marks k false = get_or-set_other marks lane k true false differ in
      grind (arith, nat_tests, m.each k)))
      (cases_eq k lane));
}

-- the same of lanes of which none stands twice
pub record AreMarkedOnce (limit : ℕ) (lanes : List ℕ) (bits : List Bool) : Type 0 where
  pub marks : AreMarks limit lanes bits
  pub distinct : AllPairs (λ a b. a ≢ b) lanes

-- a lane that had no mark
pub marked_once : (limit : ℕ) (lanes : List ℕ) (i lane : ℕ) (marks : List Bool) → i < length lanes → get_or lanes i 0 ≡ lane → lane < limit
    → get_or marks lane false ≡ false → AreMarkedOnce limit (take i lanes) marks → AreMarkedOnce limit (take (i + 1) lanes) (set marks lane true)
marked_once limit lanes i lane marks within is low fresh m = record {
  marks = marks_more limit lanes i lane marks within is low m.marks;
  distinct = subst (λ (ls : List ℕ). AllPairs (λ a b. a ≢ b) ls) (sym (take_more lanes i 0 within))
      (all_pairs_push (λ a b. a ≢ b) (take i lanes) (get_or lanes i 0) m.distinct
      (λ k d lt same.
      (let none : list_any (λ out. out == lane) (take i lanes) ≡ false = sym (m.marks.each lane) ∙ fresh in
      let some = list_any_at (λ out. out == lane) (take i lanes) k d lt (eq-eqb _ _ (same ∙ is)) in cc)));
}

-- a lane that had its mark
pub marked_twice : (limit : ℕ) (lanes : List ℕ) (i lane : ℕ) (marks : List Bool) → i < length lanes → get_or lanes i 0 ≡ lane
    → get_or marks lane false ≡ true → AreMarks limit (take i lanes) marks → AllPairs (λ a b. a ≢ b) lanes → ⊥
marked_twice limit lanes i lane marks within is lit m all =
    let found = Any-from_list_any (λ out. out == lane) (take i lanes) (sym (m.each lane) ∙ lit) in
    let earlier : found.0 < i = omega (arith, found.2, length-take i lanes) in
    let value : get_or lanes found.0 found.1 ≡ lane = sym (get_or-take i lanes found.0 found.1 earlier) ∙ found.3 ∙ eqb-true _ _ found.4 in
    all found.0 i found.1 earlier within (value ∙ sym (get_or_default_zero lanes i found.1 within ∙ is))
