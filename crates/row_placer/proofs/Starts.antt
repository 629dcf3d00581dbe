-- Tags that are put on their homes, one after another.
use Rattle.std.proofs.Common.{◌≡◌, ◌≢◌, sym, ◌∙◌, ap, subst, ℕ, suc, ◌+◌, ◌<◌, ◌≤◌, ⊎_elim, cond, List, length, get_or, set, arith}
use Rattle.std.specs.Prelude.{AllPairs, All, ◌==◌}
use Rattle.std.proofs.lemmas.Bool.{cases_eq, cases_lt, ne_eqb}
use Rattle.std.proofs.lemmas.List.{length-set, get_or-set_same, get_or-set_other}
use Rattle.lists.proofs.Numbers.{at_most_one}
use Rattle.row_placer.specs.declared.roles.Role.TheVariants.{Free, Kept}
use Rattle.row_placer.specs.declared.roles.Tag.{Tag}
use Rattle.row_placer.specs.Told.{role_code, tag, free_tag, count, is_tag}
use Rattle.row_placer.specs.Uses.{idle, unused}
use Rattle.row_placer.proofs.Steps.{counts_set}

-- one value more
pub idle_more : (left : List ℕ) (n : ℕ) → idle left (n + 1) ≡ idle left n + unused (get_or left n 0)
idle_more left n = let e : n + 1 ≡ suc n = omega arith in ap (idle left) e

pub unused_small : (n : ℕ) (left : List ℕ) → unused (get_or left n 0) ≤ 1
unused_small n left = at_most_one (get_or left n 0 == 0)

-- the first n values are on their homes
pub record StartsWith (homes left : List ℕ) (lanes n : ℕ) (start : List Tag) : Type 0 where
  pub long : length start ≡ lanes
  pub home : (lane : ℕ) → 0 < role_code (get_or start lane free_tag).role → (v : ℕ) × (v < n) × (get_or homes v 0 ≡ lane) × (get_or start lane free_tag ≡ tag v Kept)
  pub kept : (v : ℕ) → v < n → 1 ≤ get_or left v 0 → get_or start (get_or homes v 0) free_tag ≡ tag v Kept
  pub free : lanes + idle left n ≤ count 0 Free start + n
  pub within : n ≤ length homes

-- a value that is not used
pub start_skip : (homes left : List ℕ) (lanes n : ℕ) (start : List Tag) → StartsWith homes left lanes n start → n < length homes → get_or left n 0 ≡ 0 → StartsWith homes left lanes (n + 1) start
start_skip homes left lanes n start s within none = record {
  long = s.long;
  home = λ lane some. (let h = s.home lane some in (h.0, omega (arith, h.1), h.2, h.3));
  kept = λ v below used. ⊎_elim
      (λ same. let z = no_use v same in absurd (omega (arith, z, used)))
      (λ other. s.kept v (omega (arith, below, other)) used)
      (cases_eq v n);
  free = (let more = idle_more left n in let small = unused_small n left in omega (arith, s.free, more, small));
  within = omega (arith, within);
}
  where
    no_use : (v : ℕ) → v ≡ n → get_or left v 0 ≡ 0
    no_use v e = ap (λ k. get_or left k 0) e ∙ none

pub start_put : (homes left : List ℕ) (lanes n : ℕ) (start : List Tag) → AllPairs (λ a b. a ≢ b) homes → All (λ lane. lane < lanes) homes → StartsWith homes left lanes n start → n < length homes → 0 < get_or left n 0
    → StartsWith homes left lanes (n + 1) (set start (get_or homes n 0) (tag n Kept))
start_put homes left lanes n start apart low s within used_here = record {
  long = length-set start at (tag n Kept) ∙ s.long;
  home = λ lane some. ⊎_elim
      (λ same. (n, omega arith, sym same, ap (λ l. get_or (set start at (tag n Kept)) l free_tag) same ∙ get_or-set_same start at (tag n Kept) free_tag here))
      (λ other. (let e = get_or-set_other start at lane (tag n Kept) free_tag other in
      let h = s.home lane (subst (λ (t : Tag). 0 < role_code t.role) e some) in (h.0, omega (arith, h.1), h.2, e ∙ h.3)))
      (cases_eq lane at);
  kept = λ v below used. ⊎_elim
      (λ old. get_or-set_other start at (get_or homes v 0) (tag n Kept) free_tag (apart v n 0 old within) ∙ s.kept v old used)
      (λ new. (let same : v ≡ n = omega (arith, new, below) in
      ap (λ k. get_or (set start at (tag n Kept)) (get_or homes k 0) free_tag) same ∙ get_or-set_same start at (tag n Kept) free_tag here ∙ ap (λ k. tag k Kept) (sym same)))
      (cases_lt v n);
  free = (let e = counts_set (is_tag 0 Free) start at (tag n Kept) here in let most = at_most_one (is_tag 0 Free (get_or start at free_tag)) in let more = idle_more left n in
      let none : unused (get_or left n 0) ≡ 0 = ap (λ b. cond {A = ℕ} b 1 0) (ne_eqb (get_or left n 0) 0 (λ z. absurd (omega (arith, z, used_here)))) in omega (arith, e, most, more, none, s.free));
  within = omega (arith, within);
}
  where
    at : ℕ
    at = get_or homes n 0

    here : get_or homes n 0 < length start
    here = let b = low n 0 within in omega (arith, b, s.long)
