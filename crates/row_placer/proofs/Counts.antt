-- Uses that are counted from the last to the first.
use Rattle.std.proofs.Common.{◌≡◌, refl, sym, ◌∙◌, ap, ap₂, ℕ, suc, ◌+◌, ◌-◌, ◌*◌, ◌<◌, ◌≤◌, ⊎_elim, cond, Bool, true, false, List, [], ◌∷◌, ◌++◌, length, get_or, set, drop, arith}
use Rattle.std.specs.Prelude.{◌==◌}
use Rattle.std.proofs.lemmas.Bool.{cases_eq}
use Rattle.std.proofs.lemmas.List.{length-set, get_or-set_same, get_or-set_other, length-append, length-drop}
use Rattle.std.proofs.lemmas.List.Sums.{count_by-le-length}
use Rattle.std.proofs.Math.Seq.{drop-cons}
use Rattle.row_placer.specs.declared.job.NumberedCell.{NumberedCell}
use Rattle.row_placer.specs.Uses.{times, need, owed, unused, uses_of, AreCounted}
use Rattle.row_placer.proofs.Uses.{times_head, times_other}

pub counted_more : (left left' us : List ℕ) (v : ℕ) → v < length left → left' ≡ set left v (get_or left v 0 + 1) → AreCounted left us → AreCounted left' (v ∷ us)
counted_more left left' us v within is counted w below =
    ap (λ t. get_or t w 0) is
    ∙ ⊎_elim
    (λ same. ap (λ k. get_or (set left v (get_or left v 0 + 1)) k 0) same ∙ get_or-set_same left v (get_or left v 0 + 1) 0 within
    ∙ (let old = counted v within in let head = times_head v v us refl in let e : get_or left v 0 + 1 ≡ times v (v ∷ us) = omega (arith, old, head) in e) ∙ ap (λ k. times k (v ∷ us)) (sym same))
    (λ other. get_or-set_other left v w (get_or left v 0 + 1) 0 other ∙ counted w (omega (arith, below, length-set left v (get_or left v 0 + 1), ap length is))
    ∙ (let h = times_other v w us (λ q. other (sym q)) in let e : times w us ≡ times w (v ∷ us) = omega (arith, h) in e))
    (cases_eq w v)

pub needed : (left us : List ℕ) (v r : ℕ) → v < length left → AreCounted left us → r ≡ cond (get_or left v 0 == 0) 0 1 → r ≡ need v us
needed left us v r within counted e = e ∙ ap (λ n. cond {A = ℕ} (n == 0) 0 1) (counted v within)

pub front : {X : Type 0} (xs : List X) (i n : ℕ) (d : X) → i + 1 ≡ n → n ≤ length xs → drop i xs ≡ get_or xs i d ∷ drop n xs
front xs i n d is within = drop-cons xs i d (omega (arith, is, within)) ∙ (let e : suc i ≡ n = omega (arith, is) in ap (λ k. get_or xs i d ∷ drop k xs) e)

pub need_small : (v : ℕ) (us : List ℕ) → need v us ≤ 1
need_small v us = by (times v us == 0)
  where
    by : (b : Bool) → cond {A = ℕ} b 0 1 ≤ 1
    by true = omega arith
    by false = omega arith

pub length-uses : (gates : List NumberedCell) → length (uses_of gates) ≡ 2 * length gates
length-uses [] = refl
length-uses (q ∷ qs) = let e = length-uses qs in omega (arith, e)

pub few_uses : (left us : List ℕ) (v : ℕ) → v < length left → AreCounted left us → get_or left v 0 ≤ length us
few_uses left us v within counted =
    let e = counted v within in
    let most = count_by-le-length (λ u. u == v) us in
    omega (arith, e, most)

pub length-pending : (gates : List NumberedCell) (ports : List ℕ) (n : ℕ) → n ≤ length gates → length (uses_of (drop n gates) ++ ports) + 2 * n ≡ 2 * length gates + length ports
length-pending gates ports n within = omega (arith, within, length-append (uses_of (drop n gates)) ports, length-uses (drop n gates), length-drop n gates)

pub owed_more : (ports : List ℕ) (gates : List NumberedCell) (base i n free a b s freed : ℕ) (d : NumberedCell) → i + 1 ≡ n → n ≤ length gates → free ≡ owed ports (base + n) (drop n gates) → s ≡ free - freed
    → freed ≡ 1 + unused (times (base + i) (uses_of (drop n gates) ++ ports))
    → a ≡ need (get_or gates i d).first ((get_or gates i d).second ∷ (uses_of (drop n gates) ++ ports)) → b ≡ need (get_or gates i d).second (uses_of (drop n gates) ++ ports)
    → a + (b + s) ≡ owed ports (base + i) (drop i gates)
owed_more ports gates base i n free a b s freed d is within e se ef ea eb =
    let next : base + n ≡ (base + i) + 1 = omega (arith, is) in
    ap₂ (λ x y. x + y) ea (ap₂ (λ x y. x + y) eb (se ∙ ap₂ (λ x y. x - y) (e ∙ ap (λ v. owed ports v (drop n gates)) next) ef)) ∙ ap (owed ports (base + i)) (sym (front gates i n d is within))
