-- Uses of values, one after another.
use Rattle.std.proofs.Common.{◌≡◌, ◌≢◌, refl, sym, ◌∙◌, ap, ap₂, ℕ, ◌+◌, ◌-◌, ◌<◌, ◌≤◌, Bool, true, false, cond, ⊎_elim, List, ◌∷◌, length, get_or, set, arith}
use Rattle.std.specs.Prelude.{◌==◌, ◌&&◌}
use Rattle.std.proofs.lemmas.Bool.{cases_eq, eqb-true, eq-eqb as eq_yes}
use Rattle.std.proofs.lemmas.List.{length-set, get_or-set_same, get_or-set_other}
use Rattle.std.proofs.lemmas.List.Sums.{sum_by-cons}
use Rattle.row_placer.specs.declared.roles.Role.{Role}
use Rattle.row_placer.specs.declared.roles.Role.TheVariants.{Free, Kept, First, Second}
use Rattle.row_placer.specs.declared.roles.Tag.{Tag}
use Rattle.row_placer.specs.Told.{role_code, count, is_tag, tag, free_tag, Exchanged, BothExchanged}
use Rattle.row_placer.specs.Uses.{times, need, unused}
use Rattle.row_placer.specs.Ready.{Ready, IsUsable}
use Rattle.std.proofs.lemmas.Bool.{ne_eqb as eq_no}

pub times_head : (v w : ℕ) (us : List ℕ) → v ≡ w → times w (v ∷ us) ≡ 1 + times w us
times_head v w us e = sum_by-cons (λ u. cond (u == w) 1 0) v us ∙ ap (λ b. cond {A = ℕ} b 1 0 + times w us) (eq_yes v w e)

pub times_other : (v w : ℕ) (us : List ℕ) → v ≢ w → times w (v ∷ us) ≡ 0 + times w us
times_other v w us ne = sum_by-cons (λ u. cond (u == w) 1 0) v us ∙ ap (λ b. cond {A = ℕ} b 1 0 + times w us) (eq_no v w ne)

more_times : (v w : ℕ) (us : List ℕ) → times w us ≤ times w (v ∷ us)
more_times v w us = ⊎_elim (λ e. let h = times_head v w us e in omega (arith, h)) (λ ne. let h = times_other v w us ne in omega (arith, h)) (cases_eq v w)

pub first_used : 2 ≤ role_code First
first_used = let e : 2 ≤ 2 = omega arith in e

pub second_used : 2 ≤ role_code Second
second_used = let e : 2 ≤ 3 = omega arith in e

-- whether a tag is counted
other_role : (w : ℕ) (r : Role) (v : ℕ) (role : Role) → role_code role ≢ role_code r → cond {A = ℕ} (is_tag w r (tag v role)) 1 0 ≡ 0
other_role w r v role ne = ap (λ b. cond {A = ℕ} (b && (v == w)) 1 0) (eq_no (role_code role) (role_code r) ne)

pub this_tag : (w : ℕ) (r : Role) → cond {A = ℕ} (is_tag w r (tag w r)) 1 0 ≡ 1
this_tag w r = ap₂ (λ a b. cond {A = ℕ} (a && b) 1 0) (eq_yes (role_code r) (role_code r) refl) (eq_yes w w refl)

other_value : (w : ℕ) (r : Role) (v : ℕ) (role : Role) → v ≢ w → cond {A = ℕ} (is_tag w r (tag v role)) 1 0 ≡ 0
other_value w r v role ne = by (role_code role == role_code r) ∙ refl
  where
    by : (b : Bool) → cond {A = ℕ} (b && (v == w)) 1 0 ≡ 0
    by true = ap (λ c. cond {A = ℕ} c 1 0) (eq_no v w ne)
    by false = refl

-- what goes at a use: the kept tag, or a free one
gone : ℕ → ℕ → Tag
gone v n = cond (n == 1) (tag v Kept) free_tag

gone_last : (v n w : ℕ) (r : Role) → n ≡ 1 → cond {A = ℕ} (is_tag w r (cond (n == 1) (tag v Kept) free_tag)) 1 0 ≡ cond {A = ℕ} (is_tag w r (tag v Kept)) 1 0
gone_last v n w r e = ap (λ b. cond {A = ℕ} (is_tag w r (cond b (tag v Kept) free_tag)) 1 0) (eq_yes n 1 e)

gone_copy : (v n w : ℕ) (r : Role) → n ≢ 1 → cond {A = ℕ} (is_tag w r (cond (n == 1) (tag v Kept) free_tag)) 1 0 ≡ cond {A = ℕ} (is_tag w r free_tag) 1 0
gone_copy v n w r e = ap (λ b. cond {A = ℕ} (is_tag w r (cond b (tag v Kept) free_tag)) 1 0) (eq_no n 1 e)

-- a higher role is not what goes
gone_high : (v n w : ℕ) (r : Role) → 2 ≤ role_code r → cond {A = ℕ} (is_tag w r (cond (n == 1) (tag v Kept) free_tag)) 1 0 ≡ 0
gone_high v n w r high = by (n == 1)
  where
    by : (b : Bool) → cond {A = ℕ} (is_tag w r (cond b (tag v Kept) free_tag)) 1 0 ≡ 0
    by true = other_role w r v Kept (λ (e : 1 ≡ role_code r). absurd (omega (arith, e, high)))
    by false = other_role w r 0 Free (λ (e : 0 ≡ role_code r). absurd (omega (arith, e, high)))

need_one : (v : ℕ) (us : List ℕ) → times v us ≢ 0 → need v us ≡ 1
need_one v us ne = ap (λ b. cond {A = ℕ} b 0 1) (eq_no (times v us) 0 ne)

pub usable : (v : ℕ) (us : List ℕ) (limit least : ℕ) (tags : List Tag) (table : List ℕ) → Ready (v ∷ us) limit (need v us + least) tags table → v < limit → IsUsable v tags table
usable v us limit least tags table r low =
    let within : v < length table = omega (arith, low, r.wide) in
    let head = times_head v v us refl in
    let left = r.left v within in
    record {
      within = within;
      has = r.kept v low (omega (arith, head));
      some = omega (arith, head, left);
      free = λ ne. (let one = need_one v us (λ e. ne (omega (arith, head, left, e))) in omega (arith, one, r.free));
    }

pub used : (v : ℕ) (role : Role) (us : List ℕ) (limit least : ℕ) (tags tags' : List Tag) (table table' : List ℕ) → Ready (v ∷ us) limit (need v us + least) tags table → v < limit → 2 ≤ role_code role
    → Exchanged tags tags' (cond (get_or table v 0 == 1) (tag v Kept) free_tag) (tag v role) → table' ≡ set table v (get_or table v 0 - 1) → Ready us limit least tags' table'
used v role us limit least tags tags' table table' r low high ex is = record {
  kept = λ w below some. ⊎_elim
      (λ last. ⊎_elim
      (λ same. absurd (none w last same some))
      (λ other. (let e = ex (is_tag w Kept) in
      let g = gone_last v (get_or table v 0) w Kept last ∙ other_value w Kept v Kept other in
      let c = other_role w Kept v role (λ (q : role_code role ≡ 1). absurd (omega (arith, q, high))) in
      let old = r.kept w below (omega (arith, some, more_times v w us)) in
      omega (arith, e, g, c, old)))
      (cases_eq v w))
      (λ copy. (let e = ex (is_tag w Kept) in
      let g = gone_copy v (get_or table v 0) w Kept copy in
      let c = other_role w Kept v role (λ (q : role_code role ≡ 1). absurd (omega (arith, q, high))) in
      let old = r.kept w below (omega (arith, some, more_times v w us)) in
      omega (arith, e, g, c, old)))
      (cases_eq (get_or table v 0) 1);
  free = (let e = ex (is_tag 0 Free) in
      let c = other_role 0 Free v role (λ (q : role_code role ≡ 0). absurd (omega (arith, q, high))) in
      ⊎_elim
      (λ last. (let g = gone_last v (get_or table v 0) 0 Free last ∙ other_role 0 Free v Kept (λ (q : 1 ≡ 0). absurd (omega (arith, q))) in omega (arith, e, c, g, r.free)))
      (λ copy. (let g = gone_copy v (get_or table v 0) 0 Free copy in
      let one = need_one v us (λ z. copy (omega (arith, z, head, here))) in omega (arith, e, c, g, one, r.free)))
      (cases_eq (get_or table v 0) 1));
  left = λ w below. ap (λ t. get_or t w 0) is ∙ ⊎_elim
      (λ same. ap (λ k. get_or (set table v (get_or table v 0 - 1)) k 0) same ∙ get_or-set_same table v (get_or table v 0 - 1) 0 within ∙ minus ∙ ap (λ k. times k us) (sym same))
      (λ other. get_or-set_other table v w (get_or table v 0 - 1) 0 other ∙ r.left w (omega (arith, below, length-set table v (get_or table v 0 - 1), ap length is)) ∙ times_other v w us (λ q. other (sym q)) ∙ omega arith)
      (cases_eq w v);
  wide = omega (arith, r.wide, length-set table v (get_or table v 0 - 1), ap length is);
}
  where
    within : v < length table
    within = omega (arith, low, r.wide)

    head : times v (v ∷ us) ≡ 1 + times v us
    head = times_head v v us refl

    here : get_or table v 0 ≡ times v (v ∷ us)
    here = r.left v within

    minus : get_or table v 0 - 1 ≡ times v us
    minus = omega (arith, head, here)

    none : (w : ℕ) → get_or table v 0 ≡ 1 → v ≡ w → 1 ≤ times w us → ⊥
    none w last same some = let e : times v us ≡ times w us = ap (λ k. times k us) same in omega (arith, e, head, here, last, some)

-- the operand is then there, and an operand that was there stays
pub comes : (v : ℕ) (role : Role) (n : ℕ) (tags tags' : List Tag) → 2 ≤ role_code role → Exchanged tags tags' (cond (n == 1) (tag v Kept) free_tag) (tag v role) → 1 ≤ count v role tags'
comes v role n tags tags' high ex =
    let e = ex (is_tag v role) in
    let g = gone_high v n v role high in
    let c = this_tag v role in
    omega (arith, e, g, c)

pub stays : (w : ℕ) (r : Role) (v : ℕ) (role : Role) (n : ℕ) (tags tags' : List Tag) → 2 ≤ role_code r → Exchanged tags tags' (cond (n == 1) (tag v Kept) free_tag) (tag v role) → 1 ≤ count w r tags → 1 ≤ count w r tags'
stays w r v role n tags tags' high ex old =
    let e = ex (is_tag w r) in
    let g = gone_high v n w r high in
    omega (arith, e, g, old)

-- a gate
pub made : (us : List ℕ) (limit least : ℕ) (a b : ℕ) (tags tags' : List Tag) (table : List ℕ) → Ready us limit (least - 1) tags table → limit < length table
    → BothExchanged tags tags' (tag a First) (tag b Second) (tag limit Kept) free_tag → Ready us (limit + 1) least tags' table
made us limit least a b tags tags' table r low ex = record {
  kept = λ w below some. (let e = ex (is_tag w Kept) in
      ⊎_elim
      (λ same. (let c = ap (λ k. cond {A = ℕ} (is_tag k Kept (tag limit Kept)) 1 0) same ∙ this_tag limit Kept in omega (arith, e, c)))
      (λ other. (let old = r.kept w (omega (arith, below, other)) some in omega (arith, e, old)))
      (cases_eq w limit));
  free = (let e = ex (is_tag 0 Free) in omega (arith, e, r.free));
  left = r.left;
  wide = omega (arith, low);
}

-- its value is then there
pub result_there : (v a b : ℕ) (tags tags' : List Tag) → BothExchanged tags tags' (tag a First) (tag b Second) (tag v Kept) free_tag → 1 ≤ count v Kept tags'
result_there v a b tags tags' ex =
    let e = ex (is_tag v Kept) in
    let c = this_tag v Kept in
    omega (arith, e, c)

-- a value that is made goes again where nothing uses it
pub ended : (us : List ℕ) (v least : ℕ) (tags tags' : List Tag) (table : List ℕ) → Ready us (v + 1) (least - unused (times v us)) tags table
    → Exchanged tags tags' (cond (get_or table v 0 == 0) (tag v Kept) free_tag) free_tag → Ready us (v + 1) least tags' table
ended us v least tags tags' table r ex = by (get_or table v 0 == 0) refl
  where
    here : get_or table v 0 ≡ times v us
    here = r.left v (let w = r.wide in omega (arith, w))

    gone_is : (w : ℕ) (role : Role) (b : Bool) → (get_or table v 0 == 0) ≡ b
        → cond {A = ℕ} (is_tag w role (cond (get_or table v 0 == 0) (tag v Kept) free_tag)) 1 0 ≡ cond {A = ℕ} (is_tag w role (cond b (tag v Kept) free_tag)) 1 0
    gone_is w role b is = ap (λ x. cond {A = ℕ} (is_tag w role (cond x (tag v Kept) free_tag)) 1 0) is

    unused_is : (b : Bool) → (get_or table v 0 == 0) ≡ b → unused (times v us) ≡ cond b 1 0
    unused_is b is = ap (λ n. cond {A = ℕ} (n == 0) 1 0) (sym here) ∙ ap (λ x. cond {A = ℕ} x 1 0) is

    by : (b : Bool) → (get_or table v 0 == 0) ≡ b → Ready us (v + 1) least tags' table
    by true is = record {
      kept = λ w below some. (let e = ex (is_tag w Kept) in
          let other : v ≢ w = λ same. (let z : get_or table v 0 ≡ 0 = eqb-true (get_or table v 0) 0 is in
          let u : times v us ≡ times w us = ap (λ k. times k us) same in absurd (omega (arith, z, u, here, some))) in
          let g = gone_is w Kept true is ∙ other_value w Kept v Kept other in
          let old = r.kept w below some in omega (arith, e, g, old));
      free = (let e = ex (is_tag 0 Free) in
          let g = gone_is 0 Free true is ∙ other_role 0 Free v Kept (λ (q : 1 ≡ 0). absurd (omega (arith, q))) in
          let u = unused_is true is in omega (arith, e, g, u, r.free));
      left = r.left;
      wide = r.wide;
    }
    by false is = record {
      kept = λ w below some. (let e = ex (is_tag w Kept) in
          let g = gone_is w Kept false is in
          let old = r.kept w below some in omega (arith, e, g, old));
      free = (let e = ex (is_tag 0 Free) in
          let g = gone_is 0 Free false is in
          let u = unused_is false is in omega (arith, e, g, u, r.free));
      left = r.left;
      wide = r.wide;
    }
