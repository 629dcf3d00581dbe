-- The drivers of one model.
use Rattle.std.proofs.Common.{◌≡◌, ◌≢◌, refl, sym, ap, subst, ◌∙◌, ℕ, zero, suc, ◌<◌, ◌≤◌, inl, inr, List, [], ◌∷◌, ◌++◌, map, Bool, false, ◌&&◌, arith, slice_get}
use Rattle.std.specs.Prelude.{Some, None, Option, flat_map, filter_map, option_to_list, nat_le, nat_lt}
use Rattle.std.specs.Bool.{then_some}
use Rattle.std.specs.List.{list_any, cons_option}
use Rattle.std.proofs.lemmas.Slice.Eq.{bytes_eq-Decides}
use Rattle.std.proofs.lemmas.Option.{none-some, same_Some}
use Rattle.std.proofs.lemmas.Bool.{leb-false, ltb-false}
use Rattle.netlist_core.specs.declared.model.Port.{Port}
use Rattle.netlist_rules.specs.Drivers.{same_name_up_to, same_name_before, stands_earlier, repeats_after, repeats}
use Rattle.lists.proofs.Members.{In, in_left, in_right, filtered_in as in_filter, in_map, in_flat, in_got}
use Rattle.lists.proofs.Bools.{or_false_left as first_of, or_false_right as second_of}
use Rattle.lists.proofs.Appends.{append_nil_left as none_left, append_nil_right as none_right}
use Rattle.netlist_rules.proofs.Faultless.{none_kept}

pub not_any : {X : Type 0} (test : X → Bool) (xs : List X) (x : X) → list_any test xs ≡ false → In x xs → test x ≡ false
not_any test [] x e i = absurd i
not_any test (y ∷ ys) x e (inl same) = ap test same ∙ first_of (test y) (list_any test ys) e
not_any test (y ∷ ys) x e (inr later) = not_any test ys x (second_of (test y) (list_any test ys) e) later

-- two ports of one name
pub not_up_to : (p q : Port) → same_name_up_to p q ≡ false → q.name ≡ p.name → p.line < q.line
not_up_to p q e same = leb-false q.line p.line (ap (λ b. b && nat_le q.line p.line) (sym ((bytes_eq-Decides q.name p.name).1 same)) ∙ e)

pub not_before : (p q : Port) → same_name_before p q ≡ false → q.name ≡ p.name → p.line ≤ q.line
not_before p q e same = ltb-false q.line p.line (ap (λ b. b && nat_lt q.line p.line) (sym ((bytes_eq-Decides q.name p.name).1 same)) ∙ e)

-- no name twice
abbrev pub Apart : List Port → Type 0
Apart [] = Unit {0}
Apart (p ∷ ps) = ((q : Port) → In q ps → q.name ≢ p.name) × Apart ps

record Once (before ports : List Port) : Type 0 where
  pub apart : Apart ports
  pub later : (b p : Port) → In b before → In p ports → p.name ≡ b.name → p.line < b.line

once : (before ports : List Port) → repeats_after before ports ≡ [] → Once before ports
once before [] e = record { apart = tt; later = λ b p i j. absurd j }
once before (p ∷ after) e =
    let here : stands_earlier before p after ≡ false = none_kept (stands_earlier before p after) p (none_left (option_to_list (then_some (stands_earlier before p after) p)) (repeats_after (p ∷ before) after) e) in
    let rest : Once (p ∷ before) after = once (p ∷ before) after (none_right (option_to_list (then_some (stands_earlier before p after) p)) (repeats_after (p ∷ before) after) e) in
    let none_before : list_any (same_name_up_to p) before ≡ false = first_of _ _ here in
    let none_after : list_any (same_name_before p) after ≡ false = second_of (list_any (same_name_up_to p) before) _ here in
    record {
      apart = (λ q i same. (let up : q.line < p.line = rest.later p q (inl refl) i same in let down : p.line ≤ q.line = not_before p q (not_any (same_name_before p) after q none_after i) same in absurd (omega arith)), rest.apart);
      later = λ b q i j same. elim j as (λ _. q.line < b.line) [
        | inl is ↦ subst (λ (v : Port). v.line < b.line) (sym is) (not_up_to p b (not_any (same_name_up_to p) before b none_before i) (sym same ∙ ap (λ (v : Port). v.name) is))
        | inr k ↦ rest.later b q (inr i) k same
      ];
    }

pub no_repeat : (ports : List Port) → repeats ports ≡ [] → Apart ports
no_repeat ports e = (once [] ports e).apart

pub apart_left : (xs ys : List Port) → Apart (xs ++ ys) → Apart xs
apart_left [] ys a = tt
apart_left (x ∷ xs) ys a = (λ q i. a.0 q (in_left xs ys q i), apart_left xs ys a.1)

pub apart_right : (xs ys : List Port) → Apart (xs ++ ys) → Apart ys
apart_right [] ys a = a
apart_right (x ∷ xs) ys a = apart_right xs ys a.1

pub apart_cross : (xs ys : List Port) (p q : Port) → Apart (xs ++ ys) → In p xs → In q ys → q.name ≢ p.name
apart_cross [] ys p q a i j = absurd i
apart_cross (x ∷ xs) ys p q a (inl same) j = λ e. a.0 q (in_right xs ys q j) (e ∙ ap (λ (v : Port). v.name) same)
apart_cross (x ∷ xs) ys p q a (inr i) j = apart_cross xs ys p q a.1 i j

pub got_mapped : {X Y : Type 0} (f : X → Y) (xs : List X) (i : ℕ) (x : X) → slice_get xs i ≡ Some x → In (f x) (map f xs)
got_mapped f xs i x e = in_map f xs x (in_got xs i x e)

-- of a list of elements with a port each, two with one name are one
pub same_place : {X : Type 0} (f : X → Port) (xs : List X) (i j : ℕ) (x y : X) → Apart (map f xs) → slice_get xs i ≡ Some x → slice_get xs j ≡ Some y → (f x).name ≡ (f y).name → i ≡ j
same_place f [] i j x y a d e s = absurd (none-some x d)
same_place f (z ∷ zs) zero zero x y a d e s = refl
same_place f (z ∷ zs) zero (suc j) x y a d e s = absurd (a.0 (f y) (got_mapped f zs j y e) (sym s ∙ ap (λ v. (f v).name) (sym (same_Some _ _ d))))
same_place f (z ∷ zs) (suc i) zero x y a d e s = absurd (a.0 (f x) (got_mapped f zs i x d) (s ∙ ap (λ v. (f v).name) (sym (same_Some _ _ e))))
same_place f (z ∷ zs) (suc i) (suc j) x y a d e s = ap suc (same_place f zs i j x y a.1 d e s)

pub got_flat : {X Y : Type 0} (f : X → List Y) (xs : List X) (i : ℕ) (x : X) (y : Y) → slice_get xs i ≡ Some x → In y (f x) → In y (flat_map f xs)
got_flat f xs i x y e k = in_flat f xs x y (in_got xs i x e) k

-- of a list of elements with ports, two that have one name are one
pub same_line : {X : Type 0} (f : X → List Port) (xs : List X) (i j : ℕ) (x y : X) (p q : Port) → Apart (flat_map f xs) → slice_get xs i ≡ Some x → slice_get xs j ≡ Some y → In p (f x) → In q (f y) → p.name ≡ q.name → i ≡ j
same_line f [] i j x y p q a d e k l s = absurd (none-some x d)
same_line f (z ∷ zs) zero zero x y p q a d e k l s = refl
same_line f (z ∷ zs) zero (suc j) x y p q a d e k l s = absurd (apart_cross (f z) (flat_map f zs) p q a (subst (λ v. In p (f v)) (sym (same_Some _ _ d)) k) (got_flat f zs j y q e l) (sym s))
same_line f (z ∷ zs) (suc i) zero x y p q a d e k l s = absurd (apart_cross (f z) (flat_map f zs) q p a (subst (λ v. In q (f v)) (sym (same_Some _ _ e)) l) (got_flat f zs i x p d k) s)
same_line f (z ∷ zs) (suc i) (suc j) x y p q a d e k l s = ap suc (same_line f zs i j x y p q (apart_right (f z) (flat_map f zs) a) d e k l s)

pub apart_at : {X : Type 0} (f : X → List Port) (xs : List X) (i : ℕ) (x : X) → Apart (flat_map f xs) → slice_get xs i ≡ Some x → Apart (f x)
apart_at f [] i x a e = absurd (none-some x e)
apart_at f (z ∷ zs) zero x a e = subst (λ v. Apart (f v)) (same_Some _ _ e) (apart_left (f z) (flat_map f zs) a)
apart_at f (z ∷ zs) (suc i) x a e = apart_at f zs i x (apart_right (f z) (flat_map f zs) a) e

apart_cons : (o : Option Port) (ps : List Port) → Apart (cons_option o ps) → Apart ps
apart_cons None ps a = a
apart_cons (Some p) ps a = a.1

apart_head : (o : Option Port) (p : Port) (ps : List Port) (q : Port) → o ≡ Some p → Apart (cons_option o ps) → In q ps → q.name ≢ p.name
apart_head None p ps q e a i = absurd (none-some p e)
apart_head (Some r) p ps q e a i = λ s. a.0 q i (s ∙ ap (λ (v : Port). v.name) (sym (same_Some _ _ e)))

-- of the elements that have a port, two with one name are one
pub same_kept : {X : Type 0} (f : X → Option Port) (xs : List X) (x y : X) (p q : Port) → Apart (filter_map f xs) → In x xs → In y xs → f x ≡ Some p → f y ≡ Some q → p.name ≡ q.name → x ≡ y
same_kept f [] x y p q a i j d e s = absurd i
same_kept f (z ∷ zs) x y p q a (inl b) (inl c) d e s = b ∙ sym c
same_kept f (z ∷ zs) x y p q a (inl b) (inr c) d e s = absurd (apart_head (f z) p (filter_map f zs) q (ap f (sym b) ∙ d) a (in_filter f zs y q c e) (sym s))
same_kept f (z ∷ zs) x y p q a (inr b) (inl c) d e s = absurd (apart_head (f z) q (filter_map f zs) p (ap f (sym c) ∙ e) a (in_filter f zs x p b d) s)
same_kept f (z ∷ zs) x y p q a (inr b) (inr c) d e s = same_kept f zs x y p q (apart_cons (f z) (filter_map f zs) a) b c d e s
