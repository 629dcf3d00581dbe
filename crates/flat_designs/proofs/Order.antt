-- Words by line, and names where they first stand.
use Rattle.std.proofs.Common.{ℕ, suc, ◌≡◌, ◌<◌, ◌≤◌, inl, inr, List, [], ◌∷◌, ◌++◌, Bool, true, false, cond, ◌||◌, ◌==◌, nat_le, slice_get, length, bytes_eq, refl, sym, ap, ap₂, ◌∙◌, subst, arith, true≢false, drop}
use Rattle.std.specs.Prelude.{AllPairs}
use Rattle.std.specs.List.{list_any}
use Rattle.std.proofs.lemmas.Bool.Decides.{leb_tells, Decides-eqb}
use Rattle.std.proofs.lemmas.Option.{slice_get_within, get_or_from_slice_get, same_Some}
use Rattle.netlist_core.specs.declared.model.Port.{Port}
use Rattle.netlist_core.specs.Names.{Name}
use Rattle.lists.proofs.Members.{In, got_from}
use Rattle.lists.proofs.Names.{bytes_eq-turned}
use Rattle.netlist_meaning.specs.InOrder.{put_by_line, by_line, cons_when, words_on_line, cons_unless, without_name, first_names}
use Rattle.flat_designs.specs.Laws.{StandByLine, WordsStandByLine, append_unless, NamesComeWhereFirst}
use Rattle.flat_designs.proofs.Lists.{Pairs, all_pairs}
use Rattle.flat_designs.proofs.Listed.{in_put}

pairs_of_all : {X : Type 0} (R : X → X → Type 0) (xs : List X) → AllPairs R xs → Pairs R xs
pairs_of_all R [] h = tt
pairs_of_all R (x ∷ xs) h = (later, pairs_of_all R xs (λ i j d l m. h (suc i) (suc j) d (omega arith) (omega arith)))
  where
    later : (y : _) → In y xs → R x y
    later y i = let (k, e) = got_from xs y i in let w : k < length xs = slice_get_within xs k y e in subst (λ v. R x v) (get_or_from_slice_get xs k y x e) (h 0 (suc k) x (omega arith) (omega arith))

le_of_true : (a b : ℕ) → nat_le a b ≡ true → a ≤ b
le_of_true a b e = elim (leb_tells a b) as (λ _. a ≤ b) [ inl p ↦ p.1 | inr q ↦ absurd (true≢false (sym e ∙ q.0)) ]

less_of_false : (a b : ℕ) → nat_le a b ≡ false → b < a
less_of_false a b e = elim (leb_tells a b) as (λ _. b < a) [ inl p ↦ absurd (true≢false (sym p.0 ∙ e)) | inr q ↦ q.1 ]

abbrev UpTo : Port → Port → Type 0
UpTo p q = p.line ≤ q.line

put_ascends : (word : Port) (words : List Port) → Pairs UpTo words → Pairs UpTo (put_by_line word words)
put_ascends word [] h = ((λ y i. absurd i), tt)
put_ascends word (next ∷ words) h = by (nat_le word.line next.line) refl (put_ascends word words h.1)
  where
    first : word.line ≤ next.line → (y : Port) → In y (next ∷ words) → word.line ≤ y.line
    first l y (inl e) = subst (λ (v : Port). word.line ≤ v.line) (sym e) l
    first l y (inr i) = let m : next.line ≤ y.line = h.0 y i in omega arith

    later : next.line < word.line → (y : Port) → In y (word ∷ words) → next.line ≤ y.line
    later l y (inl e) = let s : y.line ≡ word.line = ap (λ (v : Port). v.line) e in omega arith
    later l y (inr i) = h.0 y i

    by : (b : Bool) → nat_le word.line next.line ≡ b → Pairs UpTo (put_by_line word words) → Pairs UpTo (cond b (word ∷ next ∷ words) (next ∷ put_by_line word words))
    by true e rest = (first (le_of_true word.line next.line e), h)
    by false e rest = ((λ y i. later (less_of_false word.line next.line e) y (in_put word words y i)), rest)

by_line_ascends : (words : List Port) → Pairs UpTo (by_line words)
by_line_ascends [] = tt
by_line_ascends (word ∷ words) = put_ascends word (by_line words) (by_line_ascends words)

put_stays : (line : ℕ) (word : Port) (words : List Port) → words_on_line line (put_by_line word words) ≡ words_on_line line (word ∷ words)
put_stays line word [] = refl
put_stays line word (next ∷ words) = by (nat_le word.line next.line) refl (put_stays line word words)
  where
    swap : (a b : Bool) (xs : List Port) → (a ≡ true → b ≡ true → ⊥) → cons_when a next (cons_when b word xs) ≡ cons_when b word (cons_when a next xs)
    swap true true xs never = absurd (never refl refl)
    swap true false xs never = refl
    swap false true xs never = refl
    swap false false xs never = refl

    by : (b : Bool) → nat_le word.line next.line ≡ b → words_on_line line (put_by_line word words) ≡ words_on_line line (word ∷ words) → words_on_line line (cond b (word ∷ next ∷ words) (next ∷ put_by_line word words)) ≡ words_on_line line (word ∷ next ∷ words)
    by true e rest = refl
    by false e rest =
        ap (cons_when (next.line == line) next) rest
        ∙ swap (next.line == line) (word.line == line) (words_on_line line words) (λ n w.
        let a : next.line ≡ line = (Decides-eqb next.line line).0 n in
        let b : word.line ≡ line = (Decides-eqb word.line line).0 w in
        let l : next.line < word.line = less_of_false word.line next.line e in
        omega arith)

by_line_stays : (line : ℕ) (words : List Port) → words_on_line line (by_line words) ≡ words_on_line line words
by_line_stays line [] = refl
by_line_stays line (word ∷ words) = put_stays line word (by_line words) ∙ ap (cons_when (word.line == line) word) (by_line_stays line words)

in_on_line : (line : ℕ) (words : List Port) (p : Port) → In p (words_on_line line words) → In p words
in_on_line line [] p i = i
in_on_line line (word ∷ words) p i = by (word.line == line) i (in_on_line line words p)
  where
    by : (b : Bool) → In p (cons_when b word (words_on_line line words)) → (In p (words_on_line line words) → In p words) → In p (word ∷ words)
    by true (inl e) rest = inl e
    by true (inr j) rest = inr (rest j)
    by false j rest = inr (rest j)

same_line : (p : Port) → (p.line == p.line) ≡ true
same_line p = (Decides-eqb p.line p.line).1 refl

head_on_line : (p : Port) (words : List Port) → words_on_line p.line (p ∷ words) ≡ p ∷ words_on_line p.line words
head_on_line p words = ap (λ b. cons_when b p (words_on_line p.line words)) (same_line p)

first_up_to : (x : Port) (xs : List Port) → Pairs UpTo (x ∷ xs) → (p : Port) → In p (x ∷ xs) → x.line ≤ p.line
first_up_to x xs h p (inl e) = let s : p.line ≡ x.line = ap (λ (v : Port). v.line) e in omega arith
first_up_to x xs h p (inr i) = h.0 p i

-- lists by line with the same words on each line are one
one_by_line : (xs ys : List Port) → Pairs UpTo xs → Pairs UpTo ys → ((line : ℕ) → words_on_line line xs ≡ words_on_line line ys) → xs ≡ ys
one_by_line [] [] h k same = refl
one_by_line [] (y ∷ ys) h k same = let e : [] ≡ y ∷ words_on_line y.line ys = same y.line ∙ head_on_line y ys in absurd (cc)
one_by_line (x ∷ xs) [] h k same = let e : x ∷ words_on_line x.line xs ≡ [] = sym (head_on_line x xs) ∙ same x.line in absurd (cc)
one_by_line (x ∷ xs) (y ∷ ys) h k same =
    let up : y.line ≤ x.line = first_up_to y ys k x (in_on_line x.line (y ∷ ys) x (subst (λ zs. In x zs) (sym (head_on_line x xs) ∙ same x.line) (inl refl))) in
    let down : x.line ≤ y.line = first_up_to x xs h y (in_on_line y.line (x ∷ xs) y (subst (λ zs. In y zs) (sym (head_on_line y ys) ∙ sym (same y.line)) (inl refl))) in
    let line : x.line ≡ y.line = omega arith in
    let heads : x ∷ words_on_line x.line xs ≡ y ∷ words_on_line x.line ys = sym (head_on_line x xs) ∙ same x.line ∙ ap (λ n. words_on_line n (y ∷ ys)) line ∙ head_on_line y ys ∙ ap (λ n. y ∷ words_on_line n ys) (sym line) in
    let first : x ≡ y = same_Some _ _ (ap (λ zs. slice_get zs 0) heads) in
    ap₂ (λ a b. a ∷ b) first (one_by_line xs ys h.1 k.1 (λ n. rest n (x.line == n) refl (same n ∙ ap (λ (v : Port). cons_when (v.line == n) v (words_on_line n ys)) (sym first))))
  where
    rest : (n : ℕ) (b : Bool) → (x.line == n) ≡ b → cons_when (x.line == n) x (words_on_line n xs) ≡ cons_when (x.line == n) x (words_on_line n ys) → words_on_line n xs ≡ words_on_line n ys
    rest n true e s = ap (drop 1) (ap (λ b. cons_when b x (words_on_line n xs)) (sym e) ∙ s ∙ ap (λ b. cons_when b x (words_on_line n ys)) e)
    rest n false e s = ap (λ b. cons_when b x (words_on_line n xs)) (sym e) ∙ s ∙ ap (λ b. cons_when b x (words_on_line n ys)) e

pub words_stand_by_line : WordsStandByLine
words_stand_by_line words sorted = (
  (λ h. one_by_line sorted (by_line words) (pairs_of_all UpTo sorted h.ascend) (by_line_ascends words) (λ line. h.stable line ∙ sym (by_line_stays line words))),
  (λ e. subst (StandByLine words) (sym e) (record { ascend = all_pairs UpTo (by_line words) (by_line_ascends words); stable = λ line. by_line_stays line words })),
)

-- names
without_last : (n : Name) (names : List Name) (name : Name) → without_name n (names ++ name ∷ []) ≡ append_unless (bytes_eq n name) (without_name n names) name
without_last n [] name = by (bytes_eq n name)
  where
    by : (b : Bool) → cons_unless b name [] ≡ append_unless b [] name
    by true = refl
    by false = refl
without_last n (x ∷ names) name = ap (cons_unless (bytes_eq n x) x) (without_last n names name) ∙ by (bytes_eq n x) (bytes_eq n name)
  where
    by : (a b : Bool) → cons_unless a x (append_unless b (without_name n names) name) ≡ append_unless b (cons_unless a x (without_name n names)) name
    by true b = refl
    by false true = refl
    by false false = refl

pub names_come_where_first : NamesComeWhereFirst
names_come_where_first [] name = refl
names_come_where_first (n ∷ names) name =
    ap (λ ns. n ∷ without_name n ns) (names_come_where_first names name)
    ∙ by (list_any (bytes_eq name) names) (bytes_eq name n) refl
  where
    by : (seen here : Bool) → bytes_eq name n ≡ here → n ∷ without_name n (append_unless seen (first_names names) name) ≡ append_unless (bytes_eq name n || seen) (n ∷ without_name n (first_names names)) name
    by true true e = ap (λ b. append_unless (b || true) (n ∷ without_name n (first_names names)) name) (sym e)
    by true false e = ap (λ b. append_unless (b || true) (n ∷ without_name n (first_names names)) name) (sym e)
    by false true e =
        ap (λ ns. n ∷ ns) (without_last n (first_names names) name ∙ ap (λ b. append_unless b (without_name n (first_names names)) name) (bytes_eq-turned n name ∙ e))
        ∙ ap (λ b. append_unless (b || false) (n ∷ without_name n (first_names names)) name) (sym e)
    by false false e =
        ap (λ ns. n ∷ ns) (without_last n (first_names names) name ∙ ap (λ b. append_unless b (without_name n (first_names names)) name) (bytes_eq-turned n name ∙ e))
        ∙ ap (λ b. append_unless (b || false) (n ∷ without_name n (first_names names)) name) (sym e)
