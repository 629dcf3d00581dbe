-- What a line without a fault has, in a text.
use Rattle.std.proofs.Common.{ℕ, zero, suc, ◌≡◌, ◌≢◌, ◌==◌, ◌-◌, refl, sym, ap, ◌∙◌, inl, inr, List, [], ◌∷◌, Bool, true, false, ◌||◌, cond, length, take, drop, codes, arith, true≢false}
use Rattle.std.specs.Prelude.{Option, Some, None, find}
use Rattle.std.specs.List.{AllByRecursion, list_any}
use Rattle.std.proofs.lemmas.Bool.{or_parts, or_left}
use Rattle.std.proofs.lemmas.List.{get_or_default}
use Rattle.lists.proofs.Members.{In, in_from, all_in}
use Rattle.netlist_rules.specs.declared.fault.FaultKind.TheVariants.{NoModelYet, BadCount, BadPin, AfterEnd}
use Rattle.lists.proofs.Bools.{and_false_right as other_fails}
use Rattle.blif_text.specs.declared.logical.Logical.{Logical}
use Rattle.blif_text.specs.Models.{first_word, operands, has_directive, last_word, pin_words}
use Rattle.blif_text.specs.LineFaults.{is_before_models, follows_end, has_bad_count, is_bad_pin, first_broken, line_rules, fault_after}
use Rattle.blif_text.specs.Laws.{BreaksNone, HasWords}
use Rattle.blif_text.proofs.FirstFaults.{breaks_none}
use Rattle.blif_text.proofs.Designs.{none_given, none_left, none_right}
use Rattle.netlist_plans.specs.TextNames.{IsNameWord}
use Rattle.blif_text.specs.LogicalLines.{is_hash}
use Rattle.netlist_plans.proofs.FreeWords.{IsFree, HasFreeWords}
use Rattle.netlist_plans.proofs.Newlines.{IsOneLine, HasOneLineWords}

-- parts of lists
pub all_taken : {X : Type 0} (P : X → Type 0) (n : ℕ) (xs : List X) → AllByRecursion P xs → AllByRecursion P (take n xs)
all_taken P zero [] a = tt
all_taken P zero (x ∷ xs) a = tt
all_taken P (suc n) [] a = tt
all_taken P (suc n) (x ∷ xs) a = (a.0, all_taken P n xs a.1)

pub in_drop : {X : Type 0} (n : ℕ) (xs : List X) (x : X) → In x (drop n xs) → In x xs
in_drop zero [] x i = i
in_drop zero (y ∷ ys) x i = i
in_drop (suc n) [] x i = i
in_drop (suc n) (y ∷ ys) x i = inr (in_drop n ys x i)

pub in_take : {X : Type 0} (n : ℕ) (xs : List X) (x : X) → In x (take n xs) → In x xs
in_take zero [] x i = i
in_take zero (y ∷ ys) x i = absurd i
in_take (suc n) [] x i = i
in_take (suc n) (y ∷ ys) x (inl e) = inl e
in_take (suc n) (y ∷ ys) x (inr i) = inr (in_take n ys x i)

pub in_last : (words : List (List ℕ)) → words ≢ [] → In (last_word words) words
in_last [] some = absurd (some refl)
in_last (word ∷ words) some =
    in_from (word ∷ words) (last_word (word ∷ words)) (length (word ∷ words) - 1, omega arith, get_or_default (word ∷ words) (length (word ∷ words) - 1) (last_word (word ∷ words)) [] (omega arith))

pub none_dropped : (p : ℕ → Bool) (n : ℕ) (xs : List ℕ) → list_any p xs ≡ false → list_any p (drop n xs) ≡ false
none_dropped p zero [] e = e
none_dropped p zero (x ∷ xs) e = e
none_dropped p (suc n) [] e = e
none_dropped p (suc n) (x ∷ xs) e = none_dropped p n xs (or_parts (p x) (list_any p xs) e).1

-- its words, its net after `.names`, and its pins
pub record Clean (l : Logical) : Type 0 where
  pub words : (word : List ℕ) → In word l.words → IsNameWord word
  pub counted : has_directive (codes ".names") l ≡ true → operands l ≢ []
  pub pins : has_directive (codes ".subckt") l ≡ true → (word : List ℕ) → In word (pin_words l) → is_bad_pin word ≡ false

none_inside : (a b : Bool) (word : Option (List ℕ)) → a ≡ false → b ≡ false → cond (a || b) None word ≡ None → word ≡ None
none_inside false false word s t e = e
none_inside true b word s t e = absurd (true≢false s)
none_inside false true word s t e = absurd (true≢false t)

none_when : (b : Bool) (word : Option (List ℕ)) → b ≡ true → cond b word None ≡ None → word ≡ None
none_when true word t e = e
none_when false word t e = absurd (true≢false (sym t))

none_bad : (words : List (List ℕ)) (word : List ℕ) → find is_bad_pin words ≡ None → In word words → is_bad_pin word ≡ false
none_bad [] word e i = absurd i
none_bad (first ∷ words) word e i = by (is_bad_pin first) refl e i (λ d j. none_bad words word d j)
  where
    by : (b : Bool) → is_bad_pin first ≡ b → cond b (Some first) (find is_bad_pin words) ≡ None → In word (first ∷ words) → (find is_bad_pin words ≡ None → In word words → is_bad_pin word ≡ false) → is_bad_pin word ≡ false
    by true h d j again = absurd (cc)
    by false h d (inl same) again = ap is_bad_pin same ∙ h
    by false h d (inr j) again = again d j

clean_line : (before : List Logical) (l : Logical) → BreaksNone before l → HasWords l → HasOneLineWords l → HasFreeWords is_hash l → Clean l
clean_line before l none has one free =
    record {
      words = λ word i. let w = all_in (λ (v : List ℕ). (v ≢ []) × (list_any Rattle.blif_text.specs.LogicalLines.is_space v ≡ false)) l.words word has.1 i in record { some = w.0; plain = w.1; one_line = all_in IsOneLine l.words word one i; no_comment = all_in (IsFree is_hash) l.words word free i };
      counted = λ names empty.
          let bad : has_bad_count l ≡ false = none_given (has_bad_count l) (first_word l) (inside (none BadCount)) in
          let zero_operands : (length (operands l) == 0) ≡ false = other_fails (has_directive (codes ".names") l || has_directive (codes ".subckt") l) (length (operands l) == 0) (or_left _ _ names) (or_parts _ _ bad).1 in
          true≢false (sym (ap (λ (ws : List (List ℕ)). length ws == 0) empty) ∙ zero_operands);
      pins = λ subckt word i. none_bad (pin_words l) word (none_when (has_directive (codes ".subckt") l) (find is_bad_pin (pin_words l)) subckt (inside (none BadPin))) i;
    }
  where
    inside : {word : Option (List ℕ)} → cond (is_before_models before l || follows_end before l) None word ≡ None → word ≡ None
    inside {word = word} e = none_inside (is_before_models before l) (follows_end before l) word (none_given (is_before_models before l) (first_word l) (none NoModelYet)) (none_given (follows_end before l) (first_word l) (none AfterEnd)) e

pub clean_after : (before lines : List Logical) → fault_after before lines ≡ None → AllByRecursion HasWords lines → AllByRecursion HasOneLineWords lines → AllByRecursion (HasFreeWords is_hash) lines → AllByRecursion Clean lines
clean_after before [] e has one free = tt
clean_after before (l ∷ ls) e has one free =
    (clean_line before l (breaks_none before l (none_left (first_broken line_rules before l) (fault_after (l ∷ before) ls) e)) has.0 one.0 free.0, clean_after (l ∷ before) ls (none_right (first_broken line_rules before l) (fault_after (l ∷ before) ls) e) has.1 one.1 free.1)
