-- The earliest lines of names, with one more word.
use Rattle.std.proofs.Common.{◌≡◌, ◌≢◌, refl, sym, ap, ap₂, ◌∙◌, ℕ, ◌≤◌, ◌<◌, inl, inr, min, Bool, true, false, ◌&&◌, ◌||◌, List, [], ◌∷◌, ◌++◌, length, set, get_or, arith}
use Rattle.std.proofs.lemmas.List.Folds.{list_any-append}
use Rattle.std.specs.List.{list_any}
use Rattle.std.specs.Prelude.{Option, Some, None, is_some, nat_le, nat_lt, bytes_eq}
use Rattle.std.specs.Cmp.{both_ways}
use Rattle.std.specs.Option.{option_map_or}
use Rattle.std.proofs.lemmas.Bool.{leb-true, leb-false, le-leb, ltb-true, lt-ltb, or_cases, or_left, or_right, cases_lt, le-ltb}
use Rattle.std.proofs.lemmas.List.{get_or-set_same, get_or-set_other, length-set}
use Rattle.std.proofs.lemmas.Slice.Eq.{bytes_eq-Decides}
use Rattle.std.proofs.Math.Bool.{or-false, or_comm, or_assoc, and-true, and-false}
use Rattle.netlist_core.specs.declared.model.Port.{Port}
use Rattle.netlist_core.specs.Names.{Name, has_name, is_named}
use Rattle.netlist_rules.specs.Drivers.{same_name_before, same_name_up_to}
use Rattle.net_faults.specs.declared.first_lines.FirstLines.{FirstLines}
use Rattle.net_faults.specs.declared.numbering.Numbering.{Numbering}
use Rattle.net_faults.specs.declared.numbering.NumberedWord.{NumberedWord}
use Rattle.net_faults.specs.Numbering.{IsNumbered, IsNumbering, count_of, numbered_names, name_number, numbered_port}
use Rattle.net_faults.specs.FirstLines.{AreFirstLines, has_line, line_in}

-- the lesser of two lines is early where one of them is
least_le : (c a b : ℕ) → nat_le (min a b) c ≡ (nat_le a c || nat_le b c)
least_le c a b = both_ways (nat_le (min a b) c) (nat_le a c || nat_le b c) there back
  where
    there : nat_le (min a b) c ≡ true → (nat_le a c || nat_le b c) ≡ true
    there e =
        let h : min a b ≤ c = leb-true (min a b) c e in
        elim (cases_lt a b) as (λ _. (nat_le a c || nat_le b c) ≡ true) [
          | inl less ↦ or_left (nat_le a c) (nat_le b c) (le-leb a c (omega arith))
          | inr more ↦ or_right (nat_le a c) (nat_le b c) (le-leb b c (omega arith))
        ]

    back : (nat_le a c || nat_le b c) ≡ true → nat_le (min a b) c ≡ true
    back e = elim (or_cases (nat_le a c) (nat_le b c) e) as (λ _. nat_le (min a b) c ≡ true) [
      | inl one ↦ (let h : a ≤ c = leb-true a c one in le-leb (min a b) c (omega arith))
      | inr other ↦ (let h : b ≤ c = leb-true b c other in le-leb (min a b) c (omega arith))
    ]

least_lt : (c a b : ℕ) → nat_lt (min a b) c ≡ (nat_lt a c || nat_lt b c)
least_lt c a b = both_ways (nat_lt (min a b) c) (nat_lt a c || nat_lt b c) there back
  where
    there : nat_lt (min a b) c ≡ true → (nat_lt a c || nat_lt b c) ≡ true
    there e =
        let h : min a b < c = ltb-true (min a b) c e in
        elim (cases_lt a b) as (λ _. (nat_lt a c || nat_lt b c) ≡ true) [
          | inl less ↦ or_left (nat_lt a c) (nat_lt b c) (lt-ltb a c (omega arith))
          | inr more ↦ or_right (nat_lt a c) (nat_lt b c) (lt-ltb b c (omega arith))
        ]

    back : (nat_lt a c || nat_lt b c) ≡ true → nat_lt (min a b) c ≡ true
    back e = elim (or_cases (nat_lt a c) (nat_lt b c) e) as (λ _. nat_lt (min a b) c ≡ true) [
      | inl one ↦ (let h : a < c = ltb-true a c one in lt-ltb (min a b) c (omega arith))
      | inr other ↦ (let h : b < c = ltb-true b c other in lt-ltb (min a b) c (omega arith))
    ]

-- the line that a number has once a word of its name stands on this line too
abbrev pub least_of : ℕ → Option ℕ → ℕ
least_of line known = option_map_or (min line) known line

-- two names have one number only if they are the same
apart : (names : Numbering) (key name : Name) (k j : ℕ) → IsNumbering names → name_number names key ≡ Some k → name_number names name ≡ Some j → bytes_eq key name ≡ false → j ≢ k
apart names key name k j numbering has_key has_name other same =
    let one = (numbering key k has_key).1 in
    let two = (numbering name j has_name).1 in
    let equal : key ≡ name = sym one ∙ ap (λ i. get_or (numbered_names names) i []) (sym same) ∙ two in
    absurd (let clash : false ≡ true = sym other ∙ (bytes_eq-Decides key name).1 equal in cc)

module _ (test : ℕ → Bool) (joins : (a b : ℕ) → test (min a b) ≡ (test a || test b)) where
  passes_by : (line : ℕ) (known : Option ℕ) → test (least_of line known) ≡ (test line || option_map_or test known false)
  passes_by line None = sym (or-false (test line))
  passes_by line (Some other) = joins line other

  line_added : (names : Numbering) (lines new : FirstLines) (key : Name) (k line : ℕ) → IsNumbering names → name_number names key ≡ Some k → length lines.lines.items ≡ count_of names →
      new.lines.items ≡ set lines.lines.items k (Some (least_of line (line_in lines k))) →
      (name : Name) (j : ℕ) → name_number names name ≡ Some j → has_line test new j ≡ ((bytes_eq key name && test line) || has_line test lines j)
  line_added names lines new key k line numbering has_key room updates name j has_name =
      ap (λ ls. option_map_or test (get_or ls j None) false) updates ∙ by (bytes_eq key name) refl
    where
      known : Option ℕ
      known = line_in lines k

      within : k < length lines.lines.items
      within = let h : k < count_of names = (numbering key k has_key).0 in omega arith

      by : (b : Bool) → bytes_eq key name ≡ b → option_map_or test (get_or (set lines.lines.items k (Some (least_of line known))) j None) false ≡ ((b && test line) || has_line test lines j)
      by true e =
          let same : k ≡ j = (let both : Some k ≡ Some j = sym has_key ∙ ap (name_number names) ((bytes_eq-Decides key name).0 e) ∙ has_name in cc) in
          ap (λ i. option_map_or test (get_or (set lines.lines.items k (Some (least_of line known))) i None) false) (sym same)
          ∙ ap (λ o. option_map_or test o false) (get_or-set_same lines.lines.items k (Some (least_of line known)) None within)
          ∙ passes_by line known
          ∙ ap (λ i. test line || has_line test lines i) same
      by false e = ap (λ o. option_map_or test o false) (get_or-set_other lines.lines.items k j (Some (least_of line known)) None (apart names key name k j numbering has_key has_name e))

pub lines_more : (names : Numbering) (lines new : FirstLines) (word : NumberedWord) (ports : List Port) → IsNumbered names word →
    new.lines.items ≡ set lines.lines.items word.number (Some (least_of word.word.line (line_in lines word.number))) →
    AreFirstLines names lines ports → AreFirstLines names new (numbered_port word ∷ ports)
lines_more names lines new word ports is updates had = record {
  room = ap length updates ∙ length-set lines.lines.items word.number (Some (least_of word.word.line (line_in lines word.number))) ∙ had.room;
  before = λ q j has. added (λ l. nat_lt l q.line) (least_lt q.line) q.name j has ∙ ap₂ (λ a b. a || b) refl (had.before q j has);
  up_to = λ q j has. added (λ l. nat_le l q.line) (least_le q.line) q.name j has ∙ ap₂ (λ a b. a || b) refl (had.up_to q j has);
  named = λ name j has. added (λ l. true) (λ a b. refl) name j has ∙ ap₂ (λ a b. a || b) (and-true (bytes_eq key name)) (had.named name j has);
  unnumbered = λ name none. ap₂ (λ a b. a || b) (other name none (bytes_eq key name) refl) (had.unnumbered name none);
}
  where
    key : Name
    key = word.word.name.now

    added : (test : ℕ → Bool) → ((a b : ℕ) → test (min a b) ≡ (test a || test b)) → (name : Name) (j : ℕ) → name_number names name ≡ Some j → has_line test new j ≡ ((bytes_eq key name && test word.word.line) || has_line test lines j)
    added test joins = line_added test joins names lines new key word.number word.word.line is.numbering is.number had.room updates

    other : (name : Name) → name_number names name ≡ None → (b : Bool) → bytes_eq key name ≡ b → b ≡ false
    other name none true e = absurd (let clash : Some word.number ≡ None = sym is.number ∙ ap (name_number names) ((bytes_eq-Decides key name).0 e) ∙ none in cc)
    other name none false e = refl

-- whether a name is among the words, by its number
pub named_by : (names : Numbering) (lines : FirstLines) (ports : List Port) (name : Name) (number : Option ℕ) → number ≡ name_number names name → AreFirstLines names lines ports →
    option_map_or (has_line (λ l. true) lines) number false ≡ is_named ports name
named_by names lines ports name None is had = sym (had.unnumbered name (sym is))
named_by names lines ports name (Some number) is had = had.named name number (sym is)

pub is_there : (lines : FirstLines) (number : ℕ) → is_some (line_in lines number) ≡ has_line (λ l. true) lines number
is_there lines number = by (line_in lines number)
  where
    by : (known : Option ℕ) → is_some known ≡ option_map_or (λ l. true) known false
    by None = refl
    by (Some line) = refl

-- the word that stands in front may stand at the end
any_turned : (test : Port → Bool) (p : Port) (ports : List Port) → list_any test (p ∷ ports) ≡ list_any test (ports ++ p ∷ [])
any_turned test p ports =
    or_comm (test p) (list_any test ports) ∙ ap (λ b. list_any test ports || b) (sym (or-false (test p))) ∙ sym (list_any-append test ports (p ∷ []))

pub turned : (names : Numbering) (lines : FirstLines) (p : Port) (ports : List Port) → AreFirstLines names lines (p ∷ ports) → AreFirstLines names lines (ports ++ p ∷ [])
turned names lines p ports had = record {
  room = had.room;
  before = λ q number is. had.before q number is ∙ any_turned (same_name_before q) p ports;
  up_to = λ q number is. had.up_to q number is ∙ any_turned (same_name_up_to q) p ports;
  named = λ name number is. had.named name number is ∙ any_turned (has_name name) p ports;
  unnumbered = λ name none. sym (any_turned (has_name name) p ports) ∙ had.unnumbered name none;
}

-- a word that is passed stands in front of those before
any_moved : (test : Port → Bool) (p : Port) (before after : List Port) → list_any test (before ++ p ∷ after) ≡ list_any test (p ∷ before ++ after)
any_moved test p before after =
    list_any-append test before (p ∷ after)
    ∙ sym (or_assoc (list_any test before) (test p) (list_any test after))
    ∙ ap (λ b. b || list_any test after) (or_comm (list_any test before) (test p))
    ∙ or_assoc (test p) (list_any test before) (list_any test after)
    ∙ ap (λ b. test p || b) (sym (list_any-append test before after))

pub moved : (names : Numbering) (lines : FirstLines) (p : Port) (before after : List Port) → AreFirstLines names lines (before ++ p ∷ after) → AreFirstLines names lines (p ∷ before ++ after)
moved names lines p before after had = record {
  room = had.room;
  before = λ q number is. had.before q number is ∙ any_moved (same_name_before q) p before after;
  up_to = λ q number is. had.up_to q number is ∙ any_moved (same_name_up_to q) p before after;
  named = λ name number is. had.named name number is ∙ any_moved (has_name name) p before after;
  unnumbered = λ name none. sym (any_moved (has_name name) p before after) ∙ had.unnumbered name none;
}

-- what does not stand up to a line does not stand before it
late : (line : ℕ) (known : Option ℕ) → option_map_or (λ l. nat_le l line) known false ≡ false → option_map_or (λ l. nat_lt l line) known false ≡ false
late line None e = refl
late line (Some l) e = let g : line < l = leb-false l line e in le-ltb l line (omega arith)

pub none_before : (names : Numbering) (lines : FirstLines) (p : Port) (ports : List Port) (number : ℕ) → name_number names p.name ≡ Some number → AreFirstLines names lines ports →
    list_any (same_name_up_to p) ports ≡ false → list_any (same_name_before p) ports ≡ false
none_before names lines p ports number is had none = sym (had.before p number is) ∙ late p.line (line_in lines number) (had.up_to p number is ∙ none)

pub not_before_itself : (p : Port) → same_name_before p p ≡ false
not_before_itself p = ap (λ b. has_name p.name p && b) (le-ltb p.line p.line (omega arith)) ∙ and-false (has_name p.name p)
