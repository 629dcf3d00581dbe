-- References are words.
use Rattle.std.proofs.Common.{◌≡◌, ◌≢◌, refl, sym, ◌∙◌, ap, subst, ℕ, ◌+◌, ◌*◌, ◌-◌, ◌^◌, ◌≤◌, ◌<◌, inl, inr, Bool, true, false, true≢false, ◌&&◌, ◌||◌, ◌==◌, List, [], ◌∷◌, ◌++◌, length, map, get_or, All, arith}
use Rattle.std.specs.Prelude.{if◌then◌else◌, Option, Some, None, codes, decimal, is_some}
use Rattle.std.specs.Char.{is_ascii_digit}
use Rattle.std.specs.List.{AllByRecursion, join_with_byte, list_all, slice_split}
use Rattle.std.specs.Str.{byte, bytes_eq}
use Rattle.std.specs.Str.Parse.{AllDigits}
use Rattle.std.proofs.lemmas.Bool.{and_parts, cases_lt, leb-true}
use Rattle.std.proofs.lemmas.Fmt.{decimal_is_IsNumeral}
use Rattle.std.proofs.lemmas.List.Elements.{All-contains}
use Rattle.std.proofs.lemmas.List.Splits.{join_with_byte-slice_split}
use Rattle.std.proofs.lemmas.Option.{cond_some}
use Rattle.std.proofs.lemmas.Str.Parse.{digit_from_value}
use Rattle.lists.proofs.Members.{In, all_in, contains_from}
use Rattle.pattern_reading.specs.declared.ports.NetLine.{NetLine}
use Rattle.pattern_reading.specs.declared.ports.Ports.{Ports}
use Rattle.pattern_reading.specs.PortLines.{is_path_number, path_in}
use Rattle.pattern_reading.specs.SoundTable.{IsSoundNet, IsSoundTable}
use Rattle.vcd_write.specs.Reading.{IsWord}
use Rattle.vcd_write.specs.References.{escaped_reference}
use Rattle.vcd_write.proofs.EscapedNames.{references_are_words}
use Rattle.vcd_write.specs.NetWaves.{IsByteName, NetInContext, nets_in_contexts, path_before, reference_of}
use Rattle.vcd_write.proofs.Variables.{context_low, net_there}

abbrev Shown : List ℕ → Type 0
Shown bytes = AllByRecursion (λ b. (33 ≤ b) × (b ≤ 126)) bytes

shown_both : (a b : List ℕ) → Shown a → Shown b → Shown (a ++ b)
shown_both [] b ha hb = hb
shown_both (x ∷ a) b ha hb = (ha.0, shown_both a b ha.1 hb)

shown_value : (digits : List ℕ) → AllDigits 10 digits → Shown digits
shown_value [] h = tt
shown_value (d ∷ digits) h = let range = digit_from_value d h.0 in ((omega (arith, range), omega (arith, range)), shown_value digits h.1)

shown_digits : (digits : List ℕ) → list_all is_ascii_digit digits ≡ true → Shown digits
shown_digits [] e = tt
shown_digits (d ∷ digits) e =
    let parts = and_parts _ _ e in
    let low : 48 ≤ d = leb-true _ _ (and_parts _ _ parts.0).0 in
    let high : d ≤ 57 = leb-true _ _ (and_parts _ _ parts.0).1 in
    ((omega (arith, low), omega (arith, high)), shown_digits digits parts.1)

some_test : (b : Bool) (n : ℕ) → is_some (if b then Some n else None) ≡ true → b ≡ true
some_test true n e = refl
some_test false n e = e

shown_part : (part : List ℕ) → is_path_number part ≡ true → Shown part
shown_part [] e = tt
shown_part (d ∷ ds) e = shown_digits (d ∷ ds) (and_parts _ _ (some_test _ _ (and_parts _ _ e).0)).0

shown_parts : (parts : List (List ℕ)) → list_all is_path_number parts ≡ true → Shown (join_with_byte 46 parts)
shown_parts [] e = tt
shown_parts (part ∷ []) e = shown_part part (and_parts _ _ e).0
shown_parts (part ∷ next ∷ parts) e =
    shown_both part (46 ∷ join_with_byte 46 (next ∷ parts)) (shown_part part (and_parts _ _ e).0) ((omega arith, omega arith), shown_parts (next ∷ parts) (and_parts _ _ e).1)

shown_before : (path : List ℕ) → path_in path ≡ Some path → Shown (path_before path)
shown_before path e = by_test (bytes_eq path (codes "-")) (cond_some _ _ _ e).0
  where
    by_test : (b : Bool) → (b || list_all is_path_number (slice_split (λ c. c == byte ".") path)) ≡ true → Shown (if b then [] else path ++ codes "/")
    by_test true k = tt
    by_test false k =
        shown_both path (codes "/") (subst Shown (join_with_byte-slice_split 46 path) (shown_parts (slice_split (λ c. c == byte ".") path) k)) ((omega arith, omega arith), tt)

some_end : (a b : List ℕ) → b ≢ [] → a ++ b ≢ []
some_end [] b some e = some e
some_end (x ∷ a) b some e = true≢false (sym (ap is_none e))
  where
    is_none : List ℕ → Bool
    is_none [] = true
    is_none (c ∷ cs) = false

word_of : (contexts : ℕ) (variable : NetInContext) → variable.context < 2 ^ 64 → IsSoundNet variable.net → IsByteName variable.net.name → IsWord (reference_of contexts variable)
word_of contexts variable small sound bytes =
    let name : IsWord (escaped_reference variable.net.name) = references_are_words variable.net.name sound.name.0 bytes in
    let whole : List ℕ = path_before variable.net.path ++ escaped_reference variable.net.name in
    by_test (contexts == 1) whole (some_end (path_before variable.net.path) (escaped_reference variable.net.name) name.0)
    (shown_both (path_before variable.net.path) (escaped_reference variable.net.name) (shown_before variable.net.path sound.path) name.1)
  where
    by_test : (b : Bool) (text : List ℕ) → text ≢ [] → Shown text → IsWord (if b then text else decimal variable.context ++ byte ":" ∷ text)
    by_test true text some shown = (some, shown)
    by_test false text some shown = (
      some_end (decimal variable.context) (58 ∷ text) (λ e. some_end (58 ∷ []) text some e),
      shown_both (decimal variable.context) (58 ∷ text) (shown_value (decimal variable.context) (decimal_is_IsNumeral variable.context small).0.1) ((omega arith, omega arith), shown),
    )

all_of : {X Y : Type 0} (P : Y → Type 0) (f : X → Y) (xs : List X) → ((x : X) → In x xs → P (f x)) → AllByRecursion P (map f xs)
all_of P f [] each = tt
all_of P f (x ∷ xs) each = (each x (inl refl), all_of P f xs (λ y i. each y (inr i)))

small_context : (ports : Ports) (context : ℕ) → IsSoundTable ports → context < ports.c → context < 2 ^ 64
small_context ports context sound low = elim (cases_lt 1 ports.c) [
  | inl more ↦ let room = sound.room more in let p = sound.p in omega (arith, low, room, p)
  | inr one ↦ omega (arith, low, one)
]

-- the references of a sound table whose names are bytes
pub references_words : (ports : Ports) → IsSoundTable ports → All (λ net. IsByteName net.name) ports.nets → AllByRecursion IsWord (map (reference_of ports.c) (nets_in_contexts ports))
references_words ports sound bytes =
    all_of IsWord (reference_of ports.c) (nets_in_contexts ports)
    (λ variable i.
    let there = net_there ports variable i in
    word_of ports.c variable (small_context ports variable.context sound (context_low ports variable i)) (all_in IsSoundNet ports.nets variable.net sound.nets there)
    (All-contains (λ (net : NetLine). IsByteName net.name) ports.nets variable.net bytes (contains_from ports.nets variable.net there)))
