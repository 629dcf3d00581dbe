-- The names of ports in a table that a text reads as, where none is bad: no two ports bear one name, and each is a word.
use Rattle.std.proofs.Common.{◌≡◌, ◌≢◌, refl, sym, ◌∙◌, ap, ap₂, ℕ, suc, ◌-◌, ◌<◌, ◌==◌, Bool, true, false, not, ◌&&◌, ◌||◌, true≢false, List, [], ◌∷◌, length, get_or, arith}
use Rattle.std.specs.Prelude.{AllPairs}
use Rattle.std.specs.List.{list_any, list_all}
use Rattle.std.specs.Str.{bytes_eq}
use Rattle.std.proofs.lemmas.Bool.{and_from, not-false}
use Rattle.std.proofs.lemmas.Bool.Decides.{nat_tests}
use Rattle.std.proofs.lemmas.List.{length-map, get_or-map}
use Rattle.std.proofs.lemmas.List.Folds.{list_any_at}
use Rattle.std.proofs.lemmas.Slice.Eq.{bytes_eq-Decides}
use Rattle.lists.proofs.Bools.{or_false_left, or_false_right}
use Rattle.blif_text.specs.LogicalLines.{is_space, is_newline, is_hash}
use Rattle.netlist_core.specs.Names.{Name}
use Rattle.pattern_reading.specs.declared.ports.PortLine.{PortLine}
use Rattle.pattern_reading.specs.declared.ports.Ports.{Ports}
use Rattle.pattern_reading.specs.Ports.{names_of}
use Rattle.pattern_reading.specs.SoundTable.{IsSoundTable}
use Rattle.lifted_designs.specs.Runs.{ArePortNames}
use Rattle.lifted_designs.specs.Words.{ends_word, ends_well, is_word}
use Rattle.tile_match.specs.Names.{is_break, is_bad_name, is_bad_port, shares_name, has_bad_name}

no_line : PortLine
no_line = record { x = 0; y = 0; name = [] }

-- the name of a line of that number
name_at : (lines : List PortLine) (i : ℕ) (d : Name) → i < length (names_of lines) → (i < length lines) × (get_or (names_of lines) i d ≡ (get_or lines i no_line).name)
name_at lines i d lt =
    let low : i < length lines = omega (arith, lt, length-map lines (λ (line : PortLine). line.name)) in
    (low, get_or-map (λ (line : PortLine). line.name) lines i no_line d low)

distinct : (lines : List PortLine) → AllPairs (λ a b. a.name ≢ b.name) lines → AllPairs (λ a b. a ≢ b) (names_of lines)
distinct lines h i j d before within same =
    let first = name_at lines i d (omega (arith, before, within)) in
    let second = name_at lines j d within in
    h i j no_line before second.0 (sym first.1 ∙ same ∙ second.1)

pub are_port_names : (ports : Ports) → IsSoundTable ports → has_bad_name ports ≡ false → ArePortNames (names_of ports.ins) (names_of ports.outs)
are_port_names ports sound good = record {
  one_input = distinct ports.ins sound.one_input;
  one_output = distinct ports.outs sound.one_output;
  apart = λ i j low low' same. (let a = name_at ports.ins i [] low in
      let b = name_at ports.outs j [] low' in
      let named = list_any_at (λ (port : PortLine). bytes_eq port.name (get_or ports.ins i no_line).name) ports.outs j no_line b.0
      ((bytes_eq-Decides (get_or ports.outs j no_line).name (get_or ports.ins i no_line).name).1 (sym b.1 ∙ sym same ∙ a.1)) in
      let shared = list_any_at (shares_name ports.outs) ports.ins i no_line a.0 named in
      true≢false (sym shared ∙ or_false_right _ _ good));
}

-- the bytes that no name may have are those that end a word
same_byte : (b : ℕ) → is_break b ≡ ends_word b
same_byte b = grind (arith, nat_tests)

same_bytes : (name : Name) → list_any is_break name ≡ list_any ends_word name
same_bytes [] = refl
same_bytes (b ∷ bs) = ap₂ (λ x y. x || y) (same_byte b) (same_bytes bs)

-- the last byte of a name
abbrev last_of : Name → ℕ
last_of name = get_or name (length name - 1) 0

last_is : (b c : ℕ) (bs : Name) → last_of (c ∷ bs) ≡ last_of (b ∷ c ∷ bs)
last_is b c bs = let place : length (b ∷ c ∷ bs) - 1 ≡ suc (length (c ∷ bs) - 1) = omega arith in ap (λ (k : ℕ). get_or (b ∷ c ∷ bs) k 0) (sym place)

ends : (b : ℕ) (bs : Name) → ends_well (b ∷ bs) ≡ (not (last_of (b ∷ bs) == 92) && not (is_space (last_of (b ∷ bs))))
ends b [] = refl
ends b (c ∷ bs) = ends c bs ∙ ap (λ (last : ℕ). not (last == 92) && not (is_space last)) (last_is b c bs)

no_space : (b : ℕ) → ends_word b ≡ false → is_space b ≡ false
no_space b e = or_false_left (is_space b) (is_newline b) (or_false_left (is_space b || is_newline b) (is_hash b) e)

last_no_space : (b : ℕ) (bs : Name) → list_any ends_word (b ∷ bs) ≡ false → is_space (last_of (b ∷ bs)) ≡ false
last_no_space b [] e = no_space b (or_false_left _ _ e)
last_no_space b (c ∷ bs) e = ap is_space (sym (last_is b c bs)) ∙ last_no_space c bs (or_false_right _ _ e)

by_parts : (breaks joins space : Bool) → (breaks ≡ false → space ≡ false) → (breaks || joins) ≡ not ((not joins && not space) && not breaks)
by_parts true true space h = refl
by_parts true false true h = refl
by_parts true false false h = refl
by_parts false true space h = refl
by_parts false false true h = absurd (true≢false (h refl))
by_parts false false false h = refl

-- a name is bad exactly where it is no word
pub bad_is_no_word : (name : Name) → is_bad_name name ≡ not (is_word name)
bad_is_no_word [] = refl
bad_is_no_word (b ∷ bs) =
    let some : (length (b ∷ bs) == 0) ≡ false = grind (arith, nat_tests) in
    ap (λ (none : Bool). (none || list_any is_break (b ∷ bs)) || last_of (b ∷ bs) == 92) some
    ∙ ap (λ (breaks : Bool). breaks || last_of (b ∷ bs) == 92) (same_bytes (b ∷ bs))
    ∙ by_parts (list_any ends_word (b ∷ bs)) (last_of (b ∷ bs) == 92) (is_space (last_of (b ∷ bs))) (last_no_space b bs)
    ∙ ap (λ (well : Bool). not (well && not (list_any ends_word (b ∷ bs)))) (sym (ends b bs))

all_words : (lines : List PortLine) → list_any is_bad_port lines ≡ false → list_all is_word (names_of lines) ≡ true
all_words [] e = refl
all_words (line ∷ lines) e =
    let good : not (is_word line.name) ≡ false = sym (bad_is_no_word line.name) ∙ or_false_left _ _ e in
    and_from _ _ (not-false (is_word line.name) good) (all_words lines (or_false_right _ _ e))

pub ins_are_words : (ports : Ports) → has_bad_name ports ≡ false → list_all is_word (names_of ports.ins) ≡ true
ins_are_words ports good = all_words ports.ins (or_false_left _ _ (or_false_left _ _ good))

pub outs_are_words : (ports : Ports) → has_bad_name ports ≡ false → list_all is_word (names_of ports.outs) ≡ true
outs_are_words ports good = all_words ports.outs (or_false_right _ _ (or_false_left _ _ good))
