-- The first line of any text.
use Rattle.std.proofs.Common.{ℕ, ◌+◌, ◌-◌, ◌≡◌, ◌≢◌, refl, sym, ap, ◌∙◌, Bool, true, false, ◌==◌, List, [], ◌∷◌, ◌++◌, length, take}
use Rattle.std.specs.Prelude.{if◌then◌else◌, slice_index}
use Rattle.std.specs.List.{All}
use Rattle.std.specs.Str.Lines.{strip_carriage_return}
use Rattle.std.proofs.lemmas.List.Elements.{All-head, All-tail, All-take}
use Rattle.pattern_reading.specs.Lines.{lines_from, onto_first_line, with_line_feeds}
use Rattle.pattern_reading.specs.Laws.{HasLineThenRest, HasLoneLine}
use Rattle.pattern_reading.proofs.LineText.{lines_moved}
use Rattle.std.proofs.lemmas.Bool.{ne_eqb}
use Rattle.pattern_reading.proofs.RustLines.{strip_onto}
use Rattle.std.proofs.lemmas.Bool.{and_right}
use Rattle.pattern_reading.proofs.LineText.{byte_before}

abbrev pub HasNoFeed : List ℕ → Type 0
HasNoFeed bytes = All (λ b. b ≢ 10) bytes

lone_before : (b : ℕ) (rest : List ℕ) (t : Bool) → (b == 13) ≡ t → with_line_feeds (b ∷ 10 ∷ rest) ≡ strip_carriage_return (b ∷ []) ++ (10 ∷ with_line_feeds rest)
lone_before b rest true e = rw e refl
lone_before b rest false e = rw e refl

kept_byte : (b c : ℕ) (cs : List ℕ) → c ≢ 10 → with_line_feeds (b ∷ c ∷ cs) ≡ b ∷ with_line_feeds (c ∷ cs)
kept_byte b c cs h = rw (and_right (b == 13) (c == 10) (ne_eqb c 10 h)) refl

feeds_before : (bytes rest : List ℕ) → HasNoFeed bytes → with_line_feeds (bytes ++ (10 ∷ rest)) ≡ strip_carriage_return bytes ++ (10 ∷ with_line_feeds rest)
feeds_before [] rest h = refl
feeds_before (b ∷ []) rest h = lone_before b rest _ refl
feeds_before (b ∷ c ∷ cs) rest h =
    let tail = All-tail (λ d. d ≢ 10) b (c ∷ cs) h in
    kept_byte b c (cs ++ (10 ∷ rest)) (All-head (λ d. d ≢ 10) c cs tail)
    ∙ ap (λ t. b ∷ t) (feeds_before (c ∷ cs) rest tail)
    ∙ ap (λ t. t ++ (10 ∷ with_line_feeds rest)) (sym (strip_onto b (c ∷ cs) (λ e. absurd (cons_nil e))))
  where
    cons_nil : (c ∷ cs) ≡ [] → ⊥
    cons_nil e = cc

feeds_alone : (bytes : List ℕ) → HasNoFeed bytes → with_line_feeds bytes ≡ bytes
feeds_alone [] h = refl
feeds_alone (b ∷ []) h = rw (and_right (b == 13) false refl) refl
feeds_alone (b ∷ c ∷ cs) h =
    let tail = All-tail (λ d. d ≢ 10) b (c ∷ cs) h in
    kept_byte b c cs (All-head (λ d. d ≢ 10) c cs tail) ∙ ap (λ t. b ∷ t) (feeds_alone (c ∷ cs) tail)

cut_before : (n : ℕ) (bytes rest : List ℕ) → HasNoFeed bytes → lines_from n (bytes ++ (10 ∷ rest)) ≡ record { number = n; bytes = bytes; is_ended = true } ∷ lines_from (n + 1) rest
cut_before n [] rest h = refl
cut_before n (b ∷ bytes) rest h =
    byte_before n b (bytes ++ (10 ∷ rest)) (All-head (λ d. d ≢ 10) b bytes h)
    ∙ ap (onto_first_line n b) (cut_before n bytes rest (All-tail (λ d. d ≢ 10) b bytes h))

uncut : (n b : ℕ) (bytes : List ℕ) → HasNoFeed (b ∷ bytes) → lines_from n (b ∷ bytes) ≡ record { number = n; bytes = b ∷ bytes; is_ended = false } ∷ []
uncut n b [] h = byte_before n b [] (All-head (λ d. d ≢ 10) b [] h)
uncut n b (c ∷ cs) h =
    byte_before n b (c ∷ cs) (All-head (λ d. d ≢ 10) b (c ∷ cs) h) ∙ ap (onto_first_line n b) (uncut n c cs (All-tail (λ d. d ≢ 10) b (c ∷ cs) h))

stripped : (bytes : List ℕ) → HasNoFeed bytes → HasNoFeed (strip_carriage_return bytes)
stripped bytes h = by_test (slice_index bytes (length bytes - 1) == 13)
  where
    by_test : (t : Bool) → HasNoFeed (if t then take (length bytes - 1) bytes else bytes)
    by_test true = All-take (λ b. b ≢ 10) (length bytes - 1) bytes h
    by_test false = h

pub line_then_rest : (bytes rest : List ℕ) → HasLineThenRest bytes rest
line_then_rest bytes rest h =
    ap (lines_from 1) (feeds_before bytes rest h)
    ∙ cut_before 1 (strip_carriage_return bytes) (with_line_feeds rest) (stripped bytes h)
    ∙ ap (λ ls. record { number = 1; bytes = strip_carriage_return bytes; is_ended = true } ∷ ls) (lines_moved 1 1 (with_line_feeds rest))

pub lone_line : (bytes : List ℕ) → HasLoneLine bytes
lone_line [] h some = absurd (some refl)
lone_line (b ∷ bytes) h some = ap (lines_from 1) (feeds_alone (b ∷ bytes) h) ∙ uncut 1 b bytes h
