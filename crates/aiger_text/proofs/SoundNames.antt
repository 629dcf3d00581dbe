-- The names of inputs and outputs.
use Rattle.std.proofs.Common.{ℕ, zero, suc, ◌+◌, ◌^◌, ◌<◌, ◌≤◌, ◌≡◌, ◌≢◌, inl, inr, refl, sym, ap, ◌∙◌, subst, Bool, true, false, true≢false, cond, ◌==◌, List, [], ◌∷◌, ◌++◌, drop, length, get_or, Option, Some, None, arith}
use Rattle.std.specs.Prelude.{if◌then◌else◌, option_map, unwrap_or, find, take_while, decimal, All, AllPairs}
use Rattle.std.specs.Char.{is_ascii_digit}
use Rattle.std.specs.List.{before_first, after_first, position_or_len, range_with_len}
use Rattle.std.proofs.lemmas.Bool.{leb-true, and_parts}
use Rattle.std.proofs.lemmas.Fmt.{decimal_is_IsNumeral}
use Rattle.std.proofs.lemmas.List.{append-nil}
use Rattle.std.proofs.lemmas.List.Elements.{All-cons, All-drop, Contains-get_or}
use Rattle.std.proofs.lemmas.List.Quantifiers.{all_pairs_push}
use Rattle.std.proofs.lemmas.List.Sums.{AllPass-from_list_all, take_while-cons}
use Rattle.std.proofs.lemmas.Option.{none-some, same_Some}
use Rattle.std.proofs.lemmas.Slice.Eq.{bytes_eq-Decides}
use Rattle.lists.specs.Bytes.{non_empty}
use Rattle.lists.specs.Names.{is_among}
use Rattle.lists.proofs.Members.{In, in_filtered, in_mapped, passes_somewhere}
use Rattle.pattern_reading.specs.Lines.{Line, lines_from, onto_first_line}
use Rattle.pattern_reading.specs.Numbers.{number_in, ◌>>=◌}
use Rattle.pattern_reading.proofs.PortText.{digits_pass}
use Rattle.aiger_text.specs.declared.section.SymbolKind.{SymbolKind}
use Rattle.aiger_text.specs.declared.section.SymbolKind.TheVariants.{Input, Latch, Output}
use Rattle.aiger_text.specs.declared.fault.AigFaultKind.TheVariants.{SameName}
use Rattle.aiger_text.specs.Header.{is_separator}
use Rattle.aiger_text.specs.EntryFaults.{aig_fault_on}
use Rattle.aiger_text.specs.Symbols.{Symbol, SymbolLine, symbol_in, symbol_kind, symbol_line, is_symbol_line, symbol_lines, symbols_of, is_for}
use Rattle.aiger_text.specs.Names.{letter_of, plain_name, name_for, names_for, repeated_names}
use Rattle.aiger_text.specs.SoundAig.{IsAigName}

-- names of which none is among those before it
pub apart : (before : List (List ℕ)) (line : ℕ) (names : List (List ℕ)) → repeated_names before line names ≡ [] → AllPairs (λ a b. a ≢ b) before → AllPairs (λ a b. a ≢ b) (before ++ names)
apart before line [] e h = subst (AllPairs (λ a b. a ≢ b)) (sym (append-nil before)) h
apart before line (name ∷ names) e h = by (is_among name before) refl (λ f k. apart (before ++ name ∷ []) (line + 1) names f k) e
  where
    regroup : (xs : List (List ℕ)) → (xs ++ name ∷ []) ++ names ≡ xs ++ name ∷ names
    regroup [] = refl
    regroup (x ∷ xs) = ap (λ l. x ∷ l) (regroup xs)

    new : is_among name before ≡ false → (k : ℕ) (d : List ℕ) → k < length before → get_or before k d ≢ name
    new is k d l same = true≢false (sym (passes_somewhere _ before (get_or before k d) (Contains-get_or before k d l) ((bytes_eq-Decides name (get_or before k d)).1 (sym same))) ∙ is)

    by : (b : Bool) → is_among name before ≡ b → (repeated_names (before ++ name ∷ []) (line + 1) names ≡ [] → AllPairs (λ a b. a ≢ b) (before ++ name ∷ []) → AllPairs (λ a b. a ≢ b) ((before ++ name ∷ []) ++ names))
        → cond b (aig_fault_on line SameName ∷ repeated_names (before ++ name ∷ []) (line + 1) names) (repeated_names (before ++ name ∷ []) (line + 1) names) ≡ [] → AllPairs (λ a b. a ≢ b) (before ++ name ∷ names)
    by true is rest f = absurd (cc)
    by false is rest f = subst (AllPairs (λ a b. a ≢ b)) (regroup before) (rest f (all_pairs_push (λ a b. a ≢ b) before name h (new is)))

-- no line of a text has a line feed
abbrev HasNoFeed : List ℕ → Type 0
HasNoFeed bytes = All (λ b. b ≢ 10) bytes

abbrev HaveNoFeeds : List Line → Type 0
HaveNoFeeds lines = (line : Line) → In line lines → HasNoFeed line.bytes

onto : (n b : ℕ) (lines : List Line) → b ≢ 10 → HaveNoFeeds lines → HaveNoFeeds (onto_first_line n b lines)
onto n b [] other h line (inl e) = subst (λ (l : Line). HasNoFeed l.bytes) (sym e) (All-cons (λ c. c ≢ 10) b [] other (λ k d l. absurd (omega (arith, l))))
onto n b [] other h line (inr i) = absurd i
onto n b (first ∷ lines) other h line (inl e) = subst (λ (l : Line). HasNoFeed l.bytes) (sym e) (All-cons (λ c. c ≢ 10) b first.bytes other (h first (inl refl)))
onto n b (first ∷ lines) other h line (inr i) = h line (inr i)

pub no_feeds : (n : ℕ) (bytes : List ℕ) → HaveNoFeeds (lines_from n bytes)
no_feeds n [] = λ line i. absurd i
no_feeds n (b ∷ bs) = by (b == 10) refl (no_feeds (n + 1) bs) (no_feeds n bs)
  where
    by : (t : Bool) → (b == 10) ≡ t → HaveNoFeeds (lines_from (n + 1) bs) → HaveNoFeeds (lines_from n bs)
        → HaveNoFeeds (if t then record { number = n; bytes = []; is_ended = true } ∷ lines_from (n + 1) bs else onto_first_line n b (lines_from n bs))
    by true is h k line (inl e) = subst (λ (l : Line). HasNoFeed l.bytes) (sym e) (λ j d l. absurd (omega (arith, l)))
    by true is h k line (inr i) = h line i
    by false is h k line i = onto n b (lines_from n bs) (λ e. true≢false (sym (ap (λ c. c == 10) e) ∙ is)) k line i

in_dropped : {X : Type 0} (n : ℕ) (xs : List X) (x : X) → In x (drop n xs) → In x xs
in_dropped zero xs x i = i
in_dropped (suc n) [] x i = i
in_dropped (suc n) (y ∷ ys) x i = inr (in_dropped n ys x i)

in_front : {X : Type 0} (p : X → Bool) (xs : List X) (x : X) → In x (take_while p xs) → In x xs
in_front p [] x i = i
in_front {X} p (y ∷ ys) x i = by (p y) (λ j. in_front p ys x j) (subst (In x) (take_while-cons p y ys) i)
  where
    by : (b : Bool) → (In x (take_while p ys) → In x ys) → In x (cond b (y ∷ take_while p ys) []) → In x (y ∷ ys)
    by true rest (inl e) = inl e
    by true rest (inr j) = inr (rest j)
    by false rest j = absurd j

no_feed_after : (bytes : List ℕ) → HasNoFeed bytes → HasNoFeed (after_first is_separator bytes)
no_feed_after bytes h = All-drop (λ b. b ≢ 10) (position_or_len is_separator bytes + 1) bytes h

bound : {A B : Type 0} (o : Option A) (f : A → Option B) (y : B) → (o >>= f) ≡ Some y → (x : A) × (o ≡ Some x) × (f x ≡ Some y)
bound None f y e = absurd (none-some y e)
bound (Some x) f y e = (x, refl, e)

is_some_name : (bytes name : List ℕ) → non_empty bytes ≡ Some name → (name ≡ bytes) × (name ≢ [])
is_some_name [] name e = absurd (none-some _ e)
is_some_name (b ∷ bs) name e = (sym (same_Some _ _ e), λ none. (let f : b ∷ bs ≡ [] = same_Some _ _ e ∙ none in cc))

symbol_named : (bytes : List ℕ) (symbol : Symbol) → HasNoFeed bytes → symbol_in bytes ≡ Some symbol → IsAigName symbol.name
symbol_named [] symbol h e = absurd (none-some _ e)
symbol_named (letter ∷ bytes) symbol h e =
    let (kind, is_kind, rest) = bound (symbol_kind letter) _ symbol e in
    let (place, is_place, rest_2) = bound (number_in (before_first is_separator bytes)) _ symbol rest in
    let (name, is_name, rest_3) = bound (non_empty (after_first is_separator bytes)) _ symbol rest_2 in
    let same : symbol.name ≡ name = sym (ap (λ (s : Symbol). s.name) (same_Some _ _ rest_3)) in
    let n = is_some_name (after_first is_separator bytes) name is_name in
    subst IsAigName (sym same) (n.1, subst HasNoFeed (sym n.0) (no_feed_after bytes (λ k d l. h (suc k) d (omega (arith, l)))))

-- the symbols of lines of a text have names
pub symbols_named : (lines : List Line) → HaveNoFeeds lines → (symbol : Symbol) → In symbol (symbols_of (symbol_lines lines)) → IsAigName symbol.name
symbols_named lines h symbol i =
    let (line, in_lines, says) = in_filtered (λ (l : SymbolLine). l.symbol) (symbol_lines lines) symbol i in
    let (first, there, is) = in_mapped symbol_line (take_while is_symbol_line lines) line in_lines in
    symbol_named first.bytes symbol (h first (in_front is_symbol_line lines first there)) (sym (ap (λ (l : SymbolLine). l.symbol) is) ∙ says)

no_feed_in : (n : ℕ) → n < 2 ^ 64 → HasNoFeed (decimal n)
no_feed_in n small k d l e =
    let digit : is_ascii_digit (get_or (decimal n) k d) ≡ true = AllPass-from_list_all is_ascii_digit (decimal n) (digits_pass (decimal n) (decimal_is_IsNumeral n small).0.1) k d l in
    let low : 48 ≤ get_or (decimal n) k d = leb-true _ _ (and_parts _ _ digit).0 in
    omega (arith, low, e)

plain_named : (kind : SymbolKind) (place : ℕ) → place < 2 ^ 64 → IsAigName (plain_name kind place)
plain_named kind place small = ((λ e. (let f : letter_of kind ∷ decimal place ≡ [] = e in cc)), All-cons (λ b. b ≢ 10) (letter_of kind) (decimal place) (letter kind) (no_feed_in place small))
  where
    letter : (kind : SymbolKind) → letter_of kind ≢ 10
    letter Input = λ e. omega (arith, e)
    letter Latch = λ e. omega (arith, e)
    letter Output = λ e. omega (arith, e)

found_in : (p : Symbol → Bool) (symbols : List Symbol) (symbol : Symbol) → find p symbols ≡ Some symbol → In symbol symbols
found_in p [] symbol e = absurd (none-some _ e)
found_in p (first ∷ symbols) symbol e = by (p first) (λ f. found_in p symbols symbol f) e
  where
    by : (b : Bool) → (find p symbols ≡ Some symbol → In symbol symbols) → cond b (Some first) (find p symbols) ≡ Some symbol → In symbol (first ∷ symbols)
    by true rest f = inl (sym (same_Some _ _ f))
    by false rest f = inr (rest f)

name_is_one : (symbols : List Symbol) → ((symbol : Symbol) → In symbol symbols → IsAigName symbol.name) → (kind : SymbolKind) (place : ℕ) → place < 2 ^ 64 → IsAigName (name_for symbols kind place)
name_is_one symbols h kind place small = by (find (is_for kind place) symbols) refl
  where
    by : (o : Option Symbol) → find (is_for kind place) symbols ≡ o → IsAigName (unwrap_or (option_map (λ (s : Symbol). s.name) o) (plain_name kind place))
    by None e = plain_named kind place small
    by (Some s) e = h s (found_in (is_for kind place) symbols s e)

in_range : (first count n : ℕ) → In n (range_with_len first count) → n < first + count
in_range first zero n i = absurd i
in_range first (suc count) n (inl e) = omega (arith, e)
in_range first (suc count) n (inr i) = let h : n < first + 1 + count = in_range (first + 1) count n i in omega (arith, h)

-- all names are such
pub names_are_names : (symbols : List Symbol) → ((symbol : Symbol) → In symbol symbols → IsAigName symbol.name) → (kind : SymbolKind) (count : ℕ) → count < 2 ^ 64 → (name : List ℕ) → In name (names_for symbols kind count) → IsAigName name
names_are_names symbols h kind count small name i =
    let (place, there, is) = in_mapped (name_for symbols kind) (range_with_len 0 count) name i in
    let low : place < 0 + count = in_range 0 count place there in
    subst IsAigName (sym is) (name_is_one symbols h kind place (omega (arith, low, small)))

pub in_later : {X : Type 0} (n : ℕ) (xs : List X) (x : X) → In x (drop n xs) → In x xs
in_later n xs x i = in_dropped n xs x i
