-- Where clap takes the words of a command, each of its required options has a value.
use Rattle.std.proofs.Common.{◌≡◌, ◌∙◌, ◌<◌, ◌⊎◌, inl, inr, ℕ, zero, suc, Bool, List, [], ◌∷◌, ◌++◌, ◌&&◌, ◌||◌, length, refl, codes, true, false, not, Some, None, Option, ap, sym, subst, true≢false, arith, option_and_then, is_some}
use Rattle.std.specs.Prelude.{⊤, if◌then◌else◌, find, fold, slice_get, drop, encode_utf8}
use Rattle.std.specs.List.{AllByRecursion, list_all}
use Rattle.std.proofs.lemmas.Slice.Eq.{bytes_eq-Decides}
use Rattle.std.specs.Option.{option_map_or}
use Rattle.std.specs.Str.{bytes_eq, chars}
use Rattle.std.proofs.lemmas.Bool.{and_parts}
use Rattle.clap.specs.Facts.{explicit_source}
use Rattle.clap.specs.Lexer.{long_of, short_of}
use Rattle.clap.specs.Takes.{use_passes, settle_passes, react_passes, option_passes, long_passes, flag_word_passes, other_passes, word_passes, positional_passes, step_passes, turn_passes, walk_passes, level_passes, is_given, default_passes}
use Rattle.clap.specs.Walk.{Held, Outcome, Row, Rule, Step, Text, Waiting, Walk, done, waits, plain, refused, idle, option, positional, next, trailing, subcommand, value, at_row, more_values, without, used, used_by_id, settled, settled_rows, reacted, pushed, option_met, flag_met, long_met, bundle, bundle_met, bundle_step, option_word, plain_word, after_flag, short_or_plain, long_or_other, subcommand_met, subcommand_or_other, word_met, positional_held, to_positional, after_step, walked_from, walked, walk, walk_from, arg_by_id, arg_by_long, arg_by_short, arg_by_index, short_met, first_of, finished, rows_after, nothing_held, has_row, with_default, takes_values, takes_several, is_pending, has_long, has_short}
use Rattle.clap.specs.declared.parser.matches.ValueSource.TheVariants.{CommandLine}
use Rattle.command_words.proofs.Rules.{leaf, option_rule, words_rule}

-- a row of an option has a value
abbrev IsFilled : Row → Type 0
IsFilled r = bytes_eq r.id (codes "streams") ≡ false → 0 < length r.values

abbrev AreFilled : List Row → Type 0
AreFilled = AllByRecursion IsFilled

append_filled : (xs ys : List Row) → AreFilled xs → AreFilled ys → AreFilled (xs ++ ys)
append_filled [] ys p q = q
append_filled (x ∷ xs) ys p q = (p.0, append_filled xs ys p.1 q)

at_row_filled : (id : Text) (change : Row → List Row) (missing rows : List Row) → AreFilled missing → ((r : Row) → IsFilled r → AreFilled (change r)) → AreFilled rows
    → AreFilled (at_row id change missing rows)
at_row_filled id change missing [] m each f = m
at_row_filled id change missing (r ∷ rs) m each f = go (bytes_eq r.id id) (at_row_filled id change missing rs m each f.1)
  where
    go : (t : Bool) → AreFilled (at_row id change missing rs) → AreFilled (if t then change r ++ rs else r ∷ at_row id change missing rs)
    go true later = append_filled (change r) rs (each r f.0) f.1
    go false later = (f.0, later)

longer : (xs ys : List Text) → 0 < length xs → 0 < length (xs ++ ys)
longer [] ys lt = absurd (omega (arith, lt))
longer (x ∷ xs) ys lt = omega arith

longer_end : (xs : List Text) (y : Text) (ys : List Text) → 0 < length (xs ++ y ∷ ys)
longer_end [] y ys = omega arith
longer_end (x ∷ xs) y ys = omega arith

option_used : (again : Bool) (name : Text) (required : Bool) (values : List Text) (rows : List Row) → use_passes again (option_rule name required) values rows ≡ true → AreFilled rows
    → AreFilled (used (option_rule name required) values rows)
option_used again name required [] rows e f = absurd (true≢false (sym e))
option_used again name required (v ∷ vs) rows e f =
    at_row_filled name (more_values CommandLine (v ∷ vs)) _ (without name rows) ((λ _. omega arith), tt) (λ r g. ((λ _. longer_end r.values v vs), tt))
    (at_row_filled name (λ _. []) [] rows tt (λ r g. tt) f)

streams_used : (values : List Text) (rows : List Row) → AreFilled rows → AreFilled (used words_rule values rows)
streams_used [] rows f = at_row_filled (codes "streams") (more_values CommandLine []) _ rows ((λ e. absurd (true≢false e)), tt) (λ r g. ((λ e. longer r.values [] (g e)), tt)) f
streams_used (v ∷ vs) rows f = at_row_filled (codes "streams") (more_values CommandLine (v ∷ vs)) _ rows ((λ e. absurd (true≢false e)), tt) (λ r g. ((λ e. longer r.values (v ∷ vs) (g e)), tt)) f

-- an argument is an option of one value, or the last words
abbrev pub IsOwn : Rule → Type 0
IsOwn a = ((name : Text) × (required : Bool) × (a ≡ option_rule name required)) ⊎ (a ≡ words_rule)

abbrev IsOwnFound : Option Rule → Type 0
IsOwnFound None = ⊤
IsOwnFound (Some a) = IsOwn a

used_filled : (again : Bool) (a : Rule) (values : List Text) (rows : List Row) → IsOwn a → use_passes again a values rows ≡ true → AreFilled rows → AreFilled (used a values rows)
used_filled again a values rows (inl (name, required, e)) passes f =
    subst (λ (x : Rule). AreFilled (used x values rows)) (sym e) (option_used again name required values rows (ap (λ (x : Rule). use_passes again x values rows) (sym e) ∙ passes) f)
used_filled again a values rows (inr e) passes f = subst (λ (x : Rule). AreFilled (used x values rows)) (sym e) (streams_used values rows f)

same : (t : Bool) (rows : List Row) → (if t then rows else rows) ≡ rows
same true rows = refl
same false rows = refl

no_default : (a : Rule) (rows : List Row) → IsOwn a → with_default rows a ≡ rows
no_default a rows (inl (name, required, e)) = ap (with_default rows) e ∙ same (has_row name rows) rows
no_default a rows (inr e) = ap (with_default rows) e ∙ same (has_row (codes "streams") rows) rows

no_defaults : (rules : List Rule) (rows : List Row) → AllByRecursion IsOwn rules → fold with_default rows rules ≡ rows
no_defaults [] rows all = refl
no_defaults (a ∷ rules) rows all = ap (λ (r : List Row). fold with_default r rules) (no_default a rows all.0) ∙ no_defaults rules rows all.1

-- one that is found is one of them
found_own : (rules : List Rule) (p : Rule → Bool) → AllByRecursion IsOwn rules → IsOwnFound (find p rules)
found_own [] p all = tt
found_own (a ∷ rules) p all = go (p a) (found_own rules p all.1)
  where
    go : (t : Bool) → IsOwnFound (find p rules) → IsOwnFound (if t then Some a else find p rules)
    go true later = all.0
    go false later = later

find_filled : (name : Text) (rows : List Row) → bytes_eq name (codes "streams") ≡ false → AreFilled rows → is_given name rows ≡ true → is_some (first_of name rows) ≡ true
find_filled name [] other f e = absurd (true≢false (sym e))
find_filled name (r ∷ rs) other f e = go (bytes_eq r.id name) refl e (find_filled name rs other f.1)
  where
    first : (xs : List Text) → 0 < length xs → is_some (slice_get xs 0) ≡ true
    first [] lt = absurd (omega (arith, lt))
    first (x ∷ xs) lt = refl

    go : (t : Bool) → bytes_eq r.id name ≡ t
        → option_map_or (λ (x : Row). explicit_source x.source) (if t then Some r else find (λ x. bytes_eq x.id name) rs) false ≡ true
        → (is_given name rs ≡ true → is_some (first_of name rs) ≡ true)
        → is_some (option_and_then (λ (x : Row). slice_get x.values 0) (if t then Some r else find (λ x. bytes_eq x.id name) rs)) ≡ true
    go true is e later =
        let same : r.id ≡ name = (bytes_eq-Decides r.id name).0 is in
        first r.values (f.0 (ap (λ (id : Text). bytes_eq id (codes "streams")) same ∙ other))
    go false is e later = later e

-- none of them has a short name
no_short_of : (a : Rule) (x : ℕ) → IsOwn a → (not (is_some a.index) && has_short a x) ≡ false
no_short_of a x (inl (name, required, e)) = ap (λ (r : Rule). not (is_some r.index) && has_short r x) e
no_short_of a x (inr e) = ap (λ (r : Rule). not (is_some r.index) && has_short r x) e

no_short : (rules : List Rule) (x : ℕ) → AllByRecursion IsOwn rules → arg_by_short rules x ≡ None
no_short [] x all = refl
no_short (a ∷ rules) x all = ap (λ (t : Bool). if t then Some a else arg_by_short rules x) (no_short_of a x all.0) ∙ no_short rules x all.1

-- each required option has a value
abbrev pub AreGiven : List Row → List Rule → Type 0
AreGiven rows = AllByRecursion (λ a. a.required ≡ true → bytes_eq a.id (codes "streams") ≡ false → is_some (first_of a.id rows) ≡ true)

all_given : (rows : List Row) → AreFilled rows → (some : List Rule) → list_all (λ a. not a.required || is_given a.id rows) some ≡ true → AreGiven rows some
all_given rows f [] e = tt
all_given rows f (a ∷ some) e =
    let parts = and_parts (not a.required || is_given a.id rows) _ e in
    ((λ needed other. find_filled a.id rows other f (ap (λ (t : Bool). not t || is_given a.id rows) (sym needed) ∙ parts.0)), all_given rows f some parts.1)

module _ (command : Text) (rules : List Rule) (own : AllByRecursion IsOwn rules) where
  settled_filled : (again : Bool) (h : Held) → settle_passes rules again h ≡ true → AreFilled h.rows → AreFilled (settled rules h).rows
  settled_filled again h passes f = go h.pending passes
    where
      by : (o : Option Rule) (values : List Text) → IsOwnFound o → option_map_or (λ a. use_passes again a values h.rows) o true ≡ true → AreFilled (used_by_id o values h.rows)
      by None values is e = f
      by (Some a) values is e = used_filled again a values h.rows is e f

      go : (p : Option (Text × List Text)) → option_map_or (λ p. option_map_or (λ a. use_passes again a p.1 h.rows) (arg_by_id rules p.0) true) p true ≡ true → AreFilled (settled_rows rules p h.rows)
      go None e = f
      go (Some p) e = by (arg_by_id rules p.0) p.1 (found_own rules (λ a. bytes_eq a.id p.0) own) e

  reacted_filled : (again : Bool) (a : Rule) (values : List Text) (h : Held) → IsOwn a → react_passes rules again a values h ≡ true → AreFilled h.rows → AreFilled (reacted rules a values h).rows
  reacted_filled again a values h is e f =
      let parts = and_parts (settle_passes rules again h) _ e in
      used_filled again a values (settled rules h).rows is parts.1 (settled_filled again h parts.0 f)

  -- ---- one word

  plain_rows : (waiting : Waiting) (word : Text) (h : Held) → AreFilled h.rows → AreFilled (plain_word rules waiting word h).0.rows
  plain_rows idle word h f = f
  plain_rows positional word h f = f
  plain_rows (option id) word h f = go (arg_by_id rules id)
    where
      go : (o : Option Rule) → AreFilled (option_word o id word h).0.rows
      go None = f
      go (Some a) = f

  after_rows : (waiting : Waiting) (word : Text) (h : Held) (o : Outcome) → AreFilled h.rows → AreFilled (after_flag rules waiting word h o).0.rows
  after_rows waiting word h done f = f
  after_rows waiting word h (waits id) f = f
  after_rows waiting word h plain f = plain_rows waiting word h f
  after_rows waiting word h refused f = plain_rows waiting word h f

  option_filled : (again : Bool) (a : Rule) (v : Option Text) (h : Held) → IsOwn a → option_passes rules again a v h ≡ true → AreFilled h.rows → AreFilled (option_met rules a v h).0.rows
  option_filled again a (Some v) h is e f = reacted_filled again a (v ∷ []) h is e f
  option_filled again a None h is e f = settled_filled again h e f

  flag_filled : (again : Bool) (a : Rule) (v : Option Text) (h : Held) → IsOwn a → (not (is_some v) && react_passes rules again a [] h) ≡ true → AreFilled h.rows → AreFilled (flag_met rules a v h).0.rows
  flag_filled again a (Some v) h is e f = f
  flag_filled again a None h is e f = reacted_filled again a [] h is e f

  long_filled : (again : Bool) (o : Option Rule) (v : Option Text) (h : Held) → IsOwnFound o → long_passes rules again o v h ≡ true → AreFilled h.rows → AreFilled (long_met rules o v h).0.rows
  long_filled again None v h is e f = f
  long_filled again (Some a) v h is e f = go (takes_values a) e
    where
      go : (t : Bool) → (if t then option_passes rules again a v h else (not (is_some v) && react_passes rules again a [] h)) ≡ true
          → AreFilled (if t then option_met rules a v h else flag_met rules a v h).0.rows
      go true e = option_filled again a v h is e f
      go false e = flag_filled again a v h is e f

  bundle_rows : (k : ℕ) (flags : Text) (skip : ℕ) (so_far : Outcome) (h : Held) → AreFilled h.rows → AreFilled (bundle_met rules k flags skip so_far h).0.rows
  unfolding bundle_met
  bundle_rows zero flags skip so_far h f = f
  bundle_rows (suc k) flags skip so_far h f = go (slice_get (chars flags) 0) skip (bundle_rows k)
    where
      go : (o : Option ℕ) (skip : ℕ) → ((flags : Text) (skip : ℕ) (so_far : Outcome) (h : Held) → AreFilled h.rows → AreFilled (bundle_met rules k flags skip so_far h).0.rows)
          → AreFilled (bundle_step rules o flags skip so_far h (bundle_met rules k)).0.rows
      go None skip rest = f
      go (Some x) zero rest =
          let later = drop (length (encode_utf8 x)) flags in
          subst (λ (o : Option Rule). AreFilled (short_met rules o later h (bundle_met rules k later 0 done)).0.rows) (sym (no_short rules x own)) f
      go (Some x) (suc skip) rest = rest _ skip so_far h f

  flag_word_filled : (again : Bool) (waiting : Waiting) (word : Text) (p : Option (Text × Option Text)) (h : Held) → flag_word_passes rules again p word h ≡ true → AreFilled h.rows
      → AreFilled (long_or_other rules waiting word p h).0.rows
  flag_word_filled again waiting word (Some p) h e f =
      after_rows waiting word _ (long_met rules (arg_by_long rules p.0) p.1 h).1 (long_filled again (arg_by_long rules p.0) p.1 h (found_own rules (λ a. not (is_some a.index) && has_long a p.0) own) e f)
  flag_word_filled again waiting word None h e f = go (short_of word)
    where
      go : (o : Option Text) → AreFilled (short_or_plain rules waiting word o h).0.rows
      go None = plain_rows waiting word h f
      go (Some flags) = after_rows waiting word _ (bundle rules flags h).1 (bundle_rows (length flags) flags h.skip plain (record h { skip = 0 }) f)

  no_names : (waiting : Waiting) (word : Text) → subcommand_met [] waiting word ≡ None
  no_names idle word = refl
  no_names positional word = refl
  no_names (option id) word = refl

  word_filled : (is_trailing : Bool) (waiting : Waiting) (at : ℕ) (word : Text) (h : Held) → word_passes (leaf command rules) [] is_trailing waiting word h ≡ true → AreFilled h.rows
      → AreFilled (word_met rules [] is_trailing waiting at word h).0.rows
  word_filled true waiting at word h e f = f
  word_filled false waiting at word h e f =
      subst (λ (o : Option Text). AreFilled (subcommand_or_other rules o waiting at word h).0.rows) (sym (no_names waiting word))
      (go (bytes_eq word (45 ∷ 45 ∷ [])) (ap (λ (o : Option Text). other_passes (leaf command rules) o word h) (sym (no_names waiting word)) ∙ e))
    where
      go : (t : Bool) → (t || flag_word_passes rules false (long_of word) word h) ≡ true
          → AreFilled (if t then (h, trailing at) else long_or_other rules waiting word (long_of word) h).0.rows
      go true e = f
      go false e = flag_word_filled false waiting word (long_of word) h e f

  -- ---- the walk

  to_filled : (again : Bool) (a : Rule) (word : Text) (h : Held) → positional_passes rules again a h ≡ true → AreFilled h.rows → AreFilled (positional_held rules a word h).rows
  to_filled again a word h e f = go (is_pending a h.pending && takes_several a) e
    where
      go : (t : Bool) → (t || settle_passes rules again h) ≡ true → AreFilled (pushed a.id word (if t then h else settled rules h)).rows
      go true e = f
      go false e = settled_filled again h e f

  step_filled : (word : Text) (w : Walk) (h : Held) (step : Step) → step_passes (leaf command rules) w.position h step ≡ true → AreFilled h.rows → AreFilled (after_step rules word w h step).held.rows
  step_filled word w h (next waiting) e f = f
  step_filled word w h (trailing at) e f = f
  step_filled word w h (subcommand name) e f = f
  step_filled word w h value e f = go (arg_by_index rules w.position) e
    where
      go : (o : Option Rule) → option_map_or (λ a. positional_passes rules false a h) o false ≡ true → AreFilled (to_positional rules o word w h).held.rows
      go None e = f
      go (Some a) e = to_filled false a word h e f

  turn_filled : (w : Walk) (word : Text) → turn_passes (leaf command rules) [] w word ≡ true → AreFilled w.held.rows → AreFilled (walked rules [] w word).held.rows
  unfolding walked
  turn_filled w word e f = go w.stopped e
    where
      met : Held × Step
      met = word_met rules [] w.is_trailing w.waiting w.position word w.held

      go : (o : Option (Text × List Text)) → (is_some o || (word_passes (leaf command rules) [] w.is_trailing w.waiting word w.held && step_passes (leaf command rules) w.position met.0 met.1)) ≡ true
          → AreFilled (walked_from rules [] o w word).held.rows
      go (Some p) e = f
      go None e =
          let parts = and_parts (word_passes (leaf command rules) [] w.is_trailing w.waiting word w.held) _ e in
          step_filled word w met.0 met.1 parts.1 (word_filled w.is_trailing w.waiting w.position word w.held parts.0 f)

  walk_filled : (w : Walk) (words : List Text) → walk_passes (leaf command rules) [] w words ≡ true → AreFilled w.held.rows → AreFilled (fold (walked rules []) w words).held.rows
  unfolding walk_passes
  walk_filled w [] e f = f
  walk_filled w (word ∷ words) e f =
      let parts = and_parts (turn_passes (leaf command rules) [] w word) _ e in
      walk_filled (walked rules [] w word) words parts.1 (turn_filled w word parts.0 f)

  -- ---- after the walk

  -- where the command takes the words, its required options have values
  pub required_given : (words : List Text) → level_passes (leaf command rules) [] nothing_held words false ≡ true → AreGiven (rows_after rules [] words) rules
  required_given words e =
      let end = (walk rules [] nothing_held words).held in
      let walks = and_parts (walk_passes (leaf command rules) [] (walk_from nothing_held) words) _ e in
      let settles = and_parts (settle_passes rules false end) _ walks.1 in
      let held : AreFilled end.rows = walk_filled (walk_from nothing_held) words walks.0 tt in
      let rows : AreFilled (finished rules end) = subst AreFilled (sym (no_defaults rules (settled rules end).rows own)) (settled_filled false end settles.0 held) in
      let valid = (and_parts (list_all default_passes rules) _ settles.1).1 in
      all_given (finished rules end) rows rules (and_parts (list_all (λ (a : Rule). a.is_free) rules) _ valid).1
