-- Where clap takes words, it finds no fault in them.
use Rattle.std.proofs.Common.{◌≡◌, ◌≤◌, ◌∙◌, ℕ, Bool, List, [], ◌∷◌, ◌==◌, ◌&&◌, refl, true, false, not, Some, None, Option, ap, sym, true≢false, is_some, nat_le, length, arith}
use Rattle.std.specs.Prelude.{◌+◌, ◌||◌, zero, suc, min, if◌then◌else◌, find, nat_lt, codes, drop, encode_utf8, slice_get}
use Rattle.std.specs.List.{list_all, list_any}
use Rattle.std.specs.Option.{option_map_or}
use Rattle.std.specs.Str.{bytes_eq, chars}
use Rattle.std.proofs.lemmas.Bool.{and_parts, leb-true, le-ltb, eqb-true, eq-eqb}
use Rattle.clap.specs.Lexer.{long_of, short_of}
use Rattle.clap.specs.Values.{is_request}
use Rattle.clap.specs.Matches.{count_text}
use Rattle.clap.specs.Facts.{explicit_source, unwrap_or_range}
use Rattle.clap.specs.Walk.{Held, Names, Row, Rule, Step, next, trailing, subcommand, value, Text, Walk, action_of, answers_to, arg_by_id, arg_by_index, arg_by_long, arg_by_short, attached_value, count_of, finished, has_row, is_empty, is_pending, most_values, nothing_held, reacted, settled, subcommand_met, takes_several, takes_values, values_or_missing, walk, walk_from, walked, with_default, word_met}
use Rattle.clap.specs.Simple.{App, Shape, argument_words, built, entered, is_simple, label_of, names_of}
use Rattle.clap.specs.Kinds.{Kinds, check_kinds, or_else, range_kinds, request_kinds}
use Rattle.clap.specs.Takes.{action_passes, built_takes, bundle_step_passes, count_passes, default_passes, entered_passes, flag_word_passes, flags_pass, is_given, is_valid, level_passes, long_passes, option_passes, other_passes, positional_passes, react_passes, set_passes, settle_passes, short_passes, step_passes, takes, turn_passes, use_passes, value_passes, values_pass, walk_passes, word_passes}
use Rattle.clap.specs.Faults.{action_fault, built_fault, bundle_step_fault, check_fault, count_fault, default_fault, defaults_fault, entered_fault, fault_of, flag_word_fault, flags_fault, level_fault, long_fault, option_fault, other_fault, positional_fault, react_fault, set_fault, settle_fault, short_fault, step_fault, turn_fault, use_fault, values_fault, walk_fault}
use Rattle.clap.specs.declared.builder.action.ArgAction.{ArgAction}
use Rattle.clap.specs.declared.error.kind.ErrorKind.TheVariants as kind
use Rattle.clap.specs.declared.builder.action.ArgAction.TheVariants.{Set, Append, SetTrue, SetFalse, Count, Help, HelpShort, HelpLong, Version}

-- ---- tests and lists of kinds

or_none : (a b : Kinds) → a ≡ [] → b ≡ [] → or_else a b ≡ []
or_none a b e f = ap (λ k. or_else k b) e ∙ f

if_true : (t : Bool) (k : Kinds) → t ≡ true → (if t then [] else k) ≡ []
if_true true k e = refl
if_true false k e = absurd (true≢false (sym e))

if_false : (t : Bool) (k other : Kinds) → t ≡ false → other ≡ [] → (if t then k else other) ≡ []
if_false true k other e f = absurd (true≢false e)
if_false false k other e f = f

-- the first test passes, or the second, which leaves no kind
if_or : (t p : Bool) (k : Kinds) → (t || p) ≡ true → (p ≡ true → k ≡ []) → (if t then [] else k) ≡ []
if_or true p k e f = refl
if_or false p k e f = f e

not_or : (t u : Bool) (k : Kinds) → (not t || u) ≡ true → (if t && not u then k else []) ≡ []
not_or true true k e = refl
not_or true false k e = absurd (true≢false (sym e))
not_or false u k e = refl

and_false : (t : Bool) → (t && false) ≡ false
and_false true = refl
and_false false = refl

of_option : {A : Type 0} (f : A → Bool) (g : A → Kinds) (o : Option A) → ((x : A) → f x ≡ true → g x ≡ []) → option_map_or f o true ≡ true → option_map_or g o [] ≡ []
of_option f g None each e = refl
of_option f g (Some x) each e = each x e

of_some : {A : Type 0} (f : A → Bool) (g : A → Kinds) (k : Kinds) (o : Option A) → ((x : A) → f x ≡ true → g x ≡ []) → option_map_or f o false ≡ true → option_map_or g o k ≡ []
of_some f g k None each e = absurd (true≢false (sym e))
of_some f g k (Some x) each e = each x e

-- ---- one use of an argument

values_none : (a : Rule) (values : List Text) → values_pass a values ≡ true → values_fault a values ≡ []
values_none a [] e = refl
values_none a (v ∷ vs) e =
    let p = and_parts (value_passes a v) (values_pass a vs) e in
    or_none _ _ (if_true (value_passes a v) _ p.0) (values_none a vs p.1)

no_value : (least n : ℕ) → least ≤ n → (nat_lt 0 least && n == 0) ≡ false
no_value least n low = go (n == 0) refl
  where
    go : (t : Bool) → (n == 0) ≡ t → (nat_lt 0 least && t) ≡ false
    go true is = let none : n ≡ 0 = eqb-true n 0 is in ap (λ t. t && true) (le-ltb 0 least (omega (arith, none, low)))
    go false is = and_false (nat_lt 0 least)

range_none : (least most n : ℕ) → least ≤ n → n ≤ most → range_kinds least most n ≡ []
range_none least most n low high = if_false (nat_lt 0 least && n == 0) _ _ (no_value least n low) (go (least == most) refl)
  where
    go : (t : Bool) → (least == most) ≡ t → (if t then (if least == n then [] else kind.WrongNumberOfValues ∷ []) else (if nat_lt n least then kind.TooFewValues ∷ [] else (if nat_lt most n then kind.TooManyValues ∷ [] else []))) ≡ []
    go true is = let same = eqb-true least most is in if_true (least == n) _ (eq-eqb least n (omega (arith, same, low, high)))
    go false is = if_false (nat_lt n least) _ _ (le-ltb n least low) (if_false (nat_lt most n) _ _ (le-ltb most n high) refl)

set_none : (again : Bool) (a : Rule) (values : List Text) (rows : List Row) → set_passes again a values rows ≡ true → set_fault again a values rows ≡ []
set_none again a values rows e =
    let p = and_parts (not (has_row a.id rows) || again) (values_pass a values) e in
    or_none _ _ (not_or (has_row a.id rows) again _ p.0) (values_none a values p.1)

count_none : (a : Rule) (values : List Text) (rows : List Row) → count_passes a values rows ≡ true → count_fault a values rows ≡ []
count_none a [] rows e = if_true (value_passes a (count_text (min (count_of a.id rows + 1) 255))) _ e
count_none a (v ∷ vs) rows e = values_none a (v ∷ vs) e

action_none : (action : ArgAction) (again : Bool) (a : Rule) (values : List Text) (rows : List Row) → action_passes action again a values rows ≡ true → action_fault action again a values rows ≡ []
action_none Set again a values rows e = set_none again a values rows e
action_none SetTrue again a values rows e = set_none again a values rows e
action_none SetFalse again a values rows e = set_none again a values rows e
action_none Append again a values rows e = values_none a values e
action_none Count again a values rows e = count_none a values rows e
action_none Help again a values rows e = absurd (true≢false (sym e))
action_none HelpShort again a values rows e = absurd (true≢false (sym e))
action_none HelpLong again a values rows e = absurd (true≢false (sym e))
action_none Version again a values rows e = absurd (true≢false (sym e))

use_none : (again : Bool) (a : Rule) (values : List Text) (rows : List Row) → use_passes again a values rows ≡ true → use_fault again a values rows ≡ []
use_none again a values rows e =
    let least = (unwrap_or_range a.range).start_inclusive in
    let p = and_parts (nat_le least (length values)) _ e in
    let q = and_parts (nat_le (length values) (most_values a)) (action_passes (action_of a) again a (values_or_missing a values) rows) p.1 in
    or_none _ _ (range_none least (most_values a) (length values) (leb-true _ _ p.0) (leb-true _ _ q.0))
    (action_none (action_of a) again a (values_or_missing a values) rows q.1)

-- ---- the walk

module _ (c : List Rule) (again : Bool) where
  settle_none : (h : Held) → settle_passes c again h ≡ true → settle_fault c again h ≡ []
  settle_none h e =
      of_option _ _ h.pending (λ (p : Text × List Text). of_option _ _ (arg_by_id c p.0) (λ (a : Rule). use_none again a p.1 h.rows)) e

  react_none : (a : Rule) (values : List Text) (h : Held) → react_passes c again a values h ≡ true → react_fault c again a values h ≡ []
  react_none a values h e =
      let p = and_parts (settle_passes c again h) (use_passes again a values (settled c h).rows) e in
      or_none _ _ (settle_none h p.0) (use_none again a values (settled c h).rows p.1)

  option_none : (a : Rule) (v : Option Text) (h : Held) → option_passes c again a v h ≡ true → option_fault c again a v h ≡ []
  option_none a (Some v) h e = react_none a (v ∷ []) h e
  option_none a None h e = settle_none h e

  long_none : (a : Option Rule) (v : Option Text) (h : Held) → long_passes c again a v h ≡ true → long_fault c again a v h ≡ []
  long_none None v h e = absurd (true≢false (sym e))
  long_none (Some a) v h e = go (takes_values a) v e
    where
      go : (t : Bool) (v : Option Text) → (if t then option_passes c again a v h else (not (is_some v) && react_passes c again a [] h)) ≡ true
          → (if t then option_fault c again a v h else (if is_some v then kind.TooManyValues ∷ [] else react_fault c again a [] h)) ≡ []
      go true v e = option_none a v h e
      go false None e = react_none a [] h e
      go false (Some v) e = absurd (true≢false (sym e))

  short_none : (a : Option Rule) (rest : Text) (h : Held) (f : Held → Bool) (g : Held → Kinds) → ((h : Held) → f h ≡ true → g h ≡ []) → short_passes c again a rest h f ≡ true → short_fault c again a rest h g ≡ []
  short_none None rest h f g each e = absurd (true≢false (sym e))
  short_none (Some a) rest h f g each e = go (takes_values a) e
    where
      go : (t : Bool) → (if t then option_passes c again a (attached_value rest) h else (react_passes c again a [] h && f (reacted c a [] h))) ≡ true
          → (if t then option_fault c again a (attached_value rest) h else or_else (react_fault c again a [] h) (g (reacted c a [] h))) ≡ []
      go true e = option_none a (attached_value rest) h e
      go false e =
          let p = and_parts (react_passes c again a [] h) (f (reacted c a [] h)) e in
          or_none _ _ (react_none a [] h p.0) (each (reacted c a [] h) p.1)

  flag_none : (x : Option ℕ) (flags : Text) (skip : ℕ) (h : Held) (f : Text → ℕ → Held → Bool) (g : Text → ℕ → Held → Kinds) → ((flags : Text) (skip : ℕ) (h : Held) → f flags skip h ≡ true → g flags skip h ≡ [])
      → bundle_step_passes c again x flags skip h f ≡ true → bundle_step_fault c again x flags skip h g ≡ []
  flag_none None flags skip h f g each e = refl
  flag_none (Some x) flags zero h f g each e =
      let rest = drop (length (encode_utf8 x)) flags in
      short_none (arg_by_short c x) rest h (f rest 0) (g rest 0) (λ (h : Held). each rest 0 h) e
  flag_none (Some x) flags (suc skip) h f g each e = each (drop (length (encode_utf8 x)) flags) skip h e

  flags_none : (k : ℕ) (flags : Text) (skip : ℕ) (h : Held) → flags_pass c again k flags skip h ≡ true → flags_fault c again k flags skip h ≡ []
  unfolding flags_pass flags_fault
  flags_none zero flags skip h e = refl
  flags_none (suc k) flags skip h e = flag_none (slice_get (chars flags) 0) flags skip h (flags_pass c again k) (flags_fault c again k) (flags_none k) e

  flag_word_none : (met : Option (Text × Option Text)) (word : Text) (h : Held) → flag_word_passes c again met word h ≡ true → flag_word_fault c again met word h ≡ []
  flag_word_none (Some p) word h e = long_none (arg_by_long c p.0) p.1 h e
  flag_word_none None word h e = of_option _ _ (short_of word) (λ (flags : Text). flags_none (length flags) flags h.skip (record h { skip = 0 })) e

  positional_none : (a : Rule) (h : Held) → positional_passes c again a h ≡ true → positional_fault c again a h ≡ []
  positional_none a h e = if_or (is_pending a h.pending && takes_several a) (settle_passes c again h) _ e (settle_none h)

module _ (s : Shape) where
  other_none : (met : Option Text) (word : Text) (h : Held) → other_passes s met word h ≡ true → other_fault s met word h ≡ []
  other_none (Some name) word h e = not_or (bytes_eq name (codes "help")) s.disable_help_subcommand _ e
  other_none None word h e =
      if_or (bytes_eq word (45 ∷ 45 ∷ [])) (flag_word_passes s.rules s.args_override_self (long_of word) word h) _ e
      (flag_word_none s.rules s.args_override_self (long_of word) word h)

  step_none : (position : ℕ) (h : Held) (step : Step) → step_passes s position h step ≡ true → step_fault s position h step ≡ []
  step_none position h value e = of_some _ _ _ (arg_by_index s.rules position) (λ (a : Rule). positional_none s.rules s.args_override_self a h) e
  step_none position h (next w) e = refl
  step_none position h (trailing n) e = refl
  step_none position h (subcommand name) e = refl

  turn_none : (names : Names) (w : Walk) (word : Text) → turn_passes s names w word ≡ true → turn_fault s names w word ≡ []
  turn_none names w word e =
      let met = word_met s.rules names w.is_trailing w.waiting w.position word w.held in
      let is_word = word_passes s names w.is_trailing w.waiting word w.held in
      if_or (is_some w.stopped) (is_word && step_passes s w.position met.0 met.1) _ e
      (λ both. let p = and_parts is_word (step_passes s w.position met.0 met.1) both in
      or_none _ _
      (if_or w.is_trailing (other_passes s (subcommand_met names w.waiting word) word w.held) _ p.0 (other_none (subcommand_met names w.waiting word) word w.held))
      (step_none w.position met.0 met.1 p.1))

  walk_none : (names : Names) (w : Walk) (words : List Text) → walk_passes s names w words ≡ true → walk_fault s names w words ≡ []
  unfolding walk_passes walk_fault
  walk_none names w [] e = refl
  walk_none names w (word ∷ rest) e =
      let p = and_parts (turn_passes s names w word) (walk_passes s names (walked s.rules names w word) rest) e in
      or_none _ _ (turn_none names w word p.0) (walk_none names (walked s.rules names w word) rest p.1)

-- ---- after the walk

no_request : (action : ArgAction) → not (is_request action) ≡ true → request_kinds action ≡ []
no_request Set e = refl
no_request SetTrue e = refl
no_request SetFalse e = refl
no_request Append e = refl
no_request Count e = refl
no_request Help e = absurd (true≢false (sym e))
no_request HelpShort e = absurd (true≢false (sym e))
no_request HelpLong e = absurd (true≢false (sym e))
no_request Version e = absurd (true≢false (sym e))

default_none : (rows : List Row) (a : Rule) → default_passes a ≡ true → default_fault rows a ≡ []
default_none rows a e = go (has_row a.id rows) (is_empty a.defaults) e
  where
    go : (t u : Bool) → (u || (not (is_request (action_of a)) && values_pass a a.defaults)) ≡ true → (if t || u then [] else or_else (request_kinds (action_of a)) (values_fault a a.defaults)) ≡ []
    go true u e = refl
    go false true e = refl
    go false false e =
        let p = and_parts (not (is_request (action_of a))) (values_pass a a.defaults) e in
        or_none _ _ (no_request (action_of a) p.0) (values_none a a.defaults p.1)

defaults_none : (rows : List Row) (rules : List Rule) → list_all default_passes rules ≡ true → defaults_fault rows rules ≡ []
unfolding defaults_fault
defaults_none rows [] e = refl
defaults_none rows (a ∷ rest) e =
    let p = and_parts (default_passes a) (list_all default_passes rest) e in
    or_none _ _ (default_none rows a p.0) (defaults_none (with_default rows a) rest p.1)

none_missing : (rows : List Row) (rules : List Rule) → list_all (λ a. not a.required || is_given a.id rows) rules ≡ true → list_any (λ a. a.required && not (is_given a.id rows)) rules ≡ false
none_missing rows [] e = refl
none_missing rows (a ∷ rest) e = go a.required (is_given a.id rows) (none_missing rows rest) e
  where
    go : (t u : Bool) → (list_all (λ a. not a.required || is_given a.id rows) rest ≡ true → list_any (λ a. a.required && not (is_given a.id rows)) rest ≡ false)
        → ((not t || u) && list_all (λ a. not a.required || is_given a.id rows) rest) ≡ true → ((t && not u) || list_any (λ a. a.required && not (is_given a.id rows)) rest) ≡ false
    go true true later e = later e
    go true false later e = absurd (true≢false (sym e))
    go false u later e = later e

checks_none : (wants_help wants_subcommand wants_argument : Bool) → wants_help ≡ false → wants_subcommand ≡ false → wants_argument ≡ false → check_kinds wants_help wants_subcommand wants_argument ≡ []
checks_none true t u e f g = absurd (true≢false e)
checks_none false true u e f g = absurd (true≢false f)
checks_none false false true e f g = absurd (true≢false g)
checks_none false false false e f g = refl

no_help : (wants has any : Bool) → (not wants || (has || any)) ≡ true → (not has && (wants && not any)) ≡ false
no_help wants true any e = refl
no_help false false any e = refl
no_help true false true e = refl
no_help true false false e = absurd (true≢false (sym e))

no_subcommand : (wants has : Bool) → (not wants || has) ≡ true → (not has && wants) ≡ false
no_subcommand wants true e = refl
no_subcommand false false e = refl
no_subcommand true false e = absurd (true≢false (sym e))

no_argument : (negates all any : Bool) → (negates || all) ≡ true → (all ≡ true → any ≡ false) → (not negates && any) ≡ false
no_argument true all any e f = refl
no_argument false all any e f = f e

check_none : (s : Shape) (rows : List Row) (has : Bool) → is_valid s rows has ≡ true → check_fault s rows has ≡ []
check_none s rows has e =
    let any = list_any (λ r. explicit_source r.source) rows in
    let p = and_parts (not s.arg_required_else_help || (has || any)) _ e in
    let q = and_parts (not s.subcommand_required || has) _ p.1 in
    let r = and_parts (list_all (λ a. a.is_free) s.rules) _ q.1 in
    checks_none _ _ _ (no_help s.arg_required_else_help has any p.0) (no_subcommand s.subcommand_required has q.0)
    (no_argument (s.subcommand_negates_reqs && has) (list_all (λ a. not a.required || is_given a.id rows) s.rules) _ r.1 (none_missing rows s.rules))

level_none : (s : Shape) (names : Names) (h : Held) (words : List Text) (has : Bool) (below : Kinds) → below ≡ [] → level_passes s names h words has ≡ true → level_fault s names h words has below ≡ []
level_none s names h words has below none e =
    let end = (walk s.rules names h words).held in
    let p = and_parts (walk_passes s names (walk_from h) words) _ e in
    let q = and_parts (settle_passes s.rules s.args_override_self end) _ p.1 in
    let r = and_parts (list_all default_passes s.rules) (is_valid s (finished s.rules end) has) q.1 in
    or_none _ _ (walk_none s names (walk_from h) words p.0)
    (or_none _ _ none
    (or_none _ _ (settle_none s.rules s.args_override_self end q.0)
    (or_none _ _ (defaults_none (settled s.rules end).rows s.rules r.0) (check_none s (finished s.rules end) has r.1))))

entered_none : (a : App) (stop : Option (Text × List Text)) → entered_passes a stop ≡ true → entered_fault a stop ≡ []
entered_none a stop e =
    of_option _ _ stop (λ (p : Text × List Text). of_option _ _ (find (λ s. answers_to p.0 (label_of s)) a.subs)
    (λ (s : Shape). level_none s [] nothing_held p.1 false [] refl)) e

built_none : (a : App) (h : Held) (words : List Text) → built_takes a h words ≡ true → built_fault a h words ≡ []
built_none a h words e =
    let stop = (walk a.top.rules (names_of a) h words).stopped in
    let p = and_parts (entered_passes a stop) (level_passes a.top (names_of a) h words (is_some (entered a stop))) e in
    level_none a.top (names_of a) h words (is_some (entered a stop)) (entered_fault a stop) (entered_none a stop p.0) p.1

-- words that clap takes have no fault
pub no_fault : (a : App) (words : List Text) → takes a words ≡ true → fault_of a words ≡ []
no_fault a words e = built_none (built a) nothing_held (argument_words a words) (and_parts (is_simple a) _ e).1
