-- A command in its plainest form is a command, with the values that it is written with.
use Rattle.std.proofs.Common.{◌≡◌, ◌∙◌, ◌≤◌, ℕ, Bool, List, [], ◌∷◌, ◌++◌, ◌==◌, ◌&&◌, length, refl, codes, true, false, not, Some, None, Option, rules, ap, ap₂, sym, true≢false, arith, suc, option_map, option_and_then, is_some, subst, map, nat_le, unwrap_or}
use Rattle.std.specs.Prelude.{⊤, if◌then◌else◌, find}
use Rattle.std.specs.List.{list_all, AllByRecursion}
use Rattle.std.specs.Option.{option_map_or}
use Rattle.std.specs.Str.{bytes_eq}
use Rattle.std.specs.Str.Parse.{digits_value}
use Rattle.std.proofs.lemmas.Bool.{and_parts, leb-true}
use Rattle.clap.specs.Lexer.{usize_max}
use Rattle.clap.specs.Takes.{takes, default_passes, is_valid, settle_passes, use_passes, values_pass}
use Rattle.clap.specs.Walk.{Row, Rule, Text, Walk, arg_by_id, arg_by_index, first_of, finished, settled_rows}
use Rattle.clap.specs.Simple.{subcommand_of}
use Rattle.clap.specs.declared.parser.matches.ValueSource.TheVariants.{CommandLine}
use Rattle.clap.specs.declared.builder.value_parser.Reading.TheVariants.{AsWritten}
use Rattle.command_words.specs.App.{blifww_app}
use Rattle.command_words.specs.Numbers.{NumberRange, are_digits, number_taken, cycles_range, generation_range, x_range, y_range, width_range, height_range, seed_range, size_range, contexts_range, number_ranges, tape_cycles_range}
use Rattle.command_words.specs.Shapes.{CommandValues, compile, simulate, eval, probe, window, make, self_, tape, aiger, vcd, lift, driven_command_by, values_met, command_values, is_plain_word, option_words, streams_met, IsCommand, IsDrivenCommand, IsPlain, IsWritten, GivesContexts, GivesPath, AreInRanges, MeetsContexts, MeetsRanges, Writes, number_met}
use Rattle.command_words.specs.declared.command.View.{View}
use Rattle.command_words.proofs.Entered.{IsNamed, entered_own, takes_own}
use Rattle.command_words.proofs.Rules.{leaf, words_rule, compile_rules, driven_rules, probe_rules, window_rules, make_rules, self_rules, bare_rules}
use Rattle.command_words.proofs.Walks.{HasNoHyphen, HaveWords, IsGiven, IsOption, Pending, all_pass, all_walked, options_pass, plain_walk}

-- ---- values are no flags

not_hyphen : (b : ℕ) (bs : Text) → (b == 45) ≡ false → HasNoHyphen (b ∷ bs)
not_hyphen b bs e = rw (e) refl

plain_word : (w : Text) → is_plain_word w ≡ true → HasNoHyphen w
plain_word [] e = refl
plain_word (b ∷ bs) e = go (b == 45) refl e
  where
    go : (t : Bool) → (b == 45) ≡ t → not t ≡ true → HasNoHyphen (b ∷ bs)
    go true is e = absurd (true≢false (sym e))
    go false is e = not_hyphen b bs is

plain_words : (ws : List Text) → list_all is_plain_word ws ≡ true → AllByRecursion HasNoHyphen ws
plain_words [] e = tt
plain_words (w ∷ ws) e = (plain_word w (and_parts _ _ e).0, plain_words ws (and_parts _ _ e).1)

digits_plain : (text : Text) → are_digits text ≡ true → HasNoHyphen text
digits_plain [] e = refl
digits_plain (b ∷ bs) e =
    let digit = (and_parts _ _ e).0 in
    let least : 48 ≤ b = leb-true _ _ (and_parts _ _ digit).0 in
    not_hyphen b bs (search (rules, least))

if_taken : {T : Type 0} (t : Bool) (x y : T) → (if t then Some x else None) ≡ Some y → t ≡ true
if_taken true x y e = refl
if_taken false x y e = cc

number_plain : (range : NumberRange) (text : Text) (n : ℕ) → Writes range text n → HasNoHyphen text
number_plain range text n e = digits_plain text (and_parts (are_digits text) _ (if_taken _ (digits_value 10 text) n e)).0

-- ---- what clap meets in plain words

-- the row of an option
abbrev option_row : Text × Text → Row
option_row given = record { id = given.0; values = given.1 ∷ []; count = None; source = Some CommandLine; reading = AsWritten }

-- and of words, where there are any
abbrev words_row : List Text → List Row
words_row [] = []
words_row (v ∷ vs) = record { id = codes "streams"; values = v ∷ vs; count = None; source = Some CommandLine; reading = AsWritten } ∷ []

abbrev rows_for : List (Text × Text) → List Text → List Row
rows_for options streams = map option_row options ++ words_row streams

abbrev after_passes : Text → List Rule → Walk → Bool
after_passes command rules w = list_all default_passes rules && is_valid (leaf command rules) (finished rules w.held) false

-- the rules may have last words, where there are any
abbrev TakeWords : List Rule → List Text → Type 0
TakeWords rules [] = ⊤
TakeWords rules (v ∷ vs) = arg_by_id rules (codes "streams") ≡ Some words_rule

-- the command reads these options and words
record IsRead (command : Text) (rules : List Rule) (options : List (Text × Text)) (streams : List Text) : Type 0 where
  named : IsNamed command (leaf command rules)
  given : AllByRecursion (IsGiven rules) options
  have : HaveWords rules streams
  take : TakeWords rules streams
  passes : options_pass rules [] None options ≡ true
  valid : after_passes command rules (plain_walk rules [] None options streams) ≡ true
  rows : finished rules (plain_walk rules [] None options streams).held ≡ rows_for options streams

have_words : (own : List Rule) (streams : List Text) → arg_by_index own 1 ≡ Some words_rule → HaveWords own streams
have_words own [] e = tt
have_words own (v ∷ vs) e = e

take_words : (own : List Rule) (streams : List Text) → arg_by_id own (codes "streams") ≡ Some words_rule → TakeWords own streams
take_words own [] e = tt
take_words own (v ∷ vs) e = e

-- a parser of text takes any text
texts_pass : (vs : List Text) → values_pass words_rule vs ≡ true
texts_pass [] = refl
texts_pass (v ∷ vs) = texts_pass vs

settles : (rules : List Rule) (rows : List Row) (pending : Pending) (options : List (Text × Text)) (streams : List Text) → options_pass rules rows pending options ≡ true → TakeWords rules streams
    → length streams ≤ usize_max → settle_passes rules false (plain_walk rules rows pending options streams).held ≡ true
settles own rows pending [] [] e take short = e
settles own rows pending [] (v ∷ vs) e take short =
    let least : nat_le 0 (length (v ∷ vs)) ≡ true = search rules in
    let fits : nat_le (length (v ∷ vs)) usize_max ≡ true = search rules in
    ap (λ (o : Option Rule). option_map_or (λ (a : Rule). use_passes false a (v ∷ vs) (settled_rows own pending rows)) o true) take
    ∙ ap₂ (λ (s t : Bool). s && (t && values_pass words_rule (v ∷ vs))) least fits
    ∙ texts_pass (v ∷ vs)
settles own rows pending (p ∷ options) streams e take short = settles own (settled_rows own pending rows) (Some (p.0, p.1 ∷ [])) options streams (and_parts (settle_passes own false (record { rows = rows; pending = pending; skip = 0 })) _ e).1 take short

length_after : (xs ys : List Text) → length ys ≤ length (xs ++ ys)
length_after [] ys = omega arith
length_after (x ∷ xs) ys = let rest = length_after xs ys in omega (arith, rest)

module _ (command : Text) (own : List Rule) (options : List (Text × Text)) (streams words : List Text) (w : IsPlain command options streams words) (r : IsRead command own options streams) where
  plain_taken : length words ≤ usize_max → takes blifww_app words ≡ true
  plain_taken short =
      let long : length words ≡ suc (suc (length (option_words options ++ streams))) = ap (λ (l : List Text). length l) w.words_are in
      let few : length streams ≤ usize_max = omega (arith, long, short, length_after (option_words options) streams) in
      let walk = plain_walk own [] None options streams in
      ap (takes blifww_app) w.words_are
      ∙ takes_own command (leaf command own) r.named w.program (option_words options ++ streams)
      ∙ ap₂ (λ (t : Bool) (w : Walk). t && (settle_passes own false w.held && after_passes command own w))
      (all_pass own command [] None options streams refl r.given r.have (plain_words streams w.plain) r.passes)
      (all_walked own [] None options streams refl r.given r.have (plain_words streams w.plain))
      ∙ ap₂ (λ (s t : Bool). s && t) (settles own [] None options streams r.passes r.take few) r.valid

  plain_entered : subcommand_of blifww_app words ≡ Some (command, rows_for options streams)
  plain_entered =
      ap (subcommand_of blifww_app) w.words_are
      ∙ entered_own command (leaf command own) r.named w.program (option_words options ++ streams)
      ∙ ap (λ (w : Walk). Some (command, finished own w.held)) (all_walked own [] None options streams refl r.given r.have (plain_words streams w.plain))
      ∙ ap (λ (rows : List Row). Some (command, rows)) r.rows

  -- it is a command, where each number that the options give is in its range
  plain_command : length words ≤ usize_max → MeetsRanges (Some (command, rows_for options streams)) → MeetsContexts (Some (command, rows_for options streams)) → IsCommand words
  plain_command short within beside = record {
    taken = plain_taken short;
    in_range = subst MeetsRanges (sym plain_entered) within;
    beside = subst MeetsContexts (sym plain_entered) beside;
  }

  plain_values : (v : CommandValues) → values_met (Some (command, rows_for options streams)) ≡ Some v → command_values words ≡ Some v
  plain_values v e = ap values_met plain_entered ∙ e

-- the words that are met are the last ones
pub words_met : (own : List Rule) (options : List (Text × Text)) (streams : List Text) → AllByRecursion (IsGiven own) options → streams_met (rows_for options streams) ≡ streams
words_met own [] [] given = refl
words_met own [] (v ∷ vs) given = refl
words_met own (p ∷ options) streams given =
    ap (λ (t : Bool). unwrap_or (option_map (λ (r : Row). r.values) (if t then Some (option_row p) else find (λ r. bytes_eq r.id (codes "streams")) (rows_for options streams))) []) given.0.0.other
    ∙ words_met own options streams given.1

-- ---- each command

compile_contexts : IsOption compile_rules (codes "contexts")
compile_contexts = record { required = false; by_long = refl; by_id = refl; long = refl; whole = refl; same = refl; other = refl }

driven_cycles : IsOption driven_rules (codes "cycles")
driven_cycles = record { required = true; by_long = refl; by_id = refl; long = refl; whole = refl; same = refl; other = refl }

probe_cycles : IsOption probe_rules (codes "cycles")
probe_cycles = record { required = true; by_long = refl; by_id = refl; long = refl; whole = refl; same = refl; other = refl }

probe_net : IsOption probe_rules (codes "net")
probe_net = record { required = true; by_long = refl; by_id = refl; long = refl; whole = refl; same = refl; other = refl }

probe_path : IsOption probe_rules (codes "path")
probe_path = record { required = false; by_long = refl; by_id = refl; long = refl; whole = refl; same = refl; other = refl }

window_gen : IsOption window_rules (codes "gen")
window_gen = record { required = true; by_long = refl; by_id = refl; long = refl; whole = refl; same = refl; other = refl }

window_x : IsOption window_rules (codes "x")
window_x = record { required = true; by_long = refl; by_id = refl; long = refl; whole = refl; same = refl; other = refl }

window_y : IsOption window_rules (codes "y")
window_y = record { required = true; by_long = refl; by_id = refl; long = refl; whole = refl; same = refl; other = refl }

window_width : IsOption window_rules (codes "width")
window_width = record { required = true; by_long = refl; by_id = refl; long = refl; whole = refl; same = refl; other = refl }

window_height : IsOption window_rules (codes "height")
window_height = record { required = true; by_long = refl; by_id = refl; long = refl; whole = refl; same = refl; other = refl }

make_seed : IsOption make_rules (codes "seed")
make_seed = record { required = true; by_long = refl; by_id = refl; long = refl; whole = refl; same = refl; other = refl }

make_size : IsOption make_rules (codes "size")
make_size = record { required = true; by_long = refl; by_id = refl; long = refl; whole = refl; same = refl; other = refl }

self_seed : IsOption self_rules (codes "seed")
self_seed = record { required = true; by_long = refl; by_id = refl; long = refl; whole = refl; same = refl; other = refl }

self_size : IsOption self_rules (codes "size")
self_size = record { required = true; by_long = refl; by_id = refl; long = refl; whole = refl; same = refl; other = refl }

self_cycles : IsOption self_rules (codes "cycles")
self_cycles = record { required = true; by_long = refl; by_id = refl; long = refl; whole = refl; same = refl; other = refl }

compile_read : IsRead (codes "compile") compile_rules [] []
compile_read = record {
  named = record { named = refl; shape = refl };
  given = tt;
  have = tt;
  take = tt;
  passes = refl;
  valid = refl;
  rows = refl;
}

contexts_read : (n : Text) (starts : List Text) → HasNoHyphen n → IsRead (codes "compile") compile_rules ((codes "contexts", n) ∷ []) starts
contexts_read n starts en = record {
  named = record { named = refl; shape = refl };
  given = ((compile_contexts, en), tt);
  have = have_words compile_rules starts refl;
  take = take_words compile_rules starts refl;
  passes = refl;
  valid = valid starts;
  rows = rows starts;
}
  where
    valid : (vs : List Text) → after_passes (codes "compile") compile_rules (plain_walk compile_rules [] None ((codes "contexts", n) ∷ []) vs) ≡ true
    valid [] = refl
    valid (v ∷ vs) = refl

    rows : (vs : List Text) → finished compile_rules (plain_walk compile_rules [] None ((codes "contexts", n) ∷ []) vs).held ≡ rows_for ((codes "contexts", n) ∷ []) vs
    rows [] = refl
    rows (v ∷ vs) = refl

simulate_read : (n : Text) (streams : List Text) → HasNoHyphen n → IsRead (codes "simulate") driven_rules ((codes "cycles", n) ∷ []) streams
simulate_read n streams en = record {
  named = record { named = refl; shape = refl };
  given = ((driven_cycles, en), tt);
  have = have_words driven_rules streams refl;
  take = take_words driven_rules streams refl;
  passes = refl;
  valid = valid streams;
  rows = rows streams;
}
  where
    valid : (vs : List Text) → after_passes (codes "simulate") driven_rules (plain_walk driven_rules [] None ((codes "cycles", n) ∷ []) vs) ≡ true
    valid [] = refl
    valid (v ∷ vs) = refl

    rows : (vs : List Text) → finished driven_rules (plain_walk driven_rules [] None ((codes "cycles", n) ∷ []) vs).held ≡ rows_for ((codes "cycles", n) ∷ []) vs
    rows [] = refl
    rows (v ∷ vs) = refl

eval_read : (n : Text) (streams : List Text) → HasNoHyphen n → IsRead (codes "eval") driven_rules ((codes "cycles", n) ∷ []) streams
eval_read n streams en = record {
  named = record { named = refl; shape = refl };
  given = ((driven_cycles, en), tt);
  have = have_words driven_rules streams refl;
  take = take_words driven_rules streams refl;
  passes = refl;
  valid = valid streams;
  rows = rows streams;
}
  where
    valid : (vs : List Text) → after_passes (codes "eval") driven_rules (plain_walk driven_rules [] None ((codes "cycles", n) ∷ []) vs) ≡ true
    valid [] = refl
    valid (v ∷ vs) = refl

    rows : (vs : List Text) → finished driven_rules (plain_walk driven_rules [] None ((codes "cycles", n) ∷ []) vs).held ≡ rows_for ((codes "cycles", n) ∷ []) vs
    rows [] = refl
    rows (v ∷ vs) = refl

probe_read : (n net : Text) (streams : List Text) → HasNoHyphen n → HasNoHyphen net → IsRead (codes "probe") probe_rules ((codes "cycles", n) ∷ (codes "net", net) ∷ []) streams
probe_read n net streams en enet = record {
  named = record { named = refl; shape = refl };
  given = ((probe_cycles, en), ((probe_net, enet), tt));
  have = have_words probe_rules streams refl;
  take = take_words probe_rules streams refl;
  passes = refl;
  valid = valid streams;
  rows = rows streams;
}
  where
    valid : (vs : List Text) → after_passes (codes "probe") probe_rules (plain_walk probe_rules [] None ((codes "cycles", n) ∷ (codes "net", net) ∷ []) vs) ≡ true
    valid [] = refl
    valid (v ∷ vs) = refl

    rows : (vs : List Text) → finished probe_rules (plain_walk probe_rules [] None ((codes "cycles", n) ∷ (codes "net", net) ∷ []) vs).held ≡ rows_for ((codes "cycles", n) ∷ (codes "net", net) ∷ []) vs
    rows [] = refl
    rows (v ∷ vs) = refl

path_read : (n net path : Text) (streams : List Text) → HasNoHyphen n → HasNoHyphen net → HasNoHyphen path → IsRead (codes "probe") probe_rules ((codes "cycles", n) ∷ (codes "net", net) ∷ (codes "path", path) ∷ []) streams
path_read n net path streams en enet epath = record {
  named = record { named = refl; shape = refl };
  given = ((probe_cycles, en), ((probe_net, enet), ((probe_path, epath), tt)));
  have = have_words probe_rules streams refl;
  take = take_words probe_rules streams refl;
  passes = refl;
  valid = valid streams;
  rows = rows streams;
}
  where
    valid : (vs : List Text) → after_passes (codes "probe") probe_rules (plain_walk probe_rules [] None ((codes "cycles", n) ∷ (codes "net", net) ∷ (codes "path", path) ∷ []) vs) ≡ true
    valid [] = refl
    valid (v ∷ vs) = refl

    rows : (vs : List Text) → finished probe_rules (plain_walk probe_rules [] None ((codes "cycles", n) ∷ (codes "net", net) ∷ (codes "path", path) ∷ []) vs).held ≡ rows_for ((codes "cycles", n) ∷ (codes "net", net) ∷ (codes "path", path) ∷ []) vs
    rows [] = refl
    rows (v ∷ vs) = refl

window_read : (g x y w h : Text) (streams : List Text) → HasNoHyphen g → HasNoHyphen x → HasNoHyphen y → HasNoHyphen w → HasNoHyphen h → IsRead (codes "window") window_rules ((codes "gen", g) ∷ (codes "x", x) ∷ (codes "y", y) ∷ (codes "width", w) ∷ (codes "height", h) ∷ []) streams
window_read g x y w h streams eg ex ey ew eh = record {
  named = record { named = refl; shape = refl };
  given = ((window_gen, eg), ((window_x, ex), ((window_y, ey), ((window_width, ew), ((window_height, eh), tt)))));
  have = have_words window_rules streams refl;
  take = take_words window_rules streams refl;
  passes = refl;
  valid = valid streams;
  rows = rows streams;
}
  where
    valid : (vs : List Text) → after_passes (codes "window") window_rules (plain_walk window_rules [] None ((codes "gen", g) ∷ (codes "x", x) ∷ (codes "y", y) ∷ (codes "width", w) ∷ (codes "height", h) ∷ []) vs) ≡ true
    valid [] = refl
    valid (v ∷ vs) = refl

    rows : (vs : List Text) → finished window_rules (plain_walk window_rules [] None ((codes "gen", g) ∷ (codes "x", x) ∷ (codes "y", y) ∷ (codes "width", w) ∷ (codes "height", h) ∷ []) vs).held ≡ rows_for ((codes "gen", g) ∷ (codes "x", x) ∷ (codes "y", y) ∷ (codes "width", w) ∷ (codes "height", h) ∷ []) vs
    rows [] = refl
    rows (v ∷ vs) = refl

make_read : (s k : Text) → HasNoHyphen s → HasNoHyphen k → IsRead (codes "make") make_rules ((codes "seed", s) ∷ (codes "size", k) ∷ []) []
make_read s k es ek = record {
  named = record { named = refl; shape = refl };
  given = ((make_seed, es), ((make_size, ek), tt));
  have = tt;
  take = tt;
  passes = refl;
  valid = refl;
  rows = refl;
}

self_read : (s k n : Text) → HasNoHyphen s → HasNoHyphen k → HasNoHyphen n → IsRead (codes "self") self_rules ((codes "seed", s) ∷ (codes "size", k) ∷ (codes "cycles", n) ∷ []) []
self_read s k n es ek en = record {
  named = record { named = refl; shape = refl };
  given = ((self_seed, es), ((self_size, ek), ((self_cycles, en), tt)));
  have = tt;
  take = tt;
  passes = refl;
  valid = refl;
  rows = refl;
}

tape_read : (n : Text) (streams : List Text) → HasNoHyphen n → IsRead (codes "tape") driven_rules ((codes "cycles", n) ∷ []) streams
tape_read n streams en = record {
  named = record { named = refl; shape = refl };
  given = ((driven_cycles, en), tt);
  have = have_words driven_rules streams refl;
  take = take_words driven_rules streams refl;
  passes = refl;
  valid = valid streams;
  rows = rows streams;
}
  where
    valid : (vs : List Text) → after_passes (codes "tape") driven_rules (plain_walk driven_rules [] None ((codes "cycles", n) ∷ []) vs) ≡ true
    valid [] = refl
    valid (v ∷ vs) = refl

    rows : (vs : List Text) → finished driven_rules (plain_walk driven_rules [] None ((codes "cycles", n) ∷ []) vs).held ≡ rows_for ((codes "cycles", n) ∷ []) vs
    rows [] = refl
    rows (v ∷ vs) = refl

aiger_read : IsRead (codes "aiger") bare_rules [] []
aiger_read = record {
  named = record { named = refl; shape = refl };
  given = tt;
  have = tt;
  take = tt;
  passes = refl;
  valid = refl;
  rows = refl;
}

lift_read : IsRead (codes "lift") bare_rules [] []
lift_read = record {
  named = record { named = refl; shape = refl };
  given = tt;
  have = tt;
  take = tt;
  passes = refl;
  valid = refl;
  rows = refl;
}

vcd_read : (n : Text) (streams : List Text) → HasNoHyphen n → IsRead (codes "vcd") driven_rules ((codes "cycles", n) ∷ []) streams
vcd_read n streams en = record {
  named = record { named = refl; shape = refl };
  given = ((driven_cycles, en), tt);
  have = have_words driven_rules streams refl;
  take = take_words driven_rules streams refl;
  passes = refl;
  valid = valid streams;
  rows = rows streams;
}
  where
    valid : (vs : List Text) → after_passes (codes "vcd") driven_rules (plain_walk driven_rules [] None ((codes "cycles", n) ∷ []) vs) ≡ true
    valid [] = refl
    valid (v ∷ vs) = refl

    rows : (vs : List Text) → finished driven_rules (plain_walk driven_rules [] None ((codes "cycles", n) ∷ []) vs).held ≡ rows_for ((codes "cycles", n) ∷ []) vs
    rows [] = refl
    rows (v ∷ vs) = refl

-- ---- their numbers

is_written : (o : Option ℕ) (n : ℕ) → o ≡ Some n → is_some o ≡ true
is_written o n e = ap (λ (p : Option ℕ). is_some p) e

contexts_ranges : (n : Text) (starts : List Text) → is_some (number_taken contexts_range n) ≡ true → AreInRanges number_ranges (rows_for ((codes "contexts", n) ∷ []) starts)
contexts_ranges n [] en = (tt, (tt, (tt, (tt, (tt, (tt, (tt, (tt, (en, tt)))))))))
contexts_ranges n (v ∷ vs) en = (tt, (tt, (tt, (tt, (tt, (tt, (tt, (tt, (en, tt)))))))))

driven_ranges : (n : Text) (streams : List Text) → is_some (number_taken cycles_range n) ≡ true → AreInRanges number_ranges (rows_for ((codes "cycles", n) ∷ []) streams)
driven_ranges n [] en = (en, (tt, (tt, (tt, (tt, (tt, (tt, (tt, (tt, tt)))))))))
driven_ranges n (v ∷ vs) en = (en, (tt, (tt, (tt, (tt, (tt, (tt, (tt, (tt, tt)))))))))

tape_ranges : (n : Text) (streams : List Text) → is_some (number_taken tape_cycles_range n) ≡ true → AreInRanges (tape_cycles_range ∷ []) (rows_for ((codes "cycles", n) ∷ []) streams)
tape_ranges n [] en = (en, tt)
tape_ranges n (v ∷ vs) en = (en, tt)

probe_ranges : (n net : Text) (streams : List Text) → is_some (number_taken cycles_range n) ≡ true → AreInRanges number_ranges (rows_for ((codes "cycles", n) ∷ (codes "net", net) ∷ []) streams)
probe_ranges n net [] en = (en, (tt, (tt, (tt, (tt, (tt, (tt, (tt, (tt, tt)))))))))
probe_ranges n net (v ∷ vs) en = (en, (tt, (tt, (tt, (tt, (tt, (tt, (tt, (tt, tt)))))))))

path_ranges : (n net path : Text) (streams : List Text) → is_some (number_taken cycles_range n) ≡ true → AreInRanges number_ranges (rows_for ((codes "cycles", n) ∷ (codes "net", net) ∷ (codes "path", path) ∷ []) streams)
path_ranges n net path [] en = (en, (tt, (tt, (tt, (tt, (tt, (tt, (tt, (tt, tt)))))))))
path_ranges n net path (v ∷ vs) en = (en, (tt, (tt, (tt, (tt, (tt, (tt, (tt, (tt, tt)))))))))

window_ranges : (g x y w h : Text) (streams : List Text) → is_some (number_taken generation_range g) ≡ true → is_some (number_taken x_range x) ≡ true → is_some (number_taken y_range y) ≡ true → is_some (number_taken width_range w) ≡ true → is_some (number_taken height_range h) ≡ true → AreInRanges number_ranges (rows_for ((codes "gen", g) ∷ (codes "x", x) ∷ (codes "y", y) ∷ (codes "width", w) ∷ (codes "height", h) ∷ []) streams)
window_ranges g x y w h [] eg ex ey ew eh = (tt, (eg, (ex, (ey, (ew, (eh, (tt, (tt, (tt, tt)))))))))
window_ranges g x y w h (v ∷ vs) eg ex ey ew eh = (tt, (eg, (ex, (ey, (ew, (eh, (tt, (tt, (tt, tt)))))))))

make_ranges : (s k : Text) → is_some (number_taken seed_range s) ≡ true → is_some (number_taken size_range k) ≡ true → AreInRanges number_ranges (rows_for ((codes "seed", s) ∷ (codes "size", k) ∷ []) [])
make_ranges s k es ek = (tt, (tt, (tt, (tt, (tt, (tt, (es, (ek, (tt, tt)))))))))

self_ranges : (s k n : Text) → is_some (number_taken seed_range s) ≡ true → is_some (number_taken size_range k) ≡ true → is_some (number_taken cycles_range n) ≡ true → AreInRanges number_ranges (rows_for ((codes "seed", s) ∷ (codes "size", k) ∷ (codes "cycles", n) ∷ []) [])
self_ranges s k n es ek en = (en, (tt, (tt, (tt, (tt, (tt, (es, (ek, (tt, tt)))))))))

-- ---- and their values

two : {X : Type 0} (f : ℕ → ℕ → X) (a b : Option ℕ) (m n : ℕ) → a ≡ Some m → b ≡ Some n → option_and_then (λ x. option_map (λ y. f x y) b) a ≡ Some (f m n)
two f a b m n e g = rw (e, g) refl

three : {X : Type 0} (f : ℕ → ℕ → ℕ → X) (a b c : Option ℕ) (m n k : ℕ) → a ≡ Some m → b ≡ Some n → c ≡ Some k
    → option_and_then (λ x. option_and_then (λ y. option_map (λ z. f x y z) c) b) a ≡ Some (f m n k)
three f a b c m n k e g h = rw (e, g, h) refl

five : (a b c d e : Option ℕ) (v : View) → a ≡ Some v.generation → b ≡ Some v.x → c ≡ Some v.y → d ≡ Some v.width → e ≡ Some v.height
    → option_and_then (λ g. option_and_then (λ x. option_and_then (λ y. option_and_then (λ w. option_map (λ h.
    record { generation = g; x = x; y = y; width = w; height = h }) e) d) c) b) a ≡ Some v
five a b c d e v ea eb ec ed ee = rw (ea, eb, ec, ed, ee) refl

driven_valued : (range : NumberRange) (command : ℕ → List Text → CommandValues) (n : Text) (cycles : ℕ) (streams : List Text) → HasNoHyphen n
    → number_met range (rows_for ((codes "cycles", n) ∷ []) streams) ≡ number_taken range n → Writes range n cycles
    → driven_command_by range command (rows_for ((codes "cycles", n) ∷ []) streams) ≡ Some (command cycles streams)
driven_valued range command n cycles streams plain met e =
    ap₂ (λ (o : Option ℕ) (ws : List Text). option_map (λ c. command c ws) o) (met ∙ e)
    (words_met driven_rules ((codes "cycles", n) ∷ []) streams ((driven_cycles, plain), tt))

probe_valued : (o : Option ℕ) (net path : Text) (cycles : ℕ) (ws streams : List Text) → o ≡ Some cycles → ws ≡ streams
    → option_and_then (λ c. Some (probe c net path ws)) o ≡ Some (probe cycles net path streams)
probe_valued o net path cycles ws streams e is = rw (e, is) refl

no_path : (n net : Text) (streams : List Text) → first_of (codes "path") (rows_for ((codes "cycles", n) ∷ (codes "net", net) ∷ []) streams) ≡ None
no_path n net [] = refl
no_path n net (v ∷ vs) = refl

-- words of another command need no number of contexts
not_compile : (command : Text) (rows : List Row) → bytes_eq command (codes "compile") ≡ false → MeetsContexts (Some (command, rows))
not_compile command rows other is = absurd (true≢false (sym is ∙ other))

-- what is said of a command and words in its plainest form
pub record IsWell (v : CommandValues) (words : List Text) : Type 0 where
  pub command : length words ≤ usize_max → IsCommand words
  pub values : command_values words ≡ Some v

-- `compile` in one context, without words
one_well : (words : List Text) → IsPlain (codes "compile") [] [] words → IsWell (compile 1 []) words
one_well words w = record {
  command = λ short. plain_command (codes "compile") compile_rules [] [] words w compile_read short (tt, (tt, (tt, (tt, (tt, (tt, (tt, (tt, (tt, tt))))))))) (λ is none. refl);
  values = plain_values (codes "compile") compile_rules [] [] words w compile_read (compile 1 []) refl;
}

-- and in several, with words for their states
contexts_well : (contexts : ℕ) (starts words : List Text) (n : Text) → IsPlain (codes "compile") ((codes "contexts", n) ∷ []) starts words → Writes contexts_range n contexts
    → IsWell (compile contexts starts) words
contexts_well contexts starts words n w e =
    let options = (codes "contexts", n) ∷ [] in
    let read = contexts_read n starts (number_plain contexts_range n contexts e) in
    let rows = rows_for options starts in
    record {
      command = λ short. plain_command (codes "compile") compile_rules options starts words w read short (contexts_ranges n starts (is_written _ contexts e)) (λ is none. absurd (true≢false none));
      values =
          plain_values (codes "compile") compile_rules options starts words w read (compile contexts starts)
          (ap₂ (λ (o : Option ℕ) (ws : List Text). option_map (λ c. compile c ws) o) e (words_met compile_rules options starts read.given));
    }

compile_well : (contexts : ℕ) (starts words : List Text) (options : List (Text × Text)) → IsPlain (codes "compile") options starts words → GivesContexts options contexts starts
    → IsWell (compile contexts starts) words
compile_well contexts starts words [] w is =
    subst (λ (c : ℕ). IsWell (compile c starts) words) (sym is.0) (subst (λ (ws : List Text). IsPlain (codes "compile") [] ws words → IsWell (compile 1 ws) words) (sym is.1) (one_well words) w)
compile_well contexts starts words (given ∷ []) w is =
    contexts_well contexts starts words given.1 (subst (λ (name : Text). IsPlain (codes "compile") ((name, given.1) ∷ []) starts words) is.0 w) is.1
compile_well contexts starts words (p ∷ q ∷ options) w is = absurd is

driven_well : (command : Text) (range : NumberRange) (by_cycles : ℕ → List Text → CommandValues) (cycles : ℕ) (streams words : List Text)
    → ((n : Text) → HasNoHyphen n → IsRead command driven_rules ((codes "cycles", n) ∷ []) streams)
    → ((n : Text) → number_met range (rows_for ((codes "cycles", n) ∷ []) streams) ≡ number_taken range n)
    → ((n : Text) → is_some (number_taken range n) ≡ true → MeetsRanges (Some (command, rows_for ((codes "cycles", n) ∷ []) streams)))
    → ((rows : List Row) → values_met (Some (command, rows)) ≡ driven_command_by range by_cycles rows) → bytes_eq command (codes "compile") ≡ false
    → IsDrivenCommand command range cycles streams words → IsWell (by_cycles cycles streams) words
driven_well command range by_cycles cycles streams words reads met within by other w =
    let n = w.0 in
    let plain = number_plain range n cycles w.2 in
    let options = (codes "cycles", n) ∷ [] in
    let others : MeetsContexts (Some (command, rows_for options streams)) = not_compile command (rows_for options streams) other in
    record {
      command = λ short. plain_command command driven_rules options streams words w.1 (reads n plain) short (within n (is_written _ cycles w.2)) others;
      values =
          plain_values command driven_rules options streams words w.1 (reads n plain) (by_cycles cycles streams)
          (by (rows_for options streams) ∙ driven_valued range by_cycles n cycles streams plain (met n) w.2);
    }

probe_well : (cycles : ℕ) (net path : Text) (streams words : List Text) (n : Text) (options : List (Text × Text))
    → IsPlain (codes "probe") ((codes "cycles", n) ∷ (codes "net", net) ∷ options) streams words → Writes cycles_range n cycles → is_plain_word net ≡ true → GivesPath options path
    → IsWell (probe cycles net path streams) words
probe_well cycles net path streams words n [] w e plain is =
    let options = (codes "cycles", n) ∷ (codes "net", net) ∷ [] in
    let read = probe_read n net streams (number_plain cycles_range n cycles e) (plain_word net plain) in
    let rows = rows_for options streams in
    record {
      command = λ short. plain_command (codes "probe") probe_rules options streams words w read short (probe_ranges n net streams (is_written _ cycles e)) (not_compile (codes "probe") rows refl);
      values =
          plain_values (codes "probe") probe_rules options streams words w read (probe cycles net path streams)
          (ap (λ (o : Option Text). option_and_then (λ c. Some (probe c net (unwrap_or o (codes "-")) (streams_met rows))) (number_taken cycles_range n)) (no_path n net streams)
          ∙ ap (λ (t : Text). option_and_then (λ c. Some (probe c net t (streams_met rows))) (number_taken cycles_range n)) (sym is)
          ∙ probe_valued (number_taken cycles_range n) net path cycles (streams_met rows) streams e (words_met probe_rules options streams read.given));
    }
probe_well cycles net path streams words n (p ∷ []) w e plain is =
    subst (λ (q : Text × Text). IsPlain (codes "probe") ((codes "cycles", n) ∷ (codes "net", net) ∷ q ∷ []) streams words → IsWell (probe cycles net path streams) words) (sym is.0) given w
  where
    given : IsPlain (codes "probe") ((codes "cycles", n) ∷ (codes "net", net) ∷ (codes "path", path) ∷ []) streams words → IsWell (probe cycles net path streams) words
    given w =
        let options = (codes "cycles", n) ∷ (codes "net", net) ∷ (codes "path", path) ∷ [] in
        let read = path_read n net path streams (number_plain cycles_range n cycles e) (plain_word net plain) (plain_word path is.1) in
        record {
          command = λ short. plain_command (codes "probe") probe_rules options streams words w read short (path_ranges n net path streams (is_written _ cycles e)) (not_compile (codes "probe") (rows_for options streams) refl);
          values =
              plain_values (codes "probe") probe_rules options streams words w read (probe cycles net path streams)
              (probe_valued (number_taken cycles_range n) net path cycles (streams_met (rows_for options streams)) streams e (words_met probe_rules options streams read.given));
        }
probe_well cycles net path streams words n (p ∷ q ∷ options) w e plain is = absurd is

-- words in the plainest form of a command are a command, and have its values
pub well : (v : CommandValues) (words : List Text) → IsWritten v words → IsWell v words
well (compile contexts starts) words w = compile_well contexts starts words w.0 w.1 w.2
well (simulate cycles streams) words w =
    driven_well (codes "simulate") cycles_range simulate cycles streams words (λ n plain. simulate_read n streams plain) (λ n. refl) (λ n e. driven_ranges n streams e) (λ rows. refl) refl w
well (eval cycles streams) words w =
    driven_well (codes "eval") cycles_range eval cycles streams words (λ n plain. eval_read n streams plain) (λ n. refl) (λ n e. driven_ranges n streams e) (λ rows. refl) refl w
well (probe cycles net path streams) words w = probe_well cycles net path streams words w.0 w.1 w.2 w.3 w.4 w.5
well (window view streams) words p =
    let g = p.0 in
    let x = p.1 in
    let y = p.2 in
    let w = p.3 in
    let h = p.4 in
    let options = (codes "gen", g) ∷ (codes "x", x) ∷ (codes "y", y) ∷ (codes "width", w) ∷ (codes "height", h) ∷ [] in
    let read =
    window_read g x y w h streams (number_plain generation_range g view.generation p.6) (number_plain x_range x view.x p.7) (number_plain y_range y view.y p.8)
    (number_plain width_range w view.width p.9) (number_plain height_range h view.height p.10) in
    let viewed = five (number_taken generation_range g) (number_taken x_range x) (number_taken y_range y) (number_taken width_range w) (number_taken height_range h) view p.6 p.7 p.8 p.9 p.10 in
    record {
      command = λ short. plain_command (codes "window") window_rules options streams words p.5 read short
          (window_ranges g x y w h streams (is_written _ view.generation p.6) (is_written _ view.x p.7) (is_written _ view.y p.8) (is_written _ view.width p.9) (is_written _ view.height p.10))
          (not_compile (codes "window") (rows_for options streams) refl);
      values =
          plain_values (codes "window") window_rules options streams words p.5 read (window view streams)
          (ap₂ (λ (o : Option View) (ws : List Text). option_map (λ v. window v ws) o) viewed (words_met window_rules options streams read.given));
    }
well (make seed size) words p =
    let s = p.0 in
    let k = p.1 in
    let options = (codes "seed", s) ∷ (codes "size", k) ∷ [] in
    let read = make_read s k (number_plain seed_range s seed p.3) (number_plain size_range k size p.4) in
    record {
      command = λ short. plain_command (codes "make") make_rules options [] words p.2 read short (make_ranges s k (is_written _ seed p.3) (is_written _ size p.4))
          (not_compile (codes "make") (rows_for options []) refl);
      values =
          plain_values (codes "make") make_rules options [] words p.2 read (make seed size)
          (two (λ a b. make a b) (number_taken seed_range s) (number_taken size_range k) seed size p.3 p.4);
    }
well (self_ seed size cycles) words p =
    let s = p.0 in
    let k = p.1 in
    let n = p.2 in
    let options = (codes "seed", s) ∷ (codes "size", k) ∷ (codes "cycles", n) ∷ [] in
    let read = self_read s k n (number_plain seed_range s seed p.4) (number_plain size_range k size p.5) (number_plain cycles_range n cycles p.6) in
    record {
      command = λ short. plain_command (codes "self") self_rules options [] words p.3 read short
          (self_ranges s k n (is_written _ seed p.4) (is_written _ size p.5) (is_written _ cycles p.6))
          (not_compile (codes "self") (rows_for options []) refl);
      values =
          plain_values (codes "self") self_rules options [] words p.3 read (self_ seed size cycles)
          (three (λ a b c. self_ a b c) (number_taken seed_range s) (number_taken size_range k) (number_taken cycles_range n) seed size cycles p.4 p.5 p.6);
    }
well (tape cycles streams) words w =
    driven_well (codes "tape") tape_cycles_range tape cycles streams words (λ n plain. tape_read n streams plain) (λ n. refl) (λ n e. tape_ranges n streams e) (λ rows. refl) refl w
well aiger words p = record {
  command = λ short. plain_command (codes "aiger") bare_rules [] [] words p aiger_read short (tt, (tt, (tt, (tt, (tt, (tt, (tt, (tt, (tt, tt)))))))))
      (not_compile (codes "aiger") [] refl);
  values = plain_values (codes "aiger") bare_rules [] [] words p aiger_read aiger refl;
}
well (vcd cycles streams) words w =
    driven_well (codes "vcd") cycles_range vcd cycles streams words (λ n plain. vcd_read n streams plain) (λ n. refl) (λ n e. driven_ranges n streams e) (λ rows. refl) refl w
well lift words p = record {
  command = λ short. plain_command (codes "lift") bare_rules [] [] words p lift_read short (tt, (tt, (tt, (tt, (tt, (tt, (tt, (tt, (tt, tt)))))))))
      (not_compile (codes "lift") [] refl);
  values = plain_values (codes "lift") bare_rules [] [] words p lift_read lift refl;
}
