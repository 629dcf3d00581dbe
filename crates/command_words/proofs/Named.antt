-- Where clap takes the words, they name a command, and a command has values.
use Rattle.std.proofs.Common.{◌≡◌, ◌∙◌, ◌⊎◌, inl, inr, ℕ, Bool, List, [], ◌∷◌, refl, codes, true, false, Some, None, Option, ap, sym, subst, true≢false, option_map, option_and_then, is_some}
use Rattle.std.specs.Prelude.{if◌then◌else◌, IfSome, find, drop}
use Rattle.std.specs.List.{AllByRecursion}
use Rattle.std.specs.Option.{option_map_or}
use Rattle.std.proofs.lemmas.Bool.{and_parts}
use Rattle.clap.specs.Simple.{App, Shape, entered, is_simple, label_of, names_of, rows_at, subcommand_of}
use Rattle.clap.specs.Takes.{built_takes, entered_passes, level_passes, settle_passes, takes, walk_passes}
use Rattle.clap.specs.Walk.{Row, Rule, Text, answers_to, first_of, nothing_held, rows_after, stop_after, walk, walk_from}
use Rattle.command_words.specs.App.{blifww_app}
use Rattle.command_words.specs.Numbers.{NumberRange, number_taken, cycles_range, generation_range, x_range, y_range, width_range, height_range, seed_range, size_range, contexts_range, number_ranges, tape_cycles_range}
use Rattle.command_words.specs.Shapes.{AreInRanges, CommandValues, IsCommand, MeetsContexts, MeetsRanges, command_values, compile, compile_by, contexts_by, number_met, streams_met, simulate, eval, tape, vcd, driven_command_by, probe_by, window_by, make_by, self_by, values_met}
use Rattle.command_words.proofs.Entered.{names}
use Rattle.command_words.proofs.Given.{AreGiven, IsOwn, required_given}
use Rattle.command_words.proofs.Rules.{app_built, built_app, leaf, option_rule, words_rule, compile_rules, driven_rules, probe_rules, window_rules, make_rules, self_rules, bare_rules, shapes, top}

-- what was met is the command with this shape, with words that clap takes
abbrev IsMet : Option (Text × List Row) → Shape → Type 0
IsMet met s = (rest : List Text) × (met ≡ Some (s.name, rows_after s.rules [] rest)) × (level_passes s [] nothing_held rest false ≡ true)

-- one of the shapes was met
abbrev IsAnyMet : Option (Text × List Row) → List Shape → Type 0
IsAnyMet met [] = ⊥
IsAnyMet met (s ∷ some) = IsMet met s ⊎ IsAnyMet met some

any_met : (some : List Shape) (p : Text × List Text)
    → option_map_or (λ (s : Shape). level_passes s [] nothing_held p.1 false) (find (λ s. answers_to p.0 (label_of s)) some) true ≡ true
    → is_some (option_map (λ (s : Shape). rows_at s p.1) (find (λ s. answers_to p.0 (label_of s)) some)) ≡ true
    → IsAnyMet (option_map (λ (s : Shape). rows_at s p.1) (find (λ s. answers_to p.0 (label_of s)) some)) some
any_met [] p passes met = true≢false (sym met)
any_met (s ∷ some) p passes met = go (answers_to p.0 (label_of s)) passes met (any_met some p)
  where
    rest : Option Shape
    rest = find (λ s. answers_to p.0 (label_of s)) some

    go : (t : Bool) → option_map_or (λ (s : Shape). level_passes s [] nothing_held p.1 false) (if t then Some s else rest) true ≡ true
        → is_some (option_map (λ (s : Shape). rows_at s p.1) (if t then Some s else rest)) ≡ true
        → (option_map_or (λ (s : Shape). level_passes s [] nothing_held p.1 false) rest true ≡ true → is_some (option_map (λ (s : Shape). rows_at s p.1) rest) ≡ true
        → IsAnyMet (option_map (λ (s : Shape). rows_at s p.1) rest) some)
        → IsAnyMet (option_map (λ (s : Shape). rows_at s p.1) (if t then Some s else rest)) (s ∷ some)
    go true passes met later = inl (p.1, refl, passes)
    go false passes met later = inr (later passes met)

entered_met : (stop : Option (Text × List Text)) → entered_passes built_app stop ≡ true → is_some (entered built_app stop) ≡ true → IsAnyMet (entered built_app stop) shapes
entered_met None passes met = absurd (true≢false (sym met))
entered_met (Some p) passes met = any_met shapes p passes met

taken_met : (words : List Text) → takes blifww_app words ≡ true → IsAnyMet (subcommand_of blifww_app words) shapes
taken_met words e =
    let given = drop 1 words in
    let end = walk top.rules names nothing_held given in
    let takes : built_takes built_app nothing_held given ≡ true = ap (λ (b : App). built_takes b nothing_held given) (sym app_built) ∙ (and_parts (is_simple blifww_app) _ e).1 in
    let parts = and_parts (entered_passes built_app end.stopped) _ takes in
    let after = (and_parts (walk_passes top names (walk_from nothing_held) given) _ parts.1).1 in
    let valid = (and_parts (settle_passes top.rules false end.held) _ after).1 in
    let met = entered_met end.stopped parts.0 (and_parts (is_some (entered built_app end.stopped)) _ valid).0 in
    subst (λ (m : Option (Text × List Row)). IsAnyMet m shapes) (sym (entered_by words)) met
  where
    entered_by : (words : List Text) → subcommand_of blifww_app words ≡ entered built_app (walk top.rules names nothing_held (drop 1 words)).stopped
    entered_by words = ap (λ (b : App). entered b (stop_after b.top.rules (names_of b) (drop 1 words))) app_built

-- ---- the rules of each command

own_option : (name : Text) (required : Bool) → IsOwn (option_rule name required)
own_option name required = inl (name, required, refl)

own_words : IsOwn words_rule
own_words = inr refl

compile_own : AllByRecursion IsOwn compile_rules
compile_own = (own_option (codes "contexts") false, (own_words, tt))

driven_own : AllByRecursion IsOwn driven_rules
driven_own = (own_option (codes "cycles") true, (own_words, tt))

probe_own : AllByRecursion IsOwn probe_rules
probe_own = (own_option (codes "cycles") true, (own_option (codes "net") true, (own_option (codes "path") false, (own_words, tt))))

window_own : AllByRecursion IsOwn window_rules
window_own =
    (own_option (codes "gen") true, (own_option (codes "x") true, (own_option (codes "y") true, (own_option (codes "width") true, (own_option (codes "height") true, (own_words, tt))))))

make_own : AllByRecursion IsOwn make_rules
make_own = (own_option (codes "seed") true, (own_option (codes "size") true, tt))

self_own : AllByRecursion IsOwn self_rules
self_own = (own_option (codes "seed") true, (own_option (codes "size") true, (own_option (codes "cycles") true, tt)))

-- ---- values

-- a text that an option has, in its range, gives a number
number_given : (range : NumberRange) (o : Option Text) → is_some o ≡ true → IfSome o (λ text. is_some (number_taken range text) ≡ true) → is_some (option_and_then (number_taken range) o) ≡ true
number_given range None e within = absurd (true≢false (sym e))
number_given range (Some text) e within = within

mapped : {X Y : Type 0} (f : X → Y) (o : Option X) → is_some o ≡ true → is_some (option_map f o) ≡ true
mapped f None e = e
mapped f (Some x) e = refl

chained : {X Y : Type 0} (f : X → Option Y) (o : Option X) → is_some o ≡ true → ((x : X) → is_some (f x) ≡ true) → is_some (option_and_then f o) ≡ true
chained f None e each = absurd (true≢false (sym e))
chained f (Some x) e each = each x

-- and where there is none there is one context, without words
contexts_given : (o : Option Text) (words : List Text) → IfSome o (λ text. is_some (number_taken contexts_range text) ≡ true) → (is_some o ≡ false → words ≡ [])
    → is_some (contexts_by o words) ≡ true
contexts_given (Some text) words within beside = within
contexts_given None words within beside = ap (λ (ws : List Text). is_some (contexts_by None ws)) (beside refl)

-- the ranges of what was met
abbrev InRange : NumberRange → List Row → Type 0
InRange range rows = IfSome (first_of range.name rows) (λ text. is_some (number_taken range text) ≡ true)

-- the number of cycles of a tape
taped_valued : (rows : List Row) → AreInRanges (tape_cycles_range ∷ []) rows → AreGiven rows driven_rules → is_some (driven_command_by tape_cycles_range tape rows) ≡ true
taped_valued rows within g = mapped _ (number_met tape_cycles_range rows) (number_given tape_cycles_range (first_of tape_cycles_range.name rows) (g.0 refl refl) within.0)

module _ (rows : List Row) (within : AreInRanges number_ranges rows) where
  number_of : (range : NumberRange) → is_some (first_of range.name rows) ≡ true → InRange range rows → is_some (number_met range rows) ≡ true
  number_of range e in_range = number_given range (first_of range.name rows) e in_range

  compile_valued : (is_some (first_of (codes "contexts") rows) ≡ false → streams_met rows ≡ []) → is_some (compile_by rows) ≡ true
  compile_valued beside =
      mapped (λ contexts. compile contexts (streams_met rows)) _
      (contexts_given (first_of (codes "contexts") rows) (streams_met rows) within.1.1.1.1.1.1.1.1.0 beside)

  driven_valued : (command : ℕ → List Text → CommandValues) → AreGiven rows driven_rules → is_some (driven_command_by cycles_range command rows) ≡ true
  driven_valued command g = mapped _ (number_met cycles_range rows) (number_of cycles_range (g.0 refl refl) within.0)

  probe_valued : AreGiven rows probe_rules → is_some (probe_by rows) ≡ true
  probe_valued g =
      chained _ (number_met cycles_range rows) (number_of cycles_range (g.0 refl refl) within.0) (λ cycles. mapped _ (first_of (codes "net") rows) (g.1.0 refl refl))

  window_valued : AreGiven rows window_rules → is_some (window_by rows) ≡ true
  window_valued g =
      mapped _ _
      (chained _ (number_met generation_range rows) (number_of generation_range (g.0 refl refl) within.1.0) (λ generation.
      chained _ (number_met x_range rows) (number_of x_range (g.1.0 refl refl) within.1.1.0) (λ x.
      chained _ (number_met y_range rows) (number_of y_range (g.1.1.0 refl refl) within.1.1.1.0) (λ y.
      chained _ (number_met width_range rows) (number_of width_range (g.1.1.1.0 refl refl) within.1.1.1.1.0) (λ width.
      mapped _ (number_met height_range rows) (number_of height_range (g.1.1.1.1.0 refl refl) within.1.1.1.1.1.0))))))

  make_valued : AreGiven rows make_rules → is_some (make_by rows) ≡ true
  make_valued g =
      chained _ (number_met seed_range rows) (number_of seed_range (g.0 refl refl) within.1.1.1.1.1.1.0) (λ seed.
      mapped _ (number_met size_range rows) (number_of size_range (g.1.0 refl refl) within.1.1.1.1.1.1.1.0))

  self_valued : AreGiven rows self_rules → is_some (self_by rows) ≡ true
  self_valued g =
      chained _ (number_met seed_range rows) (number_of seed_range (g.0 refl refl) within.1.1.1.1.1.1.0) (λ seed.
      chained _ (number_met size_range rows) (number_of size_range (g.1.0 refl refl) within.1.1.1.1.1.1.1.0) (λ size.
      mapped _ (number_met cycles_range rows) (number_of cycles_range (g.1.1.0 refl refl) within.0)))

-- a command that was met has values, where they are found by its rows
met_by : (command : Text) (own : List Rule) (met : Option (Text × List Row)) → AllByRecursion IsOwn own → IsMet met (leaf command own) → MeetsRanges met → MeetsContexts met
    → ((rows : List Row) → MeetsRanges (Some (command, rows)) → MeetsContexts (Some (command, rows)) → AreGiven rows own → is_some (values_met (Some (command, rows))) ≡ true)
    → is_some (values_met met) ≡ true
met_by command own met all is within beside each =
    let rows = rows_after own [] is.0 in
    ap (λ (o : Option (Text × List Row)). is_some (values_met o)) is.1
    ∙ each rows (subst MeetsRanges is.1 within) (subst MeetsContexts is.1 beside) (required_given command own all is.0 is.2)

met_valued : (met : Option (Text × List Row)) → IsAnyMet met shapes → MeetsRanges met → MeetsContexts met → is_some (values_met met) ≡ true
met_valued met (inl is) within b = met_by (codes "compile") compile_rules met compile_own is within b (λ rows w beside g. compile_valued rows w (beside refl))
met_valued met (inr (inl is)) within b = met_by (codes "simulate") driven_rules met driven_own is within b (λ rows w beside g. driven_valued rows w simulate g)
met_valued met (inr (inr (inl is))) within b = met_by (codes "eval") driven_rules met driven_own is within b (λ rows w beside g. driven_valued rows w eval g)
met_valued met (inr (inr (inr (inl is)))) within b = met_by (codes "probe") probe_rules met probe_own is within b (λ rows w beside g. probe_valued rows w g)
met_valued met (inr (inr (inr (inr (inl is))))) within b = met_by (codes "window") window_rules met window_own is within b (λ rows w beside g. window_valued rows w g)
met_valued met (inr (inr (inr (inr (inr (inl is)))))) within b = met_by (codes "make") make_rules met make_own is within b (λ rows w beside g. make_valued rows w g)
met_valued met (inr (inr (inr (inr (inr (inr (inl is))))))) within b = met_by (codes "self") self_rules met self_own is within b (λ rows w beside g. self_valued rows w g)
met_valued met (inr (inr (inr (inr (inr (inr (inr (inl is)))))))) within b = met_by (codes "tape") driven_rules met driven_own is within b (λ rows w beside g. taped_valued rows w g)
met_valued met (inr (inr (inr (inr (inr (inr (inr (inr (inl is))))))))) within b = met_by (codes "aiger") bare_rules met tt is within b (λ rows w beside g. refl)
met_valued met (inr (inr (inr (inr (inr (inr (inr (inr (inr (inl is)))))))))) within b = met_by (codes "vcd") driven_rules met driven_own is within b (λ rows w beside g. driven_valued rows w vcd g)
met_valued met (inr (inr (inr (inr (inr (inr (inr (inr (inr (inr (inl is))))))))))) within b = met_by (codes "lift") bare_rules met tt is within b (λ rows w beside g. refl)
met_valued met (inr (inr (inr (inr (inr (inr (inr (inr (inr (inr (inr none))))))))))) within b = absurd none

has_values : (words : List Text) → IsCommand words → is_some (command_values words) ≡ true
has_values words i = met_valued (subcommand_of blifww_app words) (taken_met words i.taken) i.in_range i.beside

some_of : (found : Option CommandValues) → is_some found ≡ true → (v : CommandValues) × (found ≡ Some v)
some_of None e = absurd (true≢false (sym e))
some_of (Some v) e = (v, refl)

-- a command has values
pub values_given : (words : List Text) → IsCommand words → (v : CommandValues) × (command_values words ≡ Some v)
values_given words i = some_of (command_values words) (has_values words i)
