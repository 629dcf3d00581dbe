-- Which lists of words are a command, and what they ask for.
use Rattle.std.specs.Prelude.{⊤, ◌≡◌, ℕ, Bool, true, List, [], ◌∷◌, map, Option, Some, None, IfSome, is_some, option_map, option_and_then, unwrap_or, ◌++◌, codes, string_bytes, if◌then◌else◌, false, not, ◌==◌}
use Rattle.std.specs.List.{list_all, AllByRecursion}
use Rattle.std.specs.Str.{bytes_eq}
use Rattle.clap.specs.Walk.{Row, Text, all_of, first_of}
use Rattle.clap.specs.Simple.{subcommand_of}
use Rattle.clap.specs.Takes.{takes}
use Rattle.clap.specs.Faults.{fault_of}
use Rattle.command_words.specs.App.{blifww_app}
use Rattle.command_words.specs.Numbers.{NumberRange, number_taken, ranges_of, TakesNumber, cycles_range, tape_cycles_range, generation_range, x_range, y_range, width_range, height_range, seed_range, size_range, contexts_range}
use Rattle.command_words.specs.declared.command.View.{View}
use Rattle.command_words.specs.declared.command.Command.{Command}
use Rattle.command_words.specs.declared.command.Command.TheVariants.{Compile, Simulate, Eval, Probe, Window, Make, Self_, Tape, Aiger, Vcd, Lift}

-- a command with its values; the words that give the streams, or the start states of contexts,
-- stand last
pub data CommandValues : Type 0 where
  compile : (contexts : ℕ) → (starts : List Text) → CommandValues
  simulate : (cycles : ℕ) → (streams : List Text) → CommandValues
  eval : (cycles : ℕ) → (streams : List Text) → CommandValues
  probe : (cycles : ℕ) → (net path : Text) → (streams : List Text) → CommandValues
  window : View → (streams : List Text) → CommandValues
  make : (seed size : ℕ) → CommandValues
  self_ : (seed size cycles : ℕ) → CommandValues
  tape : (cycles : ℕ) → (streams : List Text) → CommandValues
  aiger : CommandValues
  vcd : (cycles : ℕ) → (streams : List Text) → CommandValues
  lift : CommandValues

abbrev pub values_of : Command → CommandValues
values_of (Compile contexts starts) = compile contexts (map string_bytes starts)
values_of (Simulate cycles streams) = simulate cycles (map string_bytes streams)
values_of (Eval cycles streams) = eval cycles (map string_bytes streams)
values_of (Probe cycles net path streams) =
    probe cycles (string_bytes net) (string_bytes path) (map string_bytes streams)
values_of (Window view streams) = window view (map string_bytes streams)
values_of (Make seed size) = make seed size
values_of (Self_ seed size cycles) = self_ seed size cycles
values_of (Tape cycles streams) = tape cycles (map string_bytes streams)
values_of Aiger = aiger
values_of (Vcd cycles streams) = vcd cycles (map string_bytes streams)
values_of Lift = lift

-- the options take each number of the view
abbrev pub HasViewInRange : View → Type 0
HasViewInRange view =
    TakesNumber generation_range view.generation × TakesNumber x_range view.x
    × TakesNumber y_range view.y
    × TakesNumber width_range view.width × TakesNumber height_range view.height

-- the options take each number of the command
abbrev pub HasNumbersInRange : CommandValues → Type 0
HasNumbersInRange (compile contexts starts) = TakesNumber contexts_range contexts
HasNumbersInRange (simulate cycles streams) = TakesNumber cycles_range cycles
HasNumbersInRange (eval cycles streams) = TakesNumber cycles_range cycles
HasNumbersInRange (probe cycles net path streams) = TakesNumber cycles_range cycles
HasNumbersInRange (window view streams) = HasViewInRange view
HasNumbersInRange (make seed size) = TakesNumber seed_range seed × TakesNumber size_range size
HasNumbersInRange (self_ seed size cycles) =
    TakesNumber seed_range seed × TakesNumber size_range size × TakesNumber cycles_range cycles
HasNumbersInRange (tape cycles streams) = TakesNumber tape_cycles_range cycles
HasNumbersInRange aiger = ⊤
HasNumbersInRange (vcd cycles streams) = TakesNumber cycles_range cycles
HasNumbersInRange lift = ⊤

-- the number that the matches give an option, if it is in the option's range
abbrev pub number_met : NumberRange → List Row → Option ℕ
number_met range rows = option_and_then (number_taken range) (first_of range.name rows)

-- the last words
abbrev pub streams_met : List Row → List Text
streams_met rows = unwrap_or (all_of (codes "streams") rows) []

-- the number of contexts, by the text that gives it and the words: without a text there is one, and
-- there are no words
abbrev pub contexts_by : Option Text → List Text → Option ℕ
contexts_by (Some text) words = number_taken contexts_range text
contexts_by None [] = Some 1
contexts_by None (word ∷ words) = None

abbrev pub contexts_met : List Row → Option ℕ
contexts_met rows = contexts_by (first_of contexts_range.name rows) (streams_met rows)

-- the values of each command, by the matches of its options and words
abbrev pub compile_by : List Row → Option CommandValues
compile_by rows = option_map (λ contexts. compile contexts (streams_met rows)) (contexts_met rows)

abbrev pub driven_command_by : NumberRange → (ℕ → List Text → CommandValues) → List Row
    → Option CommandValues
driven_command_by range command rows =
    option_map (λ cycles. command cycles (streams_met rows)) (number_met range rows)

abbrev pub probe_by : List Row → Option CommandValues
probe_by rows =
    option_and_then (λ cycles. option_map
    (λ net. probe cycles net (unwrap_or (first_of (codes "path") rows) (codes "-"))
    (streams_met rows))
    (first_of (codes "net") rows)) (number_met cycles_range rows)

abbrev pub view_met : List Row → Option View
view_met rows =
    option_and_then (λ generation. option_and_then
    (λ x. option_and_then (λ y. option_and_then (λ width. option_map (λ height.
    record { generation = generation; x = x; y = y; width = width; height = height })
    (number_met height_range rows)) (number_met width_range rows)) (number_met y_range rows))
    (number_met x_range rows)) (number_met generation_range rows)

abbrev pub window_by : List Row → Option CommandValues
window_by rows = option_map (λ view. window view (streams_met rows)) (view_met rows)

abbrev pub make_by : List Row → Option CommandValues
make_by rows =
    option_and_then (λ seed. option_map (λ size. make seed size) (number_met size_range rows))
    (number_met seed_range rows)

abbrev pub self_by : List Row → Option CommandValues
self_by rows =
    option_and_then (λ seed. option_and_then (λ size. option_map (λ cycles. self_ seed size cycles)
    (number_met cycles_range rows)) (number_met size_range rows)) (number_met seed_range rows)

-- the values that a command of this name has by the matches of its options and words
abbrev pub values_by_name : Text → List Row → Option CommandValues
values_by_name name rows =
    if bytes_eq name (codes "compile") then compile_by rows
    else if bytes_eq name (codes "simulate") then driven_command_by cycles_range simulate rows
    else if bytes_eq name (codes "eval") then driven_command_by cycles_range eval rows
    else if bytes_eq name (codes "probe") then probe_by rows
    else if bytes_eq name (codes "window") then window_by rows
    else if bytes_eq name (codes "make") then make_by rows
    else if bytes_eq name (codes "self") then self_by rows
    else if bytes_eq name (codes "tape") then driven_command_by tape_cycles_range tape rows
    else if bytes_eq name (codes "aiger") then Some aiger
    else if bytes_eq name (codes "vcd") then driven_command_by cycles_range vcd rows
    else if bytes_eq name (codes "lift") then Some lift
    else None

abbrev pub values_met : Option (Text × List Row) → Option CommandValues
values_met = option_and_then (λ met. values_by_name met.0 met.1)

-- the values of the command that clap's matches for the words name, if its numbers lie in their
-- ranges
abbrev pub command_values : List Text → Option CommandValues
command_values words = values_met (subcommand_of blifww_app words)

-- each number that the rows give to one of these options is in the option's range
abbrev pub AreInRanges : List NumberRange → List Row → Type 0
AreInRanges ranges rows =
    AllByRecursion (λ range. IfSome (first_of range.name rows)
    (λ text. is_some (number_taken range text) ≡ true)) ranges

-- each number that the matches give to the command is in its range
abbrev pub MeetsRanges : Option (Text × List Row) → Type 0
MeetsRanges met = IfSome met (λ met. AreInRanges (ranges_of met.0) met.1)

-- words of `compile` stand only beside a number of contexts
abbrev pub MeetsContexts : Option (Text × List Row) → Type 0
MeetsContexts met =
    IfSome met (λ met. bytes_eq met.0 (codes "compile") ≡ true
    → is_some (first_of (codes "contexts") met.1) ≡ false → streams_met met.1 ≡ [])

-- The words are a command: clap's parse of them can fail for lack of memory alone, each number lies
-- in its range, and `compile` has words only with `--contexts`.
pub record IsCommand (words : List Text) : Type 0 where
  pub taken : takes blifww_app words ≡ true
  pub in_range : MeetsRanges (subcommand_of blifww_app words)
  pub beside : MeetsContexts (subcommand_of blifww_app words)

-- clap finds no fault in the words
abbrev pub IsTaken : List Text → Type 0
IsTaken words = fault_of blifww_app words ≡ []

-- a word that is neither empty nor begins with a hyphen (45)
abbrev pub is_plain_word : Text → Bool
is_plain_word [] = false
is_plain_word (b ∷ bs) = not (b == 45)

-- options with their values, `--name value`, each as two words
abbrev pub option_words : List (Text × Text) → List Text
option_words [] = []
option_words (given ∷ options) = (45 ∷ 45 ∷ given.0) ∷ given.1 ∷ option_words options

-- the words are the program's name, a command's, these options, and then these words, none of which
-- is empty or begins with a hyphen
pub record IsPlain (command : Text) (options : List (Text × Text))
    (streams words : List Text) : Type 0 where
  pub program : Text
  pub words_are : words ≡ program ∷ command ∷ option_words options ++ streams
  pub plain : list_all is_plain_word streams ≡ true

-- the text writes the number in digits, and the number is in its range
abbrev pub Writes : NumberRange → Text → ℕ → Type 0
Writes range text number = number_taken range text ≡ Some number

-- these options give this path: there is no option and the path is `-`, or one option gives it
abbrev pub GivesPath : List (Text × Text) → Text → Type 0
GivesPath [] path = path ≡ codes "-"
GivesPath (given ∷ []) path = (given ≡ (codes "path", path)) × (is_plain_word path ≡ true)
GivesPath _ path = ⊥

-- these options give words this number of contexts: there is no option, the number is 1 and there
-- are no words, or one option gives the number
abbrev pub GivesContexts : List (Text × Text) → ℕ → List Text → Type 0
GivesContexts [] contexts starts = (contexts ≡ 1) × (starts ≡ [])
GivesContexts (given ∷ []) contexts starts =
    (given.0 ≡ codes "contexts") × Writes contexts_range given.1 contexts
GivesContexts _ contexts starts = ⊥

-- `simulate`, `eval`, `vcd` or `tape`, with the range of its cycles
abbrev pub IsDrivenCommand : Text → NumberRange → ℕ → List Text → List Text → Type 0
IsDrivenCommand command range cycles streams words =
    (n : Text) × IsPlain command ((codes "cycles", n) ∷ []) streams words × Writes range n cycles

-- The plainest form of a command with these values: the program's name, the command's name, its
-- options in the order of the table, each as two words with numbers in digits and in their ranges,
-- and then its words. `probe` may lack the path, and `compile` the contexts.
abbrev pub IsWritten : CommandValues → List Text → Type 0
IsWritten (compile contexts starts) words =
    (options : List (Text × Text)) × IsPlain (codes "compile") options starts words
    × GivesContexts options contexts starts
IsWritten (simulate cycles streams) words =
    IsDrivenCommand (codes "simulate") cycles_range cycles streams words
IsWritten (eval cycles streams) words =
    IsDrivenCommand (codes "eval") cycles_range cycles streams words
IsWritten (probe cycles net path streams) words =
    (n : Text) × (options : List (Text × Text))
    × IsPlain (codes "probe") ((codes "cycles", n) ∷ (codes "net", net) ∷ options) streams words
    × Writes cycles_range n cycles × (is_plain_word net ≡ true) × GivesPath options path
IsWritten (window view streams) words =
    (g x y w h : Text)
    × IsPlain (codes "window") ((codes "gen", g) ∷ (codes "x", x) ∷ (codes "y", y)
    ∷ (codes "width", w) ∷ (codes "height", h) ∷ []) streams words
    × Writes generation_range g view.generation × Writes x_range x view.x × Writes y_range y view.y
    × Writes width_range w view.width × Writes height_range h view.height
IsWritten (make seed size) words =
    (s k : Text) × IsPlain (codes "make") ((codes "seed", s) ∷ (codes "size", k) ∷ []) [] words
    × Writes seed_range s seed × Writes size_range k size
IsWritten (self_ seed size cycles) words =
    (s k n : Text) × IsPlain (codes "self")
    ((codes "seed", s) ∷ (codes "size", k) ∷ (codes "cycles", n) ∷ []) [] words
    × Writes seed_range s seed × Writes size_range k size × Writes cycles_range n cycles
IsWritten (tape cycles streams) words =
    IsDrivenCommand (codes "tape") tape_cycles_range cycles streams words
IsWritten aiger words = IsPlain (codes "aiger") [] [] words
IsWritten (vcd cycles streams) words =
    IsDrivenCommand (codes "vcd") cycles_range cycles streams words
IsWritten lift words = IsPlain (codes "lift") [] [] words
