-- What building makes of the command line: the shape of each command.
use Rattle.std.proofs.Common.{◌≡◌, Bool, List, [], ◌∷◌, refl, codes, true, false, Some, None}
use Rattle.clap.specs.Lexer.{usize_max}
use Rattle.clap.specs.Faults.{is_simple_and_free}
use Rattle.clap.specs.Simple.{App, Shape, built, is_simple, new_shape}
use Rattle.clap.specs.Walk.{Rule, Text}
use Rattle.clap.specs.declared.builder.action.ArgAction.TheVariants.{Set, Append}
use Rattle.clap.specs.declared.builder.value_parser.ValueParser.TheVariants as vp
use Rattle.command_words.specs.App.{blifww_app}

-- an option of one value, as it is built
abbrev pub option_rule : Text → Bool → Rule
option_rule name required = record {
  id = name;
  long = Some name;
  aliases = [];
  short = None;
  short_aliases = [];
  index = None;
  action = Some Set;
  range = Some record { start_inclusive = 1; end_inclusive = 1 };
  value_names = 0;
  defaults = [];
  missing = [];
  trailing_var_arg = false;
  parser = Some vp.String;
  ignore_case = false;
  required = required;
  is_simple = true;
  is_free = true;
}

-- and last words
abbrev pub words_rule : Rule
words_rule = record {
  id = codes "streams";
  long = None;
  aliases = [];
  short = None;
  short_aliases = [];
  index = Some 1;
  action = Some Append;
  range = Some record { start_inclusive = 0; end_inclusive = usize_max };
  value_names = 0;
  defaults = [];
  missing = [];
  trailing_var_arg = false;
  parser = Some vp.String;
  ignore_case = false;
  required = false;
  is_simple = true;
  is_free = true;
}

-- a command with these rules, as it is built
abbrev pub leaf : Text → List Rule → Shape
leaf name rules = record (new_shape name) {
  rules = rules;
  disable_help_flag = true;
  disable_help_subcommand = true;
  disable_version_flag = true;
  is_built = true;
}

abbrev pub compile_rules : List Rule
compile_rules = option_rule (codes "contexts") false ∷ words_rule ∷ []

abbrev pub driven_rules : List Rule
driven_rules = option_rule (codes "cycles") true ∷ words_rule ∷ []

abbrev pub probe_rules : List Rule
probe_rules = option_rule (codes "cycles") true ∷ option_rule (codes "net") true ∷ option_rule (codes "path") false ∷ words_rule ∷ []

abbrev pub window_rules : List Rule
window_rules =
    option_rule (codes "gen") true ∷ option_rule (codes "x") true ∷ option_rule (codes "y") true ∷ option_rule (codes "width") true
    ∷ option_rule (codes "height") true ∷ words_rule ∷ []

abbrev pub make_rules : List Rule
make_rules = option_rule (codes "seed") true ∷ option_rule (codes "size") true ∷ []

abbrev pub self_rules : List Rule
self_rules = option_rule (codes "seed") true ∷ option_rule (codes "size") true ∷ option_rule (codes "cycles") true ∷ []

-- of `aiger` and `lift`
abbrev pub bare_rules : List Rule
bare_rules = []

abbrev pub shapes : List Shape
shapes =
    leaf (codes "compile") compile_rules ∷ leaf (codes "simulate") driven_rules ∷ leaf (codes "eval") driven_rules ∷ leaf (codes "probe") probe_rules
    ∷ leaf (codes "window") window_rules ∷ leaf (codes "make") make_rules ∷ leaf (codes "self") self_rules ∷ leaf (codes "tape") driven_rules
    ∷ leaf (codes "aiger") bare_rules ∷ leaf (codes "vcd") driven_rules ∷ leaf (codes "lift") bare_rules ∷ []

-- the program's own level
abbrev pub top : Shape
top = record (new_shape (codes "blifww")) {
  is_leaf = false;
  disable_help_flag = true;
  disable_help_subcommand = true;
  disable_version_flag = true;
  subcommand_required = true;
  is_built = true;
}

abbrev pub built_app : App
built_app = record { top = top; subs = shapes }

pub app_built : built blifww_app ≡ built_app
app_built = refl

pub app_simple : is_simple blifww_app ≡ true
app_simple = refl

pub app_free : is_simple_and_free blifww_app ≡ true
app_free = refl
