-- The command line as clap sees it: one required subcommand, with its options of one value and its
-- last words.
use Rattle.std.specs.Prelude.{List, [], ◌∷◌, Some, codes, true}
use Rattle.clap.specs.Walk.{Rule, Text}
use Rattle.clap.specs.Simple.{App, new_app, new_rule, with_rule, with_subcommand}
use Rattle.clap.specs.Lexer.{usize_max}
use Rattle.clap.specs.declared.builder.action.ArgAction.TheVariants.{Set, Append}

-- an option `--name VALUE` that may be missing
abbrev pub free_option : Text → Rule
free_option name = record (new_rule name) { long = Some name; action = Some Set }

-- a required option `--name VALUE`
abbrev pub required_option : Text → Rule
required_option name =
    record (new_rule name) { long = Some name; required = true; action = Some Set }

-- any number of words, last
abbrev pub stream_words : Rule
stream_words =
    record (new_rule (codes "streams")) {
      range = Some record { start_inclusive = 0; end_inclusive = usize_max };
      action = Some Append;
    }

-- the command with these required options added
abbrev pub with_required : App → List Text → App
with_required a [] = a
with_required a (name ∷ names) = with_required (with_rule a (required_option name)) names

abbrev pub compile_app : App
compile_app =
    with_rule (with_rule (new_app (codes "compile")) (free_option (codes "contexts"))) stream_words

-- `simulate`, `eval`, `vcd` or `tape`, by its name
abbrev pub driven_app : Text → App
driven_app name = with_rule (with_required (new_app name) (codes "cycles" ∷ [])) stream_words

abbrev pub probe_app : App
probe_app =
    with_rule (with_rule (with_required (new_app (codes "probe"))
    (codes "cycles" ∷ codes "net" ∷ []))
    (free_option (codes "path"))) stream_words

abbrev pub window_app : App
window_app =
    with_rule (with_required (new_app (codes "window"))
    (codes "gen" ∷ codes "x" ∷ codes "y" ∷ codes "width" ∷ codes "height" ∷ []))
    stream_words

abbrev pub make_app : App
make_app = with_required (new_app (codes "make")) (codes "seed" ∷ codes "size" ∷ [])

abbrev pub self_app : App
self_app =
    with_required (new_app (codes "self")) (codes "seed" ∷ codes "size" ∷ codes "cycles" ∷ [])

abbrev pub aiger_app : App
aiger_app = new_app (codes "aiger")

abbrev pub lift_app : App
lift_app = new_app (codes "lift")

-- the program, without clap's help and version
abbrev pub bare_app : App
bare_app = let a = new_app (codes "blifww") in record a {
  top = record a.top {
    subcommand_required = true;
    disable_help_flag = true;
    disable_help_subcommand = true;
    disable_version_flag = true;
  };
}

-- the command with these subcommands added
abbrev pub with_subcommands : App → List App → App
with_subcommands a [] = a
with_subcommands a (sub ∷ subs) = with_subcommands (with_subcommand a sub.top) subs

abbrev pub blifww_app : App
blifww_app =
    with_subcommands bare_app
    (compile_app ∷ driven_app (codes "simulate") ∷ driven_app (codes "eval") ∷ probe_app
    ∷ window_app ∷ make_app ∷ self_app ∷ driven_app (codes "tape")
    ∷ aiger_app ∷ driven_app (codes "vcd") ∷ lift_app ∷ [])
