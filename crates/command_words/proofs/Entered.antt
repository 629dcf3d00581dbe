-- After the name of a command the words are its own.
use Rattle.std.proofs.Common.{◌≡◌, ◌∙◌, Bool, List, [], ◌∷◌, ◌++◌, ◌&&◌, refl, sym, codes, true, false, not, Some, Option, ap, ap₂, option_map, is_some}
use Rattle.std.specs.Prelude.{fold, find}
use Rattle.std.specs.Option.{option_map_or}
use Rattle.std.specs.Str.{bytes_eq}
use Rattle.std.proofs.lemmas.List.{append_assoc, append-nil}
use Rattle.std.proofs.Math.Bool.{and-true, or-true}
use Rattle.clap.specs.Takes.{takes, built_takes, entered_passes, level_passes, walk_passes, turn_passes, settle_passes, is_valid, other_passes, step_passes}
use Rattle.clap.specs.Simple.{App, Shape, entered, label_of, names_of, rows_at, subcommand_of}
use Rattle.clap.specs.Walk.{Held, Names, Step, Text, Walk, answers_to, walked, walk_from, nothing_held, idle, subcommand, rows_after, after_step, subcommand_or_other, stop_after, finished, word_met}
use Rattle.command_words.specs.App.{blifww_app}
use Rattle.command_words.proofs.Rules.{app_built, app_simple, built_app, shapes, top}

abbrev pub names : Names
names = names_of built_app

-- the command with this shape has this name
pub record IsNamed (command : Text) (s : Shape) : Type 0 where
  pub named : find (answers_to command) names ≡ Some (command, [])
  pub shape : find (λ s. answers_to command (label_of s)) shapes ≡ Some s

abbrev met_named : Text → List Text → Walk
met_named command words = record { held = nothing_held; waiting = idle; position = 1; is_trailing = false; stopped = Some (command, words) }

passed_on : (command : Text) (ws vs : List Text) → fold (walked [] names) (met_named command ws) vs ≡ met_named command (ws ++ vs)
unfolding walked
passed_on command ws [] = ap (met_named command) (sym (append-nil ws))
passed_on command ws (v ∷ vs) = passed_on command (ws ++ v ∷ []) vs ∙ ap (met_named command) (append_assoc ws (v ∷ []) vs)

passed_pass : (command : Text) (ws vs : List Text) → walk_passes top names (met_named command ws) vs ≡ true
unfolding walk_passes walked
passed_pass command ws [] = refl
passed_pass command ws (v ∷ vs) = passed_pass command (ws ++ v ∷ []) vs

module _ (command : Text) (s : Shape) (is : IsNamed command s) where
  name_met : word_met [] names false idle 1 command nothing_held ≡ (nothing_held, subcommand command)
  name_met = ap (λ (o : Option (Text × List Text)). subcommand_or_other [] (option_map (λ p. p.0) o) idle 1 command nothing_held) is.named

  name_walked : walked [] names (walk_from nothing_held) command ≡ met_named command []
  unfolding walked
  name_walked = ap (λ (m : Held × Step). after_step [] command (walk_from nothing_held) m.0 m.1) name_met

  name_passes : turn_passes top names (walk_from nothing_held) command ≡ true
  name_passes =
      ap₂ (λ (a b : Bool). a && b)
      (ap (λ (o : Option (Text × List Text)). other_passes top (option_map (λ p. p.0) o) command nothing_held) is.named ∙ or-true (not (bytes_eq command (codes "help"))))
      (ap (λ (m : Held × Step). step_passes top 1 m.0 m.1) name_met)

  all_walked : (rest : List Text) → fold (walked [] names) (walk_from nothing_held) (command ∷ rest) ≡ met_named command rest
  all_walked rest = ap (λ (w : Walk). fold (walked [] names) w rest) name_walked ∙ passed_on command [] rest

  all_pass : (rest : List Text) → walk_passes top names (walk_from nothing_held) (command ∷ rest) ≡ true
  unfolding walk_passes
  all_pass rest = ap₂ (λ (t : Bool) (w : Walk). t && walk_passes top names w rest) name_passes name_walked ∙ passed_pass command [] rest

  pub entered_own : (name : Text) (rest : List Text) → subcommand_of blifww_app (name ∷ command ∷ rest) ≡ Some (s.name, rows_after s.rules [] rest)
  entered_own name rest =
      ap (λ (b : App). entered b (stop_after b.top.rules (names_of b) (command ∷ rest))) app_built
      ∙ ap (λ (w : Walk). entered built_app w.stopped) (all_walked rest)
      ∙ ap (option_map (λ (s : Shape). rows_at s rest)) is.shape

  -- the program's level, after the walk
  abbrev ends : Option Shape → List Text → Bool
  ends o rest = settle_passes [] false nothing_held && is_valid top (finished [] nothing_held) (is_some (option_map (λ (s : Shape). rows_at s rest) o))

  pub takes_own : (name : Text) (rest : List Text) → takes blifww_app (name ∷ command ∷ rest) ≡ level_passes s [] nothing_held rest false
  takes_own name rest =
      let passes = λ (o : Option Shape). option_map_or (λ (s : Shape). level_passes s [] nothing_held rest false) o true in
      ap₂ (λ (t : Bool) (b : App). t && built_takes b nothing_held (command ∷ rest)) app_simple app_built
      ∙ ap (λ (w : Walk). entered_passes built_app w.stopped && (walk_passes top names (walk_from nothing_held) (command ∷ rest)
      && (settle_passes [] false w.held && is_valid top (finished [] w.held) (is_some (entered built_app w.stopped))))) (all_walked rest)
      ∙ ap₂ (λ (t : Bool) (o : Option Shape). passes o && (t && ends o rest)) (all_pass rest) is.shape
      ∙ and-true (level_passes s [] nothing_held rest false)
