-- The walk of clap over the words of a command in its plainest form: its options, each as two words, and then words of any number.
use Rattle.std.proofs.Common.{◌≡◌, ◌∙◌, ℕ, Bool, List, [], ◌∷◌, ◌++◌, ◌==◌, ◌&&◌, ◌||◌, refl, sym, codes, true, false, Some, None, Option, rules, ap, ap₂}
use Rattle.std.specs.Prelude.{⊤, fold, if◌then◌else◌, nat_lt}
use Rattle.std.specs.List.{AllByRecursion}
use Rattle.std.specs.Option.{option_map_or}
use Rattle.std.specs.Str.{bytes_eq}
use Rattle.std.proofs.lemmas.List.{append_assoc, append-nil}
use Rattle.std.proofs.lemmas.Bool.{and_parts}
use Rattle.clap.specs.Lexer.{strip_byte, long_of}
use Rattle.clap.specs.Takes.{walk_passes, turn_passes, settle_passes, long_passes, flag_word_passes, step_passes, positional_passes}
use Rattle.clap.specs.Walk.{Held, Row, Rule, Step, Text, Waiting, Walk, walked, idle, option, positional, next, value, trailing, after_flag, after_step, long_met, long_or_other, plain_word, option_word, pushed, settled_rows, subcommand_or_other, to_positional, is_pending, word_met, arg_by_id, arg_by_index, arg_by_long}
use Rattle.command_words.specs.Shapes.{option_words}
use Rattle.command_words.proofs.Rules.{leaf, option_rule, words_rule}

abbrev pub HasNoHyphen : Text → Type 0
HasNoHyphen word = strip_byte 45 word ≡ None

no_hyphen : (b : ℕ) (bs : Text) → HasNoHyphen (b ∷ bs) → (b == 45) ≡ false
no_hyphen b bs e = go (b == 45) e
  where
    go : (t : Bool) → (if t then Some bs else None) ≡ None → t ≡ false
    go true e = cc
    go false e = refl

-- the rules have an option of this name
pub record IsOption (rules : List Rule) (name : Text) : Type 0 where
  pub required : Bool
  pub by_long : arg_by_long rules name ≡ Some (option_rule name required)
  pub by_id : arg_by_id rules name ≡ Some (option_rule name required)
  pub long : long_of (45 ∷ 45 ∷ name) ≡ Some (name, None)
  pub whole : bytes_eq (45 ∷ 45 ∷ name) (45 ∷ 45 ∷ []) ≡ false
  pub same : bytes_eq name name ≡ true
  pub other : bytes_eq name (codes "streams") ≡ false

-- an option of the rules, with a value that is no flag
abbrev pub IsGiven : List Rule → Text × Text → Type 0
IsGiven rules given = IsOption rules given.0 × HasNoHyphen given.1

-- the rules have last words, where there are any
abbrev pub HaveWords : List Rule → List Text → Type 0
HaveWords rules [] = ⊤
HaveWords rules (v ∷ vs) = arg_by_index rules 1 ≡ Some words_rule

abbrev pub Pending : Type 0
Pending = Option (Text × List Text)

abbrev held_with : List Row → Pending → Held
held_with rows pending = record { rows = rows; pending = pending; skip = 0 }

abbrev pub standing : List Row → Pending → Waiting → Walk
standing rows pending waiting = record { held = held_with rows pending; waiting = waiting; position = 1; is_trailing = false; stopped = None }

module _ (rules : List Rule) where
  -- ---- one word

  plain_met : (waiting : Waiting) (v : Text) (h : Held) → HasNoHyphen v → subcommand_or_other rules None waiting 1 v h ≡ plain_word rules waiting v h
  plain_met waiting [] h e = refl
  plain_met waiting (b ∷ bs) h e = rw (no_hyphen b bs e) (rw (no_hyphen b bs e) refl)

  plain_passes : (v : Text) (h : Held) → HasNoHyphen v → (bytes_eq v (45 ∷ 45 ∷ []) || flag_word_passes rules false (long_of v) v h) ≡ true
  plain_passes [] h e = refl
  plain_passes (b ∷ bs) h e = rw (no_hyphen b bs e) (rw (no_hyphen b bs e) refl)

  abbrev named : List Row → Pending → Text → Held × Step
  named rows pending name = (held_with (settled_rows rules pending rows) (Some (name, [])), next (option name))

  name_met : (rows : List Row) (pending : Pending) (name : Text) → IsOption rules name → word_met rules [] false idle 1 (45 ∷ 45 ∷ name) (held_with rows pending) ≡ named rows pending name
  name_met rows pending name o =
      let word = 45 ∷ 45 ∷ name in
      let h = held_with rows pending in
      ap (λ (t : Bool). if t then (h, trailing 1) else long_or_other rules idle word (long_of word) h) o.whole
      ∙ ap (λ (p : Option (Text × Option Text)). long_or_other rules idle word p h) o.long
      ∙ ap (λ (a : Option Rule). after_flag rules idle word (long_met rules a None h).0 (long_met rules a None h).1) o.by_long

  name_walked : (rows : List Row) (pending : Pending) (name : Text) → IsOption rules name
      → walked rules [] (standing rows pending idle) (45 ∷ 45 ∷ name) ≡ standing (settled_rows rules pending rows) (Some (name, [])) (option name)
  unfolding walked
  name_walked rows pending name o =
      ap (λ (m : Held × Step). after_step rules (45 ∷ 45 ∷ name) (standing rows pending idle) m.0 m.1) (name_met rows pending name o)

  name_passes : (command : Text) (rows : List Row) (pending : Pending) (name : Text) → IsOption rules name → settle_passes rules false (held_with rows pending) ≡ true
      → turn_passes (leaf command rules) [] (standing rows pending idle) (45 ∷ 45 ∷ name) ≡ true
  name_passes command rows pending name o settles =
      let word = 45 ∷ 45 ∷ name in
      let h = held_with rows pending in
      ap₂ (λ (s t : Bool). s && t)
      (ap (λ (t : Bool). t || flag_word_passes rules false (long_of word) word h) o.whole
      ∙ ap (λ (p : Option (Text × Option Text)). flag_word_passes rules false p word h) o.long
      ∙ ap (λ (a : Option Rule). long_passes rules false a None h) o.by_long
      ∙ settles)
      (ap (λ (m : Held × Step). step_passes (leaf command rules) 1 m.0 m.1) (name_met rows pending name o))

  value_met : (rows : List Row) (name v : Text) → IsOption rules name → HasNoHyphen v
      → word_met rules [] false (option name) 1 v (held_with rows (Some (name, []))) ≡ (held_with rows (Some (name, v ∷ [])), next idle)
  value_met rows name v o e =
      let h = held_with rows (Some (name, [])) in
      plain_met (option name) v h e
      ∙ ap (λ (a : Option Rule). ((option_word a name v h).0, next (option_word a name v h).1)) o.by_id
      ∙ ap (λ (t : Bool). (held_with rows (Some (name, v ∷ [])), next (if nat_lt (if t then 1 else 0) 1 then option name else idle))) o.same

  value_walked : (rows : List Row) (name v : Text) → IsOption rules name → HasNoHyphen v
      → walked rules [] (standing rows (Some (name, [])) (option name)) v ≡ standing rows (Some (name, v ∷ [])) idle
  unfolding walked
  value_walked rows name v o e =
      ap (λ (m : Held × Step). after_step rules v (standing rows (Some (name, [])) (option name)) m.0 m.1) (value_met rows name v o e)

  value_passed : (command : Text) (rows : List Row) (name v : Text) → IsOption rules name → HasNoHyphen v
      → turn_passes (leaf command rules) [] (standing rows (Some (name, [])) (option name)) v ≡ true
  value_passed command rows name v o e =
      ap₂ (λ (s t : Bool). s && t) (plain_passes v (held_with rows (Some (name, []))) e)
      (ap (λ (m : Held × Step). step_passes (leaf command rules) 1 m.0 m.1) (value_met rows name v o e))

  first_met : (waiting : Waiting) (rows : List Row) (pending : Pending) (v : Text) → plain_word rules waiting v (held_with rows pending) ≡ (held_with rows pending, value) → HasNoHyphen v
      → subcommand_or_other rules None waiting 1 v (held_with rows pending) ≡ (held_with rows pending, value)
  first_met waiting rows pending v is e = plain_met waiting v (held_with rows pending) e ∙ is

  first_walked : (rows : List Row) (pending : Pending) (v : Text) → arg_by_index rules 1 ≡ Some words_rule → is_pending words_rule pending ≡ false → HasNoHyphen v
      → walked rules [] (standing rows pending idle) v ≡ standing (settled_rows rules pending rows) (Some (codes "streams", v ∷ [])) positional
  unfolding walked
  first_walked rows pending v words fresh e =
      let h = held_with rows pending in
      let w = standing rows pending idle in
      ap (λ (m : Held × Step). after_step rules v w m.0 m.1) (first_met idle rows pending v refl e)
      ∙ ap (λ (a : Option Rule). to_positional rules a v w h) words
      ∙ ap (λ (t : Bool). record w { held = pushed (codes "streams") v (if t && true then h else held_with (settled_rows rules pending rows) None); waiting = positional }) fresh

  first_passes : (command : Text) (rows : List Row) (pending : Pending) (v : Text) → arg_by_index rules 1 ≡ Some words_rule → is_pending words_rule pending ≡ false → HasNoHyphen v
      → settle_passes rules false (held_with rows pending) ≡ true → turn_passes (leaf command rules) [] (standing rows pending idle) v ≡ true
  first_passes command rows pending v words fresh e settles =
      let h = held_with rows pending in
      ap₂ (λ (s t : Bool). s && t) (plain_passes v h e)
      (ap (λ (m : Held × Step). step_passes (leaf command rules) 1 m.0 m.1) (first_met idle rows pending v refl e)
      ∙ ap (λ (o : Option Rule). option_map_or (λ (a : Rule). positional_passes rules false a h) o false) words
      ∙ ap (λ (t : Bool). (t && true) || settle_passes rules false h) fresh
      ∙ settles)

  next_walked : (rows : List Row) (ws : List Text) (v : Text) → arg_by_index rules 1 ≡ Some words_rule → HasNoHyphen v
      → walked rules [] (standing rows (Some (codes "streams", ws)) positional) v ≡ standing rows (Some (codes "streams", ws ++ v ∷ [])) positional
  unfolding walked
  next_walked rows ws v words e =
      let pending = Some (codes "streams", ws) in
      let w = standing rows pending positional in
      ap (λ (m : Held × Step). after_step rules v w m.0 m.1) (first_met positional rows pending v refl e)
      ∙ ap (λ (a : Option Rule). to_positional rules a v w (held_with rows pending)) words

  next_passes : (command : Text) (rows : List Row) (ws : List Text) (v : Text) → arg_by_index rules 1 ≡ Some words_rule → HasNoHyphen v
      → turn_passes (leaf command rules) [] (standing rows (Some (codes "streams", ws)) positional) v ≡ true
  next_passes command rows ws v words e =
      let h = held_with rows (Some (codes "streams", ws)) in
      ap₂ (λ (s t : Bool). s && t) (plain_passes v h e)
      (ap (λ (m : Held × Step). step_passes (leaf command rules) 1 m.0 m.1) (first_met positional rows (Some (codes "streams", ws)) v refl e)
      ∙ ap (λ (o : Option Rule). option_map_or (λ (a : Rule). positional_passes rules false a h) o false) words)

  -- ---- words of any number

  streams_walked : (rows : List Row) (ws vs : List Text) → arg_by_index rules 1 ≡ Some words_rule → AllByRecursion HasNoHyphen vs
      → fold (walked rules []) (standing rows (Some (codes "streams", ws)) positional) vs ≡ standing rows (Some (codes "streams", ws ++ vs)) positional
  streams_walked rows ws [] words all = ap (λ (l : List Text). standing rows (Some (codes "streams", l)) positional) (sym (append-nil ws))
  streams_walked rows ws (v ∷ vs) words all =
      ap (λ (w : Walk). fold (walked rules []) w vs) (next_walked rows ws v words all.0)
      ∙ streams_walked rows (ws ++ v ∷ []) vs words all.1
      ∙ ap (λ (l : List Text). standing rows (Some (codes "streams", l)) positional) (append_assoc ws (v ∷ []) vs)

  streams_pass : (command : Text) (rows : List Row) (ws vs : List Text) → arg_by_index rules 1 ≡ Some words_rule → AllByRecursion HasNoHyphen vs
      → walk_passes (leaf command rules) [] (standing rows (Some (codes "streams", ws)) positional) vs ≡ true
  unfolding walk_passes
  streams_pass command rows ws [] words all = refl
  streams_pass command rows ws (v ∷ vs) words all =
      ap₂ (λ (t : Bool) (w : Walk). t && walk_passes (leaf command rules) [] w vs) (next_passes command rows ws v words all.0) (next_walked rows ws v words all.0)
      ∙ streams_pass command rows (ws ++ v ∷ []) vs words all.1

  -- the walk after these options and words
  abbrev pub plain_walk : List Row → Pending → List (Text × Text) → List Text → Walk
  plain_walk rows pending [] [] = standing rows pending idle
  plain_walk rows pending [] (v ∷ vs) = standing (settled_rows rules pending rows) (Some (codes "streams", v ∷ vs)) positional
  plain_walk rows pending (given ∷ options) streams = plain_walk (settled_rows rules pending rows) (Some (given.0, given.1 ∷ [])) options streams

  -- each option is used once at most
  abbrev pub options_pass : List Row → Pending → List (Text × Text) → Bool
  options_pass rows pending [] = settle_passes rules false (held_with rows pending)
  options_pass rows pending (given ∷ options) =
      settle_passes rules false (held_with rows pending) && options_pass (settled_rows rules pending rows) (Some (given.0, given.1 ∷ [])) options

  pub all_walked : (rows : List Row) (pending : Pending) (options : List (Text × Text)) (streams : List Text) → is_pending words_rule pending ≡ false
      → AllByRecursion (IsGiven rules) options → HaveWords rules streams → AllByRecursion HasNoHyphen streams
      → fold (walked rules []) (standing rows pending idle) (option_words options ++ streams) ≡ plain_walk rows pending options streams
  all_walked rows pending [] [] fresh given words all = refl
  all_walked rows pending [] (v ∷ vs) fresh given words all =
      ap (λ (w : Walk). fold (walked rules []) w vs) (first_walked rows pending v words fresh all.0) ∙ streams_walked (settled_rows rules pending rows) (v ∷ []) vs words all.1
  all_walked rows pending (p ∷ options) streams fresh given words all =
      let later = option_words options ++ streams in
      let settled = settled_rows rules pending rows in
      ap (λ (w : Walk). fold (walked rules []) (walked rules [] w p.1) later) (name_walked rows pending p.0 given.0.0)
      ∙ ap (λ (w : Walk). fold (walked rules []) w later) (value_walked settled p.0 p.1 given.0.0 given.0.1)
      ∙ all_walked settled (Some (p.0, p.1 ∷ [])) options streams given.0.0.other given.1 words all

  pub all_pass : (command : Text) (rows : List Row) (pending : Pending) (options : List (Text × Text)) (streams : List Text) → is_pending words_rule pending ≡ false
      → AllByRecursion (IsGiven rules) options → HaveWords rules streams → AllByRecursion HasNoHyphen streams → options_pass rows pending options ≡ true
      → walk_passes (leaf command rules) [] (standing rows pending idle) (option_words options ++ streams) ≡ true
  unfolding walk_passes
  all_pass command rows pending [] [] fresh given words all settles = refl
  all_pass command rows pending [] (v ∷ vs) fresh given words all settles =
      ap₂ (λ (t : Bool) (w : Walk). t && walk_passes (leaf command rules) [] w vs) (first_passes command rows pending v words fresh all.0 settles) (first_walked rows pending v words fresh all.0)
      ∙ streams_pass command (settled_rows rules pending rows) (v ∷ []) vs words all.1
  all_pass command rows pending (p ∷ options) streams fresh given words all settles =
      let later = option_words options ++ streams in
      let settled = settled_rows rules pending rows in
      let parts = and_parts (settle_passes rules false (held_with rows pending)) _ settles in
      ap₂ (λ (t : Bool) (w : Walk). t && (turn_passes (leaf command rules) [] w p.1 && walk_passes (leaf command rules) [] (walked rules [] w p.1) later))
      (name_passes command rows pending p.0 given.0.0 parts.0) (name_walked rows pending p.0 given.0.0)
      ∙ ap₂ (λ (t : Bool) (w : Walk). t && walk_passes (leaf command rules) [] w later)
      (value_passed command settled p.0 p.1 given.0.0 given.0.1) (value_walked settled p.0 p.1 given.0.0 given.0.1)
      ∙ all_pass command settled (Some (p.0, p.1 ∷ [])) options streams given.0.0.other given.1 words all parts.1
