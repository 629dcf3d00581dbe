-- The places and names of a design in order: places by their numbers, a place before those inside
-- it, and at a place the names by where they first stand in the model's text.
use Rattle.std.specs.Prelude.{ℕ, zero, suc, List, [], ◌∷◌, ◌++◌, Bool, true, false, cond, nat_le, ◌==◌, length, map, flat_map, Option, Some, None, option_to_list, bytes_eq}
use Rattle.netlist_core.specs.declared.model.Design.{Design}
use Rattle.netlist_core.specs.declared.model.Model.{Model}
use Rattle.netlist_core.specs.declared.model.Port.{Port}
use Rattle.netlist_core.specs.declared.model.Cover.{Cover}
use Rattle.netlist_core.specs.declared.model.LatchRow.{LatchRow}
use Rattle.netlist_core.specs.declared.model.Subckt.{Subckt}
use Rattle.netlist_core.specs.Names.{Name, at_line, port_names, model_named}
use Rattle.netlist_meaning.specs.Places.{Place, main_model, model_at}
use Rattle.netlist_meaning.specs.Nets.{Net, net_at}

-- the list that a function gives for a value, and the empty list if there is no value
abbrev pub of_some : {X Y : Type 0} → (X → List Y) → Option X → List Y
of_some f None = []
of_some f (Some x) = f x

-- the places inside the models that some subckt lines place; the first line has this number
abbrev pub places_in_lines : (Subckt → List Place) → ℕ → List Subckt → List Place
places_in_lines places number [] = []
places_in_lines places number (line ∷ lines) =
    map (λ place. number ∷ place) (places line) ++ places_in_lines places (suc number) lines

-- the place of a model, and after it the places inside, fewer than so many lines deep
abbrev pub places_below : Design → ℕ → Model → List Place
places_below design zero model = []
places_below design (suc depth) model =
    [] ∷ places_in_lines (λ line. of_some (places_below design depth)
    (model_named design.models line.model)) 0 model.subckts

-- the places in order. If no model stands inside a place of itself, each place is fewer lines deep
-- than there are models
abbrev pub places_in_order : Design → List Place
places_in_order design = of_some (places_below design (length design.models)) (main_model design)

-- the names on a model's lines, each with its line; names of one line stand as on the line
abbrev pub cover_words : Cover → List Port
cover_words cover = map (at_line cover.line) (cover.ins ++ cover.out ∷ [])

abbrev pub latch_words : LatchRow → List Port
latch_words latch =
    map (at_line latch.line) (latch.input ∷ latch.output ∷ option_to_list latch.control)

abbrev pub subckt_words : Subckt → List Port
subckt_words line = map (λ pin. at_line line.line pin.actual) line.pins

abbrev pub model_words : Model → List Port
model_words model =
    model.ins
    ++ model.outs
    ++ model.clocks
    ++ flat_map cover_words model.covers
    ++ flat_map latch_words model.latches
    ++ flat_map subckt_words model.subckts

-- the words, which stand by line, with one more: it is put before the first that is on no earlier
-- line
abbrev pub put_by_line : Port → List Port → List Port
put_by_line word [] = word ∷ []
put_by_line word (next ∷ words) =
    cond (nat_le word.line next.line) (word ∷ next ∷ words) (next ∷ put_by_line word words)

-- the words by line, and those of one line as they stood: the order of the text
abbrev pub by_line : List Port → List Port
by_line [] = []
by_line (word ∷ words) = put_by_line word (by_line words)

-- the words of one line, as they stand
abbrev pub cons_when : Bool → Port → List Port → List Port
cons_when true word words = word ∷ words
cons_when false word words = words

abbrev pub words_on_line : ℕ → List Port → List Port
words_on_line line [] = []
words_on_line line (word ∷ words) = cons_when (word.line == line) word (words_on_line line words)

-- the names of a list but this one
abbrev pub cons_unless : Bool → Name → List Name → List Name
cons_unless true name names = names
cons_unless false name names = name ∷ names

abbrev pub without_name : Name → List Name → List Name
without_name name [] = []
without_name name (other ∷ names) =
    cons_unless (bytes_eq name other) other (without_name name names)

-- the names of a list, each only where it first stands
abbrev pub first_names : List Name → List Name
first_names [] = []
first_names (name ∷ names) = name ∷ without_name name (first_names names)

-- the names of a model, in the order in which they first stand in its text
abbrev pub names_in_order : Model → List Name
names_in_order model = first_names (port_names (by_line (model_words model)))

-- the nets at a place, and those of the design, in order
abbrev pub nets_at : Design → Place → List Net
nets_at design place = map (net_at place) (of_some names_in_order (model_at design place))

abbrev pub nets_in_order : Design → List Net
nets_in_order design = flat_map (nets_at design) (places_in_order design)
