-- What start words mean for a design.
use Rattle.std.specs.Prelude.{ℕ, ◌==◌, ◌&&◌, Bool, false, List, [], map, Option, Some, None, unwrap_or}
use Rattle.std.specs.Bool.{then_some}
use Rattle.std.specs.List.{list_any, range_with_len}
use Rattle.netlist_core.specs.declared.model.Design.{Design}
use Rattle.netlist_core.specs.declared.model.LatchRow.{LatchRow}
use Rattle.netlist_core.specs.Names.{Name}
use Rattle.netlist_meaning.specs.Places.{Place, latch_at}
use Rattle.netlist_meaning.specs.Nets.{net_at}
use Rattle.netlist_meaning.specs.InOrder.{nets_in_order}
use Rattle.netlist_meaning.specs.FlatOf.{at_places, class_of_net, is_same_net}
use Rattle.netlist_meaning.specs.Valuation.{LatchState}
use Rattle.start_words.specs.Words.{Latches, bit_set}

-- a net of the main model has the name
abbrev pub is_main_name : Design → Name → Bool
is_main_name design name = list_any (is_same_net (net_at [] name)) (nets_in_order design)

-- the class of a latch's output: the position of its root, which joined nets share
abbrev pub output_class : Design → Place → LatchRow → ℕ
output_class design place latch = class_of_net design (net_at place latch.output)

-- the class of the main model's net of each name, if that net is joined with a latch's output
abbrev pub latches_of : Design → Latches
latches_of design name =
    let class = class_of_net design (net_at [] name) in
    then_some (is_main_name design name
    && list_any (λ other. other == class)
    (at_places design (λ model. model.latches) (output_class design))) class

-- the bit with which a latch starts: the bit that the words set in this context, or else 1 if its
-- init is 1
abbrev pub start_by_words : Design → List (List ℕ) → (context : ℕ) → Place → Option LatchRow → Bool
start_by_words design words context place None = false
start_by_words design words context place (Some latch) =
    unwrap_or (bit_set (latches_of design) context (output_class design place latch) words)
    (latch.init == 1)

-- the state in which the machine of a context starts
abbrev pub start_of_words : Design → List (List ℕ) → (context : ℕ) → LatchState
start_of_words design words context place number =
    start_by_words design words context place (latch_at design place number)

-- the start states of `contexts` contexts, in order
abbrev pub starts_of_words : Design → List (List ℕ) → (contexts : ℕ) → List LatchState
starts_of_words design words contexts =
    map (start_of_words design words) (range_with_len 0 contexts)
