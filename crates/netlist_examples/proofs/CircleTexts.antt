-- Texts with a circle of models.
use Rattle.std.proofs.Common.{◌≡◌, refl, inr, ℕ, List, [], ◌∷◌, length, true, lit<, ◌<◌}
use Rattle.std.specs.Prelude.{Some, None, codes, get_or, bytes_eq}
use Rattle.std.specs.List.{IsDistinct, join_with_byte}
use Rattle.netlist_core.specs.declared.model.Subckt.{Subckt}
use Rattle.netlist_core.specs.declared.model.Model.{Model}
use Rattle.netlist_rules.specs.declared.fault.FaultKind.TheVariants.{Recursive}
use Rattle.blif_text.specs.LogicalLines.{logical_lines}
use Rattle.blif_text.specs.Models.{models_of}
use Rattle.blif_text.specs.LineFaults.{line_fault}
use Rattle.netlist_core.specs.Names.{model_named}
use Rattle.netlist_rules.specs.Circles.{HasSubcktOf, LeadsBack, IsOnCircle}
use Rattle.netlist_rules.specs.ModelFaults.{model_fault}
use Rattle.blif_text.specs.Faults.HasFault.{of_models}
use Rattle.netlist_examples.specs.TextExamples.{Breaks, CircleExamples, deep_model, subckt}
use Rattle.netlist_rules.proofs.CircleLemmas.{all_late, no_earlier_circle}

-- a model without ports, with lines that place these models without pins
abbrev pub places_on : ℕ → List ℕ → Subckt
places_on line name = subckt line name []

abbrev pub bare : ℕ → List ℕ → List Subckt → Model
bare line name subckts = deep_model line name [] [] subckts

-- the fault, where each of these computes
circle_by : (text : List ℕ) (names : List (List ℕ)) (line : ℕ) → line_fault (logical_lines text) ≡ None → model_fault (models_of (logical_lines text)) ≡ None → IsOnCircle (models_of (logical_lines text)) line names → all_late line (models_of (logical_lines text)) ≡ true
    → Breaks text Recursive line (join_with_byte 32 names)
circle_by text names line a b c late = of_models (record { no_fault = a; are_models = refl }) (inr (b, record { kind = refl; names = names; circle = c; word = refl; is_earliest = no_earlier_circle (models_of (logical_lines text)) line late }))

-- the step from a model to the one that its subckt line names
step : (models : List Model) (l : ℕ) (m : Model) (s : Subckt) → model_named models m.name ≡ Some m → l < length m.subckts → get_or m.subckts l s ≡ s → HasSubcktOf models m.name s.model
step models l m s a c d = record { model = m; is_model = a; subckt = s; is_line = (l, c, d); names_other = refl }

-- the circle of a subckt line
from : (models : List Model) (l : ℕ) (m : Model) (s : Subckt) (others : List (List ℕ)) → model_named models m.name ≡ Some m → l < length m.subckts → get_or m.subckts l s ≡ s → LeadsBack models s.model others m.name → IsDistinct bytes_eq (m.name ∷ others)
    → IsOnCircle models s.line (m.name ∷ others)
from models l m s others a c d back simple = record { model = m; is_model = a; subckt = s; is_subckt = (l, c, d); at_the_line = refl; others = others; begins = refl; leads_back = back; is_simple = simple }

abbrev pub itself_models : List Model
itself_models = bare 1 (codes "m") (places_on 2 (codes "m") ∷ []) ∷ []

itself : IsOnCircle itself_models 2 (codes "m" ∷ [])
unfolding IsDistinct
itself = from itself_models 0 (bare 1 (codes "m") (places_on 2 (codes "m") ∷ [])) (places_on 2 (codes "m")) ([]) refl (lit< tt) refl refl (tt, tt)

abbrev pub each_other_models : List Model
each_other_models = bare 1 (codes "a") (places_on 2 (codes "b") ∷ []) ∷ bare 3 (codes "b") (places_on 4 (codes "a") ∷ []) ∷ []

each_other : IsOnCircle each_other_models 2 (codes "a" ∷ codes "b" ∷ [])
unfolding IsDistinct
each_other = from each_other_models 0 (bare 1 (codes "a") (places_on 2 (codes "b") ∷ [])) (places_on 2 (codes "b")) (codes "b" ∷ []) refl (lit< tt) refl (refl, step each_other_models 0 (bare 3 (codes "b") (places_on 4 (codes "a") ∷ [])) (places_on 4 (codes "a")) refl (lit< tt) refl) ((refl, tt), (tt, tt))

abbrev pub below_models : List Model
below_models = bare 1 (codes "a") (places_on 2 (codes "b") ∷ []) ∷ bare 4 (codes "b") (places_on 5 (codes "b") ∷ []) ∷ []

below : IsOnCircle below_models 5 (codes "b" ∷ [])
unfolding IsDistinct
below = from below_models 0 (bare 4 (codes "b") (places_on 5 (codes "b") ∷ [])) (places_on 5 (codes "b")) ([]) refl (lit< tt) refl refl (tt, tt)

abbrev pub three_models : List Model
three_models = bare 1 (codes "a") (places_on 2 (codes "d") ∷ places_on 3 (codes "b") ∷ []) ∷ bare 4 (codes "b") (places_on 5 (codes "c") ∷ []) ∷ bare 6 (codes "c") (places_on 7 (codes "a") ∷ []) ∷ bare 8 (codes "d") ([]) ∷ []

three : IsOnCircle three_models 3 (codes "a" ∷ codes "b" ∷ codes "c" ∷ [])
unfolding IsDistinct
three = from three_models 1 (bare 1 (codes "a") (places_on 2 (codes "d") ∷ places_on 3 (codes "b") ∷ [])) (places_on 3 (codes "b")) (codes "b" ∷ codes "c" ∷ []) refl (lit< tt) refl (refl, (step three_models 0 (bare 4 (codes "b") (places_on 5 (codes "c") ∷ [])) (places_on 5 (codes "c")) refl (lit< tt) refl, step three_models 0 (bare 6 (codes "c") (places_on 7 (codes "a") ∷ [])) (places_on 7 (codes "a")) refl (lit< tt) refl)) ((refl, (refl, tt)), ((refl, tt), (tt, tt)))

abbrev pub unreached_models : List Model
unreached_models = (bare 1 (codes "m") []) ∷ (bare 2 (codes "a") ((places_on 3 (codes "a")) ∷ [])) ∷ []

unreached : IsOnCircle unreached_models 3 ((codes "a") ∷ [])
unfolding IsDistinct
unreached = from unreached_models 0 (bare 2 (codes "a") ((places_on 3 (codes "a")) ∷ [])) (places_on 3 (codes "a")) ([]) refl (lit< tt) refl refl (tt, tt)

abbrev pub short_way_models : List Model
short_way_models = (bare 1 (codes "a") ((places_on 2 (codes "b")) ∷ [])) ∷ (bare 3 (codes "b") ((places_on 4 (codes "a")) ∷ (places_on 5 (codes "c")) ∷ [])) ∷ (bare 6 (codes "c") ((places_on 7 (codes "a")) ∷ [])) ∷ []

short_way : IsOnCircle short_way_models 2 ((codes "a") ∷ (codes "b") ∷ [])
unfolding IsDistinct
short_way = from short_way_models 0 (bare 1 (codes "a") ((places_on 2 (codes "b")) ∷ [])) (places_on 2 (codes "b")) ((codes "b") ∷ []) refl (lit< tt) refl (refl, step short_way_models 0 (bare 3 (codes "b") ((places_on 4 (codes "a")) ∷ (places_on 5 (codes "c")) ∷ [])) (places_on 4 (codes "a")) refl (lit< tt) refl) ((refl, tt), (tt, tt))

abbrev pub long_way_models : List Model
long_way_models = (bare 1 (codes "a") ((places_on 2 (codes "b")) ∷ [])) ∷ (bare 3 (codes "b") ((places_on 4 (codes "a")) ∷ (places_on 5 (codes "c")) ∷ [])) ∷ (bare 6 (codes "c") ((places_on 7 (codes "a")) ∷ [])) ∷ []

long_way : IsOnCircle long_way_models 2 ((codes "a") ∷ (codes "b") ∷ (codes "c") ∷ [])
unfolding IsDistinct
long_way = from long_way_models 0 (bare 1 (codes "a") ((places_on 2 (codes "b")) ∷ [])) (places_on 2 (codes "b")) ((codes "b") ∷ (codes "c") ∷ []) refl (lit< tt) refl (refl, (step long_way_models 1 (bare 3 (codes "b") ((places_on 4 (codes "a")) ∷ (places_on 5 (codes "c")) ∷ [])) (places_on 5 (codes "c")) refl (lit< tt) refl, step long_way_models 0 (bare 6 (codes "c") ((places_on 7 (codes "a")) ∷ [])) (places_on 7 (codes "a")) refl (lit< tt) refl)) ((refl, (refl, tt)), ((refl, tt), (tt, tt)))

pub circle_examples : CircleExamples
circle_examples = record {
  circle_beside_the_main_model = circle_by (codes ".model m\n.model a\n.subckt a\n") ((codes "a") ∷ []) 3 refl refl unreached refl;
  on_two_circles = circle_by (codes ".model a\n.subckt b\n.model b\n.subckt a\n.subckt c\n.model c\n.subckt a\n") ((codes "a") ∷ (codes "b") ∷ []) 2 refl refl short_way refl;
  on_the_other_circle = circle_by (codes ".model a\n.subckt b\n.model b\n.subckt a\n.subckt c\n.model c\n.subckt a\n") ((codes "a") ∷ (codes "b") ∷ (codes "c") ∷ []) 2 refl refl long_way refl;
  places_itself = circle_by (codes ".model m\n.subckt m\n") (codes "m" ∷ []) 2 refl refl itself refl;
  places_each_other = circle_by (codes ".model a\n.subckt b\n.model b\n.subckt a\n") (codes "a" ∷ codes "b" ∷ []) 2 refl refl each_other refl;
  leads_to_circle = circle_by (codes ".model a\n.subckt b\n.end\n.model b\n.subckt b\n") (codes "b" ∷ []) 5 refl refl below refl;
  circle_of_three = circle_by (codes ".model a\n.subckt d\n.subckt b\n.model b\n.subckt c\n.model c\n.subckt a\n.model d\n") (codes "a" ∷ codes "b" ∷ codes "c" ∷ []) 3 refl refl three refl;
}
