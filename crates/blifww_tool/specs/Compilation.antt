-- The pattern that is written of a netlist.
use Rattle.std.specs.Prelude.{ℕ, ◌≡◌, ◌≤◌, ◌<◌, ◌+◌, ◌*◌, ◌/◌, max, Bool, List, [], length, map, Some, None}
use Rattle.lane_core.specs.declared.plan.Plan.{Plan}
use Rattle.lane_core.specs.Plans.{IsAdmissible}
use Rattle.plan_layout.specs.Starts.{HasStartEdges}
use Rattle.pattern_reading.specs.declared.ports.Ports.{Ports}
use Rattle.rle_write.specs.PlanText.{text_of_plan}
use Rattle.carries.specs.Carries.{Carries}
use Rattle.carries.specs.Nets.{CarriesNets}
use Rattle.carries.specs.DesignContexts.{CarriesContexts, CarriesNetsInContexts}
use Rattle.netlist_core.specs.declared.model.Design.{Design}
use Rattle.netlist_core.specs.declared.flat.Flat.{Flat}
use Rattle.netlist_meaning.specs.Valuation.{LatchState}
use Rattle.netlist_meaning.specs.Weight.{weight}
use Rattle.netlist_meaning.specs.FlatOf.{IsFlatOf, at_places}
use Rattle.netlist_plans.specs.Planned.{ComputesCells, HasFewInstrs, HasLanes, HasShortPeriod}
use Rattle.netlist_plans.specs.NetPlaces.{HasNetPlaces}
use Rattle.netlist_plans.specs.Contexts.{loop_starting_bits, IsPaddedFor, StartsLoops}
use Rattle.flat_designs.specs.Laws.{state_in_order}
use Rattle.plan_ports.specs.Tables.{IsTableOf}
use Rattle.lift_carries.specs.Compiled.{IsWrittenDrawing}
use Rattle.netlist_text.specs.NetlistText.{IsNetlist, IsAtFault, IsTooHeavy, HasLoop}
use Rattle.start_words.specs.declared.error.StartFault.{StartFault}
use Rattle.start_words.specs.Words.{first_fault}
use Rattle.start_words.specs.Starts.{latches_of, starts_of_words}
use Rattle.program_runs.specs.declared.causes.Cause.{Cause}
use Rattle.program_runs.specs.declared.causes.Cause.TheVariants.{NetlistFault, WeightTooLarge, Loop, StartWord, TooManyContexts}

-- The text that is written of the plan and its table carries the design and its nets. The plan can
-- be drawn, with its starts. It computes the cells of the design's flat netlist: so it has a loop
-- for each latch, and one more exactly if constant 1 is named. The design's weight bounds the
-- plan's lanes, columns and instructions, and the plan has no lane and no column exactly if all
-- nets are clock nets. Each net has a place, by what drives it. The period is 32 if there is no
-- latch and no cover needs constant 1. The text spells the drawing of a circuit.
pub record IsCarriedBy (design : Design) (plan : Plan) (ports : Ports) : Type 0 where
  pub admissible : IsAdmissible plan
  pub edges : HasStartEdges plan
  pub carries : Carries (text_of_plan plan ports) design
  pub nets : CarriesNets (text_of_plan plan ports) design
  pub lanes : plan.lanes ≤ 4 * weight design + 4
  pub columns : length plan.columns ≤ 256 * ((weight design + 1) * (weight design + 1))
  pub instrs : HasFewInstrs (weight design) plan
  pub table : (flat : Flat) → IsFlatOf design flat → IsTableOf flat plan 1 ports
  pub cells : (flat : Flat) → IsFlatOf design flat → ComputesCells flat plan
  pub size : (flat : Flat) → IsFlatOf design flat → HasLanes flat plan
  pub places : (flat : Flat) → IsFlatOf design flat → HasNetPlaces flat plan
  pub period : (flat : Flat) → IsFlatOf design flat → HasShortPeriod flat ports
  pub drawing : IsWrittenDrawing plan ports

-- with each table of the plan, the text that is written of both carries the design
abbrev pub IsCarriedByTables : Design → Flat → Plan → Type 0
IsCarriedByTables design flat plan =
    (ports : Ports) → IsTableOf flat plan 1 ports → IsCarriedBy design plan ports

-- the text is the netlist of this design, in which the words give starts for so many contexts
pub record HasStarts (contexts : ℕ) (starts : List (List ℕ)) (text : List ℕ)
    (design : Design) : Type 0 where
  pub netlist : IsNetlist text design
  pub no_fault : first_fault (latches_of design) contexts starts ≡ None

-- The bits with which the loops of a plan start, a list for each of these states of the latches: the
-- bits of the latches, in order, and 1 for the loop of constant 1 if the plan has one.
abbrev pub loop_starts : Design → Plan → List LatchState → List (List Bool)
loop_starts design plan states =
    map (λ state. loop_starting_bits plan (state_in_order design state)) states

-- The text is a netlist, in which the words give starts. A plan of one context carries the design,
-- and its period has 32 generations for each of the contexts. The output is the text that is
-- written of a plan and its table; it carries the design and its nets in these contexts, each from
-- its start. The written plan is the plan of one context, except for its starts and for the further
-- columns that the contexts need; in one context, and without words, it is that plan. Its electrons
-- lie on the ways back of its loops, those of context c as many tiles before the loops' entries. In
-- one context the written text spells the drawing of a circuit.
pub record Compiles (contexts : ℕ) (starts : List (List ℕ)) (text output : List ℕ) : Type 0 where
  pub design : Design
  pub has : HasStarts contexts starts text design
  pub base : Plan
  pub base_ports : Ports
  pub is_carried : IsCarriedBy design base base_ports
  pub room : contexts ≤ base_ports.p / 32
  pub plan : Plan
  pub ports : Ports
  pub admissible : IsAdmissible plan
  pub edges : HasStartEdges plan
  pub padded : IsPaddedFor contexts base plan
  pub electrons :
      StartsLoops plan (loop_starts design plan (starts_of_words design starts contexts))
  pub alone : contexts ≡ 1 → starts ≡ [] → (plan ≡ base) × (ports ≡ base_ports)
  pub table : (flat : Flat) → IsFlatOf design flat → IsTableOf flat plan contexts ports
  pub places : (flat : Flat) → IsFlatOf design flat → HasNetPlaces flat plan
  pub written : output ≡ text_of_plan plan ports
  pub drawing : contexts ≡ 1 → IsWrittenDrawing plan ports
  pub carries : CarriesContexts output design (starts_of_words design starts contexts)
  pub nets : CarriesNetsInContexts output design (starts_of_words design starts contexts)

-- why the text is no netlist: it is at fault, or too heavy, or its covers read each other in a
-- circle
abbrev pub HasNoNetlist : List ℕ → Cause → Type 0
HasNoNetlist text (NetlistFault fault) = IsAtFault text fault
HasNoNetlist text (WeightTooLarge weight) = IsTooHeavy text weight
HasNoNetlist text (Loop names) = HasLoop text names
HasNoNetlist text _ = ⊥

-- the text is a netlist, in which this is the first fault of the words
pub record HasStartFault (contexts : ℕ) (starts : List (List ℕ)) (text : List ℕ)
    (fault : StartFault) : Type 0 where
  pub design : Design
  pub netlist : IsNetlist text design
  pub at_fault : first_fault (latches_of design) contexts starts ≡ Some fault

-- the number of a design's latches, of all places
abbrev pub latch_count : Design → ℕ
latch_count design = length (at_places design (λ model. model.latches) (λ place latch. latch))

-- the number of contexts for which every plan has room: one, and six for each latch
abbrev pub least_room : Design → ℕ
least_room design = max 1 (6 * latch_count design)

-- The text is a netlist, in which the words give starts. A plan of one context carries the design,
-- and its period has room for `limit` contexts, 32 generations each; more are asked for.
pub record HasNoRoom (contexts : ℕ) (starts : List (List ℕ)) (text : List ℕ)
    (limit : ℕ) : Type 0 where
  pub design : Design
  pub has : HasStarts contexts starts text design
  pub plan : Plan
  pub ports : Ports
  pub is_carried : IsCarriedBy design plan ports
  pub limit_is : limit ≡ ports.p / 32
  pub least : least_room design ≤ limit
  pub over : limit < contexts

-- why the text is not compiled: it is no netlist, or the words are at fault in it, or the contexts
-- have no room
abbrev pub HasNoCompilation : (contexts : ℕ) → (starts : List (List ℕ)) → List ℕ → Cause → Type 0
HasNoCompilation contexts starts text (StartWord fault) = HasStartFault contexts starts text fault
HasNoCompilation contexts starts text (TooManyContexts told limit) =
    (told ≡ contexts) × HasNoRoom contexts starts text limit
HasNoCompilation contexts starts text cause = HasNoNetlist text cause
