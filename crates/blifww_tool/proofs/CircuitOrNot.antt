-- A text is a circuit's, or is refused in one way.
use Rattle.std.proofs.Common.{ℕ, ◌≡◌, refl, sym, ap, ap₂, ◌∙◌, subst, List, Bool, true, false, true≢false}
use Rattle.ww_rule.specs.Grid.{Grid}
use Rattle.lane_core.specs.declared.plan.Plan.{Plan}
use Rattle.pattern_reading.specs.declared.ports.Ports.{Ports}
use Rattle.pattern_reading.specs.Pattern.{ReadsWithinLimit, HasReaderFault, HasLargeBox}
use Rattle.pattern_reading.specs.PortTable.{HasPortFault}
use Rattle.pattern_reading.proofs.Large.{one_reader_answer}
use Rattle.rle_read.specs.declared.error.RleFault.{RleFault}
use Rattle.port_table.specs.declared.faults.PortFault.{PortFault}
use Rattle.tile_match.specs.declared.error.CircuitFault.{CircuitFault}
use Rattle.tile_match.specs.declared.error.CircuitFault.TheVariants as fault
use Rattle.tile_match.specs.Circuit.{IsPlanDrawing}
use Rattle.tile_match.specs.Faults.{HasCircuitFault}
use Rattle.tile_match.specs.Names.{has_bad_name}
use Rattle.blifww_tool.specs.Lifting.{IsCircuitText, HasNoCircuit}
use Rattle.blifww_tool.proofs.SimulationOrNot.{IsRead, fault_or_box, fault_or_read, box_or_read, same_grid, same_ports, table_or_read, same_pattern, same_table}
use Rattle.program_runs.specs.declared.causes.Cause.{Cause}
use Rattle.program_runs.specs.declared.causes.Cause.TheVariants.{NetlistFault, WeightTooLarge, Loop, AigAtFault, AigLoop, Pattern, GridTooLarge, PortTable, Streams, StartWord, NoSuchNet, TooFar, TooManyContexts, NotQuiet, NotCircuit}

-- ---- of a pattern with a table

-- a name is bad or is not
named_or_bad : (b : Bool) → b ≡ true → b ≡ false → ⊥
named_or_bad b bad named = true≢false (sym bad ∙ named)

-- a drawing of a circuit has no fault
drawn_or_not : (grid : Grid) (ports : Ports) (plan : Plan) (f : CircuitFault) → IsPlanDrawing grid ports plan → has_bad_name ports ≡ false → HasCircuitFault grid ports f → ⊥
drawn_or_not grid ports plan fault.Ports drawn named h = h (plan, drawn.circuit, drawn.ports)
drawn_or_not grid ports plan fault.Names drawn named h = named_or_bad (has_bad_name ports) h.1 named
drawn_or_not grid ports plan fault.Cells drawn named h = h.2 plan drawn

-- it has one fault
same_fault : (grid : Grid) (ports : Ports) (a b : CircuitFault) → HasCircuitFault grid ports a → HasCircuitFault grid ports b → a ≡ b
same_fault grid ports fault.Ports fault.Ports h k = refl
same_fault grid ports fault.Ports fault.Names h k = absurd (h k.0)
same_fault grid ports fault.Ports fault.Cells h k = absurd (h k.0)
same_fault grid ports fault.Names fault.Ports h k = absurd (k h.0)
same_fault grid ports fault.Names fault.Names h k = refl
same_fault grid ports fault.Names fault.Cells h k = absurd (named_or_bad (has_bad_name ports) h.1 k.1)
same_fault grid ports fault.Cells fault.Ports h k = absurd (k h.0)
same_fault grid ports fault.Cells fault.Names h k = absurd (named_or_bad (has_bad_name ports) k.1 h.1)
same_fault grid ports fault.Cells fault.Cells h k = refl

-- ---- of a text

-- the ways to be refused
data Reason (text : List ℕ) (r : Cause) : Type 0 where
  by_pattern : (f : RleFault) → r ≡ Pattern f → HasReaderFault text f.kind f.line → Reason text r
  by_box : (width height : ℕ) → r ≡ GridTooLarge width height → HasLargeBox text width height → Reason text r
  by_table : (f : PortFault) → r ≡ PortTable f → (grid : Grid) → ReadsWithinLimit text grid → HasPortFault text grid.width grid.height f.kind f.line → Reason text r
  by_fault : (f : CircuitFault) → r ≡ NotCircuit f → (grid : Grid) → (ports : Ports) → IsRead text grid ports → HasCircuitFault grid ports f → Reason text r

reason_of : (text : List ℕ) (r : Cause) → HasNoCircuit text r → Reason text r
reason_of text (NetlistFault f) h = absurd h
reason_of text (WeightTooLarge told) h = absurd h
reason_of text (Loop names) h = absurd h
reason_of text (AigAtFault f) h = absurd h
reason_of text (AigLoop literals) h = absurd h
reason_of text (Pattern f) h = by_pattern f refl h
reason_of text (GridTooLarge width height) h = by_box width height refl h
reason_of text (PortTable f) h = by_table f refl h.0 h.1 h.2
reason_of text (Streams f) h = absurd h
reason_of text (StartWord f) h = absurd h
reason_of text (NoSuchNet name) h = absurd h
reason_of text (TooFar generations) h = absurd h
reason_of text (TooManyContexts contexts limit) h = absurd h
reason_of text (NotQuiet generation x y) h = absurd h
reason_of text (NotCircuit f) h = by_fault f refl h.0 h.1 record { pattern = h.2; table = h.3 } h.4

module _ (text : List ℕ) where
  -- two readings are one
  same_there : (a b : Grid) (p q : Ports) (f : CircuitFault) → IsRead text a p → IsRead text b q → HasCircuitFault a p f → HasCircuitFault b q f
  same_there a b p q f h k is =
      subst (λ (ports : Ports). HasCircuitFault b ports f) (same_ports text a b p q h k)
      (subst (λ (grid : Grid). HasCircuitFault grid p f) (same_grid text a b h.pattern k.pattern) is)

  read_of : (grid : Grid) (ports : Ports) (plan : Plan) → IsCircuitText text grid ports plan → IsRead text grid ports
  read_of grid ports plan h = record { pattern = h.pattern; table = h.table }

  not_refused : (grid : Grid) (ports : Ports) (plan : Plan) (r : Cause) → IsCircuitText text grid ports plan → Reason text r → ⊥
  not_refused grid ports plan r h (by_pattern f e k) = fault_or_read text f.kind f.line grid k h.pattern
  not_refused grid ports plan r h (by_box width height e k) = box_or_read text width height grid k h.pattern
  not_refused grid ports plan r h (by_table f e other reads k) = table_or_read text f.kind f.line other grid ports reads k (read_of grid ports plan h)
  not_refused grid ports plan r h (by_fault f e other table reads k) =
      drawn_or_not grid ports plan f h.drawing h.named (same_there other grid table ports f reads (read_of grid ports plan h) k)

  -- a circuit's text is not refused
  pub circuit_or_not : (grid : Grid) (ports : Ports) (plan : Plan) (r : Cause) → IsCircuitText text grid ports plan → HasNoCircuit text r → ⊥
  circuit_or_not grid ports plan r h k = not_refused grid ports plan r h (reason_of text r k)

  one_reason : (r r' : Cause) → Reason text r → Reason text r' → r ≡ r'
  one_reason r r' (by_pattern f e h) (by_pattern f' e' h') = e ∙ ap Pattern (same_pattern text f f' h h') ∙ sym e'
  one_reason r r' (by_pattern f e h) (by_box x y e' h') = absurd (fault_or_box text f.kind f.line x y h h')
  one_reason r r' (by_pattern f e h) (by_table f' e' g reads h') = absurd (fault_or_read text f.kind f.line g h reads)
  one_reason r r' (by_pattern f e h) (by_fault f' e' g p reads h') = absurd (fault_or_read text f.kind f.line g h reads.pattern)
  one_reason r r' (by_box x y e h) (by_pattern f' e' h') = absurd (fault_or_box text f'.kind f'.line x y h' h)
  one_reason r r' (by_box x y e h) (by_box x' y' e' h') =
      let same = (one_reader_answer text).one_box x y x' y' h.0 h'.0 in e ∙ ap₂ GridTooLarge same.0 same.1 ∙ sym e'
  one_reason r r' (by_box x y e h) (by_table f' e' g reads h') = absurd (box_or_read text x y g h reads)
  one_reason r r' (by_box x y e h) (by_fault f' e' g p reads h') = absurd (box_or_read text x y g h reads.pattern)
  one_reason r r' (by_table f e g reads h) (by_pattern f' e' h') = absurd (fault_or_read text f'.kind f'.line g h' reads)
  one_reason r r' (by_table f e g reads h) (by_box x y e' h') = absurd (box_or_read text x y g h' reads)
  one_reason r r' (by_table f e g reads h) (by_table f' e' g' reads' h') = e ∙ ap PortTable (same_table text f f' g g' reads h reads' h') ∙ sym e'
  one_reason r r' (by_table f e g reads h) (by_fault f' e' g' p reads' h') = absurd (table_or_read text f.kind f.line g g' p reads h reads')
  one_reason r r' (by_fault f e g p reads h) (by_pattern f' e' h') = absurd (fault_or_read text f'.kind f'.line g h' reads.pattern)
  one_reason r r' (by_fault f e g p reads h) (by_box x y e' h') = absurd (box_or_read text x y g h' reads.pattern)
  one_reason r r' (by_fault f e g p reads h) (by_table f' e' g' reads' h') = absurd (table_or_read text f'.kind f'.line g' g p reads' h' reads)
  one_reason r r' (by_fault f e g p reads h) (by_fault f' e' g' p' reads' h') =
      e ∙ ap NotCircuit (same_fault g' p' f f' (same_there g g' p p' f reads reads' h) h') ∙ sym e'

  pub one_cause : (r r' : Cause) → HasNoCircuit text r → HasNoCircuit text r' → r ≡ r'
  one_cause r r' h k = one_reason r r' (reason_of text r h) (reason_of text r' k)
