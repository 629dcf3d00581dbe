-- A text and words give a simulation, or are refused in one way.
use Rattle.std.proofs.Common.{ℕ, ◌≡◌, ◌<◌, ◌≤◌, refl, sym, ap, ap₂, ◌∙◌, subst, Bool, List, arith}
use Rattle.std.specs.Prelude.{slice_get, None}
use Rattle.std.proofs.lemmas.Option.{none-some, same_Some}
use Rattle.ww_rule.specs.declared.pattern.Injection.{Injection}
use Rattle.ww_rule.specs.Grid.{Grid}
use Rattle.pattern_reading.specs.declared.ports.Ports.{Ports}
use Rattle.pattern_reading.specs.declared.faults.RleFaultKind.{RleFaultKind}
use Rattle.pattern_reading.specs.declared.faults.PortFaultKind.{PortFaultKind}
use Rattle.pattern_reading.specs.Pattern.{ReadsWithinLimit, HasReaderFault, HasLargeBox}
use Rattle.pattern_reading.specs.PortTable.{ReadsAsPorts, HasPortFault}
use Rattle.pattern_reading.proofs.RleLaws.{one_pattern, one_fault}
use Rattle.pattern_reading.proofs.PortLaws.{one_port_fault, no_port_fault_if_read}
use Rattle.pattern_reading.proofs.Large.{one_reader_answer}
use Rattle.rle_read.specs.declared.error.RleFault.{RleFault}
use Rattle.port_table.specs.declared.faults.PortFault.{PortFault}
use Rattle.streams.specs.declared.error.StreamFault.{StreamFault}
use Rattle.streams.specs.Streams.{HasStreamFault, inputs_of_contexts, streams_of}
use Rattle.drive.specs.Driving.{greatest_generation}
use Rattle.pattern_reading.specs.Ports.{names_of}
use Rattle.blifww_tool.specs.Simulation.{Simulation, IsSimulation, RunsInTime, HasNoStreams, HasNoRun, MissesAt, miss_up_to}
use Rattle.program_runs.specs.declared.causes.Cause.{Cause}
use Rattle.program_runs.specs.declared.causes.Cause.TheVariants.{NetlistFault, WeightTooLarge, Loop, AigAtFault, AigLoop, Pattern, GridTooLarge, PortTable, Streams, StartWord, NoSuchNet, TooFar, TooManyContexts, NotQuiet, NotCircuit}

-- a pattern with ports, as a text has them
pub record IsRead (text : List ℕ) (grid : Grid) (ports : Ports) : Type 0 where
  pub pattern : ReadsWithinLimit text grid
  pub table : ReadsAsPorts text grid.width grid.height ports

-- the ways to be no simulation
pub data Reason (cycles : ℕ) (words : List (List ℕ)) (text : List ℕ) (r : Cause) : Type 0 where
  by_pattern : (fault : RleFault) → r ≡ Pattern fault → HasReaderFault text fault.kind fault.line → Reason cycles words text r
  by_box : (width height : ℕ) → r ≡ GridTooLarge width height → HasLargeBox text width height → Reason cycles words text r
  by_table : (fault : PortFault) → r ≡ PortTable fault → (grid : Grid) → ReadsWithinLimit text grid → HasPortFault text grid.width grid.height fault.kind fault.line → Reason cycles words text r
  by_streams : (fault : StreamFault) → r ≡ Streams fault → (grid : Grid) → (ports : Ports) → IsRead text grid ports → HasStreamFault ports.c words (names_of ports.ins) cycles fault → Reason cycles words text r

reason_of : (cycles : ℕ) (words : List (List ℕ)) (text : List ℕ) (r : Cause) → HasNoStreams cycles words text r → Reason cycles words text r
reason_of cycles words text (NetlistFault fault) h = absurd h
reason_of cycles words text (WeightTooLarge weight) h = absurd h
reason_of cycles words text (Loop names) h = absurd h
reason_of cycles words text (AigAtFault fault) h = absurd h
reason_of cycles words text (AigLoop literals) h = absurd h
reason_of cycles words text (Pattern fault) h = by_pattern fault refl h
reason_of cycles words text (GridTooLarge width height) h = by_box width height refl h
reason_of cycles words text (PortTable fault) h = by_table fault refl h.0 h.1 h.2
reason_of cycles words text (Streams fault) h = by_streams fault refl h.0 h.1 record { pattern = h.2; table = h.3 } h.4
reason_of cycles words text (StartWord fault) h = absurd h
reason_of cycles words text (NoSuchNet name) h = absurd h
reason_of cycles words text (TooFar generations) h = absurd h
reason_of cycles words text (TooManyContexts contexts limit) h = absurd h
reason_of cycles words text (NotQuiet generation x y) h = absurd h
reason_of cycles words text (NotCircuit fault) h = absurd h

pub read_of : (cycles : ℕ) (words : List (List ℕ)) (text : List ℕ) (s : Simulation) → IsSimulation cycles words text s → IsRead text s.grid s.ports
read_of cycles words text s h = record { pattern = h.pattern; table = h.table }

-- no two stages of the reading fail at once
pub fault_or_box : (text : List ℕ) (kind : RleFaultKind) (line width height : ℕ) → HasReaderFault text kind line → HasLargeBox text width height → ⊥
fault_or_box text = (one_reader_answer text).fault_or_large

pub fault_or_read : (text : List ℕ) (kind : RleFaultKind) (line : ℕ) (grid : Grid) → HasReaderFault text kind line → ReadsWithinLimit text grid → ⊥
fault_or_read text kind line grid h k = (one_reader_answer text).reads_or_fault grid kind line k h

pub box_or_read : (text : List ℕ) (width height : ℕ) (grid : Grid) → HasLargeBox text width height → ReadsWithinLimit text grid → ⊥
box_or_read text width height grid h k = (one_reader_answer text).reads_or_large grid width height k h

pub same_grid : (text : List ℕ) (a b : Grid) → ReadsWithinLimit text a → ReadsWithinLimit text b → a ≡ b
same_grid text a b h k = one_pattern text a b h.0 k.0

pub same_ports : (text : List ℕ) (a b : Grid) (p q : Ports) → IsRead text a p → IsRead text b q → p ≡ q
same_ports text a b p q h k = h.table.ports_is ∙ sym k.table.ports_is

pub table_or_read : (text : List ℕ) (kind : PortFaultKind) (line : ℕ) (a b : Grid) (ports : Ports) → ReadsWithinLimit text a → HasPortFault text a.width a.height kind line → IsRead text b ports → ⊥
table_or_read text kind line a b ports h fault k =
    no_port_fault_if_read text b.width b.height ports kind line k.table
    (subst (λ (g : Grid). HasPortFault text g.width g.height kind line) (same_grid text a b h k.pattern) fault)

streams_or_not : (cycles : ℕ) (words : List (List ℕ)) (text : List ℕ) (fault : StreamFault) (grid : Grid) (ports : Ports) (s : Simulation)
    → IsRead text grid ports → HasStreamFault ports.c words (names_of ports.ins) cycles fault → IsSimulation cycles words text s → ⊥
streams_or_not cycles words text fault grid ports s h bad k =
    let same = same_ports text grid s.grid ports s.ports h (read_of cycles words text s k) in
    let here = subst (λ (p : Ports). HasStreamFault p.c words (names_of p.ins) cycles fault) same bad in
    none-some _ (ap (λ faults. slice_get faults 0) (sym k.streams.no_fault) ∙ here)

abbrev simulation : Grid → Ports → (cycles contexts : ℕ) → List (List Bool) → Simulation
simulation grid ports cycles contexts bits = record { grid = grid; ports = ports; streams = record { cycles = cycles; c = contexts; bits = bits } }

-- a text and words are one simulation
pub same_simulation : (cycles : ℕ) (words : List (List ℕ)) (text : List ℕ) (s t : Simulation) → IsSimulation cycles words text s → IsSimulation cycles words text t → s ≡ t
same_simulation cycles words text s t h k =
    let ports : s.ports ≡ t.ports = same_ports text s.grid t.grid s.ports t.ports (read_of cycles words text s h) (read_of cycles words text t k) in
    let contexts : s.streams.c ≡ t.streams.c = h.contexts ∙ ap (λ (p : Ports). p.c) ports ∙ sym k.contexts in
    let bits : s.streams.bits ≡ t.streams.bits =
    h.streams.bits_is ∙ ap (λ (p : Ports). streams_of p.c words (inputs_of_contexts p.c (names_of p.ins))) ports ∙ sym k.streams.bits_is in
    ap₂ (λ (g : Grid) (p : Ports). simulation g p s.streams.cycles s.streams.c s.streams.bits) (same_grid text s.grid t.grid h.pattern k.pattern) ports
    ∙ ap₂ (λ (n c : ℕ). simulation t.grid t.ports n c s.streams.bits) (h.many ∙ sym k.many) contexts
    ∙ ap (simulation t.grid t.ports t.streams.cycles t.streams.c) bits

abbrev rle_fault : RleFaultKind → ℕ → RleFault
rle_fault k l = record { kind = k; line = l }

abbrev port_fault : PortFaultKind → ℕ → PortFault
port_fault k l = record { kind = k; line = l }

-- a simulation is not refused
not_refused : (cycles : ℕ) (words : List (List ℕ)) (text : List ℕ) (s : Simulation) (r : Cause) → IsSimulation cycles words text s → Reason cycles words text r → ⊥
not_refused cycles words text s r h (by_pattern fault e k) = fault_or_read text fault.kind fault.line s.grid k h.pattern
not_refused cycles words text s r h (by_box width height e k) = box_or_read text width height s.grid k h.pattern
not_refused cycles words text s r h (by_table fault e grid reads k) = table_or_read text fault.kind fault.line grid s.grid s.ports reads k (read_of cycles words text s h)
not_refused cycles words text s r h (by_streams fault e grid ports reads k) = streams_or_not cycles words text fault grid ports s reads k h

pub simulation_or_not : (cycles : ℕ) (words : List (List ℕ)) (text : List ℕ) (s : Simulation) (r : Cause) → IsSimulation cycles words text s → HasNoStreams cycles words text r → ⊥
simulation_or_not cycles words text s r h k = not_refused cycles words text s r h (reason_of cycles words text r k)

pub same_pattern : (text : List ℕ) (a b : RleFault) → HasReaderFault text a.kind a.line → HasReaderFault text b.kind b.line → a ≡ b
same_pattern text a b h k =
    let same = one_fault text a.kind b.kind a.line b.line h.0 k.0 in
    let e : rle_fault a.kind a.line ≡ rle_fault b.kind b.line = ap₂ rle_fault same.0 same.1 in e

pub same_table : (text : List ℕ) (a b : PortFault) (g k : Grid) → ReadsWithinLimit text g → HasPortFault text g.width g.height a.kind a.line
    → ReadsWithinLimit text k → HasPortFault text k.width k.height b.kind b.line → a ≡ b
same_table text a b g k reads h reads' h' =
    let here = subst (λ (x : Grid). HasPortFault text x.width x.height b.kind b.line) (same_grid text k g reads' reads) h' in
    let same = one_port_fault text g.width g.height a.kind b.kind a.line b.line h here in
    let e : port_fault a.kind a.line ≡ port_fault b.kind b.line = ap₂ port_fault same.0 same.1 in e

same_streams : (cycles : ℕ) (words : List (List ℕ)) (p q : Ports) (a b : StreamFault) → p ≡ q → HasStreamFault p.c words (names_of p.ins) cycles a
    → HasStreamFault q.c words (names_of q.ins) cycles b → a ≡ b
same_streams cycles words p q a b same h k =
    same_Some a b (sym (subst (λ (x : Ports). HasStreamFault x.c words (names_of x.ins) cycles a) same h) ∙ k)

-- each stage's refusal is one
one_reason : (cycles : ℕ) (words : List (List ℕ)) (text : List ℕ) (r r' : Cause) → Reason cycles words text r → Reason cycles words text r' → r ≡ r'
one_reason cycles words text r r' (by_pattern f e h) (by_pattern f' e' h') = e ∙ ap Pattern (same_pattern text f f' h h') ∙ sym e'
one_reason cycles words text r r' (by_pattern f e h) (by_box x y e' h') = absurd (fault_or_box text f.kind f.line x y h h')
one_reason cycles words text r r' (by_pattern f e h) (by_table f' e' g reads h') = absurd (fault_or_read text f.kind f.line g h reads)
one_reason cycles words text r r' (by_pattern f e h) (by_streams f' e' g p reads h') = absurd (fault_or_read text f.kind f.line g h reads.pattern)
one_reason cycles words text r r' (by_box x y e h) (by_pattern f e' h') = absurd (fault_or_box text f.kind f.line x y h' h)
one_reason cycles words text r r' (by_box x y e h) (by_box x' y' e' h') =
    let same = (one_reader_answer text).one_box x y x' y' h.0 h'.0 in e ∙ ap₂ GridTooLarge same.0 same.1 ∙ sym e'
one_reason cycles words text r r' (by_box x y e h) (by_table f' e' g reads h') = absurd (box_or_read text x y g h reads)
one_reason cycles words text r r' (by_box x y e h) (by_streams f' e' g p reads h') = absurd (box_or_read text x y g h reads.pattern)
one_reason cycles words text r r' (by_table f e g reads h) (by_pattern f' e' h') = absurd (fault_or_read text f'.kind f'.line g h' reads)
one_reason cycles words text r r' (by_table f e g reads h) (by_box x y e' h') = absurd (box_or_read text x y g h' reads)
one_reason cycles words text r r' (by_table f e g reads h) (by_table f' e' g' reads' h') = e ∙ ap PortTable (same_table text f f' g g' reads h reads' h') ∙ sym e'
one_reason cycles words text r r' (by_table f e g reads h) (by_streams f' e' g' p reads' h') = absurd (table_or_read text f.kind f.line g g' p reads h reads')
one_reason cycles words text r r' (by_streams f e g p reads h) (by_pattern f' e' h') = absurd (fault_or_read text f'.kind f'.line g h' reads.pattern)
one_reason cycles words text r r' (by_streams f e g p reads h) (by_box x y e' h') = absurd (box_or_read text x y g h' reads.pattern)
one_reason cycles words text r r' (by_streams f e g p reads h) (by_table f' e' g' reads' h') = absurd (table_or_read text f'.kind f'.line g' g p reads' h' reads)
one_reason cycles words text r r' (by_streams f e g p reads h) (by_streams f' e' g' p' reads' h') =
    e ∙ ap Streams (same_streams cycles words p p' f f' (same_ports text g g' p p' reads reads') h h') ∙ sym e'

pub one_streams_cause : (cycles : ℕ) (words : List (List ℕ)) (text : List ℕ) (r r' : Cause) → HasNoStreams cycles words text r → HasNoStreams cycles words text r' → r ≡ r'
one_streams_cause cycles words text r r' h k = one_reason cycles words text r r' (reason_of cycles words text r h) (reason_of cycles words text r' k)

-- the ways to be not run, up to the generation that is wanted
data Late (last : Simulation → ℕ) (cycles : ℕ) (words : List (List ℕ)) (text : List ℕ) (r : Cause) : Type 0 where
  early : HasNoStreams cycles words text r → Late last cycles words text r
  late : (generations : ℕ) → r ≡ TooFar generations → (s : Simulation) → IsSimulation cycles words text s → generations ≡ last s → greatest_generation < generations → Late last cycles words text r
  by_miss : (g x y : ℕ) → r ≡ NotQuiet g x y → (s : Simulation) → IsSimulation cycles words text s → last s ≤ greatest_generation → MissesAt s (last s) g x y → Late last cycles words text r

late_of : (last : Simulation → ℕ) (cycles : ℕ) (words : List (List ℕ)) (text : List ℕ) (r : Cause) → HasNoRun last cycles words text r → Late last cycles words text r
late_of last cycles words text (NetlistFault fault) h = early h
late_of last cycles words text (WeightTooLarge weight) h = early h
late_of last cycles words text (Loop names) h = early h
late_of last cycles words text (AigAtFault fault) h = early h
late_of last cycles words text (AigLoop literals) h = early h
late_of last cycles words text (Pattern fault) h = early h
late_of last cycles words text (GridTooLarge width height) h = early h
late_of last cycles words text (PortTable fault) h = early h
late_of last cycles words text (Streams fault) h = early h
late_of last cycles words text (StartWord fault) h = early h
late_of last cycles words text (NoSuchNet name) h = early h
late_of last cycles words text (TooFar generations) h = late generations refl h.0 h.1 h.2 h.3
late_of last cycles words text (TooManyContexts contexts limit) h = early h
late_of last cycles words text (NotQuiet generation x y) h = by_miss generation x y refl h.0 h.1 h.2 h.3
late_of last cycles words text (NotCircuit fault) h = early h

-- one miss is the first, where there is one
abbrev miss_at : (g x y : ℕ) → Injection
miss_at g x y = record { generation = g; x = x; y = y }

pub one_miss : (s : Simulation) (at g x y g' x' y' : ℕ) → MissesAt s at g x y → MissesAt s at g' x' y' → NotQuiet g x y ≡ NotQuiet g' x' y'
one_miss s at g x y g' x' y' h k = ap (λ (i : Injection). NotQuiet i.generation i.x i.y) (same_Some (miss_at g x y) (miss_at g' x' y') (sym h ∙ k))

pub miss_or_not : (s : Simulation) (at g x y : ℕ) → MissesAt s at g x y → miss_up_to s at ≡ None → ⊥
miss_or_not s at g x y h quiet = none-some _ (sym quiet ∙ h)

-- a simulation that is near enough and has no miss is not refused
near_or_late : (last : Simulation → ℕ) (cycles : ℕ) (words : List (List ℕ)) (text : List ℕ) (s : Simulation) (r : Cause) → RunsInTime last cycles words text s → Late last cycles words text r → ⊥
near_or_late last cycles words text s r h (early k) = simulation_or_not cycles words text s r h.is k
near_or_late last cycles words text s r h (late generations e t k is far) =
    let same : last t ≡ last s = ap (λ (x : Simulation). last x) (same_simulation cycles words text t s k h.is) in
    omega (arith, h.near, same, is, far)
near_or_late last cycles words text s r h (by_miss g x y e t k near misses) =
    miss_or_not s (last s) g x y (subst (λ (u : Simulation). MissesAt u (last u) g x y) (same_simulation cycles words text t s k h.is) misses) h.quiet

pub runs_or_not : (last : Simulation → ℕ) (cycles : ℕ) (words : List (List ℕ)) (text : List ℕ) (s : Simulation) (r : Cause) → RunsInTime last cycles words text s → HasNoRun last cycles words text r → ⊥
runs_or_not last cycles words text s r h k = near_or_late last cycles words text s r h (late_of last cycles words text r k)

far_or_near : (last : Simulation → ℕ) (cycles : ℕ) (words : List (List ℕ)) (text : List ℕ) (n : ℕ) (s t : Simulation) → IsSimulation cycles words text s → IsSimulation cycles words text t → n ≡ last s → greatest_generation < n → last t ≤ greatest_generation → ⊥
far_or_near last cycles words text n s t h k is far near =
    let same : last s ≡ last t = ap (λ (x : Simulation). last x) (same_simulation cycles words text s t h k) in
    omega (arith, same, is, far, near)

one_late : (last : Simulation → ℕ) (cycles : ℕ) (words : List (List ℕ)) (text : List ℕ) (r r' : Cause) → Late last cycles words text r → Late last cycles words text r' → r ≡ r'
one_late last cycles words text r r' (early h) (early k) = one_streams_cause cycles words text r r' h k
one_late last cycles words text r r' (early h) (late n e s k is far) = absurd (simulation_or_not cycles words text s r k h)
one_late last cycles words text r r' (early h) (by_miss g x y e s k near misses) = absurd (simulation_or_not cycles words text s r k h)
one_late last cycles words text r r' (late n e s k is far) (early h) = absurd (simulation_or_not cycles words text s r' k h)
one_late last cycles words text r r' (late n e s k is far) (late n' e' s' k' is' far') =
    e ∙ ap TooFar (is ∙ ap (λ (x : Simulation). last x) (same_simulation cycles words text s s' k k') ∙ sym is') ∙ sym e'
one_late last cycles words text r r' (late n e s k is far) (by_miss g x y e' s' k' near misses) = absurd (far_or_near last cycles words text n s s' k k' is far near)
one_late last cycles words text r r' (by_miss g x y e s k near misses) (early h) = absurd (simulation_or_not cycles words text s r' k h)
one_late last cycles words text r r' (by_miss g x y e s k near misses) (late n e' s' k' is far) = absurd (far_or_near last cycles words text n s' s k' k is far near)
one_late last cycles words text r r' (by_miss g x y e s k near misses) (by_miss g' x' y' e' s' k' near' misses') =
    e ∙ one_miss s' (last s') g x y g' x' y' (subst (λ (u : Simulation). MissesAt u (last u) g x y) (same_simulation cycles words text s s' k k') misses) misses' ∙ sym e'

pub one_cause : (last : Simulation → ℕ) (cycles : ℕ) (words : List (List ℕ)) (text : List ℕ) (r r' : Cause) → HasNoRun last cycles words text r → HasNoRun last cycles words text r' → r ≡ r'
one_cause last cycles words text r r' h k = one_late last cycles words text r r' (late_of last cycles words text r h) (late_of last cycles words text r' k)
