-- The statuses and lines of refusals, and the refusal for each error of a part.
use Rattle.std.specs.Prelude.{ℕ, List, ◌++◌, flat_map, codes, decimal}
use Rattle.netlist_core.specs.Names.{Name}
use Rattle.netlist_rules.specs.declared.fault.Fault.{Fault}
use Rattle.netlist_rules.specs.FaultNames.{name_of, number_of}
use Rattle.netlist_core.specs.Limit.{weight_limit}
use Rattle.aiger_text.specs.declared.fault.AigFault.{AigFault}
use Rattle.aiger_text.specs.FaultNames.{aig_fault_name, aig_fault_number}
use Rattle.aiger_reader.specs.declared.error.AigReadError.{AigReadError}
use Rattle.aiger_reader.specs.declared.error.AigReadError.TheVariants as aig_of
use Rattle.aiger_meaning.specs.declared.error.LowerError.{LowerError}
use Rattle.aiger_meaning.specs.declared.error.LowerError.TheVariants as planning
use Rattle.netlist_text.specs.declared.error.NetlistError.{NetlistError}
use Rattle.netlist_text.specs.declared.error.NetlistError.TheVariants as netlist_of
use Rattle.pattern_reading.specs.declared.faults.RleFaultKind.{RleFaultKind}
use Rattle.pattern_reading.specs.declared.faults.RleFaultKind.TheVariants as rle
use Rattle.pattern_reading.specs.declared.faults.PortFaultKind.{PortFaultKind}
use Rattle.pattern_reading.specs.declared.faults.PortFaultKind.TheVariants as port
use Rattle.streams.specs.declared.error.StreamFaultKind.{StreamFaultKind}
use Rattle.streams.specs.declared.error.StreamFaultKind.TheVariants as stream
use Rattle.start_words.specs.declared.error.StartFaultKind.{StartFaultKind}
use Rattle.start_words.specs.declared.error.StartFaultKind.TheVariants as start
use Rattle.start_words.specs.declared.error.StartError.{StartError}
use Rattle.start_words.specs.declared.error.StartError.TheVariants as starts_of
use Rattle.ww_base.specs.declared.whole.ReadAllError.{ReadAllError}
use Rattle.ww_base.specs.declared.whole.ReadAllError.TheVariants as read_all
use Rattle.command_words.specs.declared.error.WordsError.{WordsError}
use Rattle.command_words.specs.declared.error.WordsError.TheVariants as words_of
use Rattle.rle_read.specs.declared.error.RleReadError.{RleReadError}
use Rattle.rle_read.specs.declared.error.RleReadError.TheVariants as pattern_of
use Rattle.port_table.specs.declared.reading.PortReadError.{PortReadError}
use Rattle.port_table.specs.declared.reading.PortReadError.TheVariants as ports_of
use Rattle.streams.specs.declared.error.StreamError.{StreamError}
use Rattle.streams.specs.declared.error.StreamError.TheVariants as streams_of
use Rattle.drive.specs.declared.error.SimulateError.{SimulateError}
use Rattle.drive.specs.declared.error.SimulateError.TheVariants as simulating
use Rattle.tile_match.specs.declared.error.CircuitFault.{CircuitFault}
use Rattle.tile_match.specs.declared.error.CircuitFault.TheVariants as circuit
use Rattle.tile_match.specs.declared.error.AuditError.{AuditError}
use Rattle.tile_match.specs.declared.error.AuditError.TheVariants as auditing
use Rattle.probe_view.specs.declared.error.ProbeError.{ProbeError}
use Rattle.probe_view.specs.declared.error.ProbeError.TheVariants as probing
use Rattle.probe_view.specs.declared.error.WindowError.{WindowError}
use Rattle.probe_view.specs.declared.error.WindowError.TheVariants as viewing
use Rattle.program_runs.specs.declared.causes.Cause.{Cause}
use Rattle.program_runs.specs.declared.causes.Cause.TheVariants.{NetlistFault, WeightTooLarge, Loop, AigAtFault, AigLoop, Pattern, GridTooLarge, PortTable, Streams, StartWord, NoSuchNet, TooFar, TooManyContexts, NotQuiet, NotCircuit}
use Rattle.program_runs.specs.declared.causes.TextError.{TextError}
use Rattle.program_runs.specs.declared.causes.TextError.TheVariants as text
use Rattle.program_runs.specs.declared.refusal.Refusal.{Refusal}
use Rattle.program_runs.specs.declared.refusal.Refusal.TheVariants.{Usage, TooLong, ReadFault, WriteFault, NoMemory, Text}

-- the exit status for a cause
abbrev pub status_of_cause : Cause → ℕ
status_of_cause (NetlistFault fault) = 1
status_of_cause (WeightTooLarge weight) = 4
status_of_cause (Loop names) = 3
status_of_cause (AigAtFault fault) = 1
status_of_cause (AigLoop literals) = 3
status_of_cause (Pattern fault) = 8
status_of_cause (GridTooLarge width height) = 4
status_of_cause (PortTable fault) = 8
status_of_cause (Streams fault) = 9
status_of_cause (StartWord fault) = 9
status_of_cause (NoSuchNet name) = 9
status_of_cause (TooFar generations) = 4
status_of_cause (TooManyContexts contexts limit) = 4
status_of_cause (NotQuiet generation x y) = 10
status_of_cause (NotCircuit fault) = 12

-- the exit status of a refusal
abbrev pub status_of : Refusal → ℕ
status_of Usage = 2
status_of TooLong = 4
status_of ReadFault = 5
status_of WriteFault = 6
status_of NoMemory = 7
status_of (Text cause) = status_of_cause cause

-- the faults of a pattern's text as they are printed
abbrev pub rle_fault_name : RleFaultKind → List ℕ
rle_fault_name rle.NoHeader = codes "G1 NoHeader"
rle_fault_name rle.BadHeader = codes "G2 BadHeader"
rle_fault_name rle.OtherRule = codes "G3 OtherRule"
rle_fault_name rle.BadItem = codes "G4 BadItem"
rle_fault_name rle.CellOutside = codes "G5 CellOutside"
rle_fault_name rle.NoEnd = codes "G6 NoEnd"

-- the faults of a port table as they are printed
abbrev pub port_fault_name : PortFaultKind → List ℕ
port_fault_name port.BadLine = codes "H1 BadLine"
port_fault_name port.BadOrder = codes "H2 BadOrder"
port_fault_name port.CellOutside = codes "H3 CellOutside"
port_fault_name port.Twice = codes "H4 Twice"

-- the faults of streams as they are printed
abbrev pub stream_fault_name : StreamFaultKind → List ℕ
stream_fault_name stream.NoEquals = codes "NoEquals"
stream_fault_name stream.BadContext = codes "BadContext"
stream_fault_name stream.UnknownInput = codes "UnknownInput"
stream_fault_name stream.TwiceInput = codes "TwiceInput"
stream_fault_name stream.BadBit = codes "BadBit"
stream_fault_name stream.BadLength = codes "BadLength"
stream_fault_name stream.MissingInput = codes "MissingInput"

-- the faults of start words as they are printed
abbrev pub start_fault_name : StartFaultKind → List ℕ
start_fault_name start.NoEquals = codes "NoEquals"
start_fault_name start.BadContext = codes "BadContext"
start_fault_name start.NoSuchLatch = codes "NoSuchLatch"
start_fault_name start.TwiceLatch = codes "TwiceLatch"
start_fault_name start.BadBit = codes "BadBit"

-- why a pattern with its port table is no circuit
abbrev pub circuit_fault_name : CircuitFault → List ℕ
circuit_fault_name circuit.Ports = codes "Ports"
circuit_fault_name circuit.Names = codes "Names"
circuit_fault_name circuit.Cells = codes "Cells"

-- a fault on a line of a text, as `G4 BadItem line 2`
abbrev pub fault_line : List ℕ → ℕ → List ℕ
fault_line name line = name ++ (codes " line " ++ (decimal line ++ codes "\n"))

-- a fault of streams or of start words and the word at fault, as `stream: BadLength b=0`
abbrev pub stream_line : List ℕ → List ℕ → List ℕ
stream_line name word = codes "stream: " ++ (name ++ (codes " " ++ (word ++ codes "\n")))

-- a fault of a netlist's text by its number, its name, its line and the word at fault, as
-- `B21 ClockRead line 5: clk`
abbrev pub fault_text : (number name line word : List ℕ) → List ℕ
fault_text number name line word =
    codes "B" ++ (number ++ (codes " "
    ++ (name ++ (codes " line " ++ (line ++ (codes ": " ++ (word ++ codes "\n")))))))

abbrev pub netlist_line : Fault → List ℕ
netlist_line fault =
    fault_text (decimal (number_of fault.kind)) (name_of fault.kind) (decimal fault.line) fault.word

-- each name after a blank
abbrev pub after_blanks : List Name → List ℕ
after_blanks names = flat_map (λ name. codes " " ++ name) names

-- a loop, by the names of its nets, as `loop: x y`
abbrev pub loop_line : List Name → List ℕ
loop_line names = codes "loop:" ++ (after_blanks names ++ codes "\n")

-- a fault of a circuit's text by its number, its name and its line, as `A4 BadLiteral line 3`
abbrev pub aig_fault_text : (number name line : List ℕ) → List ℕ
aig_fault_text number name line =
    codes "A" ++ (number ++ (codes " " ++ (name ++ (codes " line " ++ (line ++ codes "\n")))))

abbrev pub aig_fault_line : AigFault → List ℕ
aig_fault_line fault =
    aig_fault_text (decimal (aig_fault_number fault.kind)) (aig_fault_name fault.kind)
    (decimal fault.line)

-- each number after a blank
abbrev pub spaced_numbers : List ℕ → List ℕ
spaced_numbers numbers = flat_map (λ number. codes " " ++ decimal number) numbers

-- a loop of a circuit, by the literals of its left sides, as `loop: 6 8`
abbrev pub aig_loop_line : List ℕ → List ℕ
aig_loop_line literals = codes "loop:" ++ (spaced_numbers literals ++ codes "\n")

-- a pattern that is no circuit, as `not a circuit: Cells`
abbrev pub circuit_line : List ℕ → List ℕ
circuit_line name = codes "not a circuit: " ++ (name ++ codes "\n")

-- the one line that tells a cause
abbrev pub cause_line : Cause → List ℕ
cause_line (NetlistFault fault) = netlist_line fault
cause_line (WeightTooLarge weight) =
    codes "too large: weight " ++ (decimal weight
    ++ (codes " limit " ++ (decimal weight_limit ++ codes "\n")))
cause_line (Loop names) = loop_line names
cause_line (AigAtFault fault) = aig_fault_line fault
cause_line (AigLoop literals) = aig_loop_line literals
cause_line (Pattern fault) = fault_line (rle_fault_name fault.kind) fault.line
cause_line (GridTooLarge width height) =
    codes "too large: grid " ++ (decimal width ++ (codes " by " ++ (decimal height ++ codes "\n")))
cause_line (PortTable fault) = fault_line (port_fault_name fault.kind) fault.line
cause_line (Streams fault) = stream_line (stream_fault_name fault.kind) fault.word
cause_line (StartWord fault) = stream_line (start_fault_name fault.kind) fault.word
cause_line (NoSuchNet name) = stream_line (codes "NoSuchNet") name
cause_line (TooFar generations) =
    codes "too large: generations " ++ (decimal generations ++ codes "\n")
cause_line (TooManyContexts contexts limit) =
    codes "too large: contexts " ++ (decimal contexts
    ++ (codes " limit " ++ (decimal limit ++ codes "\n")))
cause_line (NotQuiet generation x y) =
    codes "not quiet: generation " ++ (decimal generation
    ++ (codes " cell " ++ (decimal x ++ (codes " " ++ (decimal y ++ codes "\n")))))
cause_line (NotCircuit fault) = circuit_line (circuit_fault_name fault)

-- the one line that tells a refusal
abbrev pub refusal_line : Refusal → List ℕ
refusal_line Usage =
    codes "usage: blifww compile|simulate|eval|probe|window|make|self|tape|aiger|vcd|lift\n"
refusal_line TooLong = codes "too long: limit 16777216\n"
refusal_line ReadFault = codes "read fault\n"
refusal_line WriteFault = codes "write fault\n"
refusal_line NoMemory = codes "no memory\n"
refusal_line (Text cause) = cause_line cause

-- the refusal for each error of the words
abbrev pub words_refusal : WordsError → Refusal
words_refusal words_of.Usage = Usage
words_refusal words_of.NoMemory = NoMemory

-- the refusal for each error of reading standard input
abbrev pub read_refusal : ReadAllError → Refusal
read_refusal read_all.ReadFault = ReadFault
read_refusal read_all.TooLong = TooLong
read_refusal read_all.NoMemory = NoMemory

-- the refusal for each error of a text
abbrev pub text_refusal : TextError → Refusal
text_refusal (text.Refused cause) = Text cause
text_refusal text.NoMemory = NoMemory

-- the error of a text that is no netlist
abbrev pub netlist_error : NetlistError → TextError
netlist_error (netlist_of.Fault fault) = text.Refused (NetlistFault fault)
netlist_error (netlist_of.TooLarge weight) = text.Refused (WeightTooLarge weight)
netlist_error (netlist_of.Loop names) = text.Refused (Loop names)
netlist_error netlist_of.NoMemory = text.NoMemory

-- the error of a text that is no circuit
abbrev pub aig_error : AigReadError → TextError
aig_error (aig_of.Fault fault) = text.Refused (AigAtFault fault)
aig_error aig_of.NoMemory = text.NoMemory

-- the error of a text whose circuit has no plan
abbrev pub lower_error : LowerError → TextError
lower_error (planning.TooLarge weight) = text.Refused (WeightTooLarge weight)
lower_error (planning.Loop literals) = text.Refused (AigLoop literals)
lower_error planning.NoMemory = text.NoMemory

-- the error of a text that is no pattern
abbrev pub pattern_error : RleReadError → TextError
pattern_error (pattern_of.Fault fault) = text.Refused (Pattern fault)
pattern_error (pattern_of.TooLarge width height) = text.Refused (GridTooLarge width height)
pattern_error pattern_of.NoMemory = text.NoMemory

-- the error of a text whose port table is at fault
abbrev pub table_error : PortReadError → TextError
table_error (ports_of.Fault fault) = text.Refused (PortTable fault)
table_error ports_of.NoMemory = text.NoMemory

-- the error of a text for which the streams are at fault
abbrev pub streams_error : StreamError → TextError
streams_error (streams_of.Fault fault) = text.Refused (Streams fault)
streams_error streams_of.NoMemory = text.NoMemory

-- the error of a text for which the start words are at fault
abbrev pub starts_error : StartError → TextError
starts_error (starts_of.Fault fault) = text.Refused (StartWord fault)
starts_error starts_of.NoMemory = text.NoMemory

-- the error of a text whose pattern is not run
abbrev pub simulate_error : SimulateError → TextError
simulate_error (simulating.TooFar generations) = text.Refused (TooFar generations)
simulate_error (simulating.NotQuiet generation x y) = text.Refused (NotQuiet generation x y)
simulate_error simulating.NoMemory = text.NoMemory

-- the error of a text whose net is not shown
abbrev pub probe_refusal : List ℕ → ProbeError → TextError
probe_refusal name probing.NoSuchNet = text.Refused (NoSuchNet name)
probe_refusal name (probing.TooFar generations) = text.Refused (TooFar generations)
probe_refusal name (probing.NotQuiet generation x y) = text.Refused (NotQuiet generation x y)
probe_refusal name probing.NoMemory = text.NoMemory

-- the error of a text that is the drawing of no circuit
abbrev pub audit_error : AuditError → TextError
audit_error (auditing.NotCircuit fault) = text.Refused (NotCircuit fault)
audit_error auditing.NoMemory = text.NoMemory

-- the error of a text of which a part of the plane is not shown
abbrev pub window_error : WindowError → TextError
window_error (viewing.NotQuiet generation x y) = text.Refused (NotQuiet generation x y)
window_error viewing.NoMemory = text.NoMemory
