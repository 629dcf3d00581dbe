-- Why a text is refused: the status, the line, and the reason.
use Rattle.std.specs.Prelude.{ℕ, ◌<◌, ◌≤◌, ◌*◌, ◌++◌, ◌⊎◌, ⊤, List, codes, decimal}
use Rattle.ww_rule.specs.declared.pattern.State.{State}
use Rattle.ww_rule.specs.Grid.{Grid}
use Rattle.pattern_reading.specs.declared.ports.Ports.{Ports}
use Rattle.pattern_reading.specs.Pattern.{ReadsWithinLimit, HasReaderFault, HasLargeBox}
use Rattle.pattern_reading.specs.PortTable.{ReadsAsPorts, HasPortFault}
use Rattle.netlist_text.specs.NetlistText.{IsAtFault, IsTooHeavy, HasLoop}
use Rattle.program_runs.specs.Refusals.{status_of, refusal_line}
use Rattle.program_runs.specs.declared.causes.Cause.{Cause}
use Rattle.program_runs.specs.declared.causes.Cause.TheVariants.{NetlistFault, WeightTooLarge, Loop, Pattern, GridTooLarge, PortTable}
use Rattle.program_runs.specs.declared.refusal.Refusal.TheVariants as refusal
use Rattle.route_tables.specs.Limit.{box_limit}
use Rattle.route_tables.specs.declared.fault.FaultWord.{FaultWord}
use Rattle.route_tables.specs.declared.fault.FaultWord.TheVariants.{Kind, Gate, Touches, Wire, Length, Electron, Fed, Order, Port, Net}
use Rattle.route_tables.specs.declared.fault.CellFault.{CellFault}
use Rattle.wwroute_tool.specs.declared.refusal.RouteRefusal.{RouteRefusal}
use Rattle.wwroute_tool.specs.declared.refusal.RouteRefusal.TheVariants.{Usage, Common, NotCircuit}

-- the words for what is wrong
abbrev pub fault_word : FaultWord → List ℕ
fault_word Kind = codes "Kind"
fault_word Gate = codes "Gate"
fault_word Touches = codes "Touches"
fault_word Wire = codes "Wire"
fault_word Length = codes "Length"
fault_word Electron = codes "Electron"
fault_word Fed = codes "Fed"
fault_word Order = codes "Order"
fault_word Port = codes "Port"
fault_word Net = codes "Net"

-- the line that tells what is wrong, and a cell near it
abbrev pub cell_fault_line : CellFault → List ℕ
cell_fault_line fault =
    codes "not a circuit: " ++ (fault_word fault.word
    ++ (codes " " ++ (decimal fault.x ++ (codes " " ++ (decimal fault.y ++ codes "\n")))))

abbrev pub route_status : RouteRefusal → ℕ
route_status Usage = 2
route_status (NotCircuit fault) = 12
route_status (Common r) = status_of r

abbrev pub route_line : RouteRefusal → List ℕ
route_line Usage = codes "usage: wwroute extract|route\n"
route_line (NotCircuit fault) = cell_fault_line fault
route_line (Common r) = refusal_line r

-- the text is that of a pattern with a port table
pub record IsPatternText (text : List ℕ) (grid : Grid) (ports : Ports) : Type 0 where
  pub pattern : ReadsWithinLimit text grid
  pub table : ReadsAsPorts text grid.width grid.height ports

-- the pattern's box has more cells, and its port table no fault
pub record HasBoxPastLimit (text : List ℕ) (width height : ℕ) : Type 0 where
  pub rows : List (List State)
  pub ports : Ports
  pub is : IsPatternText text (record { width = width; height = height; rows = rows }) ports
  pub many : box_limit < width * height

-- why the text has no pattern with a port table that is looked at: it is no pattern, its box is too
-- large, or its port table is at fault
abbrev pub HasNoTable : List ℕ → Cause → Type 0
HasNoTable text (Pattern fault) = HasReaderFault text fault.kind fault.line
HasNoTable text (GridTooLarge width height) =
    HasLargeBox text width height ⊎ HasBoxPastLimit text width height
HasNoTable text (PortTable fault) =
    (grid : Grid) × ReadsWithinLimit text grid
    × HasPortFault text grid.width grid.height fault.kind fault.line
HasNoTable text _ = ⊥

-- a refusal that any pattern with a port table may have
abbrev pub NeedsNoReason : RouteRefusal → Type 0
NeedsNoReason (NotCircuit fault) = ⊤
NeedsNoReason (Common refusal.NoMemory) = ⊤
NeedsNoReason r = ⊥

-- Why a text gives no circuit. A pattern with a table, in a box that is looked at, may be refused
-- whatever it draws: no clause says that each routed circuit is found, or at which cell it is at fault.
abbrev pub HasNoRoutedCircuit : List ℕ → RouteRefusal → Type 0
HasNoRoutedCircuit text Usage = ⊥
HasNoRoutedCircuit text (NotCircuit fault) =
    (grid : Grid) × (ports : Ports) × IsPatternText text grid ports
    × (grid.width * grid.height ≤ box_limit)
HasNoRoutedCircuit text (Common (refusal.Text cause)) = HasNoTable text cause
HasNoRoutedCircuit text (Common refusal.NoMemory) = ⊤
HasNoRoutedCircuit text (Common r) = ⊥

-- why a text is no netlist: it is at fault, or too heavy, or its covers read each other in a circle
abbrev pub IsNoNetlist : List ℕ → Cause → Type 0
IsNoNetlist text (NetlistFault fault) = IsAtFault text fault
IsNoNetlist text (WeightTooLarge weight) = IsTooHeavy text weight
IsNoNetlist text (Loop names) = HasLoop text names
IsNoNetlist text _ = ⊥

-- why a text gives no pattern: it is no netlist, or there is not enough memory
abbrev pub HasNoPatternOf : List ℕ → RouteRefusal → Type 0
HasNoPatternOf text (Common (refusal.Text cause)) = IsNoNetlist text cause
HasNoPatternOf text (Common refusal.NoMemory) = ⊤
HasNoPatternOf text r = ⊥
