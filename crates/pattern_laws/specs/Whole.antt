-- How a whole text reads: as a pattern with its port table, or what keeps a reader from them.
use Rattle.std.specs.Prelude.{◌≡◌, ℕ, List}
use Rattle.ww_rule.specs.Grid.{Grid}
use Rattle.pattern_reading.specs.declared.faults.RleFaultKind.{RleFaultKind}
use Rattle.pattern_reading.specs.declared.faults.PortFaultKind.{PortFaultKind}
use Rattle.pattern_reading.specs.declared.ports.Ports.{Ports}
use Rattle.pattern_reading.specs.Pattern.{HasLargeBox, HasReaderFault, ReadsWithinLimit}
use Rattle.pattern_reading.specs.PortTable.{HasPortFault, ReadsAsPorts}

-- The text reads as a pattern that a reader takes, and as a port table in the pattern's box.
abbrev pub ReadsWhole : List ℕ → Grid → Ports → Type 0
ReadsWhole text grid ports =
    ReadsWithinLimit text grid × ReadsAsPorts text grid.width grid.height ports

-- The text reads as a pattern that a reader takes, and its port table has this first fault in the
-- pattern's box. So a fault of the pattern, and a box that is too large, come before a fault of the
-- table.
abbrev pub HasTableFault : List ℕ → PortFaultKind → ℕ → Type 0
HasTableFault text kind line =
    (grid : Grid) × ReadsWithinLimit text grid × HasPortFault text grid.width grid.height kind line

-- what a reader of the whole text answers
pub data Answer : Type 0 where
  -- a pattern and its ports
  Whole : Grid → Ports → Answer
  -- a fault of the pattern, and its line
  PatternFault : RleFaultKind → ℕ → Answer
  -- a box that is too large, by its width and its height
  LargeBox : ℕ → ℕ → Answer
  -- a fault of the port table, and its line
  TableFault : PortFaultKind → ℕ → Answer

-- This is the answer to the text.
abbrev pub IsAnswer : List ℕ → Answer → Type 0
IsAnswer text (Whole grid ports) = ReadsWhole text grid ports
IsAnswer text (PatternFault kind line) = HasReaderFault text kind line
IsAnswer text (LargeBox width height) = HasLargeBox text width height
IsAnswer text (TableFault kind line) = HasTableFault text kind line

-- Each text has an answer, and no text has two different ones.
abbrev pub HasAnswer : List ℕ → Type 0
HasAnswer text = (answer : Answer) × IsAnswer text answer

abbrev pub HasOneAnswer : List ℕ → Type 0
HasOneAnswer text = (a b : Answer) → IsAnswer text a → IsAnswer text b → a ≡ b
