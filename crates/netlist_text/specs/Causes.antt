-- Why a text gives no netlist.
use Rattle.std.specs.Prelude.{ℕ, List, ⊤}
use Rattle.netlist_text.specs.NetlistText.{IsAtFault, IsTooHeavy, HasLoop}
use Rattle.netlist_text.specs.declared.error.NetlistError.{NetlistError}
use Rattle.netlist_text.specs.declared.error.NetlistError.TheVariants.{NoMemory, Fault, TooLarge, Loop}

abbrev pub HasNetlistCause : List ℕ → NetlistError → Type 0
HasNetlistCause text NoMemory = ⊤
HasNetlistCause text (Fault fault) = IsAtFault text fault
HasNetlistCause text (TooLarge weight) = IsTooHeavy text weight
HasNetlistCause text (Loop names) = HasLoop text names
