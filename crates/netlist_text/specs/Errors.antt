-- The error of a text for each error of a part.
use Rattle.blif_reader.specs.declared.error.ReadError.{ReadError}
use Rattle.blif_reader.specs.declared.error.ReadError.TheVariants as read
use Rattle.blif_check.specs.declared.error.CheckError.{CheckError}
use Rattle.blif_check.specs.declared.error.CheckError.TheVariants as check
use Rattle.netlist_flatten.specs.declared.error.FlattenError.{FlattenError}
use Rattle.netlist_flatten.specs.declared.error.FlattenError.TheVariants as flatten
use Rattle.clock_check.specs.declared.error.ClockError.{ClockError}
use Rattle.clock_check.specs.declared.error.ClockError.TheVariants as clock
use Rattle.netlist_text.specs.declared.error.NetlistError.{NetlistError}
use Rattle.netlist_text.specs.declared.error.NetlistError.TheVariants.{NoMemory, Fault, TooLarge}

abbrev pub read_error : ReadError → NetlistError
read_error (read.Fault fault) = Fault fault
read_error read.NoMemory = NoMemory

abbrev pub check_error : CheckError → NetlistError
check_error (check.Fault fault) = Fault fault
check_error check.NoMemory = NoMemory

abbrev pub flatten_error : FlattenError → NetlistError
flatten_error (flatten.TooLarge weight) = TooLarge weight
flatten_error flatten.NoMemory = NoMemory

abbrev pub clock_error : ClockError → NetlistError
clock_error (clock.Fault fault) = Fault fault
clock_error clock.NoMemory = NoMemory
