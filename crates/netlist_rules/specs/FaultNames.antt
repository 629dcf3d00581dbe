-- The numbers and names of the faults, as the program prints them.
use Rattle.netlist_rules.specs.declared.fault.Fault.{Fault}
use Rattle.std.specs.Prelude.{ℕ, List, codes}
use Rattle.netlist_rules.specs.declared.fault.FaultKind.{FaultKind}
use Rattle.netlist_rules.specs.declared.fault.FaultKind.TheVariants.{NoModelYet, UnknownDirective, Unsupported, BadCount, RowOutside, BadRow, MixedCover, BadLatch, BadPin, AfterEnd, DuplicateModel, DuplicatePort, MultipleDrivers, Undriven, NoSuchModel, NoSuchPin, PinTwice, PinMissing, Recursive, TwoClocks, ClockRead, NoModel}

-- the number of a fault
abbrev pub number_of : FaultKind → ℕ
number_of NoModelYet = 1
number_of UnknownDirective = 2
number_of Unsupported = 3
number_of BadCount = 4
number_of RowOutside = 5
number_of BadRow = 6
number_of MixedCover = 7
number_of BadLatch = 8
number_of BadPin = 9
number_of AfterEnd = 10
number_of DuplicateModel = 11
number_of DuplicatePort = 12
number_of MultipleDrivers = 13
number_of Undriven = 14
number_of NoSuchModel = 15
number_of NoSuchPin = 16
number_of PinTwice = 17
number_of PinMissing = 18
number_of Recursive = 19
number_of TwoClocks = 20
number_of ClockRead = 21
number_of NoModel = 22

-- its name, in ASCII
abbrev pub name_of : FaultKind → List ℕ
name_of NoModelYet = codes "NoModelYet"
name_of UnknownDirective = codes "UnknownDirective"
name_of Unsupported = codes "Unsupported"
name_of BadCount = codes "BadCount"
name_of RowOutside = codes "RowOutside"
name_of BadRow = codes "BadRow"
name_of MixedCover = codes "MixedCover"
name_of BadLatch = codes "BadLatch"
name_of BadPin = codes "BadPin"
name_of AfterEnd = codes "AfterEnd"
name_of DuplicateModel = codes "DuplicateModel"
name_of DuplicatePort = codes "DuplicatePort"
name_of MultipleDrivers = codes "MultipleDrivers"
name_of Undriven = codes "Undriven"
name_of NoSuchModel = codes "NoSuchModel"
name_of NoSuchPin = codes "NoSuchPin"
name_of PinTwice = codes "PinTwice"
name_of PinMissing = codes "PinMissing"
name_of Recursive = codes "Recursive"
name_of TwoClocks = codes "TwoClocks"
name_of ClockRead = codes "ClockRead"
name_of NoModel = codes "NoModel"

-- a fault of this kind on this line, with its word
abbrev pub fault_on : FaultKind → ℕ → List ℕ → Fault
fault_on kind line word = record { kind = kind; line = line; word = word }
