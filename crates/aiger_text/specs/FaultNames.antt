-- The numbers and names of the faults, as they are printed.
use Rattle.std.specs.Prelude.{ℕ, List, codes}
use Rattle.aiger_text.specs.declared.fault.AigFaultKind.{AigFaultKind}
use Rattle.aiger_text.specs.declared.fault.AigFaultKind.TheVariants.{BadHeader, Unsupported, BadLine, BadLiteral, DefinedTwice, Undefined, BadReset, BadSymbol, SameName}

-- the number of a fault
abbrev pub aig_fault_number : AigFaultKind → ℕ
aig_fault_number BadHeader = 1
aig_fault_number Unsupported = 2
aig_fault_number BadLine = 3
aig_fault_number BadLiteral = 4
aig_fault_number DefinedTwice = 5
aig_fault_number Undefined = 6
aig_fault_number BadReset = 7
aig_fault_number BadSymbol = 8
aig_fault_number SameName = 9

-- the name of a fault, in ASCII
abbrev pub aig_fault_name : AigFaultKind → List ℕ
aig_fault_name BadHeader = codes "BadHeader"
aig_fault_name Unsupported = codes "Unsupported"
aig_fault_name BadLine = codes "BadLine"
aig_fault_name BadLiteral = codes "BadLiteral"
aig_fault_name DefinedTwice = codes "DefinedTwice"
aig_fault_name Undefined = codes "Undefined"
aig_fault_name BadReset = codes "BadReset"
aig_fault_name BadSymbol = codes "BadSymbol"
aig_fault_name SameName = codes "SameName"
