use Rattle.std.proofs.Common.{◌≡◌, ◌++◌, ◌+◌, List, length}
use Rattle.aiger_text.specs.Names.{names_for}
use Rattle.aiger_text.specs.Symbols.{Symbol}
use Rattle.aiger_reader.specs.Known.{KnowsNamesOfKind}
use Rattle.aiger_reader.proofs.names.push_names.Given as goal

abbrev pub invariant-loop-place : goal.invariant-loop-place
invariant-loop-place l = record {
  long : length l.names.items ≡ length l.fn.names.items + l.place;
  names : (symbols : List Symbol) → KnowsNamesOfKind l.kind l.table symbols → l.names.items ≡ l.fn.names.items ++ names_for symbols l.kind l.place;
}
