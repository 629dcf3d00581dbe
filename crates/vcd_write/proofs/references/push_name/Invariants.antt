use Rattle.std.proofs.Common.{◌≡◌, ◌++◌, take}
use Rattle.vcd_write.specs.References.{escaped_reference}
use Rattle.vcd_write.specs.NetWaves.{IsByteName}
use Rattle.vcd_write.proofs.references.push_name.Given as goal

abbrev pub invariant-loop-byte : goal.invariant-loop-byte
invariant-loop-byte l = record {
  text : l.text.items ≡ l.fn.text.items ++ escaped_reference (take l.byte-index l.name);
  bytes : IsByteName (take l.byte-index l.name);
}
