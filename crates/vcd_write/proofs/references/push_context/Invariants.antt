use Rattle.std.proofs.Common.{◌≡◌, ◌++◌, map, take, All}
use Rattle.vcd_write.specs.NetWaves.{IsByteName, nets_in, reference_of}
use Rattle.vcd_write.proofs.references.push_context.Given as goal

abbrev pub invariant-loop-net : goal.invariant-loop-net
invariant-loop-net l = record {
  references : l.references.items ≡ l.fn.references.items ++ map (reference_of l.contexts) (nets_in l.context (take l.net-index l.nets));
  bytes : All (λ net. IsByteName net.name) (take l.net-index l.nets);
}
