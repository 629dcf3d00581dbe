use Rattle.std.proofs.Common.{◌≡◌, length}
use Rattle.rle_write.specs.Blocks.{AreBlocksFrom, AreKnownBelow}
use Rattle.rle_write.proofs.blocks.look_up.Given as goal

abbrev pub invariant-loop-i : goal.invariant-loop-i
invariant-loop-i l = record {
  size : length l.blocks ≡ length l.initial.blocks;
  known : AreKnownBelow l.plan l.lane l.blocks;
  from : AreBlocksFrom l.plan l.lane l.i l.blocks;
}
