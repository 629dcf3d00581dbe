-- The bits of all nets, in rows, one row for each cycle.
use Rattle.std.specs.Prelude.{◌≡◌, ◌≤◌, ◌<◌, ◌^◌, ℕ, ◌+◌, ◌*◌, ◌-◌, length, All}
use Rattle.pattern_reading.specs.declared.ports.Ports.{Ports}
use Rattle.vcd_write.specs.declared.due_bits.Raster.{Raster}
use Rattle.vcd_write.specs.NetWaves.{nets_in_contexts}

-- The raster has a place for each bit that a net shows in so many cycles, and all bits are shown up
-- to its last generation.
pub record FitsNets (ports : Ports) (cycles : ℕ) (raster : Raster) : Type 0 where
  pub some : 0 < cycles
  pub variables : raster.variables ≡ length (nets_in_contexts ports)
  pub period : raster.period ≡ ports.p
  pub bits : raster.bits ≡ cycles * raster.variables
  pub early : All (λ net. net.offset + 32 * (ports.c - 1) + (cycles - 1) * ports.p
      ≤ raster.last) ports.nets
  pub small : raster.last < 2 ^ 64
