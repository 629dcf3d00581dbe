-- Lists of cells that run alike.
use Rattle.std.specs.Prelude.{ℕ, ◌≡◌, Bool, List, length}
use Rattle.cell_core.specs.declared.list.CellList.{CellList}
use Rattle.routed_circuits.specs.Runs.{src_at, list_bit}

-- The lists have as many inputs, outputs and nets. On all rows of input bits, in each cycle, their
-- outputs have the same bits, and so have their nets.
pub record RunAlike (found wanted : CellList) : Type 0 where
  pub inputs : found.inputs ≡ wanted.inputs
  pub outs : length found.outs ≡ length wanted.outs
  pub nets : length found.nets ≡ length wanted.nets
  pub out_bits : (rows : List (List Bool)) (t o : ℕ)
      → list_bit found rows t (src_at found.outs o) ≡ list_bit wanted rows t (src_at wanted.outs o)
  pub net_bits : (rows : List (List Bool)) (t k : ℕ)
      → list_bit found rows t (src_at found.nets k) ≡ list_bit wanted rows t (src_at wanted.nets k)
