-- The outputs of a drawn crossing.
use Rattle.std.proofs.Common.{pos, ℕ, zero, suc, ◌+◌, ◌≡◌, refl, cond, List, [], ◌∷◌, map, slice_get}
use Rattle.std.specs.Option.{option_map}
use Rattle.gate_laws.specs.Rows.{Port}
use Rattle.lists.specs.Items.{flag_at, list_at}
use Rattle.gate_laws.specs.declared.window.OutCell.{OutCell}
use Rattle.gate_laws.specs.Drawings.{out_port_of, out_table}
use Rattle.gate_laws.specs.Crossings.{spread_outs}

-- where an output stands, and its delay
abbrev pub spread_port : (d : ℕ) → OutCell → Port
spread_port d out = ((pos out.x, pos out.y), cond (flag_at out.table 2) d 0 + out.delay)

pub spread_at : (outs : List OutCell) (d o : ℕ) → slice_get (spread_outs (λ k. flag_at (list_at (map out_table outs) k) 2) d (map out_port_of outs)) o ≡ option_map (spread_port d) (slice_get outs o)
spread_at [] d o = refl
spread_at (out ∷ outs) d zero = refl
spread_at (out ∷ outs) d (suc o) = spread_at outs d o
