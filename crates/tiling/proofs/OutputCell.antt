-- An output cell keeps the timing law.
use Rattle.std.proofs.Common.{ℤ, pos, ◌≡◌, refl, sym, ap₂, ◌∙◌, Bool, true, false, ◌&&◌, int_eq}
use Rattle.std.proofs.Math.Bool.{or-false}
use Rattle.tile_core.specs.declared.kind.Kind.{Kind}
use Rattle.tile_core.specs.Drawing.{Drawing}
use Rattle.tile_core.specs.Interface.{is_in_box}
use Rattle.tile_core.specs.Kinds.{interface}
use Rattle.tile_core.specs.TimingLaw.{KeepsTime, MeetsTimingLaw}
use Rattle.tile_timing.proofs.Sound.{same_place}
use Rattle.tile_timing.proofs.Traces.{keeps_time}
use Rattle.tile_timing.proofs.PortTests.{has_ports}
use Rattle.tiling.specs.Tiling.{output_interface, output_drawing}
use Rattle.tiling.specs.Tiling.Piece.{Tile, Output}
use Rattle.tiling.proofs.Alone.{Laws}

output_in_box : (x y : ℤ) → output_drawing x y ≡ true → is_in_box output_interface x y ≡ true
output_in_box x y e =
    let s = same_place x y (pos 0) (pos 8) (sym (or-false (int_eq x (pos 0) && int_eq y (pos 8))) ∙ e) in
    ap₂ (is_in_box output_interface) s.0 s.1

output_keeps : (a b : Bool) → KeepsTime output_interface output_drawing a b
output_keeps true true = keeps_time _ _ _ _ refl
output_keeps true false = keeps_time _ _ _ _ refl
output_keeps false true = keeps_time _ _ _ _ refl
output_keeps false false = keeps_time _ _ _ _ refl

output_meets : MeetsTimingLaw output_interface output_drawing
output_meets = record { keeps_time = output_keeps; has_ports = has_ports output_interface output_drawing output_in_box refl }

-- where the tiles of a library keep the law, all pieces do
pub laws_of : (library : Kind → Drawing) → ((kind : Kind) → MeetsTimingLaw (interface kind) (library kind)) → Laws library
laws_of library laws (Tile kind) = laws kind
laws_of library laws Output = output_meets
