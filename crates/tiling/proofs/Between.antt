-- From generation 1 to generation 31 each cell is that of its own piece alone.
use Rattle.std.proofs.Common.{ℕ, zero, suc, ◌≤◌, ◌≡◌, ap, ◌∙◌, arith}
use Rattle.ww_rule.specs.Wireworld.{next_plane, evolve}
use Rattle.tile_core.specs.declared.kind.Kind.{Kind}
use Rattle.tile_core.specs.Drawing.{Drawing}
use Rattle.tiling.specs.Tiling.{Tiling, Lit, drawn}
use Rattle.tiling.specs.Matched.{IsMatched}
use Rattle.tiling.proofs.Alone.{Laws, glue}
use Rattle.tiling.proofs.Apart.{glue_step}
use Rattle.tiling.proofs.First.{first_step}

pub between : (library : Kind → Drawing) → Laws library → (tiling : Tiling) → IsMatched tiling → (lit : Lit) (g : ℕ) → g ≤ 30 → evolve (suc g) (drawn library tiling lit) ≡ glue library tiling lit (suc g)
between library laws tiling m lit zero h = first_step library laws tiling m lit
between library laws tiling m lit (suc g) h =
    ap next_plane (between library laws tiling m lit g (omega arith)) ∙ glue_step library laws tiling m.pieces lit (suc g) (omega arith) h
