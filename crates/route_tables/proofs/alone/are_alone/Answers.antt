use Rattle.std.proofs.Common.{ℕ, ◌<◌, below_more, subst}
use Rattle.route_tables.specs.declared.tables.TableWire.{TableWire}
use Rattle.route_tables.specs.Cells.{IsAlone}
use Rattle.route_tables.proofs.alone.are_alone.Goals as goal

pub loop-w-preserved : goal.loop-w-preserved
loop-w-preserved c =
    below_more _ _ c.loop-w.invariant (subst (λ (wire : TableWire). (i : ℕ) → i < wire.size → IsAlone c.args.tables.now wire i) c.wire-wire.ensures c.in_ok-is_wire_alone.ensures)
