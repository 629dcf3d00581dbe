use Rattle.std.proofs.Common.{◌≡◌, false, arith}
use Rattle.std.proofs.lemmas.List.Elements.{All-from_get_or}
use Rattle.std.proofs.lemmas.List.Folds.{list_any_none}
use Rattle.gate_laws.specs.Drawings.{no_in, is_beside}
use Rattle.gate_laws.proofs.window.is_beside_any.Goals as goal

pub returns : goal.returns
returns c = λ e.
    let each = All-from_get_or (λ cell. is_beside c.args.x c.args.y cell ≡ false) c.args.ins.now no_in (λ k h. c.loop-cell.invariant k (omega arith)) in
    list_any_none (is_beside c.args.x c.args.y) c.args.ins.now each
