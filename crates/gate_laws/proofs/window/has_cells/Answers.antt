use Rattle.std.proofs.Common.{◌<◌, length}
use Rattle.std.proofs.lemmas.List.Elements.{All-from_get_or}
use Rattle.gate_laws.specs.declared.window.InCell.{InCell}
use Rattle.gate_laws.specs.Drawings.{no_in, IsInside}
use Rattle.gate_laws.proofs.window.has_cells.Goals as goal

pub returns : goal.returns
returns c = λ t.
    let inputs = c.has_inputs.ensures c.if-not-has_inputs.false in
    record {
      unlit = c.is_unlit.ensures c.if-not-is_unlit.false;
      inputs = λ i low. (inputs i low).0;
      inside = All-from_get_or (IsInside (length c.args.cells.now) c.args.width) c.args.ins.now no_in (λ i low. (inputs i low).1);
      early = All-from_get_or (λ (input : InCell). input.generation < c.args.time) c.args.ins.now no_in (λ i low. (inputs i low).2);
      outputs = c.has_outputs.ensures t;
    }
