use Rattle.std.proofs.Common.{◌∙◌, ap, map}
use Rattle.std.proofs.lemmas.Result.{err_from_is_err_and}
use Rattle.cell_meaning.specs.Moved.{goes_to}
use Rattle.cell_polarity.proofs.building.ports_gone.Goals as goal

pub returns-in_err-outs : goal.returns-in_err-outs
returns-in_err-outs c =
    let p = (err_from_is_err_and c.from_residual.result c.from_residual.ensures.1).1 in
    record { outs = rw p tt; latches = rw p tt; nets = rw p tt; kept = rw p tt }

pub returns-in_err-latches : goal.returns-in_err-latches
returns-in_err-latches c =
    let p = (err_from_is_err_and c.from_residual-in_err-latches.result c.from_residual-in_err-latches.ensures.1).1 in
    record { outs = rw p tt; latches = rw p tt; nets = rw p tt; kept = rw p tt }

pub returns-in_err-nets : goal.returns-in_err-nets
returns-in_err-nets c =
    let p = (err_from_is_err_and c.from_residual-in_err-nets.result c.from_residual-in_err-nets.ensures.1).1 in
    record { outs = rw p tt; latches = rw p tt; nets = rw p tt; kept = rw p tt }

pub returns-in_err-kept : goal.returns-in_err-kept
returns-in_err-kept c =
    let p = (err_from_is_err_and c.from_residual-in_err-kept.result c.from_residual-in_err-kept.ensures.1).1 in
    record { outs = rw p tt; latches = rw p tt; nets = rw p tt; kept = rw p tt }

pub returns : goal.returns
returns c =
    let go = map (goes_to c.args.news.now) in
    record {
      outs = c.in_ok-outs.ensures ∙ ap go c.as_slice.ensures;
      latches = c.in_ok-latches.ensures ∙ ap go c.as_slice-2.ensures;
      nets = c.in_ok-nets.ensures ∙ ap go c.as_slice-3.ensures;
      kept = c.in_ok-kept.ensures;
    }
