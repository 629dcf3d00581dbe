use Rattle.std.proofs.Common.{◌∙◌, ap, List, map}
use Rattle.std.proofs.lemmas.Result.{err_from_is_err_and}
use Rattle.netlist_core.specs.declared.flat.FlatPort.{FlatPort}
use Rattle.netlist_core.specs.declared.flat.FlatLatch.{FlatLatch}
use Rattle.netlist_meaning.specs.Flat.{class_of, port_classes}
use Rattle.cover_mapper.specs.Sourced.{sources_at}
use Rattle.cover_mapper.proofs.mapping.port_sources.Goals as goal

pub returns-in_err-outs : goal.returns-in_err-outs
returns-in_err-outs c =
    let p = (err_from_is_err_and c.from_residual.result c.from_residual.ensures.1).1 in
    record { outs = rw p tt; latches = rw p tt; nets = rw p tt; singles = rw p tt }

pub returns-in_err-latches : goal.returns-in_err-latches
returns-in_err-latches c =
    let p = (err_from_is_err_and c.from_residual-in_err-latches.result c.from_residual-in_err-latches.ensures.1).1 in
    record { outs = rw p tt; latches = rw p tt; nets = rw p tt; singles = rw p tt }

pub returns-in_err-nets : goal.returns-in_err-nets
returns-in_err-nets c =
    let p = (err_from_is_err_and c.from_residual-in_err-nets.result c.from_residual-in_err-nets.ensures.1).1 in
    record { outs = rw p tt; latches = rw p tt; nets = rw p tt; singles = rw p tt }

pub returns-in_err-singles : goal.returns-in_err-singles
returns-in_err-singles c =
    let p = (err_from_is_err_and c.from_residual-in_err-singles.result c.from_residual-in_err-singles.ensures.1).1 in
    record { outs = rw p tt; latches = rw p tt; nets = rw p tt; singles = rw p tt }

pub returns : goal.returns
returns c =
    let flat = c.args.flat.now in
    let sources = c.args.sources.now in
    record {
      outs = c.in_ok-outs.ensures ∙ ap (λ (l : List FlatPort). sources_at sources (port_classes flat l)) c.as_slice.ensures;
      latches = c.in_ok-latches.ensures ∙ ap (λ (l : List FlatLatch). sources_at sources (map (λ (latch : FlatLatch). class_of flat latch.input) l)) c.as_slice-2.ensures;
      nets = c.in_ok-nets.ensures;
      singles = c.in_ok-singles.ensures;
    }
