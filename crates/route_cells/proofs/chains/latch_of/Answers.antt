use Rattle.std.proofs.Common.{sym, arith}
use Rattle.std.proofs.lemmas.Option.{get_or_from_slice_get}
use Rattle.route_cells.proofs.chains.latch_of.Goals as goal

pub returns : goal.returns
returns c =
    let list = c.args.list.now in
    let l = c.in-Latch.l in (
      l,
      omega arith,
      c.in-Latch.is,
      sym (get_or_from_slice_get list.latches l c.get.result.now _ c.get.ensures),
      sym (get_or_from_slice_get list.starts l c.get-2.result.now _ c.get-2.ensures),
    )
