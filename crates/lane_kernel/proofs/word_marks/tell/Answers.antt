use Rattle.std.proofs.Common.{sym, ap, ◌∙◌, inr, arith}
use Rattle.std.specs.Int.RustNames.{bit_and}
use Rattle.lane_kernel.proofs.Listing.{has_cells}
use Rattle.lane_kernel.proofs.word_marks.tell.Goals as goal

pub returns-then-met-eq0-clause-told : goal.returns-then-met-eq0-clause-told
returns-then-met-eq0-clause-told c = inr (sym (ap (bit_and c.args.near) c.free_of.ensures) ∙ c.if-met-eq0.true)

pub mark-requires-clause-inner : goal.mark-requires-clause-inner
mark-requires-clause-inner c =
    let free = c.args.free.now in
    let long = c.requires.long in
    let inner = has_cells free.stride c.args.near free.tails.now free.cells.now c.args.i free.framed (λ none. c.if-met-eq0.false (ap (bit_and c.args.near) c.free_of.ensures ∙ none)) in
    let to = inner.to in
    record { from = inner.from; to = omega (arith, to, long) }
