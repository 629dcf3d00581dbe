use Rattle.std.proofs.Common.{◌-◌, ◌≡◌, ◌∙◌, sym, ap, inl, inr, get_or, arith}
use Rattle.std.proofs.lemmas.Option.{get_or_from_slice_get}
use Rattle.route_tables.proofs.serials.is_listed_at.Goals as goal

pub returns : goal.returns
returns c = λ t.
    let tables = c.args.tables.now in
    let here : get_or tables.serials c.args.k 0 ≡ c.get.result.now = get_or_from_slice_get tables.serials c.args.k c.get.result.now 0 c.get.ensures in
    inr (omega (arith, here), omega (arith, here), ap (λ n. get_or tables.cells (n - 1) (0, 0)) here ∙ sym c.cell.ensures ∙ c.is_cell.ensures t)

pub returns-then-serial-eq0 : goal.returns-then-serial-eq0
returns-then-serial-eq0 c = λ t.
    let here = get_or_from_slice_get c.args.tables.now.serials c.args.k c.get.result.now 0 c.get.ensures in
    inl (here ∙ c.if-serial-eq0.true, c.is_empty.ensures.empty t)
