use Rattle.std.proofs.Common.{ℕ, pos, ◌+◌, ◌≡◌, ◌∙◌, sym, below_more, subst}
use Rattle.route_tables.specs.Tables.{serial}
use Rattle.route_tables.proofs.serials.have_serials.Goals as goal

pub loop-n-preserved : goal.loop-n-preserved
loop-n-preserved c =
    below_more _ _ c.loop-n.invariant
    (subst (λ (cell : ℕ × ℕ). serial c.args.tables.now (pos cell.0, pos cell.1) ≡ c.loop-n.n + 1) c.cell.ensures (sym c.serial.ensures ∙ c.if-serial-n.false))
