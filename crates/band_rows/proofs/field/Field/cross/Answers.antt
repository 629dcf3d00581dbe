use Rattle.std.proofs.Common.{ap₂, ◌∙◌}
use Rattle.band_rows.proofs.field.Field.cross.Goals as goal

pub returns : goal.returns
returns c =
    let self = c.args.self.now in
    ap₂ (λ h t. record self { heads = h; tails = t; marks = c.swap-2.new.x; spare = c.swap-2.new.y }) c.swap.ensures.x_after c.swap.ensures.y_after
    ∙ ap₂ (λ m s. record self { heads = self.tails; tails = self.heads; marks = m; spare = s }) c.swap-2.ensures.x_after c.swap-2.ensures.y_after
