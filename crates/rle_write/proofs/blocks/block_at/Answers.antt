use Rattle.std.proofs.Common.{sym, ◌∙◌, ap, subst}
use Rattle.std.proofs.lemmas.List.{nil_from_length}
use Rattle.plan_layout.proofs.Bare.{bare}
use Rattle.rle_write.specs.Known.{StandsKnown}
use Rattle.rle_write.proofs.blocks.block_at.Goals as goal

pub returns-then-len-eq0 : goal.returns-then-len-eq0
returns-then-len-eq0 c =
    let none = nil_from_length c.args.plan.now.tape (sym c.len.ensures ∙ c.if-len-eq0.true) in
    subst (λ at. StandsKnown at c.args.lane c.bare_block.result.0 c.bare_block.result.1) (sym (ap (λ t. t c.args.column) (bare c.args.plan.now none).tiling)) c.bare_block.ensures
