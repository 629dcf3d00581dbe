use Rattle.std.proofs.Common.{◌≡◌, ◌∙◌, subst, IfOk, List, length, arith}
use Rattle.lane_core.specs.declared.starts.Start.{Start}
use Rattle.tile_match.proofs.ReadStarts.{starts_of_shown, shown_long}
use Rattle.tile_match.proofs.starts.starts_shown.Goals as goal

pub starts_of_bits-requires : goal.starts_of_bits-requires
starts_of_bits-requires c =
    let many : length c.deref.result.now ≡ c.args.loops = shown_long c.args.rows.now c.args.lanes c.args.loops c.deref.result.now (c.deref.ensures.value ∙ c.in_ok-bits.ensures) in
    omega (arith, many, c.requires)

pub returns : goal.returns
returns c =
    subst (λ (list : List Start). IfOk c.starts_of_bits.result (λ starts. starts.list ≡ list))
    (starts_of_shown c.args.rows.now c.args.lanes c.args.loops c.deref.result.now (c.deref.ensures.value ∙ c.in_ok-bits.ensures))
    c.starts_of_bits.ensures
