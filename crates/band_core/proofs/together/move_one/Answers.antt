use Rattle.std.proofs.Common.{◌≡◌, refl, false, Some, None}
use Rattle.std.specs.Option.{is_some}
use Rattle.std.specs.declared.option.Option.{Option}
use Rattle.band_core.proofs.together.move_one.Goals as goal

none : {X : Type 0} (o : Option X) → is_some o ≡ false → o ≡ None
none None e = refl
none (Some x) e = cc

pub returns-then-is_none-clause-bands : goal.returns-then-is_none-clause-bands
returns-then-is_none-clause-bands c = c.rest_band.ensures.bands c.args.columns c.args.height c.args.rows c.requires.can_move.are

pub returns-then-is_none-clause-shows : goal.returns-then-is_none-clause-shows
returns-then-is_none-clause-shows c e due width evo shows =
    let can = c.requires.can_move in
    c.rest_band.ensures.shows e due width c.args.columns c.args.height c.args.rows evo can.are shows (c.awake_cell.ensures.quiet (none c.awake_cell.result c.if-is_none.ensures) e due width evo shows)

pub is_dark-requires : goal.is_dark-requires
is_dark-requires c =
    let can = c.requires.can_move in
    record { closed = (can.are.each c.args.b c.index-bands-b.result can.inside).closed }
