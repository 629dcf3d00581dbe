use Rattle.tile_timing.proofs.Borders.{ports_by_border}
use Rattle.tile_timing.proofs.law.has_ports.Goals as goal

pub returns : goal.returns
returns c =
    ports_by_border c.args.kind c.args.cells.now c.is_border_clear.result c.requires.size (c.has_entries.ensures.0 c.if-not-has_entries.false) (c.has_exits.ensures.0 c.if-not-has_exits.false) c.is_border_clear.ensures
