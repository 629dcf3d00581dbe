use Rattle.rle_read.proofs.Fronts.{lone_piece_split, piece_split}
use Rattle.rle_read.proofs.items.split_piece.Goals as goal

pub returns-in-empty-clause-pieces : goal.returns-in-empty-clause-pieces
returns-in-empty-clause-pieces c =
    lone_piece_split c.args.bytes.now c.split_at.result.0.now c.split_at.result.1.now c.digits_at_front.result c.requires c.digits_at_front.ensures.count c.split_at.ensures.front c.split_at.ensures.back c.in-empty.len_below

pub returns-in-len1-up-clause-pieces : goal.returns-in-len1-up-clause-pieces
returns-in-len1-up-clause-pieces c =
    piece_split c.args.bytes.now c.split_at.result.0.now c.split_at.result.1.now c.digits_at_front.result c.digits_at_front.ensures.count c.split_at.ensures.front c.split_at.ensures.back c.in-len1-up.len_at_least
