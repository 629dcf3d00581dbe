use Rattle.lane_kernel.proofs.Listing.{more_more, still_told}
use Rattle.lane_kernel.proofs.word_marks.tell_three.Goals as goal

pub returns-clause-more : goal.returns-clause-more
returns-clause-more c =
    let a = c.args.bytes.now in
    let b = c.tell-many.new.bytes in
    let d = c.tell-many-2.new.bytes in
    let e = c.tell.new.bytes in
    more_more a b e c.tell-many.ensures.more (more_more b d e c.tell-many-2.ensures.more c.tell.ensures.more)

pub returns-clause-above : goal.returns-clause-above
returns-clause-above c =
    let b = c.tell-many.new.bytes in
    let d = c.tell-many-2.new.bytes in
    let e = c.tell.new.bytes in
    still_told c.args.near c.args.free.now.tails.now c.args.free.now.cells.now b e _ (more_more b d e c.tell-many-2.ensures.more c.tell.ensures.more) c.tell-many.ensures.told

pub returns-clause-here : goal.returns-clause-here
returns-clause-here c =
    still_told c.args.near c.args.free.now.tails.now c.args.free.now.cells.now c.tell-many-2.new.bytes c.tell.new.bytes _ c.tell.ensures.more c.tell-many-2.ensures.told
