use Rattle.std.proofs.Common.{◌<◌, refl, get_or, length, arith}
use Rattle.lane_kernel.proofs.UnderWay.{passed, stepped}
use Rattle.lane_kernel.proofs.stepping.step_entry.Goals as goal

pub returns-then-byte-eq0-clause-goes_on : goal.returns-then-byte-eq0-clause-goes_on
returns-then-byte-eq0-clause-goes_on c old under_way =
    let free = c.args.coming.now in
    passed free old c.args.entries.now c.args.k c.args.tails.now c.args.bytes.now c.args.soon.now c.if-byte-eq0.true under_way

pub returns-clause-goes_on : goal.returns-clause-goes_on
returns-clause-goes_on c old under_way =
    let free = c.args.coming.now in
    let i = get_or c.args.entries.now c.args.k 0 in
    let to = c.requires.inner.to in
    let lt = c.requires.long.long_tails in
    let lb = c.requires.long.long_bytes in
    let in_tails : i < length c.args.tails.now = omega (arith, to, lt) in
    let in_bytes : i < length c.args.bytes.now = omega (arith, to, lb) in
    stepped free old c.args.entries.now c.args.k i c.stepped_word-fired.result c.args.tails.now c.args.bytes.now c.args.soon.now c.mark_lit.new.bytes
    refl in_tails in_bytes c.if-byte-eq0.false c.stepped_word-fired.ensures c.mark_lit.ensures.more c.mark_lit.ensures.dark c.mark_lit.ensures.told under_way
