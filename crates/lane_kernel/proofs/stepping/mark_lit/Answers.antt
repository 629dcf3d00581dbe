use Rattle.std.proofs.Common.{ℕ, ◌≡◌, get_or, arith}
use Rattle.std.proofs.lemmas.Nat.{le_or_l, le_or_r}
use Rattle.std.specs.Int.RustNames.{bit_or}
use Rattle.lane_kernel.proofs.Listing.{more_more}
use Rattle.lane_kernel.proofs.UnderWay.{none_told}
use Rattle.lane_kernel.proofs.stepping.mark_lit.Goals as goal

left_zero : (a b : ℕ) → bit_or a b ≡ 0 → a ≡ 0
left_zero a b e = let l = le_or_l a b in omega (arith, e, l)

right_zero : (a b : ℕ) → bit_or a b ≡ 0 → b ≡ 0
right_zero a b e = let l = le_or_r a b in omega (arith, e, l)

pub returns-then-lit-eq0-clause-dark : goal.returns-then-lit-eq0-clause-dark
returns-then-lit-eq0-clause-dark c unmarked =
    let t = get_or c.args.free.now.tails.now c.args.i 0 in
    (left_zero c.args.heads t c.if-lit-eq0.true, right_zero c.args.heads t c.if-lit-eq0.true)

pub returns-then-lit-eq0-clause-told : goal.returns-then-lit-eq0-clause-told
returns-then-lit-eq0-clause-told c =
    let free = c.args.free.now in
    none_told free c.args.heads c.args.i c.args.bytes.now (left_zero c.args.heads (get_or free.tails.now c.args.i 0) c.if-lit-eq0.true)

pub returns-then-heads-eq0-clause-dark : goal.returns-then-heads-eq0-clause-dark
returns-then-heads-eq0-clause-dark c unmarked = let here = c.mark-many.ensures.here in absurd (omega (arith, here, unmarked))

pub returns-then-heads-eq0-clause-told : goal.returns-then-heads-eq0-clause-told
returns-then-heads-eq0-clause-told c =
    let free = c.args.free.now in
    none_told free c.args.heads c.args.i c.mark-many.new.bytes c.if-heads-eq0.true

pub returns-clause-more : goal.returns-clause-more
returns-clause-more c = more_more c.args.bytes.now c.mark-many.new.bytes c.tell_around.new.bytes c.mark-many.ensures.more c.tell_around.ensures.more

pub returns-clause-dark : goal.returns-clause-dark
returns-clause-dark c unmarked =
    let here = c.mark-many.ensures.here in
    let more = c.tell_around.ensures.more c.args.i in
    absurd (omega (arith, here, more, unmarked))
