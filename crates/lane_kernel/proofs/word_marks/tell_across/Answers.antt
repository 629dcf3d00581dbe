use Rattle.std.proofs.Common.{ℕ, ◌≡◌, ◌+◌, ◌-◌, ◌*◌, ◌/◌, ◌%◌, ◌^◌, ◌≤◌, sym, subst, List, arith}
use Rattle.std.proofs.lemmas.Bool.{true≢false}
use Rattle.lane_kernel.specs.declared.free_cells.Free.{Free}
use Rattle.lane_kernel.specs.Around.Way.{north, south, west, east, north_west, north_east, south_west, south_east}
use Rattle.lane_kernel.specs.Marked.{AreMore, AreToldAcross, IsTold}
use Rattle.lane_kernel.proofs.Listing.{more_more, still_told}
use Rattle.lane_kernel.proofs.word_marks.tell_across.Goals as goal

across : (free : Free) (heads i : ℕ) (mid new : List ℕ) → free.stride + 1 ≤ i → AreMore mid new
    → IsTold (heads * 2 ^ 63 % 2 ^ 64) free.tails.now free.cells.now mid (i - free.stride - 1) → IsTold (heads * 2 ^ 63 % 2 ^ 64) free.tails.now free.cells.now mid (i - free.stride) → IsTold (heads * 2 ^ 63 % 2 ^ 64) free.tails.now free.cells.now mid (i - free.stride + 1)
    → IsTold (heads / 2 ^ 63) free.tails.now free.cells.now new (i + free.stride - 1) → IsTold (heads / 2 ^ 63) free.tails.now free.cells.now new (i + free.stride) → IsTold (heads / 2 ^ 63) free.tails.now free.cells.now new (i + free.stride + 1)
    → AreToldAcross free heads i new
across free heads i mid new from more nw w sw ne e se = told
  where
    told : AreToldAcross free heads i new
    told north q = absurd (true≢false (sym q))
    told south q = absurd (true≢false (sym q))
    told west q = still_told (heads * 2 ^ 63 % 2 ^ 64) free.tails.now free.cells.now mid new (i - free.stride) more w
    told east q = e
    told north_west q = let p : i - free.stride - 1 ≡ i - 1 - free.stride = omega (arith, from) in subst (IsTold (heads * 2 ^ 63 % 2 ^ 64) free.tails.now free.cells.now new) p (still_told (heads * 2 ^ 63 % 2 ^ 64) free.tails.now free.cells.now mid new (i - free.stride - 1) more nw)
    told south_west q = let p : i - free.stride + 1 ≡ i + 1 - free.stride = omega (arith, from) in subst (IsTold (heads * 2 ^ 63 % 2 ^ 64) free.tails.now free.cells.now new) p (still_told (heads * 2 ^ 63 % 2 ^ 64) free.tails.now free.cells.now mid new (i - free.stride + 1) more sw)
    told north_east q = let p : i + free.stride - 1 ≡ i - 1 + free.stride = omega (arith, from) in subst (IsTold (heads / 2 ^ 63) free.tails.now free.cells.now new) p ne
    told south_east q = let p : i + free.stride + 1 ≡ i + 1 + free.stride = omega arith in subst (IsTold (heads / 2 ^ 63) free.tails.now free.cells.now new) p se

pub returns-clause-more : goal.returns-clause-more
returns-clause-more c = more_more c.args.bytes.now c.tell_three-many.new.bytes c.tell_three.new.bytes c.tell_three-many.ensures.more c.tell_three.ensures.more

pub returns-clause-told : goal.returns-clause-told
returns-clause-told c =
    let free = c.args.free.now in
    let a = c.tell_three-many.ensures in
    let b = c.tell_three.ensures in
    across free c.args.heads c.args.i c.tell_three-many.new.bytes c.tell_three.new.bytes c.requires.inner.from b.more
    a.above a.here a.below b.above b.here b.below
