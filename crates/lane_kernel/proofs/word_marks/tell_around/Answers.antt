use Rattle.std.proofs.Common.{ℕ, ◌≡◌, ◌+◌, ◌-◌, ◌*◌, ◌/◌, ◌%◌, ◌^◌, refl, sym, ap, ap₂, subst, ◌∙◌, inr, List, get_or, arith}
use Rattle.std.proofs.lemmas.Bool.{true≢false}
use Rattle.std.proofs.lemmas.Nat.{le_or_l, le_or_r}
use Rattle.std.specs.Int.RustNames.{bit_and, bit_or}
use Rattle.lane_kernel.specs.declared.free_cells.Free.{Free}
use Rattle.lane_kernel.specs.Around.{free_of}
use Rattle.lane_kernel.specs.Around.Way.{north, south, west, east, north_west, north_east, south_west, south_east}
use Rattle.lane_kernel.specs.Marked.{AreMore, AreTold, AreToldAcross, IsTold}
use Rattle.lane_kernel.specs.Words.{spread_of}
use Rattle.lane_kernel.proofs.Listing.{more_more, still_told}
use Rattle.lane_kernel.proofs.word_marks.tell_around.Goals as goal

-- the two words above and below, and the six across
around : (free : Free) (heads i near : ℕ) (a b new : List ℕ) → near ≡ spread_of 0 heads 0 → AreMore a new → AreMore b new
    → IsTold near free.tails.now free.cells.now a (i - 1) → IsTold near free.tails.now free.cells.now b (i + 1) → AreToldAcross free heads i new → AreTold free heads i new
around free heads i near a b new is more_a more_b up down across = told
  where
    column : (old : List ℕ) (j : ℕ) → AreMore old new → IsTold near free.tails.now free.cells.now old j → IsTold (spread_of 0 heads 0) free.tails.now free.cells.now new j
    column old j more t = subst (λ n. IsTold n free.tails.now free.cells.now new j) is (still_told near free.tails.now free.cells.now old new j more t)

    told : AreTold free heads i new
    told north = column a (i - 1) more_a up
    told south = column b (i + 1) more_b down
    told west = across west refl
    told east = across east refl
    told north_west = across north_west refl
    told north_east = across north_east refl
    told south_west = across south_west refl
    told south_east = across south_east refl

-- heads that touch no word across
none_across : (free : Free) (heads i : ℕ) (new : List ℕ) → bit_or (heads * 2 ^ 63 % 2 ^ 64) (heads / 2 ^ 63) ≡ 0 → AreToldAcross free heads i new
none_across free heads i new none = told
  where
    none_west : heads * 2 ^ 63 % 2 ^ 64 ≡ 0
    none_west = let l = le_or_l (heads * 2 ^ 63 % 2 ^ 64) (heads / 2 ^ 63) in omega (arith, l, none)

    none_east : heads / 2 ^ 63 ≡ 0
    none_east = let l = le_or_r (heads * 2 ^ 63 % 2 ^ 64) (heads / 2 ^ 63) in omega (arith, l, none)

    zero_told : (near j : ℕ) → near ≡ 0 → IsTold near free.tails.now free.cells.now new j
    zero_told near j e = inr (ap (λ n. bit_and n (free_of (get_or free.cells.now j 0) (get_or free.tails.now j 0))) e)

    told : AreToldAcross free heads i new
    told north q = absurd (true≢false (sym q))
    told south q = absurd (true≢false (sym q))
    told west q = zero_told (heads * 2 ^ 63 % 2 ^ 64) (i - free.stride) none_west
    told north_west q = zero_told (heads * 2 ^ 63 % 2 ^ 64) (i - 1 - free.stride) none_west
    told south_west q = zero_told (heads * 2 ^ 63 % 2 ^ 64) (i + 1 - free.stride) none_west
    told east q = zero_told (heads / 2 ^ 63) (i + free.stride) none_east
    told north_east q = zero_told (heads / 2 ^ 63) (i - 1 + free.stride) none_east
    told south_east q = zero_told (heads / 2 ^ 63) (i + 1 + free.stride) none_east

pub returns-then-across-eq0-clause-more : goal.returns-then-across-eq0-clause-more
returns-then-across-eq0-clause-more c = more_more c.args.bytes.now c.tell-many.new.bytes c.tell-many-2.new.bytes c.tell-many.ensures.more c.tell-many-2.ensures.more

pub returns-then-across-eq0-clause-told : goal.returns-then-across-eq0-clause-told
returns-then-across-eq0-clause-told c =
    let free = c.args.free.now in
    let near = c.spread-near.ensures ∙ ap₂ (λ f b. f b) (ap₂ spread_of c.alone.ensures.before c.alone.ensures.here) c.alone.ensures.after in
    around free c.args.heads c.args.i c.spread-near.result c.tell-many.new.bytes c.tell-many-2.new.bytes c.tell-many-2.new.bytes near
    c.tell-many-2.ensures.more (λ j. omega arith) c.tell-many.ensures.told c.tell-many-2.ensures.told
    (none_across free c.args.heads c.args.i c.tell-many-2.new.bytes c.if-across-eq0.true)

pub returns-clause-more : goal.returns-clause-more
returns-clause-more c =
    more_more c.args.bytes.now c.tell-many.new.bytes c.tell_across.new.bytes c.tell-many.ensures.more
    (more_more c.tell-many.new.bytes c.tell-many-2.new.bytes c.tell_across.new.bytes c.tell-many-2.ensures.more c.tell_across.ensures.more)

pub returns-clause-told : goal.returns-clause-told
returns-clause-told c =
    let free = c.args.free.now in
    let near = c.spread-near.ensures ∙ ap₂ (λ f b. f b) (ap₂ spread_of c.alone.ensures.before c.alone.ensures.here) c.alone.ensures.after in
    around free c.args.heads c.args.i c.spread-near.result c.tell-many.new.bytes c.tell-many-2.new.bytes c.tell_across.new.bytes near
    (more_more c.tell-many.new.bytes c.tell-many-2.new.bytes c.tell_across.new.bytes c.tell-many-2.ensures.more c.tell_across.ensures.more) c.tell_across.ensures.more
    c.tell-many.ensures.told c.tell-many-2.ensures.told c.tell_across.ensures.told
