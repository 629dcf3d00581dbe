-- The cells of blocks that stand again and again, by the runs of some of them.
use Rattle.std.proofs.Common.{◌≡◌, refl, sym, ◌∙◌, ap, ap₂, ℕ, zero, suc, ◌+◌, ◌*◌, ◌/◌, ◌%◌, ◌<◌, ◌≤◌, List, ◌++◌, map, drop, length, get_or, arith, append_assoc, length-drop, mul-suc, mul-zero}
use Rattle.std.proofs.lemmas.List.{append-nil, length-append, length-map}
use Rattle.ww_rule.specs.declared.pattern.State.{State}
use Rattle.tiling.specs.Tiling.{Slot}
use Rattle.lane_core.specs.declared.plan.Plan.{Plan}
use Rattle.lane_core.specs.Plans.{size_of}
use Rattle.plan_layout.specs.Slots.{slot_of}
use Rattle.plan_layout.specs.Tape.{drawn_tiling}
use Rattle.grid_assembly.specs.PlanDrawing.{start_row}
use Rattle.pattern_writing.specs.Writer.{tag_of}
use Rattle.rle_write.specs.declared.blocks.Stretch.{Stretch}
use Rattle.rle_write.specs.Blocks.{AreBlocks, IsFigure, no_stretch, tags_of_blocks}
use Rattle.rle_write.specs.Dark.{IsDark, bare_row}
use Rattle.rle_write.specs.Runs.{repeated}
use Rattle.rle_write.proofs.PlanLefts.{row_long}
use Rattle.rle_write.proofs.StretchCells.{block_next}

-- what is kept of a block stands there
stands : (plan : Plan) (lane : ℕ) (blocks : List Stretch) → AreBlocks plan lane blocks → (k : ℕ) → k < length blocks
    → slot_of (get_or blocks k no_stretch).slot ≡ drawn_tiling plan k lane
stands plan lane blocks are k lt =
    let is = are k (omega arith) lt in
    let here : k + 0 ≡ k = omega arith in is.alike 0 (omega (arith, is.some)) ∙ ap (λ n. drawn_tiling plan n lane) here

-- the rest of a row begins with the cells of blocks
blocks_next : (plan : Plan) (y k n : ℕ) (blocks : List Stretch) → IsDark plan y → AreBlocks plan (y / 16) blocks → k + n ≤ length blocks
    → 32 * length blocks ≤ (size_of plan).0
    → map tag_of (drop (32 * k) (start_row plan y)) ≡ tags_of_blocks blocks k n (y % 16) ++ map tag_of (drop (32 * (k + n)) (start_row plan y))
blocks_next plan y k zero blocks dark are within inside =
    let here : k ≡ k + 0 = omega arith in ap (λ m. map tag_of (drop (32 * m) (start_row plan y))) here
blocks_next plan y k (suc n) blocks dark are within inside =
    let row : List State = start_row plan y in
    let slot : Slot = slot_of (get_or blocks (k + n) no_stretch).slot in
    let front : List ℕ = tags_of_blocks blocks k n (y % 16) in
    let own : List ℕ = map tag_of (bare_row slot (y % 16)) in
    let next : k + n + 1 ≡ k + suc n = omega arith in
    blocks_next plan y k n blocks dark are (omega (arith, within)) inside
    ∙ ap (λ l. front ++ l)
    (block_next plan y (k + n) slot dark (stands plan (y / 16) blocks are (k + n) (omega (arith, within))) (omega (arith, within, inside))
    ∙ ap (λ m. own ++ map tag_of (drop (32 * m) row)) next)
    ∙ sym (append_assoc front own (map tag_of (drop (32 * (k + suc n)) row)))

-- blocks in which the same stands have the same tags
blocks_alike : (plan : Plan) (lane y p k n : ℕ) (blocks : List Stretch) → AreBlocks plan lane blocks
    → ((i : ℕ) → i < n → drawn_tiling plan (k + i + p) lane ≡ drawn_tiling plan (k + i) lane) → k + p + n ≤ length blocks
    → tags_of_blocks blocks (k + p) n y ≡ tags_of_blocks blocks k n y
blocks_alike plan lane y p k zero blocks are same within = refl
blocks_alike plan lane y p k (suc n) blocks are same within =
    let here : k + p + n ≡ k + n + p = omega arith in
    ap₂ (λ a b. a ++ b) (blocks_alike plan lane y p k n blocks are (λ i lt. same i (omega (arith, lt))) (omega (arith, within)))
    (ap (λ s. map tag_of (bare_row s y))
    (stands plan lane blocks are (k + p + n) (omega (arith, within)) ∙ ap (λ m. drawn_tiling plan m lane) here ∙ same n (omega arith)
    ∙ sym (stands plan lane blocks are (k + n) (omega (arith, within)))))

figure_again : (plan : Plan) (lane y p k q : ℕ) (blocks : List Stretch) → AreBlocks plan lane blocks
    → ((i : ℕ) → i + p < p * suc q → drawn_tiling plan (k + i + p) lane ≡ drawn_tiling plan (k + i) lane) → k + p * suc q ≤ length blocks
    → repeated q (tags_of_blocks blocks (k + p) p y) ≡ repeated q (tags_of_blocks blocks k p y)
figure_again plan lane y p k zero blocks are again within = refl
figure_again plan lane y p k (suc q) blocks are again within =
    let two : p * suc (suc q) ≡ p + (p + p * q) = omega (arith, mul-suc p (suc q), mul-suc p q) in
    ap (repeated (suc q))
    (blocks_alike plan lane y p k p blocks are (λ i lt. again i (omega (arith, lt, two))) (omega (arith, within, two)))

-- and the rest of a row with those of blocks that stand again and again
figures_from : (plan : Plan) (y p k q : ℕ) (blocks : List Stretch) → IsDark plan y → AreBlocks plan (y / 16) blocks → 32 * length blocks ≤ (size_of plan).0
    → ((i : ℕ) → i + p < p * q → drawn_tiling plan (k + i + p) (y / 16) ≡ drawn_tiling plan (k + i) (y / 16)) → k + p * q ≤ length blocks
    → map tag_of (drop (32 * k) (start_row plan y))
    ≡ repeated q (tags_of_blocks blocks k p (y % 16)) ++ map tag_of (drop (32 * (k + p * q)) (start_row plan y))
figures_from plan y p k zero blocks dark are inside again within =
    let here : k ≡ k + p * 0 = omega (arith, mul-zero p) in ap (λ m. map tag_of (drop (32 * m) (start_row plan y))) here
figures_from plan y p k (suc q) blocks dark are inside again within =
    let row : List State = start_row plan y in
    let tags : List ℕ = tags_of_blocks blocks k p (y % 16) in
    let more : p * suc q ≡ p + p * q = omega (arith, mul-suc p q) in
    let end : k + p + p * q ≡ k + p * suc q = omega (arith, more) in
    blocks_next plan y k p blocks dark are (omega (arith, within, more)) inside
    ∙ ap (λ l. tags ++ l)
    (figures_from plan y p (k + p) q blocks dark are inside east (omega (arith, within, more))
    ∙ ap₂ (λ tags m. tags ++ map tag_of (drop (32 * m) row)) (figure_again plan (y / 16) (y % 16) p k q blocks are again within) end)
    ∙ sym (append_assoc tags (repeated q tags) (map tag_of (drop (32 * (k + p * suc q)) row)))
  where
    east : (i : ℕ) → i + p < p * q → drawn_tiling plan (k + p + i + p) (y / 16) ≡ drawn_tiling plan (k + p + i) (y / 16)
    east i lt =
        let here : k + p + i + p ≡ k + (p + i) + p = omega arith in
        let west : k + (p + i) ≡ k + p + i = omega arith in
        ap (λ m. drawn_tiling plan m (y / 16)) here ∙ again (p + i) (omega (arith, lt, mul-suc p q)) ∙ ap (λ m. drawn_tiling plan m (y / 16)) west

pub figures_next : (plan : Plan) (y p k q : ℕ) (blocks : List Stretch) → IsDark plan y → AreBlocks plan (y / 16) blocks → 32 * length blocks ≤ (size_of plan).0
    → IsFigure plan (y / 16) (length blocks) k p q
    → map tag_of (drop (32 * k) (start_row plan y))
    ≡ repeated q (tags_of_blocks blocks k p (y % 16)) ++ map tag_of (drop (32 * (k + p * q)) (start_row plan y))
figures_next plan y p k q blocks dark are inside is = figures_from plan y p k q blocks dark are inside is.again is.within

-- one block that stands once has the tags of its row
pub one_row : (blocks : List Stretch) (k p q y : ℕ) (tags : List ℕ) → p ≡ 1 → q ≡ 1
    → tags ≡ map tag_of (bare_row (slot_of (get_or blocks k no_stretch).slot) y) → repeated q (tags_of_blocks blocks k p y) ≡ tags
one_row blocks k p q y tags one once are =
    let here : k + 0 ≡ k = omega arith in
    ap₂ (λ q p. repeated q (tags_of_blocks blocks k p y)) once one
    ∙ append-nil (map tag_of (bare_row (slot_of (get_or blocks (k + 0) no_stretch).slot) y))
    ∙ ap (λ m. map tag_of (bare_row (slot_of (get_or blocks m no_stretch).slot) y)) here ∙ sym are

-- the blocks that stand again and again lie among the kept ones, and they are some
pub figure_inside : (plan : Plan) (lane size k figure often : ℕ) → IsFigure plan lane size k figure often → k + figure ≤ size
figure_inside plan lane size k figure zero is = absurd (omega (arith, is.once))
figure_inside plan lane size k figure (suc q) is = omega (arith, is.within, mul-suc figure q)

pub figure_some : (plan : Plan) (lane size k figure often : ℕ) → IsFigure plan lane size k figure often → 1 ≤ figure * often
figure_some plan lane size k figure zero is = absurd (omega (arith, is.once))
figure_some plan lane size k figure (suc q) is = omega (arith, is.some, mul-suc figure q)

-- they have so many cells
pub cells_long : (plan : Plan) (y x z : ℕ) (tags : List ℕ) → x ≤ z → z ≤ (size_of plan).0
    → map tag_of (drop x (start_row plan y)) ≡ tags ++ map tag_of (drop z (start_row plan y)) → x + length tags ≡ z
cells_long plan y x z tags le inside e =
    let row : List State = start_row plan y in
    let all : length (map tag_of (drop x row)) ≡ length tags + length (map tag_of (drop z row)) = ap length e ∙ length-append tags (map tag_of (drop z row)) in
    omega (arith, le, inside, all, length-map (drop x row) tag_of, length-map (drop z row) tag_of, length-drop x row, length-drop z row, row_long plan y)
