-- The stretches of a lane's blocks, from east to west.
use Rattle.std.proofs.Common.{◌≡◌, ◌∙◌, sym, ap, subst, inl, inr, ℕ, zero, suc, Bool, IsTrue, None, ◌+◌, ◌<◌, ◌≤◌, List, set, take, length, get_or, arith, ◌*◌, min, replicate, length-take}
use Rattle.std.proofs.lemmas.Bool.{cases_lt}
use Rattle.std.proofs.lemmas.Bool.Decides.{eqb_tells}
use Rattle.std.proofs.lemmas.List.{length-set, get_or-set_same, get_or-set_other, get_or-take, get_or-replicate, length-replicate}
use Rattle.lane_core.specs.declared.plan.Plan.{Plan}
use Rattle.plan_layout.specs.declared.slot.Slot.{Slot}
use Rattle.plan_layout.specs.Slots.{slot_of}
use Rattle.plan_layout.specs.Tape.{drawn_tiling}
use Rattle.rle_write.specs.declared.blocks.Stretch.{Stretch}
use Rattle.rle_write.specs.declared.body.Below.{Below}
use Rattle.rle_write.specs.Blocks.{IsMotif, IsNextMotif, IsStretch, AreBlocks, AreBlocksFrom, AreKnownBelow, no_stretch}
use Rattle.rle_write.specs.Known.{IsKnownFrom}
use Rattle.rle_write.proofs.KnownLanes.{known_later, known_nothing}

-- a motif of a block alone
motif_alone : (plan : Plan) (lane size k : ℕ) → k < size → IsMotif plan lane size k 1 1
motif_alone plan lane size k inside = record {
  some = omega arith;
  few = omega arith;
  once = omega arith;
  within = omega (arith, inside);
  again = λ i lt. absurd (omega (arith, lt));
}

-- a motif that is longer by a block
motif_longer : (plan : Plan) (lane size k motif : ℕ) → motif < 4 → k + 1 + motif ≤ size → IsMotif plan lane size k (motif + 1) (motif + 1)
motif_longer plan lane size k motif few inside = record {
  some = omega arith;
  few = omega (arith, few);
  once = omega arith;
  within = omega (arith, inside);
  again = λ i lt. absurd (omega (arith, lt));
}

-- a motif that goes on
motif_goes_on : (plan : Plan) (lane size k motif reach more : ℕ) → IsMotif plan lane size (k + 1) motif reach
    → drawn_tiling plan (k + motif) lane ≡ drawn_tiling plan k lane → reach ≤ more → more ≤ reach + 1 → IsMotif plan lane size k motif more
motif_goes_on plan lane size k motif reach more is same least most = record {
  some = is.some;
  few = is.few;
  once = omega (arith, is.once, least);
  within = omega (arith, is.within, most);
  again = each;
}
  where
    each : (i : ℕ) → i + motif < more → drawn_tiling plan (k + i + motif) lane ≡ drawn_tiling plan (k + i) lane
    each zero lt =
        let here : k + 0 + motif ≡ k + motif = omega arith in
        let west : k ≡ k + 0 = omega arith in
        ap (λ n. drawn_tiling plan n lane) here ∙ same ∙ ap (λ n. drawn_tiling plan n lane) west
    each (suc i) lt =
        let here : k + suc i + motif ≡ k + 1 + i + motif = omega arith in
        let west : k + 1 + i ≡ k + suc i = omega arith in
        ap (λ n. drawn_tiling plan n lane) here ∙ is.again i (omega (arith, lt, most)) ∙ ap (λ n. drawn_tiling plan n lane) west

-- the motif of a block, by that east of it
motif_next : (plan : Plan) (lane size k : ℕ) (east : Stretch) (goes_on : Bool) (next : ℕ × ℕ) → IsMotif plan lane size (k + 1) east.motif east.reach
    → (IsTrue goes_on → drawn_tiling plan (k + east.motif) lane ≡ drawn_tiling plan k lane) → IsNextMotif east goes_on next
    → IsMotif plan lane size k next.0 next.1
motif_next plan lane size k east goes_on next is same (inl one) =
    subst (λ (n : ℕ × ℕ). IsMotif plan lane size k n.0 n.1) (sym one) (motif_alone plan lane size k (omega (arith, is.some, is.once, is.within)))
motif_next plan lane size k east goes_on next is same (inr (inl longer)) =
    subst (λ (n : ℕ × ℕ). IsMotif plan lane size k n.0 n.1) (sym longer.0)
    (motif_longer plan lane size k east.motif longer.1.1 (omega (arith, is.within, longer.1.0)))
motif_next plan lane size k east goes_on next is same (inr (inr on)) =
    subst (λ m. IsMotif plan lane size k m next.1) (sym on.1.0)
    (motif_goes_on plan lane size k east.motif east.reach next.1 is (same on.0) on.1.1.0 on.1.1.1)

-- a block alone
pub alone : (plan : Plan) (lane size k : ℕ) (slot : Slot) (below : Below) → k < size → slot_of slot ≡ drawn_tiling plan k lane
    → IsKnownFrom (drawn_tiling plan k) lane slot below
    → IsStretch plan lane size k (record { slot = slot; motif = 1; count = 1; reach = 1; below = below })
alone plan lane size k slot below inside stands known = record {
  some = omega arith;
  within = omega (arith, inside);
  alike = λ i lt. (let here : k ≡ k + i = omega (arith, lt) in stands ∙ ap (λ n. drawn_tiling plan n lane) here);
  repeats = motif_alone plan lane size k inside;
  below = known;
}

-- a block west of a stretch
pub longer : (plan : Plan) (lane size k : ℕ) (slot : Slot) (below : Below) (east : Stretch) (count : ℕ) (goes_on : Bool) (next : ℕ × ℕ) → IsStretch plan lane size (k + 1) east
    → slot_of slot ≡ drawn_tiling plan k lane → IsKnownFrom (drawn_tiling plan k) lane slot below → 1 ≤ count → (2 ≤ count → (slot ≡ east.slot) × (count ≤ east.count + 1))
    → (IsTrue goes_on → drawn_tiling plan (k + east.motif) lane ≡ drawn_tiling plan k lane) → IsNextMotif east goes_on next
    → IsStretch plan lane size k (record { slot = slot; motif = next.0; count = count; reach = next.1; below = below })
longer plan lane size k slot below east count goes_on next is stands known some alike same motif = record {
  some = some;
  within = elim (cases_lt count 2) [
    | inl one ↦ omega (arith, one, is.some, is.within)
    | inr more ↦ omega (arith, more, (alike (omega (arith, more))).1, is.within)
  ];
  alike = each;
  repeats = motif_next plan lane size k east goes_on next is.repeats same motif;
  below = known;
}
  where
    each : (i : ℕ) → i < count → slot_of slot ≡ drawn_tiling plan (k + i) lane
    each zero lt = let here : k ≡ k + 0 = omega arith in stands ∙ ap (λ n. drawn_tiling plan n lane) here
    each (suc i) lt =
        let here : k + 1 + i ≡ k + suc i = omega arith in
        let goes = alike (omega (arith, lt)) in
        ap slot_of goes.0 ∙ is.alike i (omega (arith, lt, goes.1)) ∙ ap (λ n. drawn_tiling plan n lane) here

-- one more block, west of the others
pub blocks_more : (plan : Plan) (lane i : ℕ) (blocks : List Stretch) (stretch : Stretch) → i < length blocks
    → AreBlocksFrom plan lane (i + 1) blocks → IsStretch plan lane (length blocks) i stretch → AreBlocksFrom plan lane i (set blocks i stretch)
blocks_more plan lane i blocks stretch inside east here k from below =
    let new : List Stretch = set blocks i stretch in
    let size : length new ≡ length blocks = length-set blocks i stretch in
    subst (λ n. IsStretch plan lane n k (get_or new k no_stretch)) (sym size)
    (elim (eqb_tells k i) [
      | inl same ↦
          subst (λ k. IsStretch plan lane (length blocks) k (get_or new k no_stretch)) (sym same.1)
          (subst (IsStretch plan lane (length blocks) i) (sym (get_or-set_same blocks i stretch no_stretch inside)) here)
      | inr other ↦
          subst (IsStretch plan lane (length blocks) k) (sym (get_or-set_other blocks i k stretch no_stretch other.1))
          (east k (omega (arith, from, other.1)) (omega (arith, below, size)))
    ])

-- what is known of the blocks below the others, if it is known of one more
pub known_more : (plan : Plan) (lane i : ℕ) (blocks : List Stretch) (stretch : Stretch) → i < length blocks
    → AreKnownBelow plan lane blocks → IsKnownFrom (drawn_tiling plan i) lane stretch.slot stretch.below → AreKnownBelow plan lane (set blocks i stretch)
known_more plan lane i blocks stretch inside known here k within =
    let new : List Stretch = set blocks i stretch in
    let size : length new ≡ length blocks = length-set blocks i stretch in
    elim (eqb_tells k i) [
      | inl same ↦
          subst (λ k. IsKnownFrom (drawn_tiling plan k) lane (get_or new k no_stretch).slot (get_or new k no_stretch).below) (sym same.1)
          (subst (λ (s : Stretch). IsKnownFrom (drawn_tiling plan i) lane s.slot s.below) (sym (get_or-set_same blocks i stretch no_stretch inside)) here)
      | inr other ↦
          subst (λ (s : Stretch). IsKnownFrom (drawn_tiling plan k) lane s.slot s.below) (sym (get_or-set_other blocks i k stretch no_stretch other.1))
          (known k (omega (arith, within, size)))
    ]

-- what is known below the kept blocks of a lane is known on each lane from it on
pub known_below : (plan : Plan) (lane next : ℕ) (blocks : List Stretch) → lane ≤ next → AreBlocks plan lane blocks → AreKnownBelow plan next blocks
known_below plan lane next blocks later are k within =
    known_later (drawn_tiling plan k) lane next _ _ later (are k (omega arith) within).below

-- nothing is known below a block at first
pub known_none : (plan : Plan) (n size : ℕ) (stretch : Stretch) → stretch.below.until ≡ 0 → stretch.below.next ≡ None → AreKnownBelow plan 0 (take n (replicate size stretch))
known_none plan n size stretch none nothing k within =
    let short : length (take n (replicate size stretch)) ≡ min n size = length-take n (replicate size stretch) ∙ ap (min n) (length-replicate size stretch) in
    let here : get_or (take n (replicate size stretch)) k no_stretch ≡ stretch =
    get_or-take n (replicate size stretch) k no_stretch (omega (arith, within, short)) ∙ get_or-replicate size k stretch no_stretch (omega (arith, within, short)) in
    subst (λ (s : Stretch). IsKnownFrom (drawn_tiling plan k) 0 s.slot s.below) (sym here)
    (known_nothing (drawn_tiling plan k) 0 stretch.slot stretch.below none nothing)

-- the first blocks of a list reach no farther than those that there may be
pub few_taken : {A : Type 0} (n width : ℕ) (blocks : List A) → 32 * n ≤ width → 32 * length (take n blocks) ≤ width
few_taken n width blocks inside = omega (arith, inside, length-take n blocks)
