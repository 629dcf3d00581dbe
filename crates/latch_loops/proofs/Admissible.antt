-- A closed plan is admissible, and does what its program does.
use Rattle.std.proofs.Common.{◌≡◌, sym, ◌∙◌, ap, ap₂, subst, ℕ, zero, suc, ◌+◌, ◌-◌, ◌<◌, ◌≤◌, ◌^◌, max, min, Bool, true, false, cond, List, [], ◌∷◌, length, take, map, All, Option, Some, None, inl, arith}
use Rattle.std.specs.Prelude.{◌==◌}
use Rattle.std.proofs.lemmas.List.{get_or-map}
use Rattle.std.proofs.lemmas.List.Elements.{All-nil, All-cons, All-head, All-tail, All-append}
use Rattle.std.proofs.lemmas.List.Sorted.{All-permutation}
use Rattle.std.specs.Option.{ForSome}
use Rattle.lane_core.specs.declared.instr.Instr.{Instr}
use Rattle.lane_core.specs.declared.instr.Column.{Column}
use Rattle.lane_core.specs.declared.plan.NetPlace.{NetPlace}
use Rattle.lane_core.specs.declared.plan.Program.{Program}
use Rattle.lane_core.specs.declared.plan.Plan.{Plan}
use Rattle.lane_core.specs.Instrs.{IsOnLanes, bit_on}
use Rattle.lane_core.specs.Columns.{after_columns, IsColumnOnLanes}
use Rattle.lane_core.specs.Entering.{bits_after}
use Rattle.lane_core.specs.Places.{AreDistinctBelow, IsPlaceWithin}
use Rattle.lane_core.specs.Plans.{IsAdmissible}
use Rattle.lane_core.specs.Tape.{cycles_of, AreTapeLists, HasFittingTape}
use Rattle.column_packer.specs.Numbers.{used_by, column_numbers, numbered, column_instrs}
use Rattle.column_packer.specs.Packing.{instrs_in, IsPacked}
use Rattle.column_packer.proofs.Packed.{packed_same}
use Rattle.latch_loops.specs.Places.{last_of, column_of_place, closed_place}
use Rattle.latch_loops.specs.Closed.{IsPadded, contexts_size, least_size, IsClosed, DoesAsProgram}
use Rattle.latch_loops.proofs.Padding.{small_size, padded_after, empty_on_lanes}
use Rattle.latch_loops.proofs.Uses.{used_in_columns, place_bits}
use Rattle.lane_core.proofs.Lookup.{columns_apart as all_apart}

all_of : (b : Bool) (P : Instr → Type 0) (x : Instr) (rest : List Instr) → P x → All P rest → All P (cond b (x ∷ rest) rest)
all_of true P x rest p all = All-cons P x rest p all
all_of false P x rest p all = all

all_numbered : (P : Instr → Type 0) (c : ℕ) (ns : List ℕ) (xs : List Instr) → All P xs → All P (numbered c ns xs)
all_numbered P c [] xs all = All-nil P
all_numbered P c (n ∷ ns) [] all = All-nil P
all_numbered P c (n ∷ ns) (x ∷ xs) all = all_of (n == c) P x (numbered c ns xs) (All-head P x xs all) (all_numbered P c ns xs (All-tail P x xs all))

columns_on_lanes : (lanes : ℕ) (instrs : List Instr) (columns : List Column) → IsPacked instrs columns → All (IsOnLanes lanes) instrs → All (IsColumnOnLanes lanes) columns
columns_on_lanes lanes instrs columns p all c d within =
    subst (All (IsOnLanes lanes)) (get_or-map (λ (column : Column). column.instrs) columns c d [] within)
    (All-permutation (IsOnLanes lanes) (column_instrs instrs c) (instrs_in columns c) (p.each c) (all_numbered (IsOnLanes lanes) c (column_numbers instrs) instrs all))

padded_on_lanes : (lanes least : ℕ) (instrs : List Instr) (columns padded : List Column) → IsPacked instrs columns → IsPadded least columns padded → All (IsOnLanes lanes) instrs → All (IsColumnOnLanes lanes) padded
padded_on_lanes lanes least instrs columns padded k p all =
    subst (All (IsColumnOnLanes lanes)) (sym p.is)
    (All-append (IsColumnOnLanes lanes) columns p.more (columns_on_lanes lanes instrs columns k all) (empty_on_lanes lanes p.more p.empty))

-- without lanes there are no instructions, and so no columns
no_columns : (instrs : List Instr) (columns : List Column) → IsPacked instrs columns → All (IsOnLanes 0) instrs → length columns ≡ 0
no_columns [] columns k all = k.count
no_columns (x ∷ xs) columns k all = absurd (omega (arith, All-head (IsOnLanes 0) x xs all))

last_below : (used n : ℕ) → used ≤ n → ForSome (last_of used) (λ c. c < n)
last_below zero n low = λ x e. cc
last_below (suc c) n low = λ x e. (let same : c ≡ x = cc in omega (arith, same, low))

after_below : (instrs : List Instr) (columns : List Column) → IsPacked instrs columns → (lane n : ℕ) → length columns ≤ n → (after : Option ℕ) → ForSome (column_of_place instrs lane after) (λ c. c < n)
after_below instrs columns k lane n low None = λ x e. cc
after_below instrs columns k lane n low (Some m) = last_below (used_by (take (m + 1) instrs) lane) n (omega (arith, used_in_columns instrs columns k (m + 1) lane, low))

places_within : (instrs : List Instr) (columns : List Column) → IsPacked instrs columns → (lanes n : ℕ) → length columns ≤ n → (places : List NetPlace) → All (IsPlaceWithin lanes (length instrs)) places
    → All (IsPlaceWithin lanes n) (map (closed_place instrs) places)
places_within instrs columns k lanes n low [] all = All-nil (IsPlaceWithin lanes n)
places_within instrs columns k lanes n low (place ∷ places) all =
    All-cons (IsPlaceWithin lanes n) (closed_place instrs place) (map (closed_place instrs) places)
    (record { lane = (All-head (IsPlaceWithin lanes (length instrs)) place places all).lane; after = after_below instrs columns k place.lane n low place.after })
    (places_within instrs columns k lanes n low places (All-tail (IsPlaceWithin lanes (length instrs)) place places all))

pub does_as_program : (program : Program) (columns : List Column) (plan : Plan) → IsPacked program.instrs columns → IsClosed program columns 0 plan → DoesAsProgram program plan
does_as_program program columns plan k c = record {
  end = λ bits. padded_after (least_size program 0) columns plan.columns c.padded bits ∙ packed_same program.instrs columns k bits;
  nets = λ bits.
      ap (map (λ place. bit_on (bits_after after_columns plan.columns place.after bits) place.lane)) c.nets
      ∙ place_bits (least_size program 0) program.instrs columns plan.columns k c.padded bits program.nets;
}

-- a plan without a tape fits
no_tape : (plan : Plan) → plan.tape ≡ [] → HasFittingTape plan
no_tape plan none = record {
  each_input = inl none;
  lists = subst AreTapeLists (sym none) (record { range = All-nil (λ bits. (1 ≤ length bits) × (length bits ≤ 4096)); alike = All-nil (λ bits. length bits ≡ cycles_of []) });
}

pub closed_admissible : (program : Program) (columns : List Column) (plan : Plan) → program.lanes < 2 ^ 32 → length columns < 2 ^ 40 → IsPacked program.instrs columns → IsClosed program columns 0 plan → IsAdmissible plan
closed_admissible program columns plan small few k c = record {
  size = record {
    lanes = omega (arith, small, c.lanes);
    columns = omega (arith, count, few, small, loops);
    both = (λ none. omega (arith, count, none, c.lanes, loops, without none), λ none. omega (arith, count, none, c.lanes));
    loops_on_lanes = omega (arith, loops, c.latches, c.lanes);
    loops_in_columns = omega (arith, count, c.latches);
  };
  instrs = subst (λ n. All (IsColumnOnLanes n) plan.columns) (sym c.lanes)
      (padded_on_lanes program.lanes (least_size program 0) program.instrs columns plan.columns k c.padded program.instrs_fit);
  apart = all_apart plan.columns;
  ins = subst (AreDistinctBelow (plan.lanes - plan.latches)) (sym c.ins) (subst (λ n. AreDistinctBelow n program.ins) free program.ins_fit);
  outs = subst (AreDistinctBelow (plan.lanes - plan.latches)) (sym c.outs) (subst (λ n. AreDistinctBelow n program.outs) free program.outs_fit);
  nets = subst (All (IsPlaceWithin plan.lanes (length plan.columns))) (sym c.nets)
      (subst (λ n. All (IsPlaceWithin n (length plan.columns)) (map (closed_place program.instrs) program.nets)) (sym c.lanes)
      (places_within program.instrs columns k program.lanes (length plan.columns) (omega (arith, count)) program.nets program.nets_fit));
  tape = no_tape plan c.tape;
}
  where
    none : contexts_size (length program.latches) 0 ≡ 0
    none = small_size (length program.latches) 0 (omega arith)

    count : length plan.columns ≡ max (max (length program.latches) (min program.lanes 1)) (length columns)
    count = omega (arith, c.padded.count, none)

    loops : length program.latches ≤ program.lanes
    loops = program.loops_fit

    without : plan.lanes ≡ 0 → length columns ≡ 0
    without none = no_columns program.instrs columns k (subst (λ n. All (IsOnLanes n) program.instrs) (sym c.lanes ∙ none) program.instrs_fit)

    free : program.lanes - length program.latches ≡ plan.lanes - plan.latches
    free = ap₂ (λ a b. a - b) (sym c.lanes) (sym c.latches)
