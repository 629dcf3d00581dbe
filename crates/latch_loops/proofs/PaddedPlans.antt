-- A padded plan is admissible, does what the plan does, and has room for the starts.
use Rattle.std.proofs.Common.{◌≡◌, refl, sym, ◌∙◌, ap, ap₂, subst, ℕ, ◌+◌, ◌-◌, ◌*◌, ◌<◌, ◌≤◌, ◌^◌, Bool, ⊎_elim, inl, inr, List, [], ◌∷◌, length, map, All, Option, Some, None, arith}
use Rattle.std.specs.Prelude.{◌==◌}
use Rattle.std.specs.Option.{ForSome}
use Rattle.std.proofs.lemmas.Bool.{cases_eq, cases_lt, cond-true, eq-eqb}
use Rattle.std.proofs.lemmas.List.Elements.{All-head, All-tail, All-append}
use Rattle.lane_core.specs.declared.plan.NetPlace.{NetPlace}
use Rattle.lane_core.specs.declared.plan.Plan.{Plan}
use Rattle.lane_core.specs.Instrs.{bit_on}
use Rattle.lane_core.specs.Columns.{after_columns, IsColumnOnLanes}
use Rattle.lane_core.specs.Entering.{bits_after}
use Rattle.lane_core.specs.Places.{AreDistinctBelow, IsPlaceWithin}
use Rattle.lane_core.specs.Plans.{IsAdmissible}
use Rattle.lane_core.specs.Tape.{AreTapeLists, cycle_tiles}
use Rattle.lane_core.proofs.Lookup.{columns_apart as all_apart}
use Rattle.plan_waves.specs.Waves.{tiles_back}
use Rattle.plan_waves.specs.Contexts.{contexts_on_ways}
use Rattle.plan_waves.proofs.CycleTiles.{tiles_with_loops, tiles_without}
use Rattle.plan_waves.proofs.RunningContexts.{ways_with_loops}
use Rattle.latch_loops.specs.Closed.{contexts_size}
use Rattle.latch_loops.specs.Padded.{IsPaddedPlan, DoesAsPlan}
use Rattle.latch_loops.proofs.Padding.{padded_after, padded_front, empty_on_lanes, size_with_loops, size_without, small_size}

ways_without : (plan : Plan) → plan.latches ≡ 0 → contexts_on_ways plan ≡ 1
ways_without plan none = cond-true (plan.latches == 0) 1 (tiles_back plan) (eq-eqb plan.latches 0 none)

-- the starts lie on the ways back of the padded plan
pub room : (plan padded : Plan) (contexts : ℕ) → contexts ≤ cycle_tiles plan → IsPaddedPlan (contexts_size plan.latches contexts) plan padded → contexts ≤ contexts_on_ways padded
room plan padded contexts fit p =
    ⊎_elim
    (λ none. omega (arith, fit, tiles_without plan none, ways_without padded (p.latches ∙ none)))
    (λ some. omega (arith, ways_with_loops padded (omega (arith, some, p.latches)), size_with_loops plan.latches contexts (omega (arith, some)), p.columns.count, p.latches))
    (cases_eq plan.latches 0)

-- no more than twice as many columns
twice : (plan padded : Plan) (contexts : ℕ) → contexts ≤ cycle_tiles plan → IsPaddedPlan (contexts_size plan.latches contexts) plan padded → length padded.columns ≤ 2 * length plan.columns
twice plan padded contexts fit p =
    ⊎_elim
    (λ none. omega (arith, p.columns.count, size_without plan.latches contexts none))
    (λ some. omega (arith, p.columns.count, size_with_loops plan.latches contexts (omega (arith, some)), fit, tiles_with_loops plan (omega (arith, some))))
    (cases_eq plan.latches 0)

-- and for one context no more at all
few_columns : (plan padded : Plan) (contexts : ℕ) → IsAdmissible plan → (1 < contexts → length plan.columns < 2 ^ 39) → contexts ≤ cycle_tiles plan
    → IsPaddedPlan (contexts_size plan.latches contexts) plan padded → length padded.columns < 2 ^ 40
few_columns plan padded contexts h few fit p =
    ⊎_elim
    (λ more. (let n = few more in omega (arith, n, twice plan padded contexts fit p)))
    (λ one. omega (arith, p.columns.count, small_size plan.latches contexts (omega (arith, one)), h.size.columns))
    (cases_lt 1 contexts)

after_more : (n m : ℕ) → n ≤ m → (after : Option ℕ) → ForSome after (λ step. step < n) → ForSome after (λ step. step < m)
after_more n m low after h = λ step e. omega (arith, h step e, low)

places_more : (lanes n m : ℕ) → n ≤ m → (places : List NetPlace) → All (IsPlaceWithin lanes n) places → All (IsPlaceWithin lanes m) places
places_more lanes n m low places all k d within = record { lane = (all k d within).lane; after = after_more n m low _ (all k d within).after }

pub padded_admissible : (plan padded : Plan) (contexts : ℕ) → (1 < contexts → length plan.columns < 2 ^ 39) → contexts ≤ cycle_tiles plan → IsAdmissible plan
    → IsPaddedPlan (contexts_size plan.latches contexts) plan padded → IsAdmissible padded
padded_admissible plan padded contexts few fit h p = record {
  size = record {
    lanes = omega (arith, h.size.lanes, p.lanes);
    columns = few_columns plan padded contexts h few fit p;
    both = (
      λ none. (let zero : length plan.columns ≡ 0 = h.size.both.0 (sym p.lanes ∙ none) in omega (arith, twice plan padded contexts fit p, zero)),
      λ none. p.lanes ∙ h.size.both.1 (omega (arith, many, none)),
    );
    loops_on_lanes = omega (arith, h.size.loops_on_lanes, p.latches, p.lanes);
    loops_in_columns = omega (arith, h.size.loops_in_columns, p.latches, many);
  };
  instrs = subst (λ n. All (IsColumnOnLanes n) padded.columns) (sym p.lanes)
      (subst (All (IsColumnOnLanes plan.lanes)) (sym p.columns.is) (All-append (IsColumnOnLanes plan.lanes) plan.columns p.columns.more h.instrs (empty_on_lanes plan.lanes p.columns.more p.columns.empty)));
  apart = all_apart padded.columns;
  ins = subst (AreDistinctBelow (padded.lanes - padded.latches)) (sym p.ins) (subst (λ n. AreDistinctBelow n plan.ins) free h.ins);
  outs = subst (AreDistinctBelow (padded.lanes - padded.latches)) (sym p.outs) (subst (λ n. AreDistinctBelow n plan.outs) free h.outs);
  nets = subst (All (IsPlaceWithin padded.lanes (length padded.columns))) (sym p.nets)
      (subst (λ n. All (IsPlaceWithin n (length padded.columns)) plan.nets) (sym p.lanes)
      (places_more plan.lanes (length plan.columns) (length padded.columns) many plan.nets h.nets));
  tape = record {
    each_input = ⊎_elim (λ none. inl (p.tape ∙ none)) (λ each. inr (ap length p.tape ∙ each ∙ ap length (sym p.ins))) h.tape.each_input;
    lists = subst AreTapeLists (sym p.tape) h.tape.lists;
  };
}
  where
    many : length plan.columns ≤ length padded.columns
    many = omega (arith, p.columns.count)

    free : plan.lanes - plan.latches ≡ padded.lanes - padded.latches
    free = ap₂ (λ a b. a - b) (sym p.lanes) (sym p.latches)

-- the bits at a place
at_place : (size : ℕ) (plan padded : Plan) → IsPaddedPlan size plan padded → (bits : List Bool) (after : Option ℕ) → ForSome after (λ step. step < length plan.columns)
    → bits_after after_columns padded.columns after bits ≡ bits_after after_columns plan.columns after bits
at_place size plan padded p bits None within = refl
at_place size plan padded p bits (Some step) within =
    let low : step < length plan.columns = within step refl in
    ap (λ columns. after_columns columns bits) (padded_front size plan.columns padded.columns p.columns (step + 1) (omega (arith, low)))

same_nets : (size : ℕ) (plan padded : Plan) → IsPaddedPlan size plan padded → (bits : List Bool) (places : List NetPlace) → All (IsPlaceWithin plan.lanes (length plan.columns)) places
    → map (λ place. bit_on (bits_after after_columns padded.columns place.after bits) place.lane) places
    ≡ map (λ place. bit_on (bits_after after_columns plan.columns place.after bits) place.lane) places
same_nets size plan padded p bits [] all = refl
same_nets size plan padded p bits (place ∷ places) all =
    ap₂ (λ b bs. b ∷ bs)
    (ap (λ after. bit_on after place.lane) (at_place size plan padded p bits place.after (All-head (IsPlaceWithin plan.lanes (length plan.columns)) place places all).after))
    (same_nets size plan padded p bits places (All-tail (IsPlaceWithin plan.lanes (length plan.columns)) place places all))

pub does_as_plan : (size : ℕ) (plan padded : Plan) → IsAdmissible plan → IsPaddedPlan size plan padded → DoesAsPlan plan padded
does_as_plan size plan padded h p = record {
  end = λ bits. padded_after size plan.columns padded.columns p.columns bits;
  nets = λ bits.
      ap (map (λ place. bit_on (bits_after after_columns padded.columns place.after bits) place.lane)) p.nets
      ∙ same_nets size plan padded p bits plan.nets h.nets;
}
