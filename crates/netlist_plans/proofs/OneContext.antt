-- The plan of a flat netlist, as that of one of so many contexts.
use Rattle.std.proofs.Common.{ℕ, ◌≡◌, ◌≢◌, ◌+◌, ◌-◌, ◌*◌, ◌==◌, cond, refl, sym, ap, ◌∙◌, subst, Bool, true, false, List, [], ◌∷◌, arith}
use Rattle.std.proofs.lemmas.Bool.{eqb-false}
use Rattle.std.proofs.lemmas.List.{append-nil, length-map}
use Rattle.lane_core.specs.declared.plan.Plan.{Plan}
use Rattle.latch_loops.specs.Closed.{contexts_size}
use Rattle.netlist_core.specs.declared.flat.Flat.{Flat}
use Rattle.netlist_core.specs.declared.flat.FlatLatch.{FlatLatch}
use Rattle.netlist_meaning.specs.FlatValuation.{start_bits}
use Rattle.cell_core.specs.Loops.{names_one}
use Rattle.netlist_plans.specs.Contexts.{IsPaddedFor, StartsLoops, loop_starting_bits}
use Rattle.netlist_plans.specs.Planned.{ComputesCells}
use Rattle.netlist_plans.proofs.Several.{bits_alike}

-- no columns are added,
one_needs_none : (loops : ℕ) → contexts_size loops 1 ≡ 0
one_needs_none loops = go (loops == 0) refl
  where
    go : (b : Bool) → (loops == 0) ≡ b → cond b 0 (1 - 4 * loops) ≡ 0
    go true e = refl
    go false e = let not_zero : loops ≢ 0 = eqb-false loops 0 e in omega (arith, not_zero)

pub unpadded : (plan : Plan) → IsPaddedFor 1 plan plan
unpadded plan = record {
  lanes = refl;
  latches = refl;
  ins = refl;
  outs = refl;
  nets = refl;
  columns = record {
    more = [];
    is = sym (append-nil plan.columns);
    empty = λ i d lt. absurd (omega (arith, lt));
    count = omega (arith, one_needs_none plan.latches);
  };
  tape = refl;
}

-- and the loops start with the bits of the latches, and 1 for constant 1
pub starts_with_latches : (flat : Flat) (plan : Plan) → ComputesCells flat plan → StartsLoops plan (loop_starting_bits plan (start_bits flat) ∷ [])
starts_with_latches flat plan h =
    subst (λ (bits : List Bool). StartsLoops plan (bits ∷ []))
    (sym (bits_alike h.list plan (start_bits flat) (h.loops ∙ ap (λ (n : ℕ). n + cond (names_one h.list) 1 0) (sym (length-map flat.latches (λ (latch : FlatLatch). latch.init == 1))))))
    h.starts
