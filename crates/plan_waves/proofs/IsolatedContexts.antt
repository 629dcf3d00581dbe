-- What is shown of a context depends on its own injections alone.
use Rattle.std.proofs.Common.{◌≡◌, refl, sym, ◌∙◌, ap, pos, ℕ, ◌+◌, ◌*◌, ◌<◌, ◌≤◌, Bool, true, List, [], length, get_or, arith}
use Rattle.std.specs.Prelude.{◌↔◌, slice_index}
use Rattle.ww_rule.specs.declared.pattern.State.TheVariants.{Head}
use Rattle.ww_rule.specs.Wireworld.{Plane, Due, driven}
use Rattle.ww_rule.proofs.Contexts.{one_context}
use Rattle.tile_core.specs.declared.kind.Kind.{Kind}
use Rattle.tile_core.specs.Drawing.{Drawing}
use Rattle.tiling.specs.Tiling.{Lit}
use Rattle.tiling.specs.Steps.{KeepsLaw}
use Rattle.lane_core.specs.declared.plan.Plan.{Plan}
use Rattle.lane_core.specs.Instrs.{bit_on}
use Rattle.lane_core.specs.Columns.{after_columns}
use Rattle.lane_core.specs.Plans.{IsAdmissible, period_of, out_cell_of, net_place, net_cell_of}
use Rattle.lane_core.specs.Entering.{bits_after}
use Rattle.plan_layout.specs.Planes.{plane_with}
use Rattle.plan_waves.proofs.CycleTiles.{period_is, same_entering}
use Rattle.plan_waves.specs.Contexts.{StartsContexts, DrivesContexts, injected_in, context_bits}
use Rattle.plan_waves.specs.ShownContexts.{ShowsEachContext, ShowsContextBits, IsIsolated}
use Rattle.plan_waves.proofs.RunningContexts.{contexts_in_cycle}
use Rattle.plan_waves.proofs.ShownContexts.{plans_show_contexts}

-- at a generation of a cycle of a context the cell is a head exactly where that cycle's bit is 1
pub shown_alone : (contexts period : ℕ) (plane : ℕ → Plane) (cell : ℕ × ℕ × ℕ) (bit : ℕ → ℕ → Bool) → 32 * contexts ≤ period → ShowsEachContext contexts period plane cell bit
    → (c t : ℕ) → c < contexts → (plane (cell.2 + 32 * c + t * period) (pos cell.0) (pos cell.1) ≡ Head) ↔ (bit c t ≡ true)
shown_alone contexts period plane cell bit apart shows c t among = (
  λ head. (let f = (shows (cell.2 + 32 * c + t * period)).0 head in
      let same = one_context period f.0 f.1 c t (omega (arith, f.2, apart)) (omega (arith, among, apart)) (omega (arith, f.3)) in
      ap (λ n. bit n t) (sym same.0) ∙ ap (bit f.0) (sym same.1) ∙ f.4),
  λ one. (shows (cell.2 + 32 * c + t * period)).1 (c, t, among, refl, one),
)

pub contexts_apart : (plan : Plan) (starts : List (List Bool)) (lit : Lit) → StartsContexts plan starts lit → 32 * length starts ≤ period_of plan
contexts_apart plan starts lit s = omega (arith, s.fit, contexts_in_cycle plan, period_is plan)

pub contexts_are_isolated : (library : Kind → Drawing) → KeepsLaw library → (plan : Plan) → IsAdmissible plan → (starts : List (List Bool)) (lit : Lit) → StartsContexts plan starts lit
    → (due other : Due) → DrivesContexts plan (length starts) due → DrivesContexts plan (length starts) other
    → (c : ℕ) → c < length starts → ((t : ℕ) → injected_in plan due c t ≡ injected_in plan other c t)
    → IsIsolated library plan lit due other c
contexts_are_isolated library law plan h starts lit s due other d d' c among agree = record {
  outs = λ i within t. both (out_cell_of plan i) (λ k u. bit_on (after_columns plan.columns (context_bits plan due starts k u)) (slice_index plan.outs i))
      (λ k u. bit_on (after_columns plan.columns (context_bits plan other starts k u)) (slice_index plan.outs i))
      (first.outs i within) (second.outs i within) t (ap (λ bits. bit_on (after_columns plan.columns bits) (slice_index plan.outs i)) (same_bits t));
  nets = λ i within t. both (net_cell_of plan i) (λ k u. bit_on (bits_after after_columns plan.columns (net_place plan i).after (context_bits plan due starts k u)) (net_place plan i).lane)
      (λ k u. bit_on (bits_after after_columns plan.columns (net_place plan i).after (context_bits plan other starts k u)) (net_place plan i).lane)
      (first.nets i within) (second.nets i within) t (ap (λ bits. bit_on (bits_after after_columns plan.columns (net_place plan i).after bits) (net_place plan i).lane) (same_bits t));
}
  where
    first : ShowsContextBits library plan lit due (length starts) (context_bits plan due starts)
    first = plans_show_contexts library law plan h due starts lit d s

    second : ShowsContextBits library plan lit other (length starts) (context_bits plan other starts)
    second = plans_show_contexts library law plan h other starts lit d' s

    same_bits : (t : ℕ) → context_bits plan due starts c t ≡ context_bits plan other starts c t
    same_bits t = same_entering plan (injected_in plan due c) (injected_in plan other c) (get_or starts c []) (get_or starts c []) agree refl t

    both : (cell : ℕ × ℕ × ℕ) (bit bit' : ℕ → ℕ → Bool)
        → ShowsEachContext (length starts) (period_of plan) (driven due (plane_with library plan lit)) cell bit
        → ShowsEachContext (length starts) (period_of plan) (driven other (plane_with library plan lit)) cell bit'
        → (t : ℕ) → bit c t ≡ bit' c t
        → (driven due (plane_with library plan lit) (cell.2 + 32 * c + t * period_of plan) (pos cell.0) (pos cell.1) ≡ Head)
        ↔ (driven other (plane_with library plan lit) (cell.2 + 32 * c + t * period_of plan) (pos cell.0) (pos cell.1) ≡ Head)
    both cell bit bit' shows shows' t same =
        let here = shown_alone (length starts) (period_of plan) (driven due (plane_with library plan lit)) cell bit (contexts_apart plan starts lit s) shows c t among in
        let there = shown_alone (length starts) (period_of plan) (driven other (plane_with library plan lit)) cell bit' (contexts_apart plan starts lit s) shows' c t among in (
          λ head. there.1 (sym same ∙ here.0 head),
          λ head. here.1 (same ∙ there.0 head),
        )
