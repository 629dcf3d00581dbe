-- How small a plan is, by the weight of the flat netlist.
use Rattle.std.proofs.Common.{◌≡◌, sym, ◌∙◌, ap, subst, ℕ, ◌+◌, ◌*◌, ◌<◌, ◌≤◌, Bool, false, true≢false, cond, List, [], ◌∷◌, length, arith}
use Rattle.std.specs.Prelude.{◌==◌, ◌^◌, max}
use Rattle.std.proofs.lemmas.Bool.{false_from_ne_true}
use Rattle.std.proofs.lemmas.List.{length-map}
use Rattle.std.proofs.Math.Nat.{mul-le-mul, mul-mul-mul_comm}
use Rattle.lists.proofs.Numbers.{at_most_one}
use Rattle.lists.specs.Items.{one_if}
use Rattle.lane_core.specs.declared.plan.Plan.{Plan}
use Rattle.lane_core.specs.Plans.{IsAdmissible, period_of}
use Rattle.netlist_core.specs.declared.flat.Flat.{Flat}
use Rattle.netlist_core.specs.declared.flat.FlatPort.{FlatPort}
use Rattle.netlist_meaning.specs.Flat.{IsWeighed, class_of, port_classes}
use Rattle.cell_core.specs.declared.list.CellList.{CellList}
use Rattle.plan_layout.specs.Starts.{start_edges}
use Rattle.plan_waves.specs.Contexts.{StartsContexts}
use Rattle.cell_core.specs.Loops.{names_one, loop_state, loop_count}
use Rattle.cell_meaning.specs.Computes.{ComputesByPlan}
use Rattle.cell_meaning.specs.Mapped.{IsMapped}
use Rattle.cell_meaning.specs.Needs.{any_needs_one}
use Rattle.cell_plans.specs.Counts.{instr_count}
use Rattle.cell_plans.specs.Exits.{AreAtExits}
use Rattle.row_placer.specs.Entries.{AreAtEntries}
use Rattle.netlist_plans.specs.Planned.{ComputesCells, IsSmall}

square : (a b s : ℕ) → a ≤ 6 * s → b ≤ 6 * s → a * b ≤ 256 * (s * s)
square a b s low few =
    let all : a * b ≤ (6 * s) * (6 * s) = mul-le-mul low few in
    omega (arith, all, mul-mul-mul_comm 6 s 6 s)

fewer : (n lanes : ℕ) → n * lanes ≤ (n + 1) * (lanes + 1)
fewer n lanes = mul-le-mul (let e : n ≤ n + 1 = omega arith in e) (let e : lanes ≤ lanes + 1 = omega arith in e)

module _ (flat : Flat) (list : CellList) (m : IsMapped flat list) (w : IsWeighed flat) where
  pub outs_many : length list.outs ≡ length flat.outs
  outs_many = ap length m.outs ∙ length-map (port_classes flat flat.outs) m.sources ∙ length-map flat.outs (λ (port : FlatPort). class_of flat port.net)

  pub starts_many : length list.starts ≡ length flat.latches
  starts_many = ap length m.starts ∙ length-map flat.latches _

  pub list_fits : flat.weight < 2 ^ 16 → list.inputs + loop_count list + length list.outs + length list.cells < 2 ^ 18
  list_fits small = omega (arith, small, m.inputs, outs_many, starts_many, at_most_one (names_one list), m.few, w.parts)

  pub none_named : any_needs_one flat ≡ false → names_one list ≡ false
  none_named e = false_from_ne_true (names_one list) (λ n. true≢false (sym (m.one n) ∙ e))

  module _ (plan : Plan) (h : IsAdmissible plan) (c : ComputesByPlan list plan) where
    pub loops_many : plan.latches ≡ length list.starts + cond (names_one list) 1 0
    loops_many = c.loops

    no_more : any_needs_one flat ≡ false → plan.latches ≡ length flat.latches
    no_more e =
        let none : one_if (names_one list) ≡ 0 = ap one_if (none_named e) in
        omega (arith, loops_many, starts_many, none)

    pub is_small : plan.lanes ≤ list.inputs + 2 * loop_count list + length list.outs + length list.cells + 2 + max list.inputs (length list.outs)
        → length plan.columns ≤ (3 * length list.cells + length list.outs + 2 * loop_count list + 1) * (plan.lanes + 1)
        → instr_count plan.columns ≤ (3 * length list.cells + length list.outs + 2 * loop_count list) * plan.lanes → IsSmall flat plan
    is_small lanes columns instrs =
        let wide : plan.lanes ≤ 2 * flat.weight + 4 = omega (arith, lanes, m.inputs, outs_many, starts_many, at_most_one (names_one list), m.few, w.parts) in
        let long : 3 * length list.cells + length list.outs + 2 * loop_count list + 1 ≤ 6 * (flat.weight + 1) =
        omega (arith, m.inputs, outs_many, starts_many, at_most_one (names_one list), m.few, w.parts) in
        let all = square (3 * length list.cells + length list.outs + 2 * loop_count list + 1) (plan.lanes + 1) (flat.weight + 1) long (omega (arith, wide)) in
        record {
          lanes = omega (arith, wide);
          columns = omega (arith, columns, all);
          instrs = omega (arith, instrs, fewer (3 * length list.cells + length list.outs + 2 * loop_count list) plan.lanes, all);
          loops = omega (arith, loops_many, starts_many, at_most_one (names_one list));
          no_more_loops = no_more;
        }

    pub short_period : length flat.latches ≡ 0 → any_needs_one flat ≡ false → period_of plan ≡ 32
    short_period none e = ap (λ n. cond (n == 0) 32 (32 * (2 * length plan.columns + 4 * n))) (no_more e ∙ none)

    pub computes_cells : StartsContexts plan (loop_state list list.starts ∷ []) (start_edges plan) → AreAtEntries list plan.lanes plan.ins plan.nets → AreAtExits list plan.columns plan.nets → ComputesCells flat plan
    computes_cells starts entries exits = record {
      list = list;
      mapped = m;
      computes = c;
      entries = entries;
      exits = exits;
      loops = omega (arith, loops_many, starts_many);
      starts = subst (λ (bits : List Bool). StartsContexts plan (bits ∷ []) (start_edges plan)) (ap (loop_state list) m.starts) starts;
    }
