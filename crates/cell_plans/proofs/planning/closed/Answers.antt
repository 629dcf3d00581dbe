use Rattle.std.proofs.Common.{rules, ◌≡◌, ◌∙◌, ap, sym, subst, ◌+◌, ◌*◌, ◌≤◌, Bool, List, [], ◌∷◌, length, max, min, arith}
use Rattle.cell_core.specs.Loops.{loop_count}
use Rattle.plan_layout.specs.Starts.{start_edges}
use Rattle.plan_waves.specs.Contexts.{StartsContexts}
use Rattle.latch_loops.specs.Closed.{least_size}
use Rattle.latch_loops.proofs.Limits.{one_fits, count_is}
use Rattle.latch_loops.proofs.Cells.{closing_keeps_cells}
use Rattle.cell_plans.specs.Counts.{instr_count}
use Rattle.row_placer.specs.Entries.{AreAtEntries}
use Rattle.cell_plans.proofs.Counted.{few_instrs}
use Rattle.cell_plans.proofs.Exits.{at_exits, still_at_entries}
use Rattle.cell_plans.proofs.Single.{one_long}
use Rattle.cell_plans.proofs.planning.closed.Goals as goal

pub close-requires-clause-fit : goal.close-requires-clause-fit
close-requires-clause-fit c = omega (arith, c.from_ref.ensures.len, one_fits c.in_ok-columns.columns.items c.args.program.now)

pub close-requires-clause-long : goal.close-requires-clause-long
close-requires-clause-long c = one_long c.args.program.now.latches c.from_ref.result.now c.from_ref.ensures.value

pub close-requires-clause-fewer : goal.close-requires-clause-fewer
close-requires-clause-fewer c more = absurd (omega (arith, more, c.from_ref.ensures.len))

pub returns : goal.returns
returns c =
    let list = c.args.list.now in
    let program = c.args.program.now in
    let plan = c.in_ok-plan.plan in
    let starts = c.from_ref.result.now in
    let columns = c.in_ok-columns.columns.items in
    let closed = c.in_ok-plan.ensures.closed in
    let few = few_instrs program.instrs (least_size program (length starts)) columns plan.columns c.in_ok-columns.ensures.packed closed.padded in
    let count : length plan.columns ≡ max (max (length program.latches) (min program.lanes 1)) (length columns) = count_is program columns (length starts) plan (omega (arith, c.from_ref.ensures.len)) closed in
    record {
      admissible = c.in_ok-plan.ensures.admissible;
      bare = closed.tape;
      edges = c.in_ok-plan.ensures.edges;
      starts = subst (λ (s : List (List Bool)). StartsContexts plan s (start_edges plan)) (c.from_ref.ensures.value ∙ ap (λ (bits : List Bool). bits ∷ []) c.requires.placed.computes.starts) c.in_ok-plan.ensures.contexts;
      computes = closing_keeps_cells list program columns (length starts) plan closed c.in_ok-plan.ensures.same c.requires.placed.computes;
      lanes = search rules;
      empty = λ (none : list.inputs + loop_count list + length list.cells + length list.outs + length list.nets ≡ 0).
          (let least = c.requires.placed.empty none in omega (arith, none, least, closed.lanes));
      instrs = subst (λ lanes. instr_count plan.columns ≤ (3 * length list.cells + length list.outs + 2 * loop_count list) * lanes) (sym closed.lanes) (omega (arith, few, c.requires.placed.instrs));
      columns = search rules;
      entries = subst (λ lanes. AreAtEntries list lanes plan.ins plan.nets) (sym closed.lanes) (subst (λ ins. AreAtEntries list program.lanes ins plan.nets) (sym closed.ins)
          (still_at_entries list program.lanes program.ins program.instrs program.nets plan.nets closed.nets c.requires.placed.entries));
      exits = at_exits list (least_size program (length starts)) program.instrs columns plan.columns program.nets plan.nets c.in_ok-columns.ensures.packed closed.padded
          c.requires.placed.entries.long closed.nets c.requires.placed.made;
    }
