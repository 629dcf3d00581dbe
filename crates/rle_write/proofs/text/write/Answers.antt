use Rattle.std.proofs.Common.{[], refl}
use Rattle.std.proofs.lemmas.Result.{err_from_is_err_and, on_ok_weaker, on_err_weaker}
use Rattle.grid_assembly.specs.PlanDrawing.{start_grid}
use Rattle.ww_base.specs.Pages.{held}
use Rattle.lists.proofs.Results.{on_err}
use Rattle.ww_base.proofs.Steps.{wrote_then, wrote_broke, wrote_as, wrote_whole, broke_as, front_of, broke_cause, cause_of}
use Rattle.rle_write.specs.Blocks.{no_stretch}
use Rattle.rle_write.proofs.Wholes.{items_text, whole_text}
use Rattle.rle_write.proofs.KeptBlocks.{few_taken, known_none}
use Rattle.rle_write.proofs.text.write.Goals as goal

pub returns-in_err-write_opening : goal.returns-in_err-write_opening
returns-in_err-write_opening g c =
    let grid = start_grid c.args.plan.now in
    let text = whole_text grid c.args.ports.now (held c.new-page.result) c.size-width.result c.new-page.ensures.held c.size-width.ensures.exact in
    let broke = c.in_err-write_opening.ensures.err (items_text grid) in
    record {
      ok = rw (err_from_is_err_and c.from_residual.result c.from_residual.ensures.1).1 tt;
      front = on_err _ (front_of (broke_as text broke));
      cause = broke_cause _ _ c.from_residual.ensures.1 broke;
    }

pub returns-in_err-write_plan_rows : goal.returns-in_err-write_plan_rows
returns-in_err-write_plan_rows g c =
    let grid = start_grid c.args.plan.now in
    let text = whole_text grid c.args.ports.now (held c.new-page.result) c.size-width.result c.new-page.ensures.held c.size-width.ensures.exact in
    let broke = wrote_broke (c.in_ok-write_opening.ensures.ok (items_text grid)) (c.in_err-write_plan_rows.ensures.err []) in
    record {
      ok = rw (err_from_is_err_and c.from_residual-in_err-write_plan_rows.result c.from_residual-in_err-write_plan_rows.ensures.1).1 tt;
      front = on_err _ (front_of (broke_as text broke));
      cause = broke_cause _ _ c.from_residual-in_err-write_plan_rows.ensures.1 broke;
    }

pub returns : goal.returns
returns g c =
    let grid = start_grid c.args.plan.now in
    let text = whole_text grid c.args.ports.now (held c.new-page.result) c.size-width.result c.new-page.ensures.held c.size-width.ensures.exact in
    let done = wrote_then (c.in_ok-write_opening.ensures.ok (items_text grid)) (c.in_ok-write_plan_rows.ensures.ok []) in
    record {
      ok = on_ok_weaker c.flush.result (λ last. wrote_whole (wrote_as text (wrote_then done (last [])))) c.flush.ensures.ok;
      front = on_err_weaker c.flush.result (λ last. front_of (broke_as text (wrote_broke done (last [])))) c.flush.ensures.err;
      cause = cause_of c.flush.result (λ last. (wrote_then done (last [])).kept) (λ last. (wrote_broke done (last [])).rose)
          c.flush.ensures.ok c.flush.ensures.err;
    }

pub write_plan_rows-requires-clause-inside : goal.write_plan_rows-requires-clause-inside
write_plan_rows-requires-clause-inside g c = few_taken c.kept_blocks.result _ _ c.kept_blocks.ensures.inside

pub write_plan_rows-requires-clause-known : goal.write_plan_rows-requires-clause-known
write_plan_rows-requires-clause-known g c = known_none c.args.plan.now c.kept_blocks.result 32768 no_stretch refl refl
