use Rattle.ww_rule.specs.Due.{due_count}
use Rattle.std.proofs.Common.{pos, ◌+ℤ◌, ◌+◌, ◌/◌, ◌<◌, ◌≤◌, ◌≡◌, sym, ap, ap₂, subst, ◌∙◌, cond, length, get_or, [], take, drop, arith}
use Rattle.ww_rule.specs.declared.pattern.Injection.{Injection}
use Rattle.ww_rule.specs.declared.pattern.State.TheVariants.{Empty, Head}
use Rattle.ww_rule.specs.Grid.{plane_of}
use Rattle.ww_rule.specs.Injections.{has_cell}
use Rattle.std.proofs.lemmas.List.{get_or-drop}
use Rattle.std.proofs.lemmas.List.Elements.{All-take}
use Rattle.band_rows.specs.Fields.{ShowsField}
use Rattle.ww_rule.proofs.Due.{all_left, front_cells, left_after}
use Rattle.band_core.specs.Band.{AreInRows}
use Rattle.band_core.proofs.making.begin_band.Goals as goal

pub inject-requires-clause-inside : goal.inject-requires-clause-inside
inject-requires-clause-inside c =
    let y = c.args.y in
    let field = c.in_ok-field.field in
    let k = c.due_count-done.result in
    let own = c.args.injections.items in
    let due = take k c.deref-2.result.now in
    let mine : AreInRows c.args.columns y c.args.many due =
    subst (λ own. AreInRows c.args.columns y c.args.many (take k own)) (sym c.deref-2.ensures.value)
    (All-take (λ (i : Injection). (y ≤ i.y) × (i.y < y + c.args.many) × (i.x / 64 < c.args.columns)) k own c.requires.inside) in
    subst (λ columns. AreInRows columns y field.rows due) (sym c.in_ok-field.ensures.columns)
    (subst (λ rows. AreInRows c.args.columns y rows due) (sym c.in_ok-field.ensures.rows) mine)

pub returns-clause-shows : goal.returns-clause-shows
returns-clause-shows c e due starts same =
    let p = plane_of c.args.cells.now in
    let own = c.args.injections.items in
    let y = c.args.y in
    let k = c.due_count-done.result in
    let old = c.in_ok-field.field in
    let new = c.inject.new.field in
    let made = c.in_ok-field.ensures in
    let high = c.inject.ensures.size.rows in
    let rows = made.rows in
    let packed : ShowsField old p (pos y) = λ k x lt. made.shows k x (omega (arith, lt, rows)) ∙ ap (λ row. get_or row x Empty) (get_or-drop y c.args.cells.now k []) in
    let moved = c.inject.ensures.shows p packed in
    let count : k ≡ due_count 0 own = c.due_count-done.ensures.count ∙ ap (due_count 0) c.deref.ensures.value in
    let left = all_left own c.requires.in_order in
    let front = ap₂ take count c.deref-2.ensures.value in
    record {
      cells = λ k x lt.
          let z = pos y +ℤ pos k in
          moved k x lt
          ∙ ap (λ t. cond t Head (p (pos x) z)) (ap (λ cells. has_cell cells (pos x) z) (front_cells 0 own own left _ front) ∙ same 0 x k (omega (arith, lt, high, rows)))
          ∙ sym (ap (λ p. p (pos x) z) starts);
      before = λ h q. absurd (omega (arith, q));
      own = same;
      left = left_after 0 own own left (drop k own) (ap (λ k. drop k own) count);
    }

pub returns-clause-is : goal.returns-clause-is
returns-clause-is c =
    let made = c.in_ok-field.ensures in
    let size = c.inject.ensures.size in
    let counted = c.due_count-done.ensures.within in
    let all = ap length c.deref.ensures.value in
    record {
      closed = c.inject.ensures.closed;
      wide = size.columns ∙ made.columns;
      high = size.rows ∙ made.rows;
      some = c.requires.some;
      inside = c.requires.inside;
      done = omega (arith, counted, all);
    }
