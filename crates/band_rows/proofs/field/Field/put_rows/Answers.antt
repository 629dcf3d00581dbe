use Rattle.std.proofs.Common.{◌+◌, ◌*◌, ◌≤◌, ◌≡◌, sym, ap, subst, ◌∙◌, inl, inr, [], length, get_or, drop, arith}
use Rattle.std.proofs.lemmas.Bool.{cases_eq}
use Rattle.std.proofs.lemmas.List.{get_or-drop}
use Rattle.ww_rule.specs.declared.pattern.State.TheVariants.{Empty}
use Rattle.band_rows.specs.Fields.{field_state}
use Rattle.band_rows.proofs.GoneOn.{same_size}
use Rattle.band_rows.proofs.field.Field.put_rows.Goals as goal

pub put_row-requires : goal.put_row-requires
put_row-requires c =
    let v = c.loop-k.invariant in
    let columns = v.size.columns in
    let rows = v.size.rows in
    let within = c.requires.within in
    let test = c.loop-k-test.true in
    let end = c.loop-k.auto.k-end in
    let wide = c.requires.wide (c.args.y + c.loop-k.k) [] (omega (arith, within, test)) in
    record {
      closed = v.closed;
      unlisted = v.unlisted;
      wide = subst (λ row. length row ≤ 64 * c.loop-k.self.columns) (sym c.row.ensures) (omega (arith, wide, columns));
      row = omega (arith, rows, test);
      empty = λ u. v.left u c.loop-k.k (omega arith) (omega (arith, test));
    }

pub loop-k-preserved : goal.loop-k-preserved
loop-k-preserved c =
    let v = c.loop-k.invariant in
    let e = c.put_row.ensures in
    let n = c.loop-k.k in
    let rows = v.size.rows in
    let row : c.row.result.now ≡ get_or (drop c.args.y c.args.cells.now) n [] = c.row.ensures ∙ sym (get_or-drop c.args.y c.args.cells.now n []) in
    let test = c.loop-k-test.true in
    record {
      closed = e.closed;
      unlisted = e.unlisted;
      size = same_size v.size e.size;
      done = λ u j lt.
          elim (cases_eq j n) [
            | inl q ↦
                ap (field_state c.put_row.new.self u) q ∙ e.here u ∙ ap (λ row. get_or row u Empty) row
                ∙ sym (ap (λ j. get_or (get_or (drop c.args.y c.args.cells.now) j []) u Empty) q)
            | inr ne ↦ e.other u j (omega (arith, lt, ne, rows, test)) ne ∙ v.done u j (omega (arith, lt, ne))
          ];
      left = λ u j le lt. e.other u j (omega (arith, lt, rows)) (λ same. omega (arith, same, le)) ∙ v.left u j (omega (arith, le)) lt;
    }
