use Rattle.std.proofs.Common.{◌+◌, ◌*◌, ◌/◌, ◌%◌, ◌<◌, ◌≤◌, ◌≡◌, sym, ap, subst, ◌∙◌, inl, inr, length, drop, arith}
use Rattle.std.proofs.lemmas.Bool.{cases_eq, cases_lt}
use Rattle.std.proofs.lemmas.Grind.{div_ceil_times}
use Rattle.std.proofs.lemmas.List.{get_or-drop, get_or-take, get_or_past, length-take}
use Rattle.ww_rule.specs.declared.pattern.State.TheVariants.{Empty}
use Rattle.ww_rule.specs.Grid.{row_cell}
use Rattle.band_rows.specs.declared.field.WordMarks.{WordMarks}
use Rattle.band_rows.proofs.GoneOn.{same_size}
use Rattle.band_rows.proofs.field.Field.put_row.Goals as goal

pub cells_of_word-requires : goal.cells_of_word-requires
cells_of_word-requires c =
    let test = c.loop-c-test.true in
    let many = div_ceil_times (length c.args.cells.now) 64 (omega arith) in
    let short = many.1 in
    omega (arith, test, short)

pub put_word-requires : goal.put_word-requires
put_word-requires c =
    let v = c.loop-c.invariant in
    let columns = v.size.columns in
    let rows = v.size.rows in
    let wide = c.requires.wide in
    let row = c.requires.row in
    let test = c.loop-c-test.true in
    let many = div_ceil_times (length c.args.cells.now) 64 (omega arith) in
    let short = many.1 in
    let long = ap length c.cells_of_word.ensures ∙ length-take 64 (drop (64 * c.loop-c.c) c.args.cells.now) in
    record {
      closed = v.closed;
      unlisted = v.unlisted;
      column = omega (arith, columns, wide, test, short);
      row = omega (arith, rows, row);
      few = omega (arith, long);
      empty = λ u e. v.left u (omega (arith, e));
    }

pub loop-c-preserved : goal.loop-c-preserved
loop-c-preserved c =
    let v = c.loop-c.invariant in
    let e = c.put_word.ensures in
    let n = c.loop-c.c in
    let rows = v.size.rows in
    let row = c.requires.row in
    let here : c.args.k < c.loop-c.self.rows = omega (arith, rows, row) in
    record {
      closed = e.closed;
      unlisted = subst (λ (m : WordMarks). length m.list.items ≤ m.many) (sym e.marks) v.unlisted;
      size = same_size v.size e.size;
      done = λ u lt.
          elim (cases_eq (u / 64) n) [
            | inl q ↦
                let at : 64 * n + u % 64 ≡ u = omega (arith, q) in
                e.here u q
                ∙ ap (λ cells. row_cell cells (u % 64)) c.cells_of_word.ensures
                ∙ get_or-take 64 (drop (64 * n) c.args.cells.now) (u % 64) Empty (omega arith)
                ∙ get_or-drop (64 * n) c.args.cells.now (u % 64) Empty
                ∙ ap (row_cell c.args.cells.now) at
            | inr ne ↦ e.other u c.args.k here (λ same. absurd (ne same)) ∙ v.done u (omega (arith, lt, ne))
          ];
      left = λ u le.
          e.other u c.args.k here (λ same. absurd (omega (arith, same, le))) ∙ v.left u (omega (arith, le));
      other = λ u j lt ne.
          e.other u j (omega (arith, lt, rows)) (λ same. ne) ∙ v.other u j lt ne;
    }

pub returns : goal.returns
returns c =
    let v = c.loop-c.invariant in
    let test = c.loop-c-test.false in
    let many = div_ceil_times (length c.args.cells.now) 64 (omega arith) in
    let long = many.0 in
    record {
      closed = v.closed;
      unlisted = v.unlisted;
      size = v.size;
      here = λ u.
          elim (cases_lt u (64 * c.loop-c.c)) [
            | inl lt ↦ v.done u lt
            | inr ge ↦ v.left u ge ∙ sym (get_or_past c.args.cells.now u Empty (omega (arith, ge, test, long)))
          ];
      other = v.other;
    }
