use Rattle.std.proofs.Common.{◌≡◌, ◌<◌, sym, ap, ap₂, subst, ◌∙◌, map, length, get_or, arith, ℕ, List, Bool, All}
use Rattle.std.specs.List.{range_with_len}
use Rattle.std.proofs.lemmas.Bool.{eqb-true}
use Rattle.std.proofs.lemmas.List.{nil_from_length}
use Rattle.streams.specs.Rows.{bits_across}
use Rattle.drive.specs.Runs.{planes_of}
use Rattle.drive.specs.Shown.{column_of_cell, columns_of_cells, rows_of_cycles}
use Rattle.drive.proofs.Columns.{in_contexts, all_long, many_rows, columns_of_rows}
use Rattle.drive.proofs.Ranges.{no_pieces}
use Rattle.drive.proofs.bits.columns_of_cells.Goals as goal

pub returns-then-is_empty-clause-bits : goal.returns-then-is_empty-clause-bits
returns-then-is_empty-clause-bits c =
    let ports = c.args.ports.now in
    let column = column_of_cell (planes_of c.args.run.now) ports.p c.args.streams.now.cycles c.args.first in
    let none = nil_from_length c.args.cells.now (eqb-true (length c.args.cells.now) 0 (sym c.is_empty.ensures ∙ c.if-is_empty.true)) in
    c.of.ensures ∙ c.new.ensures.items
    ∙ sym (no_pieces (λ (context : ℕ). map (column context) c.args.cells.now) (range_with_len 0 ports.c) (λ context. ap (map (column context)) none))

pub index-requires : goal.index-requires
index-requires c =
    let cycles = c.args.streams.now.cycles in
    let long : length c.in_ok-rows.rows.items ≡ cycles = ap length c.in_ok-rows.ensures.rows ∙ many_rows (planes_of c.args.run.now) c.args.ports.now.c c.args.ports.now.p cycles c.args.first c.args.cells.now in
    let same : length c.deref.result.now ≡ length c.in_ok-rows.rows.items = ap length c.deref.ensures.value in
    let lent = c.deref.ensures.len in
    let some = c.requires.cycles in
    omega (arith, long, same, lent, some)

-- the first row is as long as all are
first_long : (rows made : List (List Bool)) (row : List Bool) (n long cycles : ℕ) → rows ≡ made → All (λ row. length row ≡ long) made → length made ≡ cycles → 0 < cycles → row ≡ get_or rows 0 row → n ≡ length row → n ≡ long
first_long rows made row n long cycles are all many some is e =
    e ∙ ap length is ∙ ap (λ (rows : List (List Bool)). length (get_or rows 0 row)) are ∙ all 0 row (omega (arith, many, some))

pub columns_of-requires : goal.columns_of-requires
columns_of-requires c =
    let ports = c.args.ports.now in
    let planes = planes_of c.args.run.now in
    let cycles = c.args.streams.now.cycles in
    let long = length (in_contexts planes ports.c ports.p cycles c.args.first c.args.cells.now) in
    let made = rows_of_cycles planes ports.c ports.p cycles c.args.first c.args.cells.now in
    let all = all_long planes ports.c ports.p cycles c.args.first c.args.cells.now in
    let first : c.len.result ≡ long =
    first_long c.in_ok-rows.rows.items made c.index.result.now c.len.result long cycles c.in_ok-rows.ensures.rows all (many_rows planes ports.c ports.p cycles c.args.first c.args.cells.now) c.requires.cycles c.index.ensures c.len.ensures in
    subst (All (λ (row : List Bool). length row ≡ c.len.result)) (sym (c.deref.ensures.value ∙ c.in_ok-rows.ensures.rows))
    (subst (λ (n : ℕ). All (λ (row : List Bool). length row ≡ n) made) (sym first) all)

pub returns-clause-bits : goal.returns-clause-bits
returns-clause-bits c =
    let ports = c.args.ports.now in
    let planes = planes_of c.args.run.now in
    let cycles = c.args.streams.now.cycles in
    let long = length (in_contexts planes ports.c ports.p cycles c.args.first c.args.cells.now) in
    let made = rows_of_cycles planes ports.c ports.p cycles c.args.first c.args.cells.now in
    let all = all_long planes ports.c ports.p cycles c.args.first c.args.cells.now in
    let first : c.len.result ≡ long =
    first_long c.in_ok-rows.rows.items made c.index.result.now c.len.result long cycles c.in_ok-rows.ensures.rows all (many_rows planes ports.c ports.p cycles c.args.first c.args.cells.now) c.requires.cycles c.index.ensures c.len.ensures in
    let bits : map (bits_across c.deref.result.now) (range_with_len 0 c.len.result) ≡ columns_of_cells planes ports.c ports.p cycles c.args.first c.args.cells.now =
    ap₂ (λ (rows : List (List Bool)) (n : ℕ). map (bits_across rows) (range_with_len 0 n)) (c.deref.ensures.value ∙ c.in_ok-rows.ensures.rows) first
    ∙ columns_of_rows planes ports.c ports.p cycles c.args.first c.args.cells.now in
    c.in_ok-columns_of.ensures ∙ bits
