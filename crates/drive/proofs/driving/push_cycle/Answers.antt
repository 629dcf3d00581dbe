use Rattle.std.proofs.Common.{◌≡◌, ◌+◌, ◌*◌, ◌-◌, ◌++◌, sym, ap, ◌∙◌, ◌<◌, ◌≤◌, map, take, drop, length, arith, List, Bool, ℕ}
use Rattle.std.specs.List.{range_with_len}
use Rattle.std.proofs.Math.Nat.{mul-le-mul_right}
use Rattle.std.proofs.lemmas.List.{append_assoc, append-nil, length-drop, length-take-le}
use Rattle.std.proofs.lemmas.Result.{err_from_is_err_and}
use Rattle.std.proofs.lemmas.List.FromFn.{map-range_with_len_more, length-map-range_with_len}
use Rattle.ww_rule.specs.declared.pattern.Injection.{Injection}
use Rattle.ww_rule.specs.Injections.{injections_of_row, injections_from}
use Rattle.pattern_reading.specs.Ports.{cells_of}
use Rattle.drive.proofs.Rows.{rows_more}
use Rattle.drive.proofs.driving.push_cycle.Goals as goal

-- a context's bits lie within those of the cycle
piece_within : (k n l m : ℕ) → k < n → m ≡ n * l → k * l + l ≤ m
piece_within k n l m lt many =
    let most : (k + 1) * l ≤ n * l = mul-le-mul_right l (omega (arith, lt)) in omega (arith, most, many)

pub overflow_mul-first : goal.overflow_mul-first
overflow_mul-first c =
    let within = piece_within c.loop-context.context c.args.contexts (length c.args.inputs.now) (length c.args.bits.now) c.loop-context-test.true c.requires.many in
    omega (arith, within)

pub overflow_add-row : goal.overflow_add-row
overflow_add-row c =
    let within = piece_within c.loop-context.context c.args.contexts (length c.args.inputs.now) (length c.args.bits.now) c.loop-context-test.true c.requires.many in
    omega (arith, within)

pub slice_bounds-row-end : goal.slice_bounds-row-end
slice_bounds-row-end c =
    let within = piece_within c.loop-context.context c.args.contexts (length c.args.inputs.now) (length c.args.bits.now) c.loop-context-test.true c.requires.many in
    omega (arith, within)

pub push_row-requires : goal.push_row-requires
push_row-requires c =
    let within = piece_within c.loop-context.context c.args.contexts (length c.args.inputs.now) (length c.args.bits.now) c.loop-context-test.true c.requires.many in
    let start = c.loop-context.context * length c.args.inputs.now in
    let long : length (drop start c.args.bits.now) ≡ length c.args.bits.now - start = length-drop start c.args.bits.now in
    sym (length-take-le (start + length c.args.inputs.now - start) (drop start c.args.bits.now) (omega (arith, long, within)) ∙ omega arith)

pub returns-in_err-push_row : goal.returns-in_err-push_row
returns-in_err-push_row c = rw ((err_from_is_err_and c.from_residual.result c.from_residual.ensures.1).1) tt

pub loop-context-init : goal.loop-context-init
loop-context-init c = sym (append-nil c.args.due.now.items)

pub returns : goal.returns
returns c =
    let far = c.loop-context-test.false in
    let near = c.loop-context.auto.context-end in
    let piece : ℕ → List Bool = λ context. take (length c.args.inputs.now) (drop (context * length c.args.inputs.now) c.args.bits.now) in
    c.loop-context.invariant
    ∙ ap (λ (n : ℕ). c.args.due.now.items ++ injections_from c.args.generation 32 (cells_of c.args.inputs.now) (map piece (range_with_len 0 n))) (omega (arith, far, near))

pub loop-context-preserved : goal.loop-context-preserved
loop-context-preserved c =
    let g = c.args.generation in
    let inputs = c.args.inputs.now in
    let cells = cells_of inputs in
    let context = c.loop-context.context in
    let before = c.args.due.now.items in
    let piece : ℕ → List Bool = λ context. take (length inputs) (drop (context * length inputs) c.args.bits.now) in
    let rows = map piece (range_with_len 0 context) in
    let long : length rows ≡ context = length-map-range_with_len piece 0 context in
    c.in_ok-push_row.ensures
    ∙ ap (λ n. c.loop-context.due.items ++ injections_of_row (g + 32 * context) cells (take n (drop (context * length inputs) c.args.bits.now)))
    (let e : context * length inputs + length inputs - context * length inputs ≡ length inputs = omega arith in e)
    ∙ ap (λ (due : List Injection). due ++ injections_of_row (g + 32 * context) cells (piece context)) c.loop-context.invariant
    ∙ append_assoc before (injections_from g 32 cells rows) (injections_of_row (g + 32 * context) cells (piece context))
    ∙ ap (λ (due : List Injection). before ++ due) (sym (rows_more g 32 cells rows (piece context) (g + 32 * context) (omega (arith, long))))
    ∙ ap (λ (rows : List (List Bool)). before ++ injections_from g 32 cells rows) (sym (map-range_with_len_more piece 0 context context (omega arith)))
