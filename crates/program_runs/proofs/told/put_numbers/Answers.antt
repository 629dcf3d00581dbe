use Rattle.std.proofs.Common.{◌≡◌, ◌<◌, ◌+◌, ℕ, List, ◌∷◌, ◌++◌, length, drop, get_or, refl, sym, ap, ◌∙◌}
use Rattle.std.specs.Prelude.{decimal}
use Rattle.lists.proofs.Results.{on_err}
use Rattle.ww_base.specs.Pages.{held}
use Rattle.ww_base.proofs.Steps.{wrote_then, wrote_broke, wrote_to}
use Rattle.ww_base.proofs.LeftPieces.{piece_next}
use Rattle.program_runs.specs.Refusals.{spaced_numbers}
use Rattle.program_runs.proofs.told.put_numbers.Goals as goal

-- what is left begins with the digits of the next number, after a blank
number_next : (here numbers : List ℕ) (k : ℕ) (digits rest : List ℕ) → k < length numbers → digits ≡ decimal (get_or numbers k 0)
    → here ++ (spaced_numbers (drop k numbers) ++ rest) ≡ here ++ (32 ∷ (digits ++ (spaced_numbers (drop (k + 1) numbers) ++ rest)))
number_next here numbers k digits rest within same =
    piece_next (λ (n : ℕ). 32 ∷ decimal n) here numbers k 0 rest within
    ∙ ap (λ (n : List ℕ). here ++ (32 ∷ (n ++ (spaced_numbers (drop (k + 1) numbers) ++ rest)))) (sym same)

pub returns-in_err-put-clause-err : goal.returns-in_err-put-clause-err
returns-in_err-put-clause-err g c =
    let digits : List ℕ = decimal (get_or c.args.numbers.now c.loop-number.number-index 0) in
    let f = λ (rest : List ℕ).
    let after : List ℕ = spaced_numbers (drop (c.loop-number.number-index + 1) c.args.numbers.now) ++ rest in
    let next = number_next (held c.loop-number.page) c.args.numbers.now c.loop-number.number-index digits rest c.loop-number-test.true refl in
    wrote_broke (wrote_to next (c.loop-number.invariant rest)) (c.in_err-put.ensures.err (digits ++ after)) in
    on_err _ f

pub returns-in_err-put-2-clause-err : goal.returns-in_err-put-2-clause-err
returns-in_err-put-2-clause-err g c =
    let digits : List ℕ = c.as_bytes.result.now in
    let f = λ (rest : List ℕ).
    let after : List ℕ = spaced_numbers (drop (c.loop-number.number-index + 1) c.args.numbers.now) ++ rest in
    let next = number_next (held c.loop-number.page) c.args.numbers.now c.loop-number.number-index digits rest c.loop-number-test.true (c.as_bytes.ensures.value ∙ c.format.ensures.text) in
    wrote_broke (wrote_then (wrote_to next (c.loop-number.invariant rest)) (c.in_ok-put.ensures.ok (digits ++ after))) (c.in_err-put-2.ensures.err after) in
    on_err _ f

pub loop-number-preserved : goal.loop-number-preserved
loop-number-preserved g c = λ rest.
    let digits : List ℕ = c.as_bytes.result.now in
    let after : List ℕ = spaced_numbers (drop (c.loop-number.number-index + 1) c.args.numbers.now) ++ rest in
    let next = number_next (held c.loop-number.page) c.args.numbers.now c.loop-number.number-index digits rest c.loop-number-test.true (c.as_bytes.ensures.value ∙ c.format.ensures.text) in
    wrote_then (wrote_then (wrote_to next (c.loop-number.invariant rest)) (c.in_ok-put.ensures.ok (digits ++ after))) (c.in_ok-put-2.ensures.ok after)
