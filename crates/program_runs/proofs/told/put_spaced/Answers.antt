use Rattle.std.proofs.Common.{◌≡◌, ◌<◌, ◌+◌, ℕ, List, ◌∷◌, ◌++◌, length, drop, get_or, refl, sym, ap, ◌∙◌}
use Rattle.lists.proofs.Results.{on_err}
use Rattle.ww_base.specs.Pages.{held}
use Rattle.ww_base.proofs.Steps.{wrote_then, wrote_broke, wrote_to}
use Rattle.ww_base.proofs.LeftPieces.{piece_next}
use Rattle.program_runs.specs.Refusals.{after_blanks}
use Rattle.program_runs.proofs.told.put_spaced.Goals as goal

-- what is left begins with the next name, after a blank
name_next : (here : List ℕ) (names : List (List ℕ)) (k : ℕ) (item name rest : List ℕ) → k < length names → item ≡ get_or names k item → name ≡ item
    → here ++ (after_blanks (drop k names) ++ rest) ≡ here ++ (32 ∷ (name ++ (after_blanks (drop (k + 1) names) ++ rest)))
name_next here names k item name rest within is same =
    piece_next (λ (n : List ℕ). 32 ∷ n) here names k item rest within
    ∙ ap (λ (n : List ℕ). here ++ (32 ∷ (n ++ (after_blanks (drop (k + 1) names) ++ rest)))) (sym (same ∙ is))

pub returns-in_err-put-clause-err : goal.returns-in_err-put-clause-err
returns-in_err-put-clause-err g c =
    let item : List ℕ = c.name-item.result in
    let f = λ (rest : List ℕ).
    let after : List ℕ = after_blanks (drop (c.loop-name.name-index + 1) c.args.names.now) ++ rest in
    let next = name_next (held c.loop-name.page) c.args.names.now c.loop-name.name-index item item rest c.loop-name-test.true c.name-item.is refl in
    wrote_broke (wrote_to next (c.loop-name.invariant rest)) (c.in_err-put.ensures.err (item ++ after)) in
    on_err _ f

pub returns-in_err-put-2-clause-err : goal.returns-in_err-put-2-clause-err
returns-in_err-put-2-clause-err g c =
    let item : List ℕ = c.name-item.result in
    let name : List ℕ = c.as_slice.result.now in
    let f = λ (rest : List ℕ).
    let after : List ℕ = after_blanks (drop (c.loop-name.name-index + 1) c.args.names.now) ++ rest in
    let next = name_next (held c.loop-name.page) c.args.names.now c.loop-name.name-index item name rest c.loop-name-test.true c.name-item.is c.as_slice.ensures in
    wrote_broke (wrote_then (wrote_to next (c.loop-name.invariant rest)) (c.in_ok-put.ensures.ok (name ++ after))) (c.in_err-put-2.ensures.err after) in
    on_err _ f

pub loop-name-preserved : goal.loop-name-preserved
loop-name-preserved g c = λ rest.
    let item : List ℕ = c.name-item.result in
    let name : List ℕ = c.as_slice.result.now in
    let after : List ℕ = after_blanks (drop (c.loop-name.name-index + 1) c.args.names.now) ++ rest in
    let next = name_next (held c.loop-name.page) c.args.names.now c.loop-name.name-index item name rest c.loop-name-test.true c.name-item.is c.as_slice.ensures in
    wrote_then (wrote_then (wrote_to next (c.loop-name.invariant rest)) (c.in_ok-put.ensures.ok (name ++ after))) (c.in_ok-put-2.ensures.ok after)
