use Rattle.std.proofs.Common.{◌≡◌, ℕ, List, [], ◌++◌, sym, ap, codes}
use Rattle.std.proofs.lemmas.Result.{on_ok_weaker, on_err_weaker}
use Rattle.lists.proofs.Results.{on_err}
use Rattle.ww_base.specs.Pages.{held}
use Rattle.ww_base.proofs.Steps.{wrote_then, wrote_broke, wrote_as, wrote_whole, broke_as, front_of, broke_cause, cause_of}
use Rattle.program_runs.specs.Refusals.{after_blanks, loop_line}
use Rattle.program_runs.proofs.told.tell_loop.Goals as goal

-- the line is to be written, and nothing is held at first
begins : (here : List ℕ) (names : List (List ℕ)) → here ≡ [] → loop_line names ≡ here ++ loop_line names
begins here names none = ap (λ (l : List ℕ). l ++ loop_line names) (sym none)

pub returns-in_err-put-clause-front : goal.returns-in_err-put-clause-front
returns-in_err-put-clause-front g c =
    let start = begins (held c.new-page.result) c.args.names.now c.new-page.ensures.held in
    on_err _ (front_of (broke_as start (c.in_err-put.ensures.err (after_blanks c.args.names.now ++ codes "\n"))))

pub returns-in_err-put-clause-cause : goal.returns-in_err-put-clause-cause
returns-in_err-put-clause-cause g c = broke_cause _ _ c.from_residual.ensures.1 (c.in_err-put.ensures.err [])

pub returns-in_err-put_spaced-clause-front : goal.returns-in_err-put_spaced-clause-front
returns-in_err-put_spaced-clause-front g c =
    let start = begins (held c.new-page.result) c.args.names.now c.new-page.ensures.held in
    let done = c.in_ok-put.ensures.ok (after_blanks c.args.names.now ++ codes "\n") in
    on_err _ (front_of (broke_as start (wrote_broke done (c.in_err-put_spaced.ensures.err (codes "\n")))))

pub returns-in_err-put_spaced-clause-cause : goal.returns-in_err-put_spaced-clause-cause
returns-in_err-put_spaced-clause-cause g c =
    broke_cause _ _ c.from_residual-in_err-put_spaced.ensures.1 (wrote_broke (c.in_ok-put.ensures.ok (after_blanks c.args.names.now ++ codes "\n")) (c.in_err-put_spaced.ensures.err (codes "\n")))

pub returns-in_err-put-2-clause-front : goal.returns-in_err-put-2-clause-front
returns-in_err-put-2-clause-front g c =
    let start = begins (held c.new-page.result) c.args.names.now c.new-page.ensures.held in
    let done = wrote_then (c.in_ok-put.ensures.ok (after_blanks c.args.names.now ++ codes "\n")) (c.in_ok-put_spaced.ensures.ok (codes "\n")) in
    on_err _ (front_of (broke_as start (wrote_broke done (c.in_err-put-2.ensures.err []))))

pub returns-in_err-put-2-clause-cause : goal.returns-in_err-put-2-clause-cause
returns-in_err-put-2-clause-cause g c =
    let done = wrote_then (c.in_ok-put.ensures.ok (after_blanks c.args.names.now ++ codes "\n")) (c.in_ok-put_spaced.ensures.ok (codes "\n")) in
    broke_cause _ _ c.from_residual-in_err-put-2.ensures.1 (wrote_broke done (c.in_err-put-2.ensures.err []))

pub returns-clause-ok : goal.returns-clause-ok
returns-clause-ok g c =
    let start = begins (held c.new-page.result) c.args.names.now c.new-page.ensures.held in
    let told = wrote_then (c.in_ok-put.ensures.ok (after_blanks c.args.names.now ++ codes "\n")) (c.in_ok-put_spaced.ensures.ok (codes "\n")) in
    let done = wrote_then told (c.in_ok-put-2.ensures.ok []) in
    on_ok_weaker c.flush.result (λ wrote. wrote_whole (wrote_as start (wrote_then done (wrote [])))) c.flush.ensures.ok

pub returns-clause-front : goal.returns-clause-front
returns-clause-front g c =
    let start = begins (held c.new-page.result) c.args.names.now c.new-page.ensures.held in
    let told = wrote_then (c.in_ok-put.ensures.ok (after_blanks c.args.names.now ++ codes "\n")) (c.in_ok-put_spaced.ensures.ok (codes "\n")) in
    let done = wrote_then told (c.in_ok-put-2.ensures.ok []) in
    on_err_weaker c.flush.result (λ broke. front_of (broke_as start (wrote_broke done (broke [])))) c.flush.ensures.err

pub returns-clause-cause : goal.returns-clause-cause
returns-clause-cause g c =
    let told = wrote_then (c.in_ok-put.ensures.ok (after_blanks c.args.names.now ++ codes "\n")) (c.in_ok-put_spaced.ensures.ok (codes "\n")) in
    let done = wrote_then told (c.in_ok-put-2.ensures.ok []) in
    cause_of c.flush.result (λ wrote. (wrote_then done (wrote [])).kept) (λ broke. (wrote_broke done (broke [])).rose)
    c.flush.ensures.ok c.flush.ensures.err
