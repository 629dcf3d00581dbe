use Rattle.std.proofs.Common.{ℕ, List, [], ◌∷◌, ◌++◌, codes}
use Rattle.std.proofs.lemmas.Result.{on_ok_weaker, on_err_weaker}
use Rattle.ww_base.specs.Pages.{held}
use Rattle.lists.proofs.Results.{on_err}
use Rattle.ww_base.proofs.Steps.{wrote_then, wrote_broke, wrote_as, wrote_whole, broke_as, front_of, broke_cause, cause_of}
use Rattle.vcd_write.specs.Vcd.{waves_in, blocks_text}
use Rattle.vcd_write.proofs.text.write.Goals as goal
use Rattle.vcd_write.specs.Reading.{time_line}
use Rattle.vcd_write.proofs.Texts.{text_start}

pub returns-in_err-write_vars-clause-front : goal.returns-in_err-write_vars-clause-front
returns-in_err-write_vars-clause-front g c =
    let third : List ℕ = blocks_text (waves_in c.args.vcd.now) 0 c.args.vcd.now.cycles ++ (time_line c.args.vcd.now.cycles ++ (10 ∷ [])) in
    let second : List ℕ = codes "$enddefinitions $end\n" ++ third in
    on_err _ (front_of (broke_as (text_start (waves_in c.args.vcd.now) (held c.new-page.result) c.new-page.ensures.held) (c.in_err-write_vars.ensures.err second)))

pub returns-in_err-write_vars-clause-cause : goal.returns-in_err-write_vars-clause-cause
returns-in_err-write_vars-clause-cause g c =
    let third : List ℕ = blocks_text (waves_in c.args.vcd.now) 0 c.args.vcd.now.cycles ++ (time_line c.args.vcd.now.cycles ++ (10 ∷ [])) in
    let second : List ℕ = codes "$enddefinitions $end\n" ++ third in
    broke_cause _ _ c.from_residual.ensures.1 (c.in_err-write_vars.ensures.err second)

pub returns-in_err-put-clause-front : goal.returns-in_err-put-clause-front
returns-in_err-put-clause-front g c =
    let third : List ℕ = blocks_text (waves_in c.args.vcd.now) 0 c.args.vcd.now.cycles ++ (time_line c.args.vcd.now.cycles ++ (10 ∷ [])) in
    let second : List ℕ = codes "$enddefinitions $end\n" ++ third in
    on_err _ (front_of (broke_as (text_start (waves_in c.args.vcd.now) (held c.new-page.result) c.new-page.ensures.held) (wrote_broke (c.in_ok-write_vars.ensures.ok second) (c.in_err-put.ensures.err third))))

pub returns-in_err-put-clause-cause : goal.returns-in_err-put-clause-cause
returns-in_err-put-clause-cause g c =
    let third : List ℕ = blocks_text (waves_in c.args.vcd.now) 0 c.args.vcd.now.cycles ++ (time_line c.args.vcd.now.cycles ++ (10 ∷ [])) in
    let second : List ℕ = codes "$enddefinitions $end\n" ++ third in
    broke_cause _ _ c.from_residual-in_err-put.ensures.1 (wrote_broke (c.in_ok-write_vars.ensures.ok second) (c.in_err-put.ensures.err third))

pub returns-in_err-write_blocks-clause-front : goal.returns-in_err-write_blocks-clause-front
returns-in_err-write_blocks-clause-front g c =
    let third : List ℕ = blocks_text (waves_in c.args.vcd.now) 0 c.args.vcd.now.cycles ++ (time_line c.args.vcd.now.cycles ++ (10 ∷ [])) in
    let second : List ℕ = codes "$enddefinitions $end\n" ++ third in
    on_err _ (front_of (broke_as (text_start (waves_in c.args.vcd.now) (held c.new-page.result) c.new-page.ensures.held) (wrote_broke (wrote_then (c.in_ok-write_vars.ensures.ok second) (c.in_ok-put.ensures.ok third)) (c.in_err-write_blocks.ensures.err (time_line c.args.vcd.now.cycles ++ (10 ∷ []))))))

pub returns-in_err-write_blocks-clause-cause : goal.returns-in_err-write_blocks-clause-cause
returns-in_err-write_blocks-clause-cause g c =
    let third : List ℕ = blocks_text (waves_in c.args.vcd.now) 0 c.args.vcd.now.cycles ++ (time_line c.args.vcd.now.cycles ++ (10 ∷ [])) in
    let second : List ℕ = codes "$enddefinitions $end\n" ++ third in
    broke_cause _ _ c.from_residual-in_err-write_blocks.ensures.1 (wrote_broke (wrote_then (c.in_ok-write_vars.ensures.ok second) (c.in_ok-put.ensures.ok third)) (c.in_err-write_blocks.ensures.err (time_line c.args.vcd.now.cycles ++ (10 ∷ []))))

pub returns-in_err-write_time-clause-front : goal.returns-in_err-write_time-clause-front
returns-in_err-write_time-clause-front g c =
    let third : List ℕ = blocks_text (waves_in c.args.vcd.now) 0 c.args.vcd.now.cycles ++ (time_line c.args.vcd.now.cycles ++ (10 ∷ [])) in
    let second : List ℕ = codes "$enddefinitions $end\n" ++ third in
    on_err _ (front_of (broke_as (text_start (waves_in c.args.vcd.now) (held c.new-page.result) c.new-page.ensures.held) (wrote_broke (wrote_then (wrote_then (c.in_ok-write_vars.ensures.ok second) (c.in_ok-put.ensures.ok third)) (c.in_ok-write_blocks.ensures.ok (time_line c.args.vcd.now.cycles ++ (10 ∷ [])))) (c.in_err-write_time.ensures.err []))))

pub returns-in_err-write_time-clause-cause : goal.returns-in_err-write_time-clause-cause
returns-in_err-write_time-clause-cause g c =
    let third : List ℕ = blocks_text (waves_in c.args.vcd.now) 0 c.args.vcd.now.cycles ++ (time_line c.args.vcd.now.cycles ++ (10 ∷ [])) in
    let second : List ℕ = codes "$enddefinitions $end\n" ++ third in
    broke_cause _ _ c.from_residual-in_err-write_time.ensures.1 (wrote_broke (wrote_then (wrote_then (c.in_ok-write_vars.ensures.ok second) (c.in_ok-put.ensures.ok third)) (c.in_ok-write_blocks.ensures.ok (time_line c.args.vcd.now.cycles ++ (10 ∷ [])))) (c.in_err-write_time.ensures.err []))

pub returns-clause-ok : goal.returns-clause-ok
returns-clause-ok g c =
    let third : List ℕ = blocks_text (waves_in c.args.vcd.now) 0 c.args.vcd.now.cycles ++ (time_line c.args.vcd.now.cycles ++ (10 ∷ [])) in
    let second : List ℕ = codes "$enddefinitions $end\n" ++ third in
    on_ok_weaker c.flush.result (λ wrote. wrote_whole (wrote_as (text_start (waves_in c.args.vcd.now) (held c.new-page.result) c.new-page.ensures.held) (wrote_then (wrote_then (wrote_then (wrote_then (c.in_ok-write_vars.ensures.ok second) (c.in_ok-put.ensures.ok third)) (c.in_ok-write_blocks.ensures.ok (time_line c.args.vcd.now.cycles ++ (10 ∷ [])))) (c.in_ok-write_time.ensures.ok [])) (wrote [])))) c.flush.ensures.ok

pub returns-clause-front : goal.returns-clause-front
returns-clause-front g c =
    let third : List ℕ = blocks_text (waves_in c.args.vcd.now) 0 c.args.vcd.now.cycles ++ (time_line c.args.vcd.now.cycles ++ (10 ∷ [])) in
    let second : List ℕ = codes "$enddefinitions $end\n" ++ third in
    on_err_weaker c.flush.result (λ broke. front_of (broke_as (text_start (waves_in c.args.vcd.now) (held c.new-page.result) c.new-page.ensures.held) (wrote_broke (wrote_then (wrote_then (wrote_then (c.in_ok-write_vars.ensures.ok second) (c.in_ok-put.ensures.ok third)) (c.in_ok-write_blocks.ensures.ok (time_line c.args.vcd.now.cycles ++ (10 ∷ [])))) (c.in_ok-write_time.ensures.ok [])) (broke [])))) c.flush.ensures.err

pub returns-clause-cause : goal.returns-clause-cause
returns-clause-cause g c =
    let third : List ℕ = blocks_text (waves_in c.args.vcd.now) 0 c.args.vcd.now.cycles ++ (time_line c.args.vcd.now.cycles ++ (10 ∷ [])) in
    let second : List ℕ = codes "$enddefinitions $end\n" ++ third in
    let done = wrote_then (wrote_then (wrote_then (c.in_ok-write_vars.ensures.ok second) (c.in_ok-put.ensures.ok third)) (c.in_ok-write_blocks.ensures.ok (time_line c.args.vcd.now.cycles ++ (10 ∷ [])))) (c.in_ok-write_time.ensures.ok []) in
    cause_of c.flush.result (λ wrote. (wrote_then done (wrote [])).kept) (λ broke. (wrote_broke done (broke [])).rose)
    c.flush.ensures.ok c.flush.ensures.err
