use Rattle.std.proofs.Common.{List, [], ◌∷◌, ◌++◌, ap, sym}
use Rattle.std.specs.Prelude.{codes}
use Rattle.std.proofs.lemmas.Result.{on_ok_weaker, on_err_weaker}
use Rattle.lists.proofs.Results.{on_err}
use Rattle.ww_base.specs.Pages.{held}
use Rattle.ww_base.proofs.Steps.{wrote_then, wrote_broke, wrote_to}
use Rattle.blif_text.specs.declared.logical.Logical.{Logical}
use Rattle.lifted_designs.specs.Names.{zero_name}
use Rattle.lifted_designs.specs.Lines.{worded_line}
use Rattle.blif_write.specs.Text.{worded_text}
use Rattle.blif_write.specs.Words.{mark_in}
use Rattle.blif_write.proofs.text.write_head.Goals as goal

pub returns-in_err-write_line-clause-err : goal.returns-in_err-write_line-clause-err
returns-in_err-write_line-clause-err g c =
    let f = λ (more : List Logical).
    let fourth = worded_line 4 (codes ".names" ∷ zero_name (mark_in c.args.lift.now) ∷ []) in
    let third = worded_line 3 (codes ".outputs" ∷ c.args.lift.now.outs) in
    let second = worded_line 2 (codes ".inputs" ∷ c.args.lift.now.ins) in
    c.in_err-write_line.ensures.err 1 (second ∷ third ∷ fourth ∷ more) in
    on_err _ f

pub returns-in_err-write_name_line-clause-err : goal.returns-in_err-write_name_line-clause-err
returns-in_err-write_name_line-clause-err g c =
    let f = λ (more : List Logical).
    let fourth = worded_line 4 (codes ".names" ∷ zero_name (mark_in c.args.lift.now) ∷ []) in
    let third = worded_line 3 (codes ".outputs" ∷ c.args.lift.now.outs) in
    let second = worded_line 2 (codes ".inputs" ∷ c.args.lift.now.ins) in
    let first_done = wrote_to (ap (λ names. held c.write_line.new.page ++ worded_text (worded_line 2 (codes ".inputs" ∷ names) ∷ third ∷ fourth ∷ more)) (sym c.as_slice.ensures))
    (c.in_ok-write_line.ensures.ok 1 (second ∷ third ∷ fourth ∷ more)) in
    wrote_broke first_done (c.in_err-write_name_line.ensures.err 2 (third ∷ fourth ∷ more)) in
    on_err _ f

pub returns-in_err-write_name_line-2-clause-err : goal.returns-in_err-write_name_line-2-clause-err
returns-in_err-write_name_line-2-clause-err g c =
    let f = λ (more : List Logical).
    let fourth = worded_line 4 (codes ".names" ∷ zero_name (mark_in c.args.lift.now) ∷ []) in
    let third = worded_line 3 (codes ".outputs" ∷ c.args.lift.now.outs) in
    let second = worded_line 2 (codes ".inputs" ∷ c.args.lift.now.ins) in
    let first_done = wrote_to (ap (λ names. held c.write_line.new.page ++ worded_text (worded_line 2 (codes ".inputs" ∷ names) ∷ third ∷ fourth ∷ more)) (sym c.as_slice.ensures))
    (c.in_ok-write_line.ensures.ok 1 (second ∷ third ∷ fourth ∷ more)) in
    let second_done = wrote_to (ap (λ names. held c.write_name_line.new.page ++ worded_text (worded_line 3 (codes ".outputs" ∷ names) ∷ fourth ∷ more)) (sym c.as_slice-2.ensures))
    (wrote_then first_done (c.in_ok-write_name_line.ensures.ok 2 (third ∷ fourth ∷ more))) in
    wrote_broke second_done (c.in_err-write_name_line-2.ensures.err 3 (fourth ∷ more)) in
    on_err _ f

pub returns-clause-ok : goal.returns-clause-ok
returns-clause-ok g c =
    on_ok_weaker c.write_line-2.result (λ wrote more.
    let fourth = worded_line 4 (codes ".names" ∷ zero_name (mark_in c.args.lift.now) ∷ []) in
    let third = worded_line 3 (codes ".outputs" ∷ c.args.lift.now.outs) in
    let second = worded_line 2 (codes ".inputs" ∷ c.args.lift.now.ins) in
    let first_done = wrote_to (ap (λ names. held c.write_line.new.page ++ worded_text (worded_line 2 (codes ".inputs" ∷ names) ∷ third ∷ fourth ∷ more)) (sym c.as_slice.ensures))
    (c.in_ok-write_line.ensures.ok 1 (second ∷ third ∷ fourth ∷ more)) in
    let second_done = wrote_to (ap (λ names. held c.write_name_line.new.page ++ worded_text (worded_line 3 (codes ".outputs" ∷ names) ∷ fourth ∷ more)) (sym c.as_slice-2.ensures))
    (wrote_then first_done (c.in_ok-write_name_line.ensures.ok 2 (third ∷ fourth ∷ more))) in
    wrote_then (wrote_then second_done (c.in_ok-write_name_line-2.ensures.ok 3 (fourth ∷ more))) (wrote 4 more))
    c.write_line-2.ensures.ok

pub returns-clause-err : goal.returns-clause-err
returns-clause-err g c =
    on_err_weaker c.write_line-2.result (λ broke more.
    let fourth = worded_line 4 (codes ".names" ∷ zero_name (mark_in c.args.lift.now) ∷ []) in
    let third = worded_line 3 (codes ".outputs" ∷ c.args.lift.now.outs) in
    let second = worded_line 2 (codes ".inputs" ∷ c.args.lift.now.ins) in
    let first_done = wrote_to (ap (λ names. held c.write_line.new.page ++ worded_text (worded_line 2 (codes ".inputs" ∷ names) ∷ third ∷ fourth ∷ more)) (sym c.as_slice.ensures))
    (c.in_ok-write_line.ensures.ok 1 (second ∷ third ∷ fourth ∷ more)) in
    let second_done = wrote_to (ap (λ names. held c.write_name_line.new.page ++ worded_text (worded_line 3 (codes ".outputs" ∷ names) ∷ fourth ∷ more)) (sym c.as_slice-2.ensures))
    (wrote_then first_done (c.in_ok-write_name_line.ensures.ok 2 (third ∷ fourth ∷ more))) in
    wrote_broke (wrote_then second_done (c.in_ok-write_name_line-2.ensures.ok 3 (fourth ∷ more))) (broke 4 more))
    c.write_line-2.ensures.err
