use Rattle.std.proofs.Common.{ℕ, List, [], ◌∷◌}
use Rattle.std.proofs.lemmas.Result.{on_ok_weaker, on_err_weaker}
use Rattle.ww_base.specs.Pages.{held}
use Rattle.lists.proofs.Results.{on_err}
use Rattle.ww_base.proofs.Steps.{wrote_then, wrote_broke, wrote_as, broke_as}
use Rattle.blif_write.specs.Marks.{mark_after}
use Rattle.blif_write.proofs.Pieces.{name_joined}
use Rattle.blif_write.proofs.words.write_zero.Goals as goal

pub returns-in_err-write_mark-clause-err : goal.returns-in_err-write_mark-clause-err
returns-in_err-write_mark-clause-err g c =
    let f = λ (rest : List ℕ). broke_as (name_joined (held c.args.page.now) (mark_after c.args.leading) (122 ∷ []) rest) (c.in_err-write_mark.ensures.err (122 ∷ rest)) in
    on_err _ f

pub returns-clause-ok : goal.returns-clause-ok
returns-clause-ok g c =
    on_ok_weaker c.put.result (λ wrote rest.
    wrote_as (name_joined (held c.args.page.now) (mark_after c.args.leading) (122 ∷ []) rest) (wrote_then (c.in_ok-write_mark.ensures.ok (122 ∷ rest)) (wrote rest)))
    c.put.ensures.ok

pub returns-clause-err : goal.returns-clause-err
returns-clause-err g c =
    on_err_weaker c.put.result (λ broke rest.
    broke_as (name_joined (held c.args.page.now) (mark_after c.args.leading) (122 ∷ []) rest) (wrote_broke (c.in_ok-write_mark.ensures.ok (122 ∷ rest)) (broke rest)))
    c.put.ensures.err
