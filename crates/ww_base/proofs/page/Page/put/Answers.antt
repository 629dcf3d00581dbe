use Rattle.std.proofs.Common.{◌≡◌, ℕ, List, [], ◌++◌, sym, ap}
use Rattle.std.proofs.lemmas.Result.{on_ok_weaker, on_err_weaker}
use Rattle.ww_base.specs.Pages.{held}
use Rattle.ww_base.proofs.Steps.{wrote_then, wrote_broke, wrote_to}
use Rattle.ww_base.proofs.page.Page.put.Goals as goal

pub returns-then-piece-gt-PAGE-clause-ok : goal.returns-then-piece-gt-PAGE-clause-ok
returns-then-piece-gt-PAGE-clause-ok g c =
    let empty : held c.make_room.new.self ≡ [] = c.in_ok-make_room.ensures.empty c.if-piece-gt-PAGE.true in
    let p : List ℕ = c.args.piece.now in
    on_ok_weaker c.send.result (λ wrote rest.
    wrote_to (sym (ap (λ h. h ++ rest) empty))
    (wrote_then (wrote_to (ap (λ h. h ++ (p ++ rest)) empty) (c.in_ok-make_room.ensures.ok (p ++ rest))) (wrote rest)))
    c.send.ensures.ok

pub returns-then-piece-gt-PAGE-clause-err : goal.returns-then-piece-gt-PAGE-clause-err
returns-then-piece-gt-PAGE-clause-err g c =
    let empty : held c.make_room.new.self ≡ [] = c.in_ok-make_room.ensures.empty c.if-piece-gt-PAGE.true in
    let p : List ℕ = c.args.piece.now in
    on_err_weaker c.send.result (λ broke rest.
    wrote_broke (wrote_to (ap (λ h. h ++ (p ++ rest)) empty) (c.in_ok-make_room.ensures.ok (p ++ rest))) (broke rest))
    c.send.ensures.err
