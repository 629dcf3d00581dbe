-- Which slot stands in a tile column: left of the body, in it, or right of it.
use Rattle.std.proofs.Common.{◌≡◌, ◌∙◌, ℕ, ◌≤◌, ◌<◌, true, false, cond, ltb, arith}
use Rattle.std.proofs.lemmas.Bool.{cond-true, cond-false}
use Rattle.std.proofs.lemmas.Bool.Decides.{nat_tests}
use Rattle.lane_core.specs.declared.plan.Plan.{Plan}
use Rattle.tiling.specs.Tiling.{Slot}
use Rattle.plan_layout.specs.Layout.{end_of_body, by_column}

pub by_column-left : (plan : Plan) (q : ℕ) (a b c : Slot) → q < plan.latches → by_column plan q a b c ≡ a
by_column-left plan q a b c h =
    let yes : ltb q plan.latches ≡ true = grind (arith, nat_tests) in
    cond-true (ltb q plan.latches) a (cond (ltb q (end_of_body plan)) b c) yes

pub by_column-middle : (plan : Plan) (q : ℕ) (a b c : Slot) → plan.latches ≤ q → q < end_of_body plan → by_column plan q a b c ≡ b
by_column-middle plan q a b c from to =
    let no : ltb q plan.latches ≡ false = grind (arith, nat_tests) in
    let yes : ltb q (end_of_body plan) ≡ true = grind (arith, nat_tests) in
    cond-false (ltb q plan.latches) a (cond (ltb q (end_of_body plan)) b c) no ∙ cond-true (ltb q (end_of_body plan)) b c yes

pub by_column-right : (plan : Plan) (q : ℕ) (a b c : Slot) → end_of_body plan ≤ q → by_column plan q a b c ≡ c
by_column-right plan q a b c far =
    let no : ltb q plan.latches ≡ false = grind (arith, nat_tests) in
    let no' : ltb q (end_of_body plan) ≡ false = grind (arith, nat_tests) in
    cond-false (ltb q plan.latches) a (cond (ltb q (end_of_body plan)) b c) no ∙ cond-false (ltb q (end_of_body plan)) b c no'
