use Rattle.std.proofs.Common.{rules, ◌≡◌, ◌∙◌, ap}
use Rattle.lane_core.specs.declared.starts.Start.{Start}
use Rattle.lane_core.specs.Starts.{is_start_at}
use Rattle.latch_loops.specs.Starts.{starts_of_loops}
use Rattle.latch_loops.proofs.Named.{HasNamesOf, starts_are_on_ways, names_are_edges}
use Rattle.latch_loops.proofs.loop_starts.starts_of.Goals as goal

pub returns-clause-contexts : goal.returns-clause-contexts
returns-clause-contexts c =
    let list : c.loop-number.found.items ≡ starts_of_loops c.args.plan.now c.args.starts.now c.args.plan.now.latches = search rules in
    let all : HasNamesOf c.args.plan.now c.args.starts.now c.of.result.list = λ x y. c.of.ensures x y ∙ ap (λ names. is_start_at names x y) list in
    starts_are_on_ways c.args.plan.now c.requires.admissible c.args.starts.now c.requires.fit c.requires.long c.of.result.list all

pub returns-clause-edges : goal.returns-clause-edges
returns-clause-edges c =
    let list : c.loop-number.found.items ≡ starts_of_loops c.args.plan.now c.args.starts.now c.args.plan.now.latches = search rules in
    let all : HasNamesOf c.args.plan.now c.args.starts.now c.of.result.list = λ x y. c.of.ensures x y ∙ ap (λ names. is_start_at names x y) list in
    names_are_edges c.args.plan.now c.requires.admissible c.args.starts.now c.requires.fit c.of.result.list all
