use Rattle.std.proofs.lemmas.Result.{IfOk-weaker}
use Rattle.wwroute_tool.proofs.extract.netlist_of.Goals as goal

pub returns-clause-carried : goal.returns-clause-carried
returns-clause-carried c =
    IfOk-weaker c.lifted.result _ _
    (λ lift is. record { list = c.in_ok-list.list; shows = c.in_ok-list.ensures.shows; fits = c.in_ok-list.ensures.fits; named = c.in_ok-named.ensures.named; lifted = is })
    c.lifted.ensures.lift
