use Rattle.std.proofs.Common.{◌≤◌, ◌==◌, ◌∙◌, sym, ap, subst, length}
use Rattle.std.specs.List.{position_or_len}
use Rattle.aiger_text.specs.EntryFaults.{even}
use Rattle.aiger_meaning.proofs.NetIndex.{net_is, no_net, first_within}
use Rattle.aiger_meaning.proofs.literals.OwnLiterals.net.Goals as goal

pub returns-in-Some-clause-net : goal.returns-in-Some-clause-net
returns-in-Some-clause-net c =
    net_is c.self.inside.literals.items c.self.inside.nets c.args.lit c.in-Some.net.now c.self.invariant (sym c.in-Some.ensures.value)
    ∙ ap (position_or_len (λ own. own == even c.args.lit)) c.self.view_is

pub returns-in-Some-clause-within : goal.returns-in-Some-clause-within
returns-in-Some-clause-within c = subst (λ n. n ≤ length c.args.self.now) (sym (returns-in-Some-clause-net c)) (first_within c.args.self.now c.args.lit)

pub returns-in-None-clause-net : goal.returns-in-None-clause-net
returns-in-None-clause-net c =
    ap length c.as_slice.ensures.value
    ∙ no_net c.self.inside.literals.items c.self.inside.nets c.args.lit c.self.invariant (sym c.in-None.ensures.value)
    ∙ ap (position_or_len (λ own. own == even c.args.lit)) c.self.view_is
