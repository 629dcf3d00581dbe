use Rattle.std.proofs.Common.{sym, ap, ◌∙◌, ◌++◌, [], ◌∷◌}
use Rattle.net_faults.proofs.Numbers.{back, back_numbering, fresh_keeps, fresh_numbering, put_there}
use Rattle.net_faults.proofs.numbering.Numbering.number.Goals as goal

pub returns-in_ok-push-in-None-clause-number : goal.returns-in_ok-push-in-None-clause-number
returns-in_ok-push-in-None-clause-number c =
    put_there c.args.self.now (record { numbers = c.put.new.self.numbers; names = c.push.new.self }) c.args.name.now c.len-next.result c.in_ok-put.ensures.new

pub returns-in_ok-push-in-None-clause-numbering : goal.returns-in_ok-push-in-None-clause-numbering
returns-in_ok-push-in-None-clause-numbering c =
    fresh_numbering c.args.self.now (record { numbers = c.put.new.self.numbers; names = c.push.new.self }) c.args.name c.len-next.result c.requires c.len-next.ensures c.in_ok-put.ensures.new
    (c.in_ok-push-in-None.ensures.items ∙ ap (λ names. names ++ c.args.name ∷ []) c.in_ok-put.ensures.names)

pub returns-in_ok-push-in-None-clause-keeps : goal.returns-in_ok-push-in-None-clause-keeps
returns-in_ok-push-in-None-clause-keeps c =
    fresh_keeps c.args.self.now (record { numbers = c.put.new.self.numbers; names = c.push.new.self }) c.args.name.now c.len-next.result (sym c.in_ok-put.ensures.old ∙ c.in-None.is) c.in_ok-put.ensures.new

pub returns-in_ok-put-in-Some-clause-number : goal.returns-in_ok-put-in-Some-clause-number
returns-in_ok-put-in-Some-clause-number c = put_there c.put.new.self c.put-in-Some.new.self c.args.name.now c.in-Some.number c.in_ok-put-in-Some.ensures.new

pub returns-in_ok-put-in-Some-clause-numbering : goal.returns-in_ok-put-in-Some-clause-numbering
returns-in_ok-put-in-Some-clause-numbering c =
    back_numbering c.args.self.now c.put-in-Some.new.self c.requires
    (back c.args.self.now c.put.new.self c.put-in-Some.new.self c.args.name.now c.len-next.result c.in-Some.number (sym c.in_ok-put.ensures.old ∙ c.in-Some.is) c.in_ok-put.ensures.new c.in_ok-put-in-Some.ensures.new)
    (c.in_ok-put-in-Some.ensures.names ∙ c.in_ok-put.ensures.names)

pub returns-in_ok-put-in-Some-clause-keeps : goal.returns-in_ok-put-in-Some-clause-keeps
returns-in_ok-put-in-Some-clause-keeps c = λ name number is.
    back c.args.self.now c.put.new.self c.put-in-Some.new.self c.args.name.now c.len-next.result c.in-Some.number (sym c.in_ok-put.ensures.old ∙ c.in-Some.is) c.in_ok-put.ensures.new c.in_ok-put-in-Some.ensures.new name ∙ is
