use Rattle.std.proofs.Common.{◌==◌, ◌∙◌, ap, rules, tests}
use Rattle.std.specs.declared.slice.Split.{Split}
use Rattle.std.proofs.lemmas.Iterator.{YieldsList-from_take}
use Rattle.std.proofs.lemmas.Iterator.Consumers.{map_from_collect}
use Rattle.std.proofs.lemmas.Iterator.Splits.{YieldsList-from_slice_split}
use Rattle.port_table.proofs.forms.fields_of.Goals as goal

pub returns : goal.returns
returns c =
    let parts = c.take.ensures.source in
    map_from_collect _ c.collect.ensures.ran
    (YieldsList-from_take {s = c.take.result} 8
    (YieldsList-from_slice_split _ (λ b. b == 32) c.args.entry.now (ap (λ (s : Split _ _). s.rest.now) parts ∙ c.split.ensures.rest) (ap (λ (s : Split _ _). s.done) parts ∙ c.split.ensures.done) (ap (λ (s : Split _ _). s.pred) parts ∙ c.split.ensures.closure) (λ x b q k. search (rules, tests)))
    c.take.ensures.count)
