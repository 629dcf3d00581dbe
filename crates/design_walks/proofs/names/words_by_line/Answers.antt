use Rattle.std.proofs.Common.{◌∙◌, ap, rules}
use Rattle.netlist_meaning.specs.InOrder.{by_line}
use Rattle.std.proofs.lemmas.List.Sorted.{answers_always}
use Rattle.design_walks.proofs.Sorted.{sorted_by_line}
use Rattle.design_walks.proofs.names.words_by_line.Goals as goal

pub returns : goal.returns
returns c =
    sorted_by_line c.in_ok-words.words.items c.sort_by_key.new.self.items
    (c.in_ok-sort_by_key.ensures.sorted (λ word. word.line) (answers_always _ _ _ (λ f a r k. search rules)))
    (c.in_ok-sort_by_key.ensures.stable (λ word. word.line) (answers_always _ _ _ (λ f a r k. search rules)))
    ∙ ap by_line c.in_ok-words.ensures
