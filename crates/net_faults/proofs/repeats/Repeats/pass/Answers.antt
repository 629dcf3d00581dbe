use Rattle.std.proofs.Common.{◌≡◌, sym, ap, ap₂, ◌∙◌, false, ◌||◌, ◌++◌, ◌∷◌}
use Rattle.std.specs.List.{list_any}
use Rattle.std.proofs.lemmas.List.Folds.{list_any-append}
use Rattle.netlist_rules.specs.Drivers.{same_name_before, same_name_up_to}
use Rattle.net_faults.specs.Numbering.{numbered_port}
use Rattle.net_faults.proofs.NamedLines.{moved, none_before, not_before_itself}
use Rattle.net_faults.proofs.repeats.Repeats.pass.Goals as goal

pub returns-then-has_passed-clause-passed : goal.returns-then-has_passed-clause-passed
returns-then-has_passed-clause-passed c = λ names before after is between.
    record {
      all = moved names c.args.self.now.all (numbered_port c.args.word) before after between.all;
      passed = c.insert-has_passed.ensures.added names before is between.passed;
    }

pub returns-else-has_passed-clause-passed : goal.returns-else-has_passed-clause-passed
returns-else-has_passed-clause-passed c = λ names before after is between.
    record {
      all = moved names c.args.self.now.all (numbered_port c.args.word) before after between.all;
      passed = c.insert-has_passed.ensures.added names before is between.passed;
    }

pub returns-else-has_passed-clause-told : goal.returns-else-has_passed-clause-told
returns-else-has_passed-clause-told c = λ names before after is between.
    let p = numbered_port c.args.word in
    let later = list_any (same_name_before p) after in
    let none : list_any (same_name_up_to p) before ≡ false = sym (c.insert-has_passed.ensures.stood names before is between.passed) ∙ c.if-has_passed.false in
    c.has_before.ensures names (before ++ p ∷ after) is between.all
    ∙ list_any-append (same_name_before p) before (p ∷ after)
    ∙ ap₂ (λ a b. a || (b || later)) (none_before names c.args.self.now.passed p before c.args.word.number is.number between.passed none) (not_before_itself p)
    ∙ ap (λ a. a || later) (sym none)
