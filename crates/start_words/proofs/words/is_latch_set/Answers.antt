use Rattle.std.proofs.Common.{ap, ◌∙◌}
use Rattle.std.specs.Option.{is_some}
use Rattle.start_words.proofs.Sets.{any_sets}
use Rattle.start_words.proofs.words.is_latch_set.Goals as goal

pub returns : goal.returns
returns c = λ latches before are.
    c.contains_key.ensures ∙ ap is_some (are c.args.context c.args.class) ∙ any_sets latches c.args.context c.args.class before
