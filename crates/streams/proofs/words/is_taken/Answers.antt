use Rattle.std.proofs.Common.{ap, ◌∙◌}
use Rattle.std.specs.BTreeMap.{get}
use Rattle.std.specs.Option.{is_some}
use Rattle.streams.specs.GivenBits.{input_cmp}
use Rattle.streams.proofs.Found.{any_bits}
use Rattle.streams.proofs.GivenWords.{is_given}
use Rattle.streams.proofs.words.is_taken.Goals as goal

pub returns : goal.returns
returns c = λ contexts before are.
    c.contains_key.ensures
    ∙ is_given (get input_cmp c.args.given.now (c.args.context, c.args.name))
    ∙ ap is_some (are (c.args.context, c.args.name))
    ∙ any_bits contexts before (c.args.context, c.args.name.now)
