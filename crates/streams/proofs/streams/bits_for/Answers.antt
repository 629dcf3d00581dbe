use Rattle.std.proofs.Common.{ap, ◌∙◌}
use Rattle.std.specs.Option.{option_copied}
use Rattle.streams.proofs.streams.bits_for.Goals as goal

pub returns : goal.returns
returns c = λ contexts words are. ap option_copied (c.copied.ensures ∙ c.get.ensures.value) ∙ are (c.args.context, c.args.name)
