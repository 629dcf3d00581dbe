use Rattle.std.proofs.Common.{◌∙◌, ap, length}
use Rattle.std.specs.Prelude.{unwrap_or}
use Rattle.blifww_tool.proofs.Viewed.{bits_are}
use Rattle.blifww_tool.proofs.window.bits_of.Goals as goal

pub returns : goal.returns
returns c = c.unwrap_or.ensures ∙ ap (λ o. unwrap_or o (length c.args.word.now)) c.bytes_after.ensures ∙ bits_are c.args.word.now
