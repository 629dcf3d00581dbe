use Rattle.std.proofs.Common.{sym, ◌∙◌, []}
use Rattle.std.proofs.lemmas.Option.{get_or_from_slice_get}
use Rattle.vcd_write.proofs.text.reference.Goals as goal

pub returns : goal.returns
returns c = c.as_slice.ensures ∙ sym (get_or_from_slice_get c.args.vcd.now.references c.args.n c.get.result.now [] c.get.ensures)
