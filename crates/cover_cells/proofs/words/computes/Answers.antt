use Rattle.std.proofs.Common.{◌≡◌, ◌∙◌, ap, sym, length}
use Rattle.cell_core.specs.Sources.{is_there}
use Rattle.cover_cells.proofs.words.computes.Goals as goal

pub source_word-requires-clause-there : goal.source_word-requires-clause-there
source_word-requires-clause-there c =
    let e : length c.deref.result.now ≡ length c.args.cells.now = ap length c.deref.ensures.value ∙ c.in_ok-words.ensures.long in
    ap (λ n. is_there c.args.nets 0 n c.args.root) e ∙ sym c.is_there.ensures ∙ c.if-not-is_there.false
