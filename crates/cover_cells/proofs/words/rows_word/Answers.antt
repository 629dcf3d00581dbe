use Rattle.std.proofs.Common.{◌∙◌, ap, sym, length, arith}
use Rattle.std.proofs.lemmas.Bool.{true≢false, eq-eqb}
use Rattle.netlist_meaning.specs.CoverValue.{cover_value}
use Rattle.cover_cells.proofs.Tabled.{off_word}
use Rattle.cover_cells.proofs.words.rows_word.Goals as goal

pub returns : goal.returns
returns c =
    λ bits long.
    off_word bits c.args.rows.now c.loop-row.row-index c.args.nets c.loop-row.word c.and_not_words.result c.requires long (omega (arith, c.loop-row-test.false, c.loop-row.auto.row-index-end))
    (λ none. true≢false (sym (eq-eqb (length c.args.rows.now) 0 (ap length none)) ∙ sym c.is_empty.ensures ∙ c.if-is_empty.false)) (c.loop-row.invariant bits long) c.and_not_words.ensures
    ∙ sym (ap (λ on. cover_value c.args.rows.now on bits) c.if-on.false)
