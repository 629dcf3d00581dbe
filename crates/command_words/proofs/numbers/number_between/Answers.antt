use Rattle.std.proofs.Common.{sym, ◌∙◌}
use Rattle.command_words.proofs.Numerals.{not_parsed}
use Rattle.command_words.proofs.numbers.number_between.Goals as goal

pub returns-in_err-number-clause-value : goal.returns-in_err-number-clause-value
returns-in_err-number-clause-value c =
    let digits = sym c.has_only_digits.ensures ∙ c.if-not-has_only_digits.false in
    c.from_residual.ensures ∙ sym (not_parsed c.args.least c.args.most c.args.text.now c.parse.result digits c.ranges.most.fits c.parse.ensures.value.0 (sym c.ok.ensures.value ∙ c.in_err-number.was))
