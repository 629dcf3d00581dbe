use Rattle.std.proofs.Common.{◌-◌, ap, ◌∙◌, sym, take, drop, length}
use Rattle.std.proofs.lemmas.List.{take_rest}
use Rattle.streams.proofs.Places.{not_cut, is_cut}
use Rattle.streams.proofs.cuts.cut.Goals as goal

pub returns-in_err-count : goal.returns-in_err-count
returns-in_err-count c = rw c.from_residual.ensures (not_cut c.args.word.now (sym c.bits_after.ensures ∙ c.in_err-count.was))

pub returns : goal.returns
returns c =
    let word = c.args.word.now in
    let count = c.in_ok-count.count in
    let at = is_cut word count (sym c.bits_after.ensures ∙ c.in_ok-count.was) in (
      at.0,
      ap (λ n. take (length word - n - 1) word) (sym at.1),
      take_rest word (length word - count) ∙ ap (λ n. drop (length word - n) word) (sym at.1),
    )
