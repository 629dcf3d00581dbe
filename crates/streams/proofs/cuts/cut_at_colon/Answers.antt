use Rattle.std.proofs.Common.{◌+◌, ap, ◌∙◌, sym, take, drop}
use Rattle.std.proofs.lemmas.List.{take_rest}
use Rattle.streams.specs.Cuts.{is_colon}
use Rattle.streams.proofs.Places.{none_passes, first_is}
use Rattle.streams.proofs.cuts.cut_at_colon.Goals as goal

pub returns-in_err-place : goal.returns-in_err-place
returns-in_err-place c = rw c.from_residual.ensures (none_passes is_colon c.args.name.now (sym c.colon_in.ensures ∙ c.in_err-place.was))

pub returns : goal.returns
returns c =
    let name = c.args.name.now in
    let place = c.in_ok-place.place in
    let at = first_is is_colon name place (sym c.colon_in.ensures ∙ c.in_ok-place.was) in (
      at.0,
      ap (λ n. take n name) (sym at.1),
      take_rest name (place + 1) ∙ ap (λ n. drop (n + 1) name) (sym at.1),
    )
