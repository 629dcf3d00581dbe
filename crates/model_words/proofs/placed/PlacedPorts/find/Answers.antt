use Rattle.std.proofs.Common.{◌≡◌, ap, sym, ◌∙◌, subst, Some}
use Rattle.std.specs.Prelude.{slice_get}
use Rattle.std.specs.Option.{option_copied}
use Rattle.netlist_core.specs.Names.{model_named}
use Rattle.model_words.specs.Placed.{ArePlacedNames}
use Rattle.model_words.proofs.NumberedPorts.{all_known, looked_up, placed_at}
use Rattle.model_words.proofs.placed.PlacedPorts.find.Goals as goal

pub returns : goal.returns
returns c = λ models knows placing.
    let name = c.args.name.now in
    let number = c.in_ok-number.number in
    let ports = c.args.self.now.ports in
    let first = c.in_ok-number.ensures.found in
    let there : slice_get models number ≡ Some first.model = ap (λ ms. slice_get ms number) (sym knows.named) ∙ first.is_there in
    let placed : model_named models name ≡ Some first.model = ap (λ ms. model_named ms name) (sym knows.named) ∙ first.is_named in
    let found : option_copied c.get.result ≡ slice_get ports number = looked_up c.as_slice.result.now number c.get.result c.get.ensures.lookup.0 c.get.ensures.lookup.1 ∙ ap (λ ps. slice_get ps number) c.as_slice.ensures in
    subst (λ o. ArePlacedNames o (option_copied c.get.result)) (sym placed) (subst (ArePlacedNames (Some first.model)) (sym found) (placed_at ports models number first.model (all_known knows.ports placing) there))
