use Rattle.std.proofs.Common.{◌∙◌, ap, ◌++◌, ◌∷◌, flat_map}
use Rattle.std.specs.Prelude.{decimal}
use Rattle.place_paths.proofs.Paths.{joined_numbers}
use Rattle.place_paths.proofs.path.joined.Goals as goal

pub returns : goal.returns
returns c =
    c.in_ok-push_inner.ensures
    ∙ ap (λ t. t ++ flat_map (λ number. 46 ∷ decimal number) c.args.inner.now) (c.in_ok-text.ensures.items ∙ c.as_bytes.ensures.value ∙ c.format.ensures.text)
    ∙ joined_numbers c.args.first c.args.inner.now
