-- Sources that are gathered one after another.
use Rattle.std.proofs.Common.{◌≡◌, refl, sym, ◌∙◌, ap, ℕ, ◌+◌, ◌<◌, List, [], ◌∷◌, ◌++◌, map, take, length, get_or, Option, Some, None}
use Rattle.std.specs.List.{filter_map}
use Rattle.std.specs.Option.{option_to_list}
use Rattle.std.proofs.lemmas.List.{take_more, map-append}
use Rattle.std.proofs.lemmas.List.Elements.{filter_map-append}
use Rattle.cell_core.specs.declared.cells.Src.{Src}
use Rattle.cover_mapper.specs.Sourced.{ClassSources, sources_at}

one : (sources : ClassSources) (class : ℕ) (found : Option Src) → get_or sources class None ≡ found → sources_at sources (class ∷ []) ≡ option_to_list found
one sources class None e = ap (λ o. filter_map (λ (u : ℕ). o) (class ∷ [])) e
one sources class (Some src) e = ap (λ o. filter_map (λ (u : ℕ). o) (class ∷ [])) e

pub gathered_more : {X : Type 0} (class : X → ℕ) (sources : ClassSources) (found : List Src) (xs : List X) (k : ℕ) (d : X) → k < length xs → found ≡ sources_at sources (map class (take k xs))
    → found ++ option_to_list (get_or sources (class (get_or xs k d)) None) ≡ sources_at sources (map class (take (k + 1) xs))
gathered_more class sources found xs k d within is =
    let x = get_or xs k d in
    ap (λ l. l ++ option_to_list (get_or sources (class x) None)) is
    ∙ ap (λ l. sources_at sources (map class (take k xs)) ++ l) (sym (one sources (class x) (get_or sources (class x) None) refl))
    ∙ sym (filter_map-append (λ c. get_or sources c None) (map class (take k xs)) (class x ∷ []))
    ∙ ap (sources_at sources) (sym (map-append class (take k xs) (x ∷ [])))
    ∙ ap (λ l. sources_at sources (map class l)) (sym (take_more xs k d within))
