-- Classes that all have a source.
use Rattle.std.proofs.Common.{◌≡◌, refl, sym, ◌∙◌, ap, ap₂, ℕ, suc, ◌<◌, Bool, true, List, [], ◌∷◌, map, length, get_or, Some, None, ⊎_elim, arith}
use Rattle.std.specs.List.{list_any, cons_option}
use Rattle.std.specs.Option.{unwrap_or}
use Rattle.std.proofs.lemmas.Bool.{true≢false, and_from, or_cases}
use Rattle.netlist_core.specs.declared.flat.Flat.{Flat}
use Rattle.netlist_meaning.specs.FlatValuation.{IsFlatValuation}
use Rattle.cell_core.specs.declared.cells.Src.{Src}
use Rattle.cell_core.specs.declared.cells.Src.TheVariants.{Zero}
use Rattle.cell_core.specs.declared.list.CellList.{CellList}
use Rattle.cell_core.specs.Sources.{is_one}
use Rattle.cell_sharing.specs.Grown.{HasSources, bits_of}
use Rattle.cell_meaning.specs.Needs.{any_needs_one}
use Rattle.cover_mapper.specs.Sourced.{ClassSources, AreSourced, sources_at, source_at}
use Rattle.netlist_meaning.specs.Flat.{FlatDriver}

abbrev pub IsKnown : ClassSources → ℕ → Type 0
IsKnown sources class = (src : Src) × (get_or sources class None ≡ Some src)

abbrev pub AreKnown : ClassSources → List ℕ → Type 0
AreKnown sources classes = (p : ℕ) → p < length classes → IsKnown sources (get_or classes p 0)

tail_known : (sources : ClassSources) (class : ℕ) (classes : List ℕ) → AreKnown sources (class ∷ classes) → AreKnown sources classes
tail_known sources class classes known p within = known (suc p) (omega (arith, within))

pub known_at : (sources : ClassSources) (class : ℕ) → IsKnown sources class → get_or sources class None ≡ Some (source_at sources class)
known_at sources class (src, is) = is ∙ ap Some (sym (ap (λ o. unwrap_or o Zero) is))

pub all_gathered : (sources : ClassSources) (classes : List ℕ) → AreKnown sources classes → sources_at sources classes ≡ map (source_at sources) classes
all_gathered sources [] known = refl
all_gathered sources (class ∷ classes) known =
    ap (λ o. cons_option o (sources_at sources classes)) (known_at sources class (known 0 (omega arith)))
    ∙ ap (λ l. source_at sources class ∷ l) (all_gathered sources classes (tail_known sources class classes known))

-- ---- what is said of one source is said of them all
pub all_there : (flat : Flat) (made : FlatDriver → Type 0) (list : CellList) (sources : ClassSources) (classes : List ℕ) → AreSourced flat made list sources → AreKnown sources classes → HasSources list (map (source_at sources) classes)
all_there flat made list sources [] first known = refl
all_there flat made list sources (class ∷ classes) first known =
    and_from _ _ (first.there class (source_at sources class) (known_at sources class (known 0 (omega arith)))) (all_there flat made list sources classes first (tail_known sources class classes known))

pub all_bits : (flat : Flat) (made : FlatDriver → Type 0) (list : CellList) (sources : ClassSources) (classes : List ℕ) → AreSourced flat made list sources → AreKnown sources classes
    → (inputs state : List Bool) (bits : ℕ → Bool) → IsFlatValuation flat inputs state bits → bits_of list (map (source_at sources) classes) inputs state ≡ map bits classes
all_bits flat made list sources [] first known inputs state bits solves = refl
all_bits flat made list sources (class ∷ classes) first known inputs state bits solves =
    ap₂ (λ (b : Bool) (bs : List Bool). b ∷ bs) (first.bits inputs state bits solves class (source_at sources class) (known_at sources class (known 0 (omega arith))))
    (all_bits flat made list sources classes first (tail_known sources class classes known) inputs state bits solves)

pub any_one : (flat : Flat) (made : FlatDriver → Type 0) (list : CellList) (sources : ClassSources) (classes : List ℕ) → AreSourced flat made list sources → AreKnown sources classes
    → list_any is_one (map (source_at sources) classes) ≡ true → any_needs_one flat ≡ true
any_one flat made list sources [] first known e = absurd (true≢false (sym e))
any_one flat made list sources (class ∷ classes) first known e =
    ⊎_elim (first.one class (source_at sources class) (known_at sources class (known 0 (omega arith)))) (any_one flat made list sources classes first (tail_known sources class classes known))
    (or_cases (is_one (source_at sources class)) (list_any is_one (map (source_at sources) classes)) e)
