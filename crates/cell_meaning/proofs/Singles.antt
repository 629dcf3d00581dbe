-- The covers of two nets that are one cell: those with the rows of an OR, an XOR or an AND-NOT.
use Rattle.std.specs.Prelude.{◌≡◌, true, [], ◌∷◌, Some, codes}
use Rattle.std.proofs.Common.{refl}
use Rattle.cell_core.specs.declared.cells.Src.{Src}
use Rattle.cell_core.specs.declared.cells.Cell.TheVariants.{Or, Xor, AndNot}
use Rattle.cell_meaning.specs.Singles.{single_cell}

singles_are_listed :
    (a b : Src) → (single_cell (a ∷ b ∷ []) (codes "1-" ∷ codes "-1" ∷ []) true ≡ Some (Or a b)) × (single_cell (a ∷ b ∷ []) (codes "-1" ∷ codes "1-" ∷ []) true ≡ Some (Or a b))
    × (single_cell (a ∷ b ∷ []) (codes "10" ∷ codes "01" ∷ []) true ≡ Some (Xor a b)) × (single_cell (a ∷ b ∷ []) (codes "01" ∷ codes "10" ∷ []) true ≡ Some (Xor a b))
    × (single_cell (a ∷ b ∷ []) (codes "10" ∷ []) true ≡ Some (AndNot a b)) × (single_cell (a ∷ b ∷ []) (codes "01" ∷ []) true ≡ Some (AndNot b a))
singles_are_listed a b = (refl, refl, refl, refl, refl, refl)
