-- A band that moves on shows the next planes.
use Rattle.ww_rule.specs.Due.{AreLeftAt, due_count}
use Rattle.std.proofs.Common.{pos, negsuc, ◌+ℤ◌, ℕ, ◌+◌, ◌≡◌, refl, sym, ap, ◌∙◌, cond, List, take}
use Rattle.ww_rule.specs.declared.pattern.State.TheVariants.{Head}
use Rattle.ww_rule.specs.declared.pattern.Injection.{Injection}
use Rattle.ww_rule.specs.Wireworld.{Plane, Due, next_plane, injected}
use Rattle.ww_rule.specs.Injections.{has_cell}
use Rattle.band_rows.specs.declared.field.Field.{Field}
use Rattle.band_rows.specs.Fields.{ShowsField}
use Rattle.lane_kernel.specs.PlaneRows.{IsEmptyWest}
use Rattle.band_core.specs.Band.{AreDueIn, IsEvolution, injected_cells}
use Rattle.ww_rule.proofs.Due.{front_cells}

pub west : (e : ℕ → Plane) (due : Due) (width height : ℕ) → IsEvolution e due width height → (g : ℕ) → IsEmptyWest (e g)
west e due width height evo g x y = evo.empty g (negsuc x) y refl

-- a field with the injections made heads that are due in it
pub field_moves : (e : ℕ → Plane) (due : Due) (width height : ℕ) → IsEvolution e due width height → (g y : ℕ) (own left now : List Injection) (new : Field) → AreLeftAt (g + 1) own left → now ≡ take (due_count (g + 1) left) left → AreDueIn own due y new.rows → ShowsField new (injected (has_cell (injected_cells now)) (next_plane (e g))) (pos y) → ShowsField new (e (g + 1)) (pos y)
field_moves e due width height evo g y own left now new are_left front same shown k x lt =
    let z = pos y +ℤ pos k in
    shown k x lt
    ∙ ap (λ t. cond t Head (next_plane (e g) (pos x) z)) (ap (λ cells. has_cell cells (pos x) z) (front_cells (g + 1) own left are_left now front) ∙ same (g + 1) x k lt)
    ∙ sym (ap (λ p. p (pos x) z) (evo.next g))
