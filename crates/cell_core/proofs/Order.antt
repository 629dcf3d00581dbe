-- What is there stays there, and cells stay in order.
use Rattle.std.proofs.Common.{◌≡◌, refl, ◌∙◌, ap, ℕ, suc, ◌+◌, ◌<◌, ◌≤◌, Bool, true, false, cond, List, [], ◌∷◌, ◌++◌, length, arith}
use Rattle.std.proofs.lemmas.Bool.{ltb-true, lt-ltb, and_parts, and_from}
use Rattle.std.proofs.lemmas.List.{length_push}
use Rattle.cell_core.specs.declared.cells.Src.{Src}
use Rattle.cell_core.specs.declared.cells.Src.TheVariants.{Input, Latch, One, Zero, Cell as Made}
use Rattle.cell_core.specs.declared.cells.Cell.{Cell}
use Rattle.cell_core.specs.Sources.{is_there, reads_there, are_in_order, are_there}

pub there_more : (inputs latches made more : ℕ) (src : Src) → made ≤ more → is_there inputs latches made src ≡ true → is_there inputs latches more src ≡ true
there_more inputs latches made more (Input i) le there = there
there_more inputs latches made more (Latch i) le there = there
there_more inputs latches made more One le there = refl
there_more inputs latches made more Zero le there = refl
there_more inputs latches made more (Made i) le there = lt-ltb i more (let lt : i < made = ltb-true i made there in omega arith)

pub all_there_more : (inputs latches made more : ℕ) (srcs : List Src) → made ≤ more → are_there inputs latches made srcs ≡ true → are_there inputs latches more srcs ≡ true
all_there_more inputs latches made more [] le there = refl
all_there_more inputs latches made more (src ∷ srcs) le there =
    let parts : (is_there inputs latches made src ≡ true) × (are_there inputs latches made srcs ≡ true) = and_parts _ _ there in
    and_from _ _ (there_more inputs latches made more src le parts.0) (all_there_more inputs latches made more srcs le parts.1)

-- cells after cells
pub in_order-append : (inputs latches made : ℕ) (cells more : List Cell) → are_in_order inputs latches made cells ≡ true → are_in_order inputs latches (made + length cells) more ≡ true
    → are_in_order inputs latches made (cells ++ more) ≡ true
in_order-append inputs latches made [] more first then = ap (λ n. are_in_order inputs latches n more) (let e : made ≡ made + 0 = omega arith in e) ∙ then
in_order-append inputs latches made (cell ∷ cells) more first then =
    let parts : (reads_there inputs latches made cell ≡ true) × (are_in_order inputs latches (suc made) cells ≡ true) = and_parts _ _ first in
    let e : suc made + length cells ≡ made + length (cell ∷ cells) = omega arith in
    and_from _ _ parts.0 (in_order-append inputs latches (suc made) cells more parts.1 (ap (λ n. are_in_order inputs latches n more) e ∙ then))

pub in_order_push : (inputs latches : ℕ) (cells : List Cell) (cell : Cell) → are_in_order inputs latches 0 cells ≡ true → reads_there inputs latches (length cells) cell ≡ true
    → are_in_order inputs latches 0 (cells ++ cell ∷ []) ≡ true
in_order_push inputs latches cells cell first there =
    let e : 0 + length cells ≡ length cells = omega arith in
    in_order-append inputs latches 0 cells (cell ∷ []) first (and_from _ _ (ap (λ n. reads_there inputs latches n cell) e ∙ there) refl)

-- what a list keeps where a cell was added, or was not
pub record Keeps (inputs latches : ℕ) (cells new : List Cell) : Type 0 where
  pub in_order : are_in_order inputs latches 0 new ≡ true
  pub there : (srcs : List Src) → are_there inputs latches (length cells) srcs ≡ true → are_there inputs latches (length new) srcs ≡ true

pub keeps : (inputs latches : ℕ) (cells new : List Cell) (cell : Cell) (ok : Bool) → new ≡ cond ok (cells ++ cell ∷ []) cells
    → are_in_order inputs latches 0 cells ≡ true → reads_there inputs latches (length cells) cell ≡ true → Keeps inputs latches cells new
keeps inputs latches cells new cell true is order there =
    record {
      in_order = ap (are_in_order inputs latches 0) is ∙ in_order_push inputs latches cells cell order there;
      there = λ srcs h. ap (λ l. are_there inputs latches (length l) srcs) is ∙ all_there_more inputs latches (length cells) (length (cells ++ cell ∷ [])) srcs (omega (arith, length_push cells cell)) h;
    }
keeps inputs latches cells new cell false is order there =
    record {
      in_order = ap (are_in_order inputs latches 0) is ∙ order;
      there = λ srcs h. ap (λ l. are_there inputs latches (length l) srcs) is ∙ h;
    }
