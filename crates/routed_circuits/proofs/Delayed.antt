-- A source at the end of a row of latches.
use Rattle.std.proofs.Common.{ℕ, zero, suc, ◌+◌, ◌<◌, ◌≡◌, sym, ap, ap₂, ◌∙◌, false, Bool, List, length, arith}
use Rattle.std.proofs.lemmas.List.{get_or-map}
use Rattle.lists.specs.Items.{list_at}
use Rattle.cell_core.specs.declared.cells.Src.{Src}
use Rattle.cell_core.specs.declared.cells.Src.TheVariants.{Latch, Zero}
use Rattle.cell_core.specs.declared.list.CellList.{CellList}
use Rattle.cell_core.specs.Meaning.{bit_of}
use Rattle.routed_circuits.specs.Runs.{src_at, list_state, list_bit, IsDelayed}

module _ (list : CellList) (rows : List (List Bool)) where
  -- a latch has the bit that its data had one cycle before
  pub latch_later : (l t : ℕ) → l < length list.latches → list_bit list rows (suc t) (Latch l) ≡ list_bit list rows t (src_at list.latches l)
  latch_later l t low = get_or-map (bit_of list (list_at rows t) (list_state list rows t)) list.latches l Zero false low

  pub delayed_later : (m : ℕ) (from to : Src) → IsDelayed list m from to → (t : ℕ) → list_bit list rows (m + t) to ≡ list_bit list rows t from
  delayed_later zero from to e t = let none : zero + t ≡ t = omega arith in ap₂ (list_bit list rows) none e
  delayed_later (suc m) from to (l, low, e, more) t =
      let one : suc m + t ≡ suc (m + t) = omega arith in
      ap₂ (list_bit list rows) one e ∙ latch_later l (m + t) low ∙ delayed_later m from (src_at list.latches l) more t

-- before, it has the bits of its latches' starts, whatever the input bits are
pub delayed_start : (list : CellList) (rows others : List (List Bool)) (m : ℕ) (from to : Src) → IsDelayed list m from to → (t : ℕ) → t < m → list_bit list rows t to ≡ list_bit list others t to
delayed_start list rows others zero from to e t low = absurd (omega arith)
delayed_start list rows others (suc m) from to (l, within, e, more) zero low =
    ap (list_bit list rows zero) e ∙ sym (ap (list_bit list others zero) e)
delayed_start list rows others (suc m) from to (l, within, e, more) (suc t) low =
    ap (list_bit list rows (suc t)) e
    ∙ latch_later list rows l t within
    ∙ delayed_start list rows others m from (src_at list.latches l) more t (omega arith)
    ∙ sym (ap (list_bit list others (suc t)) e ∙ latch_later list others l t within)
