-- The macro step at an edge, by the two blocks that meet there.
use Rattle.std.proofs.Common.{◌≡◌, refl, ap, ℕ, zero, suc, ◌+◌, ◌||◌, arith}
use Rattle.tiling.specs.Tiling.{Tiling, Lit}
use Rattle.tiling.specs.Tiling.Edge.{Beside, Above}
use Rattle.tiling.specs.MacroStep.{macro_step, slot_answers}

pub beside_first : (tiling : Tiling) (lit : Lit) (q l : ℕ) → q ≡ 0 → macro_step tiling lit (Beside q l) ≡ slot_answers lit q l (tiling q l) 0 8
beside_first tiling lit zero l h = refl
beside_first tiling lit (suc q) l h = absurd (omega arith)

pub beside_next : (tiling : Tiling) (lit : Lit) (q l p : ℕ) → p + 1 ≡ q
    → macro_step tiling lit (Beside q l) ≡ (slot_answers lit p l (tiling p l) 31 8 || slot_answers lit q l (tiling q l) 0 8)
beside_next tiling lit zero l p h = absurd (omega arith)
beside_next tiling lit (suc q) l p h =
    let same : q ≡ p = omega arith in
    ap (λ n. slot_answers lit n l (tiling n l) 31 8 || slot_answers lit (suc q) l (tiling (suc q) l) 0 8) same

pub above_first : (tiling : Tiling) (lit : Lit) (q l : ℕ) → l ≡ 0 → macro_step tiling lit (Above q l) ≡ slot_answers lit q l (tiling q l) 16 0
above_first tiling lit q zero h = refl
above_first tiling lit q (suc l) h = absurd (omega arith)

pub above_next : (tiling : Tiling) (lit : Lit) (q l p : ℕ) → p + 1 ≡ l
    → macro_step tiling lit (Above q l) ≡ (slot_answers lit q p (tiling q p) 16 15 || slot_answers lit q l (tiling q l) 16 0)
above_next tiling lit q zero p h = absurd (omega arith)
above_next tiling lit q (suc l) p h =
    let same : l ≡ p = omega arith in
    ap (λ n. slot_answers lit q n (tiling q n) 16 15 || slot_answers lit q (suc l) (tiling q (suc l)) 16 0) same
