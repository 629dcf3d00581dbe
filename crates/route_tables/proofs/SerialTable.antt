-- A table whose places and numbers agree gives each cell one owner.
use Rattle.std.proofs.Common.{ℤ, pos, negsuc, ◌+ℤ◌, ◌-ℤ◌, ◌≤ℤ◌, ℕ, suc, ◌+◌, ◌-◌, ◌*◌, ◌<◌, ◌≤◌, ◌≡◌, refl, sym, ap, ap₂, ◌∙◌, subst, inl, inr, int_eq, cond, List, length, get_or, arith, true≢false}
use Rattle.std.specs.Prelude.{◌≢◌, ◌⊎◌}
use Rattle.std.proofs.lemmas.Bool.{cases_lt, cases_Bool, lt-ltb, le-ltb}
use Rattle.std.proofs.lemmas.Bool.Decides.{Decides-int_eq}
use Rattle.std.proofs.lemmas.Int.{ints}
use Rattle.std.proofs.lemmas.List.{get_or_past}
use Rattle.std.proofs.lemmas.Nat.{mod-mul-add, div-mul-add}
use Rattle.ww_rule.specs.declared.pattern.State.{State}
use Rattle.ww_rule.specs.declared.pattern.State.TheVariants.{Empty}
use Rattle.gate_laws.specs.Wires.{IsNear}
use Rattle.tile_timing.specs.Window.{shown}
use Rattle.tile_timing.proofs.Windows.{beside, at_place}
use Rattle.route_tables.specs.Serials.{serial_at, listed_cell, HasSerial, IsListedAt, MayTouch, TouchesWell, AreSerials}

-- a number beside another
pub near_index : (x : ℕ) (u : ℤ) → (pos x -ℤ pos 1) ≤ℤ u → u ≤ℤ (pos x +ℤ pos 1) → (i : ℕ) × (i < 3) × (u ≡ pos (x + i) -ℤ pos 1)
near_index x u low high =
    elim (cases_Bool (int_eq u (pos (x + 0) -ℤ pos 1))) [
      | inl t ↦ (0, omega arith, (Decides-int_eq u (pos (x + 0) -ℤ pos 1)).0 t)
      | inr f ↦
          elim (cases_Bool (int_eq u (pos (x + 1) -ℤ pos 1))) [
            | inl t ↦ (1, omega arith, (Decides-int_eq u (pos (x + 1) -ℤ pos 1)).0 t)
            | inr g ↦
                let not_first : u ≢ pos (x + 0) -ℤ pos 1 = λ e. true≢false (sym ((Decides-int_eq u (pos (x + 0) -ℤ pos 1)).1 e) ∙ f) in
                let not_second : u ≢ pos (x + 1) -ℤ pos 1 = λ e. true≢false (sym ((Decides-int_eq u (pos (x + 1) -ℤ pos 1)).1 e) ∙ g) in
                (2, omega arith, omega (arith, ints, low, high, not_first, not_second))
          ]
    ]

module _ (cells : List (ℕ × ℕ)) (states : List State) (serials : List ℕ) (width : ℕ) (same : length states ≡ length serials) (numbers : (n : ℕ) → n < length cells → HasSerial cells serials width n) (places : (k : ℕ) → k < length serials → IsListedAt cells states serials width k) where
  serial : ℤ × ℤ → ℕ
  serial c = serial_at serials width c.0 c.1

  -- a place of the table
  none_at : (x y : ℕ) → x < width → get_or serials (y * width + x) 0 ≡ 0 → shown states width (pos x) (pos y) ≡ Empty
  none_at x y low none =
      elim (cases_lt (y * width + x) (length serials)) [
        | inr past ↦ at_place states width x y low ∙ get_or_past states (y * width + x) Empty (omega (arith, past, same))
        | inl within ↦ at_place states width x y low ∙ empty (places (y * width + x) within)
      ]
    where
      empty : IsListedAt cells states serials width (y * width + x) → get_or states (y * width + x) Empty ≡ Empty
      empty (inl (zero_there, e)) = e
      empty (inr (some, few, at)) = absurd (omega (arith, some, none))

  some_at : (x y n : ℕ) → x < width → get_or serials (y * width + x) 0 ≡ suc n → (n < length cells) × (get_or cells n (0, 0) ≡ (x, y))
  some_at x y n low is =
      elim (cases_lt (y * width + x) (length serials)) [
        | inr past ↦ let e : get_or serials (y * width + x) 0 ≡ 0 = get_or_past serials (y * width + x) 0 past in absurd (omega (arith, e, is))
        | inl within ↦ listed (places (y * width + x) within)
      ]
    where
      listed : IsListedAt cells states serials width (y * width + x) → (n < length cells) × (get_or cells n (0, 0) ≡ (x, y))
      listed (inl (none, e)) = absurd (omega (arith, none, is))
      listed (inr (some, few, at)) =
          let number : get_or serials (y * width + x) 0 - 1 ≡ n = omega (arith, is) in (
            omega (arith, few, is),
            ap (λ k. get_or cells k (0, 0)) (sym number) ∙ at ∙ ap₂ (λ a b. (a, b)) (mod-mul-add y width x low) (div-mul-add y width x low),
          )

  none : (c : ℤ × ℤ) → serial_at serials width c.0 c.1 ≡ 0 → shown states width c.0 c.1 ≡ Empty
  none (pos x, pos y) e =
      elim (cases_lt x width) [
        | inr off ↦ beside states width x y off
        | inl low ↦ none_at x y low (sym (at_serial x y low) ∙ e)
      ]
    where
      at_serial : (x y : ℕ) → x < width → serial_at serials width (pos x) (pos y) ≡ get_or serials (y * width + x) 0
      at_serial x y low = ap (λ b. cond b (get_or serials (y * width + x) 0) 0) (lt-ltb x width low)
  none (pos x, negsuc y) e = refl
  none (negsuc x, y) e = refl

  some : (c : ℤ × ℤ) (n : ℕ) → serial_at serials width c.0 c.1 ≡ suc n → (n < length cells) × (c ≡ listed_cell cells n)
  some (pos x, pos y) n e =
      elim (cases_lt x width) [
        | inr off ↦ let dark : serial_at serials width (pos x) (pos y) ≡ 0 = ap (λ b. cond b (get_or serials (y * width + x) 0) 0) (le-ltb x width off) in absurd (omega (arith, dark, e))
        | inl low ↦
            let found = some_at x y n low (sym (ap (λ b. cond b (get_or serials (y * width + x) 0) 0) (lt-ltb x width low)) ∙ e) in
            (found.0, ap (λ (cell : ℕ × ℕ). (pos cell.0, pos cell.1)) (sym found.1))
      ]
  some (pos x, negsuc y) n e = absurd (omega (arith, e))
  some (negsuc x, y) n e = absurd (omega (arith, e))

  module _ (groups : List ℕ) (limit : ℕ) (touch : (n : ℕ) → n < length cells → get_or groups n 0 < limit → TouchesWell cells serials width groups limit n) where
    apart : (n m : ℕ) (d : ℤ × ℤ) → n < length cells → get_or groups n 0 < limit → IsNear d (listed_cell cells n) → serial_at serials width d.0 d.1 ≡ suc m → (get_or groups m 0 ≡ get_or groups n 0) ⊎ (limit ≤ get_or groups m 0)
    apart n m d low below near is =
        let (i, few, x) = near_index (get_or cells n (0, 0)).0 d.0 near.west near.east in
        let (j, few', y) = near_index (get_or cells n (0, 0)).1 d.1 near.north near.south in
        of_serial (serial_at serials width (pos ((get_or cells n (0, 0)).0 + i) -ℤ pos 1) (pos ((get_or cells n (0, 0)).1 + j) -ℤ pos 1)) (sym (ap₂ (serial_at serials width) x y) ∙ is) (touch n low below j few' i few)
      where
        of_serial : (k : ℕ) → k ≡ suc m → MayTouch groups limit n k → (get_or groups m 0 ≡ get_or groups n 0) ⊎ (limit ≤ get_or groups m 0)
        of_serial k e (inl none) = absurd (omega (arith, e, none))
        of_serial k e (inr (inl group)) = let one : k - 1 ≡ m = omega (arith, e) in inl (ap (λ i. get_or groups i 0) (sym one) ∙ group)
        of_serial k e (inr (inr far)) = let one : k - 1 ≡ m = omega (arith, e) in inr (subst (λ i. limit ≤ get_or groups i 0) one far)

    pub are_serials : AreSerials cells states serials width groups limit
    are_serials = record {
      none = none;
      some = some;
      number = λ n low. (let one : n + 1 ≡ suc n = omega arith in numbers n low ∙ one);
      apart = apart;
    }
