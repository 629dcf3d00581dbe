-- Waves with the same bits in their cycles are written alike.
use Rattle.std.proofs.Common.{◌≡◌, refl, ◌∙◌, ap, ap₂, ℕ, zero, suc, ◌+◌, ◌-◌, ◌<◌, ◌||◌, cond, List, [], ◌∷◌, ◌++◌, length, map, flat_map, get_or, arith}
use Rattle.std.specs.Prelude.{◌==◌}
use Rattle.std.specs.List.{range_with_len}
use Rattle.pattern_writing.specs.Writer.{ended_lines}
use Rattle.vcd_write.specs.Reading.{VcdBlock, form_lines}
use Rattle.vcd_write.specs.Writing.{Waves, vcd_id, are_other, value_of, values_at, var_of, block_of, last_block, vcd_form}
use Rattle.vcd_write.specs.Laws.{AreSameWaves, SameWavesAreWrittenAlike}

-- maps that agree on a range
map_alike : {X : Type 0} (f g : ℕ → X) (a many : ℕ) → ((k : ℕ) → k < a + many → f k ≡ g k) → map f (range_with_len a many) ≡ map g (range_with_len a many)
map_alike f g a zero same = refl
map_alike f g a (suc many) same = ap₂ (λ x xs. x ∷ xs) (same a (omega arith)) (map_alike f g (a + 1) many (λ k lt. same k (omega (arith, lt))))

flat_alike : {X : Type 0} (f g : ℕ → List X) (a many : ℕ) → ((k : ℕ) → k < a + many → f k ≡ g k) → flat_map f (range_with_len a many) ≡ flat_map g (range_with_len a many)
flat_alike f g a zero same = refl
flat_alike f g a (suc many) same = ap₂ (λ x xs. x ++ xs) (same a (omega arith)) (flat_alike f g (a + 1) many (λ k lt. same k (omega (arith, lt))))

module _ (a b : Waves) (same : AreSameWaves a b) where
  value_alike : (cycle n : ℕ) → n < length b.references → cycle < b.cycles → value_of a cycle n ≡ value_of b cycle n
  value_alike cycle n within lt =
      let now : a.bit n cycle ≡ b.bit n cycle = same.bits n cycle within lt in
      let was : a.bit n (cycle - 1) ≡ b.bit n (cycle - 1) = same.bits n (cycle - 1) within (omega (arith, lt)) in
      ap₂ (λ now was. cond (cycle == 0 || are_other now was) (record { id = vcd_id n; bit = now } ∷ []) []) now was

  many_alike : length a.references ≡ length b.references
  many_alike = ap length same.references

  values_alike : (cycle : ℕ) → cycle < b.cycles → values_at a cycle ≡ values_at b cycle
  values_alike cycle lt =
      ap (λ many. flat_map (value_of a cycle) (range_with_len 0 many)) many_alike
      ∙ flat_alike (value_of a cycle) (value_of b cycle) 0 (length b.references) (λ n within. value_alike cycle n (omega (arith, within)) lt)

  vars_alike : map (var_of a) (range_with_len 0 (length a.references)) ≡ map (var_of b) (range_with_len 0 (length b.references))
  vars_alike = ap (λ (references : List (List ℕ)). map (λ n. record { id = vcd_id n; reference = get_or references n [] }) (range_with_len 0 (length references))) same.references

  blocks_alike : map (block_of a) (range_with_len 0 a.cycles) ++ (last_block a ∷ []) ≡ map (block_of b) (range_with_len 0 b.cycles) ++ (last_block b ∷ [])
  blocks_alike =
      ap (λ cycles. map (block_of a) (range_with_len 0 cycles) ++ (record { time = cycles; values = [] } ∷ [])) same.cycles
      ∙ ap (λ (blocks : List VcdBlock). blocks ++ (last_block b ∷ []))
      (map_alike (block_of a) (block_of b) 0 b.cycles (λ cycle lt. ap (λ values. record { time = cycle; values = values }) (values_alike cycle (omega (arith, lt)))))

  form_alike : vcd_form a ≡ vcd_form b
  form_alike = ap₂ (λ vars blocks. record { vars = vars; blocks = blocks }) vars_alike blocks_alike

pub same_waves_are_written_alike : SameWavesAreWrittenAlike
same_waves_are_written_alike a b same = ap (λ form. ended_lines (form_lines form)) (form_alike a b same)
