-- What swaps do to bits.
use Rattle.std.proofs.Common.{◌≡◌, ◌≢◌, refl, sym, ◌∙◌, ap, ℕ, zero, suc, ◌+◌, ◌<◌, ◌≤◌, Bool, false, ⊎_elim, List, [], ◌∷◌, ◌++◌, length, get_or, set, arith}
use Rattle.std.specs.Prelude.{All}
use Rattle.std.proofs.lemmas.Bool.{cases_eq}
use Rattle.std.proofs.lemmas.Bool.Decides.{nat_tests}
use Rattle.std.proofs.lemmas.List.{length-set, length-append}
use Rattle.std.proofs.lemmas.List.Elements.{All-append}
use Rattle.std.proofs.lemmas.List.Sums.{fold_push}
use Rattle.lane_core.specs.declared.instr.Instr.{Instr}
use Rattle.lane_core.specs.declared.instr.Instr.TheVariants.{Swap}
use Rattle.lane_core.specs.Instrs.{bit_on, after_instr, after_instrs, IsOnLanes}
use Rattle.channel_router.specs.Routes.{brought, swapped, distance, IsSwap, Brings}
use Rattle.channel_router.proofs.TwoSet.{two_set}

pub swap_bits : (bits : List Bool) (at lane : ℕ) → at + 1 < length bits → bit_on (after_instr bits (Swap at)) lane ≡ bit_on bits (swapped at lane)
swap_bits bits at lane within =
    let sets = two_set bits at (bit_on bits (at + 1)) (bit_on bits at) false lane within in
    ⊎_elim
    (λ here. sets.0 here ∙ ap (bit_on bits) (sym (to_next here)))
    (λ off. ⊎_elim
    (λ below. sets.1 below ∙ ap (bit_on bits) (sym (to_first off below)))
    (λ away. sets.2 off away ∙ ap (bit_on bits) (sym (stays off away)))
    (cases_eq lane (at + 1)))
    (cases_eq lane at)
  where
    to_next : lane ≡ at → swapped at lane ≡ at + 1
    to_next e = grind (arith, nat_tests)

    to_first : lane ≢ at → lane ≡ at + 1 → swapped at lane ≡ at
    to_first ne e = grind (arith, nat_tests)

    stays : lane ≢ at → lane ≢ at + 1 → swapped at lane ≡ lane
    stays ne ne' = grind (arith, nat_tests)

pub down_one : (from at lane : ℕ) → from ≤ at → brought from at (swapped at lane) ≡ brought from (at + 1) lane
down_one from at lane h = grind (arith, nat_tests)

pub up_one : (from at lane : ℕ) → at + 1 ≤ from → brought from (at + 1) (swapped at lane) ≡ brought from at lane
up_one from at lane h = grind (arith, nat_tests)

pub nowhere : (from lane : ℕ) → brought from from lane ≡ lane
nowhere from lane = grind (arith, nat_tests)

pub none : (lanes from : ℕ) → Brings lanes from from []
none lanes from = record {
  count = omega arith;
  swaps = λ i d within. absurd (omega (arith, within));
  on_lanes = λ i d within. absurd (omega (arith, within));
  bits = λ bits long lane. ap (bit_on bits) (sym (nowhere from lane));
  long = λ bits. refl;
}

with_swap : (lanes from at to : ℕ) (is : List Instr) → Brings lanes from at is → (k : ℕ) → k + 1 < lanes → distance from to ≡ distance from at + 1
    → ((lane : ℕ) → brought from at (swapped k lane) ≡ brought from to lane) → Brings lanes from to (is ++ Swap k ∷ [])
with_swap lanes from at to is b k within far same = record {
  count = length-append is (Swap k ∷ []) ∙ omega (arith, b.count, far);
  swaps = All-append IsSwap is (Swap k ∷ []) b.swaps (All-one-swap k);
  on_lanes = All-append (IsOnLanes lanes) is (Swap k ∷ []) b.on_lanes (All-one k within);
  bits = λ bits long lane.
      ap (λ x. bit_on x lane) (fold_push after_instr bits is (Swap k))
      ∙ swap_bits (after_instrs is bits) k lane (omega (arith, b.long bits, long))
      ∙ b.bits bits long (swapped k lane) ∙ ap (bit_on bits) (same lane);
  long = λ bits. ap length (fold_push after_instr bits is (Swap k))
      ∙ length-set (set (after_instrs is bits) k (bit_on (after_instrs is bits) (k + 1))) (k + 1) (bit_on (after_instrs is bits) k)
      ∙ length-set (after_instrs is bits) k (bit_on (after_instrs is bits) (k + 1)) ∙ b.long bits;
}
  where
    All-one-swap : (k : ℕ) → All IsSwap (Swap k ∷ [])
    All-one-swap k zero d low = refl
    All-one-swap k (suc i) d low = absurd (omega (arith, low))

    All-one : (k : ℕ) → k + 1 < lanes → All (IsOnLanes lanes) (Swap k ∷ [])
    All-one k within = λ i d low. one_place i d low within
      where
        one_place : (i : ℕ) (d : Instr) → i < 1 → k + 1 < lanes → IsOnLanes lanes (get_or (Swap k ∷ []) i d)
        one_place zero d low within = within
        one_place (suc i) d low within = absurd (omega arith)

pub grown : (lanes from at : ℕ) (is : List Instr) → Brings lanes from at is → from ≤ at → at + 1 < lanes → Brings lanes from (at + 1) (is ++ Swap at ∷ [])
grown lanes from at is b order within = with_swap lanes from at (at + 1) is b at within (omega arith) (λ lane. down_one from at lane order)

pub shrunk : (lanes from at : ℕ) (is : List Instr) → Brings lanes from (at + 1) is → at + 1 ≤ from → at + 1 < lanes → Brings lanes from at (is ++ Swap at ∷ [])
shrunk lanes from at is b order within = with_swap lanes from (at + 1) at is b at within (omega arith) (λ lane. up_one from at lane order)
