-- Homes of a list's inputs, loops and dark lane.
use Rattle.std.proofs.Common.{◌≡◌, refl, sym, ◌∙◌, ap, ℕ, ◌+◌, ◌-◌, ◌<◌, ◌≤◌, ⊎_elim, Bool, true, false, List, length, get_or, take, arith}
use Rattle.std.specs.Prelude.{All}
use Rattle.std.proofs.lemmas.Bool.{cases_lt}
use Rattle.std.proofs.lemmas.List.{length-take-le, get_or-take, get_or_default}
use Rattle.lists.proofs.Numbers.{at_most_one}
use Rattle.cell_core.specs.declared.list.CellList.{CellList}
use Rattle.cell_core.specs.Loops.{loop_count}
use Rattle.lane_homes.specs.Homes.{AreHomesAbove}
use Rattle.row_placer.specs.Placed.{AreHomes}

-- a home past those of the loops is the dark one
dark_home : (above inputs loops : ℕ) (dark : Bool) (homes : List ℕ) → AreHomesAbove above inputs loops dark homes → (j : ℕ) → j < length homes → inputs + loops ≤ j → (get_or homes j 0 < above) × (j ≡ inputs + loops)
dark_home above inputs loops true homes s j below past =
    let same : j ≡ inputs + loops = omega (arith, below, past, s.long) in (omega (arith, s.dark refl, ap (λ k. get_or homes k 0) same), same)
dark_home above inputs loops false homes s j below past = absurd (omega (arith, below, past, s.long))

pub homes_within : (above inputs loops lanes : ℕ) (dark : Bool) (homes : List ℕ) → AreHomesAbove above inputs loops dark homes → lanes ≡ above + loops → All (λ lane. lane < lanes) homes
homes_within above inputs loops lanes dark homes s is i d below =
    let here = get_or_default homes i d 0 below in
    ⊎_elim
    (λ low. (let a = s.ins i low in omega (arith, a, here, is)))
    (λ past. ⊎_elim
    (λ low. (let at : inputs + (i - inputs) ≡ i = omega (arith, past) in let a = s.side_by_side (i - inputs) (omega (arith, past, low)) in omega (arith, a, ap (λ k. get_or homes k 0) at, here, is, past, low)))
    (λ last. (let p = dark_home above inputs loops dark homes s i below last in omega (arith, p.0, here, is)))
    (cases_lt i (inputs + loops)))
    (cases_lt i inputs)

pub homes_of_list : (list : CellList) (above lanes : ℕ) (dark : Bool) (homes : List ℕ) → AreHomesAbove above list.inputs (loop_count list) dark homes → lanes ≡ above + loop_count list
    → AreHomes list lanes (take list.inputs homes) homes
homes_of_list list above lanes dark homes s is = record {
  ins_long = long;
  ins_apart = record {
    below = λ i d low. (let a = ins_at i d (omega (arith, low, long)) in let b = s.ins i (omega (arith, low, long)) in omega (arith, a, b, is));
    distinct = λ i j d lt low e. (let a = ins_at i d (omega (arith, lt, low, long)) in let b = ins_at j d (omega (arith, low, long)) in s.apart i j 0 lt (omega (arith, low, long, s.long)) (sym a ∙ e ∙ b));
  };
  least = omega (arith, s.long);
  most = (let small = at_most_one dark in omega (arith, s.long, small));
  inputs = λ i below. sym (ins_at i 0 below);
  loops = λ k below. (let a = s.side_by_side k below in omega (arith, a, is));
  dark = λ more. (let p = dark_home above list.inputs (loop_count list) dark homes s (list.inputs + loop_count list) more (omega arith) in
      (omega (arith, p.0, is), λ i below e. s.apart i (list.inputs + loop_count list) 0 (omega (arith, below)) more (sym (ins_at i 0 below) ∙ e)));
}
  where
    long : length (take list.inputs homes) ≡ list.inputs
    long = length-take-le list.inputs homes (omega (arith, s.long))

    ins_at : (i d : ℕ) → i < list.inputs → get_or (take list.inputs homes) i d ≡ get_or homes i 0
    ins_at i d below = get_or-take list.inputs homes i d below ∙ get_or_default homes i d 0 (omega (arith, below, s.long))
