-- A job that is prepared.
use Rattle.std.proofs.Common.{◌≡◌, refl, sym, ◌∙◌, ap, subst, ℕ, ◌+◌, ◌<◌, ◌≤◌, ⊎_elim, Bool, true, cond, List, [], ◌∷◌, ◌++◌, length, get_or, map, arith}
use Rattle.std.specs.Prelude.{All}
use Rattle.std.proofs.lemmas.Bool.{cases_lt}
use Rattle.std.proofs.lemmas.List.{length-append, length-map, get_or-map}
use Rattle.std.proofs.lemmas.List.Elements.{All-append}
use Rattle.cell_core.specs.declared.cells.Src.TheVariants.{Zero}
use Rattle.cell_core.specs.declared.cells.Cell.TheVariants.{Or}
use Rattle.cell_core.specs.declared.list.CellList.{CellList}
use Rattle.row_placer.specs.declared.roles.Tag.{Tag}
use Rattle.row_placer.specs.declared.job.NumberedCell.{NumberedCell}
use Rattle.row_placer.specs.Told.{tag, free_tag, count, is_tag}
use Rattle.row_placer.specs.declared.roles.Role.TheVariants.{Kept}
use Rattle.row_placer.specs.Uses.{uses_of, owed, idle, times, AreCounted, ReadsBelow, AreKnown}
use Rattle.row_placer.specs.Ready.{Ready}
use Rattle.cell_core.specs.Loops.{loop_count, loop_data}
use Rattle.row_placer.specs.Numbers.{number, gate_of, IsThere, ReadsWhatIsThere}
use Rattle.row_placer.specs.Placed.{IsStart, IsPlaceable}
use Rattle.row_placer.proofs.Steps.{counts_set}
use Rattle.row_placer.proofs.Uses.{this_tag}
use Rattle.row_placer.proofs.There.{number_low, gate_low}
use Rattle.row_placer.proofs.Whole.{length-data, data_there}

pub gates_known : (list : CellList) (gates : List NumberedCell) (base : ℕ) → ReadsWhatIsThere list → gates ≡ map (gate_of list) list.cells → base ≡ list.inputs + loop_count list + 1 → AreKnown base gates
gates_known list gates base sound is at g d below =
    let low : g < length list.cells = omega (arith, below, ap length is, length-map list.cells (gate_of list)) in
    let c = get_or list.cells g (Or Zero Zero) in
    let reads = gate_low list g c (sound.cells g (Or Zero Zero) low) in
    let same : get_or gates g d ≡ gate_of list c = ap (λ gs. get_or gs g d) is ∙ get_or-map (gate_of list) list.cells g (Or Zero Zero) d low in
    subst (λ (q : NumberedCell). (q.first < base + g) × (q.second < base + g)) (sym same) (subst (λ b. ReadsBelow (b + g) (gate_of list c)) (sym at) reads)

pub gates_below : (base n : ℕ) (gates : List NumberedCell) → AreKnown base gates → n ≡ base + length gates → All (ReadsBelow n) gates
gates_below base n gates known is g d below = let k = known g d below in (omega (arith, k.0, is, below), omega (arith, k.1, is, below))

pub ports_below : (list : CellList) (ports : List ℕ) (n : ℕ) → ReadsWhatIsThere list → ports ≡ map (number list) (loop_data list ++ list.outs) → n ≡ list.inputs + loop_count list + 1 + length list.cells → All (λ v. v < n) ports
ports_below list ports n sound is at i d below =
    let all = All-append (IsThere list (length list.cells)) (loop_data list) list.outs (data_there list sound.latches) sound.outs in
    let low : i < length (loop_data list ++ list.outs) = omega (arith, below, ap length is, length-map (loop_data list ++ list.outs) (number list)) in
    let same : get_or ports i d ≡ number list (get_or (loop_data list ++ list.outs) i Zero) = ap (λ ps. get_or ps i d) is ∙ get_or-map (number list) (loop_data list ++ list.outs) i Zero d low in
    let small = number_low list (length list.cells) (get_or (loop_data list ++ list.outs) i Zero) (all i Zero low) in
    omega (arith, same, small, at)

pub length-ports : (list : CellList) (ports : List ℕ) → ReadsWhatIsThere list → ports ≡ map (number list) (loop_data list ++ list.outs) → length ports ≡ loop_count list + length list.outs
length-ports list ports sound is = ap length is ∙ length-map (loop_data list ++ list.outs) (number list) ∙ length-append (loop_data list) list.outs ∙ ap (λ n. n + length list.outs) (length-data list sound.fits)

-- what a job's gates and ports are by the list's own counts
pub record JobFacts (list : CellList) (loops : ℕ) (gates : List NumberedCell) (ports : List ℕ) : Type 0 where
  pub base : list.inputs + loops + 1 ≡ list.inputs + loop_count list + 1
  pub cells : length gates ≡ length list.cells
  pub many : length ports ≡ loop_count list + length list.outs
  pub known : AreKnown (list.inputs + loops + 1) gates
  pub gates_low : All (ReadsBelow (list.inputs + loops + 1 + length gates)) gates
  pub ports_low : All (λ v. v < list.inputs + loops + 1 + length gates) ports

pub job_facts : (list : CellList) (loops : ℕ) (gates : List NumberedCell) (ports : List ℕ) → loops ≡ loop_count list → ReadsWhatIsThere list → gates ≡ map (gate_of list) list.cells
    → ports ≡ map (number list) (loop_data list ++ list.outs) → JobFacts list loops gates ports
job_facts list loops gates ports same sound gates_are ports_are =
    let base : list.inputs + loops + 1 ≡ list.inputs + loop_count list + 1 = ap (λ n. list.inputs + n + 1) same in
    let cells : length gates ≡ length list.cells = ap length gates_are ∙ length-map list.cells (gate_of list) in
    let known = gates_known list gates (list.inputs + loops + 1) sound gates_are base in
    record {
      base = base;
      cells = cells;
      many = length-ports list ports sound ports_are;
      known = known;
      gates_low = gates_below (list.inputs + loops + 1) (list.inputs + loops + 1 + length gates) gates known refl;
      ports_low = ports_below list ports (list.inputs + loops + 1 + length gates) sound ports_are (omega (arith, base, cells));
    }

pub owed_small : (list : CellList) (loops : ℕ) (g gates : List NumberedCell) (p ports : List ℕ) (owed : ℕ) → JobFacts list loops g p → gates ≡ g → ports ≡ p → owed ≤ length gates + length ports + 1
    → IsPlaceable list → owed ≤ 1048576
owed_small list loops g gates p ports owed facts same same' few small = omega (arith, ap length same, ap length same', facts.cells, facts.many, few, small)

-- a lane with a tag is counted
pub counted_tag : (tags : List Tag) (lane v : ℕ) → lane < length tags → get_or tags lane free_tag ≡ tag v Kept → 1 ≤ count v Kept tags
counted_tag tags lane v within here =
    let e = counts_set (is_tag v Kept) tags lane free_tag within in
    let one : cond {A = ℕ} (is_tag v Kept (get_or tags lane free_tag)) 1 0 ≡ 1 = ap (λ t. cond {A = ℕ} (is_tag v Kept t) 1 0) here ∙ this_tag v Kept in
    omega (arith, e, one)

pub start_ready : (gates : List NumberedCell) (ports homes left : List ℕ) (inner lanes first base : ℕ) (dark : Bool) (start : List Tag) → IsStart homes left lanes start → All (λ lane. lane < lanes) homes
    → AreCounted left (uses_of gates ++ ports) → base ≡ inner + 1 → length left ≡ base + length gates → length homes ≡ inner + cond dark 1 0 → (1 ≤ get_or left inner 0 → dark ≡ true)
    → lanes ≡ first + inner → owed ports base gates + cond dark 1 0 ≤ first + idle left (length homes) → Ready (uses_of gates ++ ports) (base + 0) (owed ports (base + 0) gates) start left
start_ready gates ports homes left inner lanes first base dark start s low counted at wide long zero_used size owes = record {
  kept = λ v below used.
      (let mine = counted v (omega (arith, below, wide)) in
      ⊎_elim
      (λ home. counted_tag start (get_or homes v 0) v (let l = low v 0 home in omega (arith, l, s.long)) (s.kept v home (omega (arith, mine, used))))
      (λ past. (let same : v ≡ inner = omega (arith, past, below, at, long) in
      let here : 1 ≤ get_or left inner 0 = (let e : get_or left inner 0 ≡ get_or left v 0 = ap (λ k. get_or left k 0) (sym same) in omega (arith, e, mine, used)) in
      let one : cond {A = ℕ} dark 1 0 ≡ 1 = ap (λ b. cond {A = ℕ} b 1 0) (zero_used here) in absurd (omega (arith, one, past, same, long))))
      (cases_lt v (length homes)));
  free = (let e : owed ports (base + 0) gates ≡ owed ports base gates = (let z : base + 0 ≡ base = omega arith in ap (λ v. owed ports v gates) z) in omega (arith, e, s.free, size, long, owes));
  left = counted;
  wide = omega (arith, wide);
}

-- no gates and no ports use nothing
pub nothing_used : (base : ℕ) (gates : List NumberedCell) (ports : List ℕ) → length gates ≡ 0 → length ports ≡ 0 → (owed ports base gates ≡ 0) × ((v : ℕ) → times v (uses_of gates ++ ports) ≡ 0)
nothing_used base [] [] e f = (refl, λ v. refl)
nothing_used base [] (p ∷ ports) e f = absurd (omega (arith, f))
nothing_used base (g ∷ gates) ports e f = absurd (omega (arith, e))
