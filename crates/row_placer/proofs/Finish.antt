-- All is placed.
use Rattle.std.proofs.Common.{◌≡◌, refl, sym, ◌∙◌, ap, ap₂, subst, ℕ, ◌+◌, ◌*◌, ◌<◌, ◌≤◌, cond, List, length, get_or, map, take, arith}
use Rattle.std.specs.Prelude.{All, None}
use Rattle.std.proofs.lemmas.List.{length-map, get_or-map}
use Rattle.std.proofs.lemmas.Option.{none-some}
use Rattle.lane_core.specs.declared.plan.NetPlace.{NetPlace}
use Rattle.lane_core.specs.declared.plan.Program.{Program}
use Rattle.lane_core.specs.Places.{IsPlaceWithin}
use Rattle.cell_core.specs.declared.cells.Src.{Src}
use Rattle.cell_core.specs.declared.cells.Src.TheVariants.{Input, Latch, One, Zero, Cell as Made}
use Rattle.cell_core.specs.declared.list.CellList.{CellList}
use Rattle.row_placer.specs.declared.roles.Tag.{Tag}
use Rattle.row_placer.specs.declared.job.Job.{Job}
use Rattle.row_placer.specs.Told.{Told, MadeTold}
use Rattle.row_placer.specs.Ready.{AreSettled}
use Rattle.cell_core.specs.Loops.{loop_state, loop_count, names_one}
use Rattle.row_placer.specs.Numbers.{gate_of, IsThere, ReadsWhatIsThere}
use Rattle.cell_meaning.specs.Computes.{ComputesByProgram}
use Rattle.row_placer.specs.Placed.{IsPrepared, IsPlacedOn, IsPlacedWithin, AreFewLanes, AreOuts, AreHomes, net_place_of}
use Rattle.row_placer.proofs.Whole.{computes}
use Rattle.row_placer.proofs.Homes.{homes_hold}
use Rattle.row_placer.proofs.Prepared.{length-ports}

-- what the lanes, the outputs and the nets give
pub record Ends (list : CellList) (job : Job) (tags : List Tag) (made : List NetPlace) (homes : List ℕ) (p : Program) : Type 0 where
  pub lanes : length tags ≡ p.lanes
  pub start : length job.start ≡ length tags
  pub told : Told job tags p.instrs
  pub made_told : MadeTold job p.instrs made
  pub all_made : length made ≡ length job.gates
  pub latches : p.latches ≡ loop_state list list.starts
  pub settled : AreSettled job (loop_count list) tags
  pub outs : AreOuts job (loop_count list) tags p.outs
  pub outs_long : length p.outs + loop_count list ≡ length job.ports
  pub nets : p.nets ≡ map (net_place_of list homes made) list.nets
  pub ins : p.ins ≡ take list.inputs homes

pub finish : (list : CellList) (p : Program) (job : Job) (tags : List Tag) (made : List NetPlace) (left homes : List ℕ) → ReadsWhatIsThere list → IsPrepared list job left homes → Ends list job tags made homes p → ComputesByProgram list p
finish list p job tags made left homes sound r e =
    computes list job p homes tags made sound
    (record {
      job_of = r.job_of;
      lanes = e.lanes;
      start = e.start ∙ e.lanes;
      home = r.home;
      told = e.told;
      made_told = e.made_told;
      all_made = e.all_made ∙ ap length r.job_of.gates ∙ length-map list.cells (gate_of list);
      latches = e.latches;
      ins_long = ap length e.ins ∙ r.homes_of.ins_long;
      room = omega (arith, r.room, e.start, e.lanes);
      settled = e.settled;
      outs_long = long;
      outs = λ o below. (e.outs o (omega (arith, below, long))).1;
      nets = e.nets;
      zero_home = r.zero;
      known_home = r.homes_of.least;
    })
    (homes_hold list p homes (subst (λ n. AreHomes list n p.ins homes) (e.start ∙ e.lanes) (subst (λ ins. AreHomes list (length job.start) ins homes) (sym e.ins) r.homes_of)) e.latches)
  where
    long : length p.outs ≡ length list.outs
    long = let n = length-ports list job.ports sound r.job_of.ports in omega (arith, n, e.outs_long)

entry_place : (lanes steps lane : ℕ) → lane < lanes → IsPlaceWithin lanes steps (record { lane = lane; after = None })
entry_place lanes steps lane low = record { lane = low; after = λ k e. absurd (none-some k e) }

place_within : (list : CellList) (lanes steps : ℕ) (homes : List ℕ) (made : List NetPlace) → All (λ lane. lane < lanes) homes → All (IsPlaceWithin lanes steps) made → list.inputs + loop_count list ≤ length homes
    → length made ≡ length list.cells → (src : Src) → IsThere list (length list.cells) src → (src ≡ Zero → list.inputs + loop_count list < length homes) → IsPlaceWithin lanes steps (net_place_of list homes made src)
place_within list lanes steps homes made low places wide all (Input i) there home = entry_place lanes steps (get_or homes i 0) (low i 0 (omega (arith, there, wide)))
place_within list lanes steps homes made low places wide all (Latch i) there home = entry_place lanes steps (get_or homes (list.inputs + i) 0) (low (list.inputs + i) 0 (omega (arith, there, wide)))
place_within list lanes steps homes made low places wide all One there home =
    let one : cond {A = ℕ} (names_one list) 1 0 ≡ 1 = ap (λ b. cond {A = ℕ} b 1 0) there in
    entry_place lanes steps (get_or homes (list.inputs + length list.starts) 0) (low (list.inputs + length list.starts) 0 (omega (arith, one, wide)))
place_within list lanes steps homes made low places wide all Zero there home = entry_place lanes steps (get_or homes (list.inputs + loop_count list) 0) (low (list.inputs + loop_count list) 0 (home refl))
place_within list lanes steps homes made low places wide all (Made i) there home = places i (record { lane = 0; after = None }) (omega (arith, there, all))

pub nets_within : (list : CellList) (lanes steps : ℕ) (homes : List ℕ) (made nets : List NetPlace) → ReadsWhatIsThere list → All (λ lane. lane < lanes) homes → All (IsPlaceWithin lanes steps) made → list.inputs + loop_count list ≤ length homes
    → length made ≡ length list.cells → All (λ src. src ≡ Zero → list.inputs + loop_count list < length homes) list.nets → nets ≡ map (net_place_of list homes made) list.nets → All (IsPlaceWithin lanes steps) nets
nets_within list lanes steps homes made nets sound low places wide all zero_home is i d below =
    let small : i < length list.nets = omega (arith, below, ap length is, length-map list.nets (net_place_of list homes made)) in
    subst (IsPlaceWithin lanes steps) (sym (ap (λ ns. get_or ns i d) is ∙ get_or-map (net_place_of list homes made) list.nets i Zero d small))
    (place_within list lanes steps homes made low places wide all (get_or list.nets i Zero) (sound.nets i Zero small) (zero_home i Zero small))

sums : (c o k n : ℕ) → c * (3 * n) + (k + o) * n + k * n ≡ (3 * c + o + 2 * k) * n
sums c o k n = omega arith

pub instr_count : (i g p l s c o k n : ℕ) → i ≤ g * (3 * s) + p * s + l * s → g ≡ c → p ≡ k + o → l ≡ k → s ≡ n → i ≤ (3 * c + o + 2 * k) * n
instr_count i g p l s c o k n le eg ep el es =
    let same : g * (3 * s) + p * s + l * s ≡ c * (3 * n) + (k + o) * n + k * n =
    ap₂ (λ a b. a + b) (ap₂ (λ a b. a + b) (ap₂ (λ a b. a * (3 * b)) eg es) (ap₂ (λ a b. a * b) ep es)) (ap₂ (λ a b. a * b) el es) in
    subst (λ m. i ≤ m) (same ∙ sums c o k n) le

-- what is placed on few lanes is placed within the spare ones
pub within_few : (list : CellList) (lanes spare : ℕ) (p : Program) → AreFewLanes list spare lanes → IsPlacedOn list lanes p → IsPlacedWithin list spare p
within_few list lanes spare p few placed = record {
  computes = placed.computes;
  instrs = placed.instrs;
  lanes = omega (arith, few.most, placed.wide);
  empty = λ none. (let least = few.empty none in omega (arith, least, placed.wide));
  entries = placed.entries;
  made = placed.made;
}

-- what is placed within a few spare lanes is placed within more
pub within_more : (list : CellList) (few many : ℕ) (p : Program) → few ≤ many → IsPlacedWithin list few p → IsPlacedWithin list many p
within_more list few many p le placed = record {
  computes = placed.computes;
  instrs = placed.instrs;
  lanes = omega (arith, placed.lanes, le);
  empty = λ none. (let least = placed.empty none in omega (arith, least, le));
  entries = placed.entries;
  made = placed.made;
}
