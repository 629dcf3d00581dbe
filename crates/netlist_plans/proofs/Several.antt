-- The plan of a flat netlist in several contexts.
use Rattle.std.proofs.Common.{◌≡◌, refl, sym, ◌∙◌, ap, ap₂, subst, ℕ, suc, ◌+◌, ◌*◌, ◌<◌, ◌≤◌, ◌^◌, Bool, true, false, cond, List, [], ◌∷◌, ◌++◌, length, map, arith}
use Rattle.std.specs.Prelude.{nat_lt, All}
use Rattle.std.proofs.lemmas.Bool.Decides.{nat_tests}
use Rattle.std.proofs.lemmas.List.{length-append}
use Rattle.std.proofs.lemmas.List.Elements.{All-cons}
use Rattle.std.proofs.Math.Nat.{mul-le-mul, mul-mul-mul_comm}
use Rattle.lists.proofs.Numbers.{at_most_one, length_if}
use Rattle.lane_core.specs.declared.plan.Plan.{Plan}
use Rattle.lane_core.specs.Plans.{period_of}
use Rattle.lane_core.specs.Tape.{cycle_tiles}
use Rattle.plan_waves.proofs.CycleTiles.{period_is}
use Rattle.netlist_core.specs.declared.flat.Flat.{Flat}
use Rattle.netlist_meaning.specs.Flat.{IsWeighed}
use Rattle.cell_core.specs.declared.list.CellList.{CellList}
use Rattle.cell_core.specs.Loops.{names_one, loop_count, loop_state}
use Rattle.cell_meaning.specs.Mapped.{IsMapped}
use Rattle.cell_plans.specs.Exits.{AreAtExits}
use Rattle.cell_plans.proofs.Exits.{in_padded}
use Rattle.latch_loops.specs.Padded.{IsPaddedPlan}
use Rattle.row_placer.specs.Entries.{AreAtEntries}
use Rattle.netlist_plans.specs.Contexts.{loop_starting_bits}
use Rattle.netlist_plans.specs.Lists.{IsPlanned}
use Rattle.netlist_plans.specs.NetPlaces.{HasNetPlaces}
use Rattle.netlist_plans.proofs.Bounds.{outs_many, starts_many}
use Rattle.netlist_plans.proofs.NetPlaces.{net_places}

-- ---- the bits of the loops
one_more : (n m : ℕ) (b : Bool) → m ≡ n + cond b 1 0 → nat_lt n m ≡ b
one_more n m true e = (let more : n < m = omega (arith, e) in grind (arith, nat_tests))
one_more n m false e = (let same : n ≡ m = omega (arith, e) in grind (arith, nat_tests))

pub bits_alike : (list : CellList) (plan : Plan) (bits : List Bool) → plan.latches ≡ length bits + cond (names_one list) 1 0 → loop_starting_bits plan bits ≡ loop_state list bits
bits_alike list plan bits loops = ap (λ b. bits ++ cond b (true ∷ []) []) (one_more (length bits) plan.latches (names_one list) loops)

bits_are : (list : CellList) (plan : Plan) (bits : List Bool) → plan.latches ≡ loop_count list → length bits ≡ length list.starts → loop_starting_bits plan bits ≡ loop_state list bits
bits_are list plan bits loops long = bits_alike list plan bits (loops ∙ ap (λ n. n + cond (names_one list) 1 0) (sym long))

all_bits_are : (list : CellList) (plan : Plan) (starts : List (List Bool)) → plan.latches ≡ loop_count list → All (λ bits. length bits ≡ length list.starts) starts
    → map (loop_starting_bits plan) starts ≡ map (loop_state list) starts
all_bits_are list plan [] loops long = refl
all_bits_are list plan (bits ∷ starts) loops long =
    ap₂ (λ (b : List Bool) (bs : List (List Bool)). b ∷ bs) (bits_are list plan bits loops (long 0 bits (omega arith)))
    (all_bits_are list plan starts loops (λ k d within. long (suc k) d (omega (arith, within))))

all_long : (list : CellList) (plan : Plan) (starts : List (List Bool)) → plan.latches ≡ loop_count list → All (λ bits. length bits ≡ length list.starts) starts
    → All (λ bits. length bits ≡ plan.latches) (map (loop_state list) starts)
all_long list plan [] loops long = λ k d within. absurd (omega (arith, within))
all_long list plan (bits ∷ starts) loops long =
    All-cons (λ (b : List Bool). length b ≡ plan.latches) (loop_state list bits) (map (loop_state list) starts)
    (length-append bits _ ∙ ap₂ (λ (n : ℕ) (m : ℕ). n + m) (long 0 bits (omega arith)) (length_if (names_one list) true) ∙ sym loops)
    (all_long list plan starts loops (λ k d within. long (suc k) d (omega (arith, within))))

module _ (flat : Flat) (plan : Plan) (w : IsWeighed flat) (k : IsPlanned flat plan) (starts : List (List Bool)) (long : All (λ start. length start ≡ length flat.latches) starts) where
  latches_long : All (λ bits. length bits ≡ length k.list.starts) starts
  latches_long i d within = long i d within ∙ sym (starts_many flat k.list k.computes.mapped w)

  pub loops_are : map (loop_starting_bits plan) starts ≡ map (loop_state k.list) starts
  loops_are = all_bits_are k.list plan starts k.is.computes.loops latches_long

  pub loops_long : All (λ bits. length bits ≡ plan.latches) (map (loop_starting_bits plan) starts)
  loops_long = subst (λ (all : List (List Bool)). All (λ bits. length bits ≡ plan.latches) all) (sym loops_are) (all_long k.list plan starts k.is.computes.loops latches_long)

-- ---- what is asked of the plan
pub contexts_fit : (plan : Plan) (contexts : ℕ) → 32 * contexts ≤ period_of plan → contexts ≤ cycle_tiles plan
contexts_fit plan contexts fit = omega (arith, fit, period_is plan)

product : (a b s : ℕ) → a ≤ 6 * s → b ≤ 6 * s → a * b ≤ 36 * (s * s)
product a b s low few =
    let all : a * b ≤ (6 * s) * (6 * s) = mul-le-mul low few in
    omega (arith, all, mul-mul-mul_comm 6 s 6 s)

square : (s : ℕ) → s ≤ 2 ^ 16 → s * s ≤ 2 ^ 16 * 2 ^ 16
square s small = mul-le-mul small small

pub few_columns : (flat : Flat) (plan : Plan) → IsWeighed flat → flat.weight < 2 ^ 16 → IsPlanned flat plan → length plan.columns < 2 ^ 39
few_columns flat plan w small p =
    let list = p.list in
    let m : IsMapped flat list = p.computes.mapped in
    let outs = outs_many flat list m w in
    let starts = starts_many flat list m w in
    let one = at_most_one (names_one list) in
    let wide : plan.lanes + 1 ≤ 6 * (flat.weight + 1) = omega (arith, p.is.lanes, m.inputs, outs, starts, one, m.few, w.parts) in
    let long : 3 * length list.cells + length list.outs + 2 * loop_count list + 1 ≤ 6 * (flat.weight + 1) = omega (arith, m.inputs, outs, starts, one, m.few, w.parts) in
    let all = product (3 * length list.cells + length list.outs + 2 * loop_count list + 1) (plan.lanes + 1) (flat.weight + 1) long wide in
    let most = square (flat.weight + 1) (omega (arith, small)) in
    omega (arith, p.is.columns, all, most)

-- ---- nets keep their places
still_at_exits : (list : CellList) (size : ℕ) (plan padded : Plan) → IsPaddedPlan size plan padded → AreAtExits list plan.columns plan.nets → AreAtExits list padded.columns padded.nets
still_at_exits list size plan padded p at =
    subst (AreAtExits list padded.columns) (sym p.nets)
    (λ k src place instr below e. (let exit = at k src place instr below e in (exit.0, exit.1, in_padded size plan.columns padded.columns exit.0 instr p.columns exit.2)))

still_at_entries : (list : CellList) (size : ℕ) (plan padded : Plan) → IsPaddedPlan size plan padded → AreAtEntries list plan.lanes plan.ins plan.nets → AreAtEntries list padded.lanes padded.ins padded.nets
still_at_entries list size plan padded p at =
    subst (λ lanes. AreAtEntries list lanes padded.ins padded.nets) (sym p.lanes)
    (subst (λ ins. AreAtEntries list plan.lanes ins padded.nets) (sym p.ins) (subst (AreAtEntries list plan.lanes plan.ins) (sym p.nets) at))

pub padded_places : (flat : Flat) (plan padded : Plan) (size : ℕ) → IsPlanned flat plan → IsPaddedPlan size plan padded → HasNetPlaces flat padded
padded_places flat plan padded size k p =
    net_places flat k.list k.computes.mapped padded (p.latches ∙ k.is.computes.loops) (still_at_entries k.list size plan padded p k.is.entries) (still_at_exits k.list size plan padded p k.is.exits)
