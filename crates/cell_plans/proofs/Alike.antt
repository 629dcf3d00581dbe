-- A plan of a list is one of each that computes alike.
use Rattle.std.proofs.Common.{◌≡◌, sym, ◌∙◌, ap, ap₂, subst, ℕ, ◌≤◌, ◌<◌, ◌+◌, ◌-◌, ◌*◌, ◌^◌, max, Bool, List, [], ◌∷◌, length, get_or, map, Option, Some, None, arith}
use Rattle.std.proofs.lemmas.List.{get_or-map}
use Rattle.std.proofs.lemmas.Option.{none-some, same_Some}
use Rattle.cell_core.specs.declared.cells.Src.{Src}
use Rattle.cell_core.specs.declared.cells.Src.TheVariants.{Input, Latch, One, Zero, Cell as Made}
use Rattle.cell_core.specs.declared.list.CellList.{CellList}
use Rattle.cell_core.specs.Loops.{loop_count}
use Rattle.lane_core.specs.declared.instr.Column.{Column}
use Rattle.lane_core.specs.declared.plan.NetPlace.{NetPlace}
use Rattle.lane_core.specs.declared.plan.Plan.{Plan}
use Rattle.cell_meaning.specs.Origins.{entry_source, maker_on}
use Rattle.cell_order.specs.Alike.{ComputeAlike}
use Rattle.cell_order.proofs.Planned.{CountAlike, count_alike, loops_start_alike, alike_is_planned}
use Rattle.plan_layout.specs.Starts.{start_edges}
use Rattle.plan_waves.specs.Contexts.{StartsContexts}
use Rattle.cell_plans.specs.Counts.{instr_count}
use Rattle.cell_plans.specs.PlanOf.{IsPlanOf}
use Rattle.row_placer.specs.Entries.{IsEntryOf, AreAtEntries}
use Rattle.cell_plans.specs.Exits.{AreAtExits}

-- the other list is small too
pub small_by : (a b : CellList) → ComputeAlike a b → a.inputs + loop_count a + length a.outs + length a.cells < 2 ^ 18 → b.inputs + loop_count b + length b.outs + length b.cells < 2 ^ 18
small_by a b alike small = let n : CountAlike a b = count_alike a b alike in omega (arith, small, alike.inputs, alike.cells, n.loops, n.outs)

-- ---- nets keep their places
same_entry : (s t : Src) → entry_source s ≡ Some t → s ≡ t
same_entry (Input i) t e = same_Some _ _ e
same_entry (Latch i) t e = same_Some _ _ e
same_entry One t e = same_Some _ _ e
same_entry Zero t e = same_Some _ _ e
same_entry (Made i) t e = absurd (none-some t e)

same_lane : (a b : CellList) (lanes n : ℕ) → ComputeAlike a b → lanes - loop_count b + n ≡ lanes - loop_count a + n
same_lane a b lanes n alike = let c : CountAlike a b = count_alike a b alike in ap (λ k. lanes - k + n) c.loops

entry_by : (a b : CellList) (lanes : ℕ) (ins : List ℕ) (s t : Src) (place : NetPlace) → ComputeAlike a b → entry_source s ≡ entry_source t → IsEntryOf b lanes ins s place → IsEntryOf a lanes ins t place
entry_by a b lanes ins s (Input i) place alike e h = subst (λ r. IsEntryOf b lanes ins r place) (same_entry s (Input i) e) h
entry_by a b lanes ins s (Latch i) place alike e h =
    let k : IsEntryOf b lanes ins (Latch i) place = subst (λ r. IsEntryOf b lanes ins r place) (same_entry s (Latch i) e) h in (k.0 ∙ same_lane a b lanes i alike, k.1)
entry_by a b lanes ins s One place alike e h =
    let k : IsEntryOf b lanes ins One place = subst (λ r. IsEntryOf b lanes ins r place) (same_entry s One e) h in
    (k.0 ∙ same_lane a b lanes (length b.starts) alike ∙ ap (λ (starts : List Bool). lanes - loop_count a + length starts) alike.starts, k.1)
entry_by a b lanes ins s Zero place alike e h = subst (λ r. IsEntryOf b lanes ins r place) (same_entry s Zero e) h
entry_by a b lanes ins s (Made i) place alike e h = tt

-- one net's sources in the two lists
net_by : {X : Type 0} (f g : Src → Option X) (b a : List Src) (k : ℕ) (src : Src) → map f b ≡ map g a → k < length b → length b ≡ length a → f (get_or b k src) ≡ g (get_or a k src)
net_by f g b a k src e low long =
    sym (get_or-map f b k src None low) ∙ ap (λ l. get_or l k None) e ∙ get_or-map g a k src None (omega (arith, low, long))

entries_by : (a b : CellList) (lanes : ℕ) (ins : List ℕ) (nets : List NetPlace) → ComputeAlike a b → AreAtEntries b lanes ins nets → AreAtEntries a lanes ins nets
entries_by a b lanes ins nets alike at =
    let c : CountAlike a b = count_alike a b alike in
    record {
      long = at.long ∙ c.nets;
      each = λ k src place below.
          (let low : k < length b.nets = (let l = c.nets in omega (arith, below, l)) in
          entry_by a b lanes ins (get_or b.nets k src) (get_or a.nets k src) (get_or nets k place) alike (net_by entry_source entry_source b.nets a.nets k src alike.entries low c.nets) (at.each k src place low));
    }

exits_by : (a b : CellList) (columns : List Column) (nets : List NetPlace) → ComputeAlike a b → AreAtExits b columns nets → AreAtExits a columns nets
exits_by a b columns nets alike at k src place instr below e =
    let c : CountAlike a b = count_alike a b alike in
    let low : k < length b.nets = (let l = c.nets in omega (arith, below, l)) in
    let lane : ℕ = (get_or nets k place).lane in
    at k src place instr low (net_by (maker_on b.cells lane) (maker_on a.cells lane) b.nets a.nets k src (alike.makers lane) low c.nets ∙ e)

pub plan_by : (a b : CellList) (plan : Plan) → ComputeAlike a b → IsPlanOf b plan → IsPlanOf a plan
plan_by a b plan alike of =
    let n : CountAlike a b = count_alike a b alike in
    let cells_of : (f : ℕ → ℕ) → f (length b.cells) ≡ f (length a.cells) = λ f. ap f alike.cells in
    record {
      admissible = of.admissible;
      bare = of.bare;
      edges = of.edges;
      starts = subst (λ (bits : List Bool). StartsContexts plan (bits ∷ []) (start_edges plan)) (loops_start_alike a b alike) of.starts;
      computes = alike_is_planned a b plan alike of.computes;
      lanes = subst (λ (bound : ℕ). plan.lanes ≤ bound)
          (ap₂ (λ (i : ℕ) (l : ℕ). i + 2 * l + length b.outs + length b.cells + 2 + max i (length b.outs)) alike.inputs n.loops
          ∙ ap₂ (λ (o : ℕ) (c : ℕ). a.inputs + 2 * loop_count a + o + c + 2 + max a.inputs o) n.outs alike.cells) of.lanes;
      empty = λ none. of.empty (omega (arith, none, alike.inputs, alike.cells, n.loops, n.outs, n.nets));
      instrs = subst (λ (many : ℕ). instr_count plan.columns ≤ many * plan.lanes)
          (ap₂ (λ (c : ℕ) (o : ℕ). 3 * c + o + 2 * loop_count b) alike.cells n.outs ∙ ap (λ (l : ℕ). 3 * length a.cells + length a.outs + 2 * l) n.loops) of.instrs;
      columns = subst (λ (many : ℕ). length plan.columns ≤ (many + 1) * (plan.lanes + 1))
          (ap₂ (λ (c : ℕ) (o : ℕ). 3 * c + o + 2 * loop_count b) alike.cells n.outs ∙ ap (λ (l : ℕ). 3 * length a.cells + length a.outs + 2 * l) n.loops) of.columns;
      entries = entries_by a b plan.lanes plan.ins plan.nets alike of.entries;
      exits = exits_by a b plan.columns plan.nets alike of.exits;
    }
