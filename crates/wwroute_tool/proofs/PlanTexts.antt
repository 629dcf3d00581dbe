-- A text that begins with lines of gates and wires, or whose box is none of a plan, is no plan's.
use Rattle.std.proofs.Common.{ℕ, ◌≡◌, ◌<◌, ◌≤◌, ◌+◌, ◌*◌, ◌%◌, inl, inr, refl, sym, ap, ◌∙◌, subst, Bool, true, false, List, [], ◌∷◌, ◌++◌, length, get_or, arith, ◌==◌}
use Rattle.std.specs.Prelude.{flat_map, if◌then◌else◌}
use Rattle.std.specs.List.{AllByRecursion}
use Rattle.ww_rule.specs.Grid.{Grid}
use Rattle.ww_rule.specs.Patterns.{grid_of}
use Rattle.lane_core.specs.declared.plan.Plan.{Plan}
use Rattle.lane_core.specs.Plans.{IsAdmissible, size_of}
use Rattle.lane_core.specs.Tape.{tape_shift}
use Rattle.grid_assembly.specs.PlanDrawing.{start_grid}
use Rattle.grid_assembly.proofs.Pattern.{patterns_are_planes}
use Rattle.pattern_reading.specs.declared.ports.Ports.{Ports}
use Rattle.pattern_reading.specs.Pattern.{ReadsAsPattern}
use Rattle.pattern_reading.specs.SoundTable.{IsSoundTable}
use Rattle.pattern_reading.specs.Spelling.{port_forms}
use Rattle.pattern_reading.proofs.RleLaws.{one_pattern}
use Rattle.pattern_reading.proofs.SoundLines.{spellable_lines}
use Rattle.pattern_writing.proofs.Written.{written_pattern}
use Rattle.plan_ports.proofs.Readable.{small_size}
use Rattle.port_table.proofs.SoundTable.{sound_table}
use Rattle.rle_write.specs.PlanText.{text_of_plan}
use Rattle.carries.specs.Cells.{Spells}
use Rattle.route_lines.specs.GateLines.{AreGateLines, IsGateLine, IsOfGate}
use Rattle.routed_plans.specs.declared.routes.Routed.{Routed}
use Rattle.routed_plans.specs.Carried.{text_of_routed}
use Rattle.wwroute_tool.specs.Answers.{IsPlanText, HasNoPlanForm}

-- ---- the box of a plan
-- its columns and its rows, by tiles and lanes
abbrev box : Bool → (tiles lanes : ℕ) → ℕ × ℕ
box none tiles lanes = if none then (0, 0) else (32 * tiles + 1, 16 * lanes)

box_is : (none : Bool) (tiles lanes : ℕ) → ((box none tiles lanes).0 % 32 ≤ 1) × ((box none tiles lanes).1 % 16 ≡ 0)
box_is true tiles lanes = (omega arith, refl)
box_is false tiles lanes = (omega arith, omega arith)

size_is : (plan : Plan) → ((size_of plan).0 % 32 ≤ 1) × ((size_of plan).1 % 16 ≡ 0)
size_is plan = box_is (plan.lanes == 0) (tape_shift plan + (length plan.columns + 2 * plan.latches)) (plan.lanes + plan.latches)

-- ---- the fourth byte of a text
abbrev fourth : List ℕ → ℕ
fourth text = get_or text 3 0

of_plan : (plan : Plan) (ports : Ports) → fourth (text_of_plan plan ports) ≡ 66
of_plan plan ports = refl

-- bytes after a first line
first_line : (line more others rest : List ℕ) → IsOfGate line → fourth (((line ++ more) ++ others) ++ rest) ≡ 66 → ⊥
first_line line more others rest (inl (end, is)) e =
    let e' : 103 ≡ 66 = ap (λ (l : List ℕ). fourth (((l ++ more) ++ others) ++ rest)) (sym is) ∙ e in absurd (omega (arith, e'))
first_line line more others rest (inr (end, is)) e =
    let e' : 119 ≡ 66 = ap (λ (l : List ℕ). fourth (((l ++ more) ++ others) ++ rest)) (sym is) ∙ e in absurd (omega (arith, e'))

of_lines : (bytes rest : List ℕ) (lines : List (List ℕ)) → bytes ≡ flat_map (λ line. line ++ 10 ∷ []) lines → AllByRecursion IsGateLine lines → 0 < length bytes → fourth (bytes ++ rest) ≡ 66 → ⊥
of_lines bytes rest [] joined each some e = let none : length bytes ≡ 0 = ap (λ (b : List ℕ). length b) joined in omega (arith, none, some)
of_lines bytes rest (line ∷ lines) joined each some e =
    first_line line (10 ∷ []) (flat_map (λ line. line ++ 10 ∷ []) lines) rest each.0.kind (ap (λ (b : List ℕ). fourth (b ++ rest)) (sym joined) ∙ e)

-- ---- the text of a routed circuit
module _ (routed : Routed) (lines : AreGateLines routed.lines) (spells : Spells (text_of_routed routed) (grid_of routed.pattern) routed.ports) where
  -- a plan's text has the plan's box
  same_grid : (plan : Plan) → IsAdmissible plan → text_of_routed routed ≡ text_of_plan plan routed.ports → grid_of routed.pattern ≡ start_grid plan
  same_grid plan admissible is =
      let size = small_size plan admissible in
      let table : IsSoundTable routed.ports = sound_table (text_of_routed routed) routed.pattern.width routed.pattern.height routed.ports spells.table in
      let reads : ReadsAsPattern (text_of_plan plan routed.ports) (start_grid plan) =
      written_pattern (start_grid plan) (port_forms routed.ports) (record { in_rows = (patterns_are_planes plan admissible).box; width = omega (arith, size.0); height = omega (arith, size.1) }) (spellable_lines routed.ports table) in
      one_pattern (text_of_plan plan routed.ports) (grid_of routed.pattern) (start_grid plan) (subst (λ (t : List ℕ). ReadsAsPattern t (grid_of routed.pattern)) is spells.reads) reads

  pub no_plan : HasNoPlanForm routed → IsPlanText (text_of_routed routed) routed.ports → ⊥
  no_plan (inl some) (plan, admissible, is) =
      of_lines routed.lines _ lines.lines lines.joined lines.each some (ap fourth is ∙ of_plan plan routed.ports)
  no_plan (inr (inl wide)) (plan, admissible, is) =
      let same : routed.pattern.width ≡ (size_of plan).0 = ap (λ (g : Grid). g.width) (same_grid plan admissible is) in
      let few : routed.pattern.width % 32 ≤ 1 = subst (λ (n : ℕ). n % 32 ≤ 1) (sym same) (size_is plan).0 in
      omega (arith, few, wide)
  no_plan (inr (inr high)) (plan, admissible, is) =
      let same : routed.pattern.height ≡ (size_of plan).1 = ap (λ (g : Grid). g.height) (same_grid plan admissible is) in
      let none : routed.pattern.height % 16 ≡ 0 = subst (λ (n : ℕ). n % 16 ≡ 0) (sym same) (size_is plan).1 in
      omega (arith, none, high)
