-- The written text of a routed circuit reads as its pattern and its table.
use Rattle.std.proofs.Common.{◌≢◌, sym, ◌∙◌, subst, ℕ, ◌<◌, ◌^◌, List, [], ◌∷◌, ◌++◌, arith}
use Rattle.std.specs.Prelude.{Option}
use Rattle.std.specs.List.{All, AllByRecursion, AllPairs}
use Rattle.std.proofs.lemmas.List.{get_or-map, length-map}
use Rattle.std.proofs.lemmas.List.Elements.{All-head, All-tail}
use Rattle.ww_rule.specs.declared.pattern.Pattern.{Pattern}
use Rattle.ww_rule.specs.Patterns.{grid_of}
use Rattle.netlist_core.specs.declared.flat.Flat.{Flat}
use Rattle.netlist_meaning.specs.Flat.{IsNamed}
use Rattle.pattern_reading.specs.declared.ports.PortLine.{PortLine}
use Rattle.pattern_reading.specs.declared.ports.Ports.{Ports}
use Rattle.pattern_reading.specs.Ports.{names_of}
use Rattle.pattern_reading.specs.Spelling.{IsPortName}
use Rattle.pattern_reading.specs.SoundTable.{IsSoundPort, IsSoundTable}
use Rattle.pattern_reading.specs.Laws.{HasCellsInside, IsNetInside, IsPortInside}
use Rattle.pattern_writing.specs.WrittenText.{pattern_text}
use Rattle.pattern_writing.proofs.Written.{written_text}
use Rattle.plan_ports.specs.Tables.{HasPortNames, HasTablePlaces}
use Rattle.carries.specs.Cells.{Spells}
use Rattle.route_lines.specs.GateLines.{AreGateLines}
use Rattle.route_lines.proofs.SkippedLines.{keeps_pattern, keeps_ports}
use Rattle.routed_plans.specs.declared.nets.SeenPort.{SeenPort}
use Rattle.routed_plans.specs.Tables.{FitsPattern, NamesRouted}
use Rattle.routed_plans.proofs.NetTables.{nets_sound, one_net}

-- lines in a box, with names that can stand in a table, are sound
lines_sound : (width height : ℕ) → width < 2 ^ 64 → height < 2 ^ 64 → (lines : List PortLine) → AllByRecursion (IsPortInside width height) lines → All IsPortName (names_of lines) → AllByRecursion IsSoundPort lines
lines_sound width height wide high [] inside names = tt
lines_sound width height wide high (line ∷ lines) (at, rest) names = (
  record { x = omega (arith, at.0, wide); y = omega (arith, at.1, high); name = All-head IsPortName line.name (names_of lines) names },
  lines_sound width height wide high lines rest (All-tail IsPortName line.name (names_of lines) names),
)

by_recursion : {X : Type 0} (P : X → Type 0) (xs : List X) → All P xs → AllByRecursion P xs
by_recursion P [] all = tt
by_recursion P (x ∷ xs) all = (All-head P x xs all, by_recursion P xs (All-tail P x xs all))

-- a table whose cells lie in a box
pub cells_inside : (width height : ℕ) (ports : Ports) → All (IsPortInside width height) ports.ins → All (IsPortInside width height) ports.outs → All (IsNetInside width height) ports.nets → HasCellsInside width height ports
cells_inside width height ports ins outs nets = record {
  ins = by_recursion (IsPortInside width height) ports.ins ins;
  outs = by_recursion (IsPortInside width height) ports.outs outs;
  nets = by_recursion (IsNetInside width height) ports.nets nets;
}

distinct : (lines : List PortLine) → AllPairs (λ a b. a ≢ b) (names_of lines) → AllPairs (λ (a b : PortLine). a.name ≢ b.name) lines
distinct lines h i j d before within =
    let first = get_or-map (λ (line : PortLine). line.name) lines i d d.name (omega (arith, before, within)) in
    let second = get_or-map (λ (line : PortLine). line.name) lines j d d.name within in
    λ same. h i j d.name before (omega (arith, within, length-map lines (λ (line : PortLine). line.name))) (first ∙ same ∙ sym second)

module _ (flat : Flat) (shown : List (Option SeenPort)) (pattern : Pattern) (ports : Ports) (names : NamesRouted flat shown ports) (fits : FitsPattern pattern ports) (named : IsNamed flat) (words : HasPortNames flat) (places : HasTablePlaces flat) where
  table_sound : IsSoundTable ports
  table_sound = record {
    period = fits.period;
    p = fits.p;
    l = fits.l;
    contexts = λ e. omega (arith, names.contexts, e);
    room = λ more. omega (arith, names.contexts, more);
    ins = lines_sound pattern.width pattern.height fits.width fits.height ports.ins fits.inside.ins (subst (All IsPortName) (sym names.ins) words.ins);
    outs = lines_sound pattern.width pattern.height fits.width fits.height ports.outs fits.inside.outs (subst (All IsPortName) (sym names.outs) words.outs);
    nets = nets_sound flat shown words places ports.nets names.nets pattern.width pattern.height fits.width fits.height fits.inside.nets fits.offsets;
    one_input = distinct ports.ins (subst (AllPairs (λ a b. a ≢ b)) (sym names.ins) named.ins.distinct);
    one_output = distinct ports.outs (subst (AllPairs (λ a b. a ≢ b)) (sym names.outs) named.outs.distinct);
    one_net = one_net flat shown words places ports.nets names.nets;
  }

  pub routed_spells : (lines : List ℕ) → AreGateLines lines → Spells (lines ++ pattern_text (grid_of pattern) ports) (grid_of pattern) ports
  routed_spells lines are =
      let grid = grid_of pattern in
      let text = pattern_text grid ports in
      let reads = written_text grid ports (record { in_rows = pattern.in_rows; width = fits.width; height = fits.height }) table_sound fits.inside in
      record { reads = keeps_pattern lines text grid are reads.0; table = keeps_ports lines text grid.width grid.height ports are reads.1 }
