-- The lines of nets of an admissible plan can be written, and read back.
use Rattle.std.proofs.Common.{◌≡◌, ◌≢◌, refl, sym, ◌∙◌, ap, subst, ℕ, ◌+◌, ◌*◌, ◌<◌, ◌≤◌, Bool, true, false, List, [], ◌∷◌, length, get_or, arith}
use Rattle.std.specs.Prelude.{◌==◌, if◌then◌else◌, Option, Some, None}
use Rattle.std.specs.Option.{ForSome}
use Rattle.std.specs.List.{All, AllByRecursion, AllPairs}
use Rattle.std.proofs.lemmas.Bool.{eqb-true}
use Rattle.std.proofs.lemmas.List.{get_or-map, length-map}
use Rattle.std.proofs.lemmas.List.Elements.{All-head, All-tail, All-map}
use Rattle.lane_core.specs.declared.plan.NetPlace.{NetPlace}
use Rattle.lane_core.specs.declared.plan.Plan.{Plan}
use Rattle.lane_core.specs.Plans.{IsAdmissible, cell_after, size_of}
use Rattle.lane_core.specs.Tape.{tape_shift, moved_east}
use Rattle.netlist_core.specs.declared.flat.Net.{Net as FlatNet}
use Rattle.netlist_core.specs.declared.flat.Flat.{Flat}
use Rattle.netlist_core.specs.Names.{Name}
use Rattle.netlist_meaning.specs.Flat.{listed_nets, no_net}
use Rattle.pattern_reading.specs.declared.ports.NetLine.{NetLine}
use Rattle.pattern_reading.specs.Numbers.{greatest_number}
use Rattle.pattern_reading.specs.PortLines.{path_in}
use Rattle.pattern_reading.specs.Spelling.{IsPortName}
use Rattle.pattern_reading.specs.SoundTable.{IsSoundNet}
use Rattle.pattern_reading.specs.Laws.{IsNetInside}
use Rattle.place_paths.specs.Paths.{name_and_path, names_and_paths}
use Rattle.place_paths.proofs.Paths.{paths_are_read, paths_are_distinct}
use Rattle.plan_ports.specs.Tables.{HasPortNames, HasTablePlaces, drawn_net_cells, named_paths, net_cells_of}

-- lines have what their cells and their names give
each_line : (P : ℕ × ℕ × ℕ → Type 0) (Q : Name × List ℕ → Type 0) (R : NetLine → Type 0) → ((line : NetLine) → P (line.x, line.y, line.offset) → Q (line.name, line.path) → R line)
    → (lines : List NetLine) → All P (net_cells_of lines) → All Q (names_and_paths lines) → AllByRecursion R lines
each_line P Q R both [] p q = tt
each_line P Q R both (line ∷ lines) p q = (
  both line (All-head P (line.x, line.y, line.offset) (net_cells_of lines) p) (All-head Q (line.name, line.path) (names_and_paths lines) q),
  each_line P Q R both lines (All-tail P (line.x, line.y, line.offset) (net_cells_of lines) p) (All-tail Q (line.name, line.path) (names_and_paths lines) q),
)

abbrev pub line_words : NetLine → Name × List ℕ
line_words line = (line.name, line.path)

abbrev pub net_words : FlatNet → Name × List ℕ
net_words net = name_and_path net.place net.name

-- the cell lies in the box, and its offset is no greater than a table may write
abbrev Fits : ℕ × ℕ → ℕ × ℕ × ℕ → Type 0
Fits size cell = (cell.0 < size.0) × (cell.1 < size.1) × (cell.2 ≤ greatest_number)

box : (empty : Bool) (lanes loops columns shift x lane offset : ℕ) → (empty ≡ true → lanes ≡ 0) → lane < lanes → x ≤ 32 * (columns + loops) → offset ≤ greatest_number
    → Fits (if empty then (0, 0) else (32 * (shift + (columns + 2 * loops)) + 1, 16 * (lanes + loops))) (32 * shift + x, 16 * lane + 8, offset)
box true lanes loops columns shift x lane offset none low near small = absurd (omega (arith, none refl, low))
box false lanes loops columns shift x lane offset none low near small = (omega (arith, near), omega (arith, low), small)

place_fits : (plan : Plan) → IsAdmissible plan → (lane : ℕ) (after : Option ℕ) → lane < plan.lanes → ForSome after (λ step. step < length plan.columns) → Fits (size_of plan) (moved_east (tape_shift plan) (cell_after plan lane after))
place_fits plan h lane None low is = box (plan.lanes == 0) plan.lanes plan.latches (length plan.columns) (tape_shift plan) (32 * (plan.latches + 0)) lane 0 (eqb-true plan.lanes 0) low (omega arith) (omega arith)
place_fits plan h lane (Some column) low is =
    let step : column < length plan.columns = is column refl in
    box (plan.lanes == 0) plan.lanes plan.latches (length plan.columns) (tape_shift plan) (32 * (plan.latches + column) + 31) lane (32 * column + 31) (eqb-true plan.lanes 0) low (omega (arith, step)) (omega (arith, step, h.size.columns))

cells_fit : (plan : Plan) → IsAdmissible plan → All (Fits (size_of plan)) (drawn_net_cells plan)
cells_fit plan h =
    All-map (Fits (size_of plan)) (λ (place : NetPlace). moved_east (tape_shift plan) (cell_after plan place.lane place.after)) plan.nets
    (λ k d lt. place_fits plan h (get_or plan.nets k d).lane (get_or plan.nets k d).after (h.nets k d lt).lane (h.nets k d lt).after)

-- a name and a path that can stand in a table
abbrev IsNamed : Name × List ℕ → Type 0
IsNamed words = IsPortName words.0 × (path_in words.1 ≡ Some words.1)

names_fit : (flat : Flat) → HasPortNames flat → HasTablePlaces flat → All IsNamed (named_paths (listed_nets flat))
names_fit flat names places =
    All-map IsNamed net_words (listed_nets flat)
    (λ k d lt. (names.nets k d lt, paths_are_read (get_or (listed_nets flat) k d).place (places.numbers k d lt)))

-- Lines of nets with such cells and names.
module _ (flat : Flat) (plan : Plan) (h : IsAdmissible plan) (names : HasPortNames flat) (places : HasTablePlaces flat) (lines : List NetLine)
    (cells : net_cells_of lines ≡ drawn_net_cells plan) (named : names_and_paths lines ≡ named_paths (listed_nets flat)) where
  each : (R : NetLine → Type 0) → ((line : NetLine) → Fits (size_of plan) (line.x, line.y, line.offset) → IsNamed (line.name, line.path) → R line) → AllByRecursion R lines
  each R both =
      each_line (Fits (size_of plan)) IsNamed R both lines (subst (All (Fits (size_of plan))) (sym cells) (cells_fit plan h))
      (subst (All IsNamed) (sym named) (names_fit flat names places))

  pub nets_sound : (size_of plan).0 ≤ greatest_number → (size_of plan).1 ≤ greatest_number → AllByRecursion IsSoundNet lines
  nets_sound wide high = each IsSoundNet (λ line at words. record {
    x = omega (arith, at.0, wide);
    y = omega (arith, at.1, high);
    offset = at.2;
    name = words.0;
    path = words.1;
  })

  pub nets_inside : AllByRecursion (IsNetInside (size_of plan).0 (size_of plan).1) lines
  nets_inside = each (IsNetInside (size_of plan).0 (size_of plan).1) (λ line at words. (at.0, at.1))

  abbrev seen : List FlatNet
  seen = listed_nets flat

  many : length lines ≡ length seen
  many = sym (length-map lines line_words) ∙ ap length named ∙ length-map seen net_words

  words_are : (k : ℕ) (d : NetLine) → k < length lines → net_words (get_or seen k no_net) ≡ line_words (get_or lines k d)
  words_are k d lt =
      sym (get_or-map net_words seen k no_net (d.name, d.path) (omega (arith, lt, many)))
      ∙ ap (λ words. get_or words k (d.name, d.path)) (sym named)
      ∙ get_or-map line_words lines k d (d.name, d.path) lt

  pub one_net : AllPairs (λ (a b : NetLine). a.name ≡ b.name → a.path ≢ b.path) lines
  one_net i j d before within same_name same_path =
      let first = words_are i d (omega (arith, before, within)) in
      let second = words_are j d within in
      let long : j < length seen = omega (arith, within, many) in
      places.apart i j no_net before long
      (ap (λ words. words.0) first ∙ same_name ∙ sym (ap (λ words. words.0) second))
      (paths_are_distinct (get_or seen i no_net).place (get_or seen j no_net).place (places.numbers i no_net (omega (arith, before, long))) (places.numbers j no_net long)
      (ap (λ words. words.1) first ∙ same_path ∙ sym (ap (λ words. words.1) second)))
