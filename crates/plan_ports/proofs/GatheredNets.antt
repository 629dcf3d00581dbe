-- Lines of nets that are gathered net by net.
use Rattle.std.proofs.Common.{◌≡◌, sym, ◌∙◌, ap, ap₂, ℕ, ◌+◌, ◌<◌, ◌≤◌, Bool, true, false, not, cond, List, [], ◌∷◌, ◌++◌, filter, take, drop, length, get_or, arith}
use Rattle.std.specs.Prelude.{None}
use Rattle.std.proofs.lemmas.List.{append-nil, map-append, take_more, take-append-drop, get_or-map, length-map, length-append}
use Rattle.std.proofs.lemmas.List.Elements.{filter-append, filter_more}
use Rattle.std.proofs.Math.Seq.{take-length}
use Rattle.lane_core.specs.declared.plan.NetPlace.{NetPlace}
use Rattle.lane_core.specs.declared.plan.Plan.{Plan}
use Rattle.lane_core.specs.Plans.{cell_after, net_cell_of}
use Rattle.lane_core.specs.Tape.{tape_shift, moved_east}
use Rattle.netlist_core.specs.declared.flat.Net.{Net as FlatNet}
use Rattle.netlist_core.specs.declared.flat.Flat.{Flat}
use Rattle.netlist_meaning.specs.Flat.{is_clock_class, nets_but_clocks}
use Rattle.pattern_reading.specs.declared.ports.NetLine.{NetLine}
use Rattle.place_paths.specs.Paths.{path_of, names_and_paths}
use Rattle.plan_ports.specs.Tables.{drawn_net_cells, named_paths, net_cells_of}
use Rattle.plan_ports.proofs.NetLines.{line_words, net_words}

abbrev pub is_seen : Flat → FlatNet → Bool
is_seen flat net = not (is_clock_class flat net.class)

abbrev pub place_of_line : NetLine → ℕ × ℕ × ℕ
place_of_line line = (line.x, line.y, line.offset)

-- the lines of the first nets, but of clock nets
pub record AreNetLines (flat : Flat) (plan : Plan) (nets : ℕ) (lines : List NetLine) : Type 0 where
  pub cells : net_cells_of lines ≡ take (length lines) (drawn_net_cells plan)
  pub names : names_and_paths lines ≡ named_paths (filter (is_seen flat) (take nets flat.nets))

-- as many as there are such nets
count : (flat : Flat) (plan : Plan) (i : ℕ) (lines : List NetLine) → AreNetLines flat plan i lines → length lines ≡ length (filter (is_seen flat) (take i flat.nets))
count flat plan i lines g = sym (length-map lines _) ∙ ap length g.names ∙ length-map (filter (is_seen flat) (take i flat.nets)) _

few : {X : Type 0} (p : X → Bool) (xs : List X) (k : ℕ) → length (filter p (take k xs)) ≤ length (filter p xs)
few p xs k =
    let all : length (filter p xs) ≡ length (filter p (take k xs)) + length (filter p (drop k xs)) =
    ap (λ ys. length (filter p ys)) (sym (take-append-drop k xs)) ∙ ap length (filter-append p (take k xs) (drop k xs)) ∙ length-append (filter p (take k xs)) (filter p (drop k xs)) in
    omega (arith, all)

filtered : (flat : Flat) (i : ℕ) (net : FlatNet) (b : Bool) → i < length flat.nets → net ≡ get_or flat.nets i net → is_seen flat net ≡ b
    → filter (is_seen flat) (take (i + 1) flat.nets) ≡ filter (is_seen flat) (take i flat.nets) ++ cond b (net ∷ []) []
filtered flat i net b within is e =
    filter_more (is_seen flat) flat.nets i net within
    ∙ ap (λ n. filter (is_seen flat) (take i flat.nets) ++ cond (is_seen flat n) (n ∷ []) []) (sym is)
    ∙ ap (λ s. filter (is_seen flat) (take i flat.nets) ++ cond s (net ∷ []) []) e

-- the plan has one more where the next net is no clock net
pub one_more_there : (flat : Flat) (plan : Plan) (i : ℕ) (lines : List NetLine) (net : FlatNet) → length plan.nets ≡ length (nets_but_clocks flat) → AreNetLines flat plan i lines → i < length flat.nets → net ≡ get_or flat.nets i net → is_seen flat net ≡ true
    → length lines < length plan.nets
one_more_there flat plan i lines net all g within is seen =
    let more : length (filter (is_seen flat) (take (i + 1) flat.nets)) ≡ length (filter (is_seen flat) (take i flat.nets)) + 1 =
    ap length (filtered flat i net true within is seen) ∙ length-append (filter (is_seen flat) (take i flat.nets)) (net ∷ []) in
    omega (arith, count flat plan i lines g, more, few (is_seen flat) flat.nets (i + 1), all)

-- with its line
pub with_line : (flat : Flat) (plan : Plan) (i : ℕ) (lines new : List NetLine) (line : NetLine) (net : FlatNet) → AreNetLines flat plan i lines → i < length flat.nets → net ≡ get_or flat.nets i net → is_seen flat net ≡ true
    → length lines < length plan.nets → new ≡ lines ++ line ∷ [] → place_of_line line ≡ moved_east (tape_shift plan) (net_cell_of plan (length lines))
    → line.name ≡ net.name → line.path ≡ path_of net.place → AreNetLines flat plan (i + 1) new
with_line flat plan i lines new line net g within is seen there pushed cell named path = record {
  cells =
      ap net_cells_of pushed ∙ map-append place_of_line lines (line ∷ []) ∙ ap₂ (λ cells c. cells ++ c ∷ []) g.cells (cell ∙ sym (get_or-map cell_of plan.nets (length lines) no_place (0, 0, 0) there))
      ∙ sym (take_more (drawn_net_cells plan) (length lines) (0, 0, 0) (omega (arith, there, length-map {B = ℕ × ℕ × ℕ} plan.nets cell_of)))
      ∙ ap (λ n. take n (drawn_net_cells plan)) (sym (ap length pushed ∙ length-append lines (line ∷ [])));
  names =
      ap names_and_paths pushed ∙ map-append line_words lines (line ∷ []) ∙ ap₂ (λ words w. words ++ w ∷ []) g.names words_same
      ∙ sym (map-append net_words (filter (is_seen flat) (take i flat.nets)) (net ∷ []))
      ∙ ap named_paths (sym (filtered flat i net true within is seen));
}
  where
    cell_of : NetPlace → ℕ × ℕ × ℕ
    cell_of place = moved_east (tape_shift plan) (cell_after plan place.lane place.after)

    no_place : NetPlace
    no_place = record { lane = 0; after = None }

    words_same : line_words line ≡ net_words net
    words_same = ap₂ (λ (a b : List ℕ). (a, b)) named path

-- or none where it is one
pub without_line : (flat : Flat) (plan : Plan) (i : ℕ) (lines : List NetLine) (net : FlatNet) → AreNetLines flat plan i lines → i < length flat.nets → net ≡ get_or flat.nets i net → is_seen flat net ≡ false → AreNetLines flat plan (i + 1) lines
without_line flat plan i lines net g within is unseen = record {
  cells = g.cells;
  names = g.names ∙ ap named_paths (sym (filtered flat i net false within is unseen ∙ append-nil (filter (is_seen flat) (take i flat.nets))));
}

-- the lines of all nets
pub all_lines : (flat : Flat) (plan : Plan) (lines : List NetLine) → length plan.nets ≡ length (nets_but_clocks flat) → AreNetLines flat plan (length flat.nets) lines → net_cells_of lines ≡ drawn_net_cells plan
all_lines flat plan lines all g =
    let long : length lines ≡ length (drawn_net_cells plan) =
    count flat plan (length flat.nets) lines g ∙ ap (λ nets. length (filter (is_seen flat) nets)) (take-length flat.nets) ∙ sym all ∙ sym (length-map {B = ℕ × ℕ × ℕ} plan.nets _) in
    g.cells ∙ ap (λ n. take n (drawn_net_cells plan)) long ∙ take-length (drawn_net_cells plan)
