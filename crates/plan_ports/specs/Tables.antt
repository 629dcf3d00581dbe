-- The port table of a plan that is made from a flat netlist.
use Rattle.std.specs.Prelude.{ℕ, ◌+◌, ◌*◌, ◌≡◌, ◌≢◌, ◌==◌, if◌then◌else◌, List, [], length, map, All, AllPairs}
use Rattle.lane_core.specs.declared.plan.Plan.{Plan}
use Rattle.lane_core.specs.Plans.{period_of, latency_of, left_of, row_of, cell_after}
use Rattle.lane_core.specs.Tape.{tape_shift, moved_east}
use Rattle.netlist_core.specs.declared.flat.Net.{Net as FlatNet}
use Rattle.netlist_core.specs.declared.flat.Flat.{Flat}
use Rattle.netlist_core.specs.Names.{Name}
use Rattle.netlist_meaning.specs.Flat.{names_of_ports, listed_nets}
use Rattle.pattern_reading.specs.declared.ports.NetLine.{NetLine}
use Rattle.pattern_reading.specs.declared.ports.Ports.{Ports}
use Rattle.pattern_reading.specs.Ports.{cells_of, names_of}
use Rattle.pattern_reading.specs.Spelling.{IsPortName}
use Rattle.place_paths.specs.Paths.{name_and_path, names_and_paths, HasTableNumbers}

-- the plan has an input and an output for each of the netlist's, and a net for each that tables
-- list
pub record HasPortsOf (flat : Flat) (plan : Plan) : Type 0 where
  pub ins : length plan.ins ≡ length flat.ins
  pub outs : length plan.outs ≡ length flat.outs
  pub nets : length plan.nets ≡ length (listed_nets flat)

-- what a table lists of the inputs of a plan: each of them, or none if their bits are on a tape,
-- since nothing drives them then
abbrev pub driven_inputs : {X : Type 0} → Plan → List X → List X
driven_inputs plan inputs = if length plan.tape == 0 then inputs else []

-- x and y of the cells of inputs and of outputs in the plan's drawing
abbrev pub drawn_input_cells : Plan → List (ℕ × ℕ)
drawn_input_cells plan = map (λ lane. (32 * tape_shift plan + left_of plan 0, row_of lane)) plan.ins

abbrev pub drawn_output_cells : Plan → List (ℕ × ℕ)
drawn_output_cells plan =
    map (λ lane. (32 * tape_shift plan + left_of plan (length plan.columns), row_of lane)) plan.outs

-- x and y of the cells of nets in the plan's drawing, with the generations from the inputs to them
abbrev pub drawn_net_cells : Plan → List (ℕ × ℕ × ℕ)
drawn_net_cells plan =
    map (λ place. moved_east (tape_shift plan) (cell_after plan place.lane place.after)) plan.nets

-- the cells of nets, each with its offset
abbrev pub net_cells_of : List NetLine → List (ℕ × ℕ × ℕ)
net_cells_of lines = map (λ line. (line.x, line.y, line.offset)) lines

-- the names of nets, each with the path of its place
abbrev pub named_paths : List FlatNet → List (Name × List ℕ)
named_paths nets = map (λ net. name_and_path net.place net.name) nets

-- The period, the latency, the cells of ports, and the cells and offsets of nets are the plan's.
-- The names of ports, and the names and places of nets, are the netlist's, in order: the nets are
-- those that tables list, and the inputs have no lines if the plan has a tape. The number of
-- contexts is c.
pub record IsTableOf (flat : Flat) (plan : Plan) (c : ℕ) (ports : Ports) : Type 0 where
  pub period : ports.p ≡ period_of plan
  pub latency : ports.l ≡ latency_of plan
  pub contexts : ports.c ≡ c
  pub in_cells : cells_of ports.ins ≡ driven_inputs plan (drawn_input_cells plan)
  pub in_names : names_of ports.ins ≡ driven_inputs plan (names_of_ports flat flat.ins)
  pub out_cells : cells_of ports.outs ≡ drawn_output_cells plan
  pub out_names : names_of ports.outs ≡ names_of_ports flat flat.outs
  pub net_cells : net_cells_of ports.nets ≡ drawn_net_cells plan
  pub net_names : names_and_paths ports.nets ≡ named_paths (listed_nets flat)

-- the names of ports and of listed nets can stand in a port table
pub record HasPortNames (flat : Flat) : Type 0 where
  pub ins : All IsPortName (names_of_ports flat flat.ins)
  pub outs : All IsPortName (names_of_ports flat flat.outs)
  pub nets : All (λ (net : FlatNet). IsPortName net.name) (listed_nets flat)

-- the places of listed nets can stand in a port table, and no two nets with one name are at one
-- place
pub record HasTablePlaces (flat : Flat) : Type 0 where
  pub numbers : All (λ (net : FlatNet). HasTableNumbers net.place) (listed_nets flat)
  pub apart : AllPairs (λ (a b : FlatNet). a.name ≡ b.name → a.place ≢ b.place) (listed_nets flat)
