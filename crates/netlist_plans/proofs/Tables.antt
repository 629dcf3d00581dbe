-- Every plan with the ports of a flat netlist has a table.
use Rattle.std.proofs.Common.{◌≡◌, refl, sym, ◌∙◌, ap₂, ℕ, ◌+◌, ◌*◌, Bool, true, false, List, [], ◌∷◌, length, map, arith}
use Rattle.std.specs.Prelude.{◌==◌, if◌then◌else◌}
use Rattle.std.proofs.lemmas.List.{length-map}
use Rattle.lane_core.specs.declared.plan.NetPlace.{NetPlace}
use Rattle.lane_core.specs.declared.plan.Plan.{Plan}
use Rattle.lane_core.specs.Plans.{left_of, row_of, period_of, latency_of, cell_after}
use Rattle.lane_core.specs.Tape.{tape_shift, moved_east}
use Rattle.netlist_core.specs.declared.flat.Flat.{Flat}
use Rattle.netlist_core.specs.declared.flat.FlatPort.{FlatPort}
use Rattle.netlist_core.specs.declared.flat.Net.{Net as FlatNet}
use Rattle.netlist_core.specs.Names.{Name}
use Rattle.netlist_meaning.specs.Flat.{name_of_net, names_of_ports, listed_nets}
use Rattle.pattern_reading.specs.declared.ports.NetLine.{NetLine}
use Rattle.pattern_reading.specs.declared.ports.PortLine.{PortLine}
use Rattle.pattern_reading.specs.declared.ports.Ports.{Ports}
use Rattle.place_paths.specs.Paths.{name_and_path}
use Rattle.plan_ports.specs.Tables.{HasPortsOf, IsTableOf, driven_inputs, drawn_input_cells, drawn_output_cells, drawn_net_cells, named_paths}

-- items that are made of two lists, place by place
abbrev zipped : {X Y Z : Type 0} → (X → Y → Z) → Y → List X → List Y → List Z
zipped make d [] ys = []
zipped make d (x ∷ xs) [] = make x d ∷ zipped make d xs []
zipped make d (x ∷ xs) (y ∷ ys) = make x y ∷ zipped make d xs ys

firsts : {X Y Z : Type 0} (make : X → Y → Z) (d : Y) (f : Z → X) → ((x : X) (y : Y) → f (make x y) ≡ x) → (xs : List X) (ys : List Y) → map f (zipped make d xs ys) ≡ xs
firsts make d f is [] ys = refl
firsts make d f is (x ∷ xs) [] = ap₂ (λ first rest. first ∷ rest) (is x d) (firsts make d f is xs [])
firsts make d f is (x ∷ xs) (y ∷ ys) = ap₂ (λ first rest. first ∷ rest) (is x y) (firsts make d f is xs ys)

seconds : {X Y Z : Type 0} (make : X → Y → Z) (d : Y) (f : Z → Y) → ((x : X) (y : Y) → f (make x y) ≡ y) → (xs : List X) (ys : List Y) → length xs ≡ length ys → map f (zipped make d xs ys) ≡ ys
seconds make d f is [] [] many = refl
seconds make d f is [] (y ∷ ys) many = absurd (omega (arith, many))
seconds make d f is (x ∷ xs) [] many = absurd (omega (arith, many))
seconds make d f is (x ∷ xs) (y ∷ ys) many = ap₂ (λ first rest. first ∷ rest) (is x y) (seconds make d f is xs ys (omega (arith, many)))

abbrev port_line : ℕ × ℕ → Name → PortLine
port_line cell name = record { x = cell.0; y = cell.1; name = name }

abbrev net_line : ℕ × ℕ × ℕ → Name × List ℕ → NetLine
net_line cell words = record { x = cell.0; y = cell.1; offset = cell.2; name = words.0; path = words.1 }

abbrev port_cell : ℕ → ℕ → ℕ × ℕ
port_cell x lane = (x, row_of lane)

same_length : {X Y : Type 0} (b : Bool) (xs : List X) (ys : List Y) → length xs ≡ length ys → length (if b then xs else []) ≡ length (if b then ys else [])
same_length true xs ys many = many
same_length false xs ys many = refl

pub a_table : (flat : Flat) (plan : Plan) → HasPortsOf flat plan → (c : ℕ) → (ports : Ports) × IsTableOf flat plan c ports
a_table flat plan many c =
    let ins : length (drawn_input_cells plan) ≡ length (names_of_ports flat flat.ins) =
    length-map plan.ins (port_cell (32 * tape_shift plan + left_of plan 0)) ∙ many.ins ∙ sym (length-map flat.ins (λ (port : FlatPort). name_of_net flat port.net)) in
    let outs : length (drawn_output_cells plan) ≡ length (names_of_ports flat flat.outs) =
    length-map plan.outs (port_cell (32 * tape_shift plan + left_of plan (length plan.columns))) ∙ many.outs ∙ sym (length-map flat.outs (λ (port : FlatPort). name_of_net flat port.net)) in
    let nets : length (drawn_net_cells plan) ≡ length (named_paths (listed_nets flat)) =
    length-map plan.nets (λ (place : NetPlace). moved_east (tape_shift plan) (cell_after plan place.lane place.after)) ∙ many.nets ∙ sym (length-map (listed_nets flat) (λ (net : FlatNet). name_and_path net.place net.name)) in (
      record {
        p = period_of plan;
        l = latency_of plan;
        c = c;
        ins = zipped port_line [] (driven_inputs plan (drawn_input_cells plan)) (driven_inputs plan (names_of_ports flat flat.ins));
        outs = zipped port_line [] (drawn_output_cells plan) (names_of_ports flat flat.outs);
        nets = zipped net_line ([], []) (drawn_net_cells plan) (named_paths (listed_nets flat));
      },
      record {
        period = refl;
        latency = refl;
        contexts = refl;
        in_cells = firsts port_line [] (λ line. (line.x, line.y)) (λ cell name. refl) (driven_inputs plan (drawn_input_cells plan)) (driven_inputs plan (names_of_ports flat flat.ins));
        in_names = seconds port_line [] (λ line. line.name) (λ cell name. refl) (driven_inputs plan (drawn_input_cells plan)) (driven_inputs plan (names_of_ports flat flat.ins))
            (same_length (length plan.tape == 0) (drawn_input_cells plan) (names_of_ports flat flat.ins) ins);
        out_cells = firsts port_line [] (λ line. (line.x, line.y)) (λ cell name. refl) (drawn_output_cells plan) (names_of_ports flat flat.outs);
        out_names = seconds port_line [] (λ line. line.name) (λ cell name. refl) (drawn_output_cells plan) (names_of_ports flat flat.outs) outs;
        net_cells = firsts net_line ([], []) (λ line. (line.x, line.y, line.offset)) (λ cell words. refl) (drawn_net_cells plan) (named_paths (listed_nets flat));
        net_names = seconds net_line ([], []) (λ line. (line.name, line.path)) (λ cell words. refl) (drawn_net_cells plan) (named_paths (listed_nets flat)) nets;
      },
    )
