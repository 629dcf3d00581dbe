-- A command that drives a pattern prints one output, and `vcd` gives a net the bits that `probe` prints.
use Rattle.std.proofs.Common.{ℕ, ◌≡◌, ◌<◌, ◌+◌, ◌*◌, sym, ap, ◌∙◌, subst, Bool, false, List, [], length, map, get_or, arith}
use Rattle.std.specs.Prelude.{Some, All, slice_get}
use Rattle.std.specs.List.{range_with_len}
use Rattle.std.specs.Str.{bytes_eq}
use Rattle.std.proofs.lemmas.Bool.{and_parts}
use Rattle.std.proofs.lemmas.List.Elements.{All-map}
use Rattle.std.proofs.lemmas.List.FromFn.{get_or-map-range_with_len, length-map-range_with_len}
use Rattle.std.proofs.lemmas.Option.{same_Some, slice_get_within}
use Rattle.std.proofs.lemmas.Slice.Eq.{bytes_eq-Decides}
use Rattle.ww_rule.specs.Grid.{plane_of}
use Rattle.pattern_reading.specs.declared.ports.NetLine.{NetLine}
use Rattle.lists.proofs.Members.{got_from}
use Rattle.drive.specs.Driving.{driven_by}
use Rattle.probe_view.specs.Probes.{has_name_and_path, net_named, probed_at, probed_bits}
use Rattle.probe_view.specs.Windows.{window_text}
use Rattle.vcd_write.specs.Reading.{ReadsAsVcd}
use Rattle.vcd_write.specs.Writing.{vcd_form, vcd_text}
use Rattle.vcd_write.specs.NetWaves.{NetsHaveTheirBits}
use Rattle.blifww_tool.specs.Dumping.{waves_of}
use Rattle.blifww_tool.specs.Probing.{net_text}
use Rattle.blifww_tool.specs.Simulation.{Simulation, simulation_text}
use Rattle.blifww_tool.specs.Viewing.{cycles_in}
use Rattle.blifww_tool.proofs.SimulationOrNot.{same_simulation}
use Rattle.program_laws.specs.OneAnswer.{DumpsAreProbed, ProbePrintsOne, SimulatePrintsOne, VcdPrintsOne, WindowPrintsOne}
use Rattle.program_laws.proofs.DumpsNets.{has_variables, is_variable}
use Rattle.program_laws.proofs.PrintsNet.{found}

pub simulate_prints_one : SimulatePrintsOne
simulate_prints_one cycles words text a b h k = h.2 ∙ ap simulation_text (same_simulation cycles words text h.0 k.0 h.1.is k.1.is) ∙ sym k.2

-- the bits of a net in each context, as a simulation shows them
abbrev bits_in : NetLine → Simulation → List (List Bool)
bits_in line s = probed_bits s.ports s.streams (plane_of s.grid.rows) line

pub probe_prints_one : ProbePrintsOne
probe_prints_one cycles name path words text a b h k =
    let s = h.probes.simulation in
    let t = k.probes.simulation in
    let same : s ≡ t = same_simulation cycles words text s t h.probes.is k.probes.is in
    let line : NetLine = h.probes.probed.net in
    let there : net_named t.ports name path ≡ Some line = ap (λ (u : Simulation). net_named u.ports name path) (sym same) ∙ h.probes.probed.is_there in
    let one : line ≡ k.probes.probed.net = same_Some line k.probes.probed.net (sym there ∙ k.probes.probed.is_there) in
    h.lines
    ∙ ap (net_text s.ports.c name) h.probes.probed.bits_are
    ∙ ap (λ (u : Simulation). net_text u.ports.c name (bits_in line u)) same
    ∙ ap (λ (l : NetLine). net_text t.ports.c name (bits_in l t)) one
    ∙ ap (net_text t.ports.c name) (sym k.probes.probed.bits_are)
    ∙ sym k.lines

pub window_prints_one : WindowPrintsOne
window_prints_one view words text a b h k =
    h.lines
    ∙ ap (λ (s : Simulation). window_text (driven_by s.ports s.streams (plane_of s.grid.rows) view.generation) view.x view.y view.width view.height)
    (same_simulation (cycles_in words) words text h.simulation k.simulation h.has.is k.has.is)
    ∙ sym k.lines

pub vcd_prints_one : VcdPrintsOne
vcd_prints_one cycles words text a b h k =
    h.written
    ∙ ap (λ (s : Simulation). vcd_text (waves_of s)) (same_simulation cycles words text h.simulation k.simulation h.runs.is k.runs.is)
    ∙ sym k.written

pub dumps_are_probed : NetsHaveTheirBits → DumpsAreProbed
dumps_are_probed their_bits cycles words name path text dump shown h k =
    let s = h.simulation in
    let t = k.probes.simulation in
    let same : t ≡ s = same_simulation cycles words text t s k.probes.is h.runs.is in
    let line : NetLine = k.probes.probed.net in
    let there : net_named s.ports name path ≡ Some line = ap (λ (u : Simulation). net_named u.ports name path) (sym same) ∙ k.probes.probed.is_there in
    let passing = found (has_name_and_path name path) s.ports.nets line there in
    let equal = and_parts (bytes_eq line.name name) (bytes_eq line.path path) passing.1 in
    let at = got_from s.ports.nets line passing.0 in
    let number : ℕ = at.0 in
    let is_line : slice_get s.ports.nets number ≡ Some line = at.1 in
    let in_context : ℕ → List Bool = λ context. probed_at s.ports s.streams (plane_of s.grid.rows) context line in
    let bits_are : k.bits ≡ map in_context (range_with_len 0 s.ports.c) = k.probes.probed.bits_are ∙ ap (bits_in line) same in
    record {
      grid = s.grid;
      pattern = h.runs.is.pattern;
      ports = s.ports;
      table = h.runs.is.table;
      number = number;
      line = line;
      at = is_line;
      named = (bytes_eq-Decides line.name name).0 equal.0;
      placed = (bytes_eq-Decides line.path path).0 equal.1;
      bits = k.bits;
      many = ap (λ (b : List (List Bool)). length b) bits_are ∙ length-map-range_with_len in_context 0 s.ports.c;
      long = subst (λ (b : List (List Bool)). All (λ of_context. length of_context ≡ cycles) b) (sym bits_are)
          (All-map (λ (b : List Bool). length b ≡ cycles) in_context (range_with_len 0 s.ports.c) (λ i d lt. length-map-range_with_len _ 0 s.streams.cycles ∙ h.runs.is.many));
      lines = k.lines ∙ ap (λ (u : Simulation). net_text u.ports.c name k.bits) same;
      form = vcd_form (waves_of s);
      reads = subst (λ (d : List ℕ). ReadsAsVcd d (vcd_form (waves_of s))) (sym h.written) h.says.reads;
      variables = has_variables (waves_of s);
      ends = h.says.ends ∙ h.runs.is.many;
      same = λ context cycle less low.
          let early : cycle < s.streams.cycles = omega (arith, low, h.runs.is.many) in
          h.says.bits (context * length s.ports.nets + number) cycle (is_variable s context number less (slice_get_within s.ports.nets number line is_line)) early
          ∙ ap Some (
          their_bits s.ports s.streams (plane_of s.grid.rows) context number line cycle less is_line
          ∙ sym (ap (λ (b : List Bool). get_or b cycle false)
          (ap (λ (b : List (List Bool)). get_or b context []) bits_are ∙ get_or-map-range_with_len in_context 0 s.ports.c context context [] less (omega arith))));
    }
