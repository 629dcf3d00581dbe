-- What `probe` prints of a text that carries the nets of a netlist is the bits of a net of it.
use Rattle.std.proofs.Common.{ℕ, ◌≡◌, refl, sym, ap, ◌∙◌, subst, Bool, true, false, cond, inl, inr, List, [], ◌∷◌}
use Rattle.std.specs.Prelude.{Some}
use Rattle.std.specs.List.{find}
use Rattle.std.specs.Str.{bytes_eq}
use Rattle.std.proofs.lemmas.Bool.{and_parts}
use Rattle.std.proofs.lemmas.List.{append-nil}
use Rattle.std.proofs.lemmas.Option.{none-some, same_Some}
use Rattle.std.proofs.lemmas.Slice.Eq.{bytes_eq-Decides}
use Rattle.ww_rule.specs.Grid.{Grid, plane_of}
use Rattle.pattern_reading.specs.declared.ports.NetLine.{NetLine}
use Rattle.pattern_reading.specs.declared.ports.Ports.{Ports}
use Rattle.pattern_reading.specs.Ports.{names_of}
use Rattle.lists.proofs.Members.{In, got_from}
use Rattle.carries.proofs.OneWay.{one_spelling}
use Rattle.streams.specs.Streams.{HasStreams}
use Rattle.drive.specs.Driving.{AreFor}
use Rattle.probe_view.specs.Probes.{has_name_and_path, net_named, probed_bits}
use Rattle.shown_runs.specs.ShownRuns.{CarriersShowNets, CarriersShowRuns, StreamsAreFor, net_bits_in_run}
use Rattle.blifww_tool.specs.Lines.{bits_line}
use Rattle.blifww_tool.specs.Probing.{net_text}
use Rattle.program_laws.specs.PrintsAlike.{CarriersPrintNets}
use Rattle.program_laws.proofs.Fed.{are_for}

-- what is found is of the list, and passes
pub found : {X : Type 0} (p : X → Bool) (xs : List X) (x : X) → find p xs ≡ Some x → In x xs × (p x ≡ true)
found p [] x e = absurd (none-some x e)
found p (y ∷ ys) x e = by (p y) refl (found p ys x) e
  where
    by : (b : Bool) → p y ≡ b → (find p ys ≡ Some x → In x ys × (p x ≡ true)) → cond b (Some y) (find p ys) ≡ Some x → In x (y ∷ ys) × (p x ≡ true)
    by true h rest same = (inl (sym (same_Some y x same)), ap p (sym (same_Some y x same)) ∙ h)
    by false h rest later = let r = rest later in (inr r.0, r.1)

-- the line of a net in one context
one_line : (contexts : ℕ) (name : List ℕ) (bits : List Bool) → contexts ≡ 1 → net_text contexts name (bits ∷ []) ≡ bits_line name bits
one_line contexts name bits one = ap (λ (n : ℕ). net_text n name (bits ∷ [])) one ∙ append-nil (bits_line name bits)

pub carriers_print_nets : CarriersShowNets → CarriersShowRuns → StreamsAreFor → CarriersPrintNets
carriers_print_nets law runs streams_for text design c cycles name path words output printed =
    let probes = printed.probes in
    let s = probes.simulation in
    let ports : Ports = c.carried.ports in
    let read = one_spelling text c.carried.grid s.grid ports s.ports c.carried.spells (record { reads = probes.is.pattern.0; table = probes.is.table }) in
    let one : s.ports.c ≡ 1 = ap (λ (p : Ports). p.c) (sym read.1) ∙ c.carried.contexts in
    let fed : HasStreams 1 words (names_of ports.ins) cycles s.streams.bits =
    subst (λ (p : Ports). HasStreams 1 words (names_of p.ins) cycles s.streams.bits) (sym read.1)
    (subst (λ (n : ℕ). HasStreams n words (names_of s.ports.ins) cycles s.streams.bits) one probes.is.streams) in
    let are : AreFor ports s.streams = subst (λ (p : Ports). AreFor p s.streams) (sym read.1) (are_for streams_for cycles words text s probes.is) in
    let line : NetLine = probes.probed.net in
    let there : net_named ports name path ≡ Some line = ap (λ (p : Ports). net_named p name path) read.1 ∙ probes.probed.is_there in
    let passing = found (has_name_and_path name path) ports.nets line there in
    let same = and_parts (bytes_eq line.name name) (bytes_eq line.path path) passing.1 in
    let at = got_from ports.nets line passing.0 in
    let (net, of_net, shown) = law text design c at.0 line at.1 in
    let ran = runs text design c.carried s.streams are in
    record {
      fed = s.streams;
      feeds = record { in_names = names_of ports.ins; names = c.carried.names.ins; many = probes.is.many; contexts = probes.is.contexts ∙ one; streams = fed };
      run = ran.run;
      is_run = ran.is_run;
      net = net;
      is_net = of_net.is_net;
      no_clock = of_net.no_clock;
      named = sym of_net.name ∙ (bytes_eq-Decides line.name name).0 same.0;
      placed = sym of_net.path ∙ (bytes_eq-Decides line.path path).0 same.1;
      line = λ other is_other.
          printed.lines
          ∙ ap (net_text s.ports.c name) (probes.probed.bits_are
          ∙ ap (λ (p : Ports). probed_bits p s.streams (plane_of s.grid.rows) line) (sym read.1)
          ∙ ap (λ (grid : Grid). probed_bits ports s.streams (plane_of grid.rows) line) (sym read.0)
          ∙ shown s.streams are other is_other)
          ∙ one_line s.ports.c name (net_bits_in_run other s.streams.cycles net) one;
    }
