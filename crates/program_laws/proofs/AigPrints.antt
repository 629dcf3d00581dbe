-- What `simulate` prints of a text that carries a circuit is the lines of the circuit's runs.
use Rattle.std.proofs.Common.{ℕ, ◌≡◌, refl, sym, ap, ap₂, ◌∙◌, subst, Bool, List, [], ◌∷◌, ◌++◌, map, flat_map, zip}
use Rattle.ww_rule.specs.Grid.{Grid, plane_of}
use Rattle.pattern_reading.specs.declared.ports.Ports.{Ports}
use Rattle.pattern_reading.specs.declared.ports.PortLine.{PortLine}
use Rattle.pattern_reading.specs.Ports.{names_of}
use Rattle.carries.proofs.OneWay.{one_spelling}
use Rattle.streams.specs.Streams.{HasStreams}
use Rattle.drive.specs.Driving.{AreFor, shown_at}
use Rattle.shown_runs.specs.ShownRuns.{StreamsAreFor}
use Rattle.shown_runs.proofs.Shown.{shown_alone}
use Rattle.aiger_text.specs.Laws.{ReadAigsAreSound}
use Rattle.aiger_plans.specs.CarriesAig.{CarriesAig}
use Rattle.program_laws.specs.ShownAigs.{CarriersShowAigRuns}
use Rattle.blifww_tool.specs.Lines.{bits_line}
use Rattle.program_laws.specs.AigPrints.{CarriersPrintAigRuns, AigsPrintRuns}
use Rattle.program_laws.proofs.Fed.{are_for}
use Rattle.blifww_tool.proofs.OutputLines.{line}
use Rattle.program_laws.proofs.PrintsAlike.{lines_shown, one_context}

zipped : {X : Type 0} (name : X → List ℕ) (bits : X → List Bool) (outs : List X) → flat_map line (zip (map name outs) (map bits outs)) ≡ flat_map (λ out. bits_line (name out) (bits out)) outs
zipped name bits [] = refl
zipped name bits (out ∷ outs) = ap (λ (l : List ℕ). bits_line (name out) (bits out) ++ l) (zipped name bits outs)

pub carriers_print_aig_runs : CarriersShowAigRuns → StreamsAreFor → CarriersPrintAigRuns
carriers_print_aig_runs law streams_for text aig sound c cycles words output printed =
    let s = printed.0 in
    let is = printed.1.is in
    let read = one_spelling text c.grid s.grid c.ports s.ports c.spells (record { reads = is.pattern.0; table = is.table }) in
    let one : s.ports.c ≡ 1 = ap (λ (p : Ports). p.c) (sym read.1) ∙ c.contexts in
    let are : AreFor c.ports s.streams = subst (λ (p : Ports). AreFor p s.streams) (sym read.1) (are_for streams_for cycles words text s is) in
    let found = law text aig sound c s.streams are in
    let shown : PortLine → List Bool = λ out. shown_at c.ports s.streams (plane_of c.grid.rows) 0 out in
    record {
      fed = s.streams;
      many = is.many;
      contexts = is.contexts ∙ one;
      streams =
          subst (λ (names : List (List ℕ)). HasStreams 1 words names cycles s.streams.bits) (ap (λ (p : Ports). names_of p.ins) (sym read.1) ∙ c.names.ins)
          (subst (λ (n : ℕ). HasStreams n words (names_of s.ports.ins) cycles s.streams.bits) one is.streams);
      run = found.run;
      is_run = found.is_run;
      lines = λ other is_run.
          printed.2
          ∙ ap₂ (λ (p : Ports) (g : Grid). lines_shown p.c s.streams p g) (sym read.1) (sym read.0)
          ∙ one_context c.ports.c s.streams c.ports c.grid c.contexts
          ∙ sym (zipped (λ (out : PortLine). out.name) shown c.ports.outs)
          ∙ ap₂ (λ (names : List (List ℕ)) (bits : List (List Bool)). flat_map line (zip names bits)) c.names.outs
          (sym (shown_alone c.ports s.streams (plane_of c.grid.rows) c.contexts) ∙ found.shown other is_run);
    }

pub aigs_print_runs : CarriersShowAigRuns → StreamsAreFor → ReadAigsAreSound → AigsPrintRuns
aigs_print_runs law streams_for sound source text h = (
  h.aig,
  h.is.reads,
  λ cycles words output printed. carriers_print_aig_runs law streams_for text h.aig (sound source h.aig h.is.reads) (subst (λ (t : List ℕ). CarriesAig t h.aig) (sym h.written) h.is_plan.carries) cycles words output printed,
)
