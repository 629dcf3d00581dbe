use Rattle.std.proofs.Common.{◌≡◌, ◌*◌, ap, sym, ◌∙◌, subst, ℕ, List, length, map, string_bytes}
use Rattle.std.proofs.lemmas.List.{length-map}
use Rattle.pattern_reading.specs.declared.ports.PortLine.{PortLine}
use Rattle.pattern_reading.specs.Ports.{names_of}
use Rattle.port_table.proofs.SoundTable.{sound_table}
use Rattle.streams.specs.Streams.{HasStreams}
use Rattle.blifww_tool.proofs.Simulated.{ins_in_box}
use Rattle.blifww_tool.proofs.driven.driven_by.Goals as goal

pub returns-clause-is : goal.returns-clause-is
returns-clause-is c =
    let words = map string_bytes c.args.words.now in
    let ins = names_of c.in_ok-ports.ports.ins in
    let names : c.deref.result.now ≡ ins = c.deref.ensures.value ∙ c.in_ok-names.ensures ∙ ap names_of c.as_slice.ensures in
    let contexts = c.in_ok-ports.ports.c in
    let streams : HasStreams contexts words ins c.args.cycles c.in_ok-streams.streams.bits =
    subst (λ (ns : List (List ℕ)). HasStreams contexts words ns c.args.cycles c.in_ok-streams.streams.bits) names c.in_ok-streams.ensures.streams in
    record { pattern = c.in_ok-pattern.ensures.pattern; table = c.in_ok-ports.ensures.table; many = c.in_ok-streams.ensures.cycles; contexts = c.in_ok-streams.ensures.contexts; streams = streams }

pub returns-clause-streams : goal.returns-clause-streams
returns-clause-streams c =
    let ports = c.in_ok-ports.ports in
    let sound = sound_table c.args.text.now c.in_ok-pattern.pattern.width c.in_ok-pattern.pattern.height ports c.in_ok-ports.ensures.table in
    let names = ap length (c.deref.ensures.value ∙ c.in_ok-names.ensures ∙ ap names_of c.as_slice.ensures) ∙ length-map ports.ins (λ (p : PortLine). p.name) in
    record {
      same = c.in_ok-streams.ensures.contexts;
      contexts = sound.contexts;
      room = sound.room;
      many = c.in_ok-streams.ensures.many ∙ ap (λ (n : ℕ). ports.c * n) names;
      long = λ k d lt. c.in_ok-streams.ensures.long k d lt ∙ sym c.in_ok-streams.ensures.cycles;
    }

pub returns-clause-in_box : goal.returns-clause-in_box
returns-clause-in_box c = ins_in_box c.args.text.now c.in_ok-pattern.pattern.width c.in_ok-pattern.pattern.height c.in_ok-ports.ports c.in_ok-ports.ensures.table
