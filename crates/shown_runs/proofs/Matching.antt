-- Words say the same streams for a table and for its design.
use Rattle.std.proofs.Common.{ℕ, ◌≡◌, ◌≢◌, ◌<◌, ◌≤◌, ◌*◌, sym, ap, ap₂, ◌∙◌, subst, Bool, List, [], length, map, arith}
use Rattle.std.specs.Prelude.{All}
use Rattle.std.proofs.lemmas.List.{length-map}
use Rattle.pattern_reading.specs.declared.ports.Ports.{Ports}
use Rattle.pattern_reading.specs.declared.ports.PortLine.{PortLine}
use Rattle.pattern_reading.specs.Ports.{names_of}
use Rattle.netlist_meaning.proofs.Joined.{in_names_are_one}
use Rattle.streams.specs.declared.streams.Streams.{Streams}
use Rattle.streams.specs.Streams.{HasStreams, inputs_of_contexts, missing_fault, missing_inputs, stream_faults_after, streams_of}
use Rattle.drive.specs.Driving.{AreFor}
use Rattle.streams.proofs.Contexts.{inputs_many}
use Rattle.streams.proofs.Found.{bits_long, streams_long}
use Rattle.shown_runs.specs.ShownRuns.{StreamsAreFor, StreamsMatch, StreamsMatchInContexts}
use Rattle.lists.proofs.Appends.{append_nil_left, append_nil_right}
use Rattle.pattern_reading.proofs.Later.{none_mapped}

-- streams that words say for the names of a table are for its inputs
are_for : (words : List (List ℕ)) (ports : Ports) (streams : Streams) → ports.c ≢ 0 → (1 < ports.c → 32 * ports.c ≤ ports.p) → streams.c ≡ ports.c
    → HasStreams streams.c words (names_of ports.ins) streams.cycles streams.bits → AreFor ports streams
are_for words ports streams some room same has =
    let contexts = streams.c in
    let names = names_of ports.ins in
    let inputs = inputs_of_contexts contexts names in
    let faults = stream_faults_after contexts names streams.cycles [] words in
    let missing = map (missing_fault contexts) (missing_inputs contexts words inputs) in
    let long = streams_long contexts words inputs streams.cycles (bits_long contexts names streams.cycles [] words (append_nil_left faults missing has.no_fault))
    (none_mapped (missing_fault contexts) (missing_inputs contexts words inputs) (append_nil_right faults missing has.no_fault)) in
    record {
      same = same;
      contexts = some;
      room = room;
      many = ap length has.bits_is ∙ length-map inputs _ ∙ inputs_many names contexts ∙ ap₂ (λ m n. m * n) same (length-map ports.ins (λ (line : PortLine). line.name));
      long = subst (λ (bits : List (List Bool)). All (λ b. length b ≡ streams.cycles) bits) (sym has.bits_is) long;
    }

pub streams_are_for : StreamsAreFor
streams_are_for ports words streams sound same has = are_for words ports streams sound.contexts sound.room same has

pub streams_match_in_contexts : StreamsMatchInContexts
streams_match_in_contexts text design starts k words names streams in_names sound many has =
    let same : names ≡ names_of k.ports.ins = in_names_are_one design names (names_of k.ports.ins) in_names k.names.ins in
    let of_table : HasStreams streams.c words (names_of k.ports.ins) streams.cycles streams.bits = subst (λ (ns : List (List ℕ)). HasStreams streams.c words ns streams.cycles streams.bits) same has in
    (of_table, streams_are_for k.ports words streams sound (many ∙ sym k.contexts) of_table)

pub streams_match : StreamsMatch
streams_match text design c words names streams others in_names one other_one many has other =
    let same : names_of c.ports.ins ≡ names = in_names_are_one design (names_of c.ports.ins) names c.names.ins in_names in
    let bits : streams.bits ≡ others.bits = has.bits_is ∙ ap (λ names. streams_of 1 words (inputs_of_contexts 1 names)) same ∙ sym other.bits_is in
    let count : streams.c ≡ others.c = one ∙ sym other_one in
    let some : c.ports.c ≢ 0 = λ e. (let is = c.contexts in omega (arith, e, is)) in (
      ap₂ (λ (n : ℕ) (b : List (List Bool)). record { cycles = n; c = streams.c; bits = b }) many bits
          ∙ ap (λ (n : ℕ). record { cycles = others.cycles; c = n; bits = others.bits }) count,
      are_for words c.ports streams some (λ more. (let is = c.contexts in absurd (omega (arith, more, is)))) (one ∙ sym c.contexts)
          (subst (λ (n : ℕ). HasStreams n words (names_of c.ports.ins) streams.cycles streams.bits) (sym one) has),
    )
