use Rattle.std.proofs.Common.{◌≡◌, ◌<◌, ◌∙◌, ap, map, [], length, subst, sym, string_bytes, List, ℕ, get_or, Bool}
use Rattle.std.proofs.lemmas.List.{length-map}
use Rattle.streams.proofs.Contexts.{inputs_many}
use Rattle.streams.proofs.Found.{bits_long, streams_long}
use Rattle.streams.specs.Streams.{inputs_of_contexts, stream_faults_after}
use Rattle.streams.proofs.streams.Streams.read.Goals as goal

pub returns-clause-long : goal.returns-clause-long
returns-clause-long c =
    let words = map string_bytes c.args.words.now in
    let names = c.args.names.now in
    let cycles = c.args.cycles in
    let none : stream_faults_after c.args.c names cycles [] words ≡ [] = c.in_ok-given.ensures.sound in
    let are = c.in_ok-given.ensures.bits in
    let all = streams_long c.args.c words (inputs_of_contexts c.args.c names) cycles (bits_long c.args.c names cycles [] words none) (c.in_ok-bits.ensures.none_missing words are) in
    subst (λ (streams : List (List Bool)). (k : ℕ) (d : List Bool) → k < length streams → length (get_or streams k d) ≡ cycles) (sym (c.in_ok-bits.ensures.streams words are)) all

pub returns-clause-many : goal.returns-clause-many
returns-clause-many c =
    let words = map string_bytes c.args.words.now in
    let names = c.args.names.now in
    ap length (c.in_ok-bits.ensures.streams words c.in_ok-given.ensures.bits) ∙ length-map (inputs_of_contexts c.args.c names) _ ∙ inputs_many names c.args.c
