use Rattle.std.proofs.Common.{◌≡◌, ◌<◌, ◌+◌, [], sym, ap, subst, ◌∙◌, map, take, drop, length, inl, inr, string_bytes, List, ℕ}
use Rattle.std.specs.Prelude.{slice_get, Some}
use Rattle.streams.specs.declared.error.StreamFault.{StreamFault}
use Rattle.streams.specs.Streams.{HasWordFault, stream_fault, stream_faults_after}
use Rattle.streams.specs.GivenBits.{AreBitsOf}
use Rattle.streams.proofs.GivenWords.{fault_here, fault_later, word_more, words_left, words_taken}
use Rattle.streams.proofs.stream_words.bits_by_input.Goals as goal

pub returns-in-Err-clause-fault : goal.returns-in-Err-clause-fault
returns-in-Err-clause-fault c =
    let words = c.args.words.now in
    let names = c.args.names.now in
    let cycles = c.args.cycles in
    let contexts = c.args.contexts in
    let i = c.loop-word.word-index in
    let w = c.as_bytes.result.now in
    let kind = c.in-Err.kind in
    let before = map string_bytes (take i words) in
    let faults = stream_faults_after contexts names cycles [] (map string_bytes words) in
    let left = words_left string_bytes words i c.word-item.result w c.loop-word-test.true c.word-item.is c.as_bytes.ensures.value in
    let at : slice_get faults 0 ≡ Some (stream_fault w kind) =
    ap (λ (faults : List StreamFault). slice_get faults 0) (sym c.loop-word.invariant.faults ∙ ap (stream_faults_after contexts names cycles before) left)
    ∙ fault_here contexts names cycles before (map string_bytes (drop (i + 1) words)) w kind (c.in-Err.ensures.fault names before c.in_ok-known.ensures c.loop-word.invariant.bits) in
    let same : w ≡ c.as_bytes-in-Err.result.now = c.as_bytes.ensures.value ∙ sym c.as_bytes-in-Err.ensures.value in
    elim c.refusal.ensures [
      | inl e ↦ subst (HasWordFault faults) (sym e) tt
      | inr e ↦ subst (HasWordFault faults) (sym e) (at ∙ ap (λ (w : List ℕ). Some (stream_fault w kind)) same)
    ]

pub loop-word-preserved : goal.loop-word-preserved
loop-word-preserved c =
    let words = c.args.words.now in
    let names = c.args.names.now in
    let cycles = c.args.cycles in
    let contexts = c.args.contexts in
    let i = c.loop-word.word-index in
    let w = c.as_bytes.result.now in
    let before = map string_bytes (take i words) in
    let later = map string_bytes (drop (i + 1) words) in
    let lt : i < length words = c.loop-word-test.true in
    let left = words_left string_bytes words i c.word-item.result w lt c.word-item.is c.as_bytes.ensures.value in
    let taken = words_taken string_bytes words i c.word-item.result w lt c.word-item.is c.as_bytes.ensures.value in
    let sound = c.in-Ok.ensures in
    let bits = c.loop-word.invariant.bits in
    record {
      bits =
          subst (AreBitsOf contexts c.insert.new.self) (sym taken)
          (word_more contexts c.loop-word.given c.insert.new.self before w c.in-Ok.cut sound.is_cut (sound.untaken before bits) sound.context sound.name sound.bits bits c.in_ok-insert-in-Ok.ensures.updates);
      faults =
          ap (λ (before : List (List ℕ)). stream_faults_after contexts names cycles before later) taken
          ∙ sym (fault_later contexts names cycles before later w (sound.sound names before c.in_ok-known.ensures bits))
          ∙ sym (ap (stream_faults_after contexts names cycles before) left)
          ∙ c.loop-word.invariant.faults;
    }
