use Rattle.std.proofs.Common.{◌≡◌, ◌<◌, ◌+◌, sym, ap, subst, ◌∙◌, map, take, drop, length, inl, inr, string_bytes, List, ℕ, Some}
use Rattle.start_words.specs.Flats.{AreBitsSet, flat_latches}
use Rattle.start_words.specs.Words.{HasStartCause, first_fault, first_fault_after, start_fault}
use Rattle.start_words.proofs.Sets.{fault_here, fault_later, one_more, words_left, words_taken}
use Rattle.start_words.proofs.starts.Starts.read.Goals as goal

pub returns-in-Err-clause-fault : goal.returns-in-Err-clause-fault
returns-in-Err-clause-fault c =
    let words = c.args.words.now in
    let latches = flat_latches c.args.flat.now in
    let contexts = c.args.contexts in
    let i = c.loop-word.word-index in
    let w = c.as_bytes.result.now in
    let kind = c.in-Err.kind in
    let before = map string_bytes (take i words) in
    let left = words_left string_bytes words i c.word-item.result w c.loop-word-test.true c.word-item.is c.as_bytes.ensures.value in
    let at : first_fault latches contexts (map string_bytes words) ≡ Some (start_fault w kind) =
    sym c.loop-word.invariant.faults ∙ ap (first_fault_after latches contexts before) left
    ∙ fault_here latches contexts before (map string_bytes (drop (i + 1) words)) w kind (c.in-Err.ensures.fault before c.loop-word.invariant.bits) in
    let same : w ≡ c.as_bytes-in-Err.result.now = c.as_bytes.ensures.value ∙ sym c.as_bytes-in-Err.ensures.value in
    elim c.refusal.ensures [
      | inl e ↦ subst (HasStartCause latches contexts (map string_bytes words)) (sym e) tt
      | inr e ↦ subst (HasStartCause latches contexts (map string_bytes words)) (sym e) (at ∙ ap (λ (w : List ℕ). Some (start_fault w kind)) same)
    ]

pub loop-word-preserved : goal.loop-word-preserved
loop-word-preserved c =
    let words = c.args.words.now in
    let latches = flat_latches c.args.flat.now in
    let contexts = c.args.contexts in
    let i = c.loop-word.word-index in
    let w = c.as_bytes.result.now in
    let before = map string_bytes (take i words) in
    let later = map string_bytes (drop (i + 1) words) in
    let lt : i < length words = c.loop-word-test.true in
    let left = words_left string_bytes words i c.word-item.result w lt c.word-item.is c.as_bytes.ensures.value in
    let taken = words_taken string_bytes words i c.word-item.result w lt c.word-item.is c.as_bytes.ensures.value in
    let sound = c.in-Ok.ensures in
    let bits = c.loop-word.invariant.bits in
    record {
      bits =
          subst (AreBitsSet latches c.insert.new.self) (sym taken)
          (one_more latches c.loop-word.bits c.insert.new.self before w c.in-Ok.start sound.context sound.class sound.bit (sound.unset before bits) bits c.in_ok-insert-in-Ok.ensures.updates);
      faults =
          ap (λ (before : List (List ℕ)). first_fault_after latches contexts before later) taken
          ∙ sym (fault_later latches contexts before later w (sound.sound before bits))
          ∙ sym (ap (first_fault_after latches contexts before) left)
          ∙ c.loop-word.invariant.faults;
    }
