use Rattle.std.proofs.Common.{◌≡◌, ◌≢◌, ◌+◌, ◌<◌, ◌≤◌, ℕ, subst, ◌∙◌, ap, inl, inr, List, get_or, arith}
use Rattle.std.proofs.lemmas.List.{get_or-set_same, get_or-set_other, length-set}
use Rattle.lane_kernel.specs.Spans.{IsBeyond}
use Rattle.lane_kernel.specs.Words.{new_wires_of, heads_word, wires_word}
use Rattle.lane_kernel.proofs.Parts.{same_heads}
use Rattle.lane_kernel.proofs.rows.step_one.Goals as goal

-- what holds of a word holds of those up to the next
of_one : (j : ℕ) (word : ℕ → ℕ) (new : List ℕ) → get_or new j 0 ≡ word j → (k : ℕ) → j ≤ k → k < j + 1 → get_or new k 0 ≡ word k
of_one j word new here k ge lt = let e : j ≡ k = omega (arith, ge, lt) in subst (λ n. get_or new n 0 ≡ word n) e here

another : (j k : ℕ) → IsBeyond j (j + 1) k → k ≢ j
another j k (inl lt) = omega (arith, lt)
another j k (inr le) = omega (arith, le)

pub returns : goal.returns
returns c =
    let above = c.args.above.now in
    let heads = c.args.heads.now in
    let below = c.args.below.now in
    let tails = c.args.tails.now in
    let wires = c.args.wires.now in
    let j = c.args.j in
    let rows = c.requires.rows in
    let a = c.words_near.ensures in
    let h = c.words_near-2.ensures in
    let b = c.words_near-3.ensures in
    let fired = c.new_heads-fired.result in
    let next = c.new_wires.result in
    let head : fired ≡ heads_word above heads below wires j =
    c.new_heads-fired.ensures ∙ same_heads (get_or wires j 0) a.before a.here a.after h.before h.here h.after b.before b.here b.after in
    let wire : next ≡ wires_word above heads below tails wires j = c.new_wires.ensures ∙ ap (new_wires_of (get_or wires j 0) (get_or tails j 0)) head in
    record {
      long_tails = length-set tails j fired ∙ rows.long_tails;
      long_wires = length-set wires j next ∙ rows.long_wires;
      heads_are = of_one j (heads_word above heads below wires) _ (get_or-set_same tails j fired 0 (omega (arith, c.requires.within, rows.long_tails)) ∙ head);
      wires_are = of_one j (wires_word above heads below tails wires) _ (get_or-set_same wires j next 0 (omega (arith, c.requires.within, rows.long_wires)) ∙ wire);
      other_tails = λ k out. get_or-set_other tails j k fired 0 (another j k out);
      other_wires = λ k out. get_or-set_other wires j k next 0 (another j k out);
    }
