use Rattle.std.proofs.Common.{◌≡◌, ◌+◌, ◌-◌, ◌<◌, ◌≤◌, ℕ, subst, ◌∙◌, ap₂, List, get_or, arith}
use Rattle.lane_kernel.specs.Words.{new_wires_of, heads_word, wires_word}
use Rattle.lane_kernel.proofs.lanes.step_four.Goals as goal

-- words by their places in a vector
of_four : (j : ℕ) (word : ℕ → ℕ) (new : List ℕ) → ((k : ℕ) → k < 4 → get_or new (j + k) 0 ≡ word (j + k)) → (k : ℕ) → j ≤ k → k < j + 4 → get_or new k 0 ≡ word k
of_four j word new are k ge lt =
    let e : j + (k - j) ≡ k = omega (arith, ge) in
    subst (λ n. get_or new n 0 ≡ word n) e (are (k - j) (omega (arith, ge, lt)))

pub next_heads_lanes-fired-requires-clause-above : goal.next_heads_lanes-fired-requires-clause-above
next_heads_lanes-fired-requires-clause-above c = omega (arith, c.requires.last, c.requires.rows.long_above)

pub next_heads_lanes-fired-requires-clause-below : goal.next_heads_lanes-fired-requires-clause-below
next_heads_lanes-fired-requires-clause-below c = omega (arith, c.requires.last, c.requires.rows.long_below)

pub next_heads_lanes-fired-requires-clause-wires : goal.next_heads_lanes-fired-requires-clause-wires
next_heads_lanes-fired-requires-clause-wires c = omega (arith, c.requires.last, c.requires.rows.long_wires)

pub returns : goal.returns
returns c =
    let above = c.args.above.now in
    let heads = c.args.heads.now in
    let below = c.args.below.now in
    let tails = c.args.tails.now in
    let wires = c.args.wires.now in
    let j = c.args.j in
    let fired = c.next_heads_lanes-fired.ensures in
    let next = c.new_wires_lanes-next_wires.ensures in
    let put_tails = c.put_lanes.ensures in
    let put_wires = c.put_lanes-2.ensures in
    record {
      long_tails = put_tails.long ∙ c.requires.rows.long_tails;
      long_wires = put_wires.long ∙ c.requires.rows.long_wires;
      heads_are = of_four j (heads_word above heads below wires) _ (λ k lt. put_tails.here k lt ∙ fired.each k lt);
      wires_are = of_four j (wires_word above heads below tails wires) _
          (λ k lt. put_wires.here k lt ∙ next.each k lt
          ∙ ap₂ (λ f head. f head) (ap₂ new_wires_of (c.lanes_at.ensures.each k lt) (c.lanes_at-2.ensures.each k lt)) (fired.each k lt));
      other_tails = put_tails.others;
      other_wires = put_wires.others;
    }
