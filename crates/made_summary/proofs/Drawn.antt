-- Streams that are drawn one after another.
use Rattle.std.proofs.Common.{ℕ, ◌≡◌, ◌+◌, ◌*◌, refl, sym, ap, ◌∙◌, Bool, List, [], ◌∷◌, ◌++◌, map, length, arith}
use Rattle.std.specs.Prelude.{◌==◌, All}
use Rattle.std.specs.List.{range_with_len}
use Rattle.std.proofs.lemmas.List.FromFn.{map-range_with_len_more, length-map-range_with_len}
use Rattle.std.proofs.lemmas.List.Elements.{All-map}
use Rattle.std.proofs.Math.Path.{fun_ext}
use Rattle.made_netlists.specs.Draws.{draw_after, next_seed, number_below, state_after}
use Rattle.made_netlists.proofs.Drawn.{state_after_both}
use Rattle.made_summary.specs.Streams.{stream_after, streams_after}

-- the bits of a stream that is drawn from the state after others
pub stream_from : (state before cycles : ℕ) → stream_after (state_after state before) 0 cycles ≡ stream_after state before cycles
stream_from state before cycles =
    ap (λ (bit : ℕ → Bool). map bit (range_with_len 0 cycles))
    (fun_ext (λ cycle. let e : before + ((0 + cycle) + 1) ≡ (before + cycle) + 1 = omega arith in ap (λ s. number_below 2 s == 1) (state_after_both state before ((0 + cycle) + 1) ((before + cycle) + 1) e)))

-- one more draw
pub one_drawn : (start cycle state next number : ℕ) → state ≡ state_after start cycle → next ≡ next_seed state → number ≡ number_below 2 next
    → (stream_after start 0 cycle ++ (number == 1) ∷ [] ≡ stream_after start 0 (cycle + 1)) × (next ≡ state_after start (cycle + 1))
one_drawn start cycle state next number at step is =
    let e : cycle + 1 ≡ cycle + 1 = refl in
    let now : next ≡ state_after start (cycle + 1) = step ∙ ap next_seed at ∙ state_after_both start cycle 1 (cycle + 1) e in
    let zeroth : 0 + cycle ≡ cycle = omega arith in
    let bit : number ≡ draw_after start (0 + cycle) 2 = is ∙ ap (number_below 2) now ∙ ap (λ n. draw_after start n 2) (sym zeroth) in (
      ap (λ n. stream_after start 0 cycle ++ (n == 1) ∷ []) bit ∙ sym (map-range_with_len_more (λ t. draw_after start (0 + t) 2 == 1) 0 cycle cycle zeroth),
      now,
    )

-- one more stream
pub one_stream : (start input cycles state next : ℕ) (stream : List Bool) → state ≡ state_after start (input * cycles) → next ≡ state_after state cycles → stream ≡ stream_after state 0 cycles
    → (stream ≡ stream_after start (input * cycles) cycles) × (next ≡ state_after start ((input + 1) * cycles))
one_stream start input cycles state next stream at step is =
    let e : input * cycles + cycles ≡ (input + 1) * cycles = omega arith in (
      is ∙ ap (λ s. stream_after s 0 cycles) at ∙ stream_from start (input * cycles) cycles,
      step ∙ ap (λ s. state_after s cycles) at ∙ state_after_both start (input * cycles) cycles ((input + 1) * cycles) e,
    )

-- all streams are as long as there are cycles
pub streams_long : (state cycles : ℕ) → All (λ bits. length bits ≡ cycles) (streams_after state cycles).bits
streams_long state cycles =
    All-map (λ (bits : List Bool). length bits ≡ cycles) (λ input. stream_after state (input * cycles) cycles) (range_with_len 0 4)
    (λ k d lt. length-map-range_with_len _ 0 cycles)

pub streams_many : (state cycles : ℕ) → length (streams_after state cycles).bits ≡ 4
streams_many state cycles = refl
