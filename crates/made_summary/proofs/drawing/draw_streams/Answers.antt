use Rattle.std.proofs.Common.{ℕ, ◌≡◌, ◌∙◌, sym, ap, Bool, List, [], ◌∷◌, ◌++◌, map, ◌*◌, ◌+◌, arith}
use Rattle.std.specs.List.{range_with_len}
use Rattle.std.proofs.lemmas.Result.{err_from_is_err_and}
use Rattle.std.proofs.lemmas.List.FromFn.{map-range_with_len_more}
use Rattle.made_summary.specs.Streams.{stream_after}
use Rattle.made_summary.proofs.Drawn.{one_stream}
use Rattle.made_summary.proofs.drawing.draw_streams.Goals as goal

pub returns-in_err-draw_stream : goal.returns-in_err-draw_stream
returns-in_err-draw_stream c = rw ((err_from_is_err_and c.from_residual.result c.from_residual.ensures.1).1) tt

pub returns-in_err-push : goal.returns-in_err-push
returns-in_err-push c = rw ((err_from_is_err_and c.from_residual-in_err-push.result c.from_residual-in_err-push.ensures.1).1) tt

pub loop-input-preserved : goal.loop-input-preserved
loop-input-preserved c =
    let start = c.args.state in
    let cycles = c.args.cycles in
    let input = c.loop-input.input in
    let zeroth : 0 + input ≡ input = omega arith in
    let more = one_stream start input cycles c.loop-input.state c.draw_stream.new.state c.of.result c.loop-input.invariant.state c.in_ok-draw_stream.ensures.state (c.of.ensures ∙ c.in_ok-draw_stream.ensures.stream) in
    record {
      bits = c.in_ok-push.ensures.items ∙ ap (λ (rows : List (List Bool)). rows ++ c.of.result ∷ []) c.loop-input.invariant.bits
          ∙ ap (λ (row : List Bool). map (λ i. stream_after start (i * cycles) cycles) (range_with_len 0 input) ++ row ∷ []) more.0
          ∙ sym (map-range_with_len_more (λ i. stream_after start (i * cycles) cycles) 0 input input zeroth);
      state = more.1;
      range = c.in_ok-draw_stream.ensures.range;
    }

pub returns : goal.returns
returns c =
    let e : c.loop-input.input ≡ 4 = omega (arith, c.loop-input.auto.input-end, c.loop-input-test.false) in
    let bits = c.of-2.ensures ∙ c.loop-input.invariant.bits ∙ ap (λ (n : ℕ). map (λ i. stream_after c.args.state (i * c.args.cycles) c.args.cycles) (range_with_len 0 n)) e in
    ap (λ (b : List (List Bool)). record { cycles = c.args.cycles; c = 1; bits = b }) bits
