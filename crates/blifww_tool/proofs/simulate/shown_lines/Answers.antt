use Rattle.std.proofs.Common.{ap, ◌∙◌, ℕ, List, flat_map, zip}
use Rattle.std.specs.List.{range_with_len}
use Rattle.std.proofs.lemmas.Result.{IfOk-weaker}
use Rattle.blifww_tool.specs.Driven.{names_in_context}
use Rattle.blifww_tool.proofs.OutputLines.{line}
use Rattle.blifww_tool.proofs.simulate.shown_lines.Goals as goal

pub returns : goal.returns
returns c =
    let contexts = c.args.ports.now.c in
    IfOk-weaker c.output_lines.result _ _
    (λ lines h. h
    ∙ ap (λ (outs : List (List ℕ)). flat_map line (zip outs c.args.bits.now)) (c.deref.ensures.value ∙ c.in_ok-outs.ensures ∙ ap (λ ports. flat_map (names_in_context contexts ports) (range_with_len 0 contexts)) c.as_slice.ensures))
    c.output_lines.ensures
