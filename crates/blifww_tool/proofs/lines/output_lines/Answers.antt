use Rattle.std.proofs.Common.{◌++◌, ap, ap₂, ◌∙◌, sym, ℕ, List, Bool, length, take, flat_map, zip, arith}
use Rattle.std.proofs.lemmas.List.{length_push}
use Rattle.std.proofs.lemmas.Slice.Zip.{zip_turn, zip_end, length-zip}
use Rattle.blifww_tool.specs.Lines.{bits_line}
use Rattle.blifww_tool.proofs.OutputLines.{line, line_turn, all_pairs}
use Rattle.blifww_tool.proofs.lines.output_lines.Goals as goal

pub loop-name-preserved : goal.loop-name-preserved
loop-name-preserved c =
    let outs = c.args.names.now in
    let bits = c.args.bits.now in
    let n = length c.loop-name.yielded in
    let turn = zip_turn outs bits c.loop-name.yielded c.into_iter-name-iterator.result c.loop-name.name-iterator c.next.new.self c.next.result (cc) (cc) c.loop-name.yielded_by (c.in-Some.name, c.in-Some.shown) c.in-Some.is c.next.ensures.steps in
    c.in_ok-push_line.ensures
    ∙ ap₂ (λ (name : List ℕ) (row : List Bool). c.loop-name.lines.items ++ bits_line name row) c.as_slice.ensures c.as_slice-in-loop-name.ensures
    ∙ ap (λ (lines : List ℕ). lines ++ bits_line c.in-Some.name.now c.in-Some.shown.now) c.loop-name.invariant
    ∙ sym (line_turn outs bits n c.in-Some.name.now c.in-Some.shown.now turn.0 turn.1 turn.2 turn.3)
    ∙ ap (λ (m : ℕ). flat_map line (take m (zip outs bits))) (sym (length_push c.loop-name.yielded (c.in-Some.name, c.in-Some.shown)))

pub returns : goal.returns
returns c =
    let outs = c.args.names.now in
    let bits = c.args.bits.now in
    let end = zip_end outs bits c.loop-name.yielded c.into_iter-name-iterator.result c.loop-name.name-iterator c.next.new.self c.next.result (cc) (cc) c.loop-name.yielded_by c.in-None.is c.next.ensures.steps in
    c.of.ensures ∙ c.loop-name.invariant ∙ all_pairs outs bits (length c.loop-name.yielded) (omega (arith, end, length-zip outs bits))
