use Rattle.std.proofs.Common.{ap, ◌∙◌, max, length}
use Rattle.std.proofs.lemmas.List.{length-map}
use Rattle.pattern_reading.specs.Ports.{names_of}
use Rattle.lifted_designs.specs.Names.{most_leading}
use Rattle.blif_write.proofs.Leading.{most_of_both}
use Rattle.blif_write.proofs.lifting.of_cells.Goals as goal

pub invariant_of-result : goal.invariant_of-result
invariant_of-result c =
    let of_ins = c.most_leading-of_ins.ensures ∙ ap (λ names. max 0 (most_leading names)) c.as_slice-3.ensures in
    let most = c.most_leading-leading.ensures ∙ ap (λ names. max c.most_leading-of_ins.result (most_leading names)) c.as_slice-4.ensures in
    record {
      marked = most_of_both c.of-ins.result c.of-outs.result of_ins most;
      outs_named = ap length (c.of-outs.ensures ∙ c.in_ok-names_of-2.ensures ∙ ap names_of c.as_slice-2.ensures) ∙ length-map c.args.ports.now.outs (λ line. line.name) ∙ c.requires.outs;
    }
