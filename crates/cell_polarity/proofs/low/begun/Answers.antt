use Rattle.std.proofs.Common.{rules, ◌≡◌, sym, ◌∙◌, ap, length, replicate}
use Rattle.std.proofs.lemmas.List.{length-replicate}
use Rattle.cell_core.specs.declared.cells.Src.TheVariants.{Zero}
use Rattle.cell_core.specs.Sources.{are_in_order, are_there}
use Rattle.cell_polarity.proofs.Lowering.{zeros_there}
use Rattle.cell_polarity.proofs.low.begun.Goals as goal

pub invariant_of-result : goal.invariant_of-result
invariant_of-result c =
    let inputs = c.args.old.now.inputs in
    let zeros : c.of-3.result ≡ replicate c.len.result Zero = c.of-3.ensures ∙ c.in_ok-latches.ensures.items_if_clones_equal (λ y e. e) in
    let starts : c.of-4.result ≡ c.args.old.now.starts = search rules in
    record {
      in_order = ap (are_in_order inputs (length c.of-4.result) 0) (c.of.ensures ∙ c.new.ensures.items);
      outs_there = ap (are_there inputs (length c.of-4.result) (length c.of.result)) (c.of-2.ensures ∙ c.new-2.ensures.items);
      latches_there = ap (are_there inputs (length c.of-4.result) (length c.of.result)) zeros ∙ zeros_there inputs (length c.of-4.result) (length c.of.result) c.len.result;
      nets_there = ap (are_there inputs (length c.of-4.result) (length c.of.result)) (c.of-5.ensures ∙ c.new-3.ensures.items);
      starts_fit = ap length starts ∙ sym c.len.ensures ∙ sym (ap length zeros ∙ length-replicate c.len.result Zero);
    }
