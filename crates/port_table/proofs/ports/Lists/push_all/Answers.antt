use Rattle.std.proofs.Common.{sym, ap, ◌∙◌, ◌++◌}
use Rattle.pattern_reading.specs.PortTable.{input_of, output_of, net_of}
use Rattle.port_table.specs.Lent.{said_by}
use Rattle.port_table.proofs.Walking.{said_more}
use Rattle.port_table.proofs.ports.Lists.push_all.Goals as goal

pub loop-line-preserved : goal.loop-line-preserved
loop-line-preserved c =
    let so_far = c.loop-line.invariant in
    let line = c.in-Some.line in
    record {
      ins_so_far = c.in_ok-push.ensures.ins ∙ ap (λ xs. xs ++ said_by input_of line.form) so_far.ins_so_far ∙ sym (said_more input_of c.loop-line.yielded line);
      outs_so_far = c.in_ok-push.ensures.outs ∙ ap (λ xs. xs ++ said_by output_of line.form) so_far.outs_so_far ∙ sym (said_more output_of c.loop-line.yielded line);
      nets_so_far = c.in_ok-push.ensures.nets ∙ ap (λ xs. xs ++ said_by net_of line.form) so_far.nets_so_far ∙ sym (said_more net_of c.loop-line.yielded line);
    }
