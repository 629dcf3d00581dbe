use Rattle.std.proofs.Common.{sym, ap, ◌∙◌, get_or}
use Rattle.lane_kernel.specs.Around.{heads_alone}
use Rattle.lane_kernel.proofs.Calm.{alone}
use Rattle.lane_kernel.proofs.stepping.stepped_word.Goals as goal

pub returns-then-byte-eq-LIT : goal.returns-then-byte-eq-LIT
returns-then-byte-eq-LIT c =
    c.heads_alone.ensures
    ∙ ap (heads_alone (get_or c.args.heads.now c.args.i 0)) c.wires_of.ensures
    ∙ sym (alone c.args.stride c.args.heads.now c.args.tails.now c.args.cells.now c.args.i (λ j. (c.type_inv.heads j).fits) (λ j. (c.type_inv.cells j).fits) (c.requires.calm c.if-byte-eq-LIT.true))
