use Rattle.std.proofs.Common.{◌≡◌, ◌∙◌, sym, ap, None, get_or, length, arith}
use Rattle.netlist_core.specs.declared.model.Model.{Model}
use Rattle.lists.proofs.Fills.{filled_whole}
use Rattle.model_index.specs.Numbers.{number_placed}
use Rattle.model_index.proofs.Naming.{no_line}
use Rattle.model_index.proofs.links.lines_of.Goals as goal

pub returns : goal.returns
returns c k =
    let same = ap (λ (m : Model). length m.subckts) c.index-models-n.is in
    ap (λ numbers. get_or numbers k None) c.of.ensures
    ∙ filled_whole (λ i number. number ≡ number_placed c.args.models.now c.args.n i) None c.loop-k.k c.loop-k.numbers.items c.loop-k.invariant
    (λ i l. sym (no_line c.args.models.now c.args.n i c.index-models-n.result c.requires.model c.index-models-n.is (omega (arith, l, same, c.len-count.ensures, c.loop-k-test.false)))) k
