use Rattle.std.proofs.Common.{◌≡◌, ◌∙◌, ℕ, List, Some, ap, get_or, sym}
use Rattle.netlist_core.specs.declared.flat.FlatLatch.{FlatLatch}
use Rattle.netlist_core.specs.LatchNames.{latch_named}
use Rattle.netlist_meaning.specs.Flat.{class_of}
use Rattle.start_words.proofs.Named.{no_latch}
use Rattle.start_words.proofs.NamedClass.{named_class, named_none}
use Rattle.start_words.proofs.words.latch_class.Goals as goal

pub returns-in_err-latch : goal.returns-in_err-latch
returns-in_err-latch c = c.from_residual.ensures ∙ sym (named_none c.args.flat.now c.args.name.now (sym c.latch_named.ensures ∙ c.in_err-latch.was))

pub returns : goal.returns
returns c =
    let flat = c.args.flat.now in
    let latch = c.in_ok-latch.latch in
    let named : latch_named flat c.args.name.now ≡ Some latch = sym c.latch_named.ensures ∙ c.in_ok-latch.was in
    ap (λ (class : ℕ). Some class) (c.output_class.ensures ∙ ap (λ (latches : List FlatLatch). class_of flat (get_or latches latch no_latch).output) c.as_slice.ensures)
    ∙ sym (named_class flat c.args.name.now latch no_latch named).1
