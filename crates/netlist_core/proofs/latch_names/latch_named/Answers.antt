use Rattle.std.proofs.Common.{◌≡◌, ◌∙◌, sym, ap, ℕ, List, None, Some, position, option_and_then}
use Rattle.netlist_core.specs.declared.flat.FlatLatch.{FlatLatch}
use Rattle.netlist_core.specs.declared.flat.Net.{Net}
use Rattle.netlist_core.specs.LatchNames.{class_named, drives_class}
use Rattle.netlist_core.proofs.latch_names.latch_named.Goals as goal

pub returns-in_err-position : goal.returns-in_err-position
returns-in_err-position c =
    let flat = c.args.flat.now in
    let class = c.in_ok-class.class in
    c.from_residual-in_err-position.ensures
    ∙ sym (sym c.driver_of.ensures ∙ c.in_err-position.was)
    ∙ ap (λ (latches : List FlatLatch). position (drives_class c.as_slice-nets.result.now class) latches) c.as_slice.ensures
    ∙ ap (λ (nets : List Net). position (drives_class nets class) flat.latches) c.as_slice-nets.ensures
    ∙ ap (option_and_then (λ class. position (drives_class flat.nets class) flat.latches)) (c.in_ok-class.ensures ∙ ap (λ (nets : List Net). class_named nets c.args.name.now) c.as_slice-nets.ensures)

pub returns : goal.returns
returns c =
    let flat = c.args.flat.now in
    let class = c.in_ok-class.class in
    c.in_ok-position.ensures
    ∙ ap (λ (latches : List FlatLatch). position (drives_class c.as_slice-nets.result.now class) latches) c.as_slice.ensures
    ∙ ap (λ (nets : List Net). position (drives_class nets class) flat.latches) c.as_slice-nets.ensures
    ∙ ap (option_and_then (λ class. position (drives_class flat.nets class) flat.latches)) (c.in_ok-class.ensures ∙ ap (λ (nets : List Net). class_named nets c.args.name.now) c.as_slice-nets.ensures)
