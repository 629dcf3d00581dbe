use Rattle.std.proofs.Common.{sym, ap, ◌∙◌, ◌==◌, ◌+◌, ◌++◌, ◌∷◌, [], length-append, map, Some}
use Rattle.std.specs.Prelude.{option_map}
use Rattle.pattern_reading.specs.PortTable.{fault_of_form}
use Rattle.port_table.specs.Lent.{form_of}
use Rattle.port_table.specs.declared.table.TableLine.{TableLine}
use Rattle.port_table.proofs.Walking.{has_form, no_fault_yet}
use Rattle.port_table.proofs.faults.first_fault_unseen.Goals as goal

pub loop-index-preserved : goal.loop-index-preserved
loop-index-preserved c =
    let i = c.loop-index.invariant in
    let line = c.index-lines-index.result in
    let is = c.index-lines-index.is in
    let first = ap (λ n. n == 0) (sym i.2) in
    let e = sym c.in_default.is ∙ c.in_ok-kind.ensures.fault i.0 i.1 first in
    let form = has_form _ _ _ _ e in
    let faultless = e ∙ ap (λ (x : TableLine). fault_of_form c.args.width c.args.height (map Some i.0) (option_map form_of x.form)) is in
    let formed = ap (λ (x : TableLine). option_map form_of x.form) (sym is) ∙ form.1 in
    let faults = no_fault_yet c.args.width c.args.height c.args.lines.now c.loop-index.index line i.0 form.0 _ c.loop-index-test.true faultless formed i.3 in
    let seen = c.in_ok-kind.ensures.seen i.0 form.0 i.1 c.in_default.is form.1 in
    (i.0 ++ form.0 ∷ [], seen, length-append i.0 (form.0 ∷ []) ∙ ap (λ n. n + 1) i.2, faults)
