use Rattle.std.proofs.Common.{◌≡◌, ◌∙◌, sym, ap, subst, ◌<◌, ◌≤◌, length, get_or, position}
use Rattle.std.specs.Prelude.{IfSome}
use Rattle.netlist_core.specs.Names.{is_model_named}
use Rattle.model_index.proofs.Naming.{no_model, no_line, line_placed, found_within}
use Rattle.model_index.proofs.numbers.placed.Goals as goal

pub returns-in_err-get-clause-number : goal.returns-in_err-get-clause-number
returns-in_err-get-clause-number c = c.from_residual.ensures ∙ sym (no_model c.args.models.now c.args.n c.args.k c.in_err-get.ensures.lookup.3)

pub returns-in_err-line-clause-number : goal.returns-in_err-line-clause-number
returns-in_err-line-clause-number c =
    let h = c.in_ok-get.ensures.lookup in
    c.from_residual-in_err-line.ensures ∙ sym (no_line c.args.models.now c.args.n c.args.k c.in_ok-get.field-0.now h.3.0 h.1 (subst (λ v. length v ≤ c.args.k) c.as_slice.ensures c.in_err-line.ensures.lookup.3))

pub returns-clause-number : goal.returns-clause-number
returns-clause-number c =
    let h = c.in_ok-get.ensures.lookup in
    let j = c.in_ok-line.ensures.lookup in
    c.find.ensures.number
    ∙ ap (λ name. position (is_model_named name) c.args.named.now) c.as_slice-2.ensures
    ∙ ap (λ v. position (is_model_named c.in_ok-line.line.now.model) v) c.requires
    ∙ sym (line_placed c.args.models.now c.args.n c.args.k c.in_ok-get.field-0.now c.in_ok-line.line.now h.3.0 h.1 (subst (λ v. c.args.k < length v) c.as_slice.ensures j.3.0) (subst (λ v. c.in_ok-line.line.now ≡ get_or v c.args.k c.in_ok-line.line.now) c.as_slice.ensures j.1))

pub returns-clause-within : goal.returns-clause-within
returns-clause-within c =
    subst (λ o. IfSome o (λ inner. inner < length c.args.models.now)) (sym (c.find.ensures.number ∙ ap (λ v. position (is_model_named c.as_slice-2.result.now) v) c.requires)) (found_within c.args.models.now c.as_slice-2.result.now)
