use Rattle.std.proofs.Common.{◌≡◌, sym, ap, ◌∙◌, subst, List, Err}
use Rattle.std.specs.Prelude.{Some}
use Rattle.std.proofs.lemmas.Result.{err_from_is_err_and}
use Rattle.netlist_core.specs.declared.flat.NetId.{NetId}
use Rattle.netlist_meaning.specs.FlatOrder.{IsNetLoop}
use Rattle.netlist_rules.specs.Clocks.{HasNoClockFault}
use Rattle.netlist_rules.specs.ModelFaults.{AreFaultless}
use Rattle.blif_text.specs.declared.logical.Logical.{Logical}
use Rattle.blif_text.specs.LogicalLines.{logical_lines}
use Rattle.blif_text.specs.LineFaults.{line_fault}
use Rattle.blif_text.specs.Faults.{HasModels, IsDesignOf}
use Rattle.loop_check.specs.Reasons.{IsOrderRefusal}
use Rattle.loop_check.specs.declared.ordering.OrderError.TheVariants.{Loop}
use Rattle.netlist_text.specs.NetlistText.{IsLight}
use Rattle.netlist_text.proofs.Loops.{named_loop}
use Rattle.netlist_text.proofs.Read.{unread, unchecked, design_is, unclocked, no_clock_fault, in_range, sound, netlist_is}
use Rattle.netlist_text.proofs.netlist.netlist_of.Goals as goal

pub returns-in_err-models-clause-refused : goal.returns-in_err-models-clause-refused
returns-in_err-models-clause-refused c =
    let p = err_from_is_err_and c.from_residual-in_err-models.result c.from_residual-in_err-models.ensures.1 in
    let lines : c.as_slice.result.now ≡ logical_lines c.args.text.now = c.as_slice.ensures ∙ c.in_ok-lines.ensures in
    rw (p.1, p.2) (unread c.args.text.now c.in_err-models.field-0.0
    (λ fault e. subst (λ (ls : List Logical). line_fault ls ≡ Some fault) lines (c.in_err-models.ensures.fault fault (ap Err e))))

pub returns-in_err-design-clause-refused : goal.returns-in_err-design-clause-refused
returns-in_err-design-clause-refused c =
    let p = err_from_is_err_and c.from_residual-in_err-design.result c.from_residual-in_err-design.ensures.1 in
    let lines : c.as_slice.result.now ≡ logical_lines c.args.text.now = c.as_slice.ensures ∙ c.in_ok-lines.ensures in
    rw (p.1, p.2) (unchecked c.args.text.now c.in_ok-models.models c.in_err-design.field-0.0
    (subst (λ (ls : List Logical). HasModels ls c.in_ok-models.models) lines c.in_ok-models.ensures.models)
    (λ fault e. c.in_err-design.ensures.fault fault (ap Err e)))

pub check_clock-requires : goal.check_clock-requires
check_clock-requires c =
    let text = c.args.text.now in
    let lines : c.as_slice.result.now ≡ logical_lines text = c.as_slice.ensures ∙ c.in_ok-lines.ensures in
    let models = subst (λ (ls : List Logical). HasModels ls c.in_ok-models.models) lines c.in_ok-models.ensures.models in
    let is : IsDesignOf text c.in_ok-design.design = design_is text c.in_ok-models.models c.in_ok-design.design models c.in_ok-design.ensures.design (c.in_ok-design.ensures.faultless).1 in
    let light : IsLight text c.in_ok-design.design = record { design_of = is; light = c.in_ok-flat.ensures.within } in
    record { in_range = in_range text c.in_ok-design.design c.in_ok-flat.flat light c.in_ok-flat.ensures.flat }

pub returns-in_err-check_clock-clause-refused : goal.returns-in_err-check_clock-clause-refused
returns-in_err-check_clock-clause-refused c =
    let p = err_from_is_err_and c.from_residual-in_err-check_clock.result c.from_residual-in_err-check_clock.ensures.1 in
    let text = c.args.text.now in
    let lines : c.as_slice.result.now ≡ logical_lines text = c.as_slice.ensures ∙ c.in_ok-lines.ensures in
    let models = subst (λ (ls : List Logical). HasModels ls c.in_ok-models.models) lines c.in_ok-models.ensures.models in
    let is : IsDesignOf text c.in_ok-design.design = design_is text c.in_ok-models.models c.in_ok-design.design models c.in_ok-design.ensures.design (c.in_ok-design.ensures.faultless).1 in
    let light : IsLight text c.in_ok-design.design = record { design_of = is; light = c.in_ok-flat.ensures.within } in
    rw (p.1, p.2) (unclocked text c.in_ok-design.design c.in_ok-flat.flat c.in_err-check_clock.field-0.0 light c.in_ok-flat.ensures.flat (λ fault e. c.in_err-check_clock.ensures.fault fault (ap Err e)))

pub order-requires : goal.order-requires
order-requires c =
    let text = c.args.text.now in
    let lines : c.as_slice.result.now ≡ logical_lines text = c.as_slice.ensures ∙ c.in_ok-lines.ensures in
    let models = subst (λ (ls : List Logical). HasModels ls c.in_ok-models.models) lines c.in_ok-models.ensures.models in
    let is : IsDesignOf text c.in_ok-design.design = design_is text c.in_ok-models.models c.in_ok-design.design models c.in_ok-design.ensures.design (c.in_ok-design.ensures.faultless).1 in
    let light : IsLight text c.in_ok-design.design = record { design_of = is; light = c.in_ok-flat.ensures.within } in
    sound text c.in_ok-design.design c.in_ok-flat.flat light
    (no_clock_fault c.in_ok-design.design c.in_ok-flat.flat is.faultless c.in_ok-flat.ensures.flat c.in_ok-check_clock.ensures.none) c.in_ok-flat.ensures.flat

pub returns-in-Ok-clause-netlist : goal.returns-in-Ok-clause-netlist
returns-in-Ok-clause-netlist c =
    let text = c.args.text.now in
    let lines : c.as_slice.result.now ≡ logical_lines text = c.as_slice.ensures ∙ c.in_ok-lines.ensures in
    let models = subst (λ (ls : List Logical). HasModels ls c.in_ok-models.models) lines c.in_ok-models.ensures.models in
    let is : IsDesignOf text c.in_ok-design.design = design_is text c.in_ok-models.models c.in_ok-design.design models c.in_ok-design.ensures.design (c.in_ok-design.ensures.faultless).1 in
    let light : IsLight text c.in_ok-design.design = record { design_of = is; light = c.in_ok-flat.ensures.within } in
    netlist_is text c.in_ok-design.design c.in_ok-flat.flat light
    (no_clock_fault c.in_ok-design.design c.in_ok-flat.flat is.faultless c.in_ok-flat.ensures.flat c.in_ok-check_clock.ensures.none) c.in_ok-flat.ensures.flat c.in-Ok.ensures.no_loop

pub returns-in-Ok-clause-parts : goal.returns-in-Ok-clause-parts
returns-in-Ok-clause-parts c =
    let faultless : AreFaultless c.in_ok-design.design.models = subst AreFaultless (sym c.in_ok-design.ensures.design) (c.in_ok-design.ensures.faultless).1 in
    record {
      faultless = faultless;
      clocks = no_clock_fault c.in_ok-design.design c.in_ok-flat.flat faultless c.in_ok-flat.ensures.flat c.in_ok-check_clock.ensures.none;
      light = c.in_ok-flat.ensures.within;
      is_flat = c.in_ok-flat.ensures.flat;
      is_order = c.in-Ok.ensures.order;
    }

pub returns-in-Err-Loop-clause-refused : goal.returns-in-Err-Loop-clause-refused
returns-in-Err-Loop-clause-refused c =
    let text = c.args.text.now in
    let lines : c.as_slice.result.now ≡ logical_lines text = c.as_slice.ensures ∙ c.in_ok-lines.ensures in
    let models = subst (λ (ls : List Logical). HasModels ls c.in_ok-models.models) lines c.in_ok-models.ensures.models in
    let is : IsDesignOf text c.in_ok-design.design = design_is text c.in_ok-models.models c.in_ok-design.design models c.in_ok-design.ensures.design (c.in_ok-design.ensures.faultless).1 in
    let light : IsLight text c.in_ok-design.design = record { design_of = is; light = c.in_ok-flat.ensures.within } in
    let clean : HasNoClockFault c.in_ok-design.design = no_clock_fault c.in_ok-design.design c.in_ok-flat.flat is.faultless c.in_ok-flat.ensures.flat c.in_ok-check_clock.ensures.none in
    let refused : IsOrderRefusal c.in_ok-flat.flat (Loop c.in-Err-Loop.nets) = subst (IsOrderRefusal c.in_ok-flat.flat) c.in-Err-Loop.field-0-is c.in-Err-Loop.ensures.refused in
    let loop : IsNetLoop c.in_ok-flat.flat c.as_slice-in-Err-Loop.result.now = subst (λ (ns : List NetId). IsNetLoop c.in_ok-flat.flat ns) (sym c.as_slice-in-Err-Loop.ensures) refused in
    rw (c.in_ok-names-in-Err-Loop.ensures) (named_loop text c.in_ok-design.design c.in_ok-flat.flat c.as_slice-in-Err-Loop.result.now light clean c.in_ok-flat.ensures.flat loop)
