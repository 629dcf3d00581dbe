-- What a text is: a design, or one fault by a rule on lines or models. The rules on clocks, 20 and
-- 21, are about a design with all its places, and stand elsewhere.
use Rattle.std.specs.Prelude.{◌≡◌, ℕ, List, [], ◌∷◌, codes, Option, Some, None}
use Rattle.netlist_core.specs.declared.model.Model.{Model}
use Rattle.netlist_core.specs.declared.model.Design.{Design}
use Rattle.blif_text.specs.declared.logical.Logical.{Logical}
use Rattle.netlist_rules.specs.declared.fault.Fault.{Fault}
use Rattle.netlist_rules.specs.declared.fault.FaultKind.TheVariants.{NoModel}
use Rattle.blif_text.specs.LogicalLines.{logical_lines}
use Rattle.blif_text.specs.Models.{models_of}
use Rattle.netlist_rules.specs.FaultNames.{fault_on}
use Rattle.blif_text.specs.LineFaults.{line_fault}
use Rattle.netlist_rules.specs.ModelFaults.{HasModelFault, AreFaultless}

-- 22: there is no logical line
abbrev pub fault_if_empty : List Logical → Option Fault
fault_if_empty [] = Some (fault_on NoModel 1 (codes "-"))
fault_if_empty (l ∷ lines) = None

-- The lines break no rule on lines, and these are their models.
pub record HasModels (lines : List Logical) (models : List Model) : Type 0 where
  pub no_fault : line_fault lines ≡ None
  pub are_models : models ≡ models_of lines

-- The fault of a list of logical lines by a rule on lines or models: that there is no line, or that
-- of the earliest line that breaks a rule, or that of the lines' models.
pub data HasFault : List Logical → Fault → Type 0 where
  of_no_line : {lines : List Logical} {fault : Fault} → fault_if_empty lines ≡ Some fault
      → HasFault lines fault
  of_line : {lines : List Logical} {fault : Fault} → line_fault lines ≡ Some fault
      → HasFault lines fault
  of_models : {lines : List Logical} {models : List Model} {fault : Fault} → HasModels lines models
      → HasModelFault models fault → HasFault lines fault

-- The design of a text: the text's lines break no rule on lines, their models break no rule on
-- models, and the models are the design's. It may still break a rule on clocks.
pub record IsDesignOf (text : List ℕ) (design : Design) : Type 0 where
  pub models : HasModels (logical_lines text) design.models
  pub faultless : AreFaultless design.models
