-- A text that carries a design.
use Rattle.std.specs.Prelude.{[], ◌∷◌, codes}
use Rattle.netlist_core.specs.declared.model.Design.{Design}
use Rattle.netlist_core.specs.declared.model.Model.{Model}
use Rattle.pattern_writing.specs.Samples.{bare_text}
use Rattle.carries.specs.Carries.{Carries}

-- .model m / .end
abbrev pub bare_model : Model
bare_model =
    record {
      line = 1;
      name = codes "m";
      ins = [];
      outs = [];
      clocks = [];
      covers = [];
      latches = [];
      subckts = [];
    }

abbrev pub bare_design : Design
bare_design = record { models = bare_model ∷ [] }

-- a text without ports carries this model without ports
abbrev pub BareIsCarried : Type 0
BareIsCarried = Carries bare_text bare_design
