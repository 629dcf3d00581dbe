-- The weight of a design: its size over all places.
use Rattle.std.specs.Prelude.{ℕ, zero, suc, ◌+◌, length, sum_by, Option, option_map, unwrap_or}
use Rattle.netlist_core.specs.declared.model.Design.{Design}
use Rattle.netlist_core.specs.declared.model.Model.{Model}
use Rattle.netlist_core.specs.Names.{model_named}
use Rattle.netlist_core.specs.OwnWeight.{own_weight}
use Rattle.netlist_meaning.specs.Places.{main_model}

-- a number of a model, and 0 if there is no model
abbrev pub of_model : (Model → ℕ) → Option Model → ℕ
of_model number model = unwrap_or (option_map number model) 0

-- the sum of the own weights of a model and of all places inside it, fewer than so many lines deep
abbrev pub weight_below : Design → ℕ → Model → ℕ
weight_below design zero model = 0
weight_below design (suc depth) model =
    own_weight model + sum_by (λ line. of_model (weight_below design depth)
    (model_named design.models line.model)) model.subckts

-- the weight: the sum of the own weights over all places. If no model lies on a circle of subckt
-- lines, no place is as many lines deep as there are models
abbrev pub weight : Design → ℕ
weight design = of_model (weight_below design (length design.models)) (main_model design)
