-- Circles of models, in which each places the next: rule 19.
use Rattle.std.specs.Prelude.{Some, ◌≡◌, ℕ, ◌≤◌, List, [], ◌∷◌, bytes_eq, Contains}
use Rattle.std.specs.List.{join_with_byte, IsDistinct}
use Rattle.netlist_core.specs.declared.model.Subckt.{Subckt}
use Rattle.netlist_core.specs.declared.model.Model.{Model}
use Rattle.netlist_core.specs.Names.{model_named}
use Rattle.netlist_rules.specs.declared.fault.Fault.{Fault}
use Rattle.netlist_rules.specs.declared.fault.FaultKind.TheVariants.{Recursive}

-- the model of this name has a subckt line that names the other
pub record HasSubcktOf (models : List Model) (name other : List ℕ) : Type 0 where
  pub model : Model
  pub is_model : model_named models name ≡ Some model
  pub subckt : Subckt
  pub is_line : Contains model.subckts subckt
  pub names_other : subckt.model ≡ other

-- the model of each name has a line that names the next, and that of the last has a line that names
-- the end
abbrev pub Leads : List Model → List ℕ → List (List ℕ) → List ℕ → Type 0
Leads models name [] end = HasSubcktOf models name end
Leads models name (next ∷ names) end = HasSubcktOf models name next × Leads models next names end

-- the names lead on from the model that a subckt line names, back to the model in which the line
-- stands
abbrev pub LeadsBack : List Model → List ℕ → List (List ℕ) → List ℕ → Type 0
LeadsBack models placed [] end = placed ≡ end
LeadsBack models placed (next ∷ names) end = (placed ≡ next) × Leads models next names end

-- a subckt line lies on a simple circle of models: the names, of which no two are the same, begin
-- with the model in which it stands
pub record IsOnCircle (models : List Model) (line : ℕ) (names : List (List ℕ)) : Type 0 where
  pub model : Model
  pub is_model : model_named models model.name ≡ Some model
  pub subckt : Subckt
  pub is_subckt : Contains model.subckts subckt
  pub at_the_line : subckt.line ≡ line
  pub others : List (List ℕ)
  pub begins : names ≡ model.name ∷ others
  pub leads_back : LeadsBack models subckt.model others model.name
  pub is_simple : IsDistinct bytes_eq names

-- 19: the earliest subckt line that lies on a circle of models, with the models of one such circle
pub record IsCircleFault (models : List Model) (fault : Fault) : Type 0 where
  pub kind : fault.kind ≡ Recursive
  pub names : List (List ℕ)
  pub circle : IsOnCircle models fault.line names
  pub word : fault.word ≡ join_with_byte 32 names
  pub is_earliest : (line : ℕ) (others : List (List ℕ)) → IsOnCircle models line others
      → fault.line ≤ line
