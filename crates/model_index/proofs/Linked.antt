-- The links of models: they stay within, and an order by them is one of the models.
use Rattle.std.proofs.Common.{sym, subst, ◌∙◌, ℕ, ◌<◌, ◌≤◌, List, length, get_or}
use Rattle.netlist_core.specs.declared.model.Model.{Model}
use Rattle.depth_walk.specs.Links.{Links, LeadsTo, StayWithin}
use Rattle.depth_walk.specs.Order.{IsOrderOf}
use Rattle.model_index.specs.Links.{AreLines}
use Rattle.model_index.specs.Numbers.{Places}
use Rattle.model_index.specs.Order.{IsModelOrder}
use Rattle.model_index.proofs.Naming.{placed_within}

pub placed_by : (models : List Model) (links : Links) → AreLines models links → (n k inner : ℕ) → LeadsTo links n k inner → Places models n k inner
placed_by models links are n k inner e = sym (are.each n k) ∙ e

pub stay : (models : List Model) (links : Links) → AreLines models links → StayWithin links
stay models links are n k inner e = subst (λ v. inner < v) (sym are.long) (placed_within models n k inner (placed_by models links are n k inner e))

pub model_order : (models : List Model) (links : Links) (order : List ℕ) → AreLines models links → IsOrderOf links order → IsModelOrder models order
model_order models links order are o = record {
  numbers = λ i d l. subst (λ v. get_or order i d < v) are.long (o.numbers i d l);
  once = o.once;
  all = λ n l. o.all n (subst (λ v. n < v) (sym are.long) l);
  few = subst (λ v. length order ≤ v) are.long o.few;
  after = λ i k inner l p. o.after i k inner l (are.each (get_or order i 0) k ∙ p);
}
