-- The links of nodes: they stay within, and an order by them is one of the netlist.
use Rattle.std.proofs.Common.{sym, ap, subst, ◌∙◌, ℕ, ◌<◌, ◌≤◌, ◌^◌, ◌⊎◌, inl, inr, List, [], length, get_or, arith}
use Rattle.std.specs.Prelude.{None, All}
use Rattle.std.proofs.lemmas.List.{get_or_past}
use Rattle.std.proofs.lemmas.Option.{none-some}
use Rattle.std.proofs.lemmas.Bool.{cases_lt}
use Rattle.netlist_core.specs.declared.flat.Flat.{Flat}
use Rattle.netlist_meaning.specs.Flat.{IsSound}
use Rattle.netlist_meaning.specs.FlatOrder.{IsDrivenBy, IsOrder}
use Rattle.depth_walk.specs.Links.{Links, LeadsTo, StayWithin}
use Rattle.depth_walk.specs.Order.{IsOrderOf, IsCircleOf}
use Rattle.loop_check.specs.Links.{AreDriverLinks}

pub driven_at : (flat : Flat) (links : Links) → AreDriverLinks flat links → (n k b : ℕ) → n < length flat.nodes → LeadsTo links n k b → IsDrivenBy flat n k b
driven_at flat links are n k b l leads = (are.each n l k).0 b leads

pub stay : (flat : Flat) (links : Links) → AreDriverLinks flat links → StayWithin links
stay flat links are n k b leads = by (cases_lt n (length links))
  where
    by : (n < length links) ⊎ (length links ≤ n) → b < length links
    by (inl l) = subst (λ v. b < v) (sym are.long) (driven_at flat links are n k b (subst (λ v. n < v) are.long l) leads).0
    by (inr past) = absurd (none-some b (sym (ap (λ steps. get_or steps k None) (get_or_past links n [] past)) ∙ leads))

pub few_numbers : (flat : Flat) → IsSound flat → (links : Links) → AreDriverLinks flat links → (order : List ℕ) → IsOrderOf links order → All (λ n. n < 2 ^ 32) order
few_numbers flat s links are order o i d l = let few = s.in_range.few in let less : get_or order i d < length links = o.numbers i d l in let long = are.long in omega (arith, few, less, long)

pub few_nodes : (flat : Flat) (links : Links) → AreDriverLinks flat links → (circle : List ℕ) → IsCircleOf links circle → All (λ n. n < length flat.nodes) circle
few_nodes flat links are circle c i d l = subst (λ v. get_or circle i d < v) are.long (c.numbers i d l)

pub is_order : (flat : Flat) (links : Links) → AreDriverLinks flat links → (order : List ℕ) → IsOrderOf links order → IsOrder flat order
is_order flat links are order o = record {
  nodes = λ i d l. subst (λ v. get_or order i d < v) are.long (o.numbers i d l);
  once = o.once;
  all = λ n l. o.all n (subst (λ v. n < v) (sym are.long) l);
  after = λ i k b l r. o.after i k b l ((are.each (get_or order i 0) (subst (λ v. get_or order i 0 < v) are.long (o.numbers i 0 l)) k).1 b r);
}
