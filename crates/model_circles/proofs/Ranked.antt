-- The models of a circle have one rank.
use Rattle.std.proofs.Common.{◌≡◌, ◌≢◌, refl, None, sym, ap, subst, ◌∙◌, ℕ, ◌<◌, ◌≤◌, List, [], ◌∷◌, length, get_or, Option, Some, slice_get, arith}
use Rattle.std.proofs.lemmas.Option.{same_Some}
use Rattle.std.proofs.Math.Nat.{lt_of_not-le}
use Rattle.netlist_core.specs.declared.model.Model.{Model}
use Rattle.netlist_core.specs.declared.model.Subckt.{Subckt}
use Rattle.model_index.specs.Numbers.{subckts_of, Places, LeadsBy}
use Rattle.model_index.proofs.Naming.{placed_within}
use Rattle.model_circles.specs.declared.circle.Circle.{Circle}
use Rattle.model_circles.specs.Earliest.{IsLookedAt, IsNoLater}
use Rattle.model_circles.specs.Ranks.{AreRanks}
use Rattle.model_circles.specs.Ways.{LeadsBackBy, LiesOnCircle, IsWayBack}

sinks : (models : List Model) (ranks : List ℕ) → AreRanks models ranks → (x : ℕ) (numbers : List ℕ) (end : ℕ) → x < length models → LeadsBy models x numbers end → get_or ranks end 0 ≤ get_or ranks x 0
sinks models ranks r x [] end l (k, e) = r.never_rise x l k end e
sinks models ranks r x (next ∷ numbers) end l ((k, e), rest) =
    let here : get_or ranks next 0 ≤ get_or ranks x 0 = r.never_rise x l k next e in
    let there : get_or ranks end 0 ≤ get_or ranks next 0 = sinks models ranks r next numbers end (placed_within models x k next e) rest in
    omega arith

sinks_back : (models : List Model) (ranks : List ℕ) → AreRanks models ranks → (inner : ℕ) (numbers : List ℕ) (end : ℕ) → inner < length models → LeadsBackBy models inner numbers end → get_or ranks end 0 ≤ get_or ranks inner 0
sinks_back models ranks r inner [] end l e = subst (λ v. get_or ranks v 0 ≤ get_or ranks inner 0) e (omega arith)
sinks_back models ranks r inner (next ∷ numbers) end l (e, rest) =
    subst (λ v. get_or ranks end 0 ≤ get_or ranks v 0) (sym e) (sinks models ranks r next numbers end (subst (λ v. v < length models) e l) rest)

pub one_rank : (models : List Model) (ranks : List ℕ) → AreRanks models ranks → (n k inner : ℕ) → n < length models → Places models n k inner → LiesOnCircle models n k → get_or ranks inner 0 ≡ get_or ranks n 0
one_rank models ranks r n k inner l p c =
    let same : c.inner ≡ inner = same_Some c.inner inner (sym c.placed ∙ p) in
    let down : get_or ranks c.inner 0 ≤ get_or ranks n 0 = r.never_rise n l k c.inner c.placed in
    let back : get_or ranks n 0 ≤ get_or ranks c.inner 0 = sinks_back models ranks r c.inner c.numbers n (placed_within models n k c.inner c.placed) c.leads in
    subst (λ v. get_or ranks v 0 ≡ get_or ranks n 0) same (omega arith)

-- a line that leads to another rank changes nothing
pub skipped : (models : List Model) (ranks : List ℕ) → AreRanks models ranks → (n k inner : ℕ) (best : Option Circle) → n < length models → Places models n k inner → get_or ranks inner 0 ≢ get_or ranks n 0 → IsLookedAt models n k best best
skipped models ranks r n k inner best l p other = record {
  kept = λ h. h;
  no_later = λ line h. h;
  covers = λ subckt is lies. absurd (other (one_rank models ranks r n k inner l p lies));
}

-- a circle of an earlier line than the best
pub improved : (models : List Model) (n k inner : ℕ) (subckt : Subckt) (others : List ℕ) (best : Option Circle) → slice_get (subckts_of models n) k ≡ Some subckt → ¬ IsNoLater best subckt.line → Places models n k inner → IsWayBack models inner n others
    → IsLookedAt models n k best (Some (record { line = subckt.line; first = n; others = others }))
improved models n k inner subckt others best is later p way = record {
  kept = λ h. (record { k = k; subckt = subckt; is_line = is; at_the_line = refl; inner = inner; placed = p; way = way });
  no_later = λ line h. by best later line h;
  covers = λ other is_other lies. (let same : subckt ≡ other = same_Some subckt other (sym is ∙ is_other) in let e : subckt.line ≡ other.line = ap (λ (s : Subckt). s.line) same in omega arith);
}
  where
    by : (o : Option Circle) → ¬ IsNoLater o subckt.line → (line : ℕ) → IsNoLater o line → subckt.line ≤ line
    by None later line h = absurd h
    by (Some circle) later line h = up (lt_of_not-le later) h
      where
        up : subckt.line < circle.line → circle.line ≤ line → subckt.line ≤ line
        up a b = omega arith
