-- The net of a literal, from a map.
use Rattle.std.proofs.Common.{ℕ, suc, ◌+◌, ◌-◌, ◌%◌, ◌<◌, ◌≤◌, ◌≡◌, refl, sym, ap, ap₂, ◌∙◌, Bool, true, false, cond, not, ◌==◌, nat_lt, List, length, drop, get_or, arith}
use Rattle.std.specs.Prelude.{Option, Some, None}
use Rattle.std.specs.BTreeMap as tree
use Rattle.std.specs.List.{position_from, position_or_len}
use Rattle.std.specs.Ordering.{is_eq, nat_cmp}
use Rattle.std.proofs.lemmas.Bool.{ltb-false}
use Rattle.std.proofs.lemmas.Bool.Decides.{nat_tests}
use Rattle.std.proofs.lemmas.Iterator.Adapters.{position_from-zero}
use Rattle.std.proofs.lemmas.List.Sums.{prefix_len-le-length}
use Rattle.std.proofs.lemmas.Option.{same_Some, none-some}
use Rattle.std.proofs.Math.Seq.{drop-cons}
use Rattle.aiger_text.specs.EntryFaults.{even}
use Rattle.aiger_meaning.specs.NetIndex.{HasNetsFrom}

-- one more literal in front
pub one_in_front : (literals : List ℕ) (n i : ℕ) (old new : tree.BTreeMap ℕ ℕ) → i ≡ n + 1 → n < length literals → HasNetsFrom old i (drop i literals)
    → tree.UpdatesBy nat_cmp (nat_cmp (get_or literals n 0)) old new (Some n) → HasNetsFrom new n (drop n literals)
one_in_front literals n i old new next within had updates lit =
    let own = get_or literals n 0 in
    updates.0 lit
    ∙ ap₂ (λ (b : Bool) (o : Option ℕ). cond b (Some n) o) (number_is own lit) (had lit)
    ∙ ap (λ j. cond (own == lit) (Some n) (position_from (λ x. x == lit) j (drop i literals))) next
    ∙ ap (λ j. cond (own == lit) (Some n) (position_from (λ x. x == lit) (n + 1) (drop j literals))) (let e : i ≡ suc n = omega arith in e)
    ∙ ap (λ xs. position_from (λ x. x == lit) n xs) (sym (drop-cons literals n 0 within))
  where
    number_is : (m n : ℕ) → is_eq (nat_cmp m n) ≡ (m == n)
    number_is m n = grind (arith, nat_tests)

even_by : (lit : ℕ) → lit - lit % 2 ≡ even lit
even_by lit = omega arith

-- what the map has for the even one of two literals
kept : (literals : List ℕ) (nets : tree.BTreeMap ℕ ℕ) (lit : ℕ) (o : Option ℕ) → HasNetsFrom nets 0 literals → tree.get nat_cmp nets (lit - lit % 2) ≡ o → position_from (λ own. own == even lit) 0 literals ≡ o
kept literals nets lit o has is = sym (has (even lit)) ∙ ap (tree.get nat_cmp nets) (sym (even_by lit)) ∙ is

pub net_is : (literals : List ℕ) (nets : tree.BTreeMap ℕ ℕ) (lit n : ℕ) → HasNetsFrom nets 0 literals → tree.get nat_cmp nets (lit - lit % 2) ≡ Some n → n ≡ position_or_len (λ own. own == even lit) literals
net_is literals nets lit n has is = by (nat_lt first (length literals)) refl (position_from-zero (λ own. own == even lit) literals ∙ kept literals nets lit (Some n) has is)
  where
    first : ℕ
    first = position_or_len (λ own. own == even lit) literals

    by : (b : Bool) → nat_lt first (length literals) ≡ b → cond b (Some first) None ≡ Some n → n ≡ first
    by true low e = sym (same_Some first n e)
    by false past e = absurd (none-some n e)

pub first_within : (literals : List ℕ) (lit : ℕ) → position_or_len (λ own. own == even lit) literals ≤ length literals
first_within literals lit = prefix_len-le-length (λ own. not (own == even lit)) literals

pub no_net : (literals : List ℕ) (nets : tree.BTreeMap ℕ ℕ) (lit : ℕ) → HasNetsFrom nets 0 literals → tree.get nat_cmp nets (lit - lit % 2) ≡ None → length literals ≡ position_or_len (λ own. own == even lit) literals
no_net literals nets lit has is = by (nat_lt first (length literals)) refl (position_from-zero (λ own. own == even lit) literals ∙ kept literals nets lit None has is)
  where
    first : ℕ
    first = position_or_len (λ own. own == even lit) literals

    by : (b : Bool) → nat_lt first (length literals) ≡ b → cond b (Some first) None ≡ None → length literals ≡ first
    by true low e = absurd (none-some first (sym e))
    by false past e = omega (arith, ltb-false first (length literals) past, first_within literals lit)
