-- One more latch leads back.
use Rattle.std.proofs.Common.{◌≡◌, sym, ◌∙◌, ap, subst, ℕ, suc, ◌+◌, ◌<◌, ◌≤◌, ⊎_elim, Bool, List, [], ◌∷◌, ◌++◌, length, arith}
use Rattle.std.proofs.lemmas.Bool.{cases_lt}
use Rattle.std.proofs.lemmas.List.{length_push, get_or_append_left, get_or_push}
use Rattle.cell_core.specs.declared.cells.Src.{Src}
use Rattle.cell_core.specs.declared.list.CellList.{CellList}
use Rattle.routed_circuits.specs.Runs.{list_bit, IsDelayed}
use Rattle.routed_circuits.proofs.Delayed.{latch_later}
use Rattle.route_cells.specs.Chains.{IsLatch, LatchesLeadBack}

pub no_latch : (list : CellList) (to : Src) → LatchesLeadBack list to [] to
no_latch list to =
    record {
      delayed = λ m from d. let e : m ≡ 0 + m = omega arith in subst (λ n. IsDelayed list n from to) e d;
      starts = λ t low. absurd (omega arith);
      later = λ t. let e : 0 + t ≡ t = omega arith in ap (λ n. list_bit list [] n to) e;
    }

pub one_more_latch : (list : CellList) (to : Src) (bits : List Bool) (at reads : Src) (start : Bool) → LatchesLeadBack list to bits at → IsLatch list at reads start
    → LatchesLeadBack list to (bits ++ start ∷ []) reads
one_more_latch list to bits at reads start back (l, within, is, data_is, start_is) =
    let long : length (bits ++ start ∷ []) ≡ length bits + 1 = length_push bits start in
    let first : list_bit list [] 0 at ≡ start = ap (list_bit list [] 0) is ∙ sym start_is in
    let next : (t : ℕ) → list_bit list [] (suc t) at ≡ list_bit list [] t reads =
    λ t. ap (list_bit list [] (suc t)) is ∙ latch_later list [] l t within ∙ ap (list_bit list [] t) (sym data_is) in
    record {
      delayed = λ m from d.
          let e : length bits + suc m ≡ length (bits ++ start ∷ []) + m = omega (arith, long) in
          subst (λ n. IsDelayed list n from to) e (back.delayed (suc m) from (l, within, is, subst (IsDelayed list m from) data_is d));
      starts = λ t low. ⊎_elim
          (λ (lt : t < length bits). back.starts t lt ∙ sym (get_or_append_left bits (start ∷ []) _ t lt))
          (λ (ge : length bits ≤ t).
          let e : t ≡ length bits + 0 = omega (arith, long, low, ge) in
          let e' : length bits ≡ t = omega (arith, long, low, ge) in
          ap (λ n. list_bit list [] n to) e ∙ back.later 0 ∙ first ∙ sym (get_or_push bits start _ t e'))
          (cases_lt t (length bits));
      later = λ t.
          let e : length (bits ++ start ∷ []) + t ≡ length bits + suc t = omega (arith, long) in
          ap (λ n. list_bit list [] n to) e ∙ back.later (suc t) ∙ next t;
    }
