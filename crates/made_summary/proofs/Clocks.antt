-- Its latches have no clock, and it has no other.
use Rattle.std.proofs.Common.{◌≡◌, refl, sym, ◌∙◌, subst, ℕ, zero, suc, inl, inr, [], ◌∷◌, Option, Some, None, slice_get}
use Rattle.std.proofs.lemmas.Option.{none-some, same_Some}
use Rattle.netlist_core.specs.declared.model.Design.{Design}
use Rattle.netlist_core.specs.declared.model.LatchRow.{LatchRow}
use Rattle.netlist_core.specs.Names.{Name}
use Rattle.netlist_meaning.specs.Places.{Place, latch_at}
use Rattle.netlist_meaning.specs.Nets.{Net, IsControl, IsLatchControl, IsClockNet}
use Rattle.netlist_meaning.proofs.SingleModel.{IsFlat, latch_at-flat}
use Rattle.netlist_rules.specs.Clocks.{HasNoClockFault, HasSameControl}
use Rattle.netlist_rules.specs.Clocks.IsClockFault.{two_clocks, clock_read}
use Rattle.lists.proofs.Members.{in_from}
use Rattle.made_netlists.specs.Text.{latch_data}
use Rattle.made_netlists.specs.Design.{made_design, made_latch, made_model}

pub is_flat : (seed size : ℕ) → IsFlat (made_design seed size) (made_model seed size)
is_flat seed size = record { models = refl; subckts = refl }

-- a latch without a type and a control
abbrev IsPlain : LatchRow → Type 0
IsPlain latch = (latch.kind ≡ None) × (latch.control ≡ None)

is_one_of : (a b : LatchRow) (number : ℕ) (latch : LatchRow) → IsPlain a → IsPlain b → slice_get (a ∷ b ∷ []) number ≡ Some latch → IsPlain latch
is_one_of a b zero latch p q e = subst IsPlain (same_Some a latch e) p
is_one_of a b (suc zero) latch p q e = subst IsPlain (same_Some b latch e) q
is_one_of a b (suc (suc number)) latch p q e = absurd (none-some latch e)

plain : (seed size : ℕ) (place : Place) (number : ℕ) (latch : LatchRow) → latch_at (made_design seed size) place number ≡ Some latch → IsPlain latch
plain seed size place number latch e =
    is_one_of (made_latch 4 (latch_data seed size 0) 4 0) (made_latch 5 (latch_data seed size 1) 5 1) number latch (refl, refl) (refl, refl)
    (latch_at-flat (made_design seed size) (made_model seed size) (is_flat seed size) place number latch e).1

same_control : (design : Design) (p q : Place) (a b : Option Name) → a ≡ None → b ≡ None → HasSameControl design p a q b
same_control design p q a b e f = subst (λ v. HasSameControl design p v q b) (sym e) (subst (λ v. HasSameControl design p None q v) (sym f) tt)

pub no_latch_control : (seed size : ℕ) (net : Net) → ¬ IsLatchControl (made_design seed size) net
no_latch_control seed size net c = none-some net.name (sym (plain seed size net.place c.number c.latch c.has_latch).1 ∙ c.has_control)

pub no_control : (seed size : ℕ) (net : Net) → ¬ IsControl (made_design seed size) net
no_control seed size net (source, c, j) = no_latch_control seed size source c

no_clock_net : (seed size : ℕ) (net : Net) → ¬ IsClockNet (made_design seed size) net
no_clock_net seed size net (source, inl c, j) = no_latch_control seed size source c
no_clock_net seed size net (source, inr c, j) = in_from [] source.name c.is_clock

pub no_clock_fault : (seed size : ℕ) → HasNoClockFault (made_design seed size)
no_clock_fault seed size fault (two_clocks t) =
    let first = plain seed size t.first.place t.first.number t.first.latch t.has_first in
    let found = plain seed size t.found.place t.found.number t.found.latch t.has_found in
    t.differs (record {
      same_type = first.0 ∙ sym found.0;
      same_control = same_control (made_design seed size) t.first.place t.found.place t.first.latch.control t.found.latch.control first.1 found.1;
    })
no_clock_fault seed size fault (clock_read one r) = no_clock_net seed size r.net r.is_use.1
