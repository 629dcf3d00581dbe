-- The port table of a text says one thing.
use Rattle.std.proofs.Common.{ℕ, ◌≡◌, inl, inr, refl, sym, ap, ◌∙◌, List, [], ◌∷◌}
use Rattle.std.specs.Prelude.{slice_get}
use Rattle.std.proofs.lemmas.Option.{none-some, same_Some}
use Rattle.pattern_reading.specs.PortTable.{PortFaultAt, port_faults, ports_of, forms_of}
use Rattle.pattern_reading.specs.Laws.{HasOneTable, HasOnePortFault, HasNoPortFaultIfRead, HasTableOrFault}

pub one_table : (text : List ℕ) (width height : ℕ) → HasOneTable text width height
one_table text width height a b h k = h.ports_is ∙ sym k.ports_is

pub one_port_fault : (text : List ℕ) (width height : ℕ) → HasOnePortFault text width height
one_port_fault text width height k k' line line' h h' =
    let is = same_Some _ _ (sym h ∙ h') in
    (ap (λ (f : PortFaultAt). f.kind) is, ap (λ (f : PortFaultAt). f.line) is)

pub no_port_fault_if_read : (text : List ℕ) (width height : ℕ) → HasNoPortFaultIfRead text width height
no_port_fault_if_read text width height ports kind line h k = none-some _ (ap (λ fs. slice_get fs 0) (sym h.no_fault) ∙ k)

by_faults : (text : List ℕ) (width height : ℕ) (faults : List PortFaultAt) → port_faults text width height ≡ faults → HasTableOrFault text width height
by_faults text width height [] e = inl (ports_of (forms_of text), record { no_fault = e; ports_is = refl })
by_faults text width height (fault ∷ faults) e = inr (fault.kind, fault.line, rw e refl)

pub table_or_fault : (text : List ℕ) (width height : ℕ) → HasTableOrFault text width height
table_or_fault text width height = by_faults text width height _ refl
