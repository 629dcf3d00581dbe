-- One class more has a source.
use Rattle.std.proofs.Common.{◌≡◌, sym, ◌∙◌, ap, subst, ℕ, ◌<◌, Bool, true, List, set, length, get_or, Some, None, ◌⊎◌, ⊎_elim, arith}
use Rattle.std.proofs.lemmas.Bool.{cases_eq}
use Rattle.std.proofs.lemmas.Option.{same_Some}
use Rattle.std.proofs.lemmas.List.{get_or-set_same, get_or-set_other, length-set}
use Rattle.std.proofs.lemmas.List.Elements.{All-get_or}
use Rattle.netlist_core.specs.declared.flat.NetId.{NetId}
use Rattle.netlist_core.specs.declared.flat.FlatPort.{FlatPort}
use Rattle.netlist_core.specs.declared.flat.FlatLatch.{FlatLatch}
use Rattle.netlist_core.specs.declared.flat.Flat.{Flat}
use Rattle.netlist_meaning.specs.Flat.{class_of, no_net, IsNetId, IsInRange, IsSound, FlatDriver, FlatDrives}
use Rattle.netlist_meaning.specs.FlatValuation.{IsFlatValuation}
use Rattle.cell_core.specs.declared.cells.Src.{Src}
use Rattle.cell_core.specs.declared.list.CellList.{CellList}
use Rattle.cell_core.specs.Sources.{is_one}
use Rattle.cell_core.specs.Meaning.{bit_in}
use Rattle.cell_sharing.specs.Grown.{HasSource, Grows}
use Rattle.cell_sharing.proofs.Growing.{there_after, bit_after}
use Rattle.cell_meaning.specs.Needs.{any_needs_one}
use Rattle.cover_mapper.specs.Sourced.{ClassSources, AreSourced}
use Rattle.cell_meaning.specs.Mapped.{IsOwn}

-- a net's class is one of the netlist's
pub class_within : (flat : Flat) → IsInRange flat → (id : NetId) → IsNetId flat id → class_of flat id < length flat.nets
class_within flat in_range id is = All-get_or (λ net. net.class < length flat.nets) flat.nets id.0 no_net is in_range.classes

-- a driver drives one class
pub drives_one : (flat : Flat) (d : FlatDriver) (class other : ℕ) → FlatDrives flat d class → FlatDrives flat d other → class ≡ other
drives_one flat (FlatDriver.input i) class other (p, at, is) (q, at', is') = sym is ∙ ap (λ (port : FlatPort). class_of flat port.net) (same_Some p q (sym at ∙ at')) ∙ is'
drives_one flat (FlatDriver.latch i) class other (p, at, is) (q, at', is') = sym is ∙ ap (λ (l : FlatLatch). class_of flat l.output) (same_Some p q (sym at ∙ at')) ∙ is'
drives_one flat (FlatDriver.node n) class other (within, is) (within', is') = sym is ∙ is'

-- a source that is put at the class of one driver more
pub sourced_more : (flat : Flat) (made more : FlatDriver → Type 0) (old new : CellList) (sources : ClassSources) (driver : FlatDriver) (driven : ℕ) (source : Src) (n : ℕ) (P : Type 0)
    → IsSound flat → AreSourced flat made old sources → FlatDrives flat driver driven → driven < length flat.nets
    → ((d : FlatDriver) → more d → made d ⊎ (d ≡ driver)) → ((d : FlatDriver) → made d → more d) → more driver
    → IsOwn driver source → Grows old new n P → HasSource new source → (is_one source ≡ true → any_needs_one flat ≡ true)
    → ((inputs state : List Bool) (bits : ℕ → Bool) → IsFlatValuation flat inputs state bits → bit_in new.cells inputs state source ≡ bits driven)
    → AreSourced flat more new (set sources driven (Some source))
sourced_more flat made more old new sources driver driven source n P sound first drives within or_this still this mine grows there one bit =
    record {
      long = length-set sources driven (Some source) ∙ first.long;
      all = λ class d by is. ⊎_elim (λ here. (source, at_it class here))
          (λ off. ⊎_elim (λ before. let found = first.all class d by before in (found.0, at_other class off ∙ found.1)) (λ e. absurd (off (drives_one flat driver class driven (subst (λ x. FlatDrives flat x class) e by) drives))) (or_this d is))
          (cases_eq class driven);
      only = λ class src e. ⊎_elim (λ here. (driver, subst (FlatDrives flat driver) (sym here) drives, this))
          (λ off. let found = first.only class src (before class src off e) in (found.0, found.1, still found.0 found.2)) (cases_eq class driven);
      own = λ class d src by is e. ⊎_elim
          (λ here. subst (λ x. IsOwn x src) (sound.one_driver driven driver d drives (subst (FlatDrives flat d) here by)) (subst (IsOwn driver) (same class src here e) mine))
          (λ off. ⊎_elim (λ earlier. first.own class d src by earlier (before class src off e)) (λ f. absurd (off (drives_one flat driver class driven (subst (λ x. FlatDrives flat x class) f by) drives))) (or_this d is))
          (cases_eq class driven);
      there = λ class src e. ⊎_elim (λ here. subst (HasSource new) (same class src here e) there) (λ off. there_after old new n P grows src (first.there class src (before class src off e))) (cases_eq class driven);
      one = λ class src e is. ⊎_elim (λ here. one (ap is_one (same class src here e) ∙ is)) (λ off. first.one class src (before class src off e) is) (cases_eq class driven);
      bits = λ inputs state bits solves class src e.
          ⊎_elim (λ here. ap (bit_in new.cells inputs state) (sym (same class src here e)) ∙ bit inputs state bits solves ∙ ap bits (sym here))
          (λ off. bit_after old new n P grows src (first.there class src (before class src off e)) inputs state ∙ first.bits inputs state bits solves class src (before class src off e)) (cases_eq class driven);
    }
  where
    long : driven < length sources
    long = omega (arith, within, first.long)

    at_it : (class : ℕ) → class ≡ driven → get_or (set sources driven (Some source)) class None ≡ Some source
    at_it class here = ap (λ c. get_or (set sources driven (Some source)) c None) here ∙ get_or-set_same sources driven (Some source) None long

    at_other : (class : ℕ) → (class ≡ driven → ⊥) → get_or (set sources driven (Some source)) class None ≡ get_or sources class None
    at_other class off = get_or-set_other sources driven class (Some source) None off

    same : (class : ℕ) (src : Src) → class ≡ driven → get_or (set sources driven (Some source)) class None ≡ Some src → source ≡ src
    same class src here e = same_Some source src (sym (at_it class here) ∙ e)

    before : (class : ℕ) (src : Src) → (class ≡ driven → ⊥) → get_or (set sources driven (Some source)) class None ≡ Some src → get_or sources class None ≡ Some src
    before class src off e = sym (at_other class off) ∙ e
