-- Inputs and latches get their sources.
use Rattle.std.proofs.Common.{◌≡◌, refl, sym, ◌∙◌, ap, ℕ, zero, suc, ◌+◌, ◌<◌, false, [], set, length, get_or, replicate, Option, Some, None, ◌⊎◌, inl, inr, ⊎_elim, arith}
use Rattle.std.proofs.lemmas.Bool.{lt-ltb, true≢false}
use Rattle.std.proofs.lemmas.Option.{none-some, slice_get-get_or}
use Rattle.std.proofs.lemmas.List.{get_or-map, length-replicate}
use Rattle.std.proofs.lemmas.List.Elements.{All-get_or}
use Rattle.lists.proofs.Numbers.{less_or_last}
use Rattle.netlist_core.specs.declared.flat.FlatPort.{FlatPort}
use Rattle.netlist_core.specs.declared.flat.FlatLatch.{FlatLatch}
use Rattle.netlist_core.specs.declared.flat.Flat.{Flat}
use Rattle.netlist_meaning.specs.Flat.{class_of, IsNetId, IsSound, FlatDriver}
use Rattle.cell_core.specs.declared.cells.Src.{Src}
use Rattle.cell_core.specs.declared.cells.Src.TheVariants.{Input, Latch}
use Rattle.cell_core.specs.declared.list.CellList.{CellList}
use Rattle.cell_sharing.proofs.Growing.{grows_refl}
use Rattle.cover_mapper.specs.Sourced.{ClassSources, AreSourced, IsAmongFirst}
use Rattle.cover_mapper.proofs.Sourcing.{class_within, sourced_more}

-- before the first input no class has a source
none_at : (n i : ℕ) → get_or {A = Option Src} (replicate n None) i None ≡ None
none_at zero i = refl
none_at (suc n) zero = refl
none_at (suc n) (suc i) = none_at n i

not_among : (d : FlatDriver) → IsAmongFirst 0 0 [] d → ⊥
not_among (FlatDriver.input n) lt = absurd (omega (arith, lt))
not_among (FlatDriver.latch n) lt = absurd (omega (arith, lt))
not_among (FlatDriver.node n) has = absurd (omega (arith, has.1))

pub none_sourced : (flat : Flat) (list : CellList) (sources : ClassSources) → sources ≡ replicate (length flat.nets) None → AreSourced flat (IsAmongFirst 0 0 []) list sources
none_sourced flat list sources is =
    let none : (class : ℕ) → get_or sources class None ≡ None = λ class. ap (λ (l : ClassSources). get_or l class None) is ∙ none_at (length flat.nets) class in
    record {
      long = ap length is ∙ length-replicate (length flat.nets) None;
      all = λ class d drives made. absurd (not_among d made);
      only = λ class src e. absurd (none-some src (sym (none class) ∙ e));
      own = λ class d src drives made e. absurd (not_among d made);
      there = λ class src e. absurd (none-some src (sym (none class) ∙ e));
      one = λ class src e one. absurd (none-some src (sym (none class) ∙ e));
      bits = λ inputs state bits solves class src e. absurd (none-some src (sym (none class) ∙ e));
    }

-- classes of inputs and of latches are among those of the nets
pub input_within : (flat : Flat) → IsSound flat → (i : ℕ) (d : FlatPort) (class : ℕ) → i < length flat.ins → class ≡ class_of flat (get_or flat.ins i d).net → class < length flat.nets
input_within flat sound i d class within is =
    omega (arith, is, class_within flat sound.in_range (get_or flat.ins i d).net (All-get_or (λ port. IsNetId flat port.net) flat.ins i d within sound.in_range.ins))

pub latch_within : (flat : Flat) → IsSound flat → (i : ℕ) (d : FlatLatch) (class : ℕ) → i < length flat.latches → class ≡ class_of flat (get_or flat.latches i d).output → class < length flat.nets
latch_within flat sound i d class within is =
    omega (arith, is, class_within flat sound.in_range (get_or flat.latches i d).output (All-get_or (λ latch. IsNetId flat latch.input × IsNetId flat latch.output) flat.latches i d within sound.in_range.latches).1)

pub input_sourced : (flat : Flat) → IsSound flat → (list : CellList) (sources : ClassSources) (i : ℕ) (d : FlatPort) (class number : ℕ) → i < length flat.ins → list.inputs ≡ length flat.ins
    → class ≡ class_of flat (get_or flat.ins i d).net → number ≡ i → AreSourced flat (IsAmongFirst i 0 []) list sources
    → AreSourced flat (IsAmongFirst (i + 1) 0 []) list (set sources class (Some (Input number)))
input_sourced flat sound list sources i d class number within inputs is at first =
    sourced_more flat (IsAmongFirst i 0 []) (IsAmongFirst (i + 1) 0 []) list list sources (FlatDriver.input i) class (Input number) 0 ⊥ sound first
    (get_or flat.ins i d, slice_get-get_or flat.ins i d within, sym is)
    (input_within flat sound i d class within is)
    one_more still (omega arith) (ap Input at) (grows_refl list ⊥) (lt-ltb number list.inputs (omega (arith, within, inputs, at))) (λ e. absurd (true≢false (sym e)))
    (λ inputs state bits solves. ap (λ n. get_or inputs n false) at ∙ ap (λ l. get_or l i false) (sym solves.inputs_given) ∙ get_or-map (λ (port : FlatPort). bits (class_of flat port.net)) flat.ins i d false within ∙ ap bits (sym is))
  where
    one_more : (e : FlatDriver) → IsAmongFirst (i + 1) 0 [] e → IsAmongFirst i 0 [] e ⊎ (e ≡ FlatDriver.input i)
    one_more (FlatDriver.input n) lt = ⊎_elim inl (λ here. inr (ap FlatDriver.input here)) (less_or_last n i lt)
    one_more (FlatDriver.latch n) lt = inl lt
    one_more (FlatDriver.node n) has = inl has

    still : (e : FlatDriver) → IsAmongFirst i 0 [] e → IsAmongFirst (i + 1) 0 [] e
    still (FlatDriver.input n) lt = omega (arith, lt)
    still (FlatDriver.latch n) lt = lt
    still (FlatDriver.node n) has = has

pub latch_sourced : (flat : Flat) → IsSound flat → (list : CellList) (sources : ClassSources) (i : ℕ) (d : FlatLatch) (class number : ℕ) → i < length flat.latches → length list.starts ≡ length flat.latches
    → class ≡ class_of flat (get_or flat.latches i d).output → number ≡ i → AreSourced flat (IsAmongFirst (length flat.ins) i []) list sources
    → AreSourced flat (IsAmongFirst (length flat.ins) (i + 1) []) list (set sources class (Some (Latch number)))
latch_sourced flat sound list sources i d class number within starts is at first =
    sourced_more flat (IsAmongFirst (length flat.ins) i []) (IsAmongFirst (length flat.ins) (i + 1) []) list list sources (FlatDriver.latch i) class (Latch number) 0 ⊥ sound first
    (get_or flat.latches i d, slice_get-get_or flat.latches i d within, sym is)
    (latch_within flat sound i d class within is)
    one_more still (omega arith) (ap Latch at) (grows_refl list ⊥) (lt-ltb number (length list.starts) (omega (arith, within, starts, at))) (λ e. absurd (true≢false (sym e)))
    (λ inputs state bits solves. ap (λ n. get_or state n false) at ∙ ap (λ l. get_or l i false) (sym solves.latches_hold) ∙ get_or-map (λ (latch : FlatLatch). bits (class_of flat latch.output)) flat.latches i d false within ∙ ap bits (sym is))
  where
    one_more : (e : FlatDriver) → IsAmongFirst (length flat.ins) (i + 1) [] e → IsAmongFirst (length flat.ins) i [] e ⊎ (e ≡ FlatDriver.latch i)
    one_more (FlatDriver.input n) lt = inl lt
    one_more (FlatDriver.latch n) lt = ⊎_elim inl (λ here. inr (ap FlatDriver.latch here)) (less_or_last n i lt)
    one_more (FlatDriver.node n) has = inl has

    still : (e : FlatDriver) → IsAmongFirst (length flat.ins) i [] e → IsAmongFirst (length flat.ins) (i + 1) [] e
    still (FlatDriver.input n) lt = lt
    still (FlatDriver.latch n) lt = omega (arith, lt)
    still (FlatDriver.node n) has = has
