-- Outputs and next states are alike where valuations agree on the nets that are no clock nets.
use Rattle.std.proofs.Common.{◌≡◌, ◌+◌, refl, sym, ◌∙◌, ap, ap₂, subst, ℕ, suc, Bool, List, [], ◌∷◌, ◌++◌, flat_map, arith}
use Rattle.std.specs.Prelude.{Option, Some, None, slice_get, option_and_then}
use Rattle.netlist_core.specs.declared.model.Design.{Design}
use Rattle.netlist_core.specs.declared.model.Model.{Model}
use Rattle.netlist_core.specs.declared.model.Port.{Port}
use Rattle.netlist_core.specs.declared.model.LatchRow.{LatchRow}
use Rattle.netlist_meaning.specs.Places.{Place, model_at, latch_at, main_ports, main_outputs}
use Rattle.netlist_meaning.specs.Nets.{Net, net_at, IsNet}
use Rattle.netlist_meaning.specs.InOrder.{of_some, places_in_order}
use Rattle.netlist_meaning.specs.Valuation.{Valuation, LatchState, AgreeOnNets, output_bits, latches_after, data_bit}
use Rattle.netlist_rules.specs.ModelFaults.{AreFaultless}
use Rattle.netlist_rules.specs.Clocks.{HasNoClockFault, IsUse, by_latch, by_main_output}
use Rattle.lists.proofs.Members.{In, in_mapped, contains_from, in_got, got_from, map_in}
use Rattle.flat_designs.proofs.Faultless.{wired}
use Rattle.flat_designs.specs.Laws.{latch_bits_from, state_in_order}
use Rattle.flat_designs.proofs.Names.{output_name}
use Rattle.flat_designs.proofs.Sound.{main_net, data_net}

-- states that agree at each latch are one in order
bits_alike : (s other : ℕ → Bool) (first : ℕ) (latches : List LatchRow) → ((k number : ℕ) (l : LatchRow) → number ≡ first + k → slice_get latches k ≡ Some l → s number ≡ other number)
    → latch_bits_from s first latches ≡ latch_bits_from other first latches
bits_alike s other first [] same = refl
bits_alike s other first (l ∷ latches) same =
    ap₂ (λ b bs. b ∷ bs) (same 0 first l (omega arith) refl) (bits_alike s other (suc first) latches (λ k number x e is. same (suc k) number x (omega arith) is))

flat_alike : {X Y : Type 0} (f g : X → List Y) (xs : List X) → ((x : X) → f x ≡ g x) → flat_map f xs ≡ flat_map g xs
flat_alike f g [] same = refl
flat_alike f g (x ∷ xs) same = ap₂ (λ a b. a ++ b) (same x) (flat_alike f g xs same)

abbrev AgreeAtLatches : Design → LatchState → LatchState → Type 0
AgreeAtLatches design s other = (place : Place) (number : ℕ) (m : Model) (l : LatchRow) → model_at design place ≡ Some m → slice_get m.latches number ≡ Some l → s place number ≡ other place number

states_alike : (design : Design) (s other : LatchState) → AgreeAtLatches design s other → state_in_order design s ≡ state_in_order design other
states_alike design s other same = flat_alike _ _ (places_in_order design) (λ place. at_place place (model_at design place) refl)
  where
    at_place : (place : Place) (o : Option Model) → model_at design place ≡ o
        → latch_bits_from (s place) 0 (of_some (λ (model : Model). model.latches) o) ≡ latch_bits_from (other place) 0 (of_some (λ (model : Model). model.latches) o)
    at_place place None e = refl
    at_place place (Some m) e =
        bits_alike (s place) (other place) 0 m.latches
        (λ k number l same_number is. let n : number ≡ k = omega (arith, same_number) in subst (λ i. s place i ≡ other place i) (sym n) (same place k m l e is))

module _ (design : Design) (faultless : AreFaultless design.models) (clean : HasNoClockFault design) (bits others : Valuation) (agree : AgreeOnNets design bits others) where
  used : (line position : ℕ) (net : Net) → IsNet design net → IsUse design line position net → bits net.place net.name ≡ others net.place net.name
  used line position net n u = agree net n (λ clock. (wired design faultless clean).clocks_unread line position net (u, clock))

  pub outputs_alike : output_bits design bits ≡ output_bits design others
  outputs_alike = map_in (bits []) (others []) (main_outputs design) (λ name i.
      let (p, j, e) = in_mapped (λ (port : Port). port.name) (main_ports (λ (m : Model). m.outs) design) name i in
      let (at, is) = got_from (main_ports (λ (m : Model). m.outs) design) p j in
      subst (λ n. bits [] n ≡ others [] n) (sym e) (used p.line at (net_at [] p.name) (main_net design (λ (m : Model). m.outs) output_name p j) (by_main_output is)))

  latch_alike : (place : Place) (number : ℕ) (m : Model) (l : LatchRow) → model_at design place ≡ Some m → slice_get m.latches number ≡ Some l
      → latches_after design bits place number ≡ latches_after design others place number
  latch_alike place number m l is_m is =
      let at : latch_at design place number ≡ Some l = ap (option_and_then (λ (model : Model). slice_get model.latches number)) is_m ∙ is in
      let i : In l m.latches = in_got m.latches number l is in
      ap (data_bit (bits place)) at
      ∙ used l.line 0 (net_at place l.input) (data_net design place m l is_m i) (by_latch is_m (contains_from m.latches l i) refl)
      ∙ sym (ap (data_bit (others place)) at)

  pub latches_alike : state_in_order design (latches_after design bits) ≡ state_in_order design (latches_after design others)
  latches_alike = states_alike design (latches_after design bits) (latches_after design others) latch_alike
