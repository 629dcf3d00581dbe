-- A text and words show the bits of a net, or are refused in one way.
use Rattle.std.proofs.Common.{ℕ, ◌≡◌, refl, sym, ap, ◌∙◌, subst, List, Bool, arith}
use Rattle.std.specs.Prelude.{Option, Some, None}
use Rattle.std.proofs.lemmas.Option.{none-some, same_Some}
use Rattle.ww_rule.specs.declared.pattern.Injection.{Injection}
use Rattle.ww_rule.specs.Grid.{plane_of}
use Rattle.pattern_reading.specs.declared.ports.NetLine.{NetLine}
use Rattle.drive.specs.Driving.{first_miss}
use Rattle.probe_view.specs.Probes.{net_named, last_probed, HasProbed, IsNotQuiet, IsTooFar}
use Rattle.blifww_tool.specs.Simulation.{Simulation, IsSimulation, HasNoStreams}
use Rattle.blifww_tool.specs.Probing.{Probes, HasNoProbe}
use Rattle.program_runs.specs.declared.causes.Cause.{Cause}
use Rattle.program_runs.specs.declared.causes.Cause.TheVariants.{NetlistFault, WeightTooLarge, Loop, AigAtFault, AigLoop, Pattern, GridTooLarge, PortTable, Streams, StartWord, NoSuchNet, TooFar, TooManyContexts, NotQuiet, NotCircuit}
use Rattle.blifww_tool.proofs.SimulationOrNot.{same_simulation, simulation_or_not, one_streams_cause}

-- the ways to be refused for the net, in a simulation
data Miss (name path : List ℕ) (s : Simulation) (r : Cause) : Type 0 where
  by_net : r ≡ NoSuchNet name → net_named s.ports name path ≡ None → Miss name path s r
  late : (generations : ℕ) → r ≡ TooFar generations → IsTooFar s.ports s.streams name path generations → Miss name path s r
  by_miss : (g x y : ℕ) → r ≡ NotQuiet g x y → IsNotQuiet s.ports s.streams (plane_of s.grid.rows) name path g x y → Miss name path s r

-- and in all
data Reason (cycles : ℕ) (name path : List ℕ) (words : List (List ℕ)) (text : List ℕ) (r : Cause) : Type 0 where
  early : HasNoStreams cycles words text r → Reason cycles name path words text r
  missed : (s : Simulation) → IsSimulation cycles words text s → Miss name path s r → Reason cycles name path words text r

reason_of : (cycles : ℕ) (name path : List ℕ) (words : List (List ℕ)) (text : List ℕ) (r : Cause) → HasNoProbe cycles name path words text r → Reason cycles name path words text r
reason_of cycles name path words text (NetlistFault fault) h = early h
reason_of cycles name path words text (WeightTooLarge weight) h = early h
reason_of cycles name path words text (Loop names) h = early h
reason_of cycles name path words text (AigAtFault fault) h = early h
reason_of cycles name path words text (AigLoop literals) h = early h
reason_of cycles name path words text (Pattern fault) h = early h
reason_of cycles name path words text (GridTooLarge width height) h = early h
reason_of cycles name path words text (PortTable fault) h = early h
reason_of cycles name path words text (Streams fault) h = early h
reason_of cycles name path words text (StartWord fault) h = early h
reason_of cycles name path words text (NoSuchNet told) h = missed h.0 h.1 (by_net (ap NoSuchNet h.2) h.3)
reason_of cycles name path words text (TooFar generations) h = missed h.0 h.1 (late generations refl h.2)
reason_of cycles name path words text (TooManyContexts contexts limit) h = early h
reason_of cycles name path words text (NotQuiet generation x y) h = missed h.0 h.1 (by_miss generation x y refl h.2)
reason_of cycles name path words text (NotCircuit fault) h = early h

module _ (name path : List ℕ) (s : Simulation) where
  -- the net of a name is one
  one_net : (a b : NetLine) → net_named s.ports name path ≡ Some a → net_named s.ports name path ≡ Some b → a ≡ b
  one_net a b h k = same_Some a b (sym h ∙ k)

  same_last : (a b : NetLine) → net_named s.ports name path ≡ Some a → net_named s.ports name path ≡ Some b → last_probed s.ports s.streams a ≡ last_probed s.ports s.streams b
  same_last a b h k = ap (last_probed s.ports s.streams) (one_net a b h k)

  there_or_not : (a : NetLine) → net_named s.ports name path ≡ Some a → net_named s.ports name path ≡ None → ⊥
  there_or_not a h none = none-some _ (sym none ∙ h)

  abbrev missed_until : NetLine → Option Injection
  missed_until net = first_miss s.ports s.streams (plane_of s.grid.rows) (last_probed s.ports s.streams net)

  -- a net that is shown is not refused
  shown_or_not : (bits : List (List Bool)) (r : Cause) → HasProbed s.ports s.streams (plane_of s.grid.rows) name path bits → Miss name path s r → ⊥
  shown_or_not bits r h (by_net e none) = there_or_not h.net h.is_there none
  shown_or_not bits r h (late generations e far) =
      let same = same_last far.net h.net far.is_there h.is_there in
      omega (arith, h.near, same, far.needed, far.far)
  shown_or_not bits r h (by_miss g x y e k) =
      none-some _ (sym h.quiet ∙ ap missed_until (one_net h.net k.net h.is_there k.is_there) ∙ k.first)

  one_miss : (r r' : Cause) → Miss name path s r → Miss name path s r' → r ≡ r'
  one_miss r r' (by_net e none) (by_net e' none') = e ∙ sym e'
  one_miss r r' (by_net e none) (late n e' far) = absurd (there_or_not far.net far.is_there none)
  one_miss r r' (by_net e none) (by_miss g x y e' k) = absurd (there_or_not k.net k.is_there none)
  one_miss r r' (late n e far) (by_net e' none) = absurd (there_or_not far.net far.is_there none)
  one_miss r r' (late n e far) (late n' e' far') = e ∙ ap TooFar (far.needed ∙ same_last far.net far'.net far.is_there far'.is_there ∙ sym far'.needed) ∙ sym e'
  one_miss r r' (late n e far) (by_miss g x y e' k) =
      let same = same_last far.net k.net far.is_there k.is_there in
      absurd (omega (arith, same, far.needed, far.far, k.near))
  one_miss r r' (by_miss g x y e k) (by_net e' none) = absurd (there_or_not k.net k.is_there none)
  one_miss r r' (by_miss g x y e k) (late n e' far) =
      let same = same_last far.net k.net far.is_there k.is_there in
      absurd (omega (arith, same, far.needed, far.far, k.near))
  one_miss r r' (by_miss g x y e k) (by_miss g' x' y' e' k') =
      e
      ∙ ap (λ (i : Injection). NotQuiet i.generation i.x i.y)
      (same_Some (record { generation = g; x = x; y = y }) (record { generation = g'; x = x'; y = y' })
      (sym k.first ∙ ap missed_until (one_net k.net k'.net k.is_there k'.is_there) ∙ k'.first))
      ∙ sym e'

module _ (cycles : ℕ) (name path : List ℕ) (words : List (List ℕ)) (text : List ℕ) where
  missed_too : (s t : Simulation) (r : Cause) → IsSimulation cycles words text s → IsSimulation cycles words text t → Miss name path s r → Miss name path t r
  missed_too s t r h k m = subst (λ (u : Simulation). Miss name path u r) (same_simulation cycles words text s t h k) m

  -- what is probed is not refused
  not_refused : (bits : List (List Bool)) (r : Cause) → Probes cycles name path words text bits → Reason cycles name path words text r → ⊥
  not_refused bits r h (early k) = simulation_or_not cycles words text h.simulation r h.is k
  not_refused bits r h (missed s k m) = shown_or_not name path h.simulation bits r h.probed (missed_too s h.simulation r k h.is m)

  pub probes_or_not : (bits : List (List Bool)) (r : Cause) → Probes cycles name path words text bits → HasNoProbe cycles name path words text r → ⊥
  probes_or_not bits r h k = not_refused bits r h (reason_of cycles name path words text r k)

  one_reason : (r r' : Cause) → Reason cycles name path words text r → Reason cycles name path words text r' → r ≡ r'
  one_reason r r' (early h) (early k) = one_streams_cause cycles words text r r' h k
  one_reason r r' (early h) (missed s k m) = absurd (simulation_or_not cycles words text s r k h)
  one_reason r r' (missed s k m) (early h) = absurd (simulation_or_not cycles words text s r' k h)
  one_reason r r' (missed s k m) (missed s' k' m') = one_miss name path s' r r' (missed_too s s' r k k' m) m'

  pub one_cause : (r r' : Cause) → HasNoProbe cycles name path words text r → HasNoProbe cycles name path words text r' → r ≡ r'
  one_cause r r' h k = one_reason r r' (reason_of cycles name path words text r h) (reason_of cycles name path words text r' k)
