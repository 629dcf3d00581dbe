-- A text is a circuit, or is refused in one way.
use Rattle.std.proofs.Common.{ℕ, ◌≡◌, refl, sym, ap, ◌∙◌, subst, List, arith}
use Rattle.aiger_text.specs.declared.aig.Aig.{Aig}
use Rattle.aiger_text.specs.declared.fault.AigFault.{AigFault}
use Rattle.aiger_text.specs.AigText.{ReadsAsAig, HasAigFault}
use Rattle.aiger_text.proofs.OneThing.{texts_say_one_thing}
use Rattle.aiger_meaning.specs.declared.error.LowerError.TheVariants as planning
use Rattle.aiger_meaning.specs.Causes.{HasLowerCause}
use Rattle.blifww_tool.specs.Commands.{AreLikeCauses}
use Rattle.blifww_tool.specs.Aigs.{IsAig, HasNoAig}
use Rattle.blifww_tool.proofs.EvaluationOrNot.{alike}
use Rattle.program_runs.specs.declared.causes.Cause.{Cause}
use Rattle.program_runs.specs.declared.causes.Cause.TheVariants.{NetlistFault, WeightTooLarge, Loop, AigAtFault, AigLoop, Pattern, GridTooLarge, PortTable, Streams, StartWord, NoSuchNet, TooFar, TooManyContexts, NotQuiet, NotCircuit}

-- the ways to be refused
data Reason (text : List ℕ) (r : Cause) : Type 0 where
  by_fault : (fault : AigFault) → r ≡ AigAtFault fault → HasAigFault text fault → Reason text r
  by_weight : (told : ℕ) → r ≡ WeightTooLarge told → (aig : Aig) → ReadsAsAig text aig → HasLowerCause aig (planning.TooLarge told) → Reason text r
  by_loop : (literals : List ℕ) → r ≡ AigLoop literals → (aig : Aig) → ReadsAsAig text aig → HasLowerCause aig (planning.Loop literals) → Reason text r

reason_of : (text : List ℕ) (r : Cause) → HasNoAig text r → Reason text r
reason_of text (NetlistFault fault) h = absurd h
reason_of text (WeightTooLarge told) h = by_weight told refl h.0 h.1 h.2
reason_of text (Loop names) h = absurd h
reason_of text (AigAtFault fault) h = by_fault fault refl h
reason_of text (AigLoop literals) h = by_loop literals refl h.0 h.1 h.2
reason_of text (Pattern fault) h = absurd h
reason_of text (GridTooLarge width height) h = absurd h
reason_of text (PortTable fault) h = absurd h
reason_of text (Streams fault) h = absurd h
reason_of text (StartWord fault) h = absurd h
reason_of text (NoSuchNet name) h = absurd h
reason_of text (TooFar generations) h = absurd h
reason_of text (TooManyContexts contexts limit) h = absurd h
reason_of text (NotQuiet generation x y) h = absurd h
reason_of text (NotCircuit fault) h = absurd h

module _ (text : List ℕ) where
  same_aig : (a b : Aig) → ReadsAsAig text a → ReadsAsAig text b → a ≡ b
  same_aig a b h k = (texts_say_one_thing text).one_aig a b h k

  fault_or_read : (fault : AigFault) (aig : Aig) → HasAigFault text fault → ReadsAsAig text aig → ⊥
  fault_or_read fault aig h k = (texts_say_one_thing text).never_both aig fault k h

  -- a circuit is not refused
  not_refused : (aig : Aig) (r : Cause) → IsAig text aig → Reason text r → ⊥
  not_refused aig r h (by_fault fault e k) = fault_or_read fault aig k h.reads
  not_refused aig r h (by_weight told e heavy reads k) =
      let here = subst (λ (a : Aig). HasLowerCause a (planning.TooLarge told)) (same_aig heavy aig reads h.reads) k in
      omega (arith, here.0, h.light)
  not_refused aig r h (by_loop literals e looped reads k) =
      let here = subst (λ (a : Aig). HasLowerCause a (planning.Loop literals)) (same_aig looped aig reads h.reads) k in
      h.no_loop literals here.1

  pub aig_or_not : (aig : Aig) (r : Cause) → IsAig text aig → HasNoAig text r → ⊥
  aig_or_not aig r h k = not_refused aig r h (reason_of text r k)

  -- one circuit is not too heavy and within the limit
  heavy_or_loop : (told : ℕ) (literals : List ℕ) (a b : Aig) → ReadsAsAig text a → ReadsAsAig text b → HasLowerCause a (planning.TooLarge told) → HasLowerCause b (planning.Loop literals) → ⊥
  heavy_or_loop told literals a b reads reads' h k =
      let here = subst (λ (x : Aig). HasLowerCause x (planning.TooLarge told)) (same_aig a b reads reads') h in
      omega (arith, here.0, k.0)

  same_weight : (m n : ℕ) (a b : Aig) → ReadsAsAig text a → ReadsAsAig text b → HasLowerCause a (planning.TooLarge m) → HasLowerCause b (planning.TooLarge n) → m ≡ n
  same_weight m n a b reads reads' h k =
      let here = subst (λ (x : Aig). HasLowerCause x (planning.TooLarge m)) (same_aig a b reads reads') h in
      here.1 ∙ sym k.1

  one_reason : (r r' : Cause) → Reason text r → Reason text r' → AreLikeCauses r r'
  one_reason r r' (by_fault f e h) (by_fault g e' k) = alike r r' _ _ e e' (ap AigAtFault ((texts_say_one_thing text).one_fault f g h k))
  one_reason r r' (by_fault f e h) (by_weight w e' a reads k) = absurd (fault_or_read f a h reads)
  one_reason r r' (by_fault f e h) (by_loop l e' a reads k) = absurd (fault_or_read f a h reads)
  one_reason r r' (by_weight w e a reads h) (by_fault g e' k) = absurd (fault_or_read g a k reads)
  one_reason r r' (by_weight w e a reads h) (by_weight v e' b reads' k) = alike r r' _ _ e e' (ap WeightTooLarge (same_weight w v a b reads reads' h k))
  one_reason r r' (by_weight w e a reads h) (by_loop l e' b reads' k) = absurd (heavy_or_loop w l a b reads reads' h k)
  one_reason r r' (by_loop l e a reads h) (by_fault g e' k) = absurd (fault_or_read g a k reads)
  one_reason r r' (by_loop l e a reads h) (by_weight v e' b reads' k) = absurd (heavy_or_loop v l b a reads' reads k h)
  one_reason r r' (by_loop l e a reads h) (by_loop m e' b reads' k) = alike r r' _ _ e e' tt

  pub one_cause : (r r' : Cause) → HasNoAig text r → HasNoAig text r' → AreLikeCauses r r'
  one_cause r r' h k = one_reason r r' (reason_of text r h) (reason_of text r' k)
