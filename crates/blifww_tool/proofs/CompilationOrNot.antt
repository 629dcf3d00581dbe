-- A text and words are compiled, or are refused in one way, but for the room that a plan has.
use Rattle.std.proofs.Common.{ℕ, ◌≡◌, ◌≤◌, refl, sym, ap, ◌∙◌, subst, List, arith}
use Rattle.std.specs.Prelude.{Some, None}
use Rattle.std.proofs.lemmas.Option.{none-some, same_Some}
use Rattle.netlist_core.specs.declared.model.Design.{Design}
use Rattle.netlist_text.specs.NetlistText.{IsNetlist}
use Rattle.netlist_text.proofs.Decided.{texts_are_decided}
use Rattle.start_words.specs.declared.error.StartFault.{StartFault}
use Rattle.start_words.specs.Words.{first_fault}
use Rattle.start_words.specs.Starts.{latches_of}
use Rattle.command_words.specs.Shapes.{compile}
use Rattle.blifww_tool.specs.Commands.{AreLikeCauses, MustRefuse}
use Rattle.blifww_tool.specs.Compilation.{HasNoCompilation, HasNoNetlist, HasNoRoom, HasStartFault, HasStarts, least_room}
use Rattle.program_runs.specs.declared.causes.Cause.{Cause}
use Rattle.program_runs.specs.declared.causes.Cause.TheVariants.{NetlistFault, WeightTooLarge, Loop, AigAtFault, AigLoop, Pattern, GridTooLarge, PortTable, Streams, StartWord, NoSuchNet, TooFar, TooManyContexts, NotQuiet, NotCircuit}
use Rattle.blifww_tool.proofs.EvaluationOrNot.{alike, netlist_or_not, one_cause_of_netlist}

-- the ways to be refused by the text and the words,
data Reason (contexts : ℕ) (starts : List (List ℕ)) (text : List ℕ) (r : Cause) : Type 0 where
  early : HasNoNetlist text r → Reason contexts starts text r
  by_start : (fault : StartFault) → r ≡ StartWord fault → HasStartFault contexts starts text fault → Reason contexts starts text r

-- or for want of room
data Why (contexts : ℕ) (starts : List (List ℕ)) (text : List ℕ) (r : Cause) : Type 0 where
  by_text : Reason contexts starts text r → Why contexts starts text r
  by_room : (limit : ℕ) → HasNoRoom contexts starts text limit → Why contexts starts text r

why : (contexts : ℕ) (starts : List (List ℕ)) (text : List ℕ) (r : Cause) → HasNoCompilation contexts starts text r → Why contexts starts text r
why contexts starts text (NetlistFault fault) h = by_text (early h)
why contexts starts text (WeightTooLarge weight) h = by_text (early h)
why contexts starts text (Loop names) h = by_text (early h)
why contexts starts text (AigAtFault fault) h = absurd h
why contexts starts text (AigLoop literals) h = absurd h
why contexts starts text (Pattern fault) h = absurd h
why contexts starts text (GridTooLarge width height) h = absurd h
why contexts starts text (PortTable fault) h = absurd h
why contexts starts text (Streams fault) h = absurd h
why contexts starts text (StartWord fault) h = by_text (by_start fault refl h)
why contexts starts text (NoSuchNet name) h = absurd h
why contexts starts text (TooFar generations) h = absurd h
why contexts starts text (TooManyContexts told limit) h = by_room limit h.1
why contexts starts text (NotQuiet generation x y) h = absurd h
why contexts starts text (NotCircuit fault) h = absurd h

reason_of : (contexts : ℕ) (starts : List (List ℕ)) (text : List ℕ) (r : Cause) → MustRefuse (compile contexts starts) text r → Reason contexts starts text r
reason_of contexts starts text (NetlistFault fault) h = early h
reason_of contexts starts text (WeightTooLarge weight) h = early h
reason_of contexts starts text (Loop names) h = early h
reason_of contexts starts text (AigAtFault fault) h = absurd h
reason_of contexts starts text (AigLoop literals) h = absurd h
reason_of contexts starts text (Pattern fault) h = absurd h
reason_of contexts starts text (GridTooLarge width height) h = absurd h
reason_of contexts starts text (PortTable fault) h = absurd h
reason_of contexts starts text (Streams fault) h = absurd h
reason_of contexts starts text (StartWord fault) h = by_start fault refl h
reason_of contexts starts text (NoSuchNet name) h = absurd h
reason_of contexts starts text (TooFar generations) h = absurd h
reason_of contexts starts text (TooManyContexts told limit) h = absurd h
reason_of contexts starts text (NotQuiet generation x y) h = absurd h
reason_of contexts starts text (NotCircuit fault) h = absurd h

module _ (contexts : ℕ) (starts : List (List ℕ)) (text : List ℕ) where
  same_design : (a b : Design) → IsNetlist text a → IsNetlist text b → a ≡ b
  same_design a b h k = (texts_are_decided text).one_design a b h k

  starts_or_not : (design : Design) (fault : StartFault) → HasStarts contexts starts text design → HasStartFault contexts starts text fault → ⊥
  starts_or_not design fault h k =
      let same : design ≡ k.design = same_design design k.design h.netlist k.netlist in
      let none : first_fault (latches_of k.design) contexts starts ≡ None = subst (λ (d : Design). first_fault (latches_of d) contexts starts ≡ None) same h.no_fault in
      none-some _ (sym none ∙ k.at_fault)

  -- a text in which the words say starts is not refused for either
  not_refused : (design : Design) (r : Cause) → HasStarts contexts starts text design → Reason contexts starts text r → ⊥
  not_refused design r h (early k) = netlist_or_not text design r h.netlist k
  not_refused design r h (by_start fault e k) = starts_or_not design fault h k

  -- and what is compiled need not be refused
  pub compiles_or_not : (design : Design) (r : Cause) → HasStarts contexts starts text design → MustRefuse (compile contexts starts) text r → ⊥
  compiles_or_not design r h k = not_refused design r h (reason_of contexts starts text r k)

  -- nor for want of room, where every plan has room
  room_or_not : (design : Design) (limit : ℕ) → HasStarts contexts starts text design → contexts ≤ least_room design → HasNoRoom contexts starts text limit → ⊥
  room_or_not design limit h fits k =
      let room : contexts ≤ least_room k.design = subst (λ (d : Design). contexts ≤ least_room d) (same_design design k.design h.netlist k.has.netlist) fits in
      omega (arith, room, k.least, k.over)

  pub accepts_or_not : (design : Design) (r : Cause) → HasStarts contexts starts text design → contexts ≤ least_room design → HasNoCompilation contexts starts text r → ⊥
  accepts_or_not design r h fits k = by (why contexts starts text r k)
    where
      by : Why contexts starts text r → ⊥
      by (by_text reason) = not_refused design r h reason
      by (by_room limit room) = room_or_not design limit h fits room

  one_fault : (f g : StartFault) → HasStartFault contexts starts text f → HasStartFault contexts starts text g → f ≡ g
  one_fault f g h k =
      let same : h.design ≡ k.design = same_design h.design k.design h.netlist k.netlist in
      let here : first_fault (latches_of k.design) contexts starts ≡ Some f = subst (λ (d : Design). first_fault (latches_of d) contexts starts ≡ Some f) same h.at_fault in
      same_Some f g (sym here ∙ k.at_fault)

  one_reason : (r r' : Cause) → Reason contexts starts text r → Reason contexts starts text r' → AreLikeCauses r r'
  one_reason r r' (early h) (early k) = one_cause_of_netlist text r r' h k
  one_reason r r' (early h) (by_start f e k) = absurd (netlist_or_not text k.design r k.netlist h)
  one_reason r r' (by_start f e h) (early k) = absurd (netlist_or_not text h.design r' h.netlist k)
  one_reason r r' (by_start f e h) (by_start g e' k) = alike r r' _ _ e e' (ap StartWord (one_fault f g h k))

  pub one_cause : (r r' : Cause) → HasNoCompilation contexts starts text r → MustRefuse (compile contexts starts) text r' → AreLikeCauses r r'
  one_cause r r' h k = by (why contexts starts text r h)
    where
      must : Reason contexts starts text r'
      must = reason_of contexts starts text r' k

      by : Why contexts starts text r → AreLikeCauses r r'
      by (by_text reason) = one_reason r r' reason must
      by (by_room limit room) = absurd (not_refused room.design r' room.has must)
