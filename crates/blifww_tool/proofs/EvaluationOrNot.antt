-- A text and words give an evaluation, or are refused in one way.
use Rattle.std.proofs.Common.{ℕ, ◌≡◌, refl, sym, ap, ◌∙◌, subst, List, []}
use Rattle.std.specs.Prelude.{slice_get}
use Rattle.std.proofs.lemmas.Option.{none-some, same_Some}
use Rattle.netlist_core.specs.declared.model.Design.{Design}
use Rattle.netlist_core.specs.Names.{Name}
use Rattle.netlist_rules.specs.declared.fault.Fault.{Fault}
use Rattle.netlist_meaning.specs.Nets.{IsInNames}
use Rattle.netlist_meaning.proofs.Joined.{in_names_are_one}
use Rattle.netlist_text.specs.NetlistText.{IsNetlist, IsAtFault, IsTooHeavy, HasLoop}
use Rattle.netlist_text.proofs.Decided.{texts_are_decided}
use Rattle.streams.specs.declared.error.StreamFault.{StreamFault}
use Rattle.streams.specs.Streams.{HasStreamFault}
use Rattle.blifww_tool.specs.Commands.{AreLikeCauses}
use Rattle.blifww_tool.specs.Compilation.{HasNoNetlist}
use Rattle.blifww_tool.specs.Evaluation.{Evaluation, IsEvaluation, HasNoEvaluation}
use Rattle.program_runs.specs.declared.causes.Cause.{Cause}
use Rattle.program_runs.specs.declared.causes.Cause.TheVariants.{NetlistFault, WeightTooLarge, Loop, AigAtFault, AigLoop, Pattern, GridTooLarge, PortTable, Streams, StartWord, NoSuchNet, TooFar, TooManyContexts, NotQuiet, NotCircuit}

-- a netlist with its IN names, as a text has them
pub record IsRead (text : List ℕ) (design : Design) (names : List Name) : Type 0 where
  pub netlist : IsNetlist text design
  pub are_names : IsInNames design names

-- the ways to be refused
pub data Reason (cycles : ℕ) (words : List (List ℕ)) (text : List ℕ) (r : Cause) : Type 0 where
  by_fault : (fault : Fault) → r ≡ NetlistFault fault → IsAtFault text fault → Reason cycles words text r
  by_weight : (weight : ℕ) → r ≡ WeightTooLarge weight → IsTooHeavy text weight → Reason cycles words text r
  by_loop : (names : List Name) → r ≡ Loop names → HasLoop text names → Reason cycles words text r
  by_streams : (fault : StreamFault) → r ≡ Streams fault → (design : Design) (names : List Name) → IsRead text design names → HasStreamFault 1 words names cycles fault → Reason cycles words text r

reason_of : (cycles : ℕ) (words : List (List ℕ)) (text : List ℕ) (r : Cause) → HasNoEvaluation cycles words text r → Reason cycles words text r
reason_of cycles words text (NetlistFault fault) h = by_fault fault refl h
reason_of cycles words text (WeightTooLarge weight) h = by_weight weight refl h
reason_of cycles words text (Loop names) h = by_loop names refl h
reason_of cycles words text (AigAtFault fault) h = absurd h
reason_of cycles words text (AigLoop literals) h = absurd h
reason_of cycles words text (Pattern fault) h = absurd h
reason_of cycles words text (GridTooLarge width height) h = absurd h
reason_of cycles words text (PortTable fault) h = absurd h
reason_of cycles words text (Streams fault) h = by_streams fault refl h.0 h.1 (record { netlist = h.2; are_names = h.3 }) h.4
reason_of cycles words text (StartWord fault) h = absurd h
reason_of cycles words text (NoSuchNet name) h = absurd h
reason_of cycles words text (TooFar generations) h = absurd h
reason_of cycles words text (TooManyContexts contexts limit) h = absurd h
reason_of cycles words text (NotQuiet generation x y) h = absurd h
reason_of cycles words text (NotCircuit fault) h = absurd h

-- the IN names of a text are one list
pub same_names : (text : List ℕ) (a b : Design) (ns ms : List Name) → IsRead text a ns → IsRead text b ms → ns ≡ ms
same_names text a b ns ms h k =
    let same : a ≡ b = (texts_are_decided text).one_design a b h.netlist k.netlist in
    in_names_are_one b ns ms (subst (λ (d : Design). IsInNames d ns) same h.are_names) k.are_names

streams_or_not : (cycles : ℕ) (words : List (List ℕ)) (text : List ℕ) (fault : StreamFault) (design : Design) (names : List Name) (e : Evaluation)
    → IsRead text design names → HasStreamFault 1 words names cycles fault → IsEvaluation cycles words text e → ⊥
streams_or_not cycles words text fault design names e h bad k =
    let same : names ≡ e.in_names = same_names text design e.design names e.in_names h (record { netlist = k.netlist; are_names = k.names }) in
    let here : HasStreamFault 1 words e.in_names cycles fault = subst (λ (ns : List Name). HasStreamFault 1 words ns cycles fault) same bad in
    none-some _ (ap (λ faults. slice_get faults 0) (sym k.streams.no_fault) ∙ here)

-- an evaluation is not refused
not_refused : (cycles : ℕ) (words : List (List ℕ)) (text : List ℕ) (e : Evaluation) (r : Cause) → IsEvaluation cycles words text e → Reason cycles words text r → ⊥
not_refused cycles words text e r h (by_fault fault is k) = (texts_are_decided text).not_at_fault e.design fault h.netlist k
not_refused cycles words text e r h (by_weight weight is k) = (texts_are_decided text).not_heavy e.design weight h.netlist k
not_refused cycles words text e r h (by_loop names is k) = (texts_are_decided text).not_a_loop e.design names h.netlist k
not_refused cycles words text e r h (by_streams fault is design names read k) = streams_or_not cycles words text fault design names e read k h

pub evaluates_or_not : (cycles : ℕ) (words : List (List ℕ)) (text : List ℕ) (e : Evaluation) (r : Cause) → IsEvaluation cycles words text e → HasNoEvaluation cycles words text r → ⊥
evaluates_or_not cycles words text e r h k = not_refused cycles words text e r h (reason_of cycles words text r k)

pub alike : (r r' a b : Cause) → r ≡ a → r' ≡ b → AreLikeCauses a b → AreLikeCauses r r'
alike r r' a b e f h = subst (λ (x : Cause). AreLikeCauses x r') (sym e) (subst (AreLikeCauses a) (sym f) h)

one_reason : (cycles : ℕ) (words : List (List ℕ)) (text : List ℕ) (r r' : Cause) → Reason cycles words text r → Reason cycles words text r' → AreLikeCauses r r'
one_reason cycles words text r r' (by_fault f e h) (by_fault g e' k) = alike r r' _ _ e e' ((texts_are_decided text).one_fault f g h k)
one_reason cycles words text r r' (by_fault f e h) (by_weight w e' k) = absurd ((texts_are_decided text).fault_or_heavy f w h k)
one_reason cycles words text r r' (by_fault f e h) (by_loop ns e' k) = absurd ((texts_are_decided text).fault_or_loop f ns h k)
one_reason cycles words text r r' (by_fault f e h) (by_streams g e' d ns read k) = absurd ((texts_are_decided text).not_at_fault d f read.netlist h)
one_reason cycles words text r r' (by_weight w e h) (by_fault g e' k) = absurd ((texts_are_decided text).fault_or_heavy g w k h)
one_reason cycles words text r r' (by_weight w e h) (by_weight v e' k) = alike r r' _ _ e e' (ap WeightTooLarge ((texts_are_decided text).one_weight w v h k))
one_reason cycles words text r r' (by_weight w e h) (by_loop ns e' k) = absurd ((texts_are_decided text).heavy_or_loop w ns h k)
one_reason cycles words text r r' (by_weight w e h) (by_streams g e' d ns read k) = absurd ((texts_are_decided text).not_heavy d w read.netlist h)
one_reason cycles words text r r' (by_loop ns e h) (by_fault g e' k) = absurd ((texts_are_decided text).fault_or_loop g ns k h)
one_reason cycles words text r r' (by_loop ns e h) (by_weight v e' k) = absurd ((texts_are_decided text).heavy_or_loop v ns k h)
one_reason cycles words text r r' (by_loop ns e h) (by_loop ms e' k) = alike r r' _ _ e e' tt
one_reason cycles words text r r' (by_loop ns e h) (by_streams g e' d ms read k) = absurd ((texts_are_decided text).not_a_loop d ns read.netlist h)
one_reason cycles words text r r' (by_streams f e d ns read h) (by_fault g e' k) = absurd ((texts_are_decided text).not_at_fault d g read.netlist k)
one_reason cycles words text r r' (by_streams f e d ns read h) (by_weight v e' k) = absurd ((texts_are_decided text).not_heavy d v read.netlist k)
one_reason cycles words text r r' (by_streams f e d ns read h) (by_loop ms e' k) = absurd ((texts_are_decided text).not_a_loop d ms read.netlist k)
one_reason cycles words text r r' (by_streams f e d ns read h) (by_streams g e' d' ms read' k) =
    alike r r' _ _ e e' (ap Streams (same_Some f g (sym (subst (λ (x : List Name). HasStreamFault 1 words x cycles f) (same_names text d d' ns ms read read') h) ∙ k)))

pub one_cause : (cycles : ℕ) (words : List (List ℕ)) (text : List ℕ) (r r' : Cause) → HasNoEvaluation cycles words text r → HasNoEvaluation cycles words text r' → AreLikeCauses r r'
one_cause cycles words text r r' h k = one_reason cycles words text r r' (reason_of cycles words text r h) (reason_of cycles words text r' k)

-- a text is a netlist, or is refused in one way
pub netlist_or_not : (text : List ℕ) (design : Design) (r : Cause) → IsNetlist text design → HasNoNetlist text r → ⊥
netlist_or_not text design (NetlistFault fault) h k = (texts_are_decided text).not_at_fault design fault h k
netlist_or_not text design (WeightTooLarge weight) h k = (texts_are_decided text).not_heavy design weight h k
netlist_or_not text design (Loop names) h k = (texts_are_decided text).not_a_loop design names h k
netlist_or_not text design (AigAtFault fault) h k = k
netlist_or_not text design (AigLoop literals) h k = k
netlist_or_not text design (Pattern fault) h k = k
netlist_or_not text design (GridTooLarge width height) h k = k
netlist_or_not text design (PortTable fault) h k = k
netlist_or_not text design (Streams fault) h k = k
netlist_or_not text design (StartWord fault) h k = k
netlist_or_not text design (NoSuchNet name) h k = k
netlist_or_not text design (TooFar generations) h k = k
netlist_or_not text design (TooManyContexts contexts limit) h k = k
netlist_or_not text design (NotQuiet generation x y) h k = k
netlist_or_not text design (NotCircuit fault) h k = k

no_evaluation : (text : List ℕ) (r : Cause) → HasNoNetlist text r → HasNoEvaluation 1 [] text r
no_evaluation text (NetlistFault fault) h = h
no_evaluation text (WeightTooLarge weight) h = h
no_evaluation text (Loop names) h = h
no_evaluation text (AigAtFault fault) h = absurd h
no_evaluation text (AigLoop literals) h = absurd h
no_evaluation text (Pattern fault) h = absurd h
no_evaluation text (GridTooLarge width height) h = absurd h
no_evaluation text (PortTable fault) h = absurd h
no_evaluation text (Streams fault) h = absurd h
no_evaluation text (StartWord fault) h = absurd h
no_evaluation text (NoSuchNet name) h = absurd h
no_evaluation text (TooFar generations) h = absurd h
no_evaluation text (TooManyContexts contexts limit) h = absurd h
no_evaluation text (NotQuiet generation x y) h = absurd h
no_evaluation text (NotCircuit fault) h = absurd h

pub one_cause_of_netlist : (text : List ℕ) (r r' : Cause) → HasNoNetlist text r → HasNoNetlist text r' → AreLikeCauses r r'
one_cause_of_netlist text r r' h k = one_cause 1 [] text r r' (no_evaluation text r h) (no_evaluation text r' k)
