-- Each status of a run comes only where its cause is.
use Rattle.std.proofs.Common.{ℕ, ◌≡◌, ◌≢◌, ◌≤◌, ◌<◌, ◌*◌, ◌⊎◌, refl, sym, ap, ◌∙◌, subst, List, Some, inl, inr, arith}
use Rattle.std.proofs.Math.Nat.{le-max_left}
use Rattle.std.proofs.lemmas.Bool.{cases_eq}
use Rattle.command_words.specs.Shapes.{CommandValues, compile, simulate, eval, probe, window, make, self_, tape, aiger, vcd, lift}
use Rattle.netlist_core.specs.Names.{Name}
use Rattle.netlist_rules.specs.declared.fault.Fault.{Fault}
use Rattle.netlist_text.specs.NetlistText.{IsAtFault, IsTooHeavy, HasLoop}
use Rattle.aiger_text.specs.declared.fault.AigFault.{AigFault}
use Rattle.aiger_text.specs.AigText.{HasAigFault}
use Rattle.blifww_tool.specs.Aigs.{HasNoAig}
use Rattle.blifww_tool.specs.Commands.{Refuses}
use Rattle.blifww_tool.specs.Compilation.{HasNoRoom, latch_count, least_room}
use Rattle.program_runs.specs.Refusals.{status_of, status_of_cause}
use Rattle.blifww_tool.specs.Run.{Asks, AsksForText, AsksNothing, IsAsked, HasText, HasReason, RefusesText, IsRefused, CutsLine, CutsOutput, Ends}
use Rattle.program_runs.specs.Runs.{Call, Reading, GaveAll, GaveTooMuch, ReadFailed, WriteFailed}
use Rattle.blifww_tool.specs.Statuses.{StatusesHaveCauses, IsOverALimit, IsTooLarge, HasNoPattern, WordsDoNotFit, IsFirstMiss, IsNotCircuit}
use Rattle.blifww_tool.proofs.Given.{one_command}
use Rattle.program_runs.specs.declared.causes.Cause.{Cause}
use Rattle.program_runs.specs.declared.causes.Cause.TheVariants.{NetlistFault, WeightTooLarge, Loop, AigAtFault, AigLoop, Pattern, GridTooLarge, PortTable, Streams, StartWord, NoSuchNet, TooFar, TooManyContexts, NotQuiet, NotCircuit}
use Rattle.program_runs.specs.declared.refusal.Refusal.{Refusal}
use Rattle.program_runs.specs.declared.refusal.Refusal.TheVariants.{Usage, TooLong, ReadFault, WriteFault, NoMemory, Text}

not_cause : (cause : Cause) → (status_of_cause cause ≢ 2) × (status_of_cause cause ≢ 5)
not_cause (NetlistFault f) = (λ e. cc, λ e. cc)
not_cause (WeightTooLarge w) = (λ e. cc, λ e. cc)
not_cause (Loop names) = (λ e. cc, λ e. cc)
not_cause (AigAtFault f) = (λ e. cc, λ e. cc)
not_cause (AigLoop literals) = (λ e. cc, λ e. cc)
not_cause (Pattern f) = (λ e. cc, λ e. cc)
not_cause (GridTooLarge x y) = (λ e. cc, λ e. cc)
not_cause (PortTable f) = (λ e. cc, λ e. cc)
not_cause (Streams f) = (λ e. cc, λ e. cc)
not_cause (StartWord f) = (λ e. cc, λ e. cc)
not_cause (NoSuchNet name) = (λ e. cc, λ e. cc)
not_cause (TooFar n) = (λ e. cc, λ e. cc)
not_cause (TooManyContexts n limit) = (λ e. cc, λ e. cc)
not_cause (NotQuiet g x y) = (λ e. cc, λ e. cc)
not_cause (NotCircuit fault) = (λ e. cc, λ e. cc)

-- by its status a cause is a fault of a netlist's text,
at_fault_by : (command : CommandValues) (src : Reading) (text : List ℕ) (cause : Cause) → (command ≡ aiger → ⊥) → status_of_cause cause ≡ 1 → HasText command src text → Refuses command text cause
    → (read : List ℕ) × (fault : Fault) × GaveAll src read × IsAtFault read fault
at_fault_by (compile contexts starts) src text (NetlistFault f) other e given h = (text, f, given, h)
at_fault_by (simulate cycles words) src text (NetlistFault f) other e given h = absurd h
at_fault_by (eval cycles words) src text (NetlistFault f) other e given h = (text, f, given, h)
at_fault_by (probe cycles net path words) src text (NetlistFault f) other e given h = absurd h
at_fault_by (window view words) src text (NetlistFault f) other e given h = absurd h
at_fault_by (make seed size) src text (NetlistFault f) other e given h = absurd h
at_fault_by (self_ seed size cycles) src text (NetlistFault f) other e given h = absurd h
at_fault_by (tape cycles words) src text (NetlistFault f) other e given h = (text, f, given, h)
at_fault_by aiger src text (NetlistFault f) other e given h = absurd h
at_fault_by (vcd cycles words) src text (NetlistFault f) other e given h = absurd h
at_fault_by lift src text (NetlistFault f) other e given h = absurd h
at_fault_by command src text (WeightTooLarge w) other e given h = absurd (omega (arith, e))
at_fault_by command src text (Loop names) other e given h = absurd (omega (arith, e))
at_fault_by (compile contexts starts) src text (AigAtFault f) other e given h = absurd h
at_fault_by (simulate cycles words) src text (AigAtFault f) other e given h = absurd h
at_fault_by (eval cycles words) src text (AigAtFault f) other e given h = absurd h
at_fault_by (probe cycles net path words) src text (AigAtFault f) other e given h = absurd h
at_fault_by (window view words) src text (AigAtFault f) other e given h = absurd h
at_fault_by (make seed size) src text (AigAtFault f) other e given h = absurd h
at_fault_by (self_ seed size cycles) src text (AigAtFault f) other e given h = absurd h
at_fault_by (tape cycles words) src text (AigAtFault f) other e given h = absurd h
at_fault_by aiger src text (AigAtFault f) other e given h = absurd (other refl)
at_fault_by (vcd cycles words) src text (AigAtFault f) other e given h = absurd h
at_fault_by lift src text (AigAtFault f) other e given h = absurd h
at_fault_by command src text (AigLoop literals) other e given h = absurd (omega (arith, e))
at_fault_by command src text (Pattern f) other e given h = absurd (omega (arith, e))
at_fault_by command src text (GridTooLarge x y) other e given h = absurd (omega (arith, e))
at_fault_by command src text (PortTable f) other e given h = absurd (omega (arith, e))
at_fault_by command src text (Streams f) other e given h = absurd (omega (arith, e))
at_fault_by command src text (StartWord f) other e given h = absurd (omega (arith, e))
at_fault_by command src text (NoSuchNet name) other e given h = absurd (omega (arith, e))
at_fault_by command src text (TooFar n) other e given h = absurd (omega (arith, e))
at_fault_by command src text (TooManyContexts n limit) other e given h = absurd (omega (arith, e))
at_fault_by command src text (NotQuiet g x y) other e given h = absurd (omega (arith, e))
at_fault_by command src text (NotCircuit fault) other e given h = absurd (omega (arith, e))

-- a loop of one,
a_loop_by : (command : CommandValues) (src : Reading) (text : List ℕ) (cause : Cause) → (command ≡ aiger → ⊥) → status_of_cause cause ≡ 3 → HasText command src text → Refuses command text cause
    → (read : List ℕ) × (names : List Name) × GaveAll src read × HasLoop read names
a_loop_by command src text (NetlistFault f) other e given h = absurd (omega (arith, e))
a_loop_by command src text (WeightTooLarge w) other e given h = absurd (omega (arith, e))
a_loop_by (compile contexts starts) src text (Loop names) other e given h = (text, names, given, h)
a_loop_by (simulate cycles words) src text (Loop names) other e given h = absurd h
a_loop_by (eval cycles words) src text (Loop names) other e given h = (text, names, given, h)
a_loop_by (probe cycles net path words) src text (Loop names) other e given h = absurd h
a_loop_by (window view words) src text (Loop names) other e given h = absurd h
a_loop_by (make seed size) src text (Loop names) other e given h = absurd h
a_loop_by (self_ seed size cycles) src text (Loop names) other e given h = absurd h
a_loop_by (tape cycles words) src text (Loop names) other e given h = (text, names, given, h)
a_loop_by aiger src text (Loop names) other e given h = absurd h
a_loop_by (vcd cycles words) src text (Loop names) other e given h = absurd h
a_loop_by lift src text (Loop names) other e given h = absurd h
a_loop_by command src text (AigAtFault f) other e given h = absurd (omega (arith, e))
a_loop_by (compile contexts starts) src text (AigLoop literals) other e given h = absurd h
a_loop_by (simulate cycles words) src text (AigLoop literals) other e given h = absurd h
a_loop_by (eval cycles words) src text (AigLoop literals) other e given h = absurd h
a_loop_by (probe cycles net path words) src text (AigLoop literals) other e given h = absurd h
a_loop_by (window view words) src text (AigLoop literals) other e given h = absurd h
a_loop_by (make seed size) src text (AigLoop literals) other e given h = absurd h
a_loop_by (self_ seed size cycles) src text (AigLoop literals) other e given h = absurd h
a_loop_by (tape cycles words) src text (AigLoop literals) other e given h = absurd h
a_loop_by aiger src text (AigLoop literals) other e given h = absurd (other refl)
a_loop_by (vcd cycles words) src text (AigLoop literals) other e given h = absurd h
a_loop_by lift src text (AigLoop literals) other e given h = absurd h
a_loop_by command src text (Pattern f) other e given h = absurd (omega (arith, e))
a_loop_by command src text (GridTooLarge x y) other e given h = absurd (omega (arith, e))
a_loop_by command src text (PortTable f) other e given h = absurd (omega (arith, e))
a_loop_by command src text (Streams f) other e given h = absurd (omega (arith, e))
a_loop_by command src text (StartWord f) other e given h = absurd (omega (arith, e))
a_loop_by command src text (NoSuchNet name) other e given h = absurd (omega (arith, e))
a_loop_by command src text (TooFar n) other e given h = absurd (omega (arith, e))
a_loop_by command src text (TooManyContexts n limit) other e given h = absurd (omega (arith, e))
a_loop_by command src text (NotQuiet g x y) other e given h = absurd (omega (arith, e))
a_loop_by command src text (NotCircuit fault) other e given h = absurd (omega (arith, e))

-- and of `aiger` a fault or a loop of a circuit
aig_at_fault_by : (text : List ℕ) (cause : Cause) → status_of_cause cause ≡ 1 → HasNoAig text cause → (fault : AigFault) × HasAigFault text fault
aig_at_fault_by text (NetlistFault f) e h = absurd h
aig_at_fault_by text (WeightTooLarge w) e h = absurd (omega (arith, e))
aig_at_fault_by text (Loop names) e h = absurd (omega (arith, e))
aig_at_fault_by text (AigAtFault f) e h = (f, h)
aig_at_fault_by text (AigLoop literals) e h = absurd (omega (arith, e))
aig_at_fault_by text (Pattern f) e h = absurd (omega (arith, e))
aig_at_fault_by text (GridTooLarge x y) e h = absurd (omega (arith, e))
aig_at_fault_by text (PortTable f) e h = absurd (omega (arith, e))
aig_at_fault_by text (Streams f) e h = absurd (omega (arith, e))
aig_at_fault_by text (StartWord f) e h = absurd (omega (arith, e))
aig_at_fault_by text (NoSuchNet name) e h = absurd (omega (arith, e))
aig_at_fault_by text (TooFar n) e h = absurd (omega (arith, e))
aig_at_fault_by text (TooManyContexts n limit) e h = absurd (omega (arith, e))
aig_at_fault_by text (NotQuiet g x y) e h = absurd (omega (arith, e))
aig_at_fault_by text (NotCircuit fault) e h = absurd (omega (arith, e))

aig_loop_by : (text : List ℕ) (cause : Cause) → status_of_cause cause ≡ 3 → HasNoAig text cause → (literals : List ℕ) × HasNoAig text (AigLoop literals)
aig_loop_by text (NetlistFault f) e h = absurd (omega (arith, e))
aig_loop_by text (WeightTooLarge w) e h = absurd (omega (arith, e))
aig_loop_by text (Loop names) e h = absurd h
aig_loop_by text (AigAtFault f) e h = absurd (omega (arith, e))
aig_loop_by text (AigLoop literals) e h = (literals, h)
aig_loop_by text (Pattern f) e h = absurd (omega (arith, e))
aig_loop_by text (GridTooLarge x y) e h = absurd (omega (arith, e))
aig_loop_by text (PortTable f) e h = absurd (omega (arith, e))
aig_loop_by text (Streams f) e h = absurd (omega (arith, e))
aig_loop_by text (StartWord f) e h = absurd (omega (arith, e))
aig_loop_by text (NoSuchNet name) e h = absurd (omega (arith, e))
aig_loop_by text (TooFar n) e h = absurd (omega (arith, e))
aig_loop_by text (TooManyContexts n limit) e h = absurd (omega (arith, e))
aig_loop_by text (NotQuiet g x y) e h = absurd (omega (arith, e))
aig_loop_by text (NotCircuit fault) e h = absurd (omega (arith, e))

-- too great a weight, or too many contexts
abbrev IsRefusedAsLarge : (contexts : ℕ) → (starts : List (List ℕ)) → List ℕ → Type 0
IsRefusedAsLarge contexts starts text = ((weight : ℕ) × IsTooHeavy text weight) ⊎ ((limit : ℕ) × HasNoRoom contexts starts text limit)

too_large_by : (contexts : ℕ) (starts : List (List ℕ)) (text : List ℕ) (cause : Cause) → status_of_cause cause ≡ 4 → Refuses (compile contexts starts) text cause → IsRefusedAsLarge contexts starts text
too_large_by contexts starts text (NetlistFault f) e h = absurd (omega (arith, e))
too_large_by contexts starts text (WeightTooLarge w) e h = inl (w, h)
too_large_by contexts starts text (Loop names) e h = absurd (omega (arith, e))
too_large_by contexts starts text (AigAtFault f) e h = absurd (omega (arith, e))
too_large_by contexts starts text (AigLoop literals) e h = absurd (omega (arith, e))
too_large_by contexts starts text (Pattern f) e h = absurd h
too_large_by contexts starts text (GridTooLarge x y) e h = absurd h
too_large_by contexts starts text (PortTable f) e h = absurd h
too_large_by contexts starts text (Streams f) e h = absurd h
too_large_by contexts starts text (StartWord f) e h = absurd (omega (arith, e))
too_large_by contexts starts text (NoSuchNet name) e h = absurd h
too_large_by contexts starts text (TooFar n) e h = absurd h
too_large_by contexts starts text (TooManyContexts n limit) e h = inr (limit, h.1)
too_large_by contexts starts text (NotQuiet g x y) e h = absurd h
too_large_by contexts starts text (NotCircuit fault) e h = absurd h

module _ (words : List (List ℕ)) (src : Reading) where
  -- what is asked is no circuit's, where the words ask for none
  no_aig : (command : CommandValues) → Asks words command → ¬ Asks words aiger → command ≡ aiger → ⊥
  no_aig command asks none same = none (asks ∙ ap Some same)

  at_fault : (r : Refusal) → HasReason words src r → status_of r ≡ 1 → ¬ Asks words aiger → (text : List ℕ) × (fault : Fault) × GaveAll src text × IsAtFault text fault
  at_fault Usage h e none = absurd (omega (arith, e))
  at_fault TooLong h e none = absurd (omega (arith, e))
  at_fault ReadFault h e none = absurd (omega (arith, e))
  at_fault WriteFault h e none = absurd h
  at_fault NoMemory h e none = absurd (omega (arith, e))
  at_fault (Text cause) h e none = at_fault_by h.command src h.text cause (no_aig h.command h.asked.asks none) e h.given h.refused

  a_loop : (r : Refusal) → HasReason words src r → status_of r ≡ 3 → ¬ Asks words aiger → (text : List ℕ) × (names : List Name) × GaveAll src text × HasLoop text names
  a_loop Usage h e none = absurd (omega (arith, e))
  a_loop TooLong h e none = absurd (omega (arith, e))
  a_loop ReadFault h e none = absurd (omega (arith, e))
  a_loop WriteFault h e none = absurd h
  a_loop NoMemory h e none = absurd (omega (arith, e))
  a_loop (Text cause) h e none = a_loop_by h.command src h.text cause (no_aig h.command h.asked.asks none) e h.given h.refused

  -- what a circuit's text is refused for
  aig_refused : (cause : Cause) → RefusesText words src cause → Asks words aiger → (text : List ℕ) × GaveAll src text × HasNoAig text cause
  aig_refused cause h asks =
      let same : h.command ≡ aiger = one_command words h.command aiger h.asked.asks asks in
      (h.text, subst (λ (v : CommandValues). HasText v src h.text) same h.given, subst (λ (v : CommandValues). Refuses v h.text cause) same h.refused)

  aig_at_fault : (r : Refusal) → HasReason words src r → status_of r ≡ 1 → Asks words aiger → (text : List ℕ) × (fault : AigFault) × GaveAll src text × HasAigFault text fault
  aig_at_fault Usage h e asks = absurd (omega (arith, e))
  aig_at_fault TooLong h e asks = absurd (omega (arith, e))
  aig_at_fault ReadFault h e asks = absurd (omega (arith, e))
  aig_at_fault WriteFault h e asks = absurd h
  aig_at_fault NoMemory h e asks = absurd (omega (arith, e))
  aig_at_fault (Text cause) h e asks =
      let read = aig_refused cause h asks in
      let fault = aig_at_fault_by read.0 cause e read.2 in
      (read.0, fault.0, read.1, fault.1)

  aig_loop : (r : Refusal) → HasReason words src r → status_of r ≡ 3 → Asks words aiger → (text : List ℕ) × (literals : List ℕ) × GaveAll src text × HasNoAig text (AigLoop literals)
  aig_loop Usage h e asks = absurd (omega (arith, e))
  aig_loop TooLong h e asks = absurd (omega (arith, e))
  aig_loop ReadFault h e asks = absurd (omega (arith, e))
  aig_loop WriteFault h e asks = absurd h
  aig_loop NoMemory h e asks = absurd (omega (arith, e))
  aig_loop (Text cause) h e asks =
      let read = aig_refused cause h asks in
      let looped = aig_loop_by read.0 cause e read.2 in
      (read.0, looped.0, read.1, looped.1)

usage : (words : List (List ℕ)) (src : Reading) (r : Refusal) → HasReason words src r → status_of r ≡ 2 → AsksNothing words
usage words src Usage h e = h.0
usage words src TooLong h e = absurd (omega (arith, e))
usage words src ReadFault h e = absurd (omega (arith, e))
usage words src WriteFault h e = absurd h
usage words src NoMemory h e = absurd (omega (arith, e))
usage words src (Text cause) h e = absurd ((not_cause cause).0 e)

asked : (words : List (List ℕ)) (src : Reading) (r : Refusal) → HasReason words src r → status_of r ≢ 2 → status_of r ≢ 7 → (command : CommandValues) × IsAsked words command
asked words src Usage h two seven = absurd (two refl)
asked words src TooLong h two seven = (h.0.command, h.0.asked)
asked words src ReadFault h two seven = (h.0.command, h.0.asked)
asked words src WriteFault h two seven = absurd h
asked words src NoMemory h two seven = absurd (seven refl)
asked words src (Text cause) h two seven = (h.command, h.asked)

no_room : (words : List (List ℕ)) (src : Reading) (r : Refusal) (contexts : ℕ) (starts : List (List ℕ)) → HasReason words src r → status_of r ≡ 4 → Asks words (compile contexts starts)
    → (AsksForText words × GaveTooMuch src) ⊎ ((text : List ℕ) × GaveAll src text × IsRefusedAsLarge contexts starts text)
no_room words src Usage contexts starts h e asks = absurd (omega (arith, e))
no_room words src TooLong contexts starts h e asks = inl h
no_room words src ReadFault contexts starts h e asks = absurd (omega (arith, e))
no_room words src WriteFault contexts starts h e asks = absurd h
no_room words src NoMemory contexts starts h e asks = absurd (omega (arith, e))
no_room words src (Text cause) contexts starts h e asks =
    let same : h.command ≡ compile contexts starts = one_command words h.command (compile contexts starts) h.asked.asks asks in
    let given : GaveAll src h.text = subst (λ (v : CommandValues). HasText v src h.text) same h.given in
    inr (h.text, given, too_large_by contexts starts h.text cause e (subst (λ (v : CommandValues). Refuses v h.text cause) same h.refused))

-- where there is no room there are several contexts
several : (contexts : ℕ) (starts : List (List ℕ)) (text : List ℕ) (limit : ℕ) → HasNoRoom contexts starts text limit → 1 < contexts
several contexts starts text limit h =
    let one : 1 ≤ least_room h.design = le-max_left 1 (6 * latch_count h.design) in
    omega (arith, one, h.least, h.over)

over_a_limit_by : (c : Call) (cause : Cause) → status_of_cause cause ≡ 4 → RefusesText c.words c.src cause → IsOverALimit c
over_a_limit_by c (NetlistFault f) e h = absurd (omega (arith, e))
over_a_limit_by c (WeightTooLarge w) e h = inr (inl (w, h))
over_a_limit_by c (Loop names) e h = absurd (omega (arith, e))
over_a_limit_by c (AigAtFault f) e h = absurd (omega (arith, e))
over_a_limit_by c (AigLoop literals) e h = absurd (omega (arith, e))
over_a_limit_by c (Pattern f) e h = absurd (omega (arith, e))
over_a_limit_by c (GridTooLarge x y) e h = inr (inr (inl (x, y, h)))
over_a_limit_by c (PortTable f) e h = absurd (omega (arith, e))
over_a_limit_by c (Streams f) e h = absurd (omega (arith, e))
over_a_limit_by c (StartWord f) e h = absurd (omega (arith, e))
over_a_limit_by c (NoSuchNet name) e h = absurd (omega (arith, e))
over_a_limit_by c (TooFar n) e h = inr (inr (inr (inl (n, h))))
over_a_limit_by c (TooManyContexts n limit) e h = inr (inr (inr (inr (n, limit, h))))
over_a_limit_by c (NotQuiet g x y) e h = absurd (omega (arith, e))
over_a_limit_by c (NotCircuit fault) e h = absurd (omega (arith, e))

over_a_limit : (c : Call) (r : Refusal) → HasReason c.words c.src r → status_of r ≡ 4 → IsOverALimit c
over_a_limit c Usage h e = absurd (omega (arith, e))
over_a_limit c TooLong h e = inl h
over_a_limit c ReadFault h e = absurd (omega (arith, e))
over_a_limit c WriteFault h e = absurd h
over_a_limit c NoMemory h e = absurd (omega (arith, e))
over_a_limit c (Text cause) h e = over_a_limit_by c cause e h

no_pattern_by : (c : Call) (cause : Cause) → status_of_cause cause ≡ 8 → RefusesText c.words c.src cause → HasNoPattern c
no_pattern_by c (NetlistFault f) e h = absurd (omega (arith, e))
no_pattern_by c (WeightTooLarge w) e h = absurd (omega (arith, e))
no_pattern_by c (Loop names) e h = absurd (omega (arith, e))
no_pattern_by c (AigAtFault f) e h = absurd (omega (arith, e))
no_pattern_by c (AigLoop literals) e h = absurd (omega (arith, e))
no_pattern_by c (Pattern f) e h = inl (f, h)
no_pattern_by c (GridTooLarge x y) e h = absurd (omega (arith, e))
no_pattern_by c (PortTable f) e h = inr (f, h)
no_pattern_by c (Streams f) e h = absurd (omega (arith, e))
no_pattern_by c (StartWord f) e h = absurd (omega (arith, e))
no_pattern_by c (NoSuchNet name) e h = absurd (omega (arith, e))
no_pattern_by c (TooFar n) e h = absurd (omega (arith, e))
no_pattern_by c (TooManyContexts n limit) e h = absurd (omega (arith, e))
no_pattern_by c (NotQuiet g x y) e h = absurd (omega (arith, e))
no_pattern_by c (NotCircuit fault) e h = absurd (omega (arith, e))

no_pattern : (c : Call) (r : Refusal) → HasReason c.words c.src r → status_of r ≡ 8 → HasNoPattern c
no_pattern c Usage h e = absurd (omega (arith, e))
no_pattern c TooLong h e = absurd (omega (arith, e))
no_pattern c ReadFault h e = absurd (omega (arith, e))
no_pattern c WriteFault h e = absurd h
no_pattern c NoMemory h e = absurd (omega (arith, e))
no_pattern c (Text cause) h e = no_pattern_by c cause e h

misfit_by : (c : Call) (cause : Cause) → status_of_cause cause ≡ 9 → RefusesText c.words c.src cause → WordsDoNotFit c
misfit_by c (NetlistFault f) e h = absurd (omega (arith, e))
misfit_by c (WeightTooLarge w) e h = absurd (omega (arith, e))
misfit_by c (Loop names) e h = absurd (omega (arith, e))
misfit_by c (AigAtFault f) e h = absurd (omega (arith, e))
misfit_by c (AigLoop literals) e h = absurd (omega (arith, e))
misfit_by c (Pattern f) e h = absurd (omega (arith, e))
misfit_by c (GridTooLarge x y) e h = absurd (omega (arith, e))
misfit_by c (PortTable f) e h = absurd (omega (arith, e))
misfit_by c (Streams f) e h = inl (f, h)
misfit_by c (StartWord f) e h = inr (inl (f, h))
misfit_by c (NoSuchNet name) e h = inr (inr (name, h))
misfit_by c (TooFar n) e h = absurd (omega (arith, e))
misfit_by c (TooManyContexts n limit) e h = absurd (omega (arith, e))
misfit_by c (NotQuiet g x y) e h = absurd (omega (arith, e))
misfit_by c (NotCircuit fault) e h = absurd (omega (arith, e))

misfit : (c : Call) (r : Refusal) → HasReason c.words c.src r → status_of r ≡ 9 → WordsDoNotFit c
misfit c Usage h e = absurd (omega (arith, e))
misfit c TooLong h e = absurd (omega (arith, e))
misfit c ReadFault h e = absurd (omega (arith, e))
misfit c WriteFault h e = absurd h
misfit c NoMemory h e = absurd (omega (arith, e))
misfit c (Text cause) h e = misfit_by c cause e h

not_quiet_by : (c : Call) (cause : Cause) → status_of_cause cause ≡ 10 → RefusesText c.words c.src cause → IsFirstMiss c
not_quiet_by c (NetlistFault f) e h = absurd (omega (arith, e))
not_quiet_by c (WeightTooLarge w) e h = absurd (omega (arith, e))
not_quiet_by c (Loop names) e h = absurd (omega (arith, e))
not_quiet_by c (AigAtFault f) e h = absurd (omega (arith, e))
not_quiet_by c (AigLoop literals) e h = absurd (omega (arith, e))
not_quiet_by c (Pattern f) e h = absurd (omega (arith, e))
not_quiet_by c (GridTooLarge x y) e h = absurd (omega (arith, e))
not_quiet_by c (PortTable f) e h = absurd (omega (arith, e))
not_quiet_by c (Streams f) e h = absurd (omega (arith, e))
not_quiet_by c (StartWord f) e h = absurd (omega (arith, e))
not_quiet_by c (NoSuchNet name) e h = absurd (omega (arith, e))
not_quiet_by c (TooFar n) e h = absurd (omega (arith, e))
not_quiet_by c (TooManyContexts n limit) e h = absurd (omega (arith, e))
not_quiet_by c (NotQuiet g x y) e h = (g, x, y, h)
not_quiet_by c (NotCircuit fault) e h = absurd (omega (arith, e))

not_quiet : (c : Call) (r : Refusal) → HasReason c.words c.src r → status_of r ≡ 10 → IsFirstMiss c
not_quiet c Usage h e = absurd (omega (arith, e))
not_quiet c TooLong h e = absurd (omega (arith, e))
not_quiet c ReadFault h e = absurd (omega (arith, e))
not_quiet c WriteFault h e = absurd h
not_quiet c NoMemory h e = absurd (omega (arith, e))
not_quiet c (Text cause) h e = not_quiet_by c cause e h

not_circuit_by : (c : Call) (cause : Cause) → status_of_cause cause ≡ 12 → RefusesText c.words c.src cause → IsNotCircuit c
not_circuit_by c (NetlistFault f) e h = absurd (omega (arith, e))
not_circuit_by c (WeightTooLarge w) e h = absurd (omega (arith, e))
not_circuit_by c (Loop names) e h = absurd (omega (arith, e))
not_circuit_by c (AigAtFault f) e h = absurd (omega (arith, e))
not_circuit_by c (AigLoop literals) e h = absurd (omega (arith, e))
not_circuit_by c (Pattern f) e h = absurd (omega (arith, e))
not_circuit_by c (GridTooLarge x y) e h = absurd (omega (arith, e))
not_circuit_by c (PortTable f) e h = absurd (omega (arith, e))
not_circuit_by c (Streams f) e h = absurd (omega (arith, e))
not_circuit_by c (StartWord f) e h = absurd (omega (arith, e))
not_circuit_by c (NoSuchNet name) e h = absurd (omega (arith, e))
not_circuit_by c (TooFar n) e h = absurd (omega (arith, e))
not_circuit_by c (TooManyContexts n limit) e h = absurd (omega (arith, e))
not_circuit_by c (NotQuiet g x y) e h = absurd (omega (arith, e))
not_circuit_by c (NotCircuit fault) e h = (fault, h)

not_circuit : (c : Call) (r : Refusal) → HasReason c.words c.src r → status_of r ≡ 12 → IsNotCircuit c
not_circuit c Usage h e = absurd (omega (arith, e))
not_circuit c TooLong h e = absurd (omega (arith, e))
not_circuit c ReadFault h e = absurd (omega (arith, e))
not_circuit c WriteFault h e = absurd h
not_circuit c NoMemory h e = absurd (omega (arith, e))
not_circuit c (Text cause) h e = not_circuit_by c cause e h

read_fault : (words : List (List ℕ)) (src : Reading) (r : Refusal) → HasReason words src r → status_of r ≡ 5 → ReadFailed src
read_fault words src Usage h e = cc
read_fault words src TooLong h e = cc
read_fault words src ReadFault h e = h.1
read_fault words src WriteFault h e = absurd h
read_fault words src NoMemory h e = cc
read_fault words src (Text cause) h e = absurd ((not_cause cause).1 e)

write_fault : (c : Call) → CutsLine c ⊎ CutsOutput c → WriteFailed c.out ⊎ WriteFailed c.err
write_fault c (inl h) = inr h.failed
write_fault c (inr h) = inl h.failed

asked_by : (c : Call) (status : ℕ) → Ends c status → status ≢ 2 → status ≢ 6 → status ≢ 7 → (zero : (status ≡ 0) ⊎ (status ≢ 0)) → (command : CommandValues) × IsAsked c.words command
asked_by c status h two six seven (inl e) = let d = (h.done e).done in (d.command, d.asked)
asked_by c status h two six seven (inr z) =
    let r = h.refused z six in
    asked c.words c.src r.refusal r.reason (λ e. two (r.told.status_is ∙ e)) (λ e. seven (r.told.status_is ∙ e))

-- a run with another status than 0 and 6 is refused
pub record Refused (c : Call) (n : ℕ) : Type 0 where
  pub refusal : Refusal
  pub reason : HasReason c.words c.src refusal
  pub status_is : status_of refusal ≡ n

by_refusal : (c : Call) (status n : ℕ) → status ≡ n → IsRefused c status → Refused c n
by_refusal c status n e r = record { refusal = r.refusal; reason = r.reason; status_is = sym r.told.status_is ∙ e }

refused : (c : Call) (status n : ℕ) → Ends c status → n ≢ 0 → n ≢ 6 → status ≡ n → Refused c n
refused c status n h not_zero not_six e = by_refusal c status n e (h.refused (λ z. not_zero (sym e ∙ z)) (λ z. not_six (sym e ∙ z)))

usage_of : (c : Call) → Refused c 2 → AsksNothing c.words
usage_of c r = usage c.words c.src r.refusal r.reason r.status_is

too_large_of : (c : Call) → Refused c 4 → (contexts : ℕ) (starts : List (List ℕ)) → Asks c.words (compile contexts starts) → IsTooLarge c contexts starts
too_large_of c r contexts starts asks = by (no_room c.words c.src r.refusal contexts starts r.reason r.status_is asks)
  where
    by : (AsksForText c.words × GaveTooMuch c.src) ⊎ ((text : List ℕ) × GaveAll c.src text × IsRefusedAsLarge contexts starts text) → IsTooLarge c contexts starts
    by (inl many) = inl many
    by (inr (text, given, inl (weight, heavy))) = inr (inl (text, weight, given, heavy))
    by (inr (text, given, inr (limit, room))) = inr (inr (text, limit, given, several contexts starts text limit room, room))

read_fault_of : (c : Call) → Refused c 5 → ReadFailed c.src
read_fault_of c r = read_fault c.words c.src r.refusal r.reason r.status_is

pub statuses_have_causes : StatusesHaveCauses
statuses_have_causes c status h = record {
  usage = λ e. usage_of c (refused c status 2 h (λ z. cc) (λ z. cc) e);
  asked = λ two six seven. asked_by c status h two six seven (cases_eq status 0);
  at_fault = λ e. let r = refused c status 1 h (λ z. cc) (λ z. cc) e in at_fault c.words c.src r.refusal r.reason r.status_is;
  aig_at_fault = λ e. let r = refused c status 1 h (λ z. cc) (λ z. cc) e in aig_at_fault c.words c.src r.refusal r.reason r.status_is;
  a_loop = λ e. let r = refused c status 3 h (λ z. cc) (λ z. cc) e in a_loop c.words c.src r.refusal r.reason r.status_is;
  aig_loop = λ e. let r = refused c status 3 h (λ z. cc) (λ z. cc) e in aig_loop c.words c.src r.refusal r.reason r.status_is;
  too_large = λ e contexts starts asks. too_large_of c (refused c status 4 h (λ z. cc) (λ z. cc) e) contexts starts asks;
  over_a_limit = λ e. let r = refused c status 4 h (λ z. cc) (λ z. cc) e in over_a_limit c r.refusal r.reason r.status_is;
  read_fault = λ e. read_fault_of c (refused c status 5 h (λ z. cc) (λ z. cc) e);
  write_fault = λ e. write_fault c (h.cut e);
  no_pattern = λ e. let r = refused c status 8 h (λ z. cc) (λ z. cc) e in no_pattern c r.refusal r.reason r.status_is;
  misfit = λ e. let r = refused c status 9 h (λ z. cc) (λ z. cc) e in misfit c r.refusal r.reason r.status_is;
  not_quiet = λ e. let r = refused c status 10 h (λ z. cc) (λ z. cc) e in not_quiet c r.refusal r.reason r.status_is;
  not_circuit = λ e. let r = refused c status 12 h (λ z. cc) (λ z. cc) e in not_circuit c r.refusal r.reason r.status_is;
}
