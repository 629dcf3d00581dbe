-- How a run ends says of a run in which nothing fails what it does with the text that its source has.
use Rattle.std.proofs.Common.{ℕ, Bool, true, false, ◌≡◌, ◌≢◌, ◌≤◌, ◌<◌, ◌⊎◌, refl, sym, ap, ◌∙◌, subst, List, length, take, arith, inl, inr}
use Rattle.command_words.specs.Shapes.{CommandValues}
use Rattle.blifww_tool.specs.Commands.{reads_text, Accepts, Prints, Refuses, MustRefuse}
use Rattle.program_runs.specs.Refusals.{status_of, refusal_line}
use Rattle.program_runs.proofs.Statuses.{cause_is, never_done}
use Rattle.blifww_tool.specs.Answer.{HasStopped}
use Rattle.blifww_tool.specs.Run.{Asks, AsksForText, AsksNothing, HasText, Does, RefusesText, HasReason, TellsRefusal, TellsCause, TellsLike, TellsOr7, IsDone, IsRefused, CutsLine, CutsOutput, IsCalm, Ends}
use Rattle.program_runs.specs.Runs.{Reading, Writing, Call, Gave, GaveIfRead, GaveTooMuch, HoldsIfRead, Gained, GainedNothing, IsUnwritten, NoWriteFailed, WriteFailed, text_limit}
use Rattle.program_runs.proofs.Given.{gave_whole, no_more}
use Rattle.blifww_tool.proofs.Given.{one_command}
use Rattle.blifww_tool.proofs.Decided.{printed_or_refused, accepted_or_refused, one_cause}
use Rattle.program_runs.specs.declared.causes.Cause.{Cause}
use Rattle.program_runs.specs.declared.refusal.Refusal.{Refusal}
use Rattle.program_runs.specs.declared.refusal.Refusal.TheVariants.{Usage, TooLong, ReadFault, WriteFault, NoMemory, Text}

-- the three ends
pub data Ending (c : Call) (status : ℕ) : Type 0 where
  done : status ≡ 0 → IsDone c → Ending c status
  refused : status ≢ 0 → status ≢ 6 → IsRefused c status → Ending c status
  cut : status ≡ 6 → CutsLine c ⊎ CutsOutput c → Ending c status

never_cut : (c : Call) (command : CommandValues) (text : List ℕ) → IsCalm c command text → CutsLine c ⊎ CutsOutput c → ⊥
never_cut c command text calm (inl h) = calm.tells h.failed
never_cut c command text calm (inr h) = calm.writes h.failed

-- the text that a command has is the one that the source had for it, and is not too long,
given_by : (reads : Bool) (src : Reading) (text given : List ℕ) → HoldsIfRead reads src text → GaveIfRead reads src given → given ≡ text
given_by true src text given has all = gave_whole src.left src.left_after given text all.consumed all.end has.0
given_by false src text given has all = all.1 ∙ sym has

short_by : (reads : Bool) (src : Reading) (given : List ℕ) → GaveIfRead reads src given → length given ≤ text_limit
short_by true src given all = all.within
short_by false src given all = omega (arith, ap length all.1)

given_is : (c : Call) (command other : CommandValues) (text given : List ℕ) → IsCalm c command text → Asks c.words other → HasText other c.src given → given ≡ text
given_is c command other text given calm asks all =
    given_by (reads_text command) c.src text given calm.has (subst (λ (v : CommandValues). HasText v c.src given) (one_command c.words other command asks calm.asked.asks) all)

short_is : (c : Call) (command other : CommandValues) (text given : List ℕ) → IsCalm c command text → Asks c.words other → HasText other c.src given → length text ≤ text_limit
short_is c command other text given calm asks all =
    subst (λ (t : List ℕ). length t ≤ text_limit) (given_is c command other text given calm asks all) (short_by (reads_text other) c.src given all)

-- where the command reads, the source has the text, and no read failed
held_by : (c : Call) (command other : CommandValues) (text : List ℕ) → IsCalm c command text → Asks c.words other → reads_text other ≡ true → HoldsIfRead true c.src text
held_by c command other text calm asks reads =
    subst (λ (b : Bool). HoldsIfRead b c.src text) (ap reads_text (one_command c.words command other calm.asked.asks asks) ∙ reads) calm.has

too_many : (c : Call) (command : CommandValues) (text : List ℕ) → IsCalm c command text → AsksForText c.words → GaveTooMuch c.src → text_limit < length text
too_many c command text calm a h =
    omega (arith, no_more c.src.left c.src.left_after h.given text h.gave (held_by c command a.command text calm a.asked.asks a.reads).0, h.many)

-- what was printed is of that text,
printed_of : (c : Call) (command : CommandValues) (text : List ℕ) (part : List ℕ → List ℕ) → IsCalm c command text → (d : Does c.words c.src c.out part) → Prints command text d.output
printed_of c command text part calm d =
    subst (λ (v : CommandValues). Prints v text d.output) (one_command c.words d.command command d.asked.asks calm.asked.asks)
    (subst (λ (t : List ℕ). Prints d.command t d.output) (given_is c command d.command text d.text calm d.asked.asks d.given) d.prints)

-- and so is the cause
refused_of : (c : Call) (command : CommandValues) (text : List ℕ) (cause : Cause) → IsCalm c command text → RefusesText c.words c.src cause → Refuses command text cause
refused_of c command text cause calm h =
    subst (λ (v : CommandValues). Refuses v text cause) (one_command c.words h.command command h.asked.asks calm.asked.asks)
    (subst (λ (t : List ℕ). Refuses h.command t cause) (given_is c command h.command text h.text calm h.asked.asks h.given) h.refused)

-- why a run in which nothing fails is refused
data Why (c : Call) (command : CommandValues) (text : List ℕ) (r : Refusal) : Type 0 where
  no_memory : r ≡ NoMemory → Why c command text r
  too_long : r ≡ TooLong → text_limit < length text → Why c command text r
  by_text : (cause : Cause) → r ≡ Text cause → length text ≤ text_limit → Refuses command text cause → Why c command text r

why : (c : Call) (command : CommandValues) (text : List ℕ) (r : Refusal) → IsCalm c command text → HasReason c.words c.src r → Why c command text r
why c command text Usage calm h = absurd (h.0 command calm.asked)
why c command text TooLong calm h = too_long refl (too_many c command text calm h.0 h.1)
why c command text ReadFault calm h = absurd ((held_by c command h.0.command text calm h.0.asked.asks h.0.reads).1 h.1)
why c command text WriteFault calm h = absurd h
why c command text NoMemory calm h = no_memory refl
why c command text (Text cause) calm h =
    by_text cause refl (short_is c command h.command text h.text calm h.asked.asks h.given) (refused_of c command text cause calm h)

told_as : (err : Writing) (status : ℕ) (r r' : Refusal) → r ≡ r' → TellsRefusal err status r → TellsRefusal err status r'
told_as err status r r' e h = subst (λ (x : Refusal). TellsRefusal err status x) e h

-- a text is printed, or a cause is told
answered : (c : Call) (status : ℕ) → Ending c status → (command : CommandValues) (text : List ℕ) → IsCalm c command text → length text ≤ text_limit
    → (status ≡ 0) ⊎ (TellsCause c status command text ⊎ (status ≡ 7))
answered c status (done e d) command text calm short = inl e
answered c status (refused e e' r) command text calm short = by_why (why c command text r.refusal calm r.reason)
  where
    by_why : Why c command text r.refusal → (status ≡ 0) ⊎ (TellsCause c status command text ⊎ (status ≡ 7))
    by_why (no_memory is) = inr (inr (r.told.status_is ∙ ap status_of is))
    by_why (too_long is long) = absurd (omega (arith, short, long))
    by_why (by_text cause is s k) = inr (inl (record { told = cause; refused = k; tells = told_as c.err status r.refusal (Text cause) is r.told }))
answered c status (cut e k) command text calm short = absurd (never_cut c command text calm k)

-- a text that the command accepts is printed
accepted : (c : Call) (status : ℕ) → Ending c status → (command : CommandValues) (text : List ℕ) → IsCalm c command text → length text ≤ text_limit → Accepts command text → (status ≡ 0) ⊎ (status ≡ 7)
accepted c status (done e d) command text calm short h = inl e
accepted c status (refused e e' r) command text calm short h = by_why (why c command text r.refusal calm r.reason)
  where
    by_why : Why c command text r.refusal → (status ≡ 0) ⊎ (status ≡ 7)
    by_why (no_memory is) = inr (r.told.status_is ∙ ap status_of is)
    by_why (too_long is long) = absurd (omega (arith, short, long))
    by_why (by_text cause is s k) = absurd (accepted_or_refused command text cause h k)
accepted c status (cut e k) command text calm short h = absurd (never_cut c command text calm k)

-- one that it must refuse is refused for its cause, or one like it
caused : (c : Call) (status : ℕ) → Ending c status → (command : CommandValues) (text : List ℕ) → IsCalm c command text → length text ≤ text_limit → (cause : Cause) → MustRefuse command text cause
    → TellsLike c status command text cause ⊎ (status ≡ 7)
caused c status (done e d) command text calm short cause h =
    absurd (printed_or_refused command text d.done.output cause (printed_of c command text (λ output. output) calm d.done) h)
caused c status (refused e e' r) command text calm short cause h = by_why (why c command text r.refusal calm r.reason)
  where
    by_why : Why c command text r.refusal → TellsLike c status command text cause ⊎ (status ≡ 7)
    by_why (no_memory is) = inr (r.told.status_is ∙ ap status_of is)
    by_why (too_long is long) = absurd (omega (arith, short, long))
    by_why (by_text cause' is s k) =
        inl (record { told = cause'; refused = k; alike = one_cause command text cause' cause k h; tells = told_as c.err status r.refusal (Text cause') is r.told })
caused c status (cut e k) command text calm short cause h = absurd (never_cut c command text calm k)

-- one that is too long is told so
long_is_told : (c : Call) (status : ℕ) → Ending c status → (command : CommandValues) (text : List ℕ) → IsCalm c command text → text_limit < length text → TellsOr7 c status TooLong
long_is_told c status (done e d) command text calm long =
    let short = short_is c command d.done.command text d.done.text calm d.done.asked.asks d.done.given in
    absurd (omega (arith, short, long))
long_is_told c status (refused e e' r) command text calm long = by_why (why c command text r.refusal calm r.reason)
  where
    by_why : Why c command text r.refusal → TellsOr7 c status TooLong
    by_why (no_memory is) = inr (r.told.status_is ∙ ap status_of is)
    by_why (too_long is l) = inl (told_as c.err status r.refusal TooLong is r.told)
    by_why (by_text cause is short k) = absurd (omega (arith, short, long))
long_is_told c status (cut e k) command text calm long = absurd (never_cut c command text calm k)

-- why a run is refused whose words ask for nothing
usage_or_memory : (words : List (List ℕ)) (src : Reading) (r : Refusal) → AsksNothing words → HasReason words src r → (r ≡ Usage) ⊎ (r ≡ NoMemory)
usage_or_memory words src Usage none h = inl refl
usage_or_memory words src TooLong none h = absurd (none h.0.command h.0.asked)
usage_or_memory words src ReadFault none h = absurd (none h.0.command h.0.asked)
usage_or_memory words src WriteFault none h = absurd h
usage_or_memory words src NoMemory none h = inr refl
usage_or_memory words src (Text cause) none h = absurd (none h.command h.asked)

nothing_is_told : (c : Call) (status : ℕ) → Ending c status → AsksNothing c.words → TellsOr7 c status Usage ⊎ ((status ≡ 6) × WriteFailed c.err × GainedNothing c.out)
nothing_is_told c status (done e d) none = absurd (none d.done.command d.done.asked)
nothing_is_told c status (refused e e' r) none =
    elim (usage_or_memory c.words c.src r.refusal none r.reason) [
      | inl is ↦ inl (inl (told_as c.err status r.refusal Usage is r.told))
      | inr is ↦ inl (inr (r.told.status_is ∙ ap status_of is))
    ]
nothing_is_told c status (cut e (inl k)) none = inr (e, k.failed, k.nothing)
nothing_is_told c status (cut e (inr k)) none = absurd (none k.front.command k.front.asked)

is_done : (c : Call) (status : ℕ) → Ending c status → status ≡ 0 → IsDone c
is_done c status (done e d) z = d
is_done c status (refused e e' r) z = absurd (e z)
is_done c status (cut e k) z = absurd (omega (arith, z, e))

is_refused : (c : Call) (status : ℕ) → Ending c status → status ≢ 0 → status ≢ 6 → IsRefused c status
is_refused c status (done e d) z s = absurd (z e)
is_refused c status (refused e e' r) z s = r
is_refused c status (cut e k) z s = absurd (s e)

is_cut : (c : Call) (status : ℕ) → Ending c status → status ≡ 6 → CutsLine c ⊎ CutsOutput c
is_cut c status (done e d) s = absurd (omega (arith, e, s))
is_cut c status (refused e e' r) s = absurd (e' s)
is_cut c status (cut e k) s = k

pub ends : (c : Call) (status : ℕ) → Ending c status → ((given : List ℕ) × Gave c.src given) → Ends c status
ends c status e front = record {
  done = is_done c status e;
  refused = is_refused c status e;
  cut = is_cut c status e;
  front = front;
  answered = answered c status e;
  accepted = accepted c status e;
  caused = caused c status e;
  too_long = long_is_told c status e;
  nothing_asked = nothing_is_told c status e;
}

-- a refusal's status is not that of a run that is done
pub not_done : {A : Type 0} (status : ℕ) (r : Refusal) → status ≡ status_of r → status ≡ 0 → A
not_done status r is e = absurd (never_done r (sym is ∙ e))

refused_as : (c : Call) (status : ℕ) (r : Refusal) → status ≡ status_of r → status_of r ≢ 0 → status_of r ≢ 6 → IsUnwritten c.out × HasReason c.words c.src r → Gained c.err (refusal_line r) → NoWriteFailed c.err → Ending c status
refused_as c status r e z s h line calm =
    refused (λ k. z (sym e ∙ k)) (λ k. s (sym e ∙ k))
    (record { refusal = r; reason = h.1; nothing = h.0.nothing; told = record { status_is = e; line = line }; out_calm = h.0.calm; err_calm = calm })

-- a refusal that is told ends the run,
pub told : (c : Call) (status : ℕ) (r : Refusal) → status ≡ status_of r → HasStopped c.words c.src c.out r → Gained c.err (refusal_line r) → NoWriteFailed c.err → Ending c status
told c status Usage e h line calm = refused_as c status Usage e (λ k. cc) (λ k. cc) h line calm
told c status TooLong e h line calm = refused_as c status TooLong e (λ k. cc) (λ k. cc) h line calm
told c status ReadFault e h line calm = refused_as c status ReadFault e (λ k. cc) (λ k. cc) h line calm
told c status WriteFault e h line calm = cut e (inr (record { size = h.0; front = h.2; failed = h.1; line = inl (calm, line) }))
told c status NoMemory e h line calm = refused_as c status NoMemory e (λ k. cc) (λ k. cc) h line calm
told c status (Text cause) e h line calm = refused_as c status (Text cause) e (cause_is cause).0 (cause_is cause).1 h line calm

cuts_line : (c : Call) (r : Refusal) → IsUnwritten c.out × HasReason c.words c.src r → ((n : ℕ) × Gained c.err (take n (refusal_line r))) → WriteFailed c.err → Ending c 6
cuts_line c r h front failed = cut refl (inl (record { refusal = r; reason = h.1; nothing = h.0.nothing; out_calm = h.0.calm; size = front.0; front = front.1; failed = failed }))

-- and so does one that is not
pub untold : (c : Call) (r : Refusal) → HasStopped c.words c.src c.out r → ((n : ℕ) × Gained c.err (take n (refusal_line r))) → WriteFailed c.err → Ending c 6
untold c Usage h front failed = cuts_line c Usage h front failed
untold c TooLong h front failed = cuts_line c TooLong h front failed
untold c ReadFault h front failed = cuts_line c ReadFault h front failed
untold c WriteFault h front failed = cut refl (inr (record { size = h.0; front = h.2; failed = h.1; line = inr (failed, front) }))
untold c NoMemory h front failed = cuts_line c NoMemory h front failed
untold c (Text cause) h front failed = cuts_line c (Text cause) h front failed
