-- How the part of a run that reads and writes stops.
use Rattle.std.proofs.Common.{ℕ, Bool, true, false, ◌≡◌, ◌<◌, sym, ◌∙◌, refl, subst, List, length, take, Err, Result, IfErr}
use Rattle.std.specs.Prelude.{None}
use Rattle.std.proofs.lemmas.Option.{none-some}
use Rattle.command_words.specs.Shapes.{CommandValues, IsTaken, command_values}
use Rattle.command_words.specs.declared.error.WordsError.{WordsError}
use Rattle.command_words.specs.declared.error.WordsError.TheVariants as words_error
use Rattle.ww_base.specs.declared.whole.ReadAllError.{ReadAllError}
use Rattle.ww_base.specs.declared.whole.ReadAllError.TheVariants as read_error
use Rattle.program_runs.specs.declared.causes.TextError.{TextError}
use Rattle.program_runs.specs.declared.causes.TextError.TheVariants as text_error
use Rattle.blifww_tool.specs.Answer.{HasStopped, HasStoppedOn, PrintsPart}
use Rattle.blifww_tool.specs.Commands.{reads_text, HasTextCause}
use Rattle.program_runs.specs.Refusals.{words_refusal, read_refusal, text_refusal}
use Rattle.blifww_tool.specs.Run.{AsksNothing, IsAsked, HasText, Does}
use Rattle.program_runs.specs.Runs.{Reading, Writing, Gave, GaveIfRead, IsUntouched, IsUnwritten, NoReadFailed, ReadFailed, text_limit}
use Rattle.program_runs.specs.declared.refusal.Refusal.{Refusal}
use Rattle.program_runs.specs.declared.refusal.Refusal.TheVariants.{Usage, TooLong, ReadFault, WriteFault, NoMemory, Text}

-- what is printed of the text that words have is what they do
pub does : (words : List (List ℕ)) (src : Reading) (out : Writing) (command : CommandValues) (text t : List ℕ) (part : List ℕ → List ℕ) → IsAsked words command → HasText command src text → t ≡ text → PrintsPart command t out part
    → Does words src out part
does words src out command text t part asked given same h =
    let p = subst (λ (t : List ℕ). PrintsPart command t out part) same h in
    record { command = command; asked = asked; text = text; given = given; output = p.output; prints = p.prints; wrote = p.wrote }

-- words in which clap finds a fault, or that have no values, ask for nothing
asks_nothing : (words : List (List ℕ)) → (IsTaken words → command_values words ≡ None) → AsksNothing words
asks_nothing words none command asked = none-some command (sym (none asked.taken) ∙ asked.asks)

-- at words that give no command,
pub by_words : (words : List (List ℕ)) (src : Reading) (out : Writing) (e : WordsError) → IsUnwritten out → IsUntouched src → ((e ≡ words_error.Usage) → IsTaken words → command_values words ≡ None) → HasStopped words src out (words_refusal e)
by_words words src out words_error.Usage nothing untouched h = (nothing, (asks_nothing words (h refl), untouched))
by_words words src out words_error.NoMemory nothing untouched h = (nothing, untouched.faults)

-- at a source that gives no text,
pub by_read : (words : List (List ℕ)) (src : Reading) (out : Writing) (command : CommandValues) (e : ReadAllError) → IsUnwritten out → IsAsked words command → reads_text command ≡ true
    → (((e ≡ read_error.ReadFault) → ⊥) → NoReadFailed src) → ((e ≡ read_error.ReadFault) → ReadFailed src) → ((e ≡ read_error.TooLong) → (given : List ℕ) × Gave src given × (text_limit < length given)) → HasStopped words src out (read_refusal e)
by_read words src out command read_error.ReadFault nothing asked reads calm failed long = (nothing, (record { command = command; asked = asked; reads = reads }, failed refl))
by_read words src out command read_error.TooLong nothing asked reads calm failed long =
    let l = long refl in
    (nothing, (record { command = command; asked = asked; reads = reads }, record { given = l.0; gave = l.1; many = l.2; calm = calm (λ e. cc) }))
by_read words src out command read_error.NoMemory nothing asked reads calm failed long = (nothing, calm (λ e. cc))

-- at a text that gives no output,
pub refused_on : (command : CommandValues) (text : List ℕ) (out : Writing) (e : TextError) → IsUnwritten out → HasTextCause command text e → HasStoppedOn command text out (text_refusal e)
refused_on command text out (text_error.Refused cause) nothing h = (nothing, h)
refused_on command text out text_error.NoMemory nothing h = nothing

-- no read failed where a command has a text
calm_by : (reads : Bool) (src : Reading) (text : List ℕ) → GaveIfRead reads src text → NoReadFailed src
calm_by true src text given = given.calm
calm_by false src text given = given.0.faults

-- where what is printed of a text stops,
stopped_on : (words : List (List ℕ)) (src : Reading) (out : Writing) (command : CommandValues) (text : List ℕ) (r : Refusal) → IsAsked words command → HasText command src text → HasStoppedOn command text out r
    → HasStopped words src out r
stopped_on words src out command text WriteFault asked given h = (h.0, h.1, does words src out command text text (take h.0) asked given refl h.2)
stopped_on words src out command text NoMemory asked given h = (h, calm_by (reads_text command) src text given)
stopped_on words src out command text (Text cause) asked given h = (h.0, record { command = command; asked = asked; text = text; given = given; refused = h.1 })
stopped_on words src out command text Usage asked given h = absurd h
stopped_on words src out command text TooLong asked given h = absurd h
stopped_on words src out command text ReadFault asked given h = absurd h

pub by_text : (words : List (List ℕ)) (src : Reading) (out : Writing) (command : CommandValues) (text t : List ℕ) (r : Refusal) → IsAsked words command → HasText command src text → t ≡ text → HasStoppedOn command t out r
    → HasStopped words src out r
by_text words src out command text t r asked given same h =
    stopped_on words src out command text r asked given (subst (λ (t : List ℕ). HasStoppedOn command t out r) same h)

-- and it never stops for words that are no command
pub never_usage : {T : Type 0} (command : CommandValues) (text : List ℕ) (out : Writing) (result : Result T Refusal) → IfErr result (HasStoppedOn command text out) → result ≡ Err Usage → ⊥
never_usage command text out result stopped is = rw is at stopped
