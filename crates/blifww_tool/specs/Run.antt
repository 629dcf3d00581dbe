-- What a run does, by its words, and by what its source, its output and its errors hold before and
-- after. This is stated once for all commands: `Commands` has what each command prints, and why it
-- refuses a text.
use Rattle.std.specs.Prelude.{◌≡◌, ◌≢◌, ◌≤◌, ◌<◌, ◌⊎◌, ℕ, Bool, true, false, List, [], length, take, Some}
use Rattle.std.specs.declared.option.Option.{Option}
use Rattle.std.specs.Io.KnownBytes.{Consumes, Appends, Keeps, IsAtEnd}
use Rattle.ww_base.specs.Faults.{RoseByOne}
use Rattle.command_words.specs.Shapes.{CommandValues, command_values, IsTaken}
use Rattle.blifww_tool.specs.Commands.{reads_text, Accepts, Prints, Refuses, MustRefuse, AreLikeCauses}
use Rattle.program_runs.specs.Refusals.{status_of, refusal_line}
use Rattle.program_runs.specs.declared.causes.Cause.{Cause}
use Rattle.program_runs.specs.declared.refusal.Refusal.{Refusal}
use Rattle.program_runs.specs.declared.refusal.Refusal.TheVariants.{Usage, TooLong, ReadFault, WriteFault, NoMemory, Text}
use Rattle.program_runs.specs.Runs.{text_limit, Reading, reading, Writing, writing, Call, call, Gave, ReadFailed, NoReadFailed, GaveAll, GaveTooMuch, IsUntouched, GaveIfRead, Gained, GainedNothing, WriteFailed, NoWriteFailed, HoldsIfRead}

-- the words ask for this command, with these values
abbrev pub Asks : List (List ℕ) → CommandValues → Type 0
Asks words command = command_values words ≡ Some command

-- the words ask for the command, and clap finds no fault in them
pub record IsAsked (words : List (List ℕ)) (command : CommandValues) : Type 0 where
  pub asks : Asks words command
  pub taken : IsTaken words

-- the words ask for no command: clap finds a fault in them, or they have no values, as where a
-- number is not in its range
abbrev pub AsksNothing : List (List ℕ) → Type 0
AsksNothing words = (command : CommandValues) → IsAsked words command → ⊥

-- a command that the words ask for reads nothing
abbrev pub AsksForNoText : List (List ℕ) → Type 0
AsksForNoText words =
    (command : CommandValues) → IsAsked words command → reads_text command ≡ false

-- the words ask for a command that reads a text
pub record AsksForText (words : List (List ℕ)) : Type 0 where
  pub command : CommandValues
  pub asked : IsAsked words command
  pub reads : reads_text command ≡ true

-- the command has this text from the source
abbrev pub HasText : CommandValues → Reading → List ℕ → Type 0
HasText command src text = GaveIfRead (reads_text command) src text

-- the words ask for a command, the command has a text from the source, and out gained this part of
-- what the command prints of the text
pub record Does (words : List (List ℕ)) (src : Reading) (out : Writing)
    (part : List ℕ → List ℕ) : Type 0 where
  pub command : CommandValues
  pub asked : IsAsked words command
  pub text : List ℕ
  pub given : HasText command src text
  pub output : List ℕ
  pub prints : Prints command text output
  pub wrote : Gained out (part output)

-- the words ask for a command, and the command has a text from the source, which it refuses for
-- this cause
pub record RefusesText (words : List (List ℕ)) (src : Reading) (cause : Cause) : Type 0 where
  pub command : CommandValues
  pub asked : IsAsked words command
  pub text : List ℕ
  pub given : HasText command src text
  pub refused : Refuses command text cause

-- why a run is refused before it writes; a read failed only if this is why
abbrev pub HasReason : List (List ℕ) → Reading → Refusal → Type 0
HasReason words src Usage = AsksNothing words × IsUntouched src
HasReason words src TooLong = AsksForText words × GaveTooMuch src
HasReason words src ReadFault = AsksForText words × ReadFailed src
HasReason words src WriteFault = ⊥
HasReason words src NoMemory = NoReadFailed src
HasReason words src (Text cause) = RefusesText words src cause

-- the status and the errors tell this refusal
pub record TellsRefusal (err : Writing) (status : ℕ) (refusal : Refusal) : Type 0 where
  pub status_is : status ≡ status_of refusal
  pub line : Gained err (refusal_line refusal)

-- out has the whole output, err gained nothing, and no write failed
pub record IsDone (c : Call) : Type 0 where
  pub done : Does c.words c.src c.out (λ output. output)
  pub silent : GainedNothing c.err
  pub out_calm : NoWriteFailed c.out
  pub err_calm : NoWriteFailed c.err

-- a refusal that has its reason is told, out gained nothing, and no write failed
pub record IsRefused (c : Call) (status : ℕ) : Type 0 where
  pub refusal : Refusal
  pub reason : HasReason c.words c.src refusal
  pub nothing : GainedNothing c.out
  pub told : TellsRefusal c.err status refusal
  pub out_calm : NoWriteFailed c.out
  pub err_calm : NoWriteFailed c.err

-- a refusal's line was cut off by the one write that failed, and out gained nothing
pub record CutsLine (c : Call) : Type 0 where
  pub refusal : Refusal
  pub reason : HasReason c.words c.src refusal
  pub nothing : GainedNothing c.out
  pub out_calm : NoWriteFailed c.out
  pub size : ℕ
  pub front : Gained c.err (take size (refusal_line refusal))
  pub failed : WriteFailed c.err

-- the output was cut off by the one write of out that failed, and err has the line that tells it,
-- or, if a write of err failed too, a prefix of that line
pub record CutsOutput (c : Call) : Type 0 where
  pub size : ℕ
  pub front : Does c.words c.src c.out (take size)
  pub failed : WriteFailed c.out
  pub line : (NoWriteFailed c.err × Gained c.err (refusal_line WriteFault))
      ⊎ (WriteFailed c.err × ((k : ℕ) × Gained c.err (take k (refusal_line WriteFault))))

-- the words ask for the command, the source has the text for it, and nothing failed
pub record IsCalm (c : Call) (command : CommandValues) (text : List ℕ) : Type 0 where
  pub asked : IsAsked c.words command
  pub has : HoldsIfRead (reads_text command) c.src text
  pub writes : WriteFailed c.out → ⊥
  pub tells : WriteFailed c.err → ⊥

-- a cause is told, and the command refuses the text for it
pub record TellsCause (c : Call) (status : ℕ) (command : CommandValues)
    (text : List ℕ) : Type 0 where
  pub told : Cause
  pub refused : Refuses command text told
  pub tells : TellsRefusal c.err status (Text told)

-- a cause like this one is told, and the command refuses the text for the told cause
pub record TellsLike (c : Call) (status : ℕ) (command : CommandValues) (text : List ℕ)
    (cause : Cause) : Type 0 where
  pub told : Cause
  pub refused : Refuses command text told
  pub alike : AreLikeCauses told cause
  pub tells : TellsRefusal c.err status (Text told)

-- the refusal is told, or memory ran out
abbrev pub TellsOr7 : Call → ℕ → Refusal → Type 0
TellsOr7 c status refusal = TellsRefusal c.err status refusal ⊎ (status ≡ 7)

-- How a run ends. By its status it is done, refused or cut off.
pub record Ends (c : Call) (status : ℕ) : Type 0 where
  pub done : status ≡ 0 → IsDone c
  pub refused : status ≢ 0 → status ≢ 6 → IsRefused c status
  pub cut : status ≡ 6 → CutsLine c ⊎ CutsOutput c
  pub front : (given : List ℕ) × Gave c.src given
  -- Unless a read or a write fails or memory runs out, the output of a text is printed or a cause
  -- is told: a text that the command accepts is printed, and one that it must refuse is refused for
  -- its cause or one like it.
  pub answered : (command : CommandValues) (text : List ℕ) → IsCalm c command text
      → length text ≤ text_limit
      → (status ≡ 0) ⊎ (TellsCause c status command text ⊎ (status ≡ 7))
  pub accepted : (command : CommandValues) (text : List ℕ) → IsCalm c command text
      → length text ≤ text_limit → Accepts command text
      → (status ≡ 0) ⊎ (status ≡ 7)
  pub caused : (command : CommandValues) (text : List ℕ) → IsCalm c command text
      → length text ≤ text_limit
      → (cause : Cause) → MustRefuse command text cause
      → TellsLike c status command text cause ⊎ (status ≡ 7)
  -- Unless memory runs out, a calm run tells `TooLong` for a text that is too long. For words that
  -- ask for nothing a run tells `Usage`, unless err fails or memory runs out.
  pub too_long : (command : CommandValues) (text : List ℕ) → IsCalm c command text
      → text_limit < length text
      → TellsOr7 c status TooLong
  pub nothing_asked : AsksNothing c.words
      → TellsOr7 c status Usage ⊎ ((status ≡ 6) × WriteFailed c.err × GainedNothing c.out)
