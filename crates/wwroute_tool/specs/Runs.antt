-- How a run ends, by its words and by what its source, its output and its errors hold before and
-- after.
use Rattle.std.specs.Prelude.{ℕ, ◌≡◌, ◌≢◌, ◌≤◌, ◌⊎◌, List, [], length, take, ◌++◌, Some}
use Rattle.netlist_core.specs.declared.model.Design.{Design}
use Rattle.netlist_text.specs.NetlistText.{IsNetlist}
use Rattle.blif_text.specs.Faults.{IsDesignOf}
use Rattle.carries.specs.Carries.{Carries}
use Rattle.routed_plans.specs.declared.nets.ShownNets.{ShownNets}
use Rattle.routed_plans.specs.Nets.{ShowsNetsBy}
use Rattle.program_runs.specs.Runs.{Call, call, Reading, Writing, Gave, GaveAll, GaveTooMuch, Gained, IsUntouched, IsUnwritten, NoReadFailed, ReadFailed, NoWriteFailed, WriteFailed, text_limit}
use Rattle.program_runs.specs.Refusals.{refusal_line}
use Rattle.program_runs.specs.declared.refusal.Refusal.TheVariants as refusal
use Rattle.wwroute_tool.specs.declared.words.Command.{Command}
use Rattle.wwroute_tool.specs.declared.words.Command.TheVariants.{Route}
use Rattle.wwroute_tool.specs.declared.refusal.RouteRefusal.{RouteRefusal}
use Rattle.wwroute_tool.specs.declared.refusal.RouteRefusal.TheVariants.{Usage, Common}
use Rattle.wwroute_tool.specs.Words.{AsksFor, AsksForNone}
use Rattle.wwroute_tool.specs.declared.top.Stop.{Stop}
use Rattle.wwroute_tool.specs.declared.top.Stop.TheVariants.{Refused, Untold}
use Rattle.wwroute_tool.specs.Commands.{TellsBefore, HasTextReason}
use Rattle.wwroute_tool.specs.Tasks.{MakesPart, MakesAll}
use Rattle.wwroute_tool.specs.Refusing.{route_line, route_status}

-- The words ask for a command, and the source gave a text. The notice is the line that err gains
-- before the command makes an answer of the text.
pub record IsBegun (words : List (List ℕ)) (src : Reading) : Type 0 where
  pub command : Command
  pub asked : AsksFor words command
  pub text : List ℕ
  pub given : GaveAll src text
  pub notice : List ℕ
  pub before : TellsBefore command text notice

-- a run is begun, and the output gained this part of what the command makes of the text
pub record AnswersPart (words : List (List ℕ)) (src : Reading) (out : Writing)
    (part : List ℕ → List ℕ) : Type 0 where
  pub begun : IsBegun words src
  pub made : MakesPart begun.command begun.text out part

-- the output gained all that the command makes of the text, and this line is to be told beside it
pub record AnswersAll (words : List (List ℕ)) (src : Reading) (out : Writing)
    (line : List ℕ) : Type 0 where
  pub begun : IsBegun words src
  pub made : MakesAll begun.command begun.text out line

-- the source gave a text, which the command refuses for this reason
pub record GaveNoAnswer (command : Command) (src : Reading) (r : RouteRefusal) : Type 0 where
  pub text : List ℕ
  pub given : GaveAll src text
  pub reason : HasTextReason command text r

-- why a command is refused before it writes; a read failed only if this is why
abbrev pub HasCommandReason : Command → Reading → RouteRefusal → Type 0
HasCommandReason command src (Common refusal.TooLong) = GaveTooMuch src
HasCommandReason command src (Common refusal.ReadFault) = ReadFailed src
HasCommandReason command src (Common refusal.NoMemory) = NoReadFailed src
HasCommandReason command src r = GaveNoAnswer command src r

-- why a run is refused before it writes: the words ask for no command, and the source is unchanged;
-- or they ask for a command that is refused
abbrev pub HasRouteReason : List (List ℕ) → Reading → RouteRefusal → Type 0
HasRouteReason words src r =
    ((r ≡ Usage) × AsksForNone words × IsUntouched src)
    ⊎ ((command : Command) × AsksFor words command × HasCommandReason command src r)

-- the line that err gains before a refusal: none, or the notice, if memory ran out as an answer was
-- made
abbrev pub IsBeforeRefusal : List (List ℕ) → Reading → RouteRefusal → List ℕ → Type 0
IsBeforeRefusal words src r notice =
    (notice ≡ [])
    ⊎ ((r ≡ Common refusal.NoMemory) × ((begun : IsBegun words src) × (notice ≡ begun.notice)))

-- a refusal has its reason and comes after this notice, and the output was not written to
pub record IsStopped (words : List (List ℕ)) (src : Reading) (out : Writing)
    (notice : List ℕ) (r : RouteRefusal) : Type 0 where
  pub reason : HasRouteReason words src r
  pub before : IsBeforeRefusal words src r notice
  pub unwritten : IsUnwritten out

-- the output has the whole answer, err the notice and then the line beside it, and no write failed
pub record HasAnswered (c : Call) : Type 0 where
  pub line : List ℕ
  pub done : AnswersAll c.words c.src c.out line
  pub told : Gained c.err (done.begun.notice ++ line)
  pub out_calm : NoWriteFailed c.out
  pub err_calm : NoWriteFailed c.err

-- a refusal that has its reason is told by the status and by err, the output gained nothing, and no
-- write failed
pub record HasRefused (c : Call) (status : ℕ) : Type 0 where
  pub refusal : RouteRefusal
  pub notice : List ℕ
  pub stopped : IsStopped c.words c.src c.out notice refusal
  pub told : status ≡ route_status refusal
  pub line : Gained c.err (notice ++ route_line refusal)
  pub err_calm : NoWriteFailed c.err

-- there is a notice, it was cut off by the one write that failed, and the output gained nothing
pub record CutsNotice (c : Call) : Type 0 where
  pub begun : IsBegun c.words c.src
  pub some : begun.notice ≢ []
  pub unwritten : IsUnwritten c.out
  pub size : ℕ
  pub front : Gained c.err (take size begun.notice)
  pub failed : WriteFailed c.err

-- a refusal's line was cut off by the one write that failed, and the output gained nothing
pub record CutsRefusal (c : Call) : Type 0 where
  pub refusal : RouteRefusal
  pub notice : List ℕ
  pub stopped : IsStopped c.words c.src c.out notice refusal
  pub size : ℕ
  pub front : Gained c.err (notice ++ take size (route_line refusal))
  pub failed : WriteFailed c.err

-- the answer was cut off by the one write of the output that failed, and err has the notice and the
-- line that tells it, or, if a write of err failed too, a prefix of that line
pub record CutsAnswer (c : Call) : Type 0 where
  pub size : ℕ
  pub front : AnswersPart c.words c.src c.out (take size)
  pub failed : WriteFailed c.out
  pub line :
      (NoWriteFailed c.err × Gained c.err (front.begun.notice ++ refusal_line refusal.WriteFault))
      ⊎ (WriteFailed c.err
      × ((k : ℕ) × Gained c.err (front.begun.notice ++ take k (refusal_line refusal.WriteFault))))

-- the output has the whole answer, there is a line beside it, and this was cut off by the one write
-- that failed
pub record CutsBeside (c : Call) : Type 0 where
  pub line : List ℕ
  pub some : line ≢ []
  pub done : AnswersAll c.words c.src c.out line
  pub out_calm : NoWriteFailed c.out
  pub size : ℕ
  pub front : Gained c.err (done.begun.notice ++ take size line)
  pub failed : WriteFailed c.err

-- a run is cut off at the notice, at the line of a refusal, at the answer, or at the line beside it
abbrev pub IsCut : Call → Type 0
IsCut c = CutsNotice c ⊎ (CutsRefusal c ⊎ (CutsAnswer c ⊎ CutsBeside c))

-- how a run ends: by its status it is answered, refused or cut off
pub record RouteEnds (c : Call) (status : ℕ) : Type 0 where
  pub done : status ≡ 0 → HasAnswered c
  pub refused : status ≢ 0 → status ≢ 6 → HasRefused c status
  pub cut : status ≡ 6 → IsCut c
  pub front : (given : List ℕ) × Gave c.src given

-- err has all of the notice, and then the answer was cut off, or the output was not written to if
-- there is another reason
abbrev pub HasBrokenOff : List (List ℕ) → Reading → (out err : Writing) → RouteRefusal → Type 0
HasBrokenOff words src out err r =
    (notice : List ℕ) × Gained err notice
    × (((r ≡ Common refusal.WriteFault) × WriteFailed out
    × ((k : ℕ) × (part : AnswersPart words src out (take k)) × (notice ≡ part.begun.notice)))
    ⊎ IsStopped words src out notice r)

-- why a run ends before its last line: a refusal is to be told, or the notice was cut off
abbrev pub HasEarlyEnd : List (List ℕ) → Reading → (out err : Writing) → Stop → Type 0
HasEarlyEnd words src out err (Refused r) = HasBrokenOff words src out err r × NoWriteFailed err
HasEarlyEnd words src out err Untold = CutsNotice (call words src out err)

-- ---- what follows for the words `route`
-- If the source tells the bytes that it had left, and the output the bytes that it held, then the
-- bytes that the output gained carry the design of the bytes that the source had left.
abbrev pub WritesItsPattern : Reading → Writing → Type 0
WritesItsPattern src out =
    (text before : List ℕ) → src.left ≡ Some text → out.written ≡ Some before
    → (pattern : List ℕ) × (out.written_after ≡ Some (before ++ pattern))
    × (design : Design) × IsDesignOf text design × Carries pattern design

-- So each NET line of what it gained shows a net of this design; with `--nets` each net but the clock
-- nets has such a line.
abbrev pub WritesItsNets : ShownNets → Reading → Writing → Type 0
WritesItsNets nets src out =
    (text before : List ℕ) → src.left ≡ Some text → out.written ≡ Some before
    → (pattern : List ℕ) × (out.written_after ≡ Some (before ++ pattern))
    × (design : Design) × IsDesignOf text design × ShowsNetsBy nets pattern design

-- the words ask for `route`, the source has the text of a netlist within the limits, and nothing
-- fails
pub record IsCalmRoute (c : Call) (text : List ℕ) (design : Design) : Type 0 where
  pub nets : ShownNets
  pub asked : AsksFor c.words (Route nets)
  pub has : c.src.left ≡ Some text
  pub short : length text ≤ text_limit
  pub netlist : IsNetlist text design
  pub reads : ReadFailed c.src → ⊥
  pub writes : WriteFailed c.out → ⊥
  pub tells : WriteFailed c.err → ⊥

-- such a run is answered, unless memory runs out
abbrev pub RoutesEachNetlist : Call → (status : ℕ) → Type 0
RoutesEachNetlist c status =
    (text : List ℕ) (design : Design) → IsCalmRoute c text design → (status ≡ 0) ⊎ (status ≡ 7)
