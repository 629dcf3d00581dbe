-- How runs end.
use Rattle.std.proofs.Common.{ℕ, ◌≡◌, ◌≢◌, ◌<◌, ◌≤◌, ◌*◌, inl, inr, refl, sym, ap, ◌∙◌, subst, List, [], ◌++◌, length, take, arith}
use Rattle.std.specs.Prelude.{Option}
use Rattle.std.specs.Io.KnownBytes.{Appends}
use Rattle.std.proofs.KnownBytes.{Appends-trans}
use Rattle.ww_base.specs.Faults.{RoseByOne}
use Rattle.ww_base.specs.declared.whole.ReadAllError.{ReadAllError}
use Rattle.ww_base.specs.declared.whole.ReadAllError.TheVariants as read_error
use Rattle.rle_read.specs.Answers.{HasReadReason}
use Rattle.rle_read.specs.declared.error.RleReadError.{RleReadError}
use Rattle.rle_read.specs.declared.error.RleReadError.TheVariants as reading
use Rattle.port_table.specs.declared.faults.PortFault.{PortFault}
use Rattle.port_table.specs.declared.reading.PortReadError.{PortReadError}
use Rattle.port_table.specs.declared.reading.PortReadError.TheVariants as table
use Rattle.netlist_text.specs.Causes.{HasNetlistCause}
use Rattle.netlist_text.specs.declared.error.NetlistError.{NetlistError}
use Rattle.netlist_text.specs.declared.error.NetlistError.TheVariants as netlist
use Rattle.ww_rule.specs.Grid.{Grid}
use Rattle.pattern_reading.specs.Pattern.{ReadsWithinLimit}
use Rattle.pattern_reading.specs.PortTable.{HasPortFault}
use Rattle.program_runs.specs.Refusals.{netlist_error, pattern_error, read_refusal, refusal_line, table_error, text_refusal}
use Rattle.program_runs.proofs.Statuses.{cause_is, never_done as common_is}
use Rattle.program_runs.specs.declared.refusal.Refusal.TheVariants as refusal
use Rattle.program_runs.specs.Runs.{Call, call, Reading, Writing, Gave, GaveAll, Gained, NoReadFailed, ReadFailed, NoWriteFailed, WriteFailed, text_limit}
use Rattle.wwroute_tool.specs.declared.words.Command.{Command}
use Rattle.wwroute_tool.specs.declared.words.Command.TheVariants.{Extract, Route}
use Rattle.wwroute_tool.specs.declared.refusal.RouteRefusal.{RouteRefusal}
use Rattle.wwroute_tool.specs.declared.refusal.RouteRefusal.TheVariants.{Usage, Common, NotCircuit}
use Rattle.wwroute_tool.specs.declared.top.Stop.{Stop}
use Rattle.wwroute_tool.specs.declared.top.Stop.TheVariants.{Refused}
use Rattle.wwroute_tool.specs.Words.{AsksFor}
use Rattle.wwroute_tool.specs.Commands.{HasTextReason}
use Rattle.route_tables.specs.Limit.{box_limit}
use Rattle.wwroute_tool.specs.Refusing.{HasNoRoutedCircuit, HasNoPatternOf, NeedsNoReason, IsPatternText, route_line, route_status}
use Rattle.wwroute_tool.specs.Runs.{CutsNotice, AnswersAll, IsCut, RouteEnds, HasCommandReason, HasRouteReason, HasBrokenOff, HasEarlyEnd}

-- ---- reasons
pub pattern_reason : (text : List ℕ) (e : RleReadError) → HasReadReason text e → HasNoRoutedCircuit text (Common (text_refusal (pattern_error e)))
pattern_reason text (reading.Fault f) h = h
pattern_reason text (reading.TooLarge width height) h = inl h
pattern_reason text reading.NoMemory h = tt

pub table_reason : (text : List ℕ) (grid : Grid) (e : PortReadError) → ReadsWithinLimit text grid
    → ((f : PortFault) → e ≡ table.Fault f → HasPortFault text grid.width grid.height f.kind f.line) → HasNoRoutedCircuit text (Common (text_refusal (table_error e)))
table_reason text grid (table.Fault f) reads faults = (grid, reads, faults f refl)
table_reason text grid table.NoMemory reads faults = tt

-- a free refusal is one of a pattern with a table
pub free_reason : (text : List ℕ) (r : RouteRefusal) → NeedsNoReason r → ((grid : Grid) × (ports : _) × IsPatternText text grid ports × (grid.width * grid.height ≤ box_limit)) → HasNoRoutedCircuit text r
free_reason text Usage free is = absurd free
free_reason text (NotCircuit fault) free is = is
free_reason text (Common refusal.Usage) free is = absurd free
free_reason text (Common refusal.TooLong) free is = absurd free
free_reason text (Common refusal.ReadFault) free is = absurd free
free_reason text (Common refusal.WriteFault) free is = absurd free
free_reason text (Common refusal.NoMemory) free is = tt
free_reason text (Common (refusal.Text cause)) free is = absurd free

pub netlist_reason : (text : List ℕ) (e : NetlistError) → HasNetlistCause text e → HasNoPatternOf text (Common (text_refusal (netlist_error e)))
netlist_reason text (netlist.Fault fault) h = h
netlist_reason text (netlist.TooLarge weight) h = h
netlist_reason text (netlist.Loop names) h = h
netlist_reason text netlist.NoMemory h = tt

-- no text is a reason for these
never_too_long : (command : Command) (text : List ℕ) → HasTextReason command text (Common refusal.TooLong) → ⊥
never_too_long Extract text h = h
never_too_long (Route nets) text h = h

never_read_fault : (command : Command) (text : List ℕ) → HasTextReason command text (Common refusal.ReadFault) → ⊥
never_read_fault Extract text h = h
never_read_fault (Route nets) text h = h

never_write_fault : (command : Command) (text : List ℕ) → HasTextReason command text (Common refusal.WriteFault) → ⊥
never_write_fault Extract text h = h
never_write_fault (Route nets) text h = h

reason_of_text : (src : Reading) (text : List ℕ) (command : Command) (r : RouteRefusal) → GaveAll src text → HasTextReason command text r → HasCommandReason command src r
reason_of_text src text command Usage given h = record { text = text; given = given; reason = h }
reason_of_text src text command (NotCircuit fault) given h = record { text = text; given = given; reason = h }
reason_of_text src text command (Common refusal.Usage) given h = record { text = text; given = given; reason = h }
reason_of_text src text command (Common refusal.TooLong) given h = absurd (never_too_long command text h)
reason_of_text src text command (Common refusal.ReadFault) given h = absurd (never_read_fault command text h)
reason_of_text src text command (Common refusal.WriteFault) given h = record { text = text; given = given; reason = h }
reason_of_text src text command (Common refusal.NoMemory) given h = given.calm
reason_of_text src text command (Common (refusal.Text cause)) given h = record { text = text; given = given; reason = h }

pub by_text : (words : List (List ℕ)) (src : Reading) (text : List ℕ) (command : Command) (r : RouteRefusal) → AsksFor words command → GaveAll src text → HasTextReason command text r → HasRouteReason words src r
by_text words src text command r asked given h = inr (command, asked, reason_of_text src text command r given h)

reason_of_read : (src : Reading) (command : Command) (e : ReadAllError) → (((e ≡ read_error.ReadFault) → ⊥) → NoReadFailed src) → ((e ≡ read_error.ReadFault) → ReadFailed src)
    → ((e ≡ read_error.TooLong) → (given : List ℕ) × Gave src given × (text_limit < length given)) → HasCommandReason command src (Common (read_refusal e))
reason_of_read src command read_error.ReadFault calm failed long = failed refl
reason_of_read src command read_error.TooLong calm failed long = let l = long refl in record { given = l.0; gave = l.1; many = l.2; calm = calm (λ e. cc) }
reason_of_read src command read_error.NoMemory calm failed long = calm (λ e. cc)

pub by_read : (words : List (List ℕ)) (src : Reading) (command : Command) (e : ReadAllError) → AsksFor words command → (((e ≡ read_error.ReadFault) → ⊥) → NoReadFailed src) → ((e ≡ read_error.ReadFault) → ReadFailed src)
    → ((e ≡ read_error.TooLong) → (given : List ℕ) × Gave src given × (text_limit < length given)) → HasRouteReason words src (Common (read_refusal e))
by_read words src command e asked calm failed long = inr (command, asked, reason_of_read src command e calm failed long)

-- ---- statuses
pub never_done : (r : RouteRefusal) → route_status r ≢ 0
never_done Usage = λ e. cc
never_done (NotCircuit fault) = λ e. cc
never_done (Common r) = common_is r

-- a refusal with a reason has not the status of a failed write
command_never_cut : (command : Command) (src : Reading) (r : RouteRefusal) → HasCommandReason command src r → route_status r ≢ 6
command_never_cut command src Usage h = λ e. cc
command_never_cut command src (NotCircuit fault) h = λ e. cc
command_never_cut command src (Common refusal.Usage) h = λ e. cc
command_never_cut command src (Common refusal.TooLong) h = λ e. cc
command_never_cut command src (Common refusal.ReadFault) h = λ e. cc
command_never_cut command src (Common refusal.WriteFault) h = absurd (never_write_fault command h.text h.reason)
command_never_cut command src (Common refusal.NoMemory) h = λ e. cc
command_never_cut command src (Common (refusal.Text cause)) h = (cause_is cause).1

never_cut : (words : List (List ℕ)) (src : Reading) (r : RouteRefusal) → HasRouteReason words src r → route_status r ≢ 6
never_cut words src r (inl (usage, none, untouched)) = λ six. not_both (route_status r) (ap route_status usage) six
  where
    not_both : (s : ℕ) → s ≡ 2 → s ≡ 6 → ⊥
    not_both s a b = omega (arith, a, b)
never_cut words src r (inr (command, asked, reason)) = command_never_cut command src r reason

-- ---- ends
-- a run whose err held `old`, then `mid` and at the end `new`, with the faults f, g and h
module _ (words : List (List ℕ)) (src : Reading) (out : Writing) (old mid new : Option (List ℕ)) (f g h : ℕ) (front : (given : List ℕ) × Gave src given) where
  abbrev before : Writing
  before = record { written = old; written_after = mid; faults = f; faults_after = g }

  abbrev whole : Writing
  whole = record { written = old; written_after = new; faults = f; faults_after = h }

  gained : (notice line : List ℕ) → Gained before notice → Appends mid new line → Gained whole (notice ++ line)
  gained notice line first last = Appends-trans old mid new notice line first last

  calm_after : NoWriteFailed before → h ≡ g → NoWriteFailed whole
  calm_after calm same = same ∙ calm

  failed_after : NoWriteFailed before → RoseByOne g h → WriteFailed whole
  failed_after calm rose = subst (λ (n : ℕ). RoseByOne n h) calm rose

  pub done : (line : List ℕ) (d : AnswersAll words src out line) → Gained before d.begun.notice → Appends mid new line → NoWriteFailed out → NoWriteFailed before → h ≡ g → RouteEnds (call words src out whole) 0
  done line d first last out_calm calm same =
      record {
        done = λ e. record { line = line; done = d; told = gained d.begun.notice line first last; out_calm = out_calm; err_calm = calm_after calm same };
        refused = λ zero six. absurd (zero refl);
        cut = λ e. absurd (omega (arith, e));
        front = front;
      }

  -- the answer is whole, but the line beside it is not
  pub done_cut : (line : List ℕ) (d : AnswersAll words src out line) → line ≢ [] → Gained before d.begun.notice → ((k : ℕ) × Appends mid new (take k line)) → NoWriteFailed out → NoWriteFailed before → RoseByOne g h
      → RouteEnds (call words src out whole) 6
  done_cut line d some first last out_calm calm rose =
      record {
        done = λ e. absurd (omega (arith, e));
        refused = λ zero six. absurd (six refl);
        cut = λ e. inr (inr (inr (record { line = line; some = some; done = d; out_calm = out_calm; size = last.0; front = gained d.begun.notice (take last.0 line) first last.1; failed = failed_after calm rose })));
        front = front;
      }

  -- a refusal is told,
  pub told : (status : ℕ) (r : RouteRefusal) → status ≡ route_status r → HasBrokenOff words src out before r → NoWriteFailed before → Appends mid new (route_line r) → h ≡ g → RouteEnds (call words src out whole) status
  told status r is (notice, first, inl (write, failed, (k, part, own))) calm last same =
      let six : status ≡ 6 = is ∙ ap route_status write in
      let line : Gained whole (notice ++ refusal_line refusal.WriteFault) = subst (λ (x : RouteRefusal). Gained whole (notice ++ route_line x)) write (gained notice (route_line r) first last) in
      record {
        done = λ e. absurd (omega (arith, e, six));
        refused = λ zero other. absurd (other six);
        cut = λ e. inr (inr (inl (record {
          size = k;
          front = part;
          failed = failed;
          line = inl (calm_after calm same, subst (λ (n : List ℕ). Gained whole (n ++ refusal_line refusal.WriteFault)) own line);
        })));
        front = front;
      }
  told status r is (notice, first, inr stopped) calm last same =
      record {
        done = λ e. absurd (never_done r (sym is ∙ e));
        refused = λ zero other. record { refusal = r; notice = notice; stopped = stopped; told = is; line = gained notice (route_line r) first last; err_calm = calm_after calm same };
        cut = λ e. absurd (never_cut words src r stopped.reason (sym is ∙ e));
        front = front;
      }

  cut_by : (r : RouteRefusal) → HasBrokenOff words src out before r → NoWriteFailed before → ((k : ℕ) × Appends mid new (take k (route_line r))) → RoseByOne g h → IsCut (call words src out whole)
  cut_by r (notice, first, inl (write, failed, (k, part, own))) calm last rose =
      let line : Gained whole (notice ++ take last.0 (refusal_line refusal.WriteFault)) = subst (λ (x : RouteRefusal). Gained whole (notice ++ take last.0 (route_line x))) write (gained notice (take last.0 (route_line r)) first last.1) in
      inr (inr (inl (record {
        size = k;
        front = part;
        failed = failed;
        line = inr (failed_after calm rose, (last.0, subst (λ (n : List ℕ). Gained whole (n ++ take last.0 (refusal_line refusal.WriteFault))) own line));
      })))
  cut_by r (notice, first, inr stopped) calm last rose =
      inr (inl (record { refusal = r; notice = notice; stopped = stopped; size = last.0; front = gained notice (take last.0 (route_line r)) first last.1; failed = failed_after calm rose }))

  -- or its line is cut off
  pub told_cut : (r : RouteRefusal) → HasBrokenOff words src out before r → NoWriteFailed before → ((k : ℕ) × Appends mid new (take k (route_line r))) → RoseByOne g h → RouteEnds (call words src out whole) 6
  told_cut r stopped calm last rose =
      record {
        done = λ e. absurd (omega (arith, e));
        refused = λ zero other. absurd (other refl);
        cut = λ e. cut_by r stopped calm last rose;
        front = front;
      }

-- an early end at a refusal
pub refused_early : (words : List (List ℕ)) (src : Reading) (out err : Writing) (stop : Stop) (r : RouteRefusal) → stop ≡ Refused r → HasEarlyEnd words src out err stop → HasBrokenOff words src out err r × NoWriteFailed err
refused_early words src out err stop r is h = subst (λ (s : Stop). HasEarlyEnd words src out err s) is h

-- the notice is cut off
pub unnoticed : (c : Call) → CutsNotice c → ((given : List ℕ) × Gave c.src given) → RouteEnds c 6
unnoticed c cut front =
    record {
      done = λ e. absurd (omega (arith, e));
      refused = λ zero other. absurd (other refl);
      cut = λ e. inl cut;
      front = front;
    }
