-- What the ends of runs say of each command.
use Rattle.std.proofs.Common.{ℕ, ◌≡◌, ⊎_elim, inl, inr, refl, sym, ap, ◌∙◌, subst, List, [], length, get_or, arith}
use Rattle.std.proofs.lemmas.Bool.{cases_eq}
use Rattle.netlist_core.specs.declared.model.Design.{Design}
use Rattle.netlist_text.specs.NetlistText.{IsNetlist}
use Rattle.netlist_text.proofs.Decided.{not_at_fault, not_heavy, not_a_loop}
use Rattle.program_runs.specs.declared.causes.Cause.{Cause}
use Rattle.program_runs.specs.declared.causes.Cause.TheVariants.{NetlistFault, WeightTooLarge, Loop, AigAtFault, AigLoop, Pattern, GridTooLarge, PortTable, Streams, StartWord, NoSuchNet, TooFar, TooManyContexts, NotQuiet, NotCircuit as NoDrawing}
use Rattle.program_runs.specs.declared.refusal.Refusal.TheVariants as refusal
use Rattle.program_runs.specs.Runs.{Call, Reading, Writing}
use Rattle.program_runs.specs.Netlists.{IsNetlistOf, WritesItsNetlist}
use Rattle.program_runs.proofs.Given.{gave_whole, gained_whole, no_more}
use Rattle.routed_plans.specs.declared.nets.ShownNets.{ShownNets}
use Rattle.routed_plans.specs.declared.nets.ShownNets.TheVariants as which
use Rattle.routed_plans.proofs.DesignNets.{carried_by}
use Rattle.wwroute_tool.specs.declared.words.Command.{Command}
use Rattle.wwroute_tool.specs.declared.words.Command.TheVariants.{Extract, Route}
use Rattle.wwroute_tool.specs.declared.refusal.RouteRefusal.{RouteRefusal}
use Rattle.wwroute_tool.specs.declared.refusal.RouteRefusal.TheVariants.{Usage, Common, NotCircuit}
use Rattle.wwroute_tool.specs.Words.{AsksFor}
use Rattle.wwroute_tool.specs.Carried.{GivesNetlist, GivesPattern}
use Rattle.wwroute_tool.specs.Commands.{Makes}
use Rattle.wwroute_tool.specs.Refusing.{HasNoPatternOf, IsNoNetlist, route_status}
use Rattle.wwroute_tool.specs.Runs.{AnswersAll, IsBegun, IsCut, RouteEnds, GaveNoAnswer, HasCommandReason, HasRouteReason, IsCalmRoute, HasRefused, RoutesEachNetlist, WritesItsNets, WritesItsPattern}

abbrev word_count : List (List ℕ) → ℕ
word_count words = length words

abbrev second_size : List (List ℕ) → ℕ
second_size words = length (get_or words 1 [])

-- words ask for one command
one_command : (words : List (List ℕ)) (a b : Command) → AsksFor words a → AsksFor words b → a ≡ b
one_command words Extract Extract asks others = refl
one_command words Extract (Route which.Drawn) asks others = let e : 7 ≡ 5 = ap second_size (sym asks.1 ∙ others.1) in absurd (omega (arith, e))
one_command words Extract (Route which.All) asks others = let e : 7 ≡ 5 = ap second_size (sym asks.1 ∙ others.1) in absurd (omega (arith, e))
one_command words (Route which.Drawn) Extract asks others = let e : 5 ≡ 7 = ap second_size (sym asks.1 ∙ others.1) in absurd (omega (arith, e))
one_command words (Route which.All) Extract asks others = let e : 5 ≡ 7 = ap second_size (sym asks.1 ∙ others.1) in absurd (omega (arith, e))
one_command words (Route which.Drawn) (Route which.Drawn) asks others = refl
one_command words (Route which.Drawn) (Route which.All) asks others = let e : 2 ≡ 3 = ap word_count (sym asks.1 ∙ others.1) in absurd (omega (arith, e))
one_command words (Route which.All) (Route which.Drawn) asks others = let e : 3 ≡ 2 = ap word_count (sym asks.1 ∙ others.1) in absurd (omega (arith, e))
one_command words (Route which.All) (Route which.All) asks others = refl

-- ---- what is written
module _ (words : List (List ℕ)) (src : Reading) (out : Writing) (line : List ℕ) (all : AnswersAll words src out line) where
  abbrev d : IsBegun words src
  d = all.begun

  abbrev answer : List ℕ
  answer = all.made.whole.answer

  makes : (command : Command) → AsksFor words command → Makes command d.text answer
  makes command asks = subst (λ (c : Command). Makes c d.text answer) (one_command words d.command command d.asked asks) all.made.whole.makes

  pub writes_netlist : AsksFor words Extract → WritesItsNetlist src out
  writes_netlist asks text before has held =
      let given : d.text ≡ text = gave_whole src.left src.left_after d.text text d.given.consumed d.given.end has in
      let gives : GivesNetlist d.text answer = makes Extract asks in
      (answer, gained_whole out.written out.written_after answer before all.made.whole.wrote held, gives.0, subst (λ (t : List ℕ). IsNetlistOf t answer gives.0) given gives.1)

  pub writes_nets : (nets : ShownNets) → AsksFor words (Route nets) → WritesItsNets nets src out
  writes_nets nets asks text before has held =
      let given : d.text ≡ text = gave_whole src.left src.left_after d.text text d.given.consumed d.given.end has in
      let gives : GivesPattern nets d.text answer = makes (Route nets) asks in
      (answer, gained_whole out.written out.written_after answer before all.made.whole.wrote held, gives.0, (subst (λ (t : List ℕ). IsNetlist t gives.0) given gives.1).is.design_of, gives.2)

  pub writes_pattern : (nets : ShownNets) → AsksFor words (Route nets) → WritesItsPattern src out
  writes_pattern nets asks text before has held =
      let w = writes_nets nets asks text before has held in
      (w.0, w.1, w.2, w.3, carried_by nets w.0 w.2 w.4)

-- ---- each netlist is routed
-- a netlist is not refused
none_refused : (text : List ℕ) (design : Design) (cause : Cause) → IsNetlist text design → IsNoNetlist text cause → ⊥
none_refused text design (NetlistFault fault) is h = not_at_fault text design fault is h
none_refused text design (WeightTooLarge weight) is h = not_heavy text design weight is h
none_refused text design (Loop names) is h = not_a_loop text design names is h
none_refused text design (AigAtFault fault) is h = h
none_refused text design (AigLoop literals) is h = h
none_refused text design (Pattern fault) is h = h
none_refused text design (GridTooLarge width height) is h = h
none_refused text design (PortTable fault) is h = h
none_refused text design (Streams fault) is h = h
none_refused text design (StartWord fault) is h = h
none_refused text design (NoSuchNet name) is h = h
none_refused text design (TooFar generations) is h = h
none_refused text design (TooManyContexts contexts limit) is h = h
none_refused text design (NotQuiet generation x y) is h = h
none_refused text design (NoDrawing fault) is h = h

module _ (c : Call) (text : List ℕ) (design : Design) (calm : IsCalmRoute c text design) where
  -- the text that is refused is the one that the source has
  of_text : (r : RouteRefusal) → GaveNoAnswer (Route calm.nets) c.src r → HasNoPatternOf text r
  of_text r h = subst (λ (t : List ℕ). HasNoPatternOf t r) (gave_whole c.src.left c.src.left_after h.text text h.given.consumed h.given.end calm.has) h.reason

  only_memory : (r : RouteRefusal) → HasCommandReason (Route calm.nets) c.src r → route_status r ≡ 7
  only_memory Usage h = absurd (of_text Usage h)
  only_memory (NotCircuit fault) h = absurd (of_text (NotCircuit fault) h)
  only_memory (Common refusal.Usage) h = absurd (of_text (Common refusal.Usage) h)
  only_memory (Common refusal.TooLong) h =
      let few = no_more c.src.left c.src.left_after h.given text h.gave calm.has in
      absurd (omega (arith, few, calm.short, h.many))
  only_memory (Common refusal.ReadFault) h = absurd (calm.reads h)
  only_memory (Common refusal.WriteFault) h = absurd (of_text (Common refusal.WriteFault) h)
  only_memory (Common refusal.NoMemory) h = refl
  only_memory (Common (refusal.Text cause)) h = absurd (none_refused text design cause calm.netlist (of_text (Common (refusal.Text cause)) h))

  refused_by : (r : RouteRefusal) → HasRouteReason c.words c.src r → route_status r ≡ 7
  refused_by r (inl (usage, none, untouched)) = absurd (none (Route calm.nets) calm.asked)
  refused_by r (inr (command, asked, reason)) =
      only_memory r (subst (λ (k : Command). HasCommandReason k c.src r) (one_command c.words command (Route calm.nets) asked calm.asked) reason)

  never_cut : IsCut c → ⊥
  never_cut (inl cut) = calm.tells cut.failed
  never_cut (inr (inl cut)) = calm.tells cut.failed
  never_cut (inr (inr (inl cut))) = calm.writes cut.failed
  never_cut (inr (inr (inr cut))) = calm.tells cut.failed

pub routes : (c : Call) (status : ℕ) → RouteEnds c status → RoutesEachNetlist c status
routes c status ends text design calm =
    ⊎_elim (λ (zero : status ≡ 0). inl zero)
    (λ (some : status ≡ 0 → ⊥).
    inr (let refused : HasRefused c status = ends.refused some (λ (six : status ≡ 6). never_cut c text design calm (ends.cut six)) in
    refused.told ∙ refused_by c text design calm refused.refusal refused.stopped.reason))
    (cases_eq status 0)
