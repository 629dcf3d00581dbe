-- What a task does is what its command does with its text.
use Rattle.std.proofs.Common.{ℕ, ◌≡◌, ◌⊎◌, inl, inr, refl, ap, subst, List}
use Rattle.netlist_text.specs.declared.netlist.Netlist.{Netlist}
use Rattle.netlist_text.specs.NetlistText.{IsNetlist}
use Rattle.program_runs.specs.Runs.{Reading, Writing, Gained}
use Rattle.program_runs.specs.declared.refusal.Refusal.TheVariants as refusal
use Rattle.routed_plans.specs.declared.nets.ShownNets.{ShownNets}
use Rattle.wwroute_tool.specs.declared.words.Command.{Command}
use Rattle.wwroute_tool.specs.declared.words.Command.TheVariants.{Extract, Route}
use Rattle.wwroute_tool.specs.declared.refusal.RouteRefusal.{RouteRefusal}
use Rattle.wwroute_tool.specs.declared.refusal.RouteRefusal.TheVariants.{Common}
use Rattle.wwroute_tool.specs.declared.report.Report.TheVariants as report
use Rattle.wwroute_tool.specs.declared.task.Task.{Task}
use Rattle.wwroute_tool.specs.declared.task.Task.TheVariants as tasks
use Rattle.wwroute_tool.specs.Answers.{notice_for, report_line}
use Rattle.wwroute_tool.specs.Commands.{TellsBefore}
use Rattle.wwroute_tool.specs.Runs.{AnswersAll, HasBrokenOff, IsBeforeRefusal, IsBegun}
use Rattle.wwroute_tool.specs.Tasks.{BreaksOffTask, ForTask, HasTask, IsSoundTask, IsTaskOf, MakesAll, notice_of}
use Rattle.wwroute_tool.proofs.Endings.{by_text}

-- what holds for the command of a task holds for each command and text whose task it is
pub of_extract : (read : List ℕ) (holds : Command → List ℕ → Type 0) → holds Extract read → ForTask (tasks.Extract read) holds
of_extract read holds h Extract text is = subst (holds Extract) is h
of_extract read holds h (Route nets) text is = absurd is

pub of_route : (netlist : Netlist) (nets : ShownNets) (holds : Command → List ℕ → Type 0) → ((text : List ℕ) → IsNetlist text netlist.design → holds (Route nets) text) → ForTask (tasks.Route netlist nets) holds
of_route netlist nets holds h Extract text is = absurd is
of_route netlist nets holds h (Route other) text is = subst (λ (n : ShownNets). holds (Route n) text) is.0 (h text is.1)

-- the notice of a task is that of its command and its text
pub before_is : (command : Command) (text : List ℕ) (t : Task) → IsTaskOf command text t → IsSoundTask t → TellsBefore command text (report_line (notice_of t))
before_is Extract text (tasks.Extract read) is sound = refl
before_is Extract text (tasks.Route netlist shown) is sound = absurd is
before_is (Route nets) text (tasks.Extract read) is sound = absurd is
before_is (Route nets) text (tasks.Route netlist shown) is sound = (netlist.design, is.1, ap (λ (n : ℕ). report_line (notice_for n)) sound.0.is_flat.weight)

module _ (words : List (List ℕ)) (src : Reading) (t : Task) (has : HasTask words src t) where
  abbrev pub begun : IsBegun words src
  begun = record {
    command = has.command;
    asked = has.asked;
    text = has.text;
    given = has.given;
    notice = report_line (notice_of t);
    before = before_is has.command has.text t has.is has.sound;
  }

  abbrev pub all_made : (out : Writing) (line : List ℕ) → ForTask t (λ command text. MakesAll command text out line) → AnswersAll words src out line
  all_made out line made = record { begun = begun; made = made has.command has.text has.is }

  before_refusal : (r : RouteRefusal) → (notice_of t ≡ report.Nothing) ⊎ (r ≡ Common refusal.NoMemory) → IsBeforeRefusal words src r (report_line (notice_of t))
  before_refusal r (inl none) = inl (ap report_line none)
  before_refusal r (inr memory) = inr (memory, (begun, refl))

  pub broken_off : (out err : Writing) (r : RouteRefusal) → Gained err (report_line (notice_of t)) → ForTask t (λ command text. BreaksOffTask command text t out r) → HasBrokenOff words src out err r
  broken_off out err r told breaks = go (breaks has.command has.text has.is)
    where
      go : BreaksOffTask has.command has.text t out r → HasBrokenOff words src out err r
      go (inl (write, failed, (k, part))) = (report_line (notice_of t), told, inl (write, failed, (k, record { begun = begun; made = part }, refl)))
      go (inr (unwritten, refuses)) = (
        report_line (notice_of t),
        told,
        inr (record {
          reason = by_text words src has.text has.command r has.asked has.given refuses.reason;
          before = before_refusal r refuses.silent;
          unwritten = unwritten;
        }),
      )
