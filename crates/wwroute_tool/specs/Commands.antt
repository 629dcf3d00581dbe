-- For each command: what it makes of a text, what it tells before and beside that, and why it refuses
-- a text.
use Rattle.std.specs.Prelude.{ℕ, ◌≡◌, List, []}
use Rattle.netlist_core.specs.declared.model.Design.{Design}
use Rattle.netlist_meaning.specs.Weight.{weight}
use Rattle.netlist_text.specs.NetlistText.{IsNetlist}
use Rattle.wwroute_tool.specs.declared.words.Command.{Command}
use Rattle.wwroute_tool.specs.declared.words.Command.TheVariants.{Extract, Route}
use Rattle.wwroute_tool.specs.declared.refusal.RouteRefusal.{RouteRefusal}
use Rattle.wwroute_tool.specs.Carried.{GivesNetlist, GivesPattern}
use Rattle.wwroute_tool.specs.Answers.{TellsSize, notice_for, report_line}
use Rattle.wwroute_tool.specs.Refusing.{HasNoRoutedCircuit, HasNoPatternOf}

-- the command makes this answer of a text: `extract` the text of a netlist that the pattern carries,
-- and `route` the text of a pattern that carries the netlist and shows its nets
abbrev pub Makes : Command → (text answer : List ℕ) → Type 0
Makes Extract text answer = GivesNetlist text answer
Makes (Route nets) text answer = GivesPattern nets text answer

-- the line that err gains before the command makes an answer of the text: none before a netlist, and
-- before a pattern the notice for the netlist's weight
abbrev pub TellsBefore : Command → (text notice : List ℕ) → Type 0
TellsBefore Extract text notice = notice ≡ []
TellsBefore (Route nets) text notice =
    (design : Design) × IsNetlist text design × (notice ≡ report_line (notice_for (weight design)))

-- the line that err gains beside this answer: none beside a netlist, and beside a pattern one that
-- tells its size
abbrev pub TellsBeside : Command → (answer line : List ℕ) → Type 0
TellsBeside Extract answer line = line ≡ []
TellsBeside (Route nets) answer line = TellsSize answer line

-- why the command refuses a text
abbrev pub HasTextReason : Command → List ℕ → RouteRefusal → Type 0
HasTextReason Extract text refusal = HasNoRoutedCircuit text refusal
HasTextReason (Route nets) text refusal = HasNoPatternOf text refusal
