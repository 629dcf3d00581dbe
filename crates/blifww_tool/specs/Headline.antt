-- The headline, its general case in contexts and with words, and what tapes, circuits, dumps and
-- lifted netlists are.
use Rattle.std.specs.Prelude.{◌≡◌, ℕ, List, ◌++◌, Some}
use Rattle.netlist_core.specs.declared.model.Design.{Design}
use Rattle.blif_text.specs.Faults.{IsDesignOf}
use Rattle.carries.specs.Carries.{Carries}
use Rattle.carries.specs.Nets.{CarriesNets}
use Rattle.carries.specs.DesignContexts.{CarriesContexts, CarriesNetsInContexts}
use Rattle.carries.specs.ByItself.{RunsByItself}
use Rattle.streams.specs.Rows.{rows_of}
use Rattle.start_words.specs.Starts.{starts_of_words}
use Rattle.aiger_text.specs.declared.aig.Aig.{Aig}
use Rattle.aiger_text.specs.AigText.{ReadsAsAig}
use Rattle.aiger_plans.specs.CarriesAig.{CarriesAig}
use Rattle.vcd_write.specs.Laws.{SaysWaves}
use Rattle.vcd_write.specs.Writing.{vcd_text}
use Rattle.blifww_tool.specs.Simulation.{Simulation, IsSimulation}
use Rattle.blifww_tool.specs.Evaluation.{Evaluation, IsEvaluation}
use Rattle.blifww_tool.specs.Dumping.{waves_of}
use Rattle.program_runs.specs.Netlists.{IsNetlistOf}
use Rattle.program_runs.specs.Runs.{Reading, Writing}

-- If the source tells the bytes that it had left, and the output the bytes that it held, then the
-- bytes that the output gained carry the design of the bytes that the source had left, and its
-- nets.
abbrev pub WritesWhatItRead : Reading → Writing → Type 0
WritesWhatItRead src out =
    (text before : List ℕ) → src.left ≡ Some text → out.written ≡ Some before
    → (pattern : List ℕ) × (out.written_after ≡ Some (before ++ pattern))
    × (design : Design) × IsDesignOf text design × Carries pattern design
    × CarriesNets pattern design

-- the bytes that the output gained carry the design of the bytes that the source had left, and its
-- nets, in these contexts, each from the start that the words give it
abbrev pub WritesInContexts : (contexts : ℕ) → (starts : List (List ℕ)) → Reading → Writing → Type 0
WritesInContexts contexts starts src out =
    (text before : List ℕ) → src.left ≡ Some text → out.written ≡ Some before
    → (pattern : List ℕ) × (out.written_after ≡ Some (before ++ pattern))
    × (design : Design) × IsDesignOf text design
    × CarriesContexts pattern design (starts_of_words design starts contexts)
    × CarriesNetsInContexts pattern design (starts_of_words design starts contexts)

-- the bytes that the output gained run by themselves as the netlist of the bytes that the source
-- had left, on the streams of the words
abbrev pub WritesTape : (cycles : ℕ) → (words : List (List ℕ)) → Reading → Writing → Type 0
WritesTape cycles words src out =
    (text before : List ℕ) → src.left ≡ Some text → out.written ≡ Some before
    → (pattern : List ℕ) × (out.written_after ≡ Some (before ++ pattern))
    × (e : Evaluation) × IsEvaluation cycles words text e
    × RunsByItself pattern e.design (rows_of e.streams)

-- the bytes that the source had left read as a circuit, and the bytes that the output gained carry
-- it
abbrev pub WritesItsAig : Reading → Writing → Type 0
WritesItsAig src out =
    (text before : List ℕ) → src.left ≡ Some text → out.written ≡ Some before
    → (pattern : List ℕ) × (out.written_after ≡ Some (before ++ pattern))
    × (aig : Aig) × ReadsAsAig text aig × CarriesAig pattern aig

-- the bytes that the output gained are the text of what the nets show in the simulation that the
-- source and the words give, and read as that alone
abbrev pub WritesDump : (cycles : ℕ) → (words : List (List ℕ)) → Reading → Writing → Type 0
WritesDump cycles words src out =
    (text before : List ℕ) → src.left ≡ Some text → out.written ≡ Some before
    → (dump : List ℕ) × (out.written_after ≡ Some (before ++ dump))
    × (s : Simulation) × IsSimulation cycles words text s × (dump ≡ vcd_text (waves_of s))
    × SaysWaves (waves_of s)
