-- What `compile` and `aiger` have written carries what they read; what `tape` has written runs by itself; what `vcd` has written is a
-- dump; and what `lift` has written is carried by what it read.
use Rattle.std.proofs.Common.{◌≡◌, ℕ, Some, subst, sym, List, []}
use Rattle.blif_text.specs.Faults.{IsDesignOf}
use Rattle.aiger_text.specs.AigText.{ReadsAsAig}
use Rattle.aiger_plans.specs.CarriesAig.{CarriesAig}
use Rattle.command_words.specs.Shapes.{CommandValues, aiger, compile, lift, tape, vcd}
use Rattle.blifww_tool.specs.Aigs.{CompilesAig}
use Rattle.blifww_tool.specs.Commands.{Prints}
use Rattle.blifww_tool.specs.Compilation.{Compiles}
use Rattle.blifww_tool.specs.Simulation.{IsSimulation}
use Rattle.blifww_tool.specs.Dumping.{Dumps}
use Rattle.blifww_tool.specs.Evaluation.{IsEvaluation}
use Rattle.lifted_designs.specs.Lifted.{lifted_design}
use Rattle.netlist_core.specs.declared.model.Design.{Design}
use Rattle.blifww_tool.specs.Lifting.{Lifts}
use Rattle.program_runs.specs.Netlists.{IsNetlistOf}
use Rattle.blifww_tool.specs.Taping.{Tapes}
use Rattle.blifww_tool.specs.Headline.{WritesDump, WritesInContexts, WritesItsAig, WritesTape, WritesWhatItRead}
use Rattle.program_runs.specs.Netlists.{WritesItsNetlist}
use Rattle.blifww_tool.specs.Run.{Asks, HasText, Does}
use Rattle.program_runs.specs.Runs.{Reading, Writing, GaveAll}
use Rattle.program_runs.proofs.Given.{gave_whole, gained_whole}
use Rattle.blifww_tool.proofs.Given.{one_command}
use Rattle.blifww_tool.proofs.Compiled.{carries_alone}

module _ (words : List (List ℕ)) (src : Reading) (out : Writing) (d : Does words src out (λ output. output)) where
  prints : (contexts : ℕ) (starts : List (List ℕ)) → Asks words (compile contexts starts) → Compiles contexts starts d.text d.output
  prints contexts starts asks = subst (λ (v : CommandValues). Prints v d.text d.output) (one_command words d.command (compile contexts starts) d.asked.asks asks) d.prints

  read : (contexts : ℕ) (starts : List (List ℕ)) (asks : Asks words (compile contexts starts)) (text : List ℕ) → src.left ≡ Some text → IsDesignOf text (prints contexts starts asks).design
  read contexts starts asks text has =
      let given : GaveAll src d.text = subst (λ (v : CommandValues). HasText v src d.text) (one_command words d.command (compile contexts starts) d.asked.asks asks) d.given in
      let p = prints contexts starts asks in
      subst (λ (t : List ℕ). IsDesignOf t p.design) (gave_whole src.left src.left_after d.text text given.consumed given.end has) p.has.netlist.is.design_of

  pub headline : Asks words (compile 1 []) → WritesWhatItRead src out
  headline asks text before has held =
      let p = prints 1 [] asks in
      let carries = carries_alone d.text d.output p in
      (d.output, gained_whole out.written out.written_after d.output before d.wrote held, p.design, read 1 [] asks text has, carries.0, carries.1)

  pub in_contexts : (contexts : ℕ) (starts : List (List ℕ)) → Asks words (compile contexts starts) → WritesInContexts contexts starts src out
  in_contexts contexts starts asks text before has held =
      let p = prints contexts starts asks in
      (d.output, gained_whole out.written out.written_after d.output before d.wrote held, p.design, read contexts starts asks text has, p.carries, p.nets)

  tape_prints : (cycles : ℕ) (given : List (List ℕ)) → Asks words (tape cycles given) → Tapes cycles given d.text d.output
  tape_prints cycles given asks = subst (λ (v : CommandValues). Prints v d.text d.output) (one_command words d.command (tape cycles given) d.asked.asks asks) d.prints

  pub tapes : (cycles : ℕ) (given : List (List ℕ)) → Asks words (tape cycles given) → WritesTape cycles given src out
  tapes cycles given asks text before has held =
      let p = tape_prints cycles given asks in
      let all : GaveAll src d.text = subst (λ (v : CommandValues). HasText v src d.text) (one_command words d.command (tape cycles given) d.asked.asks asks) d.given in
      let same : d.text ≡ text = gave_whole src.left src.left_after d.text text all.consumed all.end has in (
        d.output,
        gained_whole out.written out.written_after d.output before d.wrote held,
        p.evaluation,
        subst (λ (t : List ℕ). IsEvaluation cycles given t p.evaluation) same p.is,
        p.tape.runs,
      )

  aig_prints : Asks words aiger → CompilesAig d.text d.output
  aig_prints asks = subst (λ (v : CommandValues). Prints v d.text d.output) (one_command words d.command aiger d.asked.asks asks) d.prints

  pub aigs : Asks words aiger → WritesItsAig src out
  aigs asks text before has held =
      let p = aig_prints asks in
      let given : GaveAll src d.text = subst (λ (v : CommandValues). HasText v src d.text) (one_command words d.command aiger d.asked.asks asks) d.given in
      let same : d.text ≡ text = gave_whole src.left src.left_after d.text text given.consumed given.end has in (
        d.output,
        gained_whole out.written out.written_after d.output before d.wrote held,
        p.aig,
        subst (λ (t : List ℕ). ReadsAsAig t p.aig) same p.is.reads,
        subst (λ (o : List ℕ). CarriesAig o p.aig) (sym p.written) p.is_plan.carries,
      )

  dump_prints : (cycles : ℕ) (given : List (List ℕ)) → Asks words (vcd cycles given) → Dumps cycles given d.text d.output
  dump_prints cycles given asks = subst (λ (v : CommandValues). Prints v d.text d.output) (one_command words d.command (vcd cycles given) d.asked.asks asks) d.prints

  pub dumps : (cycles : ℕ) (given : List (List ℕ)) → Asks words (vcd cycles given) → WritesDump cycles given src out
  dumps cycles given asks text before has held =
      let p = dump_prints cycles given asks in
      let all : GaveAll src d.text = subst (λ (v : CommandValues). HasText v src d.text) (one_command words d.command (vcd cycles given) d.asked.asks asks) d.given in
      let same : d.text ≡ text = gave_whole src.left src.left_after d.text text all.consumed all.end has in (
        d.output,
        gained_whole out.written out.written_after d.output before d.wrote held,
        p.simulation,
        subst (λ (t : List ℕ). IsSimulation cycles given t p.simulation) same p.runs.is,
        p.written,
        p.says,
      )

  lift_prints : Asks words lift → Lifts d.text d.output
  lift_prints asks = subst (λ (v : CommandValues). Prints v d.text d.output) (one_command words d.command lift d.asked.asks asks) d.prints

  pub lifts : Asks words lift → WritesItsNetlist src out
  lifts asks text before has held =
      let p = lift_prints asks in
      let design : Design = lifted_design p.lift.ins p.lift.outs p.lift.list in
      let given : GaveAll src d.text = subst (λ (v : CommandValues). HasText v src d.text) (one_command words d.command lift d.asked.asks asks) d.given in
      let same : d.text ≡ text = gave_whole src.left src.left_after d.text text given.consumed given.end has in (
        d.output,
        gained_whole out.written out.written_after d.output before d.wrote held,
        design,
        subst (λ (t : List ℕ). IsNetlistOf t d.output design) same p.netlist,
      )
