use Rattle.std.proofs.Common.{ap₂, ◌∙◌, List, Bool, flat_map, zip}
use Rattle.netlist_core.specs.Names.{Name}
use Rattle.netlist_meaning.specs.Places.{main_outputs}
use Rattle.netlist_run.specs.Runs.{bits_in_run}
use Rattle.blifww_tool.proofs.OutputLines.{line, lines_of_names}
use Rattle.blifww_tool.proofs.eval.run_lines.Goals as goal

pub returns-clause-printed : goal.returns-clause-printed
returns-clause-printed c =
    let shown = c.in_ok-bits.ensures in
    record {
      run = shown.run;
      is_run = shown.is_run;
      lines = c.in_ok-lines.ensures
          ∙ ap₂ (λ (names : List Name) (bits : List (List Bool)). flat_map line (zip names bits)) (c.as_slice.ensures ∙ c.in_ok-outs.ensures) (c.as_slice-2.ensures ∙ shown.bits)
          ∙ lines_of_names (bits_in_run shown.run c.args.streams.now.cycles) (main_outputs c.args.netlist.design);
    }
