-- The lifted circuit of a pattern is a netlist that the pattern's text carries.
use Rattle.std.proofs.Common.{◌≡◌, sym, ◌∙◌, subst, ℕ, List, length}
use Rattle.std.proofs.lemmas.List.{length-map}
use Rattle.ww_rule.specs.declared.pattern.Pattern.{Pattern}
use Rattle.ww_rule.specs.Patterns.{grid_of}
use Rattle.pattern_reading.specs.declared.ports.Ports.{Ports}
use Rattle.pattern_reading.specs.Ports.{names_of}
use Rattle.pattern_reading.specs.Pattern.{ReadsWithinLimit}
use Rattle.pattern_reading.specs.PortTable.{ReadsAsPorts}
use Rattle.port_table.proofs.SoundTable.{sound_table}
use Rattle.netlist_core.specs.Names.{Name}
use Rattle.lifted_designs.specs.Lifted.{lifted_design}
use Rattle.lifted_designs.specs.Runs.{ArePortNames}
use Rattle.lifted_designs.proofs.NoClocks.{lifted_have_no_clock_fault}
use Rattle.lifted_designs.proofs.Rising.{lifted_have_no_loop}
use Rattle.blif_write.specs.declared.lift.Lift.{Lift}
use Rattle.blif_write.specs.Lift.{text_of_lift}
use Rattle.blif_write.specs.Text.{lifted_text}
use Rattle.blif_write.proofs.TextsRead.{lifted_texts_read}
use Rattle.lift_carries.proofs.PortNames.{are_port_names, ins_are_words, outs_are_words}
use Rattle.routed_circuits.proofs.Lifted.{routed_are_lifted}
use Rattle.program_runs.specs.Netlists.{IsNetlistOf}
use Rattle.wwroute_tool.specs.Carried.{GivesNetlist, IsLiftOfPattern}

module _ (text : List ℕ) (pattern : Pattern) (ports : Ports) (reads : ReadsWithinLimit text (grid_of pattern))
    (table : ReadsAsPorts text pattern.width pattern.height ports) (lift : Lift) (is : IsLiftOfPattern pattern ports lift) where
  abbrev ins : List Name
  ins = names_of ports.ins

  abbrev outs : List Name
  outs = names_of ports.outs

  long : length (names_of ports.ins) ≡ is.list.inputs
  long = length-map ports.ins (λ line. line.name) ∙ is.fits.ins

  wide : length (names_of ports.outs) ≡ length is.list.outs
  wide = length-map ports.outs (λ line. line.name) ∙ is.fits.outs

  names : ArePortNames (names_of ports.ins) (names_of ports.outs)
  names = are_port_names ports (sound_table text pattern.width pattern.height ports table) is.named

  netlist_of : IsNetlistOf text (lifted_text (names_of ports.ins) (names_of ports.outs) is.list) (lifted_design (names_of ports.ins) (names_of ports.outs) is.list)
  netlist_of = record {
    design_of = lifted_texts_read is.list ins outs long wide is.fits.plain names (ins_are_words ports is.named) (outs_are_words ports is.named) is.fits.few_cells is.fits.few_latches;
    clocks = lifted_have_no_clock_fault is.list ins outs long wide is.fits.plain;
    no_loop = lifted_have_no_loop is.list ins outs long wide is.fits.plain names is.fits.few_cells is.fits.few_latches;
    carries = routed_are_lifted text is.list
        (record {
          grid = grid_of pattern;
          ports = ports;
          spells = record { reads = reads.0; table = table };
          contexts = is.fits.contexts;
          shows = is.shows;
        })
        (record {
          ins = long;
          outs = wide;
          plain = is.fits.plain;
          names = names;
          few_cells = is.fits.few_cells;
          few_latches = is.fits.few_latches;
        });
  }

  pub gives_netlist : GivesNetlist text (text_of_lift lift)
  gives_netlist = (
    lifted_design lift.ins lift.outs lift.list,
    subst (λ list. IsNetlistOf text (lifted_text lift.ins lift.outs list) (lifted_design lift.ins lift.outs list)) (sym is.lifted.cells)
        (subst (λ (names : List Name). IsNetlistOf text (lifted_text lift.ins names is.list) (lifted_design lift.ins names is.list)) (sym is.lifted.outs)
        (subst (λ (names : List Name). IsNetlistOf text (lifted_text names (names_of ports.outs) is.list) (lifted_design names (names_of ports.outs) is.list)) (sym is.lifted.ins) netlist_of)),
  )
