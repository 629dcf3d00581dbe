-- The text that `aiger` writes spells the drawing of its plan.
use Rattle.std.proofs.Common.{◌≡◌, ◌<◌, ◌^◌, refl, sym, ap, ◌∙◌, List, [], ◌∷◌, length, map, arith}
use Rattle.std.specs.Prelude.{if◌then◌else◌, ◌==◌, Bool}
use Rattle.lane_core.specs.declared.plan.Plan.{Plan}
use Rattle.lane_core.specs.declared.plan.NetPlace.{NetPlace}
use Rattle.lane_core.specs.Plans.{cell_after}
use Rattle.lane_core.specs.Tape.{moved_east, tape_shift}
use Rattle.pattern_reading.specs.declared.ports.Ports.{Ports}
use Rattle.place_paths.specs.Paths.{names_and_paths}
use Rattle.netlist_core.specs.declared.flat.Flat.{Flat}
use Rattle.netlist_core.specs.declared.flat.Net.{Net as FlatNet}
use Rattle.netlist_meaning.specs.Flat.{names_of_ports}
use Rattle.plan_ports.specs.Tables.{IsTableOf, drawn_input_cells, drawn_net_cells, driven_inputs, named_paths, net_cells_of}
use Rattle.plan_carries.specs.Laws.{PlansHavePorts}
use Rattle.lift_carries.specs.Compiled.{CompiledAreDrawings, IsWrittenDrawing}
use Rattle.lift_carries.proofs.Starts.{one_context_is_circuit}
use Rattle.aiger_text.specs.declared.aig.Aig.{Aig}
use Rattle.aiger_text.specs.SoundAig.{IsSoundAig}
use Rattle.aiger_meaning.specs.Circuit.{aig_weight}
use Rattle.aiger_meaning.specs.Laws.{FlatsOfAigsAreLowered}
use Rattle.aiger_meaning.specs.Lowered.{IsLowered}
use Rattle.aiger_plans.specs.Planned.{IsPlanOfAig}
use Rattle.aiger_plans.proofs.Named.{none_listed, port_names, table_places}

module _ (ports_law : PlansHavePorts) (aig : Aig) (plan : Plan) (ports : Ports) (h : IsPlanOfAig aig plan ports) (lowered : IsLowered aig h.planned.flat) where
  abbrev flat : Flat
  flat = h.planned.flat

  -- beside no tape each input is driven
  all_driven : {X : Type 0} (inputs : List X) → driven_inputs plan inputs ≡ inputs
  all_driven inputs = ap (λ (tape : List (List Bool)). if length tape == 0 then inputs else []) h.bare

  -- no net is listed
  no_places : plan.nets ≡ []
  no_places =
      by plan.nets
      ((ports_law flat h.planned.planned.list plan h.planned.planned.computes h.planned.planned.is.computes).nets
      ∙ ap (λ (nets : List FlatNet). length nets) (sym (none_listed flat lowered.unlisted)))
    where
      by : (places : List NetPlace) → length places ≡ 0 → places ≡ []
      by [] e = refl
      by (place ∷ places) e = absurd (omega (arith, e))

  no_cells : drawn_net_cells plan ≡ []
  no_cells = ap (λ (nets : List NetPlace). map (λ place. moved_east (tape_shift plan) (cell_after plan place.lane place.after)) nets) no_places

  table : IsTableOf flat plan 1 ports
  table = record {
    period = h.table.period;
    latency = h.table.latency;
    contexts = h.table.contexts;
    in_cells = h.table.in_cells ∙ sym (all_driven (drawn_input_cells plan));
    in_names = h.table.names.ins ∙ sym lowered.in_names ∙ sym (all_driven (names_of_ports flat flat.ins));
    out_cells = h.table.out_cells;
    out_names = h.table.names.outs ∙ sym lowered.out_names;
    net_cells = ap net_cells_of h.table.names.nets ∙ sym no_cells;
    net_names = ap names_and_paths h.table.names.nets ∙ ap named_paths (none_listed flat lowered.unlisted);
  }

  pub drawn : CompiledAreDrawings → IsSoundAig aig → IsWrittenDrawing plan ports
  drawn drawings sound =
      drawings flat plan ports (record {
        sound = lowered.sound;
        named = lowered.named;
        names = port_names aig flat lowered sound;
        places = table_places aig flat lowered;
        circuit = (one_context_is_circuit plan h.admissible h.bare _ (record { edges = h.edges; on_loops = h.planned.cells.starts })).0;
        table = table;
      })

-- a circuit within the limit has a flat netlist that is lowered
pub drawing_of_aig : CompiledAreDrawings → PlansHavePorts → FlatsOfAigsAreLowered → (aig : Aig) (plan : Plan) (ports : Ports) → IsSoundAig aig → aig_weight aig < 2 ^ 31 → IsPlanOfAig aig plan ports
    → IsWrittenDrawing plan ports
drawing_of_aig drawings ports_law lower aig plan ports sound light h = drawn ports_law aig plan ports h (lower aig h.planned.flat sound light h.planned.is_flat) drawings sound
