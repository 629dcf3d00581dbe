-- The patterns of netlists.
use Rattle.std.proofs.Common.{ℕ, ◌≡◌, inl, inr, refl, List, arith}
use Rattle.ww_rule.specs.Patterns.{grid_of}
use Rattle.lane_core.specs.declared.plan.Plan.{Plan}
use Rattle.lane_core.specs.Plans.{IsAdmissible, size_of}
use Rattle.grid_assembly.specs.PlanDrawing.{start_grid}
use Rattle.grid_assembly.proofs.Pattern.{patterns_are_planes}
use Rattle.netlist_core.specs.declared.model.Design.{Design}
use Rattle.netlist_core.specs.declared.flat.Flat.{Flat}
use Rattle.netlist_meaning.specs.Flat.{IsNamed, IsSound, IsWeighed}
use Rattle.netlist_meaning.specs.Weight.{weight}
use Rattle.netlist_plans.specs.Lists.{IsCompilable}
use Rattle.netlist_text.specs.Parts.{AreParts}
use Rattle.netlist_text.proofs.SoundParts.{sound, weighed, small}
use Rattle.flat_designs.proofs.Sound.{flat_is_sound}
use Rattle.flat_designs.proofs.Weights.{flat_is_weighed}
use Rattle.flat_designs.proofs.Whole.{flat_is_named}
use Rattle.pattern_reading.specs.declared.ports.Ports.{Ports}
use Rattle.pattern_writing.specs.WrittenText.{pattern_text}
use Rattle.pattern_writing.proofs.Written.{written_text}
use Rattle.plan_ports.specs.Tables.{HasPortNames, HasTablePlaces, IsTableOf}
use Rattle.plan_ports.proofs.Readable.{one_has_room, small_size, tables_are_readable}
use Rattle.plan_carries.proofs.Designs.{designs_are_carried}
use Rattle.plan_carries.proofs.SeenNets.{places_fit}
use Rattle.rle_write.specs.PlanText.{text_of_plan}
use Rattle.carries.specs.Cells.{Spells}
use Rattle.carries.specs.FlatNets.{CarriesFlat}
use Rattle.routed_plans.specs.declared.nets.ShownNets.{ShownNets}
use Rattle.routed_plans.specs.declared.routes.Routed.{Routed}
use Rattle.routed_plans.specs.Nets.{ShowsNetsBy}
use Rattle.routed_plans.proofs.DesignNets.{nets_are_shown}
use Rattle.routed_plans.specs.Carried.{IsRoutedFor, text_of_routed}
use Rattle.route_lines.specs.GateLines.{AreGateLines}
use Rattle.wwroute_tool.specs.Answers.{HasNoPlanForm, TellsSize, routed_line, lanes_line}
use Rattle.wwroute_tool.proofs.PlanTexts.{no_plan}

-- what a netlist's parts are
module _ (design : Design) (flat : Flat) (order : List ℕ) (parts : AreParts design flat order) where
  pub sound_of : IsSound flat
  sound_of = sound design flat order parts flat_is_sound

  pub weighed_of : IsWeighed flat
  weighed_of = weighed design flat order parts flat_is_weighed

  pub named : IsNamed flat
  named = flat_is_named design flat parts.faultless parts.is_flat

  pub placed : HasTablePlaces flat
  placed = places_fit design flat parts.faultless (let same : flat.weight ≡ weight design = parts.is_flat.weight in omega (arith, small design flat order parts, same)) parts.is_flat

  -- its flat netlist can be compiled, if its ports' names can stand in a table
  pub compilable : HasPortNames flat → IsCompilable flat order
  compilable names = record { sound = sound_of; ordered = parts.is_order; named = named; names = names; places = placed }

  module _ (plan : Plan) (ports : Ports) where
    -- the text of a plan carries the design and shows its nets
    pub lanes_show : (nets : ShownNets) → CarriesFlat (pattern_text (start_grid plan) ports) flat → ShowsNetsBy nets (text_of_plan plan ports) design
    lanes_show nets carries = nets_are_shown nets (text_of_plan plan ports) design (designs_are_carried (text_of_plan plan ports) design flat parts.faultless parts.clocks parts.is_flat carries)

    -- and spells the plan's pattern and its table
    spells : HasPortNames flat → IsAdmissible plan → IsTableOf flat plan 1 ports → Spells (text_of_plan plan ports) (start_grid plan) ports
    spells names admissible is =
        let size = small_size plan admissible in
        let table = tables_are_readable flat plan 1 ports sound_of.in_range named names placed admissible (one_has_room plan) is in
        let reads = written_text (start_grid plan) ports (record { in_rows = (patterns_are_planes plan admissible).box; width = omega (arith, size.0); height = omega (arith, size.1) }) table.sound table.inside in
        record { reads = reads.0; table = reads.1 }

    pub lanes_told : HasPortNames flat → IsAdmissible plan → IsTableOf flat plan 1 ports → TellsSize (text_of_plan plan ports) (lanes_line (size_of plan).0 (size_of plan).1 ports.p)
    lanes_told names admissible is = record { grid = start_grid plan; ports = ports; spells = spells names admissible is; line_is = inr (refl, (plan, admissible, refl)) }

pub routed_told : (flat : Flat) (routed : Routed) → IsRoutedFor flat routed → AreGateLines routed.lines → HasNoPlanForm routed → TellsSize (text_of_routed routed) (routed_line routed.pattern.width routed.pattern.height routed.ports.p)
routed_told flat routed is lines other = record { grid = grid_of routed.pattern; ports = routed.ports; spells = is.spells; line_is = inl (refl, no_plan routed lines is.spells other) }
