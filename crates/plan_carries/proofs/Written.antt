-- The text that is written of what is compiled carries the flat netlist in each context.
use Rattle.std.proofs.Common.{◌≡◌, sym, ◌∙◌, ap, subst, false, [], ◌∷◌, length, map, replicate, arith}
use Rattle.std.proofs.lemmas.List.{length-map, length-replicate}
use Rattle.ww_rule.specs.Grid.{Grid}
use Rattle.tile_library.specs.Drawings.{shipped_drawing}
use Rattle.tile_library.proofs.Kept.{shipped_keeps_law}
use Rattle.plan_layout.specs.Starts.{start_edges}
use Rattle.plan_waves.proofs.IsolatedContexts.{contexts_apart}
use Rattle.cell_core.specs.Meaning.{Fits}
use Rattle.cell_core.specs.Loops.{loop_state}
use Rattle.netlist_core.specs.declared.flat.FlatPort.{FlatPort}
use Rattle.netlist_core.specs.declared.flat.Net.{Net as FlatNet}
use Rattle.netlist_meaning.specs.Flat.{class_of, listed_nets, port_classes}
use Rattle.netlist_meaning.specs.FlatValuation.{start_bits}
use Rattle.pattern_writing.specs.WrittenText.{pattern_text}
use Rattle.pattern_writing.proofs.Written.{written_text}
use Rattle.carries.specs.FlatContexts.{ShowsFlatContexts}
use Rattle.carries.specs.FlatNets.{CarriesFlat}
use Rattle.carries.proofs.OneContext.{one_context_carries_flat}
use Rattle.cell_meaning.specs.Listed.{listed_classes}
use Rattle.plan_ports.specs.Laws.{HasRoom}
use Rattle.plan_ports.proofs.Readable.{small_size, tables_are_readable}
use Rattle.plan_carries.specs.Laws.{PlansHavePorts, TextsCarryFlats}
use Rattle.plan_carries.specs.Pictures.{grid_with}
use Rattle.plan_carries.proofs.Bare.{bare_in_names, bare_grid}
use Rattle.plan_carries.specs.ContextLaws.{TextsCarryContexts}
use Rattle.plan_carries.proofs.Carried.{planes_show_contexts}
use Rattle.plan_carries.proofs.Pictures.{pictures_are_planes}

pub plans_have_ports : PlansHavePorts
plans_have_ports flat list plan c p =
    let fits : Fits list (replicate list.inputs false) (replicate (length list.starts) false) =
    record { row = length-replicate list.inputs false; latches = length-replicate (length list.starts) false } in
    record {
      ins = p.inputs ∙ c.mapped.inputs;
      outs = sym (length-map plan.outs _) ∙ ap length (p.bits.outs_have (replicate list.inputs false) (replicate (length list.starts) false) fits) ∙ length-map list.outs _
          ∙ ap length c.mapped.outs ∙ length-map (port_classes flat flat.outs) c.mapped.sources ∙ length-map flat.outs (λ (port : FlatPort). class_of flat port.net);
      nets = sym (length-map plan.nets _) ∙ ap length (p.bits.nets_have (replicate list.inputs false) (replicate (length list.starts) false) fits) ∙ length-map list.nets _
          ∙ ap length c.mapped.nets ∙ length-map (listed_classes flat) c.mapped.sources ∙ length-map (listed_nets flat) (λ (net : FlatNet). net.class);
    }

pub texts_carry_contexts : TextsCarryContexts
texts_carry_contexts flat list plan ports starts some k lit s =
    let picture = pictures_are_planes plan k.admissible lit in
    let size = small_size plan k.admissible in
    let many : length (map (loop_state list) starts) ≡ length starts = length-map starts (loop_state list) in
    let fits : HasRoom plan (length starts) = record { some = λ e. omega (arith, some, e); room = λ more. omega (arith, contexts_apart plan (map (loop_state list) starts) lit s.on_plan, many) } in
    let table = tables_are_readable flat plan (length starts) ports k.sound.in_range k.named k.names k.places k.admissible fits k.table in
    let reads = written_text (grid_with plan lit) ports (record { in_rows = picture.box; width = omega (arith, size.0); height = omega (arith, size.1) }) table.sound table.inside in
    record {
      grid = grid_with plan lit;
      ports = ports;
      spells = record { reads = reads.0; table = reads.1 };
      contexts = k.table.contexts;
      names = record { ins = bare_in_names plan k.bare flat (length starts) ports k.table; outs = k.table.out_names; nets = k.table.net_names };
      shows = subst (λ p. ShowsFlatContexts p ports flat starts) (sym picture.plane) (planes_show_contexts shipped_drawing shipped_keeps_law flat list plan ports starts k lit s);
    }

-- with the plan's own start edges
pub texts_carry_flats : TextsCarryFlats
texts_carry_flats flat list plan ports k s =
    subst (λ (grid : Grid). CarriesFlat (pattern_text grid ports) flat) (sym (bare_grid plan k.bare))
    ((one_context_carries_flat (pattern_text (grid_with plan (start_edges plan)) ports) flat).1 (texts_carry_contexts flat list plan ports (start_bits flat ∷ []) (omega arith) k (start_edges plan) s))
