use Rattle.std.proofs.Common.{◌≡◌, ◌==◌, refl, sym, ◌∙◌, ap, cond, [], map, length}
use Rattle.std.specs.List.{filter_map}
use Rattle.std.proofs.lemmas.List.{length-map}
use Rattle.netlist_core.specs.declared.flat.FlatLatch.{FlatLatch}
use Rattle.netlist_meaning.specs.Flat.{class_of, port_classes}
use Rattle.cell_meaning.specs.Listed.{listed_classes}
use Rattle.cover_mapper.specs.Singles.{single_source}
use Rattle.cover_mapper.specs.Sourced.{source_at}
use Rattle.cover_mapper.proofs.Known.{all_gathered}
use Rattle.cover_mapper.proofs.Finishing.{Ports, ports, gathered_there, few_cells, finished_with, with_bits}
use Rattle.cover_mapper.proofs.mapping.with_ports.Goals as goal

pub invariant_of-list : goal.invariant_of-list
invariant_of-list c =
    let flat = c.args.flat.now in
    let sources = c.args.sources.now in
    let at : Ports flat c.args.list sources = ports flat c.requires.sound c.args.list sources c.requires.complete in
    let outs : c.of.result ≡ map (source_at sources) (port_classes flat flat.outs) =
    c.of.ensures ∙ c.in-Ok.ensures.outs ∙ all_gathered sources _ at.outs_known in
    let read : c.of-2.result ≡ map (source_at sources) (map (λ (latch : FlatLatch). class_of flat latch.input) flat.latches) =
    c.of-2.ensures ∙ c.in-Ok.ensures.latches ∙ all_gathered sources _ at.data_known in
    let nets : c.of-3.result ≡ map (source_at sources) (listed_classes flat) =
    c.of-3.ensures ∙ c.in-Ok.ensures.nets ∙ at.nets in
    record {
      in_order = c.args.list.in_order;
      outs_there = gathered_there flat _ c.args.list sources _ c.of.result at.sourced at.outs_known outs;
      latches_there = gathered_there flat _ c.args.list sources _ c.of-2.result at.sourced at.data_known read;
      nets_there = gathered_there flat _ c.args.list sources _ c.of-3.result at.sourced at.nets_known nets;
      starts_fit = ap length (c.requires.complete.mapped.grows.adds.starts ∙ c.requires.complete.starts) ∙ length-map flat.latches (λ latch. latch.init == 1)
          ∙ sym (ap length read ∙ length-map (map (λ (latch : FlatLatch). class_of flat latch.input) flat.latches) (source_at sources) ∙ length-map flat.latches (λ (latch : FlatLatch). class_of flat latch.input));
    }

pub returns-clause-mapped : goal.returns-clause-mapped
returns-clause-mapped c =
    let flat = c.args.flat.now in
    let sources = c.args.sources.now in
    finished_with flat c.requires.sound c.args.list _ sources c.requires.complete
    (record {
      inputs = refl;
      cells = refl;
      starts = refl;
      outs = c.of.ensures ∙ c.in-Ok.ensures.outs;
      latches = c.of-2.ensures ∙ c.in-Ok.ensures.latches;
      nets = c.of-3.ensures ∙ c.in-Ok.ensures.nets;
    })
    c.in-Ok.field-0.singles.items c.in-Ok.ensures.singles

pub returns-clause-bits : goal.returns-clause-bits
returns-clause-bits c =
    let flat = c.args.flat.now in
    let sources = c.args.sources.now in
    with_bits flat c.requires.sound c.args.list _ sources c.requires.complete
    (record {
      inputs = refl;
      cells = refl;
      starts = refl;
      outs = c.of.ensures ∙ c.in-Ok.ensures.outs;
      latches = c.of-2.ensures ∙ c.in-Ok.ensures.latches;
      nets = c.of-3.ensures ∙ c.in-Ok.ensures.nets;
    })

pub returns-clause-cells : goal.returns-clause-cells
returns-clause-cells c = few_cells c.args.flat.now c.args.list c.args.sources.now c.requires.complete

pub returns-clause-unlisted : goal.returns-clause-unlisted
returns-clause-unlisted c listed =
    c.in-Ok.ensures.singles ∙ ap (λ b. cond b (filter_map (single_source c.args.flat.now c.args.sources.now) c.args.flat.now.nodes) []) listed
