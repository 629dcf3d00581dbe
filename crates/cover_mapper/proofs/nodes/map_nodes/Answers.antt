use Rattle.std.proofs.Common.{◌≡◌, refl, sym, ◌∙◌, ap, subst, ℕ, ◌<◌, List, length, map, get_or, Some, arith}
use Rattle.std.proofs.lemmas.List.{take_all}
use Rattle.std.proofs.lemmas.List.Elements.{All-get_or}
use Rattle.std.proofs.lemmas.Option.{get_or_from_slice_get, slice_get_within}
use Rattle.std.proofs.lemmas.Result.{err_from_is_err_and}
use Rattle.netlist_core.specs.declared.flat.Node.{Node}
use Rattle.netlist_core.specs.declared.flat.NetId.{NetId}
use Rattle.netlist_meaning.specs.Flat.{class_of, node_at, no_node, in_classes, IsNetId}
use Rattle.cell_core.specs.declared.cells.Src.{Src}
use Rattle.cell_core.specs.declared.cells.Cell.{Cell}
use Rattle.cover_cells.specs.Covers.{AnswersCover}
use Rattle.cell_sharing.specs.Grown.{HasSources}
use Rattle.cell_meaning.specs.Mapped.{IsCell}
use Rattle.cell_meaning.specs.Singles.{constant_source, single_cell}
use Rattle.cover_mapper.specs.Sourced.{AreMapped, sources_at, source_at}
use Rattle.cover_mapper.proofs.Known.{AreKnown, all_gathered, all_there}
use Rattle.cover_mapper.proofs.Sourcing.{class_within}
use Rattle.cover_mapper.proofs.NextNode.{reads_known, node_mapped, first_mapped}
use Rattle.cover_mapper.proofs.nodes.map_nodes.Goals as goal

pub loop-n-init : goal.loop-n-init
loop-n-init c = first_mapped c.args.flat.now c.args.list.now c.args.sources.now c.requires.ports

pub map_cover-requires : goal.map_cover-requires
map_cover-requires c =
    let flat = c.args.flat.now in
    let order = c.args.order.now in
    let sources = c.loop-n.sources in
    let n : ℕ = get_or order c.loop-n.n-index 0 in
    let at : c.get-node.result.now ≡ node_at flat n = sym (get_or_from_slice_get flat.nodes n c.get-node.result.now no_node c.get-node.ensures) in
    let known : AreKnown sources (in_classes flat n) = reads_known flat c.requires.sound order c.requires.ordered c.loop-n.list sources c.loop-n.n-index c.loop-n.n-index (omega arith) (omega (arith, c.loop-n-test.true)) (omega (arith, c.loop-n-test.true)) c.loop-n.invariant.sourced in
    let are : c.in_ok-ins.ins.items ≡ map (source_at sources) (in_classes flat n) =
    c.in_ok-ins.ensures ∙ ap (λ (ids : List NetId). sources_at sources (map (class_of flat) ids)) (c.as_slice.ensures ∙ ap (λ (m : Node). m.ins) at) ∙ all_gathered sources (in_classes flat n) known in
    subst (HasSources c.loop-n.list) (sym (c.deref.ensures.value ∙ are)) (all_there flat _ c.loop-n.list sources (in_classes flat n) c.loop-n.invariant.sourced known)

pub bounds-sources-class_of : goal.bounds-sources-class_of
bounds-sources-class_of c =
    let flat = c.args.flat.now in
    let node = c.get-node.result.now in
    let n : ℕ = get_or c.args.order.now c.loop-n.n-index 0 in
    let is_node : n < length flat.nodes = slice_get_within flat.nodes n node c.get-node.ensures in
    let is_id : IsNetId flat node.out =
    subst (λ (m : Node). IsNetId flat m.out) (get_or_from_slice_get flat.nodes n node no_node c.get-node.ensures)
    (All-get_or (λ (m : Node). IsNetId flat m.out) flat.nodes n no_node is_node c.requires.sound.in_range.node_outs) in
    omega (arith, c.class_of.ensures, c.loop-n.invariant.sourced.long, class_within flat c.requires.sound.in_range node.out is_id)

pub returns-in_err-ins : goal.returns-in_err-ins
returns-in_err-ins c = rw ((err_from_is_err_and c.from_residual.result c.from_residual.ensures.1).1) tt

pub returns-in_err-source : goal.returns-in_err-source
returns-in_err-source c = rw ((err_from_is_err_and c.from_residual-in_err-source.result c.from_residual-in_err-source.ensures.1).1) tt

pub returns : goal.returns
returns c =
    subst (λ (order : List ℕ). AreMapped c.args.flat.now c.args.list.now c.loop-n.list c.loop-n.sources order)
    (take_all c.loop-n.n-index c.args.order.now (omega (arith, c.loop-n-test.false))) c.loop-n.invariant

pub loop-n-preserved : goal.loop-n-preserved
loop-n-preserved c =
    let flat = c.args.flat.now in
    let order = c.args.order.now in
    let sources = c.loop-n.sources in
    let node = c.get-node.result.now in
    let n : ℕ = get_or order c.loop-n.n-index 0 in
    let at : node ≡ node_at flat n = sym (get_or_from_slice_get flat.nodes n node no_node c.get-node.ensures) in
    let known : AreKnown sources (in_classes flat n) = reads_known flat c.requires.sound order c.requires.ordered c.loop-n.list sources c.loop-n.n-index c.loop-n.n-index (omega arith) (omega (arith, c.loop-n-test.true)) (omega (arith, c.loop-n-test.true)) c.loop-n.invariant.sourced in
    let are : c.in_ok-ins.ins.items ≡ map (source_at sources) (in_classes flat n) =
    c.in_ok-ins.ensures ∙ ap (λ (ids : List NetId). sources_at sources (map (class_of flat) ids)) (c.as_slice.ensures ∙ ap (λ (m : Node). m.ins) at) ∙ all_gathered sources (in_classes flat n) known in
    let answer : AnswersCover c.loop-n.list c.map_cover.new.list c.in_ok-ins.ins.items node.rows node.on c.in_ok-source.source =
    subst (λ (g : List Src). AnswersCover c.loop-n.list c.map_cover.new.list g node.rows node.on c.in_ok-source.source) c.deref.ensures.value
    (subst (λ (rows : List (List ℕ)). AnswersCover c.loop-n.list c.map_cover.new.list c.deref.result.now rows node.on c.in_ok-source.source) c.as_slice-in-loop-n.ensures c.in_ok-source.ensures.value) in
    let single : (cell : Cell) → single_cell c.in_ok-ins.ins.items node.rows node.on ≡ Some cell → IsCell c.map_cover.new.list c.in_ok-source.source cell =
    λ cell e. c.in_ok-source.ensures.single cell (ap (λ (g : List Src). single_cell g c.as_slice-in-loop-n.result.now node.on) c.deref.ensures.value ∙ ap (λ (rows : List (List ℕ)). single_cell c.in_ok-ins.ins.items rows node.on) c.as_slice-in-loop-n.ensures ∙ e) in
    let constant : (src : Src) → constant_source (length c.in_ok-ins.ins.items) node.rows node.on ≡ Some src → c.in_ok-source.source ≡ src =
    λ src e. c.in_ok-source.ensures.constant src (ap (λ (g : List Src). constant_source (length g) c.as_slice-in-loop-n.result.now node.on) c.deref.ensures.value ∙ ap (λ (rows : List (List ℕ)). constant_source (length c.in_ok-ins.ins.items) rows node.on) c.as_slice-in-loop-n.ensures ∙ e) in
    node_mapped flat c.requires.sound order c.requires.ordered c.args.list.now c.loop-n.list c.map_cover.new.list sources c.loop-n.n-index n c.class_of.result node c.in_ok-ins.ins.items c.in_ok-source.source
    (omega (arith, c.loop-n-test.true)) refl at (c.class_of.ensures ∙ ap (λ (m : Node). class_of flat m.out) at) c.loop-n.invariant are answer single constant
