use Rattle.std.proofs.Common.{◌≡◌, ◌∙◌, ap, sym, subst, length, List, true, ◌⊎◌, []}
use Rattle.cell_core.specs.declared.cells.Src.{Src}
use Rattle.cell_core.specs.declared.cells.Cell.{Cell}
use Rattle.cell_core.specs.Sources.{is_one}
use Rattle.cell_core.specs.Meaning.{bit_in}
use Rattle.cell_sharing.specs.Grown.{bits_of, Answers}
use Rattle.cover_cells.specs.Placed.{relocated, ReadsOne, ArePlaced}
use Rattle.cover_cells.proofs.Placing.{placed_root}
use Rattle.cover_cells.proofs.covers.put.Goals as goal

pub returns : goal.returns
returns c =
    let l = c.args.list.now in
    let l' = c.place.new.list in
    let is : c.relocated.result ≡ relocated c.args.sources.now c.in_ok-made.made.items c.args.found.now.root = c.relocated.ensures ∙ ap (λ (m : List Src). relocated c.args.sources.now m c.args.found.now.root) c.deref.ensures.value in
    let placed : ArePlaced l l' c.args.sources.now c.args.found.now.cells (length c.args.found.now.cells) c.in_ok-made.made.items =
    subst (λ (cells : List Cell). ArePlaced l l' c.args.sources.now cells (length cells) c.in_ok-made.made.items) c.as_slice.ensures c.in_ok-made.ensures in
    subst (λ src. Answers l l' (length c.args.found.now.cells) (ReadsOne c.args.sources.now c.args.found.now.cells ⊎ (is_one c.args.found.now.root ≡ true)) src (λ inputs state. bit_in c.args.found.now.cells (bits_of l c.args.sources.now inputs state) [] c.args.found.now.root)) (sym is)
    (placed_root l l' c.args.sources.now c.args.found.now.cells c.in_ok-made.made.items c.args.found.now.root c.requires.there c.requires.alone.there placed)
