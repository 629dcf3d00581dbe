use Rattle.std.proofs.Common.{sym, ◌∙◌, ap, ap₂, subst, ◌<◌, ◌++◌, ◌∷◌, [], map, length, arith}
use Rattle.std.proofs.lemmas.Result.{err_from_is_err_and}
use Rattle.std.proofs.lemmas.List.{map_more, take_all}
use Rattle.std.proofs.lemmas.Option.{get_or_from_slice_get}
use Rattle.cell_core.specs.declared.cells.Src.TheVariants.{Zero}
use Rattle.row_placer.specs.Numbers.{IsThere}
use Rattle.row_placer.specs.Placed.{HasHomeIfZero, net_place_of}
use Rattle.row_placer.proofs.reading.places_of.Goals as goal

pub find_place-requires : goal.find_place-requires
find_place-requires c =
    let list = c.args.list.now in
    let below : c.loop-at.at < length list.nets = omega (arith, c.loop-at-test.true, c.len.ensures) in
    let is = get_or_from_slice_get list.nets c.loop-at.at c.get.result.now Zero c.get.ensures in
    record {
      loops = c.requires.loops;
      there = subst (IsThere list (length list.cells)) is (c.requires.sound.nets c.loop-at.at Zero below);
      places = c.requires.places;
      zero = subst (HasHomeIfZero list c.args.homes.now) is (c.requires.zero c.loop-at.at Zero below);
    }

pub returns-in_err-push : goal.returns-in_err-push
returns-in_err-push c = rw ((err_from_is_err_and c.from_residual.result c.from_residual.ensures.1).1) tt

pub loop-at-init : goal.loop-at-init
loop-at-init c = c.new-places.ensures.items

pub returns : goal.returns
returns c = c.loop-at.invariant ∙ ap (map (net_place_of c.args.list.now c.args.homes.now c.args.made.now)) (take_all c.loop-at.at c.args.list.now.nets (omega (arith, c.loop-at-test.false, c.len.ensures)))

pub loop-at-preserved : goal.loop-at-preserved
loop-at-preserved c =
    let f = net_place_of c.args.list.now c.args.homes.now c.args.made.now in
    let nets = c.args.list.now.nets in
    let below : c.loop-at.at < length nets = omega (arith, c.loop-at-test.true, c.len.ensures) in
    c.in_ok-push.ensures.items
    ∙ ap₂ (λ xs p. xs ++ p ∷ []) c.loop-at.invariant (c.find_place.ensures ∙ ap f (sym (get_or_from_slice_get nets c.loop-at.at c.get.result.now Zero c.get.ensures)))
    ∙ sym (map_more f nets c.loop-at.at Zero below)
