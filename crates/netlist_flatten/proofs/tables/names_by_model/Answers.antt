use Rattle.std.proofs.Common.{◌<◌, ◌≡◌, ◌+◌, sym, subst, refl, slice_get, Some, Vec, Option, List, ℕ, length, arith}
use Rattle.std.proofs.lemmas.Option.{slice_get_read}
use Rattle.netlist_flatten.proofs.Tabling.{KnownBefore, known_start, known_some, known_new, known_all}
use Rattle.netlist_flatten.proofs.tables.names_by_model.Goals as goal
use Rattle.netlist_flatten.proofs.tables.names_by_model.Goals.{then-is_none+in_ok-of+in-Some-1, then-is_none+in_ok-of+in-None-1, else-is_none}

pub loop-at-init : goal.loop-at-init
loop-at-init c = known_start c.args.design.now c.args.placed.now c.in_ok-names.names.items c.len.result (c.in_ok-names.ensures {u = tt}) c.len.ensures

is_at : (c : goal.After-names-in-loop-at-1) → slice_get c.args.placed.now c.loop-at.at-index ≡ Some c.at-item.result
is_at c = slice_get_read c.args.placed.now (length c.args.placed.now) c.loop-at.at-index c.at-item.result refl c.loop-at-test.true c.at-item.is

pub index-requires : goal.index-requires
index-requires c =
    let here : c.at-item.result.model < length c.args.design.now.models = (c.requires.models c.loop-at.at-index c.at-item.result (is_at c)).is_there in
    let many : length c.loop-at.names.items ≡ length c.args.design.now.models = c.loop-at.invariant.many in
    omega (arith, c.loop-at.names.ok.0)

pub get-requires : goal.get-requires
get-requires c = (c.requires.models c.loop-at.at-index c.at-item.result (slice_get_read c.args.placed.now (length c.args.placed.now) c.loop-at.at-index c.at-item.result refl c.loop-at-test.true c.at-item.is)).is_there

pub loop-at-preserved : goal.loop-at-preserved
loop-at-preserved c =
    let at : slice_get c.args.placed.now c.loop-at.at-index ≡ Some c.at-item.result = slice_get_read c.args.placed.now (length c.args.placed.now) c.loop-at.at-index c.at-item.result refl c.loop-at-test.true c.at-item.is in
    let here : c.at-item.result.model < length c.args.design.now.models = (c.requires.models c.loop-at.at-index c.at-item.result at).is_there in
    elim c.if-is_none.branch [
      | then-is_none+in_ok-of+in-Some-1 w ↦
          subst (λ (v : Vec (Option (List (List ℕ))) _). KnownBefore c.args.design.now c.args.placed.now (c.loop-at.at-index + 1) v.items) (sym w.names-is)
          (known_new c.args.design.now c.args.placed.now c.loop-at.at-index c.loop-at.names.items c.at-item.result w.get.result.now w.in_ok-of.field-0 c.loop-at.invariant at w.get.ensures (w.in_ok-of.ensures {u = tt}))
      | then-is_none+in_ok-of+in-None-1 w ↦
          subst (λ (v : Vec (Option (List (List ℕ))) _). KnownBefore c.args.design.now c.args.placed.now (c.loop-at.at-index + 1) v.items) (sym w.names-is)
          (known_new c.args.design.now c.args.placed.now c.loop-at.at-index c.loop-at.names.items c.at-item.result w.get.result.now w.in_ok-of.field-0 c.loop-at.invariant at w.get.ensures (w.in_ok-of.ensures {u = tt}))
      | else-is_none w ↦
          subst (λ (v : Vec (Option (List (List ℕ))) _). KnownBefore c.args.design.now c.args.placed.now (c.loop-at.at-index + 1) v.items) (sym w.names-is)
          (known_some c.args.design.now c.args.placed.now c.loop-at.at-index c.loop-at.names.items c.at-item.result c.index.result.now c.loop-at.invariant at
          (let many : length c.loop-at.names.items ≡ length c.args.design.now.models = c.loop-at.invariant.many in omega arith) c.index.ensures (w.if-is_none.ensures {u = tt}))
    ]

pub returns : goal.returns
returns c = known_all c.args.design.now c.args.placed.now c.loop-at.at-index c.loop-at.names.items c.loop-at-test.false c.loop-at.invariant
