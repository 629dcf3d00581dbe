use Rattle.std.proofs.Common.{◌<◌, ◌++◌, ◌∷◌, [], sym, subst, ap, ap₂, ◌∙◌, length, Bool, List}
use Rattle.std.specs.Prelude.{Option, unwrap_or, slice_get, false}
use Rattle.std.proofs.lemmas.List.{map_more}
use Rattle.streams.proofs.columns.bits_across.Goals as goal

pub get-requires : goal.get-requires
get-requires c = subst (λ (bits : List Bool). c.args.place < length bits) (sym c.bits-item.is) (c.requires c.loop-bits.bits-index _ c.loop-bits-test.true)

pub loop-bits-preserved : goal.loop-bits-preserved
loop-bits-preserved c =
    let bit_of = λ (bits : List Bool). unwrap_or (slice_get bits c.args.place) false in
    c.in_ok-push.ensures.items
    ∙ ap₂ (λ (column : List Bool) (bit : Bool). column ++ bit ∷ []) c.loop-bits.invariant (ap (λ (o : Option Bool). unwrap_or o false) (sym c.get.ensures) ∙ ap bit_of c.bits-item.is)
    ∙ sym (map_more bit_of c.args.lists.now c.loop-bits.bits-index _ c.loop-bits-test.true)
