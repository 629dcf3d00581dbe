use Rattle.std.proofs.Common.{ℕ, ◌≡◌, ◌<◌, ◌+◌, ◌^◌, ◌∙◌, List, ◌∷◌, [], ◌++◌, length, map, sym, ap, arith}
use Rattle.std.specs.List.{range_with_len}
use Rattle.std.proofs.lemmas.List.{length-map}
use Rattle.std.proofs.lemmas.List.FromFn.{map-range_with_len_more}
use Rattle.netlist_meaning.specs.InOrder.{nets_at}
use Rattle.netlist_flatten.specs.Numbered.{place_at, nets_before}
use Rattle.netlist_flatten.proofs.Numbering.{own_few}
use Rattle.netlist_flatten.proofs.classes.own_numbers.Goals as goal

pub loop-init : goal.loop-init
loop-init c = record { number = (let e = c.first-number.ensures in omega arith); own = c.new-own.ensures.items }

pub overflow_add-number : goal.overflow_add-number
overflow_add-number c =
    let many : length (nets_at c.args.numbers.now (place_at c.args.numbers.now c.args.at)) ≡ length c.names-items.result.now = ap length c.names-items.ensures ∙ length-map c.names-items.result.now _ in
    let few : length (nets_before c.args.numbers.now c.args.at) + length (nets_at c.args.numbers.now (place_at c.args.numbers.now c.args.at)) < 2 ^ 32 = own_few c.args.numbers.now c.args.at c.requires.faultless c.requires.few c.requires.place in
    let is : c.loop.number ≡ length (nets_before c.args.numbers.now c.args.at) + c.loop.index = c.loop.invariant.number in
    omega arith

pub loop-preserved : goal.loop-preserved
loop-preserved c = record {
  number = (let is : c.loop.number ≡ length (nets_before c.args.numbers.now c.args.at) + c.loop.index = c.loop.invariant.number in omega arith);
  own = (c.in_ok-push.ensures {u = tt}).items ∙ ap (λ (xs : List ℕ). xs ++ c.loop.number ∷ []) c.loop.invariant.own ∙ ap (λ n. map (λ j. length (nets_before c.args.numbers.now c.args.at) + j) (range_with_len 0 c.loop.index) ++ n ∷ []) c.loop.invariant.number
      ∙ sym (map-range_with_len_more (λ j. length (nets_before c.args.numbers.now c.args.at) + j) 0 c.loop.index c.loop.index (omega arith));
}

pub returns : goal.returns
returns c =
    let many : length (nets_at c.args.numbers.now (place_at c.args.numbers.now c.args.at)) ≡ length c.names-items.result.now = ap length c.names-items.ensures ∙ length-map c.names-items.result.now _ in
    let all : c.loop.index ≡ length (nets_at c.args.numbers.now (place_at c.args.numbers.now c.args.at)) = omega (arith, c.loop-test.false) in
    c.loop.invariant.own ∙ ap (λ n. map (λ j. length (nets_before c.args.numbers.now c.args.at) + j) (range_with_len 0 n)) all
