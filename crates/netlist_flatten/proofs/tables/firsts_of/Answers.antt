use Rattle.std.proofs.Common.{◌<◌, ◌≡◌, ◌+◌, ◌^◌, sym, ap, subst, refl, slice_get, Some, List, ℕ, length, arith}
use Rattle.std.proofs.lemmas.Option.{slice_get_read}
use Rattle.netlist_meaning.specs.InOrder.{places_in_order, nets_at}
use Rattle.netlist_flatten.specs.Numbered.{place_at}
use Rattle.netlist_flatten.proofs.Numbering.{place_count}
use Rattle.netlist_flatten.proofs.Tabling.{FirstsBefore, firsts_next, first_few, own_count}
use Rattle.netlist_flatten.proofs.tables.firsts_of.Goals as goal

is_at : (c : goal.After-count_of) → slice_get c.args.placed.now c.loop-at.at-index ≡ Some c.at-item.result
is_at c = slice_get_read c.args.placed.now (length c.args.placed.now) c.loop-at.at-index c.at-item.result refl c.loop-at-test.true c.at-item.is

is_own : (c : goal.After-count_of) → c.count_of.result ≡ length (nets_at c.args.design.now (place_at c.args.design.now c.loop-at.at-index))
is_own c = own_count c.args.design.now c.args.placed.now c.args.names.now c.loop-at.at-index c.at-item.result c.count_of.result c.requires.places c.requires.names (is_at c) c.count_of.ensures

within : (c : goal.After-count_of) → c.loop-at.at-index < length (places_in_order c.args.design.now)
within c = subst (λ n. c.loop-at.at-index < n) (place_count c.args.design.now c.args.placed.now c.requires.places) c.loop-at-test.true

small : (c : goal.After-count_of) → c.loop-at.first + c.count_of.result < 2 ^ 32
small c = first_few c.args.design.now c.loop-at.at-index c.loop-at.first c.count_of.result c.loop-at.firsts.items c.requires.faultless c.requires.few (within c) (is_own c) c.loop-at.invariant

pub overflow_cast-first : goal.overflow_cast-first
overflow_cast-first c = let h : c.loop-at.first + c.count_of.result < 2 ^ 32 = small c in omega arith

pub overflow_add-first : goal.overflow_add-first
overflow_add-first c = let h : c.loop-at.first + c.count_of.result < 2 ^ 32 = small c in omega arith

pub loop-at-preserved : goal.loop-at-preserved
loop-at-preserved c =
    subst (λ (v : List ℕ). FirstsBefore c.args.design.now (c.loop-at.at-index + 1) (c.loop-at.first + c.count_of.result) v) (sym (c.in_ok-push.ensures {u = tt}).items)
    (firsts_next c.args.design.now c.loop-at.at-index c.loop-at.first c.count_of.result c.loop-at.firsts.items (within c) (is_own c) c.loop-at.invariant)

pub count_of-requires : goal.count_of-requires
count_of-requires c =
    let at = slice_get_read c.args.placed.now (length c.args.placed.now) c.loop-at.at-index c.at-item.result refl c.loop-at-test.true c.at-item.is in
    let here : c.at-item.result.model < length c.args.design.now.models = (c.requires.places.models c.loop-at.at-index c.at-item.result at).is_there in
    let many = c.requires.names.many in
    omega (arith, here, many)

pub loop-at-init : goal.loop-at-init
loop-at-init c = record { is_first = refl; many = ap length c.in_ok-firsts.ensures.items; firsts_are = λ k lt. absurd (omega (arith, lt)) }

pub returns : goal.returns
returns c k lt = let end = c.loop-at-test.false in c.loop-at.invariant.firsts_are k (omega (arith, lt, end))
