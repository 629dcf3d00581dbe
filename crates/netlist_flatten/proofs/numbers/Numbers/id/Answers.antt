use Rattle.std.proofs.Common.{◌<◌, ◌≡◌, ◌+◌, ◌^◌, ◌∙◌, length, sym, ap, subst, arith}
use Rattle.netlist_core.specs.declared.flat.NetId.{NetId}
use Rattle.netlist_core.specs.declared.model.Design.{Design}
use Rattle.netlist_meaning.specs.InOrder.{nets_in_order}
use Rattle.netlist_flatten.specs.Numbered.{place_at, nets_before}
use Rattle.netlist_meaning.specs.Nets.{net_at}
use Rattle.netlist_flatten.proofs.Numbering.{few_nets, first_held, first_within, number_below, position_is}
use Rattle.netlist_flatten.proofs.numbers.Numbers.id.Goals as goal

small : (c : goal.After-position) → length (nets_before c.args.self.now c.args.at) + c.position.result < 2 ^ 32
small c =
    let below = number_below c.args.self.now c.args.at c.position.result (net_at (place_at c.args.self.now c.args.at) c.args.name.now) c.requires.place c.position.ensures in
    let few : length (nets_in_order c.args.self.now) < 2 ^ 32 = subst (λ (d : Design). length (nets_in_order d) < 2 ^ 32) c.self.view_is (few_nets c.self.inside.design.now c.self.invariant.faultless c.self.invariant.few) in
    omega (arith, below, few)

pub overflow_cast-result : goal.overflow_cast-result
overflow_cast-result c = let h : length (nets_before c.args.self.now c.args.at) + c.position.result < 2 ^ 32 = small c in omega arith

is_first : (c : goal.After-position) → c.get.result.now ≡ length (nets_before c.args.self.now c.args.at)
is_first c = first_held c.args.self.now c.self.inside.design.now c.self.inside.placed c.self.inside.names c.self.inside.firsts c.args.at c.get.result.now c.self.view_is c.self.invariant c.requires.place c.get.ensures

pub overflow_add-result : goal.overflow_add-result
overflow_add-result c =
    let h : length (nets_before c.args.self.now c.args.at) + c.position.result < 2 ^ 32 = small c in
    let e : c.get.result.now ≡ length (nets_before c.args.self.now c.args.at) = is_first c in
    omega arith

pub returns : goal.returns
returns c =
    let e : c.get.result.now + c.position.result ≡ length (nets_before c.args.self.now c.args.at) + c.position.result = ap (λ n. n + c.position.result) (is_first c) in
    ap (λ n. let id : NetId = record { 0 = n } in id)
    (e ∙ sym (position_is c.args.self.now c.args.at c.position.result (net_at (place_at c.args.self.now c.args.at) c.args.name.now) c.requires.place c.position.ensures))

pub get-requires : goal.get-requires
get-requires c = first_within c.args.self.now c.self.inside.design.now c.self.inside.placed c.self.inside.names c.self.inside.firsts c.args.at c.self.view_is c.self.invariant c.requires.place
