use Rattle.std.proofs.Common.{◌++◌, ◌∷◌, ◌∙◌, ap, ap₂, sym, ◌<◌, List, [], filter, length, get_or, take, arith}
use Rattle.std.proofs.lemmas.Result.{err_from_is_err_and}
use Rattle.std.proofs.lemmas.List.Elements.{filter_more}
use Rattle.netlist_core.specs.declared.flat.Flat.{Flat}
use Rattle.netlist_core.specs.declared.flat.Net.{Net as FlatNet}
use Rattle.routed_plans.specs.Drawn.{is_plain}
use Rattle.routed_plans.proofs.net_lines.plain_nets.Goals as goal

pub returns-in_err-clocks : goal.returns-in_err-clocks
returns-in_err-clocks c = rw ((err_from_is_err_and c.from_residual.result c.from_residual.ensures.1).1) tt

pub returns-in_err-add_plain : goal.returns-in_err-add_plain
returns-in_err-add_plain c = rw ((err_from_is_err_and c.from_residual-in_err-add_plain.result c.from_residual-in_err-add_plain.ensures.1).1) tt

pub loop-net-preserved : goal.loop-net-preserved
loop-net-preserved c =
    let flat = c.args.flat.now in
    let i = c.loop-net.net-index in
    let net = c.net-item.result in
    let within : i < length flat.nets = omega (arith, c.loop-net-test.true, ap length c.as_slice-net-items.ensures) in
    let is = c.net-item.is ∙ ap (λ (nets : List FlatNet). get_or nets i net) c.as_slice-net-items.ensures in
    c.in_ok-add_plain.ensures
    ∙ ap₂ (λ nets (f : Flat). nets ++ filter (is_plain f) (net ∷ [])) c.loop-net.invariant c.in_ok-clocks.ensures
    ∙ ap (λ (n : FlatNet). filter (is_plain flat) (take i flat.nets) ++ filter (is_plain flat) (n ∷ [])) is
    ∙ sym (filter_more (is_plain flat) flat.nets i net within)
