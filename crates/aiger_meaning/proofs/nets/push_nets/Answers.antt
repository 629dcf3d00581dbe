use Rattle.std.proofs.Common.{◌+◌, ◌-◌, ◌≤◌, ◌≡◌, [], ◌∷◌, ap, length, take, drop, arith}
use Rattle.std.specs.Prelude.{replicate}
use Rattle.std.proofs.lemmas.List.{length-take-le, length-replicate, length-drop}
use Rattle.std.proofs.lemmas.Result.{err_from_is_err_and}
use Rattle.netlist_core.specs.Names.{Name}
use Rattle.aiger_meaning.proofs.Pushes.{more_long, nets_are}
use Rattle.aiger_meaning.proofs.nets.push_nets.Goals as goal

pub push_unnamed-requires : goal.push_unnamed-requires
push_unnamed-requires c =
    let names = c.as_slice-names.result.now in
    let none : length c.args.nets.now.items ≡ 0 = ap length c.requires.none in
    let a = more_long c.args.nets.now.items c.push_net.new.nets.items ([] ∷ []) c.in_ok-push_net.ensures in
    let b = more_long c.push_net.new.nets.items c.push_named.new.nets.items (take c.len-count.result names) c.in_ok-push_named.ensures in
    let few : c.len-count.result ≤ length names = omega (arith, c.len-count.ensures, c.requires.sound.all_named, ap length c.as_slice-names.ensures) in
    omega (arith, none, a, b, length-take-le c.len-count.result names few, c.requires.small, c.len-count.ensures, c.len.ensures, c.len-2.ensures, c.len-3.ensures)

pub push_named-requires-2 : goal.push_named-requires-2
push_named-requires-2 c =
    let names = c.as_slice-names.result.now in
    let inner = c.len.result + c.len-2.result + c.len-3.result in
    let none : length c.args.nets.now.items ≡ 0 = ap length c.requires.none in
    let a = more_long c.args.nets.now.items c.push_net.new.nets.items ([] ∷ []) c.in_ok-push_net.ensures in
    let b = more_long c.push_net.new.nets.items c.push_named.new.nets.items (take c.len-count.result names) c.in_ok-push_named.ensures in
    let u = more_long c.push_named.new.nets.items c.push_unnamed.new.nets.items (replicate inner []) c.in_ok-push_unnamed.ensures in
    let few : c.len-count.result ≤ length names = omega (arith, c.len-count.ensures, c.requires.sound.all_named, ap length c.as_slice-names.ensures) in
    let rest : length (drop c.len-count.result names) ≡ length names - c.len-count.result = length-drop c.len-count.result names in
    omega (
      arith,
      none,
      a,
      b,
      u,
      rest,
      length-take-le c.len-count.result names few,
      length-take-le (length names - c.len-count.result) (drop c.len-count.result names) (omega (arith, rest)),
      length-replicate {A = Name} inner [],
      c.requires.small,
      c.requires.sound.all_named,
      ap length c.as_slice-names.ensures,
      c.len-count.ensures,
      c.len.ensures,
      c.len-2.ensures,
      c.len-3.ensures,
    )

pub returns-in_err-push_net : goal.returns-in_err-push_net
returns-in_err-push_net c = rw ((err_from_is_err_and c.from_residual.result c.from_residual.ensures.1).1) tt

pub returns-in_err-push_named : goal.returns-in_err-push_named
returns-in_err-push_named c = rw ((err_from_is_err_and c.from_residual-in_err-push_named.result c.from_residual-in_err-push_named.ensures.1).1) tt

pub returns-in_err-push_unnamed : goal.returns-in_err-push_unnamed
returns-in_err-push_unnamed c = rw ((err_from_is_err_and c.from_residual-in_err-push_unnamed.result c.from_residual-in_err-push_unnamed.ensures.1).1) tt

pub returns-in_err-push_named-2 : goal.returns-in_err-push_named-2
returns-in_err-push_named-2 c = rw ((err_from_is_err_and c.from_residual-in_err-push_named-2.result c.from_residual-in_err-push_named-2.ensures.1).1) tt

pub returns : goal.returns
returns c =
    nets_are c.args.aig.now c.as_slice-names.result.now c.len-count.result (c.len.result + c.len-2.result + c.len-3.result) c.args.nets.now.items c.push_net.new.nets.items c.push_named.new.nets.items c.push_unnamed.new.nets.items c.push_named-2.new.nets.items
    (omega (arith, c.requires.sound.all_named)) c.as_slice-names.ensures c.len-count.ensures (omega (arith, c.len.ensures, c.len-2.ensures, c.len-3.ensures)) c.requires.none
    c.in_ok-push_net.ensures c.in_ok-push_named.ensures c.in_ok-push_unnamed.ensures c.in_ok-push_named-2.ensures
