use Rattle.std.proofs.Common.{◌≡◌, sym, ◌∙◌, ap, subst, ◌+◌, ◌-◌, ◌<◌, ◌∷◌, length, get_or, drop, arith}
use Rattle.std.proofs.lemmas.List.{length-set}
use Rattle.row_placer.specs.Uses.{need, owed_ports, AreCounted}
use Rattle.row_placer.proofs.Counts.{counted_more, needed, need_small, front}
use Rattle.row_placer.proofs.counting.count_ports.Goals as goal

pub loop-port-preserved : goal.loop-port-preserved
loop-port-preserved c =
    let i = c.loop-port.invariant in
    let n = c.loop-port.port in
    let ports = c.args.ports.now in
    let more : 0 < n = omega (arith, c.loop-port-test.true) in
    let back : (n - 1) + 1 ≡ n = omega (arith, more) in
    let v = get_or ports (n - 1) 0 in
    let low : v < length c.loop-port.left = (let h = c.requires.ports (n - 1) 0 (omega (arith, more, i.3)) in omega (arith, h, i.1)) in
    let list : drop (n - 1) ports ≡ v ∷ drop n ports = front ports (n - 1) n 0 back i.3 in
    let e = c.add_use-owed.ensures in
    let one = needed c.loop-port.left (drop n ports) v c.add_use-owed.result low i.0 e.need in
    let small = need_small v (drop n ports) in (
      subst (AreCounted c.add_use-owed.new.left) (sym list) (counted_more c.loop-port.left c.add_use-owed.new.left (drop n ports) v low e.left i.0),
      ap length e.left ∙ length-set c.loop-port.left v (get_or c.loop-port.left v 0 + 1) ∙ i.1,
      (let sum : c.loop-port.owed + c.add_use-owed.result ≡ need v (drop n ports) + owed_ports (drop n ports) = omega (arith, one, i.2) in sum ∙ ap owed_ports (sym list)),
      omega (arith, i.3),
      omega (arith, one, small, more, i.4),
    )
