use Rattle.std.proofs.Common.{◌≡◌, sym, ◌∙◌, subst₂, length, Result, arith}
use Rattle.std.specs.Prelude.{OnOk}
use Rattle.std.proofs.lemmas.Result.{on_ok_weaker}
use Rattle.row_placer.specs.Settling.{Settles}
use Rattle.row_placer.proofs.Ports.{same_held}
use Rattle.row_placer.proofs.lanes.Lanes.settle_loops.Goals as goal

then : {T E P Q : Type 0} (r : Result T E) → OnOk r P → (P → Q) → OnOk r Q
then r p f = on_ok_weaker r f p

pub returns-then-branch : goal.returns-then-branch
returns-then-branch c =
    let s = c.args.self.now in
    let job = s.job in
    let new = c.swap_all.new.self in
    let swaps = c.deref-then-branch.result.now in
    let result = c.swap_all.result in
    let e = c.swap_all.ensures in
    let checked : c.deref-4.result.now ≡ swaps = c.deref-4.ensures.value ∙ sym c.deref-then-branch.ensures.value in
    let yes : Settles job c.args.loops s.tags.items swaps = subst₂ (Settles job c.args.loops) c.deref-3.ensures.value checked (c.in_ok-settles.ensures c.if-branch.true) in
    record {
      held = then result e.moved (λ m. same_held job (length job.ports) s.tags.items new.tags.items m.same c.requires.held);
      settled = then result e.moved (λ m. yes.settled new.tags.items m.long m.lanes);
      adds = then result e.moved (λ m. record { long = m.long; count = omega (arith, m.count, yes.few) });
      kept = record { made = e.kept.made; job = e.kept.job };
    }

pub returns : goal.returns
returns c =
    let e = c.bring_loops.ensures in
    record {
      held = e.held;
      settled = e.settled;
      adds = then c.bring_loops.result e.adds (λ a. record { long = a.long; count = a.count });
      kept = record { made = e.kept.made; job = e.kept.job };
    }
