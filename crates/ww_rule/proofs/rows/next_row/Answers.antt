use Rattle.std.proofs.Common.{◌≡◌, ◌<◌, ◌+◌, ℕ, pos, [], ◌∷◌, ◌++◌, length, get_or, arith, ap, subst, sym, ◌∙◌, length-append}
use Rattle.ww_rule.specs.declared.pattern.State.{State}
use Rattle.ww_rule.specs.declared.pattern.State.TheVariants.{Empty}
use Rattle.ww_rule.specs.Wireworld.{next_plane, next_state}
use Rattle.ww_rule.specs.Grid.{plane_of}
use Rattle.ww_rule.proofs.RowLemmas.{pushed}
use Rattle.ww_rule.proofs.rows.next_row.Goals as goal

pub loop-x-preserved : goal.loop-x-preserved
loop-x-preserved c =
    let three = c.args.above.now ∷ c.args.row.now ∷ c.args.below.now ∷ [] in
    let is = λ (k : ℕ) (s : State). s ≡ next_plane (plane_of three) (pos k) (pos 1) in
    let items : c.loop-x.next.items ++ c.next.result ∷ [] ≡ c.push.new.self.items = sym c.in_ok-push.ensures.items in
    let here : c.next.result ≡ next_plane (plane_of three) (pos c.loop-x.x) (pos 1) = c.next.ensures ∙ ap (next_state _) c.heads_near.ensures.counted in
    record {
      long = omega (arith, sym (ap length items), length-append c.loop-x.next.items (c.next.result ∷ []));
      cells = subst (λ next. (k : ℕ) → k < c.loop-x.x + 1 → is k (get_or next k Empty)) items (pushed is c.loop-x.next.items c.next.result Empty c.loop-x.x c.loop-x.invariant.long c.loop-x.invariant.cells here);
    }
