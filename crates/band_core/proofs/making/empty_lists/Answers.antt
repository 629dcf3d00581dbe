use Rattle.std.proofs.Common.{◌≡◌, sym, ap, subst, ◌∙◌, [], ◌∷◌, length, get_or, arith}
use Rattle.std.proofs.lemmas.List.{length-append}
use Rattle.ww_rule.proofs.RowLemmas.{pushed}
use Rattle.band_core.proofs.making.empty_lists.Goals as goal

pub loop-b-init : goal.loop-b-init
loop-b-init c = record { many = ap length c.in_ok-lists.ensures.items; empty = λ k lt. absurd (omega (arith, lt)) }

pub loop-b-preserved : goal.loop-b-preserved
loop-b-preserved c =
    let v = c.loop-b.invariant in
    let many = v.many in
    let lists = c.loop-b.lists.items in
    let none = c.of.result in
    let e = c.in_ok-push.ensures.items in
    let grown = ap length e ∙ length-append lists (none ∷ []) in
    record {
      many = omega (arith, grown, many);
      empty = λ k lt.
          subst (λ xs. get_or xs k [] ≡ []) (sym e)
          (pushed (λ k z. z ≡ []) lists none [] c.loop-b.b many (λ k l. v.empty k (omega (arith, l, many))) (c.of.ensures ∙ c.new.ensures.items) k (omega (arith, lt, many, length-append lists (none ∷ []))));
    }
