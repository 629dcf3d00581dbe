use Rattle.std.proofs.Common.{◌+◌, ◌/◌, ◌==◌, ◌<◌, ◌≡◌, sym, ap, ◌∙◌, inl, inr, cond, [], ◌∷◌, ◌++◌, length, get_or, take, filter, slice_set, arith}
use Rattle.std.proofs.lemmas.Bool.{cases_eq, eq-eqb, ne_eqb}
use Rattle.std.proofs.lemmas.Grind.{take_at_read, get_or-set_at}
use Rattle.std.proofs.lemmas.List.{length-set, get_or-set_other, append-nil, get_or_default}
use Rattle.std.proofs.lemmas.List.Elements.{filter-append}
use Rattle.ww_rule.specs.declared.pattern.Injection.{Injection}
use Rattle.band_core.proofs.making.shares.Goals as goal

pub loop-injection-preserved : goal.loop-injection-preserved
loop-injection-preserved c =
    let n = c.loop-injection.injection-index in
    let d : Injection = record { generation = 0; x = 0; y = 0 } in
    let i = get_or c.args.injections.now n d in
    let shares = c.loop-injection.shares.items in
    let v = c.loop-injection.invariant in
    let b = i.y / c.args.height in
    let z = c.replace.new.dest in
    let new = c.of-in-loop-injection.result in
    let l1 = length-set shares b z in
    let l2 = length-set (slice_set shares b z) b new in
    let many = v.many in
    let test = c.loop-injection-test.true in
    let inside = c.requires.inside n d test in
    let lt : b < length (slice_set shares b z) = omega (arith, inside, l1, many) in
    let more : take (n + 1) c.args.injections.now ≡ take n c.args.injections.now ++ i ∷ [] = (take_at_read c.args.injections.now n d test).1 in
    let was : c.into_vec-share.result.items ≡ get_or shares b [] = c.into_vec-share.ensures ∙ c.replace.ensures.value ∙ c.index_mut.ensures.value ∙ get_or_default shares b _ [] (omega (arith, inside, many)) in
    record {
      many = l2 ∙ l1 ∙ many;
      each = λ k lk.
          let p = λ (i : Injection). i.y / c.args.height == k in
          let grown : filter p (take (n + 1) c.args.injections.now) ≡ filter p (take n c.args.injections.now) ++ filter p (i ∷ []) = ap (filter p) more ∙ filter-append p (take n c.args.injections.now) (i ∷ []) in
          elim (cases_eq k b) [
            | inl q ↦
                let mine : filter p (i ∷ []) ≡ i ∷ [] = ap (λ t. cond t (i ∷ []) []) (eq-eqb b k (sym q)) in
                get_or-set_at (slice_set shares b z) b k new [] q lt ∙ c.of-in-loop-injection.ensures ∙ c.in_ok-push.ensures.items ∙ ap (λ l. l ++ i ∷ []) (was ∙ ap (λ j. get_or shares j []) (sym q) ∙ v.each k lk) ∙ sym (grown ∙ ap (λ l. filter p (take n c.args.injections.now) ++ l) mine)
            | inr ne ↦
                let none : filter p (i ∷ []) ≡ [] = ap (λ t. cond t (i ∷ []) []) (ne_eqb b k (λ q. ne (sym q))) in
                get_or-set_other (slice_set shares b z) b k new [] ne ∙ get_or-set_other shares b k z [] ne ∙ v.each k lk ∙ sym (append-nil (filter p (take n c.args.injections.now))) ∙ sym (grown ∙ ap (λ l. filter p (take n c.args.injections.now) ++ l) none)
          ];
    }
