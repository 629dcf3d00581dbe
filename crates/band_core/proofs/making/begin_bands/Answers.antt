use Rattle.ww_rule.specs.Due.{AreInOrderFrom}
use Rattle.std.proofs.Common.{pos, ◌+ℤ◌, ℕ, ◌+◌, ◌-◌, ◌*◌, ◌/◌, ◌==◌, min, ◌<◌, ◌≡◌, refl, sym, ap, ap₂, subst, ◌∙◌, Bool, List, [], ◌∷◌, ◌++◌, length, get_or, filter, arith}
use Rattle.std.proofs.lemmas.List.{length-set, length-append, get_or-set_other, map-append, replicate_more, get_or_default}
use Rattle.ww_rule.specs.declared.pattern.Injection.{Injection}
use Rattle.ww_rule.specs.Wireworld.{driven}
use Rattle.ww_rule.specs.Grid.{plane_of}
use Rattle.ww_rule.specs.Injections.{due_of_list}
use Rattle.ww_rule.proofs.RowLemmas.{pushed}
use Rattle.band_core.specs.Bands.{bands_in}
use Rattle.band_core.specs.declared.band.Band.{Band}
use Rattle.band_core.specs.Band.{AreInRows, AreDueIn, IsBand, ShowsBand, generations_of}
use Rattle.band_core.proofs.Evolution.{share_inside, share_in_order, share_due, starts}
use Rattle.band_core.proofs.making.begin_bands.Goals as goal

own_is : (shares : List (List Injection)) (b n : ℕ) (own replaced found : List Injection) (p : Injection → Bool) (injections : List Injection) → b < length shares → own ≡ replaced → replaced ≡ found → found ≡ get_or shares b found → get_or shares b [] ≡ filter p injections → own ≡ filter p injections
own_is shares b n own replaced found p injections lt a c d e = a ∙ c ∙ d ∙ get_or_default shares b found [] lt ∙ e

pub begin_band-requires-clause-inside : goal.begin_band-requires-clause-inside
begin_band-requires-clause-inside c =
    let b = c.loop-b.b in
    let h = c.args.height in
    let rows = c.args.rows.now in
    let v = c.loop-b.invariant in
    let lt = c.loop-b-test.true in
    let parts = v.parts in
    let first = starts b h (length rows) c.requires.height (subst (λ n. b < bands_in n h) c.len.ensures.count lt) in
    let own = own_is c.loop-b.shares.items b 0 c.into_vec-own.result.items c.replace.result c.index_mut.result.now (λ i. i.y / h == b) c.args.injections.now (omega (arith, parts, lt)) c.into_vec-own.ensures c.replace.ensures.value c.index_mut.ensures.value (v.left b (omega arith) lt) in
    subst (AreInRows c.args.columns (b * h) _) (sym own)
    (subst (λ n. AreInRows c.args.columns (b * h) n (filter (λ i. i.y / h == b) c.args.injections.now)) (sym (let long : c.min-many.result ≡ min h (length rows - b * h) = c.min-many.ensures ∙ ap (λ n. min h (n - b * h)) c.len-in-loop-b.ensures.count in long))
    (share_inside c.args.columns (length rows) h b c.args.injections.now c.requires.height c.requires.inside))

pub begin_band-requires-clause-in_order : goal.begin_band-requires-clause-in_order
begin_band-requires-clause-in_order c =
    let b = c.loop-b.b in
    let h = c.args.height in
    let v = c.loop-b.invariant in
    let lt = c.loop-b-test.true in
    let parts = v.parts in
    let own = own_is c.loop-b.shares.items b 0 c.into_vec-own.result.items c.replace.result c.index_mut.result.now (λ i. i.y / h == b) c.args.injections.now (omega (arith, parts, lt)) c.into_vec-own.ensures c.replace.ensures.value c.index_mut.ensures.value (v.left b (omega arith) lt) in
    subst (AreInOrderFrom 0) (sym own) (share_in_order (λ i. i.y / h == b) 0 c.args.injections.now c.requires.in_order)

pub loop-b-preserved : goal.loop-b-preserved
loop-b-preserved c =
    let b = c.loop-b.b in
    let h = c.args.height in
    let rows = c.args.rows.now in
    let injections = c.args.injections.now in
    let v = c.loop-b.invariant in
    let lt = c.loop-b-test.true in
    let parts = v.parts in
    let shares = c.loop-b.shares.items in
    let bands = c.loop-b.bands.items in
    let y = b * h in
    let m = min h (length rows - y) in
    let first = starts b h (length rows) c.requires.height (subst (λ n. b < bands_in n h) c.len.ensures.count lt) in
    let own = own_is shares b 0 c.into_vec-own.result.items c.replace.result c.index_mut.result.now (λ i. i.y / h == b) injections (omega (arith, parts, lt)) c.into_vec-own.ensures c.replace.ensures.value c.index_mut.ensures.value (v.left b (omega arith) lt) in
    let long : c.min-many.result ≡ m = c.min-many.ensures ∙ ap (λ n. min h (n - y)) c.len-in-loop-b.ensures.count in
    let band = c.in_ok-begin_band.field-0 in
    let made = c.in_ok-begin_band.ensures in
    let e : c.push.new.self.items ≡ bands ++ band ∷ [] = c.in_ok-push.ensures.items in
    let grown = length-append bands (band ∷ []) in
    let many = v.many in
    let le = ap length e in
    let plane = driven (due_of_list injections) (plane_of rows) in
    let due : AreDueIn c.into_vec-own.result.items (due_of_list injections) y c.min-many.result = λ g x k l.
    ap (λ own. due_of_list own g (pos x) (pos y +ℤ pos k)) own ∙ share_due injections h b g x k (omega (arith, l, long)) in
    record {
      parts = length-set shares b c.replace.new.dest ∙ parts;
      left = λ k le lk. get_or-set_other shares b k c.replace.new.dest [] (λ q. omega (arith, q, le)) ∙ v.left k (omega (arith, le)) lk;
      many = le ∙ grown ∙ ap (λ n. n + 1) many;
      each = λ k d lk.
          subst (λ xs. IsBand c.args.columns (k * h) (min h (length rows - k * h)) (get_or xs k d)) (sym e)
          (pushed (λ k z. IsBand c.args.columns (k * h) (min h (length rows - k * h)) z) bands band d b many (λ k l. v.each k d (omega (arith, l, many))) (subst (λ n. IsBand c.args.columns y n band) long made.is) k (omega (arith, lk, le, grown, many)));
      begun =
          ap generations_of e ∙ map-append (λ (band : Band). band.generation) bands (band ∷ []) ∙ ap₂ (λ gs g. gs ++ g ∷ []) v.begun made.begun ∙ replicate_more b 0;
      shows = λ k d lk.
          subst (λ xs. ShowsBand plane (due_of_list injections) (k * h) (min h (length rows - k * h)) (get_or xs k d)) (sym e)
          (pushed (λ k z. ShowsBand plane (due_of_list injections) (k * h) (min h (length rows - k * h)) z) bands band d b many (λ k l. v.shows k d (omega (arith, l, many)))
          (subst (λ n. ShowsBand plane (due_of_list injections) y n band) long (made.shows plane (due_of_list injections) refl due)) k (omega (arith, lk, le, grown, many)));
    }

pub overflow_mul-y : goal.overflow_mul-y
overflow_mul-y c =
    let first = starts c.loop-b.b c.args.height (length c.args.rows.now) c.requires.height (subst (λ n. c.loop-b.b < bands_in n c.args.height) c.len.ensures.count c.loop-b-test.true) in
    let few = c.len.ensures.few in
    omega (arith, first, few)

pub overflow_sub-len : goal.overflow_sub-len
overflow_sub-len c =
    let first = starts c.loop-b.b c.args.height (length c.args.rows.now) c.requires.height (subst (λ n. c.loop-b.b < bands_in n c.args.height) c.len.ensures.count c.loop-b-test.true) in
    let rows = c.len-in-loop-b.ensures.count in
    omega (arith, first, rows)

pub begin_band-requires-clause-some : goal.begin_band-requires-clause-some
begin_band-requires-clause-some c =
    let first = starts c.loop-b.b c.args.height (length c.args.rows.now) c.requires.height (subst (λ n. c.loop-b.b < bands_in n c.args.height) c.len.ensures.count c.loop-b-test.true) in
    let rows = c.len-in-loop-b.ensures.count in
    let many = c.min-many.ensures in
    let high = c.requires.height in
    omega (arith, first, rows, many, high)

pub begin_band-requires-clause-few : goal.begin_band-requires-clause-few
begin_band-requires-clause-few c = c.len.ensures.few

pub begin_band-requires-clause-within : goal.begin_band-requires-clause-within
begin_band-requires-clause-within c =
    let first = starts c.loop-b.b c.args.height (length c.args.rows.now) c.requires.height (subst (λ n. c.loop-b.b < bands_in n c.args.height) c.len.ensures.count c.loop-b-test.true) in
    let rows = c.len-in-loop-b.ensures.count in
    let many = c.min-many.ensures in
    omega (arith, first, rows, many)

pub begin_band-requires-clause-wide : goal.begin_band-requires-clause-wide
begin_band-requires-clause-wide c = c.requires.long

pub loop-b-init : goal.loop-b-init
loop-b-init c =
    let none = ap length c.in_ok-bands.ensures.items in
    record {
      parts = c.in_ok-shares.ensures.many;
      left = λ k le lt. c.in_ok-shares.ensures.each k lt;
      many = none;
      each = λ k d lt. absurd (omega (arith, lt, none));
      begun = ap generations_of c.in_ok-bands.ensures.items;
      shows = λ k d lt. absurd (omega (arith, lt, none));
    }
