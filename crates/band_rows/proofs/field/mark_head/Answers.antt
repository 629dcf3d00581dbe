use Rattle.std.proofs.Common.{◌≡◌, sym, ap, subst, ◌∙◌, length, get_or, arith}
use Rattle.std.proofs.lemmas.List.{with_items_is}
use Rattle.std.specs.Vec.{with_items}
use Rattle.lane_kernel.specs.Around.{IsInner}
use Rattle.lane_kernel.specs.Marked.{AreTold}
use Rattle.band_rows.proofs.FieldSteps.{same_listed}
use Rattle.band_rows.proofs.field.mark_head.Goals as goal
use Rattle.band_rows.proofs.field.mark_head.Goals.{After-mark-many}

-- the bytes and the list after the word was marked
bytes : (c : After-mark-many) → (with_items c.args.now.now.bytes c.mark-many.new.bytes).items ≡ c.mark-many.new.bytes
bytes c =
    let long = c.mark-many.ensures.long in
    let old = ap length c.deref_mut.ensures.value in
    with_items_is c.args.now.now.bytes c.mark-many.new.bytes (omega (arith, long, old))

list : (c : After-mark-many) → (with_items c.args.now.now.list c.mark-many.new.list).items ≡ c.mark-many.new.list
list c =
    let long = c.mark-many.ensures.long_list in
    let old = ap length c.deref_mut-2.ensures.value in
    with_items_is c.args.now.now.list c.mark-many.new.list (omega (arith, long, old))

pub mark-many-requires : goal.mark-many-requires
mark-many-requires c =
    let q = c.requires in
    let stride = c.args.free.now.stride in
    record {
      inner = subst (λ n. IsInner stride n c.args.i) (sym (ap length c.deref_mut.ensures.value ∙ q.now)) q.inner;
      listed = same_listed stride c.args.now.now.many c.deref_mut.ensures.value c.deref_mut-2.ensures.value q.listed;
    }

pub tell_around-now-requires : goal.tell_around-now-requires
tell_around-now-requires c =
    let k = (goal.at.tell_around-now-requires c).After-mark-many in
    let q = c.requires in
    let stride = c.args.free.now.stride in
    let here = c.deref_mut-3.ensures.value ∙ bytes k in
    let long = ap length here ∙ c.mark-many.ensures.long ∙ ap length c.deref_mut.ensures.value ∙ q.now in
    record {
      inner = subst (λ n. IsInner stride n c.args.i) (sym long) q.inner;
      long = sym long;
      listed = same_listed stride c.mark-many.result here (c.deref_mut-4.ensures.value ∙ list k) c.mark-many.ensures.listed;
    }

pub returns : goal.returns
returns c =
    let k = (goal.at.returns c).After-mark-many in
    let a = c.args in
    let m = c.mark-many.ensures in
    let t = c.tell_around-now.ensures in
    let free = a.free.now in
    let at_bytes = ap length c.deref_mut-3.ensures.value in
    let at_list = ap length c.deref_mut-4.ensures.value in
    let long = t.long in
    let long_list = t.long_list in
    let told_bytes = with_items_is (with_items a.now.now.bytes c.mark-many.new.bytes) c.tell_around-now.new.bytes (omega (arith, long, at_bytes)) in
    let told_list = with_items_is (with_items a.now.now.list c.mark-many.new.list) c.tell_around-now.new.list (omega (arith, long_list, at_list)) in
    let here = c.deref_mut-3.ensures.value ∙ bytes k in
    record {
      long = ap length told_bytes ∙ long ∙ ap length here ∙ m.long ∙ ap length c.deref_mut.ensures.value;
      long_list = ap length told_list ∙ long_list ∙ ap length (c.deref_mut-4.ensures.value ∙ list k) ∙ m.long_list ∙ ap length c.deref_mut-2.ensures.value;
      listed = same_listed free.stride c.tell_around-now.result told_bytes told_list t.listed;
      more = λ i.
          let first = m.more i in
          let was = ap (λ l. get_or l i 0) c.deref_mut.ensures.value in
          let second = t.more i in
          let mid = ap (λ l. get_or l i 0) here in
          let now = ap (λ l. get_or l i 0) told_bytes in
          omega (arith, first, was, second, mid, now);
      here =
          let first = m.here in
          let second = t.more a.i in
          let mid = ap (λ l. get_or l a.i 0) here in
          let now = ap (λ l. get_or l a.i 0) told_bytes in
          omega (arith, first, second, mid, now);
      told = subst (AreTold free (get_or a.heads.now a.i 0) a.i) (sym told_bytes) t.told;
    }
