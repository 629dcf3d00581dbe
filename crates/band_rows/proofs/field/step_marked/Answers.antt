use Rattle.std.proofs.Common.{ℕ, ◌<◌, ◌≤◌, refl, sym, ap, subst, ◌∙◌, List, length, take, get_or, arith}
use Rattle.std.proofs.lemmas.List.{get_or-take, length-take-le, with_items_is}
use Rattle.lane_kernel.specs.Around.{IsInner}
use Rattle.lane_kernel.specs.Marked.{IsAmong}
use Rattle.band_rows.proofs.FieldSteps.{same_listed, same_marked}
use Rattle.band_rows.proofs.field.step_marked.Goals as goal

-- a number among the first ones stands among the list of these
among_first : (list : List ℕ) (many i : ℕ) → many ≤ length list → IsAmong list 0 many i → IsAmong (take many list) 0 (length (take many list)) i
among_first list many i few a =
    let long = length-take-le many list few in
    let last = a.last in
    record {
      place = a.place;
      first = a.first;
      last = omega (arith, last, long);
      is = get_or-take many list a.place 0 a.last ∙ a.is;
    }

pub step_listed-soon-requires : goal.step_listed-soon-requires
step_listed-soon-requires c =
    let q = c.requires in
    let coming = c.args.coming.now in
    let now = c.args.now.now in
    let list = c.deref.result.now in
    let value = c.deref.ensures.value in
    let within = q.listed.within in
    let items = ap length value in
    let few : now.many ≤ length list = omega (arith, within, items) in
    let many = length-take-le now.many list few in
    record {
      long = record {
        long_tails = q.long.long_tails;
        long_bytes = ap length c.deref_mut.ensures.value ∙ q.long.long_bytes;
        long_soon = ap length c.deref_mut-2.ensures.value ∙ q.long.long_soon;
      };
      on_cells = q.on_cells;
      inner = λ k lt.
          let low : k < now.many = omega (arith, lt, many) in
          let same = get_or-take now.many list k 0 low ∙ ap (λ l. get_or l k 0) value in
          subst (λ n. IsInner coming.stride n (get_or (take now.many list) k 0)) q.long.long_bytes
          (subst (IsInner coming.stride (length now.bytes.items)) (sym same) (q.listed.inner k low));
      each = λ i some.
          among_first list now.many i few
          (subst (λ l. IsAmong l 0 now.many i) (sym value)
          (q.listed.each q.room i (λ zero. some (ap (λ l. get_or l i 0) c.deref_mut.ensures.value ∙ zero))));
      marked = same_marked coming.stride refl refl refl c.deref_mut.ensures.value q.marked;
      cleared = λ i. ap (λ l. get_or l i 0) c.deref_mut-2.ensures.value ∙ q.cleared i;
    }

pub returns : goal.returns
returns c =
    let e = c.step_listed-soon.ensures in
    let new = c.step_listed-soon.new in
    let now = c.args.now.now in
    let later = c.args.soon.now in
    let at_now = ap length c.deref_mut.ensures.value in
    let at_soon = ap length c.deref_mut-2.ensures.value in
    let at_list = ap length c.deref_mut-3.ensures.value in
    let long_bytes = e.long_bytes in
    let long_soon = e.long_soon in
    let bytes = with_items_is now.bytes new.bytes (omega (arith, long_bytes, at_now)) in
    let auto = c.step_listed-soon.auto.list in
    let list = with_items_is later.list new.list (omega (arith, auto, at_list)) in
    let soon = with_items_is later.bytes new.soon (omega (arith, long_soon, at_soon)) in
    record {
      long_tails = e.long_tails;
      long_now = ap length bytes ∙ long_bytes ∙ at_now;
      long_soon = ap length soon ∙ long_soon ∙ at_soon;
      next = e.next;
      cleared = λ i. ap (λ l. get_or l i 0) bytes ∙ e.cleared i;
      listed = same_listed c.args.coming.now.stride c.step_listed-soon.result soon list e.listed;
      marked = same_marked c.args.coming.now.stride refl refl refl soon e.marked;
    }
