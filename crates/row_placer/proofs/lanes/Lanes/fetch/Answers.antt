use Rattle.std.proofs.Common.{◌≡◌, sym, ◌∙◌, ap, subst, ◌<◌, ⊎_elim, length, arith}
use Rattle.row_placer.specs.declared.roles.Role.TheVariants.{Kept}
use Rattle.row_placer.specs.Told.{tag, tag_on, free_tag, taken_tag, Exchanged}
use Rattle.row_placer.proofs.Carry.{kept_on, marked, copy_marked}
use Rattle.row_placer.proofs.lanes.Lanes.fetch.Goals as goal

pub returns-then-last : goal.returns-then-last
returns-then-last c =
    let s = c.args.self.now in
    let m = c.mark.ensures in
    let new = c.mark.new.self in
    let find = c.find-lane.ensures in
    record {
      exchanged = subst (λ last. Exchanged s.tags.items new.tags.items (taken_tag c.args.value last) (tag c.args.value c.args.role)) (sym c.if-last.true)
          (marked s.tags.items new.tags.items c.find-lane.result c.args.value c.args.role find.within find.here m.tags);
      adds = record { long = m.adds.long; count = omega (arith, m.adds.count) };
      kept = m.kept;
    }

pub returns-in_ok-at : goal.returns-in_ok-at
returns-in_ok-at c =
    let s = c.args.self.now in
    let copy = c.copy.new.self in
    let e = c.in_ok-at.ensures in
    let m = c.mark-else-last.ensures in
    let new = c.mark-else-last.new.self in
    let at = c.beside.result in
    let here = c.find-lane.ensures.here in
    let side : (at < length copy.tags.items) × (tag_on copy.tags.items at ≡ tag c.args.value Kept) =
    ⊎_elim
    (λ upper. (omega (arith, upper, e.within, e.adds.long), ap (tag_on copy.tags.items) upper ∙ e.copied.upper ∙ here))
    (λ lower. (omega (arith, lower, e.within, e.adds.long), ap (tag_on copy.tags.items) lower ∙ e.copied.lower ∙ here))
    c.beside.ensures in
    let first = subst (λ t. Exchanged s.tags.items copy.tags.items free_tag t) here e.copied.exchanged in
    let next = marked copy.tags.items new.tags.items at c.args.value c.args.role side.0 side.1 m.tags in
    record {
      exchanged = subst (λ last. Exchanged s.tags.items new.tags.items (taken_tag c.args.value last) (tag c.args.value c.args.role)) (sym c.if-last.false)
          (copy_marked s.tags.items copy.tags.items new.tags.items free_tag (tag c.args.value Kept) (tag c.args.value c.args.role) first next);
      adds = record { long = m.adds.long ∙ e.adds.long; count = omega (arith, m.adds.count, e.adds.count) };
      kept = kept_on s copy new e.kept m.kept;
    }
