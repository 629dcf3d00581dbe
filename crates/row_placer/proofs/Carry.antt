-- Steps that follow one another.
use Rattle.std.proofs.Common.{◌≡◌, refl, sym, ◌∙◌, ap, ap₂, subst, ℕ, ◌+◌, ◌*◌, ◌<◌, ◌≤◌, ⊎_elim, cond, List, [], ◌∷◌, ◌++◌, length, get_or, set, count_by, arith}
use Rattle.std.specs.Prelude.{◌≢◌}
use Rattle.std.proofs.lemmas.Bool.{cases_eq}
use Rattle.std.proofs.lemmas.Bool.Decides.{nat_tests}
use Rattle.std.proofs.lemmas.List.{length_push, get_or_default}
use Rattle.lane_core.specs.declared.instr.Instr.{Instr}
use Rattle.channel_router.specs.Routes.{brought, swapped}
use Rattle.channel_router.proofs.TwoSet.{two_set}
use Rattle.row_placer.specs.declared.roles.Role.{Role}
use Rattle.row_placer.specs.declared.roles.Role.TheVariants.{Kept}
use Rattle.row_placer.specs.declared.roles.Tag.{Tag}
use Rattle.row_placer.specs.declared.job.Job.{Job}
use Rattle.row_placer.specs.declared.job.NumberedCell.{NumberedCell}
use Rattle.row_placer.specs.declared.lanes.Lanes.{Lanes}
use Rattle.row_placer.specs.Told.{tag, free_tag, tag_on, SameTags, Exchanged, GateExchanged, Rearranged}
use Rattle.row_placer.specs.Steps.{KeepsGates, AddsInstrs, AddsAtMost, MovesTags, CopiesTag, IsNextGate, MakesGate, next_value}
use Rattle.row_placer.proofs.Steps.{length-two, counts_set, counts_step}

-- what is brought to a lane stands there
pub brought_to : (from to : ℕ) → brought from to to ≡ from
brought_to from to = grind (arith, nat_tests)

pub kept_on : (a b c : Lanes) → KeepsGates a b → KeepsGates b c → KeepsGates a c
kept_on a b c first next = record { made = next.made ∙ first.made; job = next.job ∙ first.job }

-- lanes that were moved are moved again
pub moved_on : (a b c : Lanes) (from by to : ℕ → ℕ) (n m k : ℕ) → MovesTags a b from n → MovesTags b c by m → ((l : ℕ) → from (by l) ≡ to l) → k ≡ n + m → MovesTags a c to k
moved_on a b c from by to n m k first next both sum = record {
  lanes = λ l. next.lanes l ∙ first.lanes (by l) ∙ ap (λ i. get_or a.tags.items i free_tag) (both l);
  same = λ p. next.same p ∙ first.same p;
  long = next.long ∙ first.long;
  count = omega (arith, next.count, first.count, sum);
}

more_count : (start now next n lanes : ℕ) → now ≤ start + n * lanes → next ≤ now + lanes → next ≤ start + (n + 1) * lanes
more_count start now next n lanes le one = grind (arith, le, one)

-- as many instructions as there are lanes are added once more
pub adds_one : (a b c : Lanes) (n : ℕ) → AddsAtMost a b (n * length a.tags.items) → AddsAtMost b c (length b.tags.items) → AddsAtMost a c ((n + 1) * length a.tags.items)
adds_one a b c n first next = record {
  long = next.long ∙ first.long;
  count = more_count (length a.instrs.items) (length b.instrs.items) (length c.instrs.items) n (length a.tags.items) first.count (omega (arith, next.count, first.long));
}

-- one instruction on two lanes
pub one_added : (a b : Lanes) (i : ℕ) (u l : Tag) (instr : Instr) → b.tags.items ≡ set (set a.tags.items i u) (i + 1) l → b.instrs.items ≡ a.instrs.items ++ instr ∷ [] → AddsInstrs a b 1
one_added a b i u l instr tags instrs = record {
  long = ap length tags ∙ length-two a.tags.items i (i + 1) u l;
  count = (let n = length_push a.instrs.items instr in omega (arith, ap length instrs, n));
}

-- two lanes whose tags are exchanged
pub swapped_upper : (at lane : ℕ) → lane ≡ at → swapped at lane ≡ at + 1
swapped_upper at lane e = grind (arith, nat_tests)

pub swapped_lower : (at lane : ℕ) → lane ≡ at + 1 → swapped at lane ≡ at
swapped_lower at lane e = grind (arith, nat_tests)

swapped_other : (at lane : ℕ) → lane ≢ at → lane ≢ at + 1 → swapped at lane ≡ lane
swapped_other at lane off away = grind (arith, nat_tests)

pub tags_swapped : (tags new : List Tag) (at : ℕ) (u l : Tag) → at + 1 < length tags → u ≡ get_or tags (at + 1) u → l ≡ get_or tags at l → new ≡ set (set tags at u) (at + 1) l
    → Rearranged tags new (swapped at) × SameTags tags new
tags_swapped tags new at u l within u_is l_is is = (
  λ lane. ap (λ ts. get_or ts lane free_tag) is ∙ (let ts = two_set tags at u l free_tag lane within in
      ⊎_elim
      (λ here. ts.0 here ∙ upper ∙ ap (λ i. get_or tags i free_tag) (sym (swapped_upper at lane here)))
      (λ off. ⊎_elim
      (λ below. ts.1 below ∙ lower ∙ ap (λ i. get_or tags i free_tag) (sym (swapped_lower at lane below)))
      (λ away. ts.2 off away ∙ ap (λ i. get_or tags i free_tag) (sym (swapped_other at lane off away)))
      (cases_eq lane (at + 1)))
      (cases_eq lane at)),
  λ p. (let e = counts_step p tags at u l within in
      let a : cond {A = ℕ} (p u) 1 0 ≡ cond {A = ℕ} (p (get_or tags (at + 1) free_tag)) 1 0 = ap (λ t. cond {A = ℕ} (p t) 1 0) upper in
      let b : cond {A = ℕ} (p l) 1 0 ≡ cond {A = ℕ} (p (get_or tags at free_tag)) 1 0 = ap (λ t. cond {A = ℕ} (p t) 1 0) lower in
      let n : count_by p new ≡ count_by p (set (set tags at u) (at + 1) l) = ap (count_by p) is in
      omega (arith, e, a, b, n)),
)
  where
    upper : u ≡ get_or tags (at + 1) free_tag
    upper = u_is ∙ get_or_default tags (at + 1) u free_tag within

    lower : l ≡ get_or tags at free_tag
    lower = l_is ∙ get_or_default tags at l free_tag (omega (arith, within))

-- a lane that is copied to the next one
pub tag_copied : (a b : Lanes) (at : ℕ) (t : Tag) → at + 1 < length a.tags.items → t ≡ get_or a.tags.items at t → b.tags.items ≡ set (set a.tags.items at t) (at + 1) t
    → CopiesTag a b at at (tag_on a.tags.items (at + 1))
tag_copied a b at t within t_is is = record {
  upper = ap (λ ts. get_or ts at free_tag) is ∙ (two_set a.tags.items at t t free_tag at within).0 refl ∙ same;
  lower = ap (λ ts. get_or ts (at + 1) free_tag) is ∙ (two_set a.tags.items at t t free_tag (at + 1) within).1 refl ∙ same;
  exchanged = λ p. (let e = counts_step p a.tags.items at t t within in
      let s : cond {A = ℕ} (p t) 1 0 ≡ cond {A = ℕ} (p (get_or a.tags.items at free_tag)) 1 0 = ap (λ u. cond {A = ℕ} (p u) 1 0) same in
      let n : count_by p b.tags.items ≡ count_by p (set (set a.tags.items at t) (at + 1) t) = ap (count_by p) is in
      omega (arith, e, s, n));
}
  where
    same : t ≡ get_or a.tags.items at free_tag
    same = t_is ∙ get_or_default a.tags.items at t free_tag (omega (arith, within))

-- and one that was brought to a free lane before
pub copied_after : (a b c : Lanes) (lane at : ℕ) → SameTags a.tags.items b.tags.items → tag_on b.tags.items at ≡ tag_on a.tags.items lane → tag_on b.tags.items (at + 1) ≡ free_tag
    → CopiesTag b c at at (tag_on b.tags.items (at + 1)) → CopiesTag a c lane at free_tag
copied_after a b c lane at same here free copied = record {
  upper = copied.upper ∙ here;
  lower = copied.lower ∙ here;
  exchanged = λ p. (let e = copied.exchanged p in
      let t : cond {A = ℕ} (p (tag_on b.tags.items at)) 1 0 ≡ cond {A = ℕ} (p (tag_on a.tags.items lane)) 1 0 = ap (λ u. cond {A = ℕ} (p u) 1 0) here in
      let f : cond {A = ℕ} (p (tag_on b.tags.items (at + 1))) 1 0 ≡ cond {A = ℕ} (p free_tag) 1 0 = ap (λ u. cond {A = ℕ} (p u) 1 0) free in
      omega (arith, e, t, f, same p));
}

-- a kept value that is given another role
pub marked : (old new : List Tag) (lane value : ℕ) (role : Role) → lane < length old → tag_on old lane ≡ tag value Kept → new ≡ set old lane (tag (tag_on old lane).value role)
    → Exchanged old new (tag value Kept) (tag value role)
marked old new lane value role within here is p =
    let e = counts_set p old lane (tag (tag_on old lane).value role) within in
    let gone : cond {A = ℕ} (p (get_or old lane free_tag)) 1 0 ≡ cond {A = ℕ} (p (tag value Kept)) 1 0 = ap (λ t. cond {A = ℕ} (p t) 1 0) here in
    let come : cond {A = ℕ} (p (tag (tag_on old lane).value role)) 1 0 ≡ cond {A = ℕ} (p (tag value role)) 1 0 = ap (λ (t : Tag). cond {A = ℕ} (p (tag t.value role)) 1 0) here in
    let n : count_by p new ≡ count_by p (set old lane (tag (tag_on old lane).value role)) = ap (count_by p) is in
    omega (arith, e, gone, come, n)

-- and one of which a copy is
pub copy_marked : (a b c : List Tag) (gone by come : Tag) → Exchanged a b gone by → Exchanged b c by come → Exchanged a c gone come
copy_marked a b c gone by come first next p = omega (arith, first p, next p)

-- the next gate stays the next one, and is made of lanes that were moved
pub next_kept : (a b : Lanes) (gate : NumberedCell) → KeepsGates a b → IsNextGate a gate → IsNextGate b gate
next_kept a b gate kept next = record {
  within = omega (arith, next.within, ap length kept.made, ap (λ (j : Job). length j.gates) kept.job);
  known = ap₂ (λ (j : Job) m. get_or j.gates (length m) gate) kept.job kept.made ∙ next.known;
}

pub made_after : (a b c : Lanes) (gate : NumberedCell) → KeepsGates a b → SameTags a.tags.items b.tags.items → MakesGate b c gate → MakesGate a c gate
made_after a b c gate kept same makes = record {
  exchanged = subst (GateExchanged a.tags.items c.tags.items gate) (ap₂ (λ (j : Job) m. j.base + length m) kept.job kept.made)
      (λ p. makes.exchanged p ∙ ap (λ n. n + (cond (p (tag (next_value b) Kept)) 1 0 + cond (p free_tag) 1 0)) (same p));
  made = makes.made ∙ ap (λ m. length m + 1) kept.made;
}
