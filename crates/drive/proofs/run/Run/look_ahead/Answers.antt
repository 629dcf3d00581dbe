use Rattle.std.proofs.Common.{◌≡◌, ◌+◌, ◌-◌, sym, ap, ap₂, subst, ◌∙◌, take, drop, length, ℕ, List, Option, All, arith}
use Rattle.std.specs.List.{find}
use Rattle.std.specs.Option.{option_or}
use Rattle.std.proofs.lemmas.List.{drop-drop, length-drop, take_all}
use Rattle.ww_rule.specs.declared.pattern.Injection.{Injection}
use Rattle.ww_rule.specs.Due.{due_count}
use Rattle.ww_rule.specs.Grid.{plane_of}
use Rattle.ww_rule.specs.Injections.{due_of_list}
use Rattle.ww_rule.proofs.Due.{left_after}
use Rattle.drive.specs.Misses.{misses}
use Rattle.drive.proofs.FirstMisses.{due_now, first_at_next}
use Rattle.drive.proofs.run.Run.look_ahead.Goals.{in-Some, in-None}
use Rattle.drive.proofs.run.Run.look_ahead.Goals as goal

-- the slice of those that are left
left_is : (is lent : List Injection) (n : ℕ) → lent ≡ is → take (length lent - n) (drop n lent) ≡ drop n is
left_is is lent n e =
    let l = length-drop n lent in
    take_all (length lent - n) (drop n lent) (omega (arith, l)) ∙ ap (drop n) e

-- and of those that are due next
due_is : (g n count : ℕ) (is lent : List Injection) → lent ≡ is → count ≡ due_count g (take (length lent - n) (drop n lent))
    → take count (take (length lent - n) (drop n lent)) ≡ take (due_count g (drop n is)) (drop n is)
due_is g n count is lent e c =
    let left = left_is is lent n e in
    ap₂ (λ (k : ℕ) (is : List Injection). take k is) (c ∙ ap (due_count g) left) left

pub first_missed-missed-requires-clause-next : goal.first_missed-missed-requires-clause-next
first_missed-missed-requires-clause-next c =
    let run = c.args.self.now in
    let is = run.bands.injections in
    let g = run.generation + 1 in
    subst (All (λ (i : Injection). i.generation ≡ g)) (sym (due_is g run.next_injection c.due_count-count.result is c.injections.result.now c.injections.ensures c.due_count-count.ensures.count))
    (due_now g (drop run.next_injection is))

pub returns-clause-left : goal.returns-clause-left
returns-clause-left c =
    let run = c.args.self.now in
    let is = run.bands.injections in
    let g = run.generation + 1 in
    let n = run.next_injection in
    let count = c.due_count-count.result in
    let all : count ≡ due_count g (drop n is) = c.due_count-count.ensures.count ∙ ap (due_count g) (left_is is c.injections.result.now n c.injections.ensures) in
    left_after g is (drop n is) c.requires.left (drop (n + count) is) (sym (drop-drop count n is) ∙ ap (λ (k : ℕ). drop k (drop n is)) all)

pub returns-clause-missed : goal.returns-clause-missed
returns-clause-missed c =
    let run = c.args.self.now in
    let is = run.bands.injections in
    let n = run.next_injection in
    let left = drop n is in
    let due = due_of_list is in
    let plane = plane_of run.bands.grid.rows in
    let others = find (misses due plane) (take (due_count (run.generation + 1) left) left) in
    let next = first_at_next due plane run.generation is left c.requires.left in
    let by = λ (o : Option Injection) (is : run.missed ≡ o). sym (next ∙ ap (λ (o : Option Injection). option_or o others) (sym c.requires.missed ∙ is)) in
    elim c.match-self.branch [
      | in-Some w ↦ w.missed-is ∙ by _ w.in-Some.is
      | in-None w ↦
          w.missed-is
          ∙ w.first_missed-missed.ensures
          ∙ ap (find (misses due plane)) (due_is (run.generation + 1) n c.due_count-count.result is c.injections.result.now c.injections.ensures c.due_count-count.ensures.count)
          ∙ by _ w.in-None.is
    ]
