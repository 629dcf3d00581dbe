-- What the walk keeps.
use Rattle.depth_walk.specs.declared.walk.Walk.{Walk}
use Rattle.std.specs.Prelude.{ℕ, ◌≡◌, ◌≢◌, ◌<◌, ◌≤◌, ◌+◌, ◌-◌, ◌*◌, List, length, get_or, Bool, true, false, count_by}
use Rattle.depth_walk.specs.declared.walk.Mark.{Mark}
use Rattle.depth_walk.specs.declared.walk.Mark.TheVariants.{Unseen, Open, Done}
use Rattle.depth_walk.specs.declared.walk.Met.{Met}
use Rattle.depth_walk.specs.declared.walk.Met.TheVariants.{Nothing, Fresh, Again}
use Rattle.depth_walk.specs.Links.{Links, LeadsTo}

abbrev pub mark_of : List Mark → ℕ → Mark
mark_of marks n = get_or marks n Unseen

abbrev pub IsMarkedDone : Mark → Type 0
IsMarkedDone mark = (i : ℕ) × (mark ≡ Done i)

abbrev pub is_unseen : Mark → Bool
is_unseen Unseen = true
is_unseen (Open i) = false
is_unseen (Done i) = false

-- the stack is a path: each number on it leads to the next by its step `next`. What a number's
-- steps below `next` lead to is done, and what a done number leads to stands before it in the
-- order. A mark tells where on the stack, or where in the order, its number stands
pub record IsWalk (links : Links) (marks : List Mark) (next stack order : List ℕ) : Type 0 where
  pub marks_fit : length marks ≡ length links
  pub next_fit : length next ≡ length links
  pub counted : count_by is_unseen marks + length stack + length order ≡ length links
  pub open_at : (i : ℕ) → i < length stack → mark_of marks (get_or stack i 0) ≡ Open i
  pub at_open : (n i : ℕ) → mark_of marks n ≡ Open i → (i < length stack) × (get_or stack i 0 ≡ n)
  pub done_at : (i : ℕ) → i < length order → mark_of marks (get_or order i 0) ≡ Done i
  pub at_done : (n i : ℕ) → mark_of marks n ≡ Done i → (i < length order) × (get_or order i 0 ≡ n)
  pub passed : (n k b : ℕ) → k < get_or next n 0 → LeadsTo links n k b
      → IsMarkedDone (mark_of marks b)
  pub before : (n i k b : ℕ) → mark_of marks n ≡ Done i → LeadsTo links n k b
      → (j : ℕ) × (j < i) × (mark_of marks b ≡ Done j)
  pub path : (i : ℕ) → i + 1 < length stack
      → LeadsTo links (get_or stack i 0) (get_or next (get_or stack i 0) 0) (get_or stack (i + 1) 0)

-- what falls with each step of the walk: a number is opened once and closed once
abbrev pub work : List Mark → List ℕ → ℕ
work marks stack = 2 * count_by is_unseen marks + length stack

-- all that the steps from a number lead to is done, for the steps from `from` on and below `to`
abbrev pub AreDoneWithin : Links → List Mark → ℕ → ℕ → ℕ → Type 0
AreDoneWithin links marks n from to =
    (k b : ℕ) → from ≤ k → k < to → LeadsTo links n k b → IsMarkedDone (mark_of marks b)

-- what the steps from a number meet, from `from` on: nothing that is not done; as the first such
-- number one that is unseen; or one that is open, at its place on the stack
abbrev pub IsMet : Links → List Mark → ℕ → ℕ → Met → Type 0
IsMet links marks n from Nothing =
    (k b : ℕ) → from ≤ k → LeadsTo links n k b → IsMarkedDone (mark_of marks b)
IsMet links marks n from (Fresh k b) =
    (from ≤ k) × AreDoneWithin links marks n from k × LeadsTo links n k b × (b < length links)
    × (mark_of marks b ≡ Unseen)
IsMet links marks n from (Again k place) =
    (b : ℕ) × LeadsTo links n k b × (mark_of marks b ≡ Open place)

abbrev pub IsWalkOf : Links → Walk → Type 0
IsWalkOf links walk =
    IsWalk links walk.marks.items walk.next.items walk.stack.items walk.order.items

-- each number that was seen before is still seen after
abbrev pub AreStillSeen : List Mark → List Mark → Type 0
AreStillSeen before after = (n : ℕ) → mark_of before n ≢ Unseen → mark_of after n ≢ Unseen

-- the number stands on top of the path: it is the last on the stack
abbrev pub IsTop : List ℕ → ℕ → Type 0
IsTop stack n = (0 < length stack) × (get_or stack (length stack - 1) 0 ≡ n)
