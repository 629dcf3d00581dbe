-- Parts of conjunctions that hold, and of disjunctions that do not.
use Rattle.std.proofs.Common.{◌≡◌, sym, Bool, true, false, ◌&&◌, ◌||◌, true≢false}
use Rattle.std.proofs.lemmas.Bool.{and_parts, or_parts}

pub and_true_left : (a b : Bool) → (a && b) ≡ true → a ≡ true
and_true_left a b e = (and_parts a b e).0

pub and_true_right : (a b : Bool) → (a && b) ≡ true → b ≡ true
and_true_right a b e = (and_parts a b e).1

pub or_false_left : (a b : Bool) → (a || b) ≡ false → a ≡ false
or_false_left a b e = (or_parts a b e).0

pub or_false_right : (a b : Bool) → (a || b) ≡ false → b ≡ false
or_false_right a b e = (or_parts a b e).1

-- where the first holds, it is the second that does not
pub and_false_right : (a b : Bool) → a ≡ true → (a && b) ≡ false → b ≡ false
and_false_right true b holds e = e
and_false_right false b holds e = absurd (true≢false (sym holds))
