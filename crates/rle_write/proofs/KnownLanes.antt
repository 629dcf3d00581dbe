-- What is known of a column of blocks from a lane on.
use Rattle.std.proofs.Common.{◌≡◌, ◌∙◌, sym, ap, inl, inr, ℕ, ◌+◌, ◌≤◌, ◌<◌, List, length, get_or, Some, None, arith}
use Rattle.std.specs.Prelude.{IsTrue, cond, nat_lt, true, false}
use Rattle.std.proofs.lemmas.Bool.{cases_lt}
use Rattle.std.proofs.lemmas.Bool.Decides.{nat_tests}
use Rattle.std.proofs.lemmas.Option.{none-some, same_Some}
use Rattle.std.specs.List.{AllWithin}
use Rattle.tiling.specs.Tiling as tiling
use Rattle.tiling.specs.Tiling.Piece.{Tile}
use Rattle.tiling.specs.Tiling.Slot.{Upper, Lower}
use Rattle.lane_core.specs.declared.instr.Instr.{Instr}
use Rattle.lane_core.specs.Instrs.{lane_of, are_sorted_apart, instr_on}
use Rattle.lane_core.proofs.Lookup.{instr_on-found, instr_on-past}
use Rattle.plan_layout.specs.declared.slot.Slot.{Slot}
use Rattle.plan_layout.specs.Layout.{body_slot, kind_of}
use Rattle.plan_layout.specs.Slots.{slot_of}
use Rattle.rle_write.specs.declared.body.Below.{Below}
use Rattle.rle_write.specs.Known.{IsKnownFrom, IsKnownWithin, StandsKnown, near_slot}

-- what is known from a lane on is known from each lane below it on
pub known_later : (at : ℕ → tiling.Slot) (lane next : ℕ) (slot : Slot) (below : Below) → lane ≤ next → IsKnownFrom at lane slot below → IsKnownFrom at next slot below
known_later at lane next slot below later is = record {
  until = λ l from to. is.until l (omega (arith, later, from)) to;
  upper = λ kind some from. is.upper kind some (omega (arith, later, from));
  lower = λ kind some from. is.lower kind some (omega (arith, later, from));
}

-- nothing is known
pub known_nothing : (at : ℕ → tiling.Slot) (lane : ℕ) (slot : Slot) (below : Below) → below.until ≡ 0 → below.next ≡ None → IsKnownFrom at lane slot below
known_nothing at lane slot below none nothing = record {
  until = λ l from to. absurd (omega (arith, to, none));
  upper = λ kind some from. absurd (none-some kind (sym nothing ∙ some));
  lower = λ kind some from. absurd (none-some kind (sym nothing ∙ some));
}

-- the same is known of a column that is the same down to a number of lanes
pub known_within : (at other : ℕ → tiling.Slot) (lane lanes : ℕ) (slot : Slot) (below within : Below) → ((l : ℕ) → lane ≤ l → l < lanes → at l ≡ other l)
    → IsKnownWithin lanes below within → lane < lanes → StandsKnown at lane slot below → StandsKnown other lane slot within
known_within at other lane lanes slot below within same is inside known = record {
  here = known.here ∙ same lane (omega arith) inside;
  known = record {
    until = λ l from to. known.known.until l from (omega (arith, to, is.until)) ∙ same l from (omega (arith, to, is.few));
    upper = λ kind some from.
        let next = is.next kind some in
        known.known.upper kind next.0 (omega (arith, from, next.1.0))
        ∙ same below.until (omega (arith, from, next.1.0)) (omega (arith, next.1.1)) ∙ ap other (sym next.1.0);
    lower = λ kind some from.
        let next = is.next kind some in
        let there : below.until + 1 ≡ within.until + 1 = omega (arith, next.1.0) in
        known.known.lower kind next.0 (omega (arith, from, next.1.0))
        ∙ same (below.until + 1) (omega (arith, from, next.1.0)) (omega (arith, next.1.1)) ∙ ap other there;
  };
}

-- a slot stands, and nothing is known below it
pub stands_alone : (at : ℕ → tiling.Slot) (lane : ℕ) (slot : Slot) (below : Below) → slot_of slot ≡ at lane → below.until ≡ 0 → below.next ≡ None → StandsKnown at lane slot below
stands_alone at lane slot below stands none nothing = record { here = stands; known = known_nothing at lane slot below none nothing }

-- the two lanes of an instruction
upper_slot : (instr : Instr) → Upper (Tile (kind_of instr)) ≡ body_slot (lane_of instr) (Some instr)
upper_slot instr = grind (arith, nat_tests)

lower_slot : (instr : Instr) → Lower (Tile (kind_of instr)) ≡ body_slot (lane_of instr + 1) (Some instr)
lower_slot instr = grind (arith, nat_tests)

-- no instruction works on a lane before the first one that does not lie above the lane
before_first : (instrs : List Instr) (n lane l : ℕ) → IsTrue (are_sorted_apart instrs) → AllWithin (λ i. lane_of i + 1 < lane) instrs 0 n
    → lane ≤ l → ((e : Instr) → n < length instrs → l < lane_of (get_or instrs n e)) → body_slot l None ≡ body_slot l (instr_on instrs l)
before_first instrs n lane l sorted before from first =
    ap (body_slot l) (sym (instr_on-past l instrs n sorted (λ k e first within. (let b = before k e first within in omega (arith, b, from))) first))

-- what is known where all instructions lie above a lane
pub known_free : (instrs : List Instr) (n lane above until : ℕ) (slot : Slot) → IsTrue (are_sorted_apart instrs)
    → AllWithin (λ i. lane_of i + 1 < lane) instrs 0 n → length instrs ≤ n → slot_of slot ≡ body_slot lane None
    → StandsKnown (λ l. body_slot l (instr_on instrs l)) lane slot (record { above = above; until = until; next = None })
known_free instrs n lane above until slot sorted before all stands =
    let free : (l : ℕ) → lane ≤ l → body_slot l None ≡ body_slot l (instr_on instrs l) =
    λ l from. before_first instrs n lane l sorted before from (λ e within. absurd (omega (arith, within, all))) in
    record {
      here = stands ∙ free lane (omega arith);
      known = record {
        until = λ l from to. stands ∙ free l from;
        upper = λ kind some from. absurd (none-some kind some);
        lower = λ kind some from. absurd (none-some kind some);
      };
    }

-- what is known by the first instruction that does not lie above a lane
pub known_near : (instrs : List Instr) (n lane above : ℕ) (instr : Instr) (slot : Slot) → IsTrue (are_sorted_apart instrs)
    → AllWithin (λ i. lane_of i + 1 < lane) instrs 0 n → n < length instrs → ((e : Instr) → instr ≡ get_or instrs n e) → lane ≤ lane_of instr + 1
    → slot_of slot ≡ near_slot lane instr
    → StandsKnown (λ l. body_slot l (instr_on instrs l)) lane slot (record { above = above; until = lane_of instr; next = Some (kind_of instr) })
known_near instrs n lane above instr slot sorted before inside is low stands =
    record {
      here = elim (cases_lt lane (lane_of instr)) [
        | inl less ↦ wire less ∙ off lane (omega arith) less
        | inr on_it ↦ tile on_it ∙ ap (body_slot lane) (sym (on lane (omega arith) on_it low))
      ];
      known = record {
        until = λ l from to. wire (omega (arith, from, to)) ∙ off l from to;
        upper = λ kind some from.
            ap (λ k. Upper (Tile k)) (sym (same_Some (kind_of instr) kind some)) ∙ upper_slot instr ∙ ap (body_slot (lane_of instr)) (sym (on (lane_of instr) from (omega arith) (omega arith)));
        lower = λ kind some from.
            ap (λ k. Lower (Tile k)) (sym (same_Some (kind_of instr) kind some)) ∙ lower_slot instr ∙ ap (body_slot (lane_of instr + 1)) (sym (on (lane_of instr + 1) from (omega arith) (omega arith)));
      };
    }
  where
    on : (l : ℕ) → lane ≤ l → lane_of instr ≤ l → l ≤ lane_of instr + 1 → instr_on instrs l ≡ Some instr
    on l from high to =
        let same : lane_of instr ≡ lane_of (get_or instrs n instr) = ap lane_of (is instr) in
        instr_on-found l instrs n instr inside (λ k e less. (let b = before k e (omega arith) less in omega (arith, b, from))) (omega (arith, to, same)) (omega (arith, high, same))
        ∙ ap Some (sym (is instr))

    off : (l : ℕ) → lane ≤ l → l < lane_of instr → body_slot l None ≡ body_slot l (instr_on instrs l)
    off l from less =
        before_first instrs n lane l sorted before from (λ e within. (let same : lane_of instr ≡ lane_of (get_or instrs n e) = ap lane_of (is e) in omega (arith, less, same)))

    wire : lane < lane_of instr → slot_of slot ≡ body_slot lane None
    wire less = let t : nat_lt lane (lane_of instr) ≡ true = grind (arith, nat_tests) in stands ∙ ap (λ b. cond b (body_slot lane None) (body_slot lane (Some instr))) t

    tile : lane_of instr ≤ lane → slot_of slot ≡ body_slot lane (Some instr)
    tile le = let t : nat_lt lane (lane_of instr) ≡ false = grind (arith, nat_tests) in stands ∙ ap (λ b. cond b (body_slot lane None) (body_slot lane (Some instr))) t
