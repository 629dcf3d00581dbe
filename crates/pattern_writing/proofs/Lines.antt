-- The lines on which wrapping puts items.
use Rattle.std.proofs.Common.{◌≡◌, ◌≤◌, ◌<◌, ℕ, ◌+◌, Bool, true, false, List, [], ◌∷◌, ◌++◌, flat_map, map, length, refl, sym, ap, ◌∙◌, append_assoc, arith}
use Rattle.std.specs.List.{AllByRecursion}
use Rattle.std.proofs.lemmas.Bool.{leb-true, leb-false}
use Rattle.std.proofs.lemmas.List.{length-append}
use Rattle.pattern_writing.specs.Writer.{fits_after, ended_lines, wrapped}
use Rattle.pattern_writing.specs.Laws.{AreOnLines, BreaksAfter, HasNeededBreaks, IsShort, WrappedIsLines, joined}

-- how items go on where a line has so many bytes: more of them on this line, and the rest on lines of their own
record IsFilled (used : ℕ) (items : List (List ℕ)) : Type 0 where
  more : List (List ℕ)
  rest : List (List (List ℕ))
  all : more ++ flat_map (λ line. line) rest ≡ items
  text : joined more ++ 10 ∷ ended_lines (map joined rest) ≡ wrapped used items ++ 10 ∷ []
  room : used + length (joined more) ≤ 70
  short : AllByRecursion (λ line. length (joined line) ≤ 70) rest
  after : BreaksAfter (used + length (joined more)) rest
  breaks : HasNeededBreaks rest

-- an item before the rest of its line
item_first : (item more rest body : List ℕ) → more ++ 10 ∷ rest ≡ body ++ 10 ∷ [] → (item ++ more) ++ 10 ∷ rest ≡ (item ++ body) ++ 10 ∷ []
item_first item more rest body e = append_assoc item more (10 ∷ rest) ∙ ap (λ r. item ++ r) e ∙ sym (append_assoc item body (10 ∷ []))

on_line : (used : ℕ) (item : List ℕ) (items : List (List ℕ)) → fits_after used item ≡ true → IsFilled (used + length item) items → IsFilled used (item ∷ items)
on_line used item items e h =
    let n : length (item ++ joined h.more) ≡ length item + length (joined h.more) = length-append item (joined h.more) in
    let sum : used + length (item ++ joined h.more) ≡ used + length item + length (joined h.more) = omega (arith, n) in
    record {
      more = item ∷ h.more;
      rest = h.rest;
      all = ap (λ is. item ∷ is) h.all;
      text = rw e (item_first item (joined h.more) (ended_lines (map joined h.rest)) (wrapped (used + length item) items) h.text);
      room = rw sum h.room;
      short = h.short;
      after = rw sum h.after;
      breaks = h.breaks;
    }

on_next_line : (used : ℕ) (item : List ℕ) (items : List (List ℕ)) → used ≤ 70 → fits_after used item ≡ false → IsFilled (length item) items → IsFilled used (item ∷ items)
on_next_line used item items small e h =
    let n : length (item ++ joined h.more) ≡ length item + length (joined h.more) = length-append item (joined h.more) in
    let long : 70 < used + length item = leb-false _ _ e in
    record {
      more = [];
      rest = (item ∷ h.more) ∷ h.rest;
      all = ap (λ is. item ∷ is) h.all;
      text = rw e (ap (λ r. 10 ∷ r) (append_assoc (item ++ joined h.more) (10 ∷ []) (ended_lines (map joined h.rest)) ∙ item_first item (joined h.more) (ended_lines (map joined h.rest)) (wrapped (length item) items) h.text));
      room = omega (arith, small);
      short = (rw n h.room, h.short);
      after = omega (arith, long);
      breaks = (rw n h.after, h.breaks);
    }

filled : (used : ℕ) (items : List (List ℕ)) → used ≤ 70 → AllByRecursion IsShort items → IsFilled used items
filled used [] small h = record { more = []; rest = []; all = refl; text = refl; room = omega (arith, small); short = tt; after = tt; breaks = tt }
filled used (item ∷ items) small h = by_test (fits_after used item) refl (λ room. filled (used + length item) items room h.1) (filled (length item) items h.0 h.1)
  where
    by_test : (t : Bool) → fits_after used item ≡ t → (used + length item ≤ 70 → IsFilled (used + length item) items) → IsFilled (length item) items → IsFilled used (item ∷ items)
    by_test true e here next = on_line used item items e (here (leb-true _ _ e))
    by_test false e here next = on_next_line used item items small e next

on_lines : (items : List (List ℕ)) → (h : IsFilled 0 items) → AreOnLines items (h.more ∷ h.rest)
on_lines items h =
    let sum : length (joined h.more) ≡ 0 + length (joined h.more) = omega arith in
    record {
      all = h.all;
      text = append_assoc (joined h.more) (10 ∷ []) (ended_lines (map joined h.rest)) ∙ h.text;
      short = (rw sum h.room, h.short);
      breaks = (rw sum h.after, h.breaks);
    }

pub wrapped_is_lines : WrappedIsLines
wrapped_is_lines items short =
    let h = filled 0 items (omega arith) short in
    (h.more ∷ h.rest, on_lines items h)
