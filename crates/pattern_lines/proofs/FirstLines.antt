-- The first line of a text before which other lines stand.
use Rattle.std.proofs.Common.{ℕ, suc, ◌+◌, ◌-◌, ◌<◌, ◌≡◌, ◌≢◌, refl, sym, ap, ◌∙◌, Bool, true, false, true≢false, not, ◌==◌, List, [], ◌∷◌, ◌++◌, length, map, take, drop, arith, length-drop}
use Rattle.std.specs.List.{All, prefix_len}
use Rattle.std.specs.Str.Lines.{strip_carriage_return}
use Rattle.std.proofs.lemmas.Bool.{eqb-true}
use Rattle.std.proofs.lemmas.List.{take_all}
use Rattle.std.proofs.lemmas.List.Sums.{prefix_len-le-length}
use Rattle.std.proofs.lemmas.List.Elements.{All-cons}
use Rattle.pattern_reading.specs.Lines.{lines_from, lines_of, with_line_feeds}
use Rattle.pattern_reading.specs.Laws.{later_by}
use Rattle.pattern_reading.proofs.FirstLine.{line_then_rest, lone_line}
use Rattle.pattern_reading.proofs.LineText.{lines_moved}

abbrev is_kept : ℕ → Bool
is_kept b = not (b == 10)

-- the bytes before the first line feed
front_kept : (xs : List ℕ) → All (λ b. b ≢ 10) (take (prefix_len is_kept xs) xs)
front_kept [] = λ k d l. absurd (omega (arith, l))
front_kept (x ∷ xs) = by_test (x == 10) refl (front_kept xs)
  where
    by_test : (t : Bool) → (x == 10) ≡ t → All (λ b. b ≢ 10) (take (prefix_len is_kept xs) xs) → All (λ b. b ≢ 10) (take (prefix_len is_kept (x ∷ xs)) (x ∷ xs))
    by_test true e more = rw e (λ k d l. absurd (omega (arith, l)))
    by_test false e more =
        let shifted : 1 + prefix_len is_kept xs ≡ suc (prefix_len is_kept xs) = omega arith in
        rw (e, shifted) (All-cons (λ b. b ≢ 10) x (take (prefix_len is_kept xs) xs) (λ is. true≢false (sym (ap (λ b. b == 10) is) ∙ e)) more)

cut_at_feed : (xs : List ℕ) → prefix_len is_kept xs < length xs → xs ≡ take (prefix_len is_kept xs) xs ++ 10 ∷ drop (prefix_len is_kept xs + 1) xs
cut_at_feed [] h = absurd (omega (arith, h))
cut_at_feed (x ∷ xs) h = by_test (x == 10) refl (cut_at_feed xs)
  where
    by_test : (t : Bool) → (x == 10) ≡ t → (prefix_len is_kept xs < length xs → xs ≡ take (prefix_len is_kept xs) xs ++ 10 ∷ drop (prefix_len is_kept xs + 1) xs) → (x ∷ xs) ≡ take (prefix_len is_kept (x ∷ xs)) (x ∷ xs) ++ 10 ∷ drop (prefix_len is_kept (x ∷ xs) + 1) (x ∷ xs)
    by_test true e more = rw e (ap (λ b. b ∷ xs) (eqb-true x 10 e))
    by_test false e more =
        let shifted : 1 + prefix_len is_kept xs ≡ suc (prefix_len is_kept xs) = omega arith in
        let shifted_on : suc (prefix_len is_kept xs) + 1 ≡ suc (prefix_len is_kept xs + 1) = omega arith in
        let long : prefix_len is_kept (x ∷ xs) ≡ suc (prefix_len is_kept xs) = rw e shifted in
        let here : prefix_len is_kept xs < length xs = omega (arith, h, long) in
        rw (e, shifted, shifted_on) (ap (λ l. x ∷ l) (more here))

-- the lines of a text after others
lines_after : (before : ℕ) (text : List ℕ) → lines_from (before + 1) (with_line_feeds text) ≡ map (later_by before) (lines_of text)
lines_after before text = lines_moved before 1 (with_line_feeds text)

pub lone_after : (before : ℕ) (text : List ℕ) → 0 < length text → prefix_len is_kept text ≡ length text → lines_from (before + 1) (with_line_feeds text) ≡ record { number = before + 1; bytes = text; is_ended = false } ∷ []
lone_after before text some all =
    let whole : take (prefix_len is_kept text) text ≡ text = take_all _ text (omega (arith, all)) in
    let kept : All (λ b. b ≢ 10) text = rw whole at (front_kept text) in
    lines_after before text ∙ ap (map (later_by before)) (lone_line text kept (λ e. omega (arith, some, ap length e)))

pub line_after : (before : ℕ) (text : List ℕ) → prefix_len is_kept text < length text → lines_from (before + 1) (with_line_feeds text) ≡ record { number = before + 1; bytes = strip_carriage_return (take (prefix_len is_kept text) text); is_ended = true } ∷ lines_from (before + 1 + 1) (with_line_feeds (drop (prefix_len is_kept text + 1) text))
line_after before text h =
    let rest = drop (prefix_len is_kept text + 1) text in
    let front = take (prefix_len is_kept text) text in
    let shifted : before + (1 + 1) ≡ before + 1 + 1 = omega arith in
    lines_after before text
    ∙ ap (λ t. map (later_by before) (lines_of t)) (cut_at_feed text h)
    ∙ ap (map (later_by before)) (line_then_rest front rest (front_kept text))
    ∙ ap (λ ls. record { number = before + 1; bytes = strip_carriage_return front; is_ended = true } ∷ ls)
    (ap (map (later_by before)) (sym (lines_moved 1 1 (with_line_feeds rest))) ∙ sym (lines_moved before (1 + 1) (with_line_feeds rest)) ∙ ap (λ n. lines_from n (with_line_feeds rest)) shifted)

pub line_cut : (before : ℕ) (text bytes : List ℕ) (n : ℕ) → n ≡ prefix_len is_kept text → n ≢ length text → bytes ≡ strip_carriage_return (take n text) → lines_from (before + 1) (with_line_feeds text) ≡ record { number = before + 1; bytes = bytes; is_ended = true } ∷ lines_from (before + 1 + 1) (with_line_feeds (take (length text - (n + 1)) (drop (n + 1) text)))
line_cut before text bytes n is more front =
    let within : prefix_len is_kept text < length text = omega (arith, is, more, prefix_len-le-length is_kept text) in
    let rest : take (length text - (n + 1)) (drop (n + 1) text) ≡ drop (n + 1) text = take_all (length text - (n + 1)) (drop (n + 1) text) (omega (arith, length-drop (n + 1) text)) in
    rw (rest, front, is) (line_after before text within)
