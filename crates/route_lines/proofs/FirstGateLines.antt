-- The first of the lines of gates and wires.
use Rattle.std.proofs.Common.{ℕ, ◌≡◌, ◌≢◌, ◌==◌, true≢false, false, refl, sym, ap, ap₂, ◌∙◌, List, [], ◌∷◌, ◌++◌, flat_map, length, get_or, take, drop, append_assoc, ◌+◌, ◌-◌, ◌<◌, ◌≤◌, arith}
use Rattle.std.specs.List.{All, AllByRecursion}
use Rattle.std.proofs.lemmas.List.{take-append-drop, drop_more, take_rest, length-take-le, get_or-take}
use Rattle.std.proofs.lemmas.List.Elements.{All-head, All-tail, All-from_get_or}
use Rattle.pattern_reading.specs.Laws.{IsLineText}
use Rattle.route_lines.specs.GateLines.{AreGateLines, IsGateLine}

abbrev pub HasNoFeed : List ℕ → Type 0
HasNoFeed bytes = All (λ b. b ≢ 10) bytes

-- a line feed cuts bytes, and those before the first one have none
pub feed_cuts : (bytes : List ℕ) (i : ℕ) → i < length bytes → get_or bytes i 0 ≡ 10 → bytes ≡ take i bytes ++ (10 ∷ take (length bytes - (i + 1)) (drop (i + 1) bytes))
feed_cuts bytes i low is = sym (take-append-drop i bytes) ∙ ap (λ l. take i bytes ++ l) (drop_more bytes i 0 low ∙ ap₂ (λ b l. b ∷ l) is (sym (take_rest bytes (i + 1))))

pub feedless_before : (bytes : List ℕ) (i : ℕ) → i ≤ length bytes → ((k : ℕ) → k < i → get_or bytes k 0 ≢ 10) → HasNoFeed (take i bytes)
feedless_before bytes i low none = All-from_get_or (λ b. b ≢ 10) (take i bytes) 0 (λ k lt. (let size = length-take-le i bytes low in let before : k < i = omega (arith, lt, size) in λ e. none k before (sym (get_or-take i bytes k 0 before) ∙ e)))

line_feedless : (line : List ℕ) → IsLineText line → HasNoFeed line
line_feedless line h k d lt = (h k d lt).0

-- bytes are cut at their first line feed in one way
same_cut : (a b more rest : List ℕ) → HasNoFeed a → HasNoFeed b → a ++ (10 ∷ more) ≡ b ++ (10 ∷ rest) → (a ≡ b) × (more ≡ rest)
same_cut [] [] more rest h k e = (refl, cc)
same_cut [] (y ∷ b) more rest h k e = absurd (All-head (λ c. c ≢ 10) y b k (let first : y ≡ 10 = cc in first))
same_cut (x ∷ a) [] more rest h k e = absurd (All-head (λ c. c ≢ 10) x a h (let first : x ≡ 10 = cc in first))
same_cut (x ∷ a) (y ∷ b) more rest h k e =
    let first : x ≡ y = cc in
    let later : a ++ (10 ∷ more) ≡ b ++ (10 ∷ rest) = cc in
    let same = same_cut a b more rest (All-tail (λ c. c ≢ 10) x a h) (All-tail (λ c. c ≢ 10) y b k) later in
    (ap₂ (λ c cs. c ∷ cs) first same.0, same.1)

module _ (bytes line after : List ℕ) (cut : bytes ≡ line ++ (10 ∷ after)) where
  -- one more line
  pub one_more : IsGateLine line → AreGateLines after → AreGateLines bytes
  one_more is are = record {
    lines = line ∷ are.lines;
    joined = cut ∙ ap (λ l. line ++ (10 ∷ l)) are.joined ∙ sym (append_assoc line (10 ∷ []) (flat_map (λ l. l ++ 10 ∷ []) are.lines));
    each = (is, are.each);
  }

  -- and one line less
  pub one_less : HasNoFeed line → AreGateLines bytes → IsGateLine line × AreGateLines after
  one_less feedless are = by_lines are.lines are.joined are.each
    where
      by_lines : (lines : List (List ℕ)) → bytes ≡ flat_map (λ l. l ++ 10 ∷ []) lines → AllByRecursion IsGateLine lines → IsGateLine line × AreGateLines after
      by_lines [] joined each = absurd (some line (sym cut ∙ joined))
        where
          some : (front : List ℕ) → front ++ (10 ∷ after) ≡ [] → ⊥
          some [] e = cc
          some (c ∷ cs) e = cc
      by_lines (l ∷ ls) joined each =
          let rest : List ℕ = flat_map (λ l. l ++ 10 ∷ []) ls in
          let same = same_cut line l after rest feedless (line_feedless l each.0.in_line) (sym cut ∙ joined ∙ append_assoc l (10 ∷ []) rest) in
          (rw (same.0) (each.0), record { lines = ls; joined = same.1; each = each.1 })

-- bytes without a line feed are no lines
pub feedless_none : (bytes : List ℕ) → (length bytes == 0) ≡ false → HasNoFeed bytes → AreGateLines bytes → ⊥
feedless_none bytes some feedless are = by_lines are.lines are.joined
  where
    feed_at : (front rest : List ℕ) → HasNoFeed (front ++ (10 ∷ rest)) → ⊥
    feed_at [] rest h = All-head (λ c. c ≢ 10) 10 rest h refl
    feed_at (c ∷ cs) rest h = feed_at cs rest (All-tail (λ c. c ≢ 10) c (cs ++ (10 ∷ rest)) h)

    by_lines : (lines : List (List ℕ)) → bytes ≡ flat_map (λ l. l ++ 10 ∷ []) lines → ⊥
    by_lines [] joined = true≢false (ap (λ l. length l == 0) (sym joined) ∙ some)
    by_lines (l ∷ ls) joined =
        let rest : List ℕ = flat_map (λ l. l ++ 10 ∷ []) ls in
        feed_at l rest (rw (← append_assoc l (10 ∷ []) rest, ← joined) feedless)
