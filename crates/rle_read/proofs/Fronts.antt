-- Words, blanks and pieces at the front and at the end of bytes.
use Rattle.std.proofs.Common.{ℕ, suc, ◌+◌, ◌-◌, ◌<◌, ◌≤◌, ◌≡◌, refl, sym, ap, ◌∙◌, Bool, true, false, ◌==◌, List, [], ◌∷◌, length, take, drop, get_or, reverse, arith, nat_eq, length-drop, add-zero}
use Rattle.std.specs.Prelude.{if◌then◌else◌, Option, Some, None, MatchOption}
use Rattle.std.specs.List.{prefix_len}
use Rattle.std.specs.Cmp.Lexicographic.{pointwise}
use Rattle.std.specs.Option.{option_copied}
use Rattle.std.specs.Char.{is_ascii_digit}
use Rattle.std.proofs.lemmas.List.{reverse-append, take_all, drop_all, drop-drop, get_or-drop}
use Rattle.std.proofs.lemmas.List.Sums.{prefix_len-le-length}
use denote.Ref.{Bor}
use Rattle.pattern_reading.specs.Numbers.{is_blank, without_leading_blanks, after_prefix}
use Rattle.pattern_reading.specs.Items.{pieces_of, onto_first_piece}
use Rattle.lists.proofs.Ends.{last_apart}

-- what stands after a prefix, by a test of the whole front
prefix_by_test : (word bytes : List ℕ) → after_prefix word bytes ≡ (if pointwise nat_eq (take (length word) bytes) word then Some (drop (length word) bytes) else None)
prefix_by_test [] bytes = refl
prefix_by_test (c ∷ word) [] = refl
prefix_by_test (c ∷ word) (b ∷ bytes) = by_first (b == c) refl (prefix_by_test word bytes)
  where
    by_first : (t : Bool) → (b == c) ≡ t → after_prefix word bytes ≡ (if pointwise nat_eq (take (length word) bytes) word then Some (drop (length word) bytes) else None) → after_prefix (c ∷ word) (b ∷ bytes) ≡ (if pointwise nat_eq (take (length (c ∷ word)) (b ∷ bytes)) (c ∷ word) then Some (drop (length (c ∷ word)) (b ∷ bytes)) else None)
    by_first true e more = rw e more
    by_first false e more = rw e refl

abbrev IsStripped : List ℕ → List ℕ → Option (Bor (List ℕ)) → Type 0
IsStripped word bytes r = MatchOption r (pointwise nat_eq (take (length word) bytes) word ≡ false) (λ x. (pointwise nat_eq (take (length word) bytes) word ≡ true) × (x.now ≡ drop (length word) bytes) × (length x.now + length word ≡ length bytes))

pub stripped_prefix : (word bytes : List ℕ) (r : Option (Bor (List ℕ))) → IsStripped word bytes r → option_copied r ≡ after_prefix word bytes
stripped_prefix word bytes None h = sym (prefix_by_test word bytes ∙ rw h refl)
stripped_prefix word bytes (Some x) h = ap Some h.1 ∙ sym (prefix_by_test word bytes ∙ rw (h.0) refl)

blank_first : (b : ℕ) (bs : List ℕ) → is_blank b ≡ true → without_leading_blanks (b ∷ bs) ≡ without_leading_blanks bs
blank_first b bs e = rw e (drop_past (prefix_len is_blank bs))
  where
    drop_past : (n : ℕ) → drop (1 + n) (b ∷ bs) ≡ drop n bs
    drop_past n = let e : 1 + n ≡ suc n = omega arith in rw e refl

pub blank_at_end : (xs : List ℕ) → 1 ≤ length xs → is_blank (get_or xs (length xs - 1) 0) ≡ true → without_leading_blanks (reverse (take (length xs - 1) xs)) ≡ without_leading_blanks (reverse xs)
blank_at_end xs some e =
    let turned : reverse xs ≡ get_or xs (length xs - 1) 0 ∷ reverse (take (length xs - 1) xs) =
    ap reverse (last_apart xs some) ∙ reverse-append (take (length xs - 1) xs) (get_or xs (length xs - 1) 0 ∷ []) in
    sym (ap without_leading_blanks turned ∙ blank_first (get_or xs (length xs - 1) 0) (reverse (take (length xs - 1) xs)) e)

-- the first piece
digit_front : (d : ℕ) (ds : List ℕ) → is_ascii_digit d ≡ true → prefix_len is_ascii_digit (d ∷ ds) ≡ suc (prefix_len is_ascii_digit ds)
digit_front d ds e = let shifted : 1 + prefix_len is_ascii_digit ds ≡ suc (prefix_len is_ascii_digit ds) = omega arith in rw e shifted

pub lone_piece : (bytes : List ℕ) → 0 < length bytes → prefix_len is_ascii_digit bytes ≡ length bytes → pieces_of bytes ≡ record { digits = bytes; tag = None } ∷ []
lone_piece [] h e = absurd (omega (arith, h))
lone_piece (b ∷ bs) h e = by_test (is_ascii_digit b) refl bs refl e (λ some all. lone_piece bs some all)
  where
    by_test : (t : Bool) → is_ascii_digit b ≡ t → (cs : List ℕ) → cs ≡ bs → prefix_len is_ascii_digit (b ∷ bs) ≡ length (b ∷ bs) → (0 < length bs → prefix_len is_ascii_digit bs ≡ length bs → pieces_of bs ≡ record { digits = bs; tag = None } ∷ []) → pieces_of (b ∷ bs) ≡ record { digits = b ∷ bs; tag = None } ∷ []
    by_test false is cs same e more = absurd (let none : prefix_len is_ascii_digit (b ∷ bs) ≡ 0 = rw is refl in omega (arith, none, e))
    by_test true is [] same e more = rw (← same, is) refl
    by_test true is (c ∷ cs) same e more =
        let all : prefix_len is_ascii_digit bs ≡ length bs = omega (arith, digit_front b bs is, e) in
        let some : 0 < length bs = rw (← same) (omega arith) in
        rw (is, more some all) refl

pub piece_before : (bytes : List ℕ) → prefix_len is_ascii_digit bytes < length bytes → pieces_of bytes ≡ record { digits = take (prefix_len is_ascii_digit bytes) bytes; tag = Some (get_or bytes (prefix_len is_ascii_digit bytes) 0) } ∷ pieces_of (drop (prefix_len is_ascii_digit bytes + 1) bytes)
piece_before [] h = absurd (omega (arith, h))
piece_before (b ∷ bs) h = by_test (is_ascii_digit b) refl (piece_before bs)
  where
    by_test : (t : Bool) → is_ascii_digit b ≡ t → (prefix_len is_ascii_digit bs < length bs → pieces_of bs ≡ record { digits = take (prefix_len is_ascii_digit bs) bs; tag = Some (get_or bs (prefix_len is_ascii_digit bs) 0) } ∷ pieces_of (drop (prefix_len is_ascii_digit bs + 1) bs)) → pieces_of (b ∷ bs) ≡ record { digits = take (prefix_len is_ascii_digit (b ∷ bs)) (b ∷ bs); tag = Some (get_or (b ∷ bs) (prefix_len is_ascii_digit (b ∷ bs)) 0) } ∷ pieces_of (drop (prefix_len is_ascii_digit (b ∷ bs) + 1) (b ∷ bs))
    by_test false is more = rw is refl
    by_test true is more =
        let shifted : suc (prefix_len is_ascii_digit bs) + 1 ≡ suc (prefix_len is_ascii_digit bs + 1) = omega arith in
        let shifted_one : 1 + prefix_len is_ascii_digit bs ≡ suc (prefix_len is_ascii_digit bs) = omega arith in
        let here : prefix_len is_ascii_digit bs < length bs = omega (arith, digit_front b bs is, h) in
        rw (is, shifted_one, shifted) (ap (onto_first_piece b) (more here))

pub lone_piece_split : (bytes digits after : List ℕ) (n : ℕ) → 0 < length bytes → n ≡ prefix_len is_ascii_digit bytes → digits ≡ take n bytes → after ≡ drop n bytes → length after < 1 → pieces_of bytes ≡ record { digits = digits; tag = None } ∷ pieces_of after
lone_piece_split bytes digits after n some is front back none =
    let rest : length (drop n bytes) < 1 = rw (← back) none in
    let all : length bytes ≤ n = omega (arith, length-drop n bytes, rest) in
    let whole : digits ≡ bytes = front ∙ take_all n bytes all in
    let gone : after ≡ [] = back ∙ drop_all n bytes all in
    let full : prefix_len is_ascii_digit bytes ≡ length bytes = omega (arith, all, is, prefix_len-le-length is_ascii_digit bytes) in
    rw (whole, gone) (lone_piece bytes some full)

pub piece_split : (bytes digits after : List ℕ) (n : ℕ) → n ≡ prefix_len is_ascii_digit bytes → digits ≡ take n bytes → after ≡ drop n bytes → 1 ≤ length after → pieces_of bytes ≡ record { digits = digits; tag = Some (get_or after 0 0) } ∷ pieces_of (take (length after - 1) (drop 1 after))
piece_split bytes digits after n is front back some =
    let rest : 1 ≤ length (drop n bytes) = rw (← back) some in
    let here : prefix_len is_ascii_digit bytes < length bytes = omega (arith, length-drop n bytes, rest, is) in
    let tag : get_or after 0 0 ≡ get_or bytes n 0 = ap (λ l. get_or l 0 0) back ∙ get_or-drop n bytes 0 0 ∙ ap (λ k. get_or bytes k 0) (add-zero n) in
    let next : take (length after - 1) (drop 1 after) ≡ drop (n + 1) bytes =
    take_all (length after - 1) (drop 1 after) (omega (arith, length-drop 1 after)) ∙ ap (drop 1) back ∙ drop-drop 1 n bytes in
    rw (tag, next, front, is) (piece_before bytes here)
