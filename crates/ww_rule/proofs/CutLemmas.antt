-- Cells that are cut into rows: which row stands where, one row more, and a row in another's place.
use Rattle.std.proofs.Common.{ℕ, zero, suc, ◌+◌, ◌*◌, ◌<◌, ◌≤◌, ◌≡◌, refl, sym, ap, ap₂, subst, ◌∙◌, List, [], ◌∷◌, ◌++◌, length, get_or, take, drop, replicate, slice_set, All, arith, length-take, length-drop, length-append}
use Rattle.std.proofs.lemmas.List.{drop-drop, drop-take, take-append-le, drop-append-le, take_at, drop_at, take_all, nil_from_length, length-replicate, replicate-append-replicate, get_or_default}
use Rattle.std.proofs.Math.Nat.{suc-mul, mul-le-mul_right}
use Rattle.ww_rule.specs.declared.pattern.State.{State}
use Rattle.ww_rule.specs.Cuts.{cut_rows, with_row, with_run}

pub length-cut : (w n : ℕ) (cells : List State) → length (cut_rows w n cells) ≡ n
length-cut w zero cells = refl
length-cut w (suc n) cells = ap suc (length-cut w n (drop w cells))

more : (y w : ℕ) → suc y * w ≡ w + y * w
more y w = let e : suc y * w ≡ y * w + w = suc-mul y w in omega arith

-- a row ends where the cells do, or before
pub row_room : (w n y : ℕ) → y < n → y * w + w ≤ n * w
row_room w n y h = let le : suc y * w ≤ n * w = mul-le-mul_right w (omega arith) in omega (arith, suc-mul y w)

pub row_of_cut : (w n y : ℕ) (cells : List State) → y < n → get_or (cut_rows w n cells) y [] ≡ take w (drop (y * w) cells)
row_of_cut w zero y cells h = absurd (omega arith)
row_of_cut w (suc n) zero cells h = let e : 0 ≡ 0 * w = omega arith in ap (λ k. take w (drop k cells)) e
row_of_cut w (suc n) (suc y) cells h =
    row_of_cut w n y (drop w cells) (omega arith) ∙ ap (take w) (drop-drop (y * w) w cells ∙ ap (λ k. drop k cells) (sym (more y w)))

pub long_rows : (w n : ℕ) (cells : List State) → n * w ≡ length cells → All (λ row. length row ≡ w) (cut_rows w n cells)
long_rows w n cells whole y d h =
    let count : length (cut_rows w n cells) ≡ n = length-cut w n cells in
    let room : y * w + w ≤ n * w = row_room w n y (omega arith) in
    ap length (get_or_default (cut_rows w n cells) y d [] h ∙ row_of_cut w n y cells (omega arith))
    ∙ (let e : length (take w (drop (y * w) cells)) ≡ w = omega (arith, length-take w (drop (y * w) cells), length-drop (y * w) cells) in e)

-- one row more at the end
pub cut_more : (w n : ℕ) (cells row : List State) → n * w ≡ length cells → length row ≡ w → cut_rows w (suc n) (cells ++ row) ≡ cut_rows w n cells ++ row ∷ []
cut_more w zero cells row whole long =
    let none : cells ≡ [] = nil_from_length cells (omega arith) in
    ap (λ cs. take w (cs ++ row) ∷ []) none ∙ ap (λ r. r ∷ []) (take_all w row (omega arith))
cut_more w (suc n) cells row whole long =
    let e : suc n * w ≡ w + n * w = more n w in
    ap₂ (λ (r : List State) rs. r ∷ rs) (take-append-le w cells row (omega arith)) (ap (cut_rows w (suc n)) (drop-append-le w cells row (omega arith)) ∙ cut_more w n (drop w cells) row (omega (arith, length-drop w cells)) long)

pub cut_blank : (w n : ℕ) (s : State) → cut_rows w n (replicate (n * w) s) ≡ replicate n (replicate w s)
cut_blank w zero s = refl
cut_blank w (suc n) s =
    let split : replicate (suc n * w) s ≡ replicate w s ++ replicate (n * w) s = ap (λ k. replicate k s) (more n w) ∙ sym (replicate-append-replicate w (n * w) s) in
    let wide : length (replicate w s) ≡ w = length-replicate w s in
    ap (cut_rows w (suc n)) split
    ∙ ap₂ (λ (r : List State) rs. r ∷ rs) (take_at (replicate w s) (replicate (n * w) s) w wide) (ap (cut_rows w n) (drop_at (replicate w s) (replicate (n * w) s) w wide) ∙ cut_blank w n s)

-- a row in the place of row y
pub put_row : (w n y : ℕ) (cells row : List State) → n * w ≡ length cells → y < n → length row ≡ w → cut_rows w n (with_row cells w y row) ≡ slice_set (cut_rows w n cells) y row
put_row w zero y cells row whole h long = absurd (omega arith)
put_row w (suc n) zero cells row whole h long =
    let e : 0 * w ≡ 0 = omega arith in
    ap (λ k. cut_rows w (suc n) (take k cells ++ (row ++ drop (k + w) cells))) e
    ∙ ap (λ k. cut_rows w (suc n) (row ++ drop k cells)) (let f : 0 + w ≡ w = omega arith in f)
    ∙ ap₂ (λ (r : List State) rs. r ∷ rs) (take_at row (drop w cells) w long) (ap (cut_rows w n) (drop_at row (drop w cells) w long))
put_row w (suc n) (suc y) cells row whole h long =
    let room : y * w + w ≤ n * w = row_room w n y (omega arith) in
    let e : suc n * w ≡ w + n * w = more n w in
    let at : suc y * w ≡ w + y * w = more y w in
    let rest = row ++ drop (w + y * w + w) cells in
    let long_start : w ≤ length (take (w + y * w) cells) = omega (arith, length-take (w + y * w) cells) in
    let first : take w (take (w + y * w) cells ++ rest) ≡ take w cells = take-append-le w (take (w + y * w) cells) rest long_start ∙ taken w (y * w) cells in
    let under : drop w (take (w + y * w) cells ++ rest) ≡ take (y * w) (drop w cells) ++ (row ++ drop (y * w + w) (drop w cells)) =
    drop-append-le w (take (w + y * w) cells) rest long_start
    ∙ ap₂ (λ (a b : List State). a ++ (row ++ b)) (drop-take w (y * w) cells) (sym (drop-drop (y * w + w) w cells ∙ ap (λ k. drop k cells) (let f : w + (y * w + w) ≡ w + y * w + w = omega arith in f))) in
    ap (λ k. cut_rows w (suc n) (take k cells ++ (row ++ drop (k + w) cells))) at
    ∙ ap₂ (λ (r : List State) rs. r ∷ rs) first (ap (cut_rows w n) under ∙ put_row w n y (drop w cells) row (omega (arith, length-drop w cells)) (omega arith) long)
  where
    taken : (a b : ℕ) (xs : List State) → take a (take (a + b) xs) ≡ take a xs
    taken zero b xs = refl
    taken (suc a) b [] = let e : suc a + b ≡ suc (a + b) = omega arith in ap (λ k. take (suc a) (take k [])) e
    taken (suc a) b (x ∷ xs) =
        let e : suc a + b ≡ suc (a + b) = omega arith in
        ap (λ k. take (suc a) (take k (x ∷ xs))) e ∙ ap (λ ys. x ∷ ys) (taken a b xs)

-- rows that are as long as a further row are cut where it ends
same_width : (w n : ℕ) (cells row : List State) → suc n * w ≡ length cells → All (λ other. length other ≡ length row) (cut_rows w (suc n) cells) → w ≡ length row
same_width w n cells row whole long =
    let e : suc n * w ≡ w + n * w = more n w in
    let some : length (take w cells) ≡ length row = long 0 [] (omega (arith, length-cut w (suc n) cells)) in
    omega (arith, length-take w cells)

pub pushed_cells : (w n : ℕ) (cells row : List State) → n * w ≡ length cells → All (λ other. length other ≡ length row) (cut_rows w n cells) → suc n * length row ≡ length (cells ++ row)
pushed_cells w zero cells row whole long = omega (arith, length-append cells row, more 0 (length row))
pushed_cells w (suc n) cells row whole long =
    let e : w ≡ length row = same_width w n cells row whole long in
    let all : suc n * length row ≡ length cells = ap (λ k. suc n * k) (sym e) ∙ whole in
    omega (arith, length-append cells row, more (suc n) (length row))

pub pushed_cut : (w n : ℕ) (cells row : List State) → n * w ≡ length cells → All (λ other. length other ≡ length row) (cut_rows w n cells) → cut_rows (length row) (suc n) (cells ++ row) ≡ cut_rows w n cells ++ row ∷ []
pushed_cut w zero cells row whole long = cut_more (length row) zero cells row (omega arith) refl
pushed_cut w (suc n) cells row whole long =
    let e : w ≡ length row = same_width w n cells row whole long in
    ap (λ k. cut_rows k (suc (suc n)) (cells ++ row)) (sym e) ∙ cut_more w (suc n) cells row whole (sym e)

-- the same of rows that are the cells' by another name
pub row_at_cut : (w n y : ℕ) (cells : List State) (rows : List (List State)) → cut_rows w n cells ≡ rows → y < length rows → get_or rows y [] ≡ take w (drop (y * w) cells)
row_at_cut w n y cells rows same h =
    let count : n ≡ length rows = sym (length-cut w n cells) ∙ ap length same in
    ap (λ rs. get_or rs y []) (sym same) ∙ row_of_cut w n y cells (omega arith)

pub room_of_row : (w n y : ℕ) (cells : List State) (rows : List (List State)) → n * w ≡ length cells → cut_rows w n cells ≡ rows → y < length rows → y * w + w ≤ length cells
room_of_row w n y cells rows whole same h =
    let count : n ≡ length rows = sym (length-cut w n cells) ∙ ap length same in
    let room : y * w + w ≤ n * w = row_room w n y (omega arith) in
    omega arith

pub width_of_row : (w n y : ℕ) (cells : List State) (rows : List (List State)) → n * w ≡ length cells → cut_rows w n cells ≡ rows → y < length rows → length (get_or rows y []) ≡ w
width_of_row w n y cells rows whole same h =
    let room : y * w + w ≤ length cells = room_of_row w n y cells rows whole same h in
    ap length (row_at_cut w n y cells rows same h)
    ∙ (let e : length (take w (drop (y * w) cells)) ≡ w = omega (arith, length-take w (drop (y * w) cells), length-drop (y * w) cells) in e)

-- another row of the same length in the place of row y
pub length-with_row : (w y : ℕ) (cells row : List State) → y * w + w ≤ length cells → length row ≡ w → length (with_row cells w y row) ≡ length cells
length-with_row w y cells row room long =
    length-append (take (y * w) cells) (row ++ drop (y * w + w) cells)
    ∙ (let e : length (take (y * w) cells) + length (row ++ drop (y * w + w) cells) ≡ length cells = omega (arith, length-append row (drop (y * w + w) cells), length-take (y * w) cells, length-drop (y * w + w) cells) in e)

pub set_row : (w n y : ℕ) (cells row : List State) (rows : List (List State)) → n * w ≡ length cells → cut_rows w n cells ≡ rows → y < length rows → length row ≡ w → cut_rows w n (with_row cells w y row) ≡ slice_set rows y row
set_row w n y cells row rows whole same h long =
    let count : n ≡ length rows = sym (length-cut w n cells) ∙ ap length same in
    put_row w n y cells row whole (omega arith) long ∙ ap (λ rs. slice_set rs y row) same

pub length-with_run : (row : List State) (x n : ℕ) (s : State) → x + n ≤ length row → length (with_run row x n s) ≡ length row
length-with_run row x n s room =
    length-append (take x row) (replicate n s ++ drop (x + n) row)
    ∙ (let e : length (take x row) + length (replicate n s ++ drop (x + n) row) ≡ length row = omega (arith, length-append (replicate n s) (drop (x + n) row), length-replicate n s, length-take x row, length-drop (x + n) row) in e)

-- all rows are as long as the first one
pub rows_alike : (w n : ℕ) (cells : List State) (rows : List (List State)) → n * w ≡ length cells → cut_rows w n cells ≡ rows → All (λ row. length row ≡ length (get_or rows 0 [])) rows
rows_alike w n cells rows whole same k d h =
    let long : All (λ row. length row ≡ w) rows = subst (All (λ row. length row ≡ w)) same (long_rows w n cells whole) in
    long k d h ∙ sym (long 0 [] (omega arith))
