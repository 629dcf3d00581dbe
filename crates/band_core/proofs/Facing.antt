-- Rows that face a band, and the neighbours to which they belong.
use Rattle.std.proofs.Common.{ℤ, pos, negsuc, ◌+ℤ◌, ◌-ℤ◌, ℕ, zero, suc, ◌+◌, ◌-◌, ◌*◌, ◌/◌, ◌%◌, min, ◌<◌, ◌≤◌, ◌≡◌, refl, sym, ap, subst, ◌∙◌, inl, inr, Bool, true, false, ◌||◌, ◌&&◌, ◌==◌, nat_lt, Some, None, List, [], length, get_or, arith}
use Rattle.std.specs.Prelude.{◌⊎◌, if◌then◌else◌}
use Rattle.std.specs.declared.option.Option.{Option}
use Rattle.std.specs.Option.{option_or}
use Rattle.std.proofs.lemmas.Bool.{cases_lt, eqb-true, or_cases, lt-ltb, le-ltb}
use Rattle.std.proofs.lemmas.Int.{ints}
use Rattle.std.proofs.lemmas.List.{get_or-map}
use Rattle.std.proofs.Math.Nat.{suc-mul, mul_comm}
use Rattle.std.proofs.Math.Bool.{and-false}
use Rattle.std.proofs.lemmas.Option.{none-some}
use Rattle.ww_rule.specs.declared.pattern.State.TheVariants.{Empty}
use Rattle.ww_rule.specs.Wireworld.{Plane, Due, count_head}
use Rattle.lane_kernel.specs.Rows.{state_of}
use Rattle.band_rows.specs.Fields.{field_heads, field_tails}
use Rattle.lane_kernel.specs.PlaneRows.{ShowsHeads}
use Rattle.band_rows.proofs.Parts.{IsParted, many, at_before, at_after}
use Rattle.band_rows.proofs.Marks.{none_set}
use Rattle.band_core.specs.declared.band.Band.{Band}
use Rattle.band_core.specs.declared.error.NotReady.{NotReady}
use Rattle.band_core.specs.Bands.{not_ready, upper_not_ready, lower_not_ready, unready_neighbour}
use Rattle.band_core.specs.Band.{IsBand, ShowsBand, IsEvolution, AreBands, AllShow, bottom_at, top_at, generations_of}
use Rattle.band_core.proofs.BandFields.{bottom_before, bottom_now, heads_show, long_row, top_before, top_now}

-- at a generation, or one before
abbrev pub IsAtOrAfter : ℕ → ℕ → Type 0
IsAtOrAfter g h = (h ≡ g) ⊎ (h ≡ g + 1)

pub bottom_shows : (e : ℕ → Plane) (due : Due) (columns y many g : ℕ) (band : Band) → IsBand columns y many band → ShowsBand e due y many band → IsAtOrAfter g band.generation → ShowsHeads (bottom_at g band) (e g) (pos y +ℤ pos (many - 1))
bottom_shows e due columns y many g band is shows (inl q) =
    let field = band.field in
    let n = field.rows in
    let high = is.high in
    let some = is.some in
    let last : n - 1 < n = omega (arith, high, some) in
    let here = heads_show field (e band.generation) (pos y) (n - 1) last shows.cells in
    subst (λ h. ShowsHeads h (e g) (pos y +ℤ pos (many - 1))) (bottom_now band g (omega (arith, high, some)) q)
    (subst (λ m. ShowsHeads (field_heads field (n - 1 + 1)) (e g) (pos y +ℤ pos (m - 1))) high
    (subst (λ g. ShowsHeads (field_heads field (n - 1 + 1)) (e g) (pos y +ℤ pos (n - 1))) q here))
bottom_shows e due columns y many g band is shows (inr q) =
    let field = band.field in
    let n = field.rows in
    let high = is.high in
    let some = is.some in
    let last : n - 1 < n = omega (arith, high, some) in
    subst (λ h. ShowsHeads h (e g) (pos y +ℤ pos (many - 1))) (bottom_before band g (omega (arith, high, some)) (λ r. omega (arith, q, r)))
    (subst (λ m. ShowsHeads (field_tails field (n - 1 + 1)) (e g) (pos y +ℤ pos (m - 1))) high (shows.before g q (n - 1) last))

pub top_shows : (e : ℕ → Plane) (due : Due) (columns y many g : ℕ) (band : Band) → IsBand columns y many band → ShowsBand e due y many band → IsAtOrAfter g band.generation → ShowsHeads (top_at g band) (e g) (pos y)
top_shows e due columns y many g band is shows (inl q) =
    let field = band.field in
    let high = is.high in
    let some = is.some in
    let here = heads_show field (e band.generation) (pos y) 0 (omega (arith, high, some)) shows.cells in
    let z : pos y +ℤ pos 0 ≡ pos y = omega (arith, ints) in
    subst (λ h. ShowsHeads h (e g) (pos y)) (top_now band g q)
    (subst (ShowsHeads (field_heads field 1) (e g)) z (subst (λ g. ShowsHeads (field_heads field 1) (e g) (pos y +ℤ pos 0)) q here))
top_shows e due columns y many g band is shows (inr q) =
    let field = band.field in
    let high = is.high in
    let some = is.some in
    let z : pos y +ℤ pos 0 ≡ pos y = omega (arith, ints) in
    subst (λ h. ShowsHeads h (e g) (pos y)) (top_before band g (λ r. omega (arith, q, r)))
    (subst (ShowsHeads (field_tails field 1) (e g)) z (shows.before g q 0 (omega (arith, high, some))))

chosen : (t : Bool) (a b : List ℕ) (n : ℕ) → length a ≡ n → length b ≡ n → length (if t then a else b) ≡ n
chosen true a b n p q = p
chosen false a b n p q = q

pub bottom_long : (columns y many g : ℕ) (band : Band) → IsBand columns y many band → length (bottom_at g band) ≡ columns
bottom_long columns y _ g band is =
    let field = band.field in
    chosen (band.generation == g) _ _ columns (long_row field.columns field.stride field.heads.items field.rows ∙ is.wide) (long_row field.columns field.stride field.tails.items field.rows ∙ is.wide)

pub top_long : (columns y many g : ℕ) (band : Band) → IsBand columns y many band → length (top_at g band) ≡ columns
top_long columns y _ g band is =
    let field = band.field in
    chosen (band.generation == g) _ _ columns (long_row field.columns field.stride field.heads.items 1 ∙ is.wide) (long_row field.columns field.stride field.tails.items 1 ∙ is.wide)

-- ---- neighbours that are ready

none_both : (a b : Option NotReady) → option_or a b ≡ None → (a ≡ None) × (b ≡ None)
none_both None b e = (refl, e)
none_both (Some x) b e = absurd (none-some x (sym e))

abbrev refusal : List ℕ → ℕ → Bool → Option NotReady
refusal generations n t = if t then None else Some (record { neighbour = n; generation = get_or generations n 0 })

ready_beside : (generations : List ℕ) (b n : ℕ) → not_ready generations b n ≡ None → IsAtOrAfter (get_or generations b 0) (get_or generations n 0)
ready_beside generations b n e = go (get_or generations n 0 == get_or generations b 0 || get_or generations n 0 == get_or generations b 0 + 1) refl e
  where
    go : (t : Bool) → (get_or generations n 0 == get_or generations b 0 || get_or generations n 0 == get_or generations b 0 + 1) ≡ t → refusal generations n t ≡ None → IsAtOrAfter (get_or generations b 0) (get_or generations n 0)
    go true q r =
        elim (or_cases (get_or generations n 0 == get_or generations b 0) (get_or generations n 0 == get_or generations b 0 + 1) q) [
          | inl s ↦ inl (eqb-true (get_or generations n 0) (get_or generations b 0) s)
          | inr s ↦ inr (eqb-true (get_or generations n 0) (get_or generations b 0 + 1) s)
        ]
    go false q r = absurd (cc)

pub upper_ready : (generations : List ℕ) (b : ℕ) → unready_neighbour generations b ≡ None → 0 < b → IsAtOrAfter (get_or generations b 0) (get_or generations (b - 1) 0)
upper_ready generations zero e lt = absurd (omega arith)
upper_ready generations (suc b) e lt =
    let q : suc b - 1 ≡ b = omega arith in
    subst (λ n. IsAtOrAfter (get_or generations (suc b) 0) (get_or generations n 0)) (sym q)
    (ready_beside generations (suc b) b (none_both (upper_not_ready generations (suc b)) (lower_not_ready generations (suc b)) e).0)

pub lower_ready : (generations : List ℕ) (b : ℕ) → unready_neighbour generations b ≡ None → b + 1 < length generations → IsAtOrAfter (get_or generations b 0) (get_or generations (b + 1) 0)
lower_ready generations b e lt =
    let l = (none_both (upper_not_ready generations b) (lower_not_ready generations b) e).1 in
    ready_beside generations b (b + 1) (sym (ap (λ t. if t then not_ready generations b (b + 1) else None) (lt-ltb (b + 1) (length generations) lt)) ∙ l)

-- ---- rows of bands

pub after : (b h : ℕ) → (b + 1) * h ≡ b * h + h
after b h = let s : b + 1 ≡ suc b = omega arith in ap (λ n. n * h) s ∙ suc-mul b h

-- a band that another one follows has the whole height
pub whole : (columns height rows : ℕ) (bands : List Band) (b : ℕ) (d : Band) → AreBands columns height rows bands → b + 1 < length bands → min height (rows - b * height) ≡ height
whole columns height rows bands b d are lt =
    let some = (are.each (b + 1) d lt).some in
    let m = after b height in
    omega (arith, some, m)

pub begins : (columns height rows : ℕ) (bands : List Band) (b : ℕ) (d : Band) → AreBands columns height rows bands → b < length bands → b * height < rows
begins columns height rows bands b d are lt = let some = (are.each b d lt).some in omega (arith, some)

-- the last band reaches to the last row
pub ends : (columns height rows : ℕ) (bands : List Band) (b : ℕ) (d : Band) → 0 < height → AreBands columns height rows bands → b + 1 ≡ length bands → b * height + min height (rows - b * height) ≡ rows
ends columns height rows bands b d some are e =
    let n = rows + (height - 1) in
    let q : n / height ≡ b + 1 = sym (e ∙ are.many) in
    let r : n % height < height = omega (arith, some) in
    let parts : height * (n / height) + n % height ≡ n = omega (arith, some) in
    let turned : height * (n / height) ≡ (b + 1) * height = ap (λ k. height * k) q ∙ mul_comm height (b + 1) in
    let m = after b height in
    let first = begins columns height rows bands b d are (omega (arith, e)) in
    omega (arith, r, parts, turned, m, first, some)

-- what is said of the bands before and after a band, said of all bands
module _ (bands before own after : List Band) (b : ℕ) (p : IsParted bands b before own after) where
  pub first_of : {A : Type 0} → (length before ≡ 0 → A) → b ≡ 0 → A
  first_of first q = first (p.place ∙ q)

  pub later_of : (up : List ℕ) (g : ℕ) → ((d : Band) → 0 < length before → up ≡ bottom_at g (get_or before (length before - 1) d)) → (d : Band) → 0 < b → up ≡ bottom_at g (get_or bands (b - 1) d)
  later_of up g later d lt =
      let place = p.place in
      let last : length before - 1 ≡ b - 1 = omega (arith, place) in
      later d (omega (arith, lt, place)) ∙ ap (λ k. bottom_at g (get_or before k d)) last ∙ ap (bottom_at g) (at_before bands before own after b p (b - 1) d (omega (arith, lt)))

  pub last_of : {A : Type 0} → (length after ≡ 0 → A) → b + 1 ≡ length bands → A
  last_of last q = let m = many bands before own after b p in last (omega (arith, m, q))

  pub earlier_of : (down : List ℕ) (g : ℕ) → ((d : Band) → 0 < length after → down ≡ top_at g (get_or after 0 d)) → (d : Band) → b + 1 < length bands → down ≡ top_at g (get_or bands (b + 1) d)
  earlier_of down g earlier d lt = let m = many bands before own after b p in earlier d (omega (arith, m, lt)) ∙ ap (top_at g) (at_after bands before own after b p d)

-- the rows beside a band, of its neighbours and at the outer edges
module _ (columns height rows : ℕ) (bands : List Band) (are : AreBands columns height rows bands) (b : ℕ) (d : Band) (inside : b < length bands) (g : ℕ) where
  pub above_long : (up : List ℕ) → (b ≡ 0 → up ≡ []) → ((d : Band) → 0 < b → up ≡ bottom_at g (get_or bands (b - 1) d)) → length up ≤ columns
  above_long up first later =
      elim (cases_lt 0 b) [
        | inl lt ↦ let e = ap length (later d lt) ∙ bottom_long columns ((b - 1) * height) (min height (rows - (b - 1) * height)) g (get_or bands (b - 1) d) (are.each (b - 1) d (omega (arith, inside))) in omega (arith, e)
        | inr ge ↦ let e : length up ≡ 0 = ap length (first (omega (arith, ge))) in omega (arith, e)
      ]

  pub below_long : (down : List ℕ) → (b + 1 ≡ length bands → down ≡ []) → ((d : Band) → b + 1 < length bands → down ≡ top_at g (get_or bands (b + 1) d)) → length down ≤ columns
  below_long down last earlier =
      elim (cases_lt (b + 1) (length bands)) [
        | inl lt ↦ let e = ap length (earlier d lt) ∙ top_long columns ((b + 1) * height) (min height (rows - (b + 1) * height)) g (get_or bands (b + 1) d) (are.each (b + 1) d lt) in omega (arith, e)
        | inr ge ↦ let e : length down ≡ 0 = ap length (last (omega (arith, ge, inside))) in omega (arith, e)
      ]

-- a row without cells has no heads
pub nothing : (p : Plane) (y : ℤ) → ((x : ℕ) → p (pos x) y ≡ Empty) → ShowsHeads [] p y
nothing p y empty x = ap (λ h. count_head (state_of h false false)) (none_set 0 [] (λ j. refl) x) ∙ sym (ap count_head (empty x))

module _ (e : ℕ → Plane) (due : Due) (columns height rows width : ℕ) (some : 0 < height) (evo : IsEvolution e due width rows) (bands : List Band) (are : AreBands columns height rows bands) (b : ℕ) (d : Band) (inside : b < length bands) (g : ℕ) where
  module _ (shows : AllShow e due height rows bands) where
    generation_is : (k : ℕ) → k < length bands → get_or (generations_of bands) k 0 ≡ (get_or bands k d).generation
    generation_is k lt = get_or-map (λ (band : Band). band.generation) bands k d 0 lt

    pub above_shows : (up : List ℕ) → (b ≡ 0 → up ≡ []) → ((d : Band) → 0 < b → up ≡ bottom_at g (get_or bands (b - 1) d)) → (0 < b → IsAtOrAfter g (get_or (generations_of bands) (b - 1) 0)) → ShowsHeads up (e g) (pos (b * height) -ℤ pos 1)
    above_shows up first later ready =
        elim (cases_lt 0 b) [
          | inr ge ↦
              let q : b ≡ 0 = omega (arith, ge) in
              let place : pos (b * height) -ℤ pos 1 ≡ negsuc 0 = let t = ap (λ b. b * height) q in omega (arith, ints, t) in
              subst (λ up. ShowsHeads up (e g) (pos (b * height) -ℤ pos 1)) (sym (first q))
              (subst (ShowsHeads [] (e g)) (sym place) (nothing (e g) (negsuc 0) (λ x. evo.empty g (pos x) (negsuc 0) refl)))
          | inl lt ↦
              let k = b - 1 in
              let lk : k < length bands = omega (arith, inside) in
              let upper = get_or bands k d in
              let n : k + 1 ≡ b = omega (arith, lt) in
              let m = after k height in
              let t : (k + 1) * height ≡ b * height = ap (λ k. k * height) n in
              let w : min height (rows - k * height) ≡ height = whole columns height rows bands k d are (omega (arith, n, inside)) in
              let place : pos (k * height) +ℤ pos (min height (rows - k * height) - 1) ≡ pos (b * height) -ℤ pos 1 = omega (arith, ints, m, t, w, some) in
              let at : IsAtOrAfter g upper.generation = subst (IsAtOrAfter g) (generation_is k lk) (ready lt) in
              let here = bottom_shows e due columns (k * height) (min height (rows - k * height)) g upper (are.each k d lk) (shows k d lk) at in
              subst (λ up. ShowsHeads up (e g) (pos (b * height) -ℤ pos 1)) (sym (later d lt))
              (subst (ShowsHeads (bottom_at g upper) (e g)) place here)
        ]

    pub below_shows : (down : List ℕ) → (b + 1 ≡ length bands → down ≡ []) → ((d : Band) → b + 1 < length bands → down ≡ top_at g (get_or bands (b + 1) d)) → (b + 1 < length bands → IsAtOrAfter g (get_or (generations_of bands) (b + 1) 0)) → ShowsHeads down (e g) (pos (b * height) +ℤ pos (min height (rows - b * height)))
    below_shows down last earlier ready =
        elim (cases_lt (b + 1) (length bands)) [
          | inr ge ↦
              let q : b + 1 ≡ length bands = omega (arith, ge, inside) in
              let t = ends columns height rows bands b d some are q in
              let place : pos (b * height) +ℤ pos (min height (rows - b * height)) ≡ pos rows = omega (arith, ints, t) in
              subst (λ down. ShowsHeads down (e g) (pos (b * height) +ℤ pos (min height (rows - b * height)))) (sym (last q))
              (subst (ShowsHeads [] (e g)) (sym place) (nothing (e g) (pos rows) (λ x. evo.empty g (pos x) (pos rows) (past x))))
          | inl lt ↦
              let lower = get_or bands (b + 1) d in
              let m = after b height in
              let w = whole columns height rows bands b d are lt in
              let place : pos ((b + 1) * height) ≡ pos (b * height) +ℤ pos (min height (rows - b * height)) = omega (arith, ints, m, w) in
              let at : IsAtOrAfter g lower.generation = subst (IsAtOrAfter g) (generation_is (b + 1) lt) (ready lt) in
              let here = top_shows e due columns ((b + 1) * height) (min height (rows - (b + 1) * height)) g lower (are.each (b + 1) d lt) (shows (b + 1) d lt) at in
              subst (λ down. ShowsHeads down (e g) (pos (b * height) +ℤ pos (min height (rows - b * height)))) (sym (earlier d lt))
              (subst (ShowsHeads (top_at g lower) (e g)) place here)
        ]
      where
        past : (x : ℕ) → (nat_lt x width && nat_lt rows rows) ≡ false
        past x = ap (λ t. nat_lt x width && t) (le-ltb rows rows (omega arith)) ∙ and-false (nat_lt x width)
