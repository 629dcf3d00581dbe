-- Bands that move on together.
use Rattle.std.proofs.Common.{ℤ, pos, negsuc, ◌+ℤ◌, ℕ, zero, suc, ◌+◌, ◌-◌, ◌*◌, ◌/◌, ◌%◌, ◌^◌, ◌<◌, ◌≤◌, ◌≡◌, refl, sym, ap, ap₂, subst, ◌∙◌, inl, inr, Bool, true, false, ◌||◌, ◌==◌, nat_lt, Some, None, List, [], ◌∷◌, length, get_or, slice_set, drop, arith}
use Rattle.std.specs.Prelude.{◌≢◌, ◌⊎◌, if◌then◌else◌, All}
use Rattle.std.specs.Option.{option_or}
use Rattle.std.proofs.Math.Nat.{mul_comm}
use Rattle.std.proofs.lemmas.Bool.{cases_lt, eq-eqb, or_right}
use Rattle.std.proofs.lemmas.Int.{ints}
use Rattle.std.proofs.lemmas.List.{get_or-map, get_or-set_same, get_or-set_other, length-map}
use Rattle.ww_rule.specs.Due.{AreInOrderFrom, AreLeftAt}
use Rattle.ww_rule.specs.declared.pattern.State.TheVariants.{Empty, Head, Tail}
use Rattle.ww_rule.specs.Wireworld.{Plane, Due}
use Rattle.ww_rule.proofs.Cells.{not_counted}
use Rattle.ww_rule.proofs.Due.{from_earlier}
use Rattle.lane_kernel.specs.Rows.{state_of}
use Rattle.band_rows.specs.Fields.{ShowsField, TailsShow}
use Rattle.band_core.specs.declared.band.Band.{Band}
use Rattle.band_core.specs.Bands.{not_ready, unready_neighbour, upper_not_ready}
use Rattle.band_core.specs.Band.{AllShow, AreBands, AreDueIn, CanMove, IsBand, IsEvolution, ShowsBand, generation_at, generations_of, rows_in_band}
use Rattle.band_core.specs.Together.{AreBandsAt, CanMoveOn, HasNoneDueFor, HasNoneLit, HasRested, HaveMovedOn, HaveRested}
use Rattle.band_core.proofs.Dark.{IsDark, below, none_due, stays_dark}
use Rattle.band_core.proofs.Evolution.{in_bands}
use Rattle.band_core.proofs.BandFields.{cell_set, dark_state}
use Rattle.band_core.proofs.Resting.{nothing_shown, rests}

pub own_generation : (bands : List Band) (b : ℕ) (d : Band) → b < length bands → (get_or bands b d).generation ≡ generation_at bands b
own_generation bands b d lt = sym (get_or-map (λ (band : Band). band.generation) bands b d 0 lt)

-- ---- one after the other

-- the first b of them have moved on by one generation
pub record HaveFirstMovedOn (b columns height rows : ℕ) (old new : List Band) : Type 0 where
  pub are : AreBands columns height rows new
  pub moved : (g : ℕ) → AreBandsAt g old → (k : ℕ) → k < b → generation_at new k ≡ g + 1
  pub left : (g : ℕ) → AreBandsAt g old → (k : ℕ) → b ≤ k → k < length old
      → generation_at new k ≡ g
  pub shows : (e : ℕ → Plane) (due : Due) (width : ℕ) → IsEvolution e due width rows
      → AllShow e due height rows old → AllShow e due height rows new

module _ (columns height rows : ℕ) where
  pub none_moved_on : (bands : List Band) → AreBands columns height rows bands → HaveMovedOn 0 columns height rows bands bands
  none_moved_on bands are =
      record {
        are = are;
        at = λ g at b lt. let e = at b lt in omega (arith, e);
        shows = λ e due width evo shows. shows;
      }

  pub moved_on_further : (m n k : ℕ) (old now new : List Band) → k ≡ m + n → HaveMovedOn m columns height rows old now → HaveMovedOn n columns height rows now new → HaveMovedOn k columns height rows old new
  moved_on_further m n k old now new e first second =
      record {
        are = second.are;
        at = λ g at b lt. let q = second.at (g + m) (first.at g at) b lt in omega (arith, q, e);
        shows = λ f due width evo shows. second.shows f due width evo (first.shows f due width evo shows);
      }

  pub none_first_moved_on : (bands : List Band) → AreBands columns height rows bands → HaveFirstMovedOn 0 columns height rows bands bands
  none_first_moved_on bands are =
      record {
        are = are;
        moved = λ g at k lt. absurd (omega (arith, lt));
        left = λ g at k le lt. at k lt;
        shows = λ e due width evo shows. shows;
      }

  pub all_first_moved_on : (b : ℕ) (old new : List Band) → AreBands columns height rows old → length old ≤ b → HaveFirstMovedOn b columns height rows old new → HaveMovedOn 1 columns height rows old new
  all_first_moved_on b old new were le moved =
      let many = moved.are.many ∙ sym were.many in
      record {
        are = moved.are;
        at = λ g at k lt. moved.moved g at k (omega (arith, lt, le, many));
        shows = moved.shows;
      }

-- a neighbour at the band's generation or one further is ready
is_ready : (generations : List ℕ) (b n : ℕ) → (get_or generations n 0 ≡ get_or generations b 0) ⊎ (get_or generations n 0 ≡ get_or generations b 0 + 1) → not_ready generations b n ≡ None
is_ready generations b n near = ap (λ (t : Bool). if t then None else Some (record { neighbour = n; generation = get_or generations n 0 })) (test near)
  where
    other : ℕ
    other = get_or generations n 0

    own : ℕ
    own = get_or generations b 0

    test : (other ≡ own) ⊎ (other ≡ own + 1) → (other == own || other == own + 1) ≡ true
    test (inl e) = ap (λ (t : Bool). t || other == own + 1) (eq-eqb other own e)
    test (inr e) = or_right (other == own) (other == own + 1) (eq-eqb other (own + 1) e)

-- so the next band can move on
pub next_ready : (g b many : ℕ) (generations : List ℕ) → length generations ≡ many → b < many → ((k : ℕ) → k < b → get_or generations k 0 ≡ g + 1) → ((k : ℕ) → b ≤ k → k < many → get_or generations k 0 ≡ g) → unready_neighbour generations b ≡ None
next_ready g b many generations all lt moved left = ap₂ option_or (upper b (left b (omega arith) lt) moved) (lower (nat_lt (b + 1) (length generations)) refl)
  where
    upper : (b : ℕ) → get_or generations b 0 ≡ g → ((k : ℕ) → k < b → get_or generations k 0 ≡ g + 1) → upper_not_ready generations b ≡ None
    upper zero own moved = refl
    upper (suc c) own moved = is_ready generations (suc c) c (inr (moved c (omega arith) ∙ ap (λ n. n + 1) (sym own)))

    lower : (t : Bool) → nat_lt (b + 1) (length generations) ≡ t → (if t then not_ready generations b (b + 1) else None) ≡ None
    lower false e = refl
    lower true e =
        let l : b + 1 < length generations = search (arith, e) in
        is_ready generations b (b + 1) (inl (left (b + 1) (omega arith) (omega (arith, l, all)) ∙ sym (left b (omega arith) lt)))

pub next_can_move : (columns height rows b : ℕ) (old now : List Band) → CanMoveOn 1 columns height rows old → HaveFirstMovedOn b columns height rows old now → b < length now → CanMove columns height rows now b
next_can_move columns height rows b old now can moved lt =
    let g = can.generation in
    let many = moved.are.many ∙ sym can.are.many in
    let left = moved.left g can.at in
    let own = left b (omega arith) (omega (arith, lt, many)) in
    let room = can.room in
    record {
      inside = lt;
      room = omega (arith, own, room);
      ready = next_ready g b (length old) (generations_of now) (length-map now (λ (band : Band). band.generation) ∙ many) (omega (arith, lt, many)) (moved.moved g can.at) left;
      are = moved.are;
    }

-- and then one more has moved
pub one_moved_on : (columns height rows b : ℕ) (old now new : List Band) → HaveFirstMovedOn b columns height rows old now → AreBands columns height rows old → b < length now → AreBands columns height rows new → generations_of new ≡ slice_set (generations_of now) b (generation_at now b + 1)
    → ((e : ℕ → Plane) (due : Due) (width : ℕ) → IsEvolution e due width rows → AllShow e due height rows now → AllShow e due height rows new) → HaveFirstMovedOn (b + 1) columns height rows old new
one_moved_on columns height rows b old now new moved were lt are generations shows =
    let many = moved.are.many ∙ sym were.many in
    let there : b < length (generations_of now) = let l = length-map now (λ (band : Band). band.generation) in omega (arith, l, lt) in
    let at = λ (k : ℕ). ap (λ (gs : List ℕ). get_or gs k 0) generations in
    record {
      are = are;
      moved = λ g was k l.
          elim (cases_lt k b) [
            | inl less ↦ at k ∙ get_or-set_other (generations_of now) b k (generation_at now b + 1) 0 (λ q. absurd (omega (arith, less, q))) ∙ moved.moved g was k less
            | inr ge ↦
                let q : k ≡ b = omega (arith, l, ge) in
                at k ∙ ap (λ n. get_or (slice_set (generations_of now) b (generation_at now b + 1)) n 0) q ∙ get_or-set_same (generations_of now) b (generation_at now b + 1) 0 there
                ∙ ap (λ n. n + 1) (moved.left g was b (omega arith) (omega (arith, lt, many)))
          ];
      left = λ g was k ge l. at k ∙ get_or-set_other (generations_of now) b k (generation_at now b + 1) 0 (λ q. absurd (omega (arith, ge, q))) ∙ moved.left g was k (omega (arith, ge)) l;
      shows = λ e due width evo all. shows e due width evo (moved.shows e due width evo all);
    }

-- ---- bands without a lit cell

pub first_band : (bands : List Band) → 0 < length bands → Band
first_band [] lt = absurd (omega (arith, lt))
first_band (band ∷ bands) lt = band

pub no_head_in : (w : Bool) → state_of false false w ≢ Head
no_head_in true e = cc
no_head_in false e = cc

pub no_tail_in : (w : Bool) → state_of false false w ≢ Tail
no_tail_in true e = cc
no_tail_in false e = cc

empty_head : Empty ≢ Head
empty_head e = cc

empty_tail : Empty ≢ Tail
empty_tail e = cc

module _ (e : ℕ → Plane) (due : Due) (width columns height rows g : ℕ) (bands : List Band) (some : 0 < height) (evo : IsEvolution e due width rows) (are : AreBands columns height rows bands) (at : AreBandsAt g bands) (shows : AllShow e due height rows bands) where
  -- the band of a row, and the row's number in it
  module _ (y : ℕ) (lt : y < rows) where
    abbrev b : ℕ
    b = y / height

    from : b * height ≤ y
    from =
        let parts : height * (y / height) + y % height ≡ y = omega (arith, some) in
        let turned = mul_comm height (y / height) in
        omega (arith, parts, turned)

    in_row : y - b * height < rows_in_band height rows b
    in_row =
        let r : y % height < height = omega (arith, some) in
        let parts : height * (y / height) + y % height ≡ y = omega (arith, some) in
        let turned = mul_comm height (y / height) in
        omega (arith, r, parts, turned, lt)

    inside : b < length bands
    inside = let many = are.many in let i = in_bands b height y rows some from lt in omega (arith, i, many)

    abbrev band : Band
    band = get_or bands b (first_band bands (let i = inside in omega (arith, i)))

    shown : ShowsBand e due (b * height) (rows_in_band height rows b) band
    shown = shows b _ inside

    is : IsBand columns (b * height) (rows_in_band height rows b) band
    is = are.each b _ inside

    its_generation : band.generation ≡ g
    its_generation = own_generation bands b _ inside ∙ at b inside

    place : pos (b * height) +ℤ pos (y - b * height) ≡ pos y
    place = let f = from in omega (arith, ints, f)

    cell_there : HasNoneLit band → (x : ℕ) → (w : Bool) × (e g (pos x) (pos y) ≡ state_of false false w)
    cell_there none x =
        let k = y - b * height in
        let high = is.high in
        let i = in_row in
        let l : k < band.field.rows = omega (arith, high, i) in (
          cell_set band.field x k,
          ap (λ g. e g (pos x) (pos y)) (sym its_generation) ∙ ap (e band.generation (pos x)) (sym place) ∙ sym (shown.cells k x l) ∙ dark_state band.field x k l none,
        )

    none_due_there : (n : ℕ) → HasNoneDueFor n band → (h x : ℕ) → g < h → h ≤ g + n → due h (pos x) (pos y) ≡ false
    none_due_there n calm h x later early =
        let gen = its_generation in
        let left = shown.left in
        let own = band.injections.items in
        ap (due h (pos x)) (sym place)
        ∙ sym (shown.own h x (y - b * height) in_row)
        ∙ none_due band.generation h own (drop band.done own) left
        (from_earlier (h + 1) (band.generation + n + 1) (drop band.done own) (omega (arith, gen, early)) (calm left.in_order))
        (omega (arith, gen, later)) (pos x) (pos (b * height) +ℤ pos (y - b * height))

  -- so their plane is dark
  pub is_dark : All HasNoneLit bands → IsDark (e g)
  is_dark none (pos x) (pos y) =
      elim (cases_lt y rows) [
        | inl lt ↦
            let it = cell_there y lt (none (b y lt) _ (inside y lt)) x in
            (λ q. no_head_in it.0 (sym it.1 ∙ q), λ q. no_tail_in it.0 (sym it.1 ∙ q))
        | inr ge ↦ let it = evo.empty g (pos x) (pos y) (below width rows x y ge) in (λ q. empty_head (sym it ∙ q), λ q. empty_tail (sym it ∙ q))
      ]
  is_dark none (pos x) (negsuc y) = let it = evo.empty g (pos x) (negsuc y) refl in (λ q. empty_head (sym it ∙ q), λ q. empty_tail (sym it ∙ q))
  is_dark none (negsuc x) y = let it = evo.empty g (negsuc x) y refl in (λ q. empty_head (sym it ∙ q), λ q. empty_tail (sym it ∙ q))

  pub plane_stays : (n : ℕ) → All HasNoneLit bands → All (HasNoneDueFor n) bands → (k : ℕ) → k ≤ n → e (g + k) ≡ e g
  plane_stays n none calm = stays_dark e due width rows g evo (is_dark none) n (λ h x y later early lt. none_due_there y lt n (calm (b y lt) _ (inside y lt)) h x later early)

-- ---- bands that rest

-- what a band knows of its own injections stays, if it comes n calm generations further
pub still_left : (n : ℕ) (old new : Band) → new.generation ≡ old.generation + n → new.injections ≡ old.injections → new.done ≡ old.done → HasNoneDueFor n old → AreLeftAt (old.generation + 1) old.injections.items (drop old.done old.injections.items) → AreLeftAt (new.generation + 1) new.injections.items (drop new.done new.injections.items)
still_left n old new gen injections done calm left =
    let own = old.injections.items in
    let after : AreLeftAt (new.generation + 1) own (drop old.done own) = record {
      used = left.used;
      parts = left.parts;
      earlier = λ j d l. let i = left.earlier j d l in omega (arith, i, gen);
      in_order = subst (λ g. AreInOrderFrom (g + 1) (drop old.done own)) (sym gen) (calm left.in_order);
    } in
    subst (λ v. AreLeftAt (new.generation + 1) v.items (drop new.done v.items)) (sym injections) (subst (λ d. AreLeftAt (new.generation + 1) own (drop d own)) (sym done) after)

rested_shows : (e : ℕ → Plane) (due : Due) (y many n : ℕ) (old new : Band) → 0 < n → ShowsBand e due y many old → HasRested n old new → HasNoneLit old → IsDark (e old.generation) → ((k : ℕ) → k ≤ n → e (old.generation + k) ≡ e old.generation) → HasNoneDueFor n old → ShowsBand e due y many new
rested_shows e due y many n old new some shows r unlit dark stays calm =
    let g = old.generation in
    let gen = r.generation in
    let now : e new.generation ≡ e g = ap e gen ∙ stays n (omega arith) in
    let none = λ (x : ℕ) (z : ℤ). not_counted (e g (pos x) z) (dark (pos x) z).0 in
    record {
      cells = subst (λ field. ShowsField field (e new.generation) (pos y)) (sym r.field) (subst (λ p. ShowsField old.field p (pos y)) (sym now) shows.cells);
      before = λ h q.
          let back = ap e (let s : h ≡ g + (n - 1) = omega (arith, q, gen, some) in s) ∙ stays (n - 1) (omega arith) in
          subst (λ field. TailsShow field (e h) (pos y)) (sym r.field)
          (subst (λ p. TailsShow old.field p (pos y)) (sym back) (nothing_shown old.field (e g) (pos y) unlit.tails (λ x k lt. none x (pos y +ℤ pos k))));
      own = subst (λ v. AreDueIn v.items due y many) (sym r.injections) shows.own;
      left = still_left n old new gen r.injections r.done calm shows.left;
    }

rested_is : (columns y many n : ℕ) (old new : Band) → HasRested n old new → IsBand columns y many old → IsBand columns y many new
rested_is columns y many n old new r is = rests columns y many old new r.field r.injections r.done is

module _ (n columns height rows : ℕ) (old new : List Band) (some : 0 < n) (rested : HaveRested n old new) (are : AreBands columns height rows old) where
  there : (b : ℕ) → b < length new → b < length old
  there b lt = let many = rested.many in omega (arith, lt, many)

  rested_at : (g : ℕ) → AreBandsAt g old → AreBandsAt (g + n) new
  rested_at g at b lt =
      let d = first_band new (omega (arith, lt)) in
      let l = there b lt in
      sym (own_generation new b d lt) ∙ (rested.each b d l).generation ∙ ap (λ h. h + n) (own_generation old b d l ∙ at b l)

  -- where none is lit and none is due, they have moved on
  pub rested_moved_on : (g : ℕ) → AreBandsAt g old → 0 < height → All HasNoneLit old → All (HasNoneDueFor n) old → HaveMovedOn n columns height rows old new
  rested_moved_on g at high none calm =
      record {
        are = record {
          many = rested.many ∙ are.many;
          each = λ b d lt. rested_is columns (b * height) (rows_in_band height rows b) n (get_or old b d) (get_or new b d) (rested.each b d (there b lt)) (are.each b d (there b lt));
        };
        at = rested_at;
        shows = λ e due width evo shows b d lt.
            let l = there b lt in
            let gen = own_generation old b d l ∙ at b l in
            let stays = plane_stays e due width columns height rows g old high evo are at shows n none calm in
            rested_shows e due (b * height) (rows_in_band height rows b) n (get_or old b d) (get_or new b d) some (shows b d l) (rested.each b d l) (none b d l)
            (subst (λ h. IsDark (e h)) (sym gen) (is_dark e due width columns height rows g old high evo are at shows none))
            (subst (λ h. (k : ℕ) → k ≤ n → e (h + k) ≡ e h) (sym gen) stays) (calm b d l);
      }

-- where all bands can move on, and none is lit
pub dark_moved_on : (n most columns height rows : ℕ) (old new : List Band) → 0 < n → CanMoveOn most columns height rows old → All HasNoneLit old → All (HasNoneDueFor n) old → HaveRested n old new → HaveMovedOn n columns height rows old new
dark_moved_on n most columns height rows old new some can none calm rested =
    rested_moved_on n columns height rows old new some rested can.are can.generation can.at can.high none calm

-- bands that have moved on can move on by what is left
pub can_still_move : (n m columns height rows : ℕ) (old new : List Band) → m ≤ n → CanMoveOn n columns height rows old → HaveMovedOn m columns height rows old new → CanMoveOn (n - m) columns height rows new
can_still_move n m columns height rows old new le can moved =
    let room = can.room in
    record {
      generation = can.generation + m;
      at = moved.at can.generation can.at;
      room = omega (arith, room, le);
      high = can.high;
      few = can.few;
      are = moved.are;
    }

pub can_move_by : (n m columns height rows : ℕ) (bands : List Band) → m ≤ n → CanMoveOn n columns height rows bands → CanMoveOn m columns height rows bands
can_move_by n m columns height rows bands le can =
    let room = can.room in
    record {
      generation = can.generation;
      at = can.at;
      room = omega (arith, room, le);
      high = can.high;
      few = can.few;
      are = can.are;
    }

-- each band has room for them
pub has_room : (n m columns height rows : ℕ) (bands : List Band) → m ≤ n → CanMoveOn n columns height rows bands → All (λ band. band.generation + m < 2 ^ 64) bands
has_room n m columns height rows bands le can b d lt =
    let own = own_generation bands b d lt in
    let at = can.at b lt in
    let room = can.room in
    omega (arith, own, at, room, le)

-- a longer time without injections begins with a shorter one
pub calm_for : (n m : ℕ) (band : Band) → m ≤ n → HasNoneDueFor n band → HasNoneDueFor m band
calm_for n m band le calm order = from_earlier (band.generation + m + 1) (band.generation + n + 1) (drop band.done band.injections.items) (omega (arith, le)) (calm order)
