-- Cells of bands that are heads or tails, as callers see them.
use Rattle.std.proofs.Common.{pos, ◌+ℤ◌, ℕ, ◌+◌, ◌-◌, ◌*◌, ◌<◌, ◌≤◌, ◌≡◌, ◌^◌, sym, ap, ap₂, subst, ◌∙◌, inl, inr, Bool, false, List, length, get_or, map, arith}
use Rattle.std.specs.Prelude.{◌≢◌, ◌↔◌, All}
use Rattle.std.specs.Vec.{with_items}
use Rattle.std.proofs.lemmas.Bool.{cases_Bool}
use Rattle.std.proofs.lemmas.Int.{ints}
use Rattle.std.proofs.lemmas.List.{ext_get_or, get_or-map, length-map}
use Rattle.ww_rule.specs.declared.pattern.State.{State}
use Rattle.ww_rule.specs.declared.pattern.State.TheVariants.{Empty, Head, Tail}
use Rattle.ww_rule.specs.Wireworld.{Plane, driven}
use Rattle.ww_rule.specs.Grid.{plane_of}
use Rattle.ww_rule.specs.Injections.{due_of_list}
use Rattle.lane_kernel.specs.Rows.{is_set, state_of}
use Rattle.band_rows.specs.declared.field.Field.{Field}
use Rattle.band_rows.specs.Fields.{IsDarkField, IsLitInField, field_heads, field_state, field_tails}
use Rattle.band_core.specs.declared.band.Band.{Band}
use Rattle.band_core.specs.declared.bands.Bands.TheInside.{Inside}
use Rattle.band_core.specs.Bands.{AreLevel, IsCellOf, IsLit, IsUnlit, band_at, generation_of}
use Rattle.band_core.specs.Bands.IsLit.{head, tail}
use Rattle.band_core.specs.Band.{AllShow, AreBands, IsBand, ShowsBand, generations_of, rows_in_band}
use Rattle.band_core.specs.Held.{IsHeld, held_pattern}
use Rattle.band_core.specs.Together.{AreBandsAt, CanMoveOn, HasNoneLit, IsNarrowBand}
use Rattle.band_core.proofs.Asleep.{lit_column}
use Rattle.band_core.proofs.BandFields.{cell_set, dark_state}
use Rattle.band_core.proofs.Evolution.{in_bands}
use Rattle.band_core.proofs.MovedOn.{first_band, no_head_in, no_tail_in, own_generation}

head_there : Head ≢ Empty
head_there e = cc

tail_there : Tail ≢ Empty
tail_there e = cc

module _ (held : Inside) (is_held : IsHeld held) where
  abbrev total : ℕ
  total = length held.pattern.rows

  abbrev plane : ℕ → Plane
  plane = driven (due_of_list held.injections.items) (plane_of held.pattern.rows)

  module _ (b : ℕ) (d : Band) (lt : b < length held.bands.items) where
    abbrev y : ℕ
    y = b * held.height

    abbrev band : Band
    band = get_or held.bands.items b d

    is : IsBand held.columns y (rows_in_band held.height total b) band
    is = is_held.bands.each b d lt

    shown : ShowsBand plane (due_of_list held.injections.items) y (rows_in_band held.height total b) band
    shown = is_held.shows b d lt

    state_is : (k x : ℕ) → k < band.field.rows → band_at (held_pattern held) b x (y + k) ≡ field_state band.field x k
    state_is k x l =
        let place : pos (y + k) ≡ pos y +ℤ pos k = omega (arith, ints) in
        ap (λ g. plane g (pos x) (pos (y + k))) (sym (own_generation held.bands.items b d lt))
        ∙ ap (plane band.generation (pos x)) place
        ∙ sym (shown.cells k x l)

    cell_is : (k x : ℕ) (s : State) → k < band.field.rows → s ≢ Empty → band_at (held_pattern held) b x (y + k) ≡ s → IsCellOf (held_pattern held) b x (y + k)
    cell_is k x s l there e =
        let high = is.high in
        record {
          column = lit_column (held_pattern held) held.pattern.in_rows is_held.inside b x (y + k) s there e;
          from = omega arith;
          below = omega (arith, l, high);
          within = omega (arith, l, high);
        }

    module _ (unlit : IsUnlit (held_pattern held)) where
      no_head_here : (k x : ℕ) → k < band.field.rows → is_set (field_heads band.field (k + 1)) x ≡ false
      no_head_here k x l =
          elim (cases_Bool (is_set (field_heads band.field (k + 1)) x)) [
            | inl e ↦
                let at = state_is k x l ∙ ap (λ h. state_of h (is_set (field_tails band.field (k + 1)) x) (cell_set band.field x k)) e in
                absurd (unlit b x (y + k) (head (cell_is k x Head l head_there at) at))
            | inr e ↦ e
          ]

      no_tail_here : (k x : ℕ) → k < band.field.rows → is_set (field_tails band.field (k + 1)) x ≡ false
      no_tail_here k x l =
          elim (cases_Bool (is_set (field_tails band.field (k + 1)) x)) [
            | inl e ↦
                let at = state_is k x l ∙ ap₂ (λ h t. state_of h t (cell_set band.field x k)) (no_head_here k x l) e in
                absurd (unlit b x (y + k) (tail (cell_is k x Tail l tail_there at) at))
            | inr e ↦ e
          ]

      pub none_lit_here : HasNoneLit band
      none_lit_here = record { heads = no_head_here; tails = no_tail_here }

  dark_cell : (b x z : ℕ) → All HasNoneLit held.bands.items → IsCellOf (held_pattern held) b x z → (w : Bool) × (band_at (held_pattern held) b x z ≡ state_of false false w)
  dark_cell b x z none cell =
      let from = cell.from in
      let below = cell.below in
      let within = cell.within in
      let i = in_bands b held.height z total is_held.height from within in
      let many = is_held.bands.many in
      let lt : b < length held.bands.items = omega (arith, i, many) in
      let d = first_band held.bands.items (omega (arith, lt)) in
      let k = z - b * held.height in
      let field = (get_or held.bands.items b d).field in
      let high = (is b d lt).high in
      let l : k < field.rows = omega (arith, high, from, below, within) in
      let q : z ≡ b * held.height + k = omega (arith, from) in
      (cell_set field x k, ap (band_at (held_pattern held) b x) q ∙ state_is b d lt k x l ∙ dark_state field x k l (none b d lt))

  none_is_lit : (b x z : ℕ) → All HasNoneLit held.bands.items → IsLit (held_pattern held) b x z → ⊥
  none_is_lit b x z none (head cell e) = let it = dark_cell b x z none cell in no_head_in it.0 (sym it.1 ∙ e)
  none_is_lit b x z none (tail cell e) = let it = dark_cell b x z none cell in no_tail_in it.0 (sym it.1 ∙ e)

  pub is_unlit : All HasNoneLit held.bands.items ↔ IsUnlit (held_pattern held)
  is_unlit = (λ none b x z lit. none_is_lit b x z none lit, λ unlit b d lt. none_lit_here b d lt unlit)

  -- what is held can move on, if all bands are at one generation
  pub held_can_move : (n : ℕ) → AreLevel (held_pattern held) → generation_of (held_pattern held) 0 + n < 2 ^ 64 → CanMoveOn n held.columns held.height total held.bands.items
  held_can_move n level room =
      record {
        generation = generation_of (held_pattern held) 0;
        at = λ b lt. level b 0 (let l = length-map held.bands.items (λ (band : Band). band.generation) in omega (arith, l, lt));
        room = room;
        high = is_held.height;
        few = is_held.few;
        are = is_held.bands;
      }

pub are_narrow : (columns height rows : ℕ) (bands : List Band) → columns ≤ 2 ^ 58 → AreBands columns height rows bands → All IsNarrowBand bands
are_narrow columns height rows bands few are b d lt =
    let is = are.each b d lt in
    let wide = is.wide in
    record { closed = is.closed; few = omega (arith, wide, few) }

-- a field with a lit cell is not dark
pub not_dark : (field : Field) (x k : ℕ) → IsLitInField field x k → IsDarkField field → ⊥
not_dark field x k lit dark =
    let state = dark_state field x k lit.row dark in
    elim lit.lit [
      | inl e ↦ no_head_in (cell_set field x k) (sym state ∙ e)
      | inr e ↦ no_tail_in (cell_set field x k) (sym state ∙ e)
    ]

-- new bands in the place of those that are held
pub held_anew : (held : Inside) (new : List Band) → IsHeld held → AreBands held.columns held.height (length held.pattern.rows) new
    → AllShow (driven (due_of_list held.injections.items) (plane_of held.pattern.rows)) (due_of_list held.injections.items) held.height (length held.pattern.rows) new
    → (with_items held.bands new).items ≡ new
    → IsHeld (record { pattern = held.pattern; injections = held.injections; height = held.height; columns = held.columns; bands = with_items held.bands new })
held_anew held new v are shows same =
    record {
      inside = v.inside;
      in_order = v.in_order;
      height = v.height;
      few = v.few;
      wide = v.wide;
      bands = subst (AreBands held.columns held.height (length held.pattern.rows)) (sym same) are;
      shows = subst (AllShow (driven (due_of_list held.injections.items) (plane_of held.pattern.rows)) (due_of_list held.injections.items) held.height (length held.pattern.rows)) (sym same) shows;
    }

-- the generations of bands that have moved on
pub generations_moved : (n g : ℕ) (old new : List Band) → length new ≡ length old → AreBandsAt g old → AreBandsAt (g + n) new → generations_of new ≡ map (λ g. g + n) (generations_of old)
generations_moved n g old new many at then_at =
    let generation = λ (band : Band). band.generation in
    let long = length-map new generation in
    let long_old = length-map old generation in
    let long_moved = length-map (generations_of old) (λ g. g + n) in
    ext_get_or 0 (generations_of new) (map (λ g. g + n) (generations_of old)) (omega (arith, long, long_old, long_moved, many))
    (λ b lt.
    let inside : b < length old = omega (arith, lt, long, many) in
    then_at b (omega (arith, lt, long)) ∙ sym (get_or-map (λ g. g + n) (generations_of old) b 0 0 (omega (arith, inside, long_old)) ∙ ap (λ g. g + n) (at b inside)))
