-- Bands that all move on together.
use Rattle.std.specs.Prelude.{ℕ, ◌+◌, ◌≤◌, ◌<◌, ◌≡◌, ◌^◌, List, length, get_or, drop}
use Rattle.ww_rule.specs.Due.{AreInOrderFrom}
use Rattle.ww_rule.specs.Wireworld.{Plane, Due}
use Rattle.band_rows.specs.Fields.{HasRunAlone, IsClosedField, IsDarkField}
use Rattle.band_core.specs.declared.band.Band.{Band}
use Rattle.band_core.specs.Band.{AllShow, AreBands, IsEvolution, generation_at}

-- all bands are at a generation
abbrev pub AreBandsAt : ℕ → List Band → Type 0
AreBandsAt g bands = (b : ℕ) → b < length bands → generation_at bands b ≡ g

-- bands of a height over so many rows, all at one generation, can move on by n generations
pub record CanMoveOn (n columns height rows : ℕ) (bands : List Band) : Type 0 where
  pub generation : ℕ
  pub at : AreBandsAt generation bands
  pub room : generation + n < 2 ^ 64
  pub high : 0 < height
  pub few : columns ≤ 2 ^ 58
  pub are : AreBands columns height rows bands

-- they have moved on by n generations
pub record HaveMovedOn (n columns height rows : ℕ) (old new : List Band) : Type 0 where
  pub are : AreBands columns height rows new
  pub at : (g : ℕ) → AreBandsAt g old → AreBandsAt (g + n) new
  pub shows : (e : ℕ → Plane) (due : Due) (width : ℕ) → IsEvolution e due width rows
      → AllShow e due height rows old → AllShow e due height rows new

-- a band has moved on by n generations as it was
pub record HasRested (n : ℕ) (old new : Band) : Type 0 where
  pub generation : new.generation ≡ old.generation + n
  pub field : new.field ≡ old.field
  pub done : new.done ≡ old.done
  pub injections : new.injections ≡ old.injections

-- all bands have
pub record HaveRested (n : ℕ) (old new : List Band) : Type 0 where
  pub many : length new ≡ length old
  pub each : (b : ℕ) (d : Band) → b < length old → HasRested n (get_or old b d) (get_or new b d)

-- an injection of a band that is left is not due in the next n generations
abbrev pub HasNoneDueFor : ℕ → Band → Type 0
HasNoneDueFor n band =
    AreInOrderFrom (band.generation + 1) (drop band.done band.injections.items)
    → AreInOrderFrom (band.generation + n + 1) (drop band.done band.injections.items)

-- a band's field is closed, and has few word columns
pub record IsNarrowBand (band : Band) : Type 0 where
  pub closed : IsClosedField band.field
  pub few : band.field.columns ≤ 2 ^ 58

-- a band has moved on by n generations, in which no head lies beside it and no injection is due
pub record HasBandRun (n : ℕ) (old new : Band) : Type 0 where
  pub generation : new.generation ≡ old.generation + n
  pub done : new.done ≡ old.done
  pub injections : new.injections ≡ old.injections
  pub field : HasRunAlone n old.field new.field

-- no cell of a band's field is lit
abbrev pub HasNoneLit : Band → Type 0
HasNoneLit band = IsDarkField band.field
