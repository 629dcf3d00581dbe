-- Laws of VCD texts.
use Rattle.std.specs.Prelude.{◌≡◌, ◌<◌, ◌^◌, ℕ, List, length, Some}
use Rattle.std.specs.List.{AllByRecursion}
use Rattle.vcd_write.specs.Reading.{VcdForm, IsWord, ReadsAsVcd, last_time, value_at}
use Rattle.vcd_write.specs.Writing.{Waves, vcd_form, vcd_id, vcd_text}

-- A text reads as at most one form.
abbrev pub ReadsAsOneForm : Type 0
ReadsAsOneForm = (text : List ℕ) (a b : VcdForm) → ReadsAsVcd text a → ReadsAsVcd text b → a ≡ b

-- The text reads as the variables in their order, with their references, and as nothing else; its
-- last time is the number of cycles, and each variable has its bit at the time of each cycle.
pub record SaysWaves (w : Waves) : Type 0 where
  pub reads : ReadsAsVcd (vcd_text w) (vcd_form w)
  pub alone : (form : VcdForm) → ReadsAsVcd (vcd_text w) form → form ≡ vcd_form w
  pub ends : last_time (vcd_form w) ≡ w.cycles
  pub bits : (n cycle : ℕ) → n < length w.references → cycle < w.cycles
      → value_at (vcd_form w) (vcd_id n) cycle ≡ Some (w.bit n cycle)

-- the text of waves reads as them, if the references are words and the number of cycles fits 64
-- bits
abbrev pub TextsSayWaves : Type 0
TextsSayWaves = (w : Waves) → AllByRecursion IsWord w.references → w.cycles < 2 ^ 64 → SaysWaves w

-- No two numbers have one id.
abbrev pub IdsAreDistinct : Type 0
IdsAreDistinct = (n m : ℕ) → vcd_id n ≡ vcd_id m → n ≡ m

-- The text depends on the references and the bits of the cycles alone.
pub record AreSameWaves (a b : Waves) : Type 0 where
  pub cycles : a.cycles ≡ b.cycles
  pub references : a.references ≡ b.references
  pub bits : (n cycle : ℕ) → n < length b.references → cycle < b.cycles
      → a.bit n cycle ≡ b.bit n cycle

abbrev pub SameWavesAreWrittenAlike : Type 0
SameWavesAreWrittenAlike = (a b : Waves) → AreSameWaves a b → vcd_text a ≡ vcd_text b
