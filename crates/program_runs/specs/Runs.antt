-- What a run of a program did to its source, its output and its errors. The words stand here for every
-- program of the repository.
use Rattle.std.specs.Prelude.{◌≡◌, ◌≢◌, ◌≤◌, ◌<◌, ℕ, Bool, true, false, List, [], length, Some}
use Rattle.std.specs.declared.option.Option.{Option}
use Rattle.std.specs.Io.KnownBytes.{Consumes, Appends, Keeps, IsAtEnd}
use Rattle.ww_base.specs.Faults.{RoseByOne}

-- the greatest number of bytes that are read
abbrev pub text_limit : ℕ
text_limit = 16777216

-- what a run did to a source: the bytes that were left, if the source tells them, and its count of
-- faults, before and after
pub record Reading : Type 0 where
  pub left : Option (List ℕ)
  pub left_after : Option (List ℕ)
  pub faults : ℕ
  pub faults_after : ℕ

abbrev pub reading : {A : Type 0} → (A → Option (List ℕ)) → (A → ℕ) → A → A → Reading
reading left faults old new =
    record {
      left = left old;
      left_after = left new;
      faults = faults old;
      faults_after = faults new;
    }

-- what a run did to a sink: the bytes that it took, if the sink tells them, and its count of
-- faults, before and after
pub record Writing : Type 0 where
  pub written : Option (List ℕ)
  pub written_after : Option (List ℕ)
  pub faults : ℕ
  pub faults_after : ℕ

abbrev pub writing : {A : Type 0} → (A → Option (List ℕ)) → (A → ℕ) → A → A → Writing
writing written faults old new =
    record {
      written = written old;
      written_after = written new;
      faults = faults old;
      faults_after = faults new;
    }

-- a run: its words, and what it did to its source, its output and its errors
pub record Call : Type 0 where
  pub words : List (List ℕ)
  pub src : Reading
  pub out : Writing
  pub err : Writing

abbrev pub call : List (List ℕ) → Reading → (out err : Writing) → Call
call words src out err = record { words = words; src = src; out = out; err = err }

-- the source gave these bytes
abbrev pub Gave : Reading → List ℕ → Type 0
Gave src given = Consumes src.left src.left_after given

-- one read failed
abbrev pub ReadFailed : Reading → Type 0
ReadFailed src = RoseByOne src.faults src.faults_after

-- no read failed
abbrev pub NoReadFailed : Reading → Type 0
NoReadFailed src = src.faults_after ≡ src.faults

-- the source gave this text, which is not too long, and is at its end; no read failed
pub record GaveAll (src : Reading) (text : List ℕ) : Type 0 where
  pub consumed : Gave src text
  pub end : IsAtEnd src.left_after
  pub within : length text ≤ text_limit
  pub calm : NoReadFailed src

-- the source gave too many bytes, and no read failed
pub record GaveTooMuch (src : Reading) : Type 0 where
  pub given : List ℕ
  pub gave : Gave src given
  pub many : text_limit < length given
  pub calm : NoReadFailed src

-- the source is unchanged
pub record IsUntouched (src : Reading) : Type 0 where
  pub left : src.left_after ≡ src.left
  pub faults : src.faults_after ≡ src.faults

-- if the source is read, it gave this text; else it is unchanged, and the text is the empty one
abbrev pub GaveIfRead : Bool → Reading → List ℕ → Type 0
GaveIfRead true src text = GaveAll src text
GaveIfRead false src text = IsUntouched src × (text ≡ [])

-- the sink gained these bytes
abbrev pub Gained : Writing → List ℕ → Type 0
Gained sink bytes = Appends sink.written sink.written_after bytes

-- the sink gained nothing
abbrev pub GainedNothing : Writing → Type 0
GainedNothing sink = Keeps sink.written sink.written_after

-- one write failed
abbrev pub WriteFailed : Writing → Type 0
WriteFailed sink = RoseByOne sink.faults sink.faults_after

-- no write failed
abbrev pub NoWriteFailed : Writing → Type 0
NoWriteFailed sink = sink.faults_after ≡ sink.faults

-- the sink was not written to
pub record IsUnwritten (sink : Writing) : Type 0 where
  pub nothing : GainedNothing sink
  pub calm : NoWriteFailed sink

-- if the source is read, it has this text and no read failed; else the text is the empty one
abbrev pub HoldsIfRead : Bool → Reading → List ℕ → Type 0
HoldsIfRead true src text = (src.left ≡ Some text) × (ReadFailed src → ⊥)
HoldsIfRead false src text = text ≡ []
