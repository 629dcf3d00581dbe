-- What a call that writes a line does to a sink.
use Rattle.std.specs.Prelude.{ℕ, List, take, OnOk, OnErr, Result}
use Rattle.std.specs.declared.option.Option.{Option}
use Rattle.std.specs.Io.KnownBytes.{Appends}
use Rattle.ww_base.specs.Faults.{HasCause}

-- the sink held a and now holds b, and its faults were f and are now g: it has all of the line, or
-- a prefix of it if a write failed
pub record Tells {T E : Type 0} (line : List ℕ) (a b : Option (List ℕ)) (f g : ℕ)
    (result : Result T E) : Type 0 where
  pub ok : OnOk result (Appends a b line)
  pub front : OnErr result ((n : ℕ) × Appends a b (take n line))
  pub cause : HasCause f g result
