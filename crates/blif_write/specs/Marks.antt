-- The `_` with which the names of nets begin that are no port's.
use Rattle.std.specs.Prelude.{ℕ, ◌+◌, List, replicate}
use Rattle.std.specs.Str.{byte}

-- one more `_` than `most`
abbrev pub mark_after : ℕ → List ℕ
mark_after most = replicate (most + 1) (byte "_")
