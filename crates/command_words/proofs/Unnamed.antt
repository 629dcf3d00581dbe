-- A name that is no command's.
use Rattle.std.proofs.Common.{◌≡◌, Bool, false}
use Rattle.std.specs.Prelude.{if◌then◌else◌}

-- the second of two, where the test for the first fails
pub passed_over : {A : Type 0} (test : Bool) (first second : A) (value : A) → test ≡ false → second ≡ value → (if test then first else second) ≡ value
passed_over test first second value fails is = rw fails is
