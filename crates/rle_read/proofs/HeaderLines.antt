-- The header line of a text, found line by line.
use Rattle.std.proofs.Common.{◌+◌, ◌≡◌, ap, ◌∙◌, Bool, false, cond, not, List, ◌∷◌, drop}
use Rattle.std.specs.Prelude.{Some, find}
use Rattle.std.specs.List.{prefix_len, after_first}
use Rattle.pattern_reading.specs.Lines.{Line}
use Rattle.pattern_reading.specs.Header.{is_skipped}

abbrev pub is_header : Line → Bool
is_header line = not (is_skipped line)

pub header_first : (line : Line) (all more : List Line) → all ≡ line ∷ more → is_skipped line ≡ false → (find is_header all ≡ Some line) × (after_first is_header all ≡ more)
header_first line all more e found = (
  ap (find is_header) e ∙ ap (λ b. cond (not b) (Some line) (find is_header more)) found,
  ap (after_first is_header) e
      ∙ ap (λ b. drop (cond (not (not b)) (1 + prefix_len (λ l. not (is_header l)) more) 0 + 1) (line ∷ more)) found,
)
