-- Texts in pieces.
use Rattle.std.specs.Prelude.{ℕ, List, flat_map}
use Rattle.std.specs.Borrow.{Bor}

-- the bytes of the pieces, one piece after the other
abbrev pub joined_pieces : List (Bor (List ℕ)) → List ℕ
joined_pieces pieces = flat_map (λ piece. piece.now) pieces
