use Rattle.std.proofs.Common.{◌≡◌, drop}
use Rattle.std.specs.List.{list_all}
use Rattle.blif_text.specs.LineFaults.{is_literal}
use Rattle.blif_reader.proofs.rows.are_literals.Given as goal

abbrev pub invariant-loop-byte : goal.invariant-loop-byte
invariant-loop-byte l = list_all is_literal (drop l.byte-index l.word) ≡ list_all is_literal l.word
