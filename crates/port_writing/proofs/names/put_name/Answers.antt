use Rattle.std.proofs.Common.{◌+◌, ℕ, List, ◌++◌, drop, ◌∙◌}
use Rattle.pattern_reading.specs.Escapes.{escaped_byte, is_plain_in_name}
use Rattle.pattern_reading.specs.Spelling.{escaped_name}
use Rattle.lists.proofs.Results.{on_err}
use Rattle.ww_base.specs.Pages.{held}
use Rattle.ww_base.proofs.Steps.{wrote_then, wrote_broke, wrote_to}
use Rattle.ww_base.proofs.LeftPieces.{piece_next}
use Rattle.port_writing.proofs.names.put_name.Goals as goal

pub returns-in_err-put_byte-clause-err : goal.returns-in_err-put_byte-clause-err
returns-in_err-put_byte-clause-err g c =
    let f = λ (rest : List ℕ).
    let next = piece_next (escaped_byte is_plain_in_name) (held c.loop-byte.page) c.args.name.now c.loop-byte.byte-index 0 rest c.loop-byte-test.true in
    wrote_broke (wrote_to next (c.loop-byte.invariant.wrote rest)) (c.in_err-put_byte.ensures.err (escaped_name (drop (c.loop-byte.byte-index + 1) c.args.name.now) ++ rest)) in
    on_err _ f

pub loop-byte-preserved : goal.loop-byte-preserved
loop-byte-preserved g c = record {
  column = c.put_byte.ensures.column ∙ c.loop-byte.invariant.column;
  wrote = λ rest.
      let next = piece_next (escaped_byte is_plain_in_name) (held c.loop-byte.page) c.args.name.now c.loop-byte.byte-index 0 rest c.loop-byte-test.true in
      wrote_then (wrote_to next (c.loop-byte.invariant.wrote rest)) (c.in_ok-put_byte.ensures.ok (escaped_name (drop (c.loop-byte.byte-index + 1) c.args.name.now) ++ rest));
}
