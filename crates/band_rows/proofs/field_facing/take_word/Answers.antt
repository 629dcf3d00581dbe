use Rattle.std.proofs.Common.{◌∙◌, arith}
use Rattle.band_rows.proofs.FacedFields.{taken_marked}
use Rattle.band_rows.proofs.field_facing.take_word.Goals as goal

pub returns-then-marks-len-clause-marks : goal.returns-then-marks-len-clause-marks
returns-then-marks-len-clause-marks c =
    let m = c.requires.marks in
    let full = c.if-marks-len.true in
    let n = c.len.ensures in
    record {
      long = m.long;
      listed = m.listed;
      marked = λ room. absurd (omega (arith, room, full, n));
    }

pub returns-clause-marks : goal.returns-clause-marks
returns-clause-marks c =
    let a = c.args in
    let free = a.free.now in
    let q = c.requires in
    let m = q.marks in
    let inner = q.inner in
    let to = inner.to in
    let long = q.heads in
    let not_full = c.if-marks-len.false in
    let n = c.len.ensures in
    let le = m.listed.within in
    let e = c.tell_word.ensures in
    record {
      long = e.long ∙ m.long;
      listed = e.listed;
      marked = λ room.
          taken_marked free a.heads.now a.marks.now.bytes.items a.i a.word c.tell_word.new.marks.bytes.items
          (omega (arith, to, long)) q.empty (m.marked (omega (arith, not_full, n, le))) e.more e.told;
    }
