use Rattle.std.proofs.Common.{◌≡◌, ◌∙◌, ap, ◌%◌, ◌*◌, ◌/◌, ◌^◌, get_or, slice_set}
use Rattle.std.specs.Int.RustNames.{bit_or}
use Rattle.std.proofs.lemmas.List.{get_or_default}
use Rattle.lane_kernel.specs.Rows.{is_set}
use Rattle.band_rows.proofs.Marks.{set_one}
use Rattle.vcd_write.proofs.packed_bits.set_bit.Goals as goal

pub returns-clause-bits : goal.returns-clause-bits
returns-clause-bits c k =
    let words = c.args.words.now.items in
    let place = c.args.place in
    let read : c.index_mut.result.now ≡ get_or words (place / 64) 0 = c.index_mut.ensures.value ∙ get_or_default words (place / 64) c.index_mut.result.now 0 c.requires in
    ap (λ w. is_set (slice_set words (place / 64) (bit_or w (1 * 2 ^ (place % 64) % 2 ^ 64))) k) read ∙ set_one words place k c.requires
