use Rattle.std.proofs.Common.{◌≡◌, ◌+◌, ◌*◌, refl, ap, ◌∙◌, arith}
use Rattle.lane_kernel.specs.PlaneRows.{plane_size}
use Rattle.band_rows.proofs.BlankFields.{blank_field}
use Rattle.band_rows.proofs.field.Field.blank.Goals as goal

pub returns : goal.returns
returns c =
    let stride : c.in-Some.stride ≡ c.args.rows + 2 = omega (arith, c.in-Some.ensures) in
    let size : c.in-Some-plane_size.size ≡ plane_size c.args.columns c.args.rows = c.in-Some-plane_size.ensures ∙ ap (λ s. (c.args.columns + 2) * s + 2) stride in
    let heads = c.in_ok-no_words.ensures in
    let tails = c.in_ok-no_words-2.ensures in
    let cells = c.in_ok-no_words-3.ensures in
    let marks = c.in_ok-no_marks.ensures in
    let spare = c.in_ok-no_marks-2.ensures in
    blank_field c.args.columns c.args.rows _ refl refl stride (heads.long ∙ size) (tails.long ∙ size) (cells.long ∙ size) (marks.long ∙ size) (spare.long ∙ size)
    heads.zero tails.zero cells.zero marks.cleared spare.cleared marks.none marks.unlisted
