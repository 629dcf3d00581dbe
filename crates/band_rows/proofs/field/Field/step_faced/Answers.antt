use Rattle.std.proofs.Common.{◌≡◌, ◌+◌, ◌-◌, refl, sym, subst, ◌∙◌, inl, inr, arith}
use Rattle.lane_kernel.specs.Marked.{AreOn}
use Rattle.lane_kernel.proofs.PlaneRows.{length_row}
use Rattle.band_rows.specs.Facing.{words_in}
use Rattle.band_rows.specs.Fields.{HasForgotten, HasTaken}
use Rattle.band_rows.proofs.FacedFields.{stepped_between}
use Rattle.band_rows.proofs.field.Field.step_faced.Goals as goal

pub face-requires : goal.face-requires
face-requires c = record { is = c.requires.closed.is; narrow = c.requires.above; beside = inl refl }

pub face-requires-2 : goal.face-requires-2
face-requires-2 c =
    let size = c.face.ensures.size in
    let columns = size.columns in
    let rows = size.rows in
    let tall = c.requires.closed.is.stride in
    let narrow = c.requires.below in
    record { is = c.face.ensures.is; narrow = omega (arith, columns, narrow); beside = inr (omega (arith, rows, tall)) }

pub step-requires : goal.step-requires
step-requires c =
    let one = c.face.ensures in
    let two = c.face-2.ensures in
    record {
      is = two.is;
      on_cells = subst (λ l. AreOn l c.face-2.new.self.tails.items) (sym (two.cells ∙ one.cells)) (subst (AreOn c.args.self.now.cells.items) (sym (two.tails ∙ one.tails)) c.requires.closed.tails);
    }

pub forget-requires : goal.forget-requires
forget-requires c =
    let one = c.face.ensures.size.columns in
    let two = c.face-2.ensures.size.columns in
    let three = c.step.ensures.stepped.size.columns in
    let narrow = c.requires.above in
    record { is = c.step.ensures.stepped.is; narrow = omega (arith, one, two, three, narrow); beside = inl refl }

pub forget-requires-2 : goal.forget-requires-2
forget-requires-2 c =
    let one = c.face.ensures.size in
    let two = c.face-2.ensures.size in
    let three = c.step.ensures.stepped.size in
    let four = c.forget.ensures.size in
    let columns = four.columns ∙ three.columns ∙ two.columns ∙ one.columns in
    let rows = four.rows ∙ three.rows ∙ two.rows ∙ one.rows in
    let tall = c.requires.closed.is.stride in
    let narrow = c.requires.below in
    record { is = c.forget.ensures.is; narrow = omega (arith, columns, narrow); beside = inr (omega (arith, rows, tall)) }

pub returns : goal.returns
returns c =
    let self = c.args.self.now in
    let q = c.requires in
    let tall = q.closed.is.stride in
    let r : self.stride - 1 ≡ self.rows + 1 = omega (arith, tall) in
    let above = c.args.facing.now.above in
    let below = c.args.facing.now.below in
    stepped_between (words_in above) (words_in below) above.columns below.columns self
    c.face.new.self c.face-2.new.self c.step.new.self c.forget.new.self c.forget-2.new.self q.closed
    (length_row above.columns above.stride above.plane.now above.r) (length_row below.columns below.stride below.plane.now below.r)
    q.above q.below c.face.ensures
    (subst (λ r. HasTaken (words_in below) r c.face.new.self c.face-2.new.self) r c.face-2.ensures)
    c.step.ensures.stepped c.forget.ensures
    (subst (λ r. HasForgotten below.columns r c.forget.new.self c.forget-2.new.self) r c.forget-2.ensures)
    c.step.ensures.shows
