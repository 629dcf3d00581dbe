use Rattle.std.proofs.Common.{◌≤◌, ◌<◌, ◌/◌, ◌∙◌, sym, subst, ap, inl, inr, pos, length, ℕ}
use Rattle.band_core.specs.Bands.{IsCellOf}
use Rattle.band_core.proofs.Cells.{is_cell, is_band}
use Rattle.drive.specs.Runs.{evolution}
use Rattle.drive.proofs.Still.{empty_outside}
use Rattle.drive.proofs.run.Run.state_in_bands.Goals.{then-x-self-via-then-x-self, then-x-self-via-else-x-self+then-y-self}
use Rattle.drive.proofs.run.Run.state_in_bands.Goals as goal

pub returns-then-x-self : goal.returns-then-x-self
returns-then-x-self c =
    let run = c.args.self.now in
    let is = c.requires in
    elim c.then-x-self.branch [
      | then-x-self-via-then-x-self w ↦ sym (empty_outside run.bands run.generation c.args.x c.args.y is.whole (inl (subst (λ (n : ℕ). n ≤ c.args.x) is.width w.if-x-self.true)))
      | then-x-self-via-else-x-self+then-y-self w ↦ sym (empty_outside run.bands run.generation c.args.x c.args.y is.whole (inr (subst (λ (n : ℕ). n ≤ c.args.y) is.rows w.if-y-self.true)))
    ]

pub cell-requires : goal.cell-requires
cell-requires c =
    let run = c.args.self.now in
    let is = c.requires in
    let column = subst (λ (n : ℕ). c.args.x < n) is.width c.if-x-self.false in
    let row = subst (λ (n : ℕ). c.args.y < n) is.rows c.if-y-self.false in
    subst (λ (h : ℕ). IsCellOf run.bands (c.args.y / h) c.args.x c.args.y) is.height (is_cell run.bands is.whole c.args.y c.args.x column row)

pub returns : goal.returns
returns c =
    let run = c.args.self.now in
    let is = c.requires in
    let row = subst (λ (n : ℕ). c.args.y < n) is.rows c.if-y-self.false in
    c.cell.ensures ∙ ap (λ (g : ℕ). evolution run.bands g (pos c.args.x) (pos c.args.y)) (is.at (c.args.y / run.band_rows) (subst (λ (h : ℕ). c.args.y / h < length run.bands.generations) is.height (is_band run.bands is.whole c.args.y row)))
