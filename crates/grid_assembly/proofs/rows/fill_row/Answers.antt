use Rattle.std.proofs.Common.{rules, ◌≡◌, ◌≢◌, sym, ◌∙◌, ap, true, ℕ, ◌+◌, ◌/◌, ◌%◌, ◌<◌, length, arith, get_or-set_other, get_or-set_same, below_more}
use Rattle.ww_rule.specs.declared.pattern.State.TheVariants.{Empty}
use Rattle.plan_layout.specs.Tape.{drawn_edges}
use Rattle.plan_layout.specs.Tape.{drawn_tiling}
use Rattle.plan_layout.specs.Slots.{slot_of}
use Rattle.tile_library.specs.Drawings.{shipped_drawing}
use Rattle.tiling.specs.Tiling.{Lit, drawn_slot}
use Rattle.grid_assembly.proofs.rows.fill_row.Goals as goal
use Rattle.grid_assembly.proofs.rows.fill_row.Goals.{then-place-column, else-place-column, then-is_blank, else-is_blank}

pub loop-i-preserved : goal.loop-i-preserved
loop-i-preserved c =
    let plan = c.args.plan.now in
    let lane = c.args.y / 16 in
    let place = c.args.x + c.loop-i.i in
    let column = c.if-place-column.column in
    let slot = slot_of c.if-place-column.slot in
    let here : column ≡ place / 32 =
    elim c.if-place-column.branch [ then-place-column w ↦ search rules | else-place-column w ↦ search rules ] in
    let block : slot ≡ drawn_tiling plan column lane =
    elim c.if-place-column.branch [ then-place-column w ↦ search rules | else-place-column w ↦ search rules ] in
    let blank : c.if-place-column.is_blank ≡ true → (edges : Lit) (q l x : ℕ) → drawn_slot shipped_drawing edges q l slot x (c.args.y % 16) ≡ Empty =
    elim c.if-place-column.branch [
      | then-place-column w ↦ λ e edges q l x. (
          ap (λ s. drawn_slot shipped_drawing edges q l (slot_of s) x (c.args.y % 16)) w.slot-is
          ∙ w.is_slot_blank-is_blank-then-place-column.ensures (sym w.is_blank-is ∙ e) edges q l x)
      | else-place-column w ↦ λ e edges q l x. (
          ap (λ s. drawn_slot shipped_drawing edges q l (slot_of s) x (c.args.y % 16)) w.slot-is
          ∙ c.loop-i.invariant.blank (sym w.is_blank-is ∙ e) edges q l x)
    ] in
    let shown : c.if-is_blank.cell ≡ drawn_slot shipped_drawing (drawn_edges plan) column lane slot (place % 32) (c.args.y % 16) =
    elim c.if-is_blank.branch [
      | then-is_blank w ↦ w.cell-is ∙ sym (blank (search rules) (drawn_edges plan) column lane (place % 32))
      | else-is_blank w ↦ w.cell-is ∙ w.slot_cell.ensures
    ] in
    let last =
    shown
    ∙ ap (λ s. drawn_slot shipped_drawing (drawn_edges plan) column lane s (place % 32) (c.args.y % 16)) block
    ∙ ap (λ q. drawn_slot shipped_drawing (drawn_edges plan) q lane (drawn_tiling plan q lane) (place % 32) (c.args.y % 16)) here in
    record {
      block = block;
      blank = blank;
      near = omega (arith, here);
      cells = below_more _ _
          (λ k h. (let ne : k ≢ c.loop-i.i = omega arith in rw get_or-set_other (c.loop-i.invariant.cells k h)))
          (let lt : c.loop-i.i < length c.loop-i.row = omega arith in rw get_or-set_same last);
    }
