use Rattle.std.proofs.Common.{ℕ, ◌≡◌, refl, sym, ap, ◌∙◌, Bool, true, false, cond, eqb, get_or, arith}
use Rattle.std.proofs.lemmas.Bool.{eqb-true, eqb-false}
use Rattle.ww_rule.specs.declared.pattern.State.{State}
use Rattle.ww_rule.specs.declared.pattern.State.TheVariants.{Empty}
use Rattle.band_rows.proofs.cell_bits.CellBits.of_cells.Goals as goal

-- a state that is one at place b, and another elsewhere
chosen : (i b : ℕ) {v x y w : State} → v ≡ cond (eqb i b) x y → (i ≡ b → x ≡ w) → ((i ≡ b → ⊥) → y ≡ w) → v ≡ w
chosen i b {v} {x} {y} {w} e here other = go (eqb i b) refl
  where
    go : (t : Bool) → eqb i b ≡ t → v ≡ w
    go true q = e ∙ ap (λ t. cond t x y) q ∙ here (eqb-true i b q)
    go false q = e ∙ ap (λ t. cond t x y) q ∙ other (eqb-false i b q)

pub loop-b-init : goal.loop-b-init
loop-b-init c =
    let e = c.empty-bits.ensures in
    record { on_cells = e.on_cells; done = λ i lt. absurd (omega (arith, lt)); left = λ i le. e.states i }

pub with_cell-bits-requires : goal.with_cell-bits-requires
with_cell-bits-requires c =
    let v = c.loop-b.invariant in
    let few = c.requires in
    record { bit = omega (arith, few); empty = v.left c.loop-b.b (omega arith); on_cells = v.on_cells }

pub loop-b-preserved : goal.loop-b-preserved
loop-b-preserved c =
    let b = c.loop-b.b in
    let v = c.loop-b.invariant in
    let e = c.with_cell-bits.ensures in
    record {
      on_cells = e.on_cells;
      done = λ i lt. chosen i b (e.states i) (λ q. ap (λ k. get_or c.args.cells.now k Empty) (sym q)) (λ ne. v.done i (omega (arith, lt, ne)));
      left = λ i le. chosen i b (e.states i) (λ q. absurd (omega (arith, q, le))) (λ ne. v.left i (omega (arith, le)));
    }
