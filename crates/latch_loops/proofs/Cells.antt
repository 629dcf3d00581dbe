-- A closed plan computes what its program computes, and a padded plan what the plan computes.
use Rattle.std.proofs.Common.{◌≡◌, ◌∙◌, ap, ap₂, ◌+◌, ◌-◌, ℕ, true, List, Bool, Option, length, map}
use Rattle.std.proofs.lemmas.List.{length-append}
use Rattle.lists.proofs.Numbers.{length_if}
use Rattle.lane_core.specs.declared.plan.NetPlace.{NetPlace}
use Rattle.lane_core.specs.Instrs.{bit_on, after_instrs}
use Rattle.lane_core.specs.Columns.{after_columns}
use Rattle.lane_core.specs.Entering.{first_loop_lane, entry_bits, leaving, bits_after}
use Rattle.cell_core.specs.declared.list.CellList.{CellList}
use Rattle.cell_core.specs.Loops.{names_one, loop_state, loop_count}
use Rattle.cell_meaning.specs.Computes.{ComputeOnLanes}
use Rattle.latch_loops.specs.Closed.{ClosingKeepsCells}
use Rattle.latch_loops.specs.Padded.{PaddingKeepsCells}

-- the same bits at the end and at the places of nets compute the same
still_compute : (list : CellList) (free free' : ℕ) (ins ins' outs outs' : List ℕ) (nets nets' : List NetPlace) (after after' : Option ℕ → List Bool → List Bool) (end end' : List Bool → List Bool)
    → free' ≡ free → ins' ≡ ins → outs' ≡ outs → ((bits : List Bool) → end' bits ≡ end bits)
    → ((bits : List Bool) → map (λ place. bit_on (after' place.after bits) place.lane) nets' ≡ map (λ place. bit_on (after place.after bits) place.lane) nets)
    → ComputeOnLanes list free ins outs nets after end → ComputeOnLanes list free' ins' outs' nets' after' end'
still_compute list free free' ins ins' outs outs' nets nets' after after' end end' lanes inputs_are outs_are ends places k = record {
  outs_have = λ inputs state fits. ap₂ (λ bits lanes. map (bit_on bits) lanes) (same_end inputs state) outs_are ∙ k.outs_have inputs state fits;
  loops_leave = λ inputs state fits. ap₂ leaving lanes (same_end inputs state) ∙ k.loops_leave inputs state fits;
  nets_have = λ inputs state fits.
      places (entry_bits free' ins' inputs (loop_state list state))
      ∙ ap (λ bits. map (λ place. bit_on (after place.after bits) place.lane) nets) (same_entry inputs state)
      ∙ k.nets_have inputs state fits;
}
  where
    same_entry : (inputs state : List Bool) → entry_bits free' ins' inputs (loop_state list state) ≡ entry_bits free ins inputs (loop_state list state)
    same_entry inputs state = ap₂ (λ n on. entry_bits n on inputs (loop_state list state)) lanes inputs_are

    same_end : (inputs state : List Bool) → end' (entry_bits free' ins' inputs (loop_state list state)) ≡ end (entry_bits free ins inputs (loop_state list state))
    same_end inputs state = ends _ ∙ ap end (same_entry inputs state)

loops_many : (list : CellList) → length (loop_state list list.starts) ≡ loop_count list
loops_many list = length-append list.starts _ ∙ ap (λ n. length list.starts + n) (length_if (names_one list) true)

pub closing_keeps_cells : ClosingKeepsCells
closing_keeps_cells list program columns contexts plan c d k = record {
  loops = c.latches ∙ ap length k.starts ∙ loops_many list;
  inputs = ap length c.ins ∙ k.inputs;
  bits = still_compute list (first_loop_lane program.lanes (length program.latches)) (first_loop_lane plan.lanes plan.latches) program.ins plan.ins program.outs plan.outs program.nets plan.nets
      (bits_after after_instrs program.instrs) (bits_after after_columns plan.columns) (after_instrs program.instrs) (after_columns plan.columns)
      (ap₂ (λ a b. a - b) c.lanes c.latches) c.ins c.outs d.end d.nets k.bits;
}

pub padding_keeps_cells : PaddingKeepsCells
padding_keeps_cells list size plan padded p d k = record {
  loops = p.latches ∙ k.loops;
  inputs = ap length p.ins ∙ k.inputs;
  bits = still_compute list (first_loop_lane plan.lanes plan.latches) (first_loop_lane padded.lanes padded.latches) plan.ins padded.ins plan.outs padded.outs plan.nets padded.nets
      (bits_after after_columns plan.columns) (bits_after after_columns padded.columns) (after_columns plan.columns) (after_columns padded.columns)
      (ap₂ (λ a b. a - b) p.lanes p.latches) p.ins p.outs d.end d.nets k.bits;
}
