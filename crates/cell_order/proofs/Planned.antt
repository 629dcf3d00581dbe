-- A plan that computes a list computes each that computes alike.
use Rattle.std.proofs.Common.{◌≡◌, sym, ◌∙◌, ap, ap₂, ◌+◌, true, cond, Bool, List, [], ◌∷◌, ◌++◌, length, map}
use Rattle.cell_core.specs.declared.list.CellList.{CellList}
use Rattle.cell_core.specs.Meaning.{bit_of, Fits}
use Rattle.cell_core.specs.Loops.{loop_state, loop_count}
use Rattle.cell_core.specs.declared.cells.Src.{Src}
use Rattle.std.proofs.lemmas.List.{length-map}
use Rattle.lane_core.specs.Instrs.{bit_on}
use Rattle.lane_core.specs.Columns.{after_columns}
use Rattle.lane_core.specs.Entering.{first_loop_lane, entry_bits, leaving, bits_after}
use Rattle.cell_order.specs.Alike.{ComputeAlike, AlikeIsPlanned}

same_loops : (a b : CellList) → ComputeAlike a b → (state : List Bool) → loop_state a state ≡ loop_state b state
same_loops a b alike state = ap (λ one. state ++ cond one (true ∷ []) []) (sym alike.one)

same_count : (a b : CellList) → ComputeAlike a b → loop_count b ≡ loop_count a
same_count a b alike = ap₂ (λ (s : List Bool) (one : Bool). length s + cond one 1 0) alike.starts alike.one

-- the loops start alike
pub loops_start_alike : (a b : CellList) → ComputeAlike a b → loop_state b b.starts ≡ loop_state a a.starts
loops_start_alike a b alike = sym (same_loops a b alike b.starts) ∙ ap (loop_state a) alike.starts

pub alike_is_planned : AlikeIsPlanned
alike_is_planned a b plan alike by =
    let free = first_loop_lane plan.lanes plan.latches in
    let fits : (inputs state : List Bool) → Fits a inputs state → Fits b inputs state =
    λ inputs state f. record { row = f.row ∙ sym alike.inputs; latches = f.latches ∙ ap length (sym alike.starts) } in
    record {
      loops = by.loops ∙ same_count a b alike;
      inputs = by.inputs ∙ alike.inputs;
      bits = record {
        outs_have = λ inputs state f.
            ap (λ loops. map (bit_on (after_columns plan.columns (entry_bits free plan.ins inputs loops))) plan.outs) (same_loops a b alike state)
            ∙ by.bits.outs_have inputs state (fits inputs state f) ∙ alike.outs inputs state;
        loops_leave = λ inputs state f.
            ap (λ loops. leaving free (after_columns plan.columns (entry_bits free plan.ins inputs loops))) (same_loops a b alike state)
            ∙ by.bits.loops_leave inputs state (fits inputs state f)
            ∙ sym (same_loops a b alike (map (bit_of b inputs state) b.latches)) ∙ ap (loop_state a) (alike.latches inputs state);
        nets_have = λ inputs state f.
            ap (λ loops. map (λ place. bit_on (bits_after after_columns plan.columns place.after (entry_bits free plan.ins inputs loops)) place.lane) plan.nets) (same_loops a b alike state)
            ∙ by.bits.nets_have inputs state (fits inputs state f) ∙ alike.nets inputs state;
      };
    }

-- ---- what is counted of a list
pub record CountAlike (a b : CellList) : Type 0 where
  pub loops : loop_count b ≡ loop_count a
  pub outs : length b.outs ≡ length a.outs
  pub nets : length b.nets ≡ length a.nets

-- sources whose bits are the same list are as many
as_many : (b a : List Src) (f g : Src → Bool) → map f b ≡ map g a → length b ≡ length a
as_many b a f g e = sym (length-map b f) ∙ ap length e ∙ length-map a g

pub count_alike : (a b : CellList) → ComputeAlike a b → CountAlike a b
count_alike a b alike =
    record {
      loops = same_count a b alike;
      outs = as_many b.outs a.outs (bit_of b [] []) (bit_of a [] []) (alike.outs [] []);
      nets = as_many b.nets a.nets (bit_of b [] []) (bit_of a [] []) (alike.nets [] []);
    }
