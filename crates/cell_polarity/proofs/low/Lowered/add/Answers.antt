use Rattle.std.proofs.Common.{rules, ◌≡◌, sym, subst, ◌++◌, [], ◌∷◌, List, Bool, get_or}
use Rattle.std.proofs.lemmas.Option.{get_or_from_slice_get}
use Rattle.cell_core.specs.declared.cells.Src.{Src}
use Rattle.cell_core.specs.declared.cells.Src.TheVariants.{Input}
use Rattle.cell_core.specs.declared.cells.Cell.{Cell}
use Rattle.cell_core.specs.declared.cells.Cell.TheVariants.{Or}
use Rattle.cell_core.specs.Meaning.{cell_bit}
use Rattle.cell_polarity.specs.Low.{ReadLow, cells_in, low_bit, AnswersLow}
use Rattle.cell_polarity.proofs.Lowering.{read_next, low_more}
use Rattle.cell_polarity.proofs.low.Lowered.add.Goals as goal

-- what a read of the list names where there is nothing
none : Cell
none = Or (Input 0) (Input 0)

pub cell_low-requires : goal.cell_low-requires
unfolding none
cell_low-requires c =
    let old = c.args.old.now in
    let self = c.args.self.now in
    let cell = c.get-cell.result.now in
    subst (λ (lows : List Src). ReadLow self.list lows cell) (sym c.deref-3.ensures.value)
    (subst (ReadLow self.list self.lows.items) (get_or_from_slice_get old.cells c.args.number cell none c.get-cell.ensures)
    (read_next old c.args.number self.zeros.items self.list self.lows.items c.requires.low none c.requires.number))

pub returns : goal.returns
unfolding none
returns c =
    let old = c.args.old.now in
    let n = c.args.number in
    let list = c.args.self.now.list in
    let zeros = c.args.self.now.zeros.items in
    let lows = c.args.self.now.lows.items in
    let cell = c.get-cell.result.now in
    let is : get_or old.cells n none ≡ cell = get_or_from_slice_get old.cells n cell none c.get-cell.ensures in
    let answers : AnswersLow list c.cell_low.new.list (cells_in zeros cell) c.in_ok-low.low (low_bit zeros lows cell list.cells) =
    subst (λ (ls : List Src). AnswersLow list c.cell_low.new.list (cells_in zeros cell) c.in_ok-low.low (low_bit zeros ls cell list.cells)) c.deref-3.ensures.value
    (subst (λ (zs : List Bool). AnswersLow list c.cell_low.new.list (cells_in zs cell) c.in_ok-low.low (low_bit zs c.deref-3.result.now cell list.cells)) c.deref-2.ensures.value c.in_ok-low.ensures) in
    let zero : c.cell_zero-zero.result ≡ cell_bit [] [] zeros cell =
    subst (λ (zs : List Bool). c.cell_zero-zero.result ≡ cell_bit [] [] zs cell) c.deref.ensures.value c.cell_zero-zero.ensures in
    let zeros_are : c.push.new.self.items ≡ zeros ++ c.cell_zero-zero.result ∷ [] = search rules in
    let lows_are : c.push-2.new.self.items ≡ lows ++ c.in_ok-low.low ∷ [] = search rules in
    low_more old n zeros list lows c.requires.low c.cell_low.new.list cell none c.in_ok-low.low c.cell_zero-zero.result c.push.new.self.items c.push-2.new.self.items c.requires.number is answers zero zeros_are lows_are
