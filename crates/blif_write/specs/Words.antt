-- Words and lines that are written.
use Rattle.std.specs.Prelude.{ℕ, List, [], ◌∷◌, flat_map, codes}
use Rattle.netlist_core.specs.Names.{Name}
use Rattle.cell_core.specs.declared.cells.Src.{Src}
use Rattle.blif_text.specs.declared.logical.Logical.{Logical}
use Rattle.lifted_designs.specs.Names.{zero_name, loop_name, gate_name, source_name}
use Rattle.lifted_designs.specs.Lines.{worded_line, row}
use Rattle.blif_write.specs.declared.lift.Lift.{Lift}
use Rattle.blif_write.specs.declared.word.LineWord.{LineWord}
use Rattle.blif_write.specs.declared.word.LineWord.TheVariants.{Bytes, Net, Loop, Gate}
use Rattle.blif_write.specs.Marks.{mark_after}

abbrev pub mark_in : Lift → List ℕ
mark_in lift = mark_after lift.leading

abbrev pub source_in : Lift → Src → Name
source_in lift source = source_name (mark_in lift) lift.ins source

-- the bytes of a word
abbrev pub word_in : Lift → LineWord → List ℕ
word_in lift (Bytes bytes) = bytes.now
word_in lift (Net source) = source_in lift source
word_in lift (Loop number) = loop_name (mark_in lift) number
word_in lift (Gate number) = gate_name (mark_in lift) number

-- the words of the items, each after a space
abbrev pub words_after_spaces : {X : Type 0} → (X → List ℕ) → List X → List ℕ
words_after_spaces word items = flat_map (λ item. 32 ∷ word item) items

-- the lines of an output, and then other lines
abbrev pub output_then : Lift → ℕ → Src → Name → List Logical → List Logical
output_then lift n source name more =
    worded_line n (codes ".names" ∷ source_in lift source ∷ name ∷ [])
    ∷ row n (codes "1") (codes "1") ∷ more

-- the lines of the model, of its inputs and outputs, and of constant 0, and then other lines
abbrev pub head_then : Lift → List Logical → List Logical
head_then lift more =
    worded_line 1 (codes ".model" ∷ codes "lifted" ∷ [])
    ∷ worded_line 2 (codes ".inputs" ∷ lift.ins)
    ∷ worded_line 3 (codes ".outputs" ∷ lift.outs)
    ∷ worded_line 4 (codes ".names" ∷ zero_name (mark_in lift) ∷ [])
    ∷ more
