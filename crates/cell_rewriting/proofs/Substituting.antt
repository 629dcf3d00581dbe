-- Sources that are read in place of cells.
use Rattle.std.proofs.Common.{◌≡◌, refl, sym, ◌∙◌, ap, ℕ, ◌+◌, ◌<◌, ◌≤◌, Bool, true, List, [], ◌++◌, length, get_or, Option, Some, None, replicate, slice_set, arith}
use Rattle.std.proofs.lemmas.Bool.{lt-ltb}
use Rattle.std.proofs.lemmas.List.{length-append, append-nil, append_assoc}
use Rattle.std.proofs.lemmas.Option.{none-some}
use Rattle.cell_core.specs.declared.cells.Src.{Src}
use Rattle.cell_core.specs.declared.cells.Src.TheVariants.{Cell as Made}
use Rattle.cell_core.specs.declared.cells.Cell.{Cell}
use Rattle.cell_core.specs.declared.list.CellList.{CellList}
use Rattle.cell_core.specs.Meaning.{bit_in}
use Rattle.cell_core.specs.Sources.{is_there}
use Rattle.cell_core.proofs.Bits.{appending_keeps_bits}
use Rattle.cell_meaning.specs.Moved.{NewSources, new_source, AreMoved}
use Rattle.cell_core.proofs.Following.{Follows}
use Rattle.cell_core.proofs.Order.{there_more}
use Rattle.cell_meaning.proofs.Moves.{follows, put_moved, all_the_same}
use Rattle.cell_rewriting.specs.Substitution.{AreEqual, AreEquivalent, Extends}

-- ---- cells are added
pub extends_itself : (list : CellList) → Extends list list
extends_itself list = ([], record { inputs = refl; cells = sym (append-nil list.cells); outs = refl; latches = refl; starts = refl; nets = refl })

pub extends_then : (a b c : CellList) → Extends a b → Extends b c → Extends a c
extends_then a b c (more, p) (rest, q) = (
  more ++ rest,
  record {
    inputs = q.inputs ∙ p.inputs;
    cells = q.cells ∙ ap (λ (l : List Cell). l ++ rest) p.cells ∙ append_assoc a.cells more rest;
    outs = q.outs ∙ p.outs;
    latches = q.latches ∙ p.latches;
    starts = q.starts ∙ p.starts;
    nets = q.nets ∙ p.nets;
  },
)

longer : (cells more new : List Cell) → new ≡ cells ++ more → length cells ≤ length new
longer cells more new is = let e : length new ≡ length cells + length more = ap length is ∙ length-append cells more in omega (arith, e)

there_then : (old new : CellList) → Extends old new → (src : Src) → is_there old.inputs (length old.starts) (length old.cells) src ≡ true → is_there new.inputs (length new.starts) (length new.cells) src ≡ true
there_then old new (more, adds) src there =
    ap (λ (n : ℕ). is_there n (length new.starts) (length new.cells) src) adds.inputs
    ∙ ap (λ (l : List Bool). is_there old.inputs (length l) (length new.cells) src) adds.starts
    ∙ there_more old.inputs (length old.starts) (length old.cells) (length new.cells) src (longer old.cells more new.cells adds.cells) there

bit_then : (old new : CellList) → Extends old new → (src : Src) → is_there old.inputs (length old.starts) (length old.cells) src ≡ true → (inputs state : List Bool)
    → bit_in new.cells inputs state src ≡ bit_in old.cells inputs state src
bit_then old new (more, adds) src there inputs state =
    ap (λ (l : List Cell). bit_in l inputs state src) adds.cells ∙ appending_keeps_bits old.cells more inputs state (length old.starts) old.inputs src there

pub equal_then : (old new : CellList) (instead : List (Option Src)) → Extends old new → AreEqual old instead → AreEqual new instead
equal_then old new instead (more, adds) are =
    record {
      within = λ i src e. (let few = are.within i src e in let long = longer old.cells more new.cells adds.cells in omega (arith, few, long));
      there = λ i src e. there_then old new (more, adds) src (are.there i src e);
      bit = λ i src e inputs state.
          bit_then old new (more, adds) (Made i) (lt-ltb i (length old.cells) (are.within i src e)) inputs state
          ∙ are.bit i src e inputs state ∙ sym (bit_then old new (more, adds) src (are.there i src e) inputs state);
    }

-- ---- a cell is replaced
pub none_replaced : (list : CellList) (instead : List (Option Src)) (n : ℕ) → instead ≡ replicate n None → AreEqual list instead
none_replaced list instead n is =
    let none : (i : ℕ) → get_or instead i None ≡ None = λ i. ap (λ (l : List (Option Src)). get_or l i None) is ∙ all_the_same None n i in
    record {
      within = λ i src e. absurd (none-some src (sym (none i) ∙ e));
      there = λ i src e. absurd (none-some src (sym (none i) ∙ e));
      bit = λ i src e. absurd (none-some src (sym (none i) ∙ e));
    }

-- ---- a cell that is replaced goes where that source goes
pub replaced_moved : (list : CellList) (cells : List Cell) (news : NewSources) → AreMoved list cells news → (number : ℕ) (by new : Src) → is_there list.inputs (length list.starts) (length list.cells) by ≡ true
    → AreEquivalent list (Made number) by → new_source news by ≡ Some new → number < length news → AreMoved list cells (slice_set news number (Some new))
replaced_moved list cells news are number by new there bit goes inside =
    let f : Follows list cells by new = follows list cells news are by new goes in
    put_moved list cells news are number new inside (f.there (length list.cells) there) (λ inputs state. f.bit inputs state ∙ sym (bit inputs state))
