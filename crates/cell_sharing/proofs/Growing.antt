-- Lists that grow, and what stays of them.
use Rattle.std.proofs.Common.{◌≡◌, refl, sym, ◌∙◌, ap, ap₂, ℕ, ◌+◌, ◌≤◌, Bool, true, false, ◌&&◌, ◌||◌, not, List, [], ◌∷◌, ◌++◌, length, ◌⊎◌, inl, inr, ⊎_elim, arith, append_assoc}
use Rattle.std.proofs.lemmas.Bool.{or_cases, and_parts, true≢false, lt-ltb}
use Rattle.std.proofs.lemmas.List.{length-append, length_push, append-nil}
use Rattle.cell_core.specs.declared.cells.Src.{Src}
use Rattle.cell_core.specs.declared.cells.Src.TheVariants.{Cell as Made}
use Rattle.cell_core.specs.declared.cells.Cell.{Cell}
use Rattle.cell_core.specs.declared.list.CellList.{CellList}
use Rattle.cell_core.specs.Sources.{is_there, are_there, is_one, reads_one, read_one}
use Rattle.cell_core.specs.Meaning.{cell_bit, cell_bits, bit_in}
use Rattle.cell_core.specs.Adding.{Adds}
use Rattle.cell_core.proofs.Bits.{appending_keeps_bits, pushed_bit}
use Rattle.cell_core.proofs.Order.{there_more, all_there_more}
use Rattle.cell_sharing.specs.Grown.{HasSource, HasSources, bits_of, Grows, Answers}
use Rattle.std.proofs.lemmas.Bool.{or_right as or_right'}
use Rattle.std.proofs.Math.Bool.{or-false}

-- ---- some cell of two lists reads constant 1
any-append : (cells more : List Cell) → read_one (cells ++ more) ≡ true → (read_one cells ≡ true) ⊎ (read_one more ≡ true)
any-append [] more h = inr h
any-append (cell ∷ cells) more h =
    ⊎_elim
    (λ here. inl (ap (λ b. b || read_one cells) here))
    (λ rest. ⊎_elim (λ left. inl (or_right' (reads_one cell) (read_one cells) left)) inr (any-append cells more rest))
    (or_cases (reads_one cell) (read_one (cells ++ more)) h)

-- ---- a list grows by what is added and then added
pub grows_refl : (list : CellList) (reason : Type 0) → Grows list list 0 reason
grows_refl list reason =
    record {
      more = [];
      adds = record { inputs = refl; cells = sym (append-nil list.cells); outs = refl; latches = refl; starts = refl; nets = refl };
      few = omega arith;
      ones = λ e. absurd (true≢false (sym e));
    }

pub grows : (a b c : CellList) (n m k : ℕ) (P Q R : Type 0) → Grows a b n P → Grows b c m Q → (P → R) → (Q → R) → n + m ≤ k → Grows a c k R
grows a b c n m k P Q R first then p q fits =
    record {
      more = first.more ++ then.more;
      adds = record {
        inputs = then.adds.inputs ∙ first.adds.inputs;
        cells = then.adds.cells ∙ ap (λ l. l ++ then.more) first.adds.cells ∙ append_assoc a.cells first.more then.more;
        outs = then.adds.outs ∙ first.adds.outs;
        latches = then.adds.latches ∙ first.adds.latches;
        starts = then.adds.starts ∙ first.adds.starts;
        nets = then.adds.nets ∙ first.adds.nets;
      };
      few = omega (arith, length-append first.more then.more, first.few, then.few);
      ones = λ e. ⊎_elim (λ h. p (first.ones h)) (λ h. q (then.ones h)) (any-append first.more then.more e);
    }

-- ---- what is there stays there, with its bit
longer : (old new : CellList) (n : ℕ) (P : Type 0) → Grows old new n P → length old.cells ≤ length new.cells
longer old new n P g = let e : length new.cells ≡ length old.cells + length g.more = ap length g.adds.cells ∙ length-append old.cells g.more in omega arith

pub there_after : (old new : CellList) (n : ℕ) (P : Type 0) → Grows old new n P → (src : Src) → HasSource old src → HasSource new src
there_after old new n P g src there =
    ap₂ (λ i l. is_there i l (length new.cells) src) g.adds.inputs (ap length g.adds.starts)
    ∙ there_more old.inputs (length old.starts) (length old.cells) (length new.cells) src (longer old new n P g) there

pub all_there_after : (old new : CellList) (n : ℕ) (P : Type 0) → Grows old new n P → (srcs : List Src) → HasSources old srcs → HasSources new srcs
all_there_after old new n P g srcs there =
    ap₂ (λ i l. are_there i l (length new.cells) srcs) g.adds.inputs (ap length g.adds.starts)
    ∙ all_there_more old.inputs (length old.starts) (length old.cells) (length new.cells) srcs (longer old new n P g) there

pub bit_after : (old new : CellList) (n : ℕ) (P : Type 0) → Grows old new n P → (src : Src) → HasSource old src → (inputs state : List Bool)
    → bit_in new.cells inputs state src ≡ bit_in old.cells inputs state src
bit_after old new n P g src there inputs state =
    ap (λ cells. bit_in cells inputs state src) g.adds.cells ∙ appending_keeps_bits old.cells g.more inputs state (length old.starts) old.inputs src there

pub bits_after : (old new : CellList) (n : ℕ) (P : Type 0) → Grows old new n P → (srcs : List Src) → HasSources old srcs → (inputs state : List Bool)
    → bits_of new srcs inputs state ≡ bits_of old srcs inputs state
bits_after old new n P g [] there inputs state = refl
bits_after old new n P g (src ∷ srcs) there inputs state =
    let parts : HasSource old src × HasSources old srcs = and_parts _ _ there in
    ap₂ (λ (b : Bool) (bs : List Bool). b ∷ bs) (bit_after old new n P g src parts.0 inputs state) (bits_after old new n P g srcs parts.1 inputs state)

-- ---- one cell is added
pub added : (old new : CellList) (cell : Cell) (n : ℕ) → Adds old new (cell ∷ []) → length old.cells ≡ n
    → Answers old new 1 (reads_one cell ≡ true) (Made n) (λ inputs state. cell_bit inputs state (cell_bits inputs state old.cells) cell)
added old new cell n adds long =
    record {
      grows = record { more = cell ∷ []; adds = adds; few = omega arith; ones = λ e. sym (or-false (reads_one cell)) ∙ e };
      there = lt-ltb n (length new.cells) (let e : length new.cells ≡ length old.cells + 1 = ap length adds.cells ∙ length_push old.cells cell in omega arith);
      one = λ e. absurd (true≢false (sym e));
      bit = λ inputs state. ap (λ cells. bit_in cells inputs state (Made n)) adds.cells ∙ pushed_bit inputs state old.cells cell n long;
    }

-- ---- an answer, and then one made of it
pub answers : (a b c : CellList) (n m k : ℕ) (P Q R : Type 0) (src : Src) (wanted : List Bool → List Bool → Bool)
    → Grows a b n P → Answers b c m Q src wanted → (P → R) → (Q → R) → n + m ≤ k
    → (meant : List Bool → List Bool → Bool) → ((inputs state : List Bool) → wanted inputs state ≡ meant inputs state) → Answers a c k R src meant
answers a b c n m k P Q R src wanted first then p q fits meant same =
    record {
      grows = grows a b c n m k P Q R first then.grows p q fits;
      there = then.there;
      one = λ e. q (then.one e);
      bit = λ inputs state. then.bit inputs state ∙ same inputs state;
    }

-- ---- both: the first without the first without the second
both_bits : (a b : Bool) → (a && not (a && not b)) ≡ (a && b)
both_bits true true = refl
both_bits true false = refl
both_bits false true = refl
both_bits false false = refl

pub both : (l l' l'' : CellList) (a b rest src : Src) → HasSource l a
    → Answers l l' 1 ((is_one a ≡ true) ⊎ (is_one b ≡ true)) rest (λ inputs state. bit_in l.cells inputs state a && not (bit_in l.cells inputs state b))
    → Answers l' l'' 1 ((is_one a ≡ true) ⊎ (is_one rest ≡ true)) src (λ inputs state. bit_in l'.cells inputs state a && not (bit_in l'.cells inputs state rest))
    → Answers l l'' 2 ((is_one a ≡ true) ⊎ (is_one b ≡ true)) src (λ inputs state. bit_in l.cells inputs state a && bit_in l.cells inputs state b)
both l l' l'' a b rest src there first then =
    answers l l' l'' 1 1 2 _ _ _ src _ first.grows then (λ p. p) (λ q. ⊎_elim inl first.one q) (omega arith) _ (λ inputs state.
    ap₂ (λ x y. x && not y) (bit_after l l' 1 _ first.grows a there inputs state) (first.bit inputs state) ∙ both_bits (bit_in l.cells inputs state a) (bit_in l.cells inputs state b))
