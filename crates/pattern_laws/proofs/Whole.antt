-- A text says one thing as a whole.
use Rattle.std.proofs.Common.{ℕ, ◌≡◌, inl, inr, refl, sym, ◌∙◌, List}
use Rattle.ww_rule.specs.Grid.{Grid}
use Rattle.pattern_reading.specs.declared.faults.PortFaultKind.{PortFaultKind}
use Rattle.pattern_reading.specs.declared.ports.Ports.{Ports}
use Rattle.pattern_reading.specs.Laws.{HasReaderAnswer, HasTableOrFault}
use Rattle.pattern_reading.specs.Pattern.{ReadsWithinLimit}
use Rattle.pattern_reading.specs.PortTable.{HasPortFault, ReadsAsPorts}
use Rattle.pattern_laws.specs.Whole.{Whole, PatternFault, LargeBox, TableFault, HasAnswer, HasOneAnswer, HasTableFault, ReadsWhole}
use Rattle.pattern_reading.proofs.RleLaws.{one_pattern, one_fault}
use Rattle.pattern_reading.proofs.PortLaws.{one_port_fault, no_port_fault_if_read, table_or_fault}
use Rattle.pattern_reading.proofs.Large.{reader_answer, one_reader_answer}

by_table : (text : List ℕ) (grid : Grid) → ReadsWithinLimit text grid → HasTableOrFault text grid.width grid.height → HasAnswer text
by_table text grid h (inl k) = (Whole grid k.0, (h, k.1))
by_table text grid h (inr k) = (TableFault k.0 k.1, (grid, h, k.2))

by_pattern : (text : List ℕ) → HasReaderAnswer text → HasAnswer text
by_pattern text (inl h) = by_table text h.0 h.1 (table_or_fault text h.0.width h.0.height)
by_pattern text (inr (inl h)) = (PatternFault h.0 h.1, h.2)
by_pattern text (inr (inr h)) = (LargeBox h.0 h.1, h.2)

pub answer : (text : List ℕ) → HasAnswer text
answer text = by_pattern text (reader_answer text)

module _ (text : List ℕ) where
  same_grid : (a b : Grid) → ReadsWithinLimit text a → ReadsWithinLimit text b → a ≡ b
  same_grid a b h k = one_pattern text a b h.0 k.0

  one_table_fault : (k k' : PortFaultKind) (line line' : ℕ) → HasTableFault text k line → HasTableFault text k' line' → (k ≡ k') × (line ≡ line')
  one_table_fault k k' line line' h h' =
      let same = same_grid h.0 h'.0 h.1 h'.1 in
      let there : HasPortFault text h'.0.width h'.0.height k line = rw (← same) h.2 in
      one_port_fault text h'.0.width h'.0.height k k' line line' there h'.2

  read_or_fault : (grid : Grid) (ports : Ports) (kind : PortFaultKind) (line : ℕ) → ReadsWhole text grid ports → HasTableFault text kind line → ⊥
  read_or_fault grid ports kind line h k =
      let same = same_grid grid k.0 h.0 k.1 in
      let there : ReadsAsPorts text k.0.width k.0.height ports = rw (← same) h.1 in
      no_port_fault_if_read text k.0.width k.0.height ports kind line there k.2

pub one_answer : (text : List ℕ) → HasOneAnswer text
one_answer text (Whole g p) (Whole g' p') h k =
    let grids = same_grid text g g' h.0 k.0 in
    let tables = h.1.ports_is ∙ sym k.1.ports_is in
    rw (grids, tables) refl
one_answer text (Whole g p) (PatternFault k' l') h k = absurd ((one_reader_answer text).reads_or_fault g k' l' h.0 k)
one_answer text (Whole g p) (LargeBox w' h') h k = absurd ((one_reader_answer text).reads_or_large g w' h' h.0 k)
one_answer text (Whole g p) (TableFault k' l') h k = absurd (read_or_fault text g p k' l' h k)
one_answer text (PatternFault k' l') (Whole g p) h k = absurd ((one_reader_answer text).reads_or_fault g k' l' k.0 h)
one_answer text (PatternFault f l) (PatternFault f' l') h k =
    let same = one_fault text f f' l l' h.0 k.0 in
    rw (same.0, same.1) refl
one_answer text (PatternFault f l) (LargeBox w' h') h k = absurd ((one_reader_answer text).fault_or_large f l w' h' h k)
one_answer text (PatternFault f l) (TableFault f' l') h k = absurd ((one_reader_answer text).reads_or_fault k.0 f l k.1 h)
one_answer text (LargeBox w z) (Whole g p) h k = absurd ((one_reader_answer text).reads_or_large g w z k.0 h)
one_answer text (LargeBox w z) (PatternFault f' l') h k = absurd ((one_reader_answer text).fault_or_large f' l' w z k h)
one_answer text (LargeBox w z) (LargeBox w' z') h k =
    let same = (one_reader_answer text).one_box w z w' z' h.0 k.0 in
    rw (same.0, same.1) refl
one_answer text (LargeBox w z) (TableFault f' l') h k = absurd ((one_reader_answer text).reads_or_large k.0 w z k.1 h)
one_answer text (TableFault f l) (Whole g p) h k = absurd (read_or_fault text g p f l k h)
one_answer text (TableFault f l) (PatternFault f' l') h k = absurd ((one_reader_answer text).reads_or_fault h.0 f' l' h.1 k)
one_answer text (TableFault f l) (LargeBox w' z') h k = absurd ((one_reader_answer text).reads_or_large h.0 w' z' h.1 k)
one_answer text (TableFault f l) (TableFault f' l') h k =
    let same = one_table_fault text f f' l l' h k in
    rw (same.0, same.1) refl
