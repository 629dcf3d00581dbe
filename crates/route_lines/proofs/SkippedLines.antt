-- Lines of gates and wires before a text change nothing in what it reads as.
use Rattle.std.proofs.Common.{ℕ, suc, ◌+◌, ◌≡◌, inl, inr, refl, sym, ap, ◌∙◌, List, [], ◌∷◌, ◌++◌, map, flat_map, take, ◌==◌, append_assoc, arith}
use Rattle.std.specs.Prelude.{Option, Some, None, codes, option_map, take_while, filter_map}
use Rattle.std.specs.List.{AllByRecursion, prefix_len, cons_option, slice_split}
use Rattle.std.specs.Str.{byte}
use Rattle.ww_rule.specs.Grid.{Grid}
use Rattle.pattern_reading.specs.declared.faults.PortFaultKind.{PortFaultKind}
use Rattle.pattern_reading.specs.declared.ports.Ports.{Ports}
use Rattle.pattern_reading.specs.declared.ports.TableVersion.{TableVersion}
use Rattle.pattern_reading.specs.Lines.{Line, lines_of}
use Rattle.pattern_reading.specs.Numbers.{◌>>=◌}
use Rattle.pattern_reading.specs.Header.{is_skipped, lines_before_header}
use Rattle.pattern_reading.specs.PortLines.{PortForm, TableLine, form_of_fields, table_entry, table_line, table_of, table_version, version_of_entries}
use Rattle.pattern_reading.specs.Pattern.{ReadsAsPattern}
use Rattle.pattern_reading.specs.PortTable.{PortFaultAt, ReadsAsPorts, fault_of_form, faults_after, forms_of, ports_of}
use Rattle.pattern_reading.specs.Laws.{later_by}
use Rattle.pattern_reading.proofs.LineText.{first_line}
use Rattle.pattern_reading.proofs.Later.{HasCommentBefore, comment_line, filter_map_later, filter_map_mapped, pattern_later, take_while_mapped}
use Rattle.route_lines.specs.GateLines.{AreGateLines, IsGateLine, IsOfGate, KeepsPattern, KeepsPorts}

-- A line of a port table after one more line.

abbrev later_entry : TableLine → TableLine
later_entry line = record line { number = 1 + line.number }

abbrev later_fault : PortFaultAt → PortFaultAt
later_fault fault = record fault { line = 1 + fault.line }

line_later : (version : TableVersion) (line : Line) → table_line version (later_by 1 line) ≡ option_map later_entry (table_line version line)
line_later version line = by_entry (table_entry line)
  where
    by_entry : (o : Option (List ℕ)) → (o >>= λ entry. Some (record { number = 1 + line.number; form = form_of_fields version (slice_split (λ b. b == byte " ") entry) })) ≡ option_map later_entry (o >>= λ entry. Some (record { number = line.number; form = form_of_fields version (slice_split (λ b. b == byte " ") entry) }))
    by_entry None = refl
    by_entry (Some entry) = refl

fault_later : (number : ℕ) (o : Option PortFaultKind) (faults : List PortFaultAt) → cons_option (o >>= λ kind. Some (record { kind = kind; line = 1 + number })) (map later_fault faults) ≡ map later_fault (cons_option (o >>= λ kind. Some (record { kind = kind; line = number })) faults)
fault_later number None faults = refl
fault_later number (Some kind) faults = refl

faults_later : (width height : ℕ) (before : List (Option PortForm)) (lines : List TableLine) → faults_after width height before (map later_entry lines) ≡ map later_fault (faults_after width height before lines)
faults_later width height before [] = refl
faults_later width height before (line ∷ lines) =
    ap (cons_option (fault_of_form width height before line.form >>= λ kind. Some (record { kind = kind; line = 1 + line.number }))) (faults_later width height (before ++ line.form ∷ []) lines)
    ∙ fault_later line.number (fault_of_form width height before line.form) _

take_past : (n : ℕ) (line : Line) (lines : List Line) → take (1 + n) (line ∷ lines) ≡ line ∷ take n lines
take_past n line lines = let shifted : 1 + n ≡ suc n = omega arith in rw shifted refl

entry_none : (version : TableVersion) (line : Line) → table_entry line ≡ None → table_line version line ≡ None
entry_none version line none = rw none refl

-- a text whose lines are a comment that is no line of a table, and those of another text
module _ (more bytes text : List ℕ) (e : HasCommentBefore more bytes text) (none : table_entry (comment_line bytes) ≡ None) where
  skipped_later : lines_before_header more ≡ comment_line bytes ∷ map (later_by 1) (lines_before_header text)
  skipped_later =
      ap (take_while is_skipped) e
      ∙ take_past (prefix_len is_skipped (map (later_by 1) (lines_of text))) (comment_line bytes) (map (later_by 1) (lines_of text))
      ∙ ap (λ ls. comment_line bytes ∷ ls) (take_while_mapped (later_by 1) is_skipped is_skipped (λ line. refl) (lines_of text))

  version_later : table_version more ≡ table_version text
  version_later =
      ap (λ ls. version_of_entries (filter_map table_entry ls)) skipped_later
      ∙ ap version_of_entries (
      ap (λ o. cons_option o (filter_map table_entry (map (later_by 1) (lines_before_header text)))) none
      ∙ filter_map_mapped (later_by 1) table_entry table_entry (λ line. refl) (lines_before_header text))

  table_later : table_of more ≡ map later_entry (table_of text)
  table_later =
      let version = table_version text in
      ap (λ v. filter_map (table_line v) (lines_before_header more)) version_later
      ∙ ap (filter_map (table_line version)) skipped_later
      ∙ ap (λ o. cons_option o (filter_map (table_line version) (map (later_by 1) (lines_before_header text)))) (entry_none version (comment_line bytes) none)
      ∙ filter_map_later (later_by 1) (table_line version) (table_line version) later_entry (line_later version) (lines_before_header text)

  forms_later : forms_of more ≡ forms_of text
  forms_later =
      ap (filter_map (λ line. line.form)) table_later ∙ filter_map_mapped later_entry (λ line. line.form) (λ line. line.form) (λ line. refl) (table_of text)

  ports_later : (width height : ℕ) (ports : Ports) → ReadsAsPorts text width height ports → ReadsAsPorts more width height ports
  ports_later width height ports reads = record {
    no_fault = ap (faults_after width height []) table_later ∙ faults_later width height [] (table_of text) ∙ ap (map later_fault) reads.no_fault;
    ports_is = reads.ports_is ∙ sym (ap ports_of forms_later);
  }

-- a line of a gate or a wire before a text
record IsBefore (line text : List ℕ) : Type 0 where
  bytes : List ℕ
  before : HasCommentBefore (line ++ 10 ∷ text) bytes text
  none : table_entry (comment_line bytes) ≡ None

line_before : (line text : List ℕ) → IsGateLine line → IsBefore line text
line_before line text h = by_kind h.kind
  where
    by_kind : IsOfGate line → IsBefore line text
    by_kind (inl front) = record {
      bytes = codes "C gate " ++ front.0;
      before = rw (← front.1) (first_line line text h.in_line);
      none = refl;
    }
    by_kind (inr front) = record {
      bytes = codes "C wire " ++ front.0;
      before = rw (← front.1) (first_line line text h.in_line);
      none = refl;
    }

abbrev ended : List (List ℕ) → List ℕ
ended lines = flat_map (λ line. line ++ 10 ∷ []) lines

first_of : (line : List ℕ) (lines : List (List ℕ)) (text : List ℕ) → ended (line ∷ lines) ++ text ≡ line ++ (10 ∷ (ended lines ++ text))
first_of line lines text =
    append_assoc (line ++ 10 ∷ []) (ended lines) text ∙ append_assoc line (10 ∷ []) (ended lines ++ text)

pattern_kept : (lines : List (List ℕ)) (text : List ℕ) (grid : Grid) → AllByRecursion IsGateLine lines → ReadsAsPattern text grid → ReadsAsPattern (ended lines ++ text) grid
pattern_kept [] text grid each reads = reads
pattern_kept (line ∷ lines) text grid each reads =
    let rest = ended lines ++ text in
    let first = line_before line rest each.0 in
    rw (first_of line lines text) (
    pattern_later (line ++ 10 ∷ rest) first.bytes rest first.before grid (pattern_kept lines text grid each.1 reads))

ports_kept : (lines : List (List ℕ)) (text : List ℕ) (width height : ℕ) (ports : Ports) → AllByRecursion IsGateLine lines → ReadsAsPorts text width height ports → ReadsAsPorts (ended lines ++ text) width height ports
ports_kept [] text width height ports each reads = reads
ports_kept (line ∷ lines) text width height ports each reads =
    let rest = ended lines ++ text in
    let first = line_before line rest each.0 in
    rw (first_of line lines text) (
    ports_later (line ++ 10 ∷ rest) first.bytes rest first.before first.none width height ports (ports_kept lines text width height ports each.1 reads))

pub keeps_pattern : (lines text : List ℕ) → KeepsPattern lines text
keeps_pattern lines text grid are reads = rw (are.joined) (pattern_kept are.lines text grid are.each reads)

pub keeps_ports : (lines text : List ℕ) → KeepsPorts lines text
keeps_ports lines text width height ports are reads = rw (are.joined) (ports_kept are.lines text width height ports are.each reads)
