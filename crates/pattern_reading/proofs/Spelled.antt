-- A spelled port table before a text.
use Rattle.std.proofs.Common.{ℕ, suc, ◌+◌, ◌≡◌, refl, sym, ap, ◌∙◌, true, List, [], ◌∷◌, ◌++◌, map, take, ◌==◌, append_assoc, arith}
use Rattle.std.specs.Prelude.{Option, Some, None, option_map, take_while, filter_map, codes}
use Rattle.std.specs.List.{AllByRecursion, prefix_len, cons_option, join_with_byte, slice_split}
use Rattle.std.specs.Str.{byte}
use Rattle.std.proofs.lemmas.Option.{none-some}
use Rattle.pattern_reading.specs.declared.faults.PortFaultKind.{PortFaultKind}
use Rattle.pattern_reading.specs.Lines.{Line, lines_of}
use Rattle.pattern_reading.specs.Numbers.{◌>>=◌}
use Rattle.pattern_reading.specs.Header.{is_skipped, lines_before_header}
use Rattle.pattern_reading.specs.declared.ports.TableVersion.{TableVersion}
use Rattle.pattern_reading.specs.declared.ports.TableVersion.TheVariants.{Escaped}
use Rattle.pattern_reading.specs.PortLines.{PortForm, Version, In, Out, Net, TableLine, table_entry, table_line, table_of, table_version, version_of_entries, form_of_fields}
use Rattle.pattern_reading.specs.PortTable.{PortFaultAt, fault_of_form, faults_after, ports_of}
use Rattle.pattern_reading.specs.Laws.{later_by}
use Rattle.pattern_reading.specs.Spelling.{IsSpellable, IsSoundAfter, HasSamePattern, HasSpelledPorts, fields_of, spelled_line, spelled_table}
use Rattle.pattern_reading.proofs.LineText.{first_line}
use Rattle.pattern_reading.proofs.Later.{HasCommentBefore, comment_line, pattern_later, take_while_mapped, filter_map_mapped, filter_map_later}
use Rattle.pattern_reading.proofs.PortText.{spelled_is, spelled_text}

-- a spelled line without its `#`
abbrev after_sign : PortForm → List ℕ
after_sign form = codes "C BLIFWW " ++ join_with_byte 32 (fields_of form)

line_before_text : (form : PortForm) (text : List ℕ) → IsSpellable form → HasCommentBefore (spelled_line form ++ 10 ∷ text) (after_sign form) text
line_before_text form text h = first_line (spelled_line form) text (spelled_text form h)

table_before : (form : PortForm) (forms : List PortForm) (rest : List ℕ) → spelled_table (form ∷ forms) ++ rest ≡ spelled_line form ++ (10 ∷ (spelled_table forms ++ rest))
table_before form forms rest = append_assoc (spelled_line form ++ 10 ∷ []) (spelled_table forms) rest ∙ append_assoc (spelled_line form) (10 ∷ []) (spelled_table forms ++ rest)

-- no line of it changes the pattern
pub same_pattern : (forms : List PortForm) (rest : List ℕ) → HasSamePattern forms rest
same_pattern [] rest grid h reads = reads
same_pattern (form ∷ forms) rest grid h reads =
    rw (table_before form forms rest) (
    pattern_later (spelled_line form ++ 10 ∷ (spelled_table forms ++ rest)) (after_sign form) (spelled_table forms ++ rest) (line_before_text form (spelled_table forms ++ rest) h.0) grid (same_pattern forms rest grid h.1 reads))

abbrev later_entry : ℕ → TableLine → TableLine
later_entry k line = record line { number = k + line.number }

-- the lines of a text's table, read by a version
abbrev pub table_by : TableVersion → List ℕ → List TableLine
table_by version text = filter_map (table_line version) (lines_before_header text)

table_line_later : (version : TableVersion) (k : ℕ) (line : Line) → table_line version (later_by k line) ≡ option_map (later_entry k) (table_line version line)
table_line_later version k line = by_entry (table_entry line)
  where
    by_entry : (o : Option (List ℕ)) → (o >>= λ entry. Some (record { number = k + line.number; form = form_of_fields version (slice_split (λ b. b == byte " ") entry) })) ≡ option_map (later_entry k) (o >>= λ entry. Some (record { number = line.number; form = form_of_fields version (slice_split (λ b. b == byte " ") entry) }))
    by_entry None = refl
    by_entry (Some entry) = refl

take_past : (n : ℕ) (line : Line) (lines : List Line) → take (1 + n) (line ∷ lines) ≡ line ∷ take n lines
take_past n line lines = let shifted : 1 + n ≡ suc n = omega arith in rw shifted refl

skipped_later : (form : PortForm) (text : List ℕ) → IsSpellable form → lines_before_header (spelled_line form ++ 10 ∷ text) ≡ comment_line (after_sign form) ∷ map (later_by 1) (lines_before_header text)
skipped_later form text h =
    ap (take_while is_skipped) (line_before_text form text h)
    ∙ take_past (prefix_len is_skipped (map (later_by 1) (lines_of text))) (comment_line (after_sign form)) (map (later_by 1) (lines_of text))
    ∙ ap (λ ls. comment_line (after_sign form) ∷ ls) (take_while_mapped (later_by 1) is_skipped is_skipped (λ line. refl) (lines_of text))

-- the table of a text after one more line
table_later : (form : PortForm) (text : List ℕ) → IsSpellable form → table_by Escaped (spelled_line form ++ 10 ∷ text) ≡ record { number = 1; form = Some form } ∷ map (later_entry 1) (table_by Escaped text)
table_later form text h =
    ap (filter_map (table_line Escaped)) (skipped_later form text h)
    ∙ ap (λ o. cons_option o (filter_map (table_line Escaped) (map (later_by 1) (lines_before_header text)))) (spelled_is 1 form true h)
    ∙ ap (λ ls. record { number = 1; form = Some form } ∷ ls) (filter_map_later (later_by 1) (table_line Escaped) (table_line Escaped) (later_entry 1) (table_line_later Escaped 1) (lines_before_header text))

-- a text whose first line is a version line has a table of version 2, and one without a table has none by any version
version_first : (p l c : ℕ) (text : List ℕ) → IsSpellable (Version p l c) → table_version (spelled_line (Version p l c) ++ 10 ∷ text) ≡ Escaped
version_first p l c text h = ap (λ ls. version_of_entries (filter_map table_entry ls)) (skipped_later (Version p l c) text h)

no_entries : (v w : TableVersion) (lines : List Line) → filter_map (table_line v) lines ≡ [] → filter_map (table_line w) lines ≡ []
no_entries v w [] e = refl
no_entries v w (line ∷ lines) e = by_entry (table_entry line) e (no_entries v w lines)
  where
    line_by : TableVersion → List ℕ → TableLine
    line_by version entry = record { number = line.number; form = form_of_fields version (slice_split (λ b. b == byte " ") entry) }

    by_entry : (o : Option (List ℕ)) → cons_option (o >>= λ entry. Some (line_by v entry)) (filter_map (table_line v) lines) ≡ []
        → (filter_map (table_line v) lines ≡ [] → filter_map (table_line w) lines ≡ [])
        → cons_option (o >>= λ entry. Some (line_by w entry)) (filter_map (table_line w) lines) ≡ []
    by_entry None k rest = rest k
    by_entry (Some entry) k rest = absurd (cc)

none_by : (rest : List ℕ) → table_of rest ≡ [] → table_by Escaped rest ≡ []
none_by rest none = no_entries (table_version rest) Escaped (lines_before_header rest) none

-- so the version of a table that is sound is 2
table_is : (forms : List PortForm) (rest : List ℕ) (width height : ℕ) → AllByRecursion IsSpellable forms → IsSoundAfter width height [] forms → table_of rest ≡ [] → table_of (spelled_table forms ++ rest) ≡ table_by Escaped (spelled_table forms ++ rest)
table_is [] rest width height h sound none = none ∙ sym (none_by rest none)
table_is (Version p l c ∷ forms) rest width height h sound none =
    let text = spelled_table (Version p l c ∷ forms) ++ rest in
    ap (λ v. table_by v text) (ap table_version (table_before (Version p l c) forms rest) ∙ version_first p l c (spelled_table forms ++ rest) h.0)
table_is (In port ∷ forms) rest width height h sound none = absurd (none-some _ (sym sound.0))
table_is (Out port ∷ forms) rest width height h sound none = absurd (none-some _ (sym sound.0))
table_is (Net net ∷ forms) rest width height h sound none = absurd (none-some _ (sym sound.0))

abbrev later_port_fault : ℕ → PortFaultAt → PortFaultAt
later_port_fault k fault = record fault { line = k + fault.line }

fault_later : (k number : ℕ) (o : Option PortFaultKind) (faults : List PortFaultAt) → cons_option (o >>= λ kind. Some (record { kind = kind; line = k + number })) (map (later_port_fault k) faults) ≡ map (later_port_fault k) (cons_option (o >>= λ kind. Some (record { kind = kind; line = number })) faults)
fault_later k number None faults = refl
fault_later k number (Some kind) faults = refl

faults_later : (k width height : ℕ) (before : List (Option PortForm)) (lines : List TableLine) → faults_after width height before (map (later_entry k) lines) ≡ map (later_port_fault k) (faults_after width height before lines)
faults_later k width height before [] = refl
faults_later k width height before (line ∷ lines) =
    ap (cons_option (fault_of_form width height before line.form >>= λ kind. Some (record { kind = kind; line = k + line.number }))) (faults_later k width height (before ++ line.form ∷ []) lines)
    ∙ fault_later k line.number (fault_of_form width height before line.form) _

no_faults : (forms : List PortForm) (rest : List ℕ) (width height : ℕ) (before : List (Option PortForm)) → AllByRecursion IsSpellable forms → IsSoundAfter width height before forms → table_by Escaped rest ≡ [] → faults_after width height before (table_by Escaped (spelled_table forms ++ rest)) ≡ []
no_faults [] rest width height before h sound none = ap (faults_after width height before) none
no_faults (form ∷ forms) rest width height before h sound none =
    ap (λ t. faults_after width height before (table_by Escaped t)) (table_before form forms rest)
    ∙ ap (faults_after width height before) (table_later form (spelled_table forms ++ rest) h.0)
    ∙ ap (λ o. cons_option (o >>= λ kind. Some (record { kind = kind; line = 1 })) (faults_after width height (before ++ Some form ∷ []) (map (later_entry 1) (table_by Escaped (spelled_table forms ++ rest))))) sound.0
    ∙ faults_later 1 width height (before ++ Some form ∷ []) (table_by Escaped (spelled_table forms ++ rest))
    ∙ ap (map (later_port_fault 1)) (no_faults forms rest width height (before ++ Some form ∷ []) h.1 sound.1 none)

abbrev forms_by : List TableLine → List PortForm
forms_by lines = filter_map (λ line. line.form) lines

forms_are : (forms : List PortForm) (rest : List ℕ) → AllByRecursion IsSpellable forms → table_by Escaped rest ≡ [] → forms_by (table_by Escaped (spelled_table forms ++ rest)) ≡ forms
forms_are [] rest h none = ap forms_by none
forms_are (form ∷ forms) rest h none =
    ap (λ text. forms_by (table_by Escaped text)) (table_before form forms rest)
    ∙ ap forms_by (table_later form (spelled_table forms ++ rest) h.0)
    ∙ ap (λ fs. form ∷ fs) (filter_map_mapped (later_entry 1) (λ line. line.form) (λ line. line.form) (λ line. refl) (table_by Escaped (spelled_table forms ++ rest)) ∙ forms_are forms rest h.1 none)

-- and it reads as the table of its lines
pub spelled_ports : (forms : List PortForm) (rest : List ℕ) → HasSpelledPorts forms rest
spelled_ports forms rest width height h sound none =
    let is = table_is forms rest width height h sound none in
    let bare = none_by rest none in
    record {
      no_fault = ap (faults_after width height []) is ∙ no_faults forms rest width height [] h sound bare;
      ports_is = ap ports_of (sym (ap forms_by is ∙ forms_are forms rest h bare));
    }
