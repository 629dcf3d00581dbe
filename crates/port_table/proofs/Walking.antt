-- A text's table line by line, and its faults.
use Rattle.std.proofs.Common.{ℕ, suc, ◌+◌, ◌<◌, ◌≡◌, refl, sym, ap, ◌∙◌, subst, Bool, true, false, cond, not, ◌==◌, List, [], ◌∷◌, ◌++◌, length, map, drop, get_or, Option, Some, None, arith, drop-cons}
use Rattle.std.specs.Prelude.{filter_map, option_map, slice_get, take_while, if◌then◌else◌, unwrap_or}
use Rattle.std.specs.List.{cons_option, list_any}
use Rattle.std.specs.Option.{option_to_list}
use Rattle.std.proofs.lemmas.List.{append-nil}
use Rattle.std.proofs.lemmas.List.Elements.{filter_map-append}
use Rattle.std.proofs.lemmas.Option.{none-some}
use Rattle.std.proofs.lemmas.List.Sums.{take_while-cons}
use Rattle.pattern_reading.specs.Lines.{Line, lines_from, with_line_feeds}
use Rattle.pattern_reading.specs.Numbers.{◌>>=◌}
use Rattle.pattern_reading.specs.declared.ports.TableVersion.{TableVersion}
use Rattle.pattern_reading.specs.declared.ports.TableVersion.TheVariants.{Raw}
use Rattle.pattern_reading.specs.Header.{is_skipped}
use Rattle.pattern_reading.specs.PortLines.{PortForm, TableLine, table_entry, table_line, table_of, first_field, version_named, version_of_entries}
use Rattle.pattern_reading.specs.PortTable.{PortFaultAt, is_version, is_outside, is_same_port, is_misplaced, fault_of_form, faults_after, ports_of, ReadsAsPorts}
use Rattle.pattern_reading.specs.declared.faults.PortFaultKind.{PortFaultKind}
use Rattle.pattern_reading.specs.declared.faults.PortFaultKind.TheVariants.{Twice}
use Rattle.std.proofs.lemmas.Bool.{ne_eqb}
use Rattle.port_table.specs.declared.table.TableLine as lent
use Rattle.port_table.specs.Lent.{table_line_of, form_of, forms_in, said_by}
use Rattle.port_table.proofs.Walk.{BeginsWithLine, table_from, version_from}

-- the table ends before a line that is not skipped
table_ends : (v : TableVersion) (n : ℕ) (text rest : List ℕ) (line : Line) → BeginsWithLine n text line rest → is_skipped line ≡ false → table_from v n text ≡ []
table_ends v n text rest line first skipped = rw (first, skipped) refl

pub version_ends : (n : ℕ) (text rest : List ℕ) (line : Line) → BeginsWithLine n text line rest → is_skipped line ≡ false → version_from n text ≡ Raw
version_ends n text rest line first skipped = rw (first, skipped) refl

-- a line that is skipped, and perhaps is one of the table
module _ {A : Type 0} (read : Line → Option A) where
  by_read : (t : Option A) (line : Line) (lines : List Line) → read line ≡ t → filter_map read (line ∷ lines) ≡ cons_option t (filter_map read lines)
  by_read None line lines e = rw e refl
  by_read (Some x) line lines e = rw e refl

  goes_on : (n : ℕ) (text rest : List ℕ) (line : Line) (t : Option A) → BeginsWithLine n text line rest → is_skipped line ≡ true → read line ≡ t
      → filter_map read (take_while is_skipped (lines_from n (with_line_feeds text))) ≡ cons_option t (filter_map read (take_while is_skipped (lines_from (n + 1) (with_line_feeds rest))))
  goes_on n text rest line t first skipped is =
      let lines = lines_from (n + 1) (with_line_feeds rest) in
      ap (λ ls. filter_map read (take_while is_skipped ls)) first
      ∙ ap (λ ls. filter_map read ls) (take_while-cons is_skipped line lines ∙ ap (λ b. cond b (line ∷ take_while is_skipped lines) []) skipped)
      ∙ by_read t line (take_while is_skipped lines) is

table_goes_on : (v : TableVersion) (n : ℕ) (text rest : List ℕ) (line : Line) (t : Option TableLine) → BeginsWithLine n text line rest → is_skipped line ≡ true → t ≡ table_line v line → table_from v n text ≡ cons_option t (table_from v (n + 1) rest)
table_goes_on v n text rest line t first skipped is = goes_on (table_line v) n text rest line t first skipped (sym is)

-- the first line of the table names its version
pub version_is : (n : ℕ) (text rest : List ℕ) (line : Line) (entry : List ℕ) → BeginsWithLine n text line rest → is_skipped line ≡ true → table_entry line ≡ Some entry
    → version_from n text ≡ unwrap_or (version_named (first_field entry)) Raw
version_is n text rest line entry first skipped is = ap version_of_entries (goes_on table_entry n text rest line (Some entry) first skipped is)

pub version_goes_on : (n : ℕ) (text rest : List ℕ) (line : Line) → BeginsWithLine n text line rest → is_skipped line ≡ true → table_entry line ≡ None → version_from n text ≡ version_from (n + 1) rest
version_goes_on n text rest line first skipped is = ap version_of_entries (goes_on table_entry n text rest line None first skipped is)

-- all of some forms
pub kept_forms : (forms : List PortForm) → filter_map (λ line. line) (map Some forms) ≡ forms
kept_forms [] = refl
kept_forms (form ∷ forms) = ap (λ fs. form ∷ fs) (kept_forms forms)

-- the first fault, at the first line or later
pub fault_here : (width height : ℕ) (before : List (Option PortForm)) (line : TableLine) (lines : List TableLine) (kind : PortFaultKind) → Some kind ≡ fault_of_form width height before line.form → slice_get (faults_after width height before (line ∷ lines)) 0 ≡ Some (record { kind = kind; line = line.number })
fault_here width height before line lines kind e = rw (← e) refl

pub fault_later : (width height : ℕ) (before : List (Option PortForm)) (line : TableLine) (lines : List TableLine) → None ≡ fault_of_form width height before line.form → faults_after width height before (line ∷ lines) ≡ faults_after width height (before ++ line.form ∷ []) lines
fault_later width height before line lines e = rw (← e) refl

map_push : (forms : List PortForm) (form : PortForm) → map Some (forms ++ form ∷ []) ≡ map Some forms ++ Some form ∷ []
map_push [] form = refl
map_push (first ∷ forms) form = ap (λ fs. Some first ∷ fs) (map_push forms form)

-- lines of the table in the code are those of the definitions
pub rest_from : (lines : List lent.TableLine) (i : ℕ) (d : lent.TableLine) → i < length lines → map table_line_of (drop i lines) ≡ table_line_of (get_or lines i d) ∷ map table_line_of (drop (i + 1) lines)
rest_from lines i d l =
    let next : suc i ≡ i + 1 = omega arith in
    ap (λ ls. map table_line_of ls) (subst (λ n. drop i lines ≡ get_or lines i d ∷ drop n lines) next (drop-cons lines i d l))

pub forms_are : (lines : List lent.TableLine) → forms_in lines ≡ filter_map (λ line. line.form) (map table_line_of lines)
forms_are [] = refl
forms_are (line ∷ lines) = by_form (option_map form_of line.form) (forms_are lines)
  where
    by_form : (form : Option PortForm) → forms_in lines ≡ filter_map (λ l. l.form) (map table_line_of lines) → cons_option form (forms_in lines) ≡ cons_option form (filter_map (λ l. l.form) (map table_line_of lines))
    by_form form e = ap (λ fs. cons_option form fs) e

none_first : (faults : List PortFaultAt) → slice_get faults 0 ≡ None → faults ≡ []
none_first [] e = refl
none_first (fault ∷ faults) e = absurd (none-some _ (sym e))

-- lines without a fault are read
pub reads_if_no_fault : (text : List ℕ) (width height : ℕ) (lines : List lent.TableLine) → map table_line_of lines ≡ table_of text → slice_get (faults_after width height [] (map table_line_of lines)) 0 ≡ None → ReadsAsPorts text width height (ports_of (forms_in lines))
reads_if_no_fault text width height lines e f = record {
  no_fault = none_first _ (subst (λ ls. slice_get (faults_after width height [] ls) 0 ≡ None) e f);
  ports_is = ap ports_of (forms_are lines ∙ ap (λ ls. filter_map (λ line. line.form) ls) e);
}

-- what one kind of lines says, one line further
one_more : {A : Type 0} (read : PortForm → Option A) (form : Option PortForm) → filter_map read (cons_option form []) ≡ option_to_list (form >>= read)
one_more read None = refl
one_more read (Some form) = by_read (read form) refl
  where
    by_read : (found : Option _) → read form ≡ found → filter_map read (form ∷ []) ≡ option_to_list (read form)
    by_read None e = rw e refl
    by_read (Some x) e = rw e refl

pub said_more : {A : Type 0} (read : PortForm → Option A) (lines : List lent.TableLine) (line : lent.TableLine) → filter_map read (forms_in (lines ++ line ∷ [])) ≡ filter_map read (forms_in lines) ++ said_by read line.form
said_more read lines line =
    let forms : lent.TableLine → Option PortForm = λ x. option_map form_of x.form in
    ap (λ fs. filter_map read fs) (filter_map-append forms lines (line ∷ []))
    ∙ filter_map-append read (forms_in lines) (cons_option (forms line) [])
    ∙ ap (λ xs. filter_map read (forms_in lines) ++ xs) (one_more read (forms line))

-- the walk over a text's table, one line further
pub walked_on : (v : TableVersion) (n : ℕ) (text rest : List ℕ) (line : Line) (lines : List lent.TableLine) (t : Option lent.TableLine) (all : List TableLine) → BeginsWithLine n text line rest → is_skipped line ≡ true → option_map table_line_of t ≡ table_line v line → map table_line_of lines ++ table_from v n text ≡ all → (found : Option lent.TableLine) → t ≡ found → map table_line_of (lines ++ option_to_list found) ++ table_from v (n + 1) rest ≡ all
walked_on v n text rest line lines t all first skipped is e found same =
    by_found found (table_from v (n + 1) rest) lines
    ∙ ap (λ f. map table_line_of lines ++ cons_option (option_map table_line_of f) (table_from v (n + 1) rest)) (sym same)
    ∙ ap (λ ls. map table_line_of lines ++ ls) (sym (table_goes_on v n text rest line (option_map table_line_of t) first skipped is))
    ∙ e
  where
    by_found : (o : Option lent.TableLine) (more : List TableLine) (ls : List lent.TableLine) → map table_line_of (ls ++ option_to_list o) ++ more ≡ map table_line_of ls ++ cons_option (option_map table_line_of o) more
    by_found None more [] = refl
    by_found (Some x) more [] = refl
    by_found o more (l ∷ ls) = ap (λ xs. table_line_of l ∷ xs) (by_found o more ls)

pub walk_ends : (v : TableVersion) (n : ℕ) (text rest : List ℕ) (line : Line) (lines : List TableLine) (all : List TableLine) → BeginsWithLine n text line rest → is_skipped line ≡ false → lines ++ table_from v n text ≡ all → lines ≡ all
walk_ends v n text rest line lines all first skipped e =
    sym (append-nil lines) ∙ ap (λ ls. lines ++ ls) (sym (table_ends v n text rest line first skipped)) ∙ e

-- a line with a form and no fault
pub has_form : (width height : ℕ) (before : List (Option PortForm)) (form : Option PortForm) → None ≡ fault_of_form width height before form → (f : PortForm) × (form ≡ Some f)
has_form width height before None e = absurd (none-some _ e)
has_form width height before (Some f) e = (f, refl)

pub no_fault_yet : (width height : ℕ) (lines : List lent.TableLine) (i : ℕ) (d : lent.TableLine) (before : List PortForm) (f : PortForm) (all : List PortFaultAt) → i < length lines → None ≡ fault_of_form width height (map Some before) (option_map form_of (get_or lines i d).form) → option_map form_of (get_or lines i d).form ≡ Some f → faults_after width height (map Some before) (map table_line_of (drop i lines)) ≡ all → faults_after width height (map Some (before ++ f ∷ [])) (map table_line_of (drop (i + 1) lines)) ≡ all
no_fault_yet width height lines i d before f all l none is e =
    let line = table_line_of (get_or lines i d) in
    let rest = map table_line_of (drop (i + 1) lines) in
    ap (λ fs. faults_after width height fs rest) (map_push before f ∙ ap (λ o. map Some before ++ o ∷ []) (sym is))
    ∙ sym (fault_later width height (map Some before) line rest none)
    ∙ ap (λ ls. faults_after width height (map Some before) ls) (sym (rest_from lines i d l))
    ∙ e

-- what is at fault in a line that stands where it may
placed : (before : List PortForm) (form : PortForm) → is_version form ≡ (length before == 0) → is_misplaced (map Some before) form ≡ false
placed [] form e = ap not e
placed (first ∷ before) form e = e ∙ ne_eqb (length (first ∷ before)) 0 (λ z. omega (arith, z))

pub twice_or_none : (width height : ℕ) (before : List PortForm) (form : PortForm) (is_new : Bool) → is_version form ≡ (length before == 0) → is_outside width height form ≡ false → is_new ≡ not (list_any (is_same_port form) before) → (if is_new then None else Some Twice) ≡ fault_of_form width height (map Some before) (Some form)
twice_or_none width height before form is_new here inside new =
    rw (placed before form here, inside, kept_forms before, new) (by_any (list_any (is_same_port form) before))
  where
    by_any : (any : Bool) → (if not any then None else Some Twice) ≡ (if any then Some Twice else None)
    by_any true = refl
    by_any false = refl
