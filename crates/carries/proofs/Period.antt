-- The period of a table that reads is not 0, and has room for its contexts.
use Rattle.std.proofs.Common.{ℕ, ◌≡◌, ◌≢◌, ◌<◌, ◌≤◌, ◌*◌, refl, sym, ap, ap₂, ◌∙◌, Bool, true, false, List, [], ◌∷◌, arith}
use Rattle.std.specs.Prelude.{◌==◌, if◌then◌else◌, Option, Some, None, filter_map, codes, ◌&&◌, ◌||◌, not}
use Rattle.std.proofs.lemmas.Bool.{eq-eqb, not-false, true≢false}
use Rattle.std.proofs.lemmas.Bool.Decides.{nat_tests}
use Rattle.std.specs.List.{AllByRecursion, cons_option, slice_split}
use Rattle.std.specs.Str.{bytes_eq, byte}
use Rattle.pattern_reading.specs.declared.ports.NetLine.{NetLine}
use Rattle.pattern_reading.specs.declared.ports.PortLine.{PortLine}
use Rattle.pattern_reading.specs.declared.ports.Ports.{Ports}
use Rattle.pattern_reading.specs.declared.ports.TableVersion.{TableVersion}
use Rattle.pattern_reading.specs.Lines.{Line}
use Rattle.pattern_reading.specs.Header.{lines_before_header}
use Rattle.pattern_reading.specs.Numbers.{◌>>=◌, number_in}
use Rattle.pattern_reading.specs.PortLines.{PortForm, Version, In, Out, Net, TableLine, count_in, form_of_fields, has_room, net_in, port_in, table_entry, table_line, table_version, uncounted, version_in, version_named}
use Rattle.pattern_reading.specs.PortTable.{ReadsAsPorts, contexts_in, forms_of, period_in}

abbrev HasPeriod : PortForm → Type 0
HasPeriod (Version p l c) = (p ≢ 0) × (has_room p c ≡ true)
HasPeriod (In port) = Unit {0}
HasPeriod (Out port) = Unit {0}
HasPeriod (Net net) = Unit {0}

abbrev MayHavePeriod : Option PortForm → Type 0
MayHavePeriod None = Unit {0}
MayHavePeriod (Some form) = HasPeriod form

by_port : (is_in is_out : Bool) (o : Option PortLine) → MayHavePeriod (if is_in then (o >>= λ port. Some (In port)) else if is_out then (o >>= λ port. Some (Out port)) else None)
by_port true is_out None = tt
by_port true is_out (Some port) = tt
by_port false true None = tt
by_port false true (Some port) = tt
by_port false false o = tt

by_net : (is_net : Bool) (o : Option NetLine) → MayHavePeriod (if is_net then (o >>= λ net. Some (Net net)) else None)
by_net true None = tt
by_net true (Some net) = tt
by_net false o = tt

by_zero : (p l c : ℕ) (zero crowded : Bool) → (p == 0) ≡ zero → not (has_room p c) ≡ crowded → MayHavePeriod (if zero || crowded then None else Some (Version p l c))
by_zero p l c true crowded e room = tt
by_zero p l c false true e room = tt
by_zero p l c false false e room = ((λ is_zero. true≢false (sym (eq-eqb p 0 is_zero) ∙ e)), not-false (has_room p c) room)

by_version : (is_version : Bool) (p l c : Option ℕ) → MayHavePeriod (if is_version then (p >>= λ period. l >>= λ latency. c >>= λ count. if period == 0 || not (has_room period count) then None else Some (Version period latency count)) else None)
by_version true None l c = tt
by_version true (Some p) None c = tt
by_version true (Some p) (Some l) None = tt
by_version true (Some p) (Some l) (Some c) = by_zero p l c (p == 0) (not (has_room p c)) refl refl
by_version false p l c = tt

by_name : (o : Option TableVersion) (form : TableVersion → Option PortForm) → ((named : TableVersion) → MayHavePeriod (form named)) → MayHavePeriod (o >>= form)
by_name None form h = tt
by_name (Some named) form h = h named

form_period : (version : TableVersion) (fields : List (List ℕ)) → MayHavePeriod (form_of_fields version fields)
form_period version [] = tt
form_period version (a ∷ []) = tt
form_period version (a ∷ b ∷ []) = tt
form_period version (a ∷ b ∷ c ∷ []) = tt
form_period version (kind ∷ x ∷ y ∷ name ∷ []) =
    by_port (bytes_eq kind (codes "IN")) (bytes_eq kind (codes "OUT")) (port_in version x y name)
form_period version (number ∷ p_word ∷ p ∷ l_word ∷ l ∷ []) =
    by_name (version_named number) (λ named. version_in p_word p l_word l (uncounted named))
    (λ named. by_version (bytes_eq p_word (codes "P") && bytes_eq l_word (codes "L")) (number_in p) (number_in l) (uncounted named))
form_period version (kind ∷ x ∷ y ∷ offset ∷ name ∷ path ∷ []) =
    by_net (bytes_eq kind (codes "NET")) (net_in version x y offset name path)
form_period version (number ∷ p_word ∷ p ∷ l_word ∷ l ∷ c_word ∷ c ∷ []) =
    by_name (version_named number) (λ named. version_in p_word p l_word l (count_in c_word c))
    (λ named. by_version (bytes_eq p_word (codes "P") && bytes_eq l_word (codes "L")) (number_in p) (number_in l) (count_in c_word c))
form_period version (a ∷ b ∷ c ∷ d ∷ e ∷ f ∷ g ∷ i ∷ fields) = tt

with_form : (o : Option PortForm) (forms : List PortForm) → MayHavePeriod o → AllByRecursion HasPeriod forms → AllByRecursion HasPeriod (cons_option o forms)
with_form None forms h k = k
with_form (Some form) forms h k = (h, k)

abbrev table_line_of : TableVersion → Line → List ℕ → TableLine
table_line_of version line entry = record { number = line.number; form = form_of_fields version (slice_split (λ b. b == byte " ") entry) }

lines_period : (version : TableVersion) (lines : List Line) → AllByRecursion HasPeriod (filter_map (λ line. line.form) (filter_map (table_line version) lines))
lines_period version [] = tt
lines_period version (line ∷ lines) = by_entry (table_entry line) (lines_period version lines)
  where
    by_entry : (entry : Option (List ℕ)) → AllByRecursion HasPeriod (filter_map (λ line. line.form) (filter_map (table_line version) lines)) → AllByRecursion HasPeriod (filter_map (λ line. line.form) (cons_option (entry >>= λ entry. Some (table_line_of version line entry)) (filter_map (table_line version) lines)))
    by_entry None rest = rest
    by_entry (Some entry) rest = with_form _ _ (form_period version (slice_split (λ b. b == byte " ") entry)) rest

period_of_forms : (forms : List PortForm) → AllByRecursion HasPeriod forms → period_in forms ≢ 0
period_of_forms [] h = λ e. omega (arith, e)
period_of_forms (Version p l c ∷ forms) h = h.0.0
period_of_forms (In port ∷ forms) h = period_of_forms forms h.1
period_of_forms (Out port ∷ forms) h = period_of_forms forms h.1
period_of_forms (Net net ∷ forms) h = period_of_forms forms h.1

pub has_period : (text : List ℕ) (width height : ℕ) (ports : Ports) → ReadsAsPorts text width height ports → ports.p ≢ 0
has_period text width height ports table e =
    period_of_forms (forms_of text) (lines_period (table_version text) (lines_before_header text)) (sym (ap (λ ports. ports.p) table.ports_is) ∙ e)

room_of_forms : (forms : List PortForm) → AllByRecursion HasPeriod forms → has_room (period_in forms) (contexts_in forms) ≡ true
room_of_forms [] h = refl
room_of_forms (Version p l c ∷ forms) h = h.0.1
room_of_forms (In port ∷ forms) h = room_of_forms forms h.1
room_of_forms (Out port ∷ forms) h = room_of_forms forms h.1
room_of_forms (Net net ∷ forms) h = room_of_forms forms h.1

room : (period contexts : ℕ) → has_room period contexts ≡ true → 1 < contexts → 32 * contexts ≤ period
room period contexts e more = grind (arith, nat_tests, e, more)

pub contexts_have_room : (text : List ℕ) (width height : ℕ) (ports : Ports) → ReadsAsPorts text width height ports → 1 < ports.c → 32 * ports.c ≤ ports.p
contexts_have_room text width height ports table more =
    room ports.p ports.c
    (ap₂ has_room (ap (λ ports. ports.p) table.ports_is) (ap (λ ports. ports.c) table.ports_is) ∙ room_of_forms (forms_of text) (lines_period (table_version text) (lines_before_header text)))
    more
