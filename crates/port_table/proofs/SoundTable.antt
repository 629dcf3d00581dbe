-- The values of a port table that a text reads as fit their types, and its names are words, each of one port.
use Rattle.std.proofs.Common.{ℕ, ◌≤◌, ◌≡◌, ◌≢◌, refl, sym, ap, ◌∙◌, Bool, true, false, ◌&&◌, ◌==◌, List, [], ◌∷◌, ◌++◌, append_assoc, arith}
use Rattle.std.specs.Prelude.{if◌then◌else◌, not, ◌||◌, Option, Some, None, codes, filter_map}
use Rattle.std.specs.List.{All, AllByRecursion, AllPairs, cons_option, list_any, slice_split}
use Rattle.std.specs.Str.{byte, bytes_eq}
use Rattle.std.proofs.lemmas.Bool.{or_parts, eqb-false}
use Rattle.std.proofs.lemmas.List.{append-nil}
use Rattle.std.proofs.lemmas.List.Elements.{All-cons, All-nil, filter_map-append}
use Rattle.std.proofs.lemmas.List.Quantifiers.{all_pairs_push}
use Rattle.std.proofs.lemmas.Option.{none-some, cond_some}
use Rattle.std.proofs.lemmas.Slice.Eq.{bytes_eq-Decides}
use Rattle.pattern_reading.specs.declared.faults.PortFaultKind.TheVariants.{BadOrder, CellOutside, Twice}
use Rattle.pattern_reading.specs.declared.ports.PortLine.{PortLine}
use Rattle.pattern_reading.specs.declared.ports.NetLine.{NetLine}
use Rattle.pattern_reading.specs.declared.ports.TableVersion.{TableVersion}
use Rattle.pattern_reading.specs.declared.ports.TableVersion.TheVariants.{Raw, Escaped}
use Rattle.pattern_reading.specs.Lines.{Line}
use Rattle.pattern_reading.specs.Numbers.{◌>>=◌, greatest_number, number_in}
use Rattle.lists.specs.Bytes.{non_empty}
use Rattle.pattern_reading.specs.Header.{lines_before_header}
use Rattle.pattern_reading.specs.PortLines.{PortForm, Version, In, Out, Net, TableLine, count_in, form_of_fields, has_room, name_of_field, net_in, path_in, port_in, table_entry, table_line, table_of, table_version, uncounted, version_named}
use Rattle.pattern_reading.specs.PortTable.{contexts_in, fault_of_form, faults_after, forms_of, input_of, is_same_port, latency_in, net_of, output_of, period_in}
use Rattle.pattern_reading.specs.SoundTable.{HasSoundTable, IsSoundNet, IsSoundPort}
use Rattle.pattern_reading.specs.Spelling.{IsPortName}
use Rattle.pattern_reading.specs.Escapes.{unescaped}
use Rattle.port_table.proofs.Unescaped.{unescaped_feedless}
use Rattle.port_table.proofs.LineBytes.{IsFeedless, IsFieldText, feedless_after, feedless_before_header, fields_are}
use Rattle.pattern_reading.proofs.FirstLine.{HasNoFeed}
use Rattle.pattern_reading.proofs.PortText.{room_is}
use Rattle.pattern_reading.proofs.PortsInside.{no_first}
use Rattle.pattern_reading.proofs.Ranges.{bind_some, small_number}
use Rattle.pattern_reading.proofs.SoundLines.{forms_in}

-- the values of a line
abbrev IsSoundForm : PortForm → Type 0
IsSoundForm (Version p l c) = (p ≢ 0) × (p ≤ greatest_number) × (l ≤ greatest_number) × (has_room p c ≡ true)
IsSoundForm (In port) = IsSoundPort port
IsSoundForm (Out port) = IsSoundPort port
IsSoundForm (Net net) = IsSoundNet net

some_bytes : (bytes word : List ℕ) → non_empty bytes ≡ Some word → (word ≢ []) × (bytes ≡ word)
some_bytes [] word e = absurd (none-some word e)
some_bytes (b ∷ bs) word e = let same : (b ∷ bs) ≡ word = cc in (rw (← same) (λ k. cc), same)

no_feeds : (field : List ℕ) → IsFieldText field → HasNoFeed field
no_feeds field h k d l = (h k d l).0

name_is : (version : TableVersion) (field word : List ℕ) → name_of_field version field ≡ Some word → IsFieldText field → IsPortName word
name_is Raw field word e h = let is = some_bytes field word e in (is.0, rw (← is.1) (no_feeds field h))
name_is Escaped field word e h =
    let a = bind_some (unescaped field) _ word e in
    let is = some_bytes a.0 word a.2 in
    (is.0, rw (← is.1) (unescaped_feedless field a.0 a.1 (no_feeds field h)))

path_kept : (field path : List ℕ) → path_in field ≡ Some path → path_in path ≡ Some path
path_kept field path e = let same = (cond_some _ field path e).1 in rw (← same) (e ∙ ap Some (sym same))

port_is : (version : TableVersion) (x y name : List ℕ) (port : PortLine) → IsFieldText name → port_in version x y name ≡ Some port → IsSoundPort port
port_is version x y name port h e =
    let a = bind_some (number_in x) _ port e in
    let b = bind_some (number_in y) _ port a.2 in
    let c = bind_some (name_of_field version name) _ port b.2 in
    let same : record { x = a.0; y = b.0; name = c.0 } ≡ port = cc in
    rw (← same) (record { x = small_number x a.0 a.1; y = small_number y b.0 b.1; name = name_is version name c.0 c.1 h })

net_is : (version : TableVersion) (x y offset name path : List ℕ) (net : NetLine) → IsFieldText name → net_in version x y offset name path ≡ Some net → IsSoundNet net
net_is version x y offset name path net h e =
    let a = bind_some (number_in x) _ net e in
    let b = bind_some (number_in y) _ net a.2 in
    let o = bind_some (number_in offset) _ net b.2 in
    let c = bind_some (name_of_field version name) _ net o.2 in
    let d = bind_some (path_in path) _ net c.2 in
    let same : record { x = a.0; y = b.0; offset = o.0; name = c.0; path = d.0 } ≡ net = cc in
    rw (← same) (record { x = small_number x a.0 a.1; y = small_number y b.0 b.1; offset = small_number offset o.0 o.1; name = name_is version name c.0 c.1 h; path = path_kept path d.0 d.1 })

version_is : (form : PortForm) (period latency count : ℕ) (zero room : Bool) → (period == 0) ≡ zero → has_room period count ≡ room → period ≤ greatest_number → latency ≤ greatest_number → (if zero || not room then None else Some (Version period latency count)) ≡ Some form → IsSoundForm form
version_is form period latency count true room k r small small' e = absurd (none-some form e)
version_is form period latency count false false k r small small' e = absurd (none-some form e)
version_is form period latency count false true k r small small' e =
    let same : Version period latency count ≡ form = cc in
    rw (← same) (eqb-false period 0 k, small, small', r)

abbrev version_forms : Bool → List ℕ → List ℕ → Option ℕ → Option PortForm
version_forms t p l contexts =
    if t
    then (number_in p >>= λ period. number_in l >>= λ latency. contexts >>= λ count. (if period == 0 || not (has_room period count) then None else Some (Version period latency count)))
    else None

abbrev port_lines : Bool → Bool → Option PortLine → Option PortForm
port_lines is_in is_out port =
    if is_in then (port >>= λ port. Some (In port)) else if is_out then (port >>= λ port. Some (Out port)) else None

port_form : (version : TableVersion) (x y name : List ℕ) (form : PortForm) (is_in is_out : Bool) → IsFieldText name → port_lines is_in is_out (port_in version x y name) ≡ Some form → IsSoundForm form
port_form version x y name form true is_out h e =
    let a = bind_some (port_in version x y name) _ form e in
    let same : In a.0 ≡ form = cc in
    rw (← same) (port_is version x y name a.0 h a.1)
port_form version x y name form false true h e =
    let a = bind_some (port_in version x y name) _ form e in
    let same : Out a.0 ≡ form = cc in
    rw (← same) (port_is version x y name a.0 h a.1)
port_form version x y name form false false h e = absurd (none-some form e)

net_form : (version : TableVersion) (x y offset name path : List ℕ) (form : PortForm) (is_net : Bool) → IsFieldText name → (if is_net then (net_in version x y offset name path >>= λ net. Some (Net net)) else None) ≡ Some form → IsSoundForm form
net_form version x y offset name path form true h e =
    let a = bind_some (net_in version x y offset name path) _ form e in
    let same : Net a.0 ≡ form = cc in
    rw (← same) (net_is version x y offset name path a.0 h a.1)
net_form version x y offset name path form false h e = absurd (none-some form e)

version_by : (t : Bool) (p l : List ℕ) (contexts : Option ℕ) (form : PortForm) → version_forms t p l contexts ≡ Some form → IsSoundForm form
version_by true p l contexts form e =
    let a = bind_some (number_in p) _ form e in
    let b = bind_some (number_in l) _ form a.2 in
    let c = bind_some contexts _ form b.2 in
    version_is form a.0 b.0 c.0 _ _ refl refl (small_number p a.0 a.1) (small_number l b.0 b.1) c.2
version_by false p l contexts form e = absurd (none-some form e)

fields_form : (version : TableVersion) (fields : List (List ℕ)) (form : PortForm) → AllByRecursion IsFieldText fields → form_of_fields version fields ≡ Some form → IsSoundForm form
fields_form v [] form h e = absurd (none-some form e)
fields_form v (a ∷ []) form h e = absurd (none-some form e)
fields_form v (a ∷ b ∷ []) form h e = absurd (none-some form e)
fields_form v (a ∷ b ∷ c ∷ []) form h e = absurd (none-some form e)
fields_form v (a ∷ b ∷ c ∷ d ∷ []) form h e = port_form v b c d form (bytes_eq a (codes "IN")) (bytes_eq a (codes "OUT")) h.1.1.1.0 e
fields_form v (a ∷ b ∷ c ∷ d ∷ f ∷ []) form h e =
    let named = bind_some (version_named a) _ form e in
    version_by (bytes_eq b (codes "P") && bytes_eq d (codes "L")) c f (uncounted named.0) form named.2
fields_form v (a ∷ b ∷ c ∷ d ∷ f ∷ g ∷ []) form h e = net_form v b c d f g form (bytes_eq a (codes "NET")) h.1.1.1.1.0 e
fields_form v (a ∷ b ∷ c ∷ d ∷ f ∷ g ∷ i ∷ []) form h e =
    let named = bind_some (version_named a) _ form e in
    version_by (bytes_eq b (codes "P") && bytes_eq d (codes "L")) c f (count_in g i) form named.2
fields_form v (a ∷ b ∷ c ∷ d ∷ f ∷ g ∷ i ∷ j ∷ fields) form h e = absurd (none-some form e)

entry_form : (version : TableVersion) (entry : List ℕ) (forms : List PortForm) (o : Option PortForm) → HasNoFeed entry → form_of_fields version (slice_split (λ b. b == byte " ") entry) ≡ o → AllByRecursion IsSoundForm forms → AllByRecursion IsSoundForm (cons_option o forms)
entry_form v entry forms None h e hs = hs
entry_form v entry forms (Some form) h e hs = (fields_form v (slice_split (λ b. b == byte " ") entry) form (fields_are entry h) e, hs)

lines_forms : (version : TableVersion) (lines : List Line) → AllByRecursion IsFeedless lines → AllByRecursion IsSoundForm (filter_map (λ line. line.form) (filter_map (table_line version) lines))
lines_forms v [] h = tt
lines_forms v (line ∷ lines) h = by_entry (table_entry line) refl (lines_forms v lines h.1)
  where
    by_entry : (o : Option (List ℕ)) → table_entry line ≡ o → AllByRecursion IsSoundForm (filter_map (λ l. l.form) (filter_map (table_line v) lines)) → AllByRecursion IsSoundForm (filter_map (λ (l : TableLine). l.form) (cons_option (o >>= λ entry. Some (record { number = line.number; form = form_of_fields v (slice_split (λ b. b == byte " ") entry) })) (filter_map (table_line v) lines)))
    by_entry None e rest = rest
    by_entry (Some entry) e rest = entry_form v entry _ _ (feedless_after (codes "#C BLIFWW ") line.bytes entry e h.0) refl rest

sound_forms : (text : List ℕ) → AllByRecursion IsSoundForm (forms_of text)
sound_forms text = lines_forms (table_version text) (lines_before_header text) (feedless_before_header text)

-- the values of a table
sound_version : (forms : List PortForm) → AllByRecursion IsSoundForm forms → (period_in forms ≢ 0) × (period_in forms ≤ greatest_number) × (latency_in forms ≤ greatest_number) × (has_room (period_in forms) (contexts_in forms) ≡ true)
sound_version [] h = (λ e. omega (arith, e), omega arith, omega arith, refl)
sound_version (Version p l c ∷ forms) h = h.0
sound_version (In port ∷ forms) h = sound_version forms h.1
sound_version (Out port ∷ forms) h = sound_version forms h.1
sound_version (Net net ∷ forms) h = sound_version forms h.1

sound_ins : (forms : List PortForm) → AllByRecursion IsSoundForm forms → AllByRecursion IsSoundPort (filter_map input_of forms)
sound_ins [] h = tt
sound_ins (Version p l c ∷ forms) h = sound_ins forms h.1
sound_ins (In port ∷ forms) h = (h.0, sound_ins forms h.1)
sound_ins (Out port ∷ forms) h = sound_ins forms h.1
sound_ins (Net net ∷ forms) h = sound_ins forms h.1

sound_outs : (forms : List PortForm) → AllByRecursion IsSoundForm forms → AllByRecursion IsSoundPort (filter_map output_of forms)
sound_outs [] h = tt
sound_outs (Version p l c ∷ forms) h = sound_outs forms h.1
sound_outs (In port ∷ forms) h = sound_outs forms h.1
sound_outs (Out port ∷ forms) h = (h.0, sound_outs forms h.1)
sound_outs (Net net ∷ forms) h = sound_outs forms h.1

sound_nets : (forms : List PortForm) → AllByRecursion IsSoundForm forms → AllByRecursion IsSoundNet (filter_map net_of forms)
sound_nets [] h = tt
sound_nets (Version p l c ∷ forms) h = sound_nets forms h.1
sound_nets (In port ∷ forms) h = sound_nets forms h.1
sound_nets (Out port ∷ forms) h = sound_nets forms h.1
sound_nets (Net net ∷ forms) h = (h.0, sound_nets forms h.1)

-- no line is of a kind, a name and a path with a line before it
abbrev IsNew : List PortForm → List PortForm → Type 0
IsNew seen [] = Unit {0}
IsNew seen (form ∷ forms) = (list_any (is_same_port form) seen ≡ false) × IsNew (seen ++ form ∷ []) forms

not_twice : (misplaced outside twice : Bool) → (if misplaced then Some BadOrder else if outside then Some CellOutside else if twice then Some Twice else None) ≡ None → twice ≡ false
not_twice true outside twice e = absurd (none-some _ (sym e))
not_twice false true twice e = absurd (none-some _ (sym e))
not_twice false false true e = absurd (none-some _ (sym e))
not_twice false false false e = refl

form_new : (width height : ℕ) (before : List (Option PortForm)) (o : Option PortForm) (forms : List PortForm) → fault_of_form width height before o ≡ None → IsNew (forms_in (before ++ o ∷ [])) forms → IsNew (forms_in before) (cons_option o forms)
form_new width height before None forms e h = absurd (none-some _ (sym e))
form_new width height before (Some form) forms e h =
    (not_twice _ _ _ e, rw (← filter_map-append (λ line. line) before (Some form ∷ [])) h)

lines_new : (width height : ℕ) (before : List (Option PortForm)) (lines : List TableLine) → faults_after width height before lines ≡ [] → IsNew (forms_in before) (filter_map (λ line. line.form) lines)
lines_new width height before [] e = tt
lines_new width height before (line ∷ lines) e =
    let parts = no_first line.number (fault_of_form width height before line.form) _ e in
    form_new width height before line.form _ parts.0 (lines_new width height (before ++ line.form ∷ []) lines parts.1)

-- so the values of one kind are apart
module _ {X : Type 0} (of : PortForm → Option X) (R : X → X → Type 0) (apart : (form other : PortForm) (x y : X) → of form ≡ Some y → of other ≡ Some x → is_same_port form other ≡ false → R x y) where
  apart_from : (form : PortForm) (y : X) → of form ≡ Some y → (seen : List PortForm) → list_any (is_same_port form) seen ≡ false → All (λ x. R x y) (filter_map of seen)
  apart_from form y e [] h = All-nil (λ x. R x y)
  apart_from form y e (other ∷ seen) h =
      let parts = or_parts (is_same_port form other) (list_any (is_same_port form) seen) h in
      by_value (of other) refl parts.0 (apart_from form y e seen parts.1)
    where
      by_value : (o : Option X) → of other ≡ o → is_same_port form other ≡ false → All (λ x. R x y) (filter_map of seen) → All (λ x. R x y) (cons_option o (filter_map of seen))
      by_value None k new rest = rest
      by_value (Some x) k new rest = All-cons (λ x. R x y) x (filter_map of seen) (apart form other x y e k new) rest

  apart_with : (seen : List PortForm) (form : PortForm) → list_any (is_same_port form) seen ≡ false → AllPairs R (filter_map of seen) → AllPairs R (filter_map of (seen ++ form ∷ []))
  apart_with seen form new h = rw (filter_map-append of seen (form ∷ [])) (by_value (of form) refl)
    where
      by_value : (o : Option X) → of form ≡ o → AllPairs R (filter_map of seen ++ cons_option o [])
      by_value None k = rw (append-nil (filter_map of seen)) h
      by_value (Some y) k = all_pairs_push R (filter_map of seen) y h (apart_from form y k seen new)

  pub all_apart : (seen forms : List PortForm) → IsNew seen forms → AllPairs R (filter_map of seen) → AllPairs R (filter_map of (seen ++ forms))
  all_apart seen [] new h = rw (append-nil seen) h
  all_apart seen (form ∷ forms) new h =
      rw (← append_assoc seen (form ∷ []) forms) (all_apart (seen ++ form ∷ []) forms new.1 (apart_with seen form new.0 h))

other_names : (a b : List ℕ) → bytes_eq a b ≡ false → b ≢ a
other_names a b e same = let h : bytes_eq a b ≡ true = (bytes_eq-Decides a b).1 (sym same) in cc

other_inputs : (form other : PortForm) (x y : PortLine) → input_of form ≡ Some y → input_of other ≡ Some x → is_same_port form other ≡ false → x.name ≢ y.name
other_inputs (In a) (In b) x y e k h = let p : a ≡ y = cc in let q : b ≡ x = cc in rw (← p, ← q) (other_names a.name b.name h)
other_inputs (Version p l c) other x y e k h = absurd (none-some _ e)
other_inputs (Out a) other x y e k h = absurd (none-some _ e)
other_inputs (Net a) other x y e k h = absurd (none-some _ e)
other_inputs (In a) (Version p l c) x y e k h = absurd (none-some _ k)
other_inputs (In a) (Out b) x y e k h = absurd (none-some _ k)
other_inputs (In a) (Net b) x y e k h = absurd (none-some _ k)

other_outputs : (form other : PortForm) (x y : PortLine) → output_of form ≡ Some y → output_of other ≡ Some x → is_same_port form other ≡ false → x.name ≢ y.name
other_outputs (Out a) (Out b) x y e k h = let p : a ≡ y = cc in let q : b ≡ x = cc in rw (← p, ← q) (other_names a.name b.name h)
other_outputs (Version p l c) other x y e k h = absurd (none-some _ e)
other_outputs (In a) other x y e k h = absurd (none-some _ e)
other_outputs (Net a) other x y e k h = absurd (none-some _ e)
other_outputs (Out a) (Version p l c) x y e k h = absurd (none-some _ k)
other_outputs (Out a) (In b) x y e k h = absurd (none-some _ k)
other_outputs (Out a) (Net b) x y e k h = absurd (none-some _ k)

other_paths : (a b : NetLine) → (bytes_eq a.name b.name && bytes_eq a.path b.path) ≡ false → b.name ≡ a.name → b.path ≢ a.path
other_paths a b e name path =
    let h : bytes_eq a.name b.name ≡ true = (bytes_eq-Decides a.name b.name).1 (sym name) in
    let k : bytes_eq a.path b.path ≡ true = (bytes_eq-Decides a.path b.path).1 (sym path) in
    none (bytes_eq a.name b.name) (bytes_eq a.path b.path) h k e
  where
    none : (s t : Bool) → s ≡ true → t ≡ true → (s && t) ≡ false → ⊥
    none true true h k e = absurd (cc)
    none true false h k e = absurd (cc)
    none false t h k e = absurd (cc)

other_nets : (form other : PortForm) (x y : NetLine) → net_of form ≡ Some y → net_of other ≡ Some x → is_same_port form other ≡ false → x.name ≡ y.name → x.path ≢ y.path
other_nets (Net a) (Net b) x y e k h = let p : a ≡ y = cc in let q : b ≡ x = cc in rw (← p, ← q) (other_paths a b h)
other_nets (Version p l c) other x y e k h = absurd (none-some _ e)
other_nets (In a) other x y e k h = absurd (none-some _ e)
other_nets (Out a) other x y e k h = absurd (none-some _ e)
other_nets (Net a) (Version p l c) x y e k h = absurd (none-some _ k)
other_nets (Net a) (In b) x y e k h = absurd (none-some _ k)
other_nets (Net a) (Out b) x y e k h = absurd (none-some _ k)

no_pairs : {X : Type 0} (R : X → X → Type 0) → AllPairs R []
no_pairs R i j d below l = absurd (omega (arith, l))

pub sound_table : (text : List ℕ) (width height : ℕ) → HasSoundTable text width height
sound_table text width height ports h =
    let forms = forms_of text in
    let sound = sound_forms text in
    let new = lines_new width height [] (table_of text) h.no_fault in
    let version = sound_version forms sound in
    let room = room_is (period_in forms) (contexts_in forms) version.3 in
    rw (h.ports_is) (record {
      period = version.0;
      p = version.1;
      l = version.2;
      contexts = λ none. omega (arith, none, room);
      room = λ more. omega (arith, more, room);
      ins = sound_ins forms sound;
      outs = sound_outs forms sound;
      nets = sound_nets forms sound;
      one_input = all_apart input_of (λ a b. a.name ≢ b.name) other_inputs [] forms new (no_pairs (λ a b. a.name ≢ b.name));
      one_output = all_apart output_of (λ a b. a.name ≢ b.name) other_outputs [] forms new (no_pairs (λ a b. a.name ≢ b.name));
      one_net = all_apart net_of (λ a b. a.name ≡ b.name → a.path ≢ b.path) other_nets [] forms new (no_pairs (λ a b. a.name ≡ b.name → a.path ≢ b.path));
    })
