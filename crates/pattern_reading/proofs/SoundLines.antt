-- The lines of a sound table whose cells lie in a box can be spelled, and none of them is at fault.
use Rattle.std.proofs.Common.{ℕ, ◌+◌, ◌*◌, ◌^◌, ◌≤◌, ◌<◌, ◌≡◌, ◌≢◌, refl, sym, ap, ◌∙◌, Bool, true, false, not, ◌&&◌, List, [], ◌∷◌, ◌++◌, map, length, get_or, append_assoc, subst, arith}
use Rattle.std.specs.Prelude.{nat_le, nat_lt, ◌||◌, ◌==◌, Option, Some, None, filter_map}
use Rattle.std.specs.List.{All, AllByRecursion, AllPairs, list_any}
use Rattle.std.specs.Str.{bytes_eq}
use Rattle.std.proofs.lemmas.Bool.{eqb-false, le-leb, lt-ltb, ne_eqb}
use Rattle.std.proofs.lemmas.List.{append-nil, get_or_append_left, length-append}
use Rattle.std.proofs.Math.Seq.{get_or-append_seam}
use Rattle.std.proofs.lemmas.List.Elements.{All-head, All-tail, filter_map-append}
use Rattle.std.proofs.lemmas.Slice.Eq.{bytes_eq-Decides}
use Rattle.pattern_reading.specs.declared.ports.PortLine.{PortLine}
use Rattle.pattern_reading.specs.declared.ports.NetLine.{NetLine}
use Rattle.pattern_reading.specs.declared.ports.Ports.{Ports}
use Rattle.pattern_reading.specs.Numbers.{greatest_number}
use Rattle.pattern_reading.specs.PortLines.{PortForm, Version, In, Out, Net, has_room}
use Rattle.pattern_reading.specs.PortTable.{fault_of_form, input_of, is_outside, is_same_port, is_version, net_of, output_of}
use Rattle.pattern_reading.specs.Laws.{IsNetInside, IsPortInside}
use Rattle.pattern_reading.specs.Spelling.{IsPortName, IsSoundAfter, IsSpellable}
use Rattle.pattern_reading.specs.SoundTable.{HasSoundLines, HasSpellableLines, IsSoundNet, IsSoundPort}
use Rattle.lists.proofs.Names.{bytes_eq-other}
use Rattle.pattern_reading.proofs.PortForms.{none_of}

-- the lines can be spelled
small : (n : ℕ) → n ≤ greatest_number → n < 2 ^ 64
small n h = omega (arith, h)

module _ (form : PortLine → PortForm) (spellable : (port : PortLine) → (port.x < 2 ^ 64) × (port.y < 2 ^ 64) × IsPortName port.name → IsSpellable (form port)) where
  ports_spellable : (ports : List PortLine) (forms : List PortForm) → AllByRecursion IsSoundPort ports → AllByRecursion IsSpellable forms → AllByRecursion IsSpellable (map form ports ++ forms)
  ports_spellable [] forms h rest = rest
  ports_spellable (port ∷ ports) forms h rest =
      (spellable port (small port.x h.0.x, small port.y h.0.y, h.0.name), ports_spellable ports forms h.1 rest)

nets_spellable : (nets : List NetLine) → AllByRecursion IsSoundNet nets → AllByRecursion IsSpellable (map Net nets)
nets_spellable [] h = tt
nets_spellable (net ∷ nets) h =
    ((small net.x h.0.x, small net.y h.0.y, small net.offset h.0.offset, h.0.name, h.0.path), nets_spellable nets h.1)

three_kinds : (ins outs : List PortLine) (nets : List NetLine) → map In ins ++ map Out outs ++ map Net nets ≡ map In ins ++ (map Out outs ++ map Net nets)
three_kinds ins outs nets = append_assoc (map In ins) (map Out outs) (map Net nets)

-- contexts that have room
room_of : (p c : ℕ) → c ≢ 0 → (1 < c → 32 * c ≤ p) → has_room p c ≡ true
room_of p c some room = by_one (c == 1) refl
  where
    by_one : (one : Bool) → (c == 1) ≡ one → (one || (not (c == 0) && nat_le (32 * c) p)) ≡ true
    by_one true e = refl
    by_one false e = rw (ne_eqb c 0 some, le-leb (32 * c) p (room (omega (arith, some, eqb-false c 1 e)))) refl

pub spellable_lines : (ports : Ports) → HasSpellableLines ports
spellable_lines ports h = (
  (h.period, small ports.p h.p, small ports.l h.l, room_of ports.p ports.c h.contexts h.room),
  rw (three_kinds ports.ins ports.outs ports.nets) (
      ports_spellable In (λ port s. s) ports.ins (map Out ports.outs ++ map Net ports.nets) h.ins (
      ports_spellable Out (λ port s. s) ports.outs (map Net ports.nets) h.outs (nets_spellable ports.nets h.nets))),
)

-- none is at fault
abbrev pub forms_in : List (Option PortForm) → List PortForm
forms_in before = filter_map (λ line. line) before

-- what is apart from all later ones is apart from one after it
apart_before : {X : Type 0} (R : X → X → Type 0) (xs : List X) (y : X) (ys : List X) → AllPairs R (xs ++ y ∷ ys) → All (λ x. R x y) xs
apart_before R xs y ys h k d l =
    let n : length (xs ++ y ∷ ys) ≡ length xs + length (y ∷ ys) = length-append xs (y ∷ ys) in
    let in_list : length xs < length (xs ++ y ∷ ys) = omega (arith, n) in
    subst (λ x. R x y) (get_or_append_left xs (y ∷ ys) d k l) (subst (λ z. R (get_or (xs ++ y ∷ ys) k d) z) (get_or-append_seam xs y ys d) (h k (length xs) d l in_list))

-- lines of one kind, after a first line and others
module _ (width height : ℕ) {X : Type 0} (form : X → PortForm) (of : PortForm → Option X) (IsInside : X → Type 0) (R : X → X → Type 0) (is_of : (x : X) → of (form x) ≡ Some x) (is_other : (x : X) → is_version (form x) ≡ false) (inside : (x : X) → IsInside x → is_outside width height (form x) ≡ false) (new : (x : X) (seen : List PortForm) → All (λ y. R y x) (filter_map of seen) → list_any (is_same_port (form x)) seen ≡ false) where
  no_fault : (first : Option PortForm) (before : List (Option PortForm)) (x : X) → IsInside x → All (λ y. R y x) (filter_map of (forms_in (first ∷ before))) → fault_of_form width height (first ∷ before) (Some (form x)) ≡ None
  no_fault first before x h k = rw (is_other x, inside x h, new x (forms_in (first ∷ before)) k) refl

  one_more : (before : List (Option PortForm)) (x : X) (xs : List X) → filter_map of (forms_in before) ++ (x ∷ xs) ≡ filter_map of (forms_in (before ++ Some (form x) ∷ [])) ++ xs
  one_more before x xs =
      sym (append_assoc (filter_map of (forms_in before)) (x ∷ []) xs)
      ∙ ap (λ l. l ++ xs) (sym (ap (filter_map of) (filter_map-append (λ line. line) before (Some (form x) ∷ [])) ∙ filter_map-append of (forms_in before) (form x ∷ []) ∙ rw (is_of x) refl))

  pub one_kind : (first : Option PortForm) (before : List (Option PortForm)) (xs : List X) (forms : List PortForm) → AllByRecursion IsInside xs → AllPairs R (filter_map of (forms_in (first ∷ before)) ++ xs) → IsSoundAfter width height (first ∷ (before ++ map (λ x. Some (form x)) xs)) forms → IsSoundAfter width height (first ∷ before) (map form xs ++ forms)
  one_kind first before [] forms h pairs rest = subst (λ l. IsSoundAfter width height (first ∷ l) forms) (append-nil before) rest
  one_kind first before (x ∷ xs) forms h pairs rest = (
    no_fault first before x h.0 (apart_before R (filter_map of (forms_in (first ∷ before))) x xs pairs),
    one_kind first (before ++ Some (form x) ∷ []) xs forms h.1 (subst (AllPairs R) (one_more (first ∷ before) x xs) pairs) (subst (λ l. IsSoundAfter width height (first ∷ l) forms) (sym (append_assoc before (Some (form x) ∷ []) (map (λ y. Some (form y)) xs))) rest),
  )

forms_of_kind : {X : Type 0} (form : X → PortForm) (xs : List X) → forms_in (map (λ x. Some (form x)) xs) ≡ map form xs
forms_of_kind form [] = refl
forms_of_kind form (x ∷ xs) = ap (λ l. form x ∷ l) (forms_of_kind form xs)

within : (x y width height : ℕ) → (x < width) × (y < height) → not (nat_lt x width && nat_lt y height) ≡ false
within x y width height h = rw (lt-ltb x width h.0, lt-ltb y height h.1) refl

new_input : (port : PortLine) (seen : List PortForm) → All (λ a. a.name ≢ port.name) (filter_map input_of seen) → list_any (is_same_port (In port)) seen ≡ false
new_input port [] h = refl
new_input port (Version p l c ∷ seen) h = new_input port seen h
new_input port (In a ∷ seen) h =
    rw (bytes_eq-other port.name a.name (λ e. All-head (λ a. a.name ≢ port.name) a (filter_map input_of seen) h (sym e))) (new_input port seen (All-tail (λ a. a.name ≢ port.name) a (filter_map input_of seen) h))
new_input port (Out a ∷ seen) h = new_input port seen h
new_input port (Net a ∷ seen) h = new_input port seen h

new_output : (port : PortLine) (seen : List PortForm) → All (λ a. a.name ≢ port.name) (filter_map output_of seen) → list_any (is_same_port (Out port)) seen ≡ false
new_output port [] h = refl
new_output port (Version p l c ∷ seen) h = new_output port seen h
new_output port (In a ∷ seen) h = new_output port seen h
new_output port (Out a ∷ seen) h =
    rw (bytes_eq-other port.name a.name (λ e. All-head (λ a. a.name ≢ port.name) a (filter_map output_of seen) h (sym e))) (new_output port seen (All-tail (λ a. a.name ≢ port.name) a (filter_map output_of seen) h))
new_output port (Net a ∷ seen) h = new_output port seen h

other_net : (net a : NetLine) → (a.name ≡ net.name → a.path ≢ net.path) → (bytes_eq net.name a.name && bytes_eq net.path a.path) ≡ false
other_net net a h = by_name (bytes_eq net.name a.name) refl
  where
    by_name : (t : Bool) → bytes_eq net.name a.name ≡ t → (t && bytes_eq net.path a.path) ≡ false
    by_name false e = refl
    by_name true e = bytes_eq-other net.path a.path (λ same. h (sym ((bytes_eq-Decides net.name a.name).0 e)) (sym same))

new_net : (net : NetLine) (seen : List PortForm) → All (λ a. a.name ≡ net.name → a.path ≢ net.path) (filter_map net_of seen) → list_any (is_same_port (Net net)) seen ≡ false
new_net net [] h = refl
new_net net (Version p l c ∷ seen) h = new_net net seen h
new_net net (In a ∷ seen) h = new_net net seen h
new_net net (Out a ∷ seen) h = new_net net seen h
new_net net (Net a ∷ seen) h =
    rw (other_net net a (All-head (λ a. a.name ≡ net.name → a.path ≢ net.path) a (filter_map net_of seen) h)) (new_net net seen (All-tail (λ a. a.name ≡ net.name → a.path ≢ net.path) a (filter_map net_of seen) h))

no_outputs : (p l c : ℕ) (ins : List PortLine) → filter_map output_of (forms_in (Some (Version p l c) ∷ map (λ x. Some (In x)) ins)) ≡ []
no_outputs p l c ins = ap (filter_map output_of) (forms_of_kind In ins) ∙ none_of output_of In (λ x. refl) ins

no_nets : (p l c : ℕ) (ins outs : List PortLine) → filter_map net_of (forms_in (Some (Version p l c) ∷ (map (λ x. Some (In x)) ins ++ map (λ x. Some (Out x)) outs))) ≡ []
no_nets p l c ins outs =
    ap (filter_map net_of) (filter_map-append (λ line. line) (map (λ x. Some (In x)) ins) (map (λ x. Some (Out x)) outs))
    ∙ filter_map-append net_of (forms_in (map (λ x. Some (In x)) ins)) (forms_in (map (λ x. Some (Out x)) outs))
    ∙ rw (forms_of_kind In ins, forms_of_kind Out outs, none_of net_of In (λ x. refl) ins, none_of net_of Out (λ x. refl) outs) refl

pub sound_lines : (width height : ℕ) (ports : Ports) → HasSoundLines width height ports
sound_lines width height ports h k =
    let first : Option PortForm = Some (Version ports.p ports.l ports.c) in
    let ins : List (Option PortForm) = map (λ x. Some (In x)) ports.ins in
    let outs : List (Option PortForm) = map (λ x. Some (Out x)) ports.outs in
    let nets = one_kind width height Net net_of (IsNetInside width height) (λ a b. a.name ≡ b.name → a.path ≢ b.path) (λ x. refl) (λ x. refl) (λ net i. within net.x net.y width height i) new_net first (ins ++ outs) ports.nets [] k.nets (rw (no_nets ports.p ports.l ports.c ports.ins ports.outs) h.one_net) tt in
    let outputs = one_kind width height Out output_of (IsPortInside width height) (λ a b. a.name ≢ b.name) (λ x. refl) (λ x. refl) (λ port i. within port.x port.y width height i) new_output first ins ports.outs (map Net ports.nets ++ []) k.outs (rw (no_outputs ports.p ports.l ports.c ports.ins) h.one_output) nets in
    let inputs = one_kind width height In input_of (IsPortInside width height) (λ a b. a.name ≢ b.name) (λ x. refl) (λ x. refl) (λ port i. within port.x port.y width height i) new_input first [] ports.ins (map Out ports.outs ++ (map Net ports.nets ++ [])) k.ins h.one_input outputs in
    (refl, subst (IsSoundAfter width height (first ∷ [])) (ap (λ l. map In ports.ins ++ (map Out ports.outs ++ l)) (append-nil (map Net ports.nets)) ∙ sym (three_kinds ports.ins ports.outs ports.nets)) inputs)
