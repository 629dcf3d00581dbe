-- The list of places has each place once, that of names each name, that of nets each net.
use Rattle.std.proofs.Common.{ℕ, zero, suc, ◌≡◌, ◌≢◌, ◌<◌, ◌+◌, ◌⊎◌, inl, inr, List, [], ◌∷◌, ◌++◌, Bool, true, false, cond, Option, Some, None, slice_get, map, flat_map, length, option_and_then, option_to_list, nat_le, bytes_eq, is_some, refl, sym, ap, ap₂, ◌∙◌, subst, arith, true≢false}
use Rattle.std.proofs.lemmas.Slice.Eq.{bytes_eq-Decides}
use Rattle.std.proofs.lemmas.Option.{none-some, same_Some}
use Rattle.std.proofs.lemmas.List.{map-append}
use Rattle.netlist_core.specs.declared.model.Design.{Design}
use Rattle.netlist_core.specs.declared.model.Model.{Model}
use Rattle.netlist_core.specs.declared.model.Port.{Port}
use Rattle.netlist_core.specs.declared.model.Cover.{Cover}
use Rattle.netlist_core.specs.declared.model.LatchRow.{LatchRow}
use Rattle.netlist_core.specs.declared.model.Pin.{Pin}
use Rattle.netlist_core.specs.declared.model.Subckt.{Subckt}
use Rattle.netlist_core.specs.Names.{Name, model_named, port_names, at_line}
use Rattle.netlist_meaning.specs.Places.{Place, main_model, model_placed, model_below, model_at, IsBefore}
use Rattle.netlist_meaning.specs.Nets.{Net, net_at, model_names, IsNet}
use Rattle.netlist_meaning.specs.Laws.{IsNotRecursive}
use Rattle.netlist_meaning.proofs.Names.{and_then-from}
use Rattle.netlist_meaning.proofs.Depth.{places_are_shallow, some_from}
use Rattle.netlist_meaning.proofs.PlaceOrder.{places_are_ordered}
use Rattle.lists.proofs.Members.{In, in_left, in_right, in_parts, in_map, in_mapped, in_flat, in_flattened, in_from, contains_from}
use Rattle.netlist_meaning.specs.InOrder.{of_some, places_in_lines, places_below, places_in_order, cover_words, latch_words, subckt_words, model_words, put_by_line, by_line, cons_unless, without_name, first_names, names_in_order, nets_at, nets_in_order}
use Rattle.flat_designs.specs.Laws.{PlacesAreListed, NamesAreListed, NetsAreListed}
use Rattle.flat_designs.proofs.Lists.{Pairs, all_pairs, pairs_append, pairs_map, pairs_flat, pairs_weaken}
use Rattle.netlist_rules.proofs.Faultless.{port_name}

-- a place inside one of some lines
pub record InLine (places : Subckt → List Place) (first : ℕ) (lines : List Subckt) (place : Place) : Type 0 where
  pub number : ℕ
  pub inner : Place
  pub at : ℕ
  pub line : Subckt
  pub is_place : place ≡ number ∷ inner
  pub is_number : number ≡ first + at
  pub is_line : slice_get lines at ≡ Some line
  pub is_inside : In inner (places line)

pub in_line : (places : Subckt → List Place) (first : ℕ) (lines : List Subckt) (place : Place) → In place (places_in_lines places first lines) → InLine places first lines place
in_line places first [] place i = absurd i
in_line places first (line ∷ lines) place i = elim (in_parts (map (λ inner. first ∷ inner) (places line)) (places_in_lines places (suc first) lines) place i) as (λ _. InLine places first (line ∷ lines) place) [
  | inl a ↦
      let (inner, j, e) = in_mapped (λ inner. first ∷ inner) (places line) place a in
      record { number = first; inner = inner; at = 0; line = line; is_place = e; is_number = omega arith; is_line = refl; is_inside = j }
  | inr b ↦
      let r : InLine places (suc first) lines place = in_line places (suc first) lines place b in
      record { number = r.number; inner = r.inner; at = suc r.at; line = r.line; is_place = r.is_place; is_number = (let e : r.number ≡ suc first + r.at = r.is_number in omega arith); is_line = r.is_line; is_inside = r.is_inside }
]

pub from_line : (places : Subckt → List Place) (first : ℕ) (lines : List Subckt) (number at : ℕ) (line : Subckt) (inner : Place) → number ≡ first + at → slice_get lines at ≡ Some line → In inner (places line) → In (number ∷ inner) (places_in_lines places first lines)
from_line places first [] number at line inner e g i = absurd (none-some line g)
from_line places first (x ∷ lines) number zero line inner e g i =
    let same : first ≡ number = omega arith in
    in_left _ (places_in_lines places (suc first) lines) (number ∷ inner) (subst (λ v. In (v ∷ inner) (map (λ p. first ∷ p) (places x))) same (in_map (λ p. first ∷ p) (places x) inner (subst (λ v. In inner (places v)) (sym (same_Some _ _ g)) i)))
from_line places first (x ∷ lines) number (suc at) line inner e g i =
    in_right (map (λ p. first ∷ p) (places x)) (places_in_lines places (suc first) lines) (number ∷ inner) (from_line places (suc first) lines number at line inner (omega arith) g i)

-- a place in the list is one of the models below
is_below : (design : Design) (depth : ℕ) (model : Model) (place : Place) → In place (places_below design depth model) → (b : Model) × (model_below design place model ≡ Some b)
is_below design zero model place i = absurd i
is_below design (suc depth) model place (inl e) = (model, ap (λ p. model_below design p model) e)
is_below design (suc depth) model place (inr j) =
    let r = in_line (λ line. of_some (places_below design depth) (model_named design.models line.model)) 0 model.subckts place j in
    let (inner, is_inner, i) = named r.inner (model_named design.models r.line.model) r.is_inside in
    let (b, is_b) = is_below design depth inner r.inner i in
    let is_line : slice_get model.subckts r.number ≡ Some r.line = (let same : r.number ≡ r.at = (let e : r.number ≡ 0 + r.at = r.is_number in omega arith) in ap (slice_get model.subckts) same) ∙ r.is_line in
    (b, ap (λ p. model_below design p model) r.is_place ∙ ap (λ o. option_and_then (model_below design r.inner) (option_and_then (λ (l : Subckt). model_named design.models l.model) o)) is_line ∙ ap (option_and_then (model_below design r.inner)) is_inner ∙ is_b)
  where
    named : (q : Place) (o : Option Model) → In q (of_some (places_below design depth) o) → (inner : Model) × (o ≡ Some inner) × In q (places_below design depth inner)
    named q None i = absurd i
    named q (Some m) i = (m, refl, i)

is_listed : (design : Design) (depth : ℕ) (model : Model) (place : Place) (b : Model) → model_below design place model ≡ Some b → length place < depth → In place (places_below design depth model)
is_listed design zero model place b e l = absurd (omega arith)
is_listed design (suc depth) model [] b e l = inl refl
is_listed design (suc depth) model (number ∷ place) b e l =
    let (inner, is_inner, is_b) = and_then-from (model_below design place) (model_placed design model number) b e in
    let (line, is_line, is_named) = and_then-from (λ (l : Subckt). model_named design.models l.model) (slice_get model.subckts number) inner is_inner in
    let i : In place (places_below design depth inner) = is_listed design depth inner place b is_b (omega arith) in
    inr (from_line (λ line. of_some (places_below design depth) (model_named design.models line.model)) 0 model.subckts number number line place (omega arith) is_line (subst (λ o. In place (of_some (places_below design depth) o)) (sym is_named) i))

-- they ascend
lines_ascend : (places : Subckt → List Place) (first : ℕ) (lines : List Subckt) → ((line : Subckt) → Pairs IsBefore (places line)) → Pairs IsBefore (places_in_lines places first lines)
lines_ascend places first [] each = tt
lines_ascend places first (line ∷ lines) each =
    pairs_append IsBefore (map (λ p. first ∷ p) (places line)) (places_in_lines places (suc first) lines)
    (pairs_map IsBefore IsBefore (λ p. first ∷ p) (places line) (λ a b h. inr (refl, h)) (each line))
    (lines_ascend places (suc first) lines each)
    cross
  where
    cross : (p q : Place) → In p (map (λ p. first ∷ p) (places line)) → In q (places_in_lines places (suc first) lines) → IsBefore p q
    cross p q i j =
        let (inner, _, e) = in_mapped (λ p. first ∷ p) (places line) p i in
        let r : InLine places (suc first) lines q = in_line places (suc first) lines q j in
        let n : r.number ≡ suc first + r.at = r.is_number in
        let less : first < r.number = omega arith in
        subst (λ v. IsBefore v q) (sym e) (subst (λ v. IsBefore (first ∷ inner) v) (sym r.is_place) (inl less))

ascend_below : (design : Design) (depth : ℕ) (model : Model) → Pairs IsBefore (places_below design depth model)
ascend_below design zero model = tt
ascend_below design (suc depth) model = (later, lines_ascend inside 0 model.subckts (λ line. named (model_named design.models line.model) (λ m. ascend_below design depth m)))
  where
    inside : Subckt → List Place
    inside line = of_some (places_below design depth) (model_named design.models line.model)

    named : (o : Option Model) → ((m : Model) → Pairs IsBefore (places_below design depth m)) → Pairs IsBefore (of_some (places_below design depth) o)
    named None each = tt
    named (Some m) each = each m

    later : (y : Place) → In y (places_in_lines inside 0 model.subckts) → IsBefore [] y
    later y i = let r : InLine inside 0 model.subckts y = in_line inside 0 model.subckts y i in subst (λ v. IsBefore [] v) (sym r.is_place) tt

pub ascend : (design : Design) → Pairs IsBefore (places_in_order design)
ascend design = by (main_model design)
  where
    by : (o : Option Model) → Pairs IsBefore (of_some (places_below design (length design.models)) o)
    by None = tt
    by (Some m) = ascend_below design (length design.models) m

pub place_is : (design : Design) (place : Place) → In place (places_in_order design) → (b : Model) × (model_at design place ≡ Some b)
place_is design place i = by (main_model design) i
  where
    by : (o : Option Model) → In place (of_some (places_below design (length design.models)) o) → (b : Model) × (option_and_then (model_below design place) o ≡ Some b)
    by None i = absurd i
    by (Some m) i = is_below design (length design.models) m place i

pub place_listed : (design : Design) → IsNotRecursive design → (place : Place) (b : Model) → model_at design place ≡ Some b → In place (places_in_order design)
place_listed design away place b e =
    let (main, is_main, is_b) = and_then-from (model_below design place) (main_model design) b e in
    let short : length place < length design.models = places_are_shallow design away place (ap is_some e) in
    subst (λ o. In place (of_some (places_below design (length design.models)) o)) (sym is_main) (is_listed design (length design.models) main place b is_b short)

pub places_are_listed : PlacesAreListed
places_are_listed design away = record {
  all = λ place. ((λ c. let (b, e) = place_is design place (in_from _ place c) in ap is_some e), (λ s. let (b, e) = some_from (model_at design place) s in contains_from _ place (place_listed design away place b e)));
  ascend = all_pairs IsBefore (places_in_order design) (ascend design);
}

-- names without_name one
in_without : (name : Name) (names : List Name) (x : Name) → In x (without_name name names) → In x names × (name ≢ x)
in_without name [] x i = absurd i
in_without name (other ∷ names) x i = by (bytes_eq name other) refl i (in_without name names x)
  where
    by : (b : Bool) → bytes_eq name other ≡ b → In x (cons_unless b other (without_name name names)) → (In x (without_name name names) → In x names × (name ≢ x)) → In x (other ∷ names) × (name ≢ x)
    by true h i rest = (inr (rest i).0, (rest i).1)
    by false h (inl e) rest = (inl e, λ s. true≢false (sym ((bytes_eq-Decides name other).1 (s ∙ e)) ∙ h))
    by false h (inr j) rest = (inr (rest j).0, (rest j).1)

without_in : (name : Name) (names : List Name) (x : Name) → In x names → name ≢ x → In x (without_name name names)
without_in name [] x i apart = absurd i
without_in name (other ∷ names) x i apart = by (bytes_eq name other) refl i (λ j. without_in name names x j apart)
  where
    by : (b : Bool) → bytes_eq name other ≡ b → In x (other ∷ names) → (In x names → In x (without_name name names)) → In x (cons_unless b other (without_name name names))
    by true h (inl e) rest = absurd (apart ((bytes_eq-Decides name other).0 h ∙ sym e))
    by true h (inr j) rest = rest j
    by false h (inl e) rest = inl e
    by false h (inr j) rest = inr (rest j)

pairs_without : (R : Name → Name → Type 0) (name : Name) (names : List Name) → Pairs R names → Pairs R (without_name name names)
pairs_without R name [] h = tt
pairs_without R name (other ∷ names) h = by (bytes_eq name other) (pairs_without R name names h.1)
  where
    by : (b : Bool) → Pairs R (without_name name names) → Pairs R (cons_unless b other (without_name name names))
    by true rest = rest
    by false rest = ((λ y i. h.0 y (in_without name names y i).0), rest)

in_firsts : (names : List Name) (x : Name) → In x (first_names names) → In x names
in_firsts [] x i = i
in_firsts (name ∷ names) x (inl e) = inl e
in_firsts (name ∷ names) x (inr j) = inr (in_firsts names x (in_without name (first_names names) x j).0)

firsts_in : (names : List Name) (x : Name) → In x names → In x (first_names names)
firsts_in [] x i = i
firsts_in (name ∷ names) x (inl e) = inl e
firsts_in (name ∷ names) x (inr j) = by (bytes_eq name x) refl (firsts_in names x j)
  where
    by : (b : Bool) → bytes_eq name x ≡ b → In x (first_names names) → In x (name ∷ without_name name (first_names names))
    by true h i = inl (sym ((bytes_eq-Decides name x).0 h))
    by false h i = inr (without_in name (first_names names) x i (λ s. true≢false (sym ((bytes_eq-Decides name x).1 s) ∙ h)))

firsts_once : (names : List Name) → Pairs (λ a b. a ≢ b) (first_names names)
firsts_once [] = tt
firsts_once (name ∷ names) = ((λ y i. (in_without name (first_names names) y i).1), pairs_without (λ a b. a ≢ b) name (first_names names) (firsts_once names))

-- words by line are the same words
pub in_put : (word : Port) (words : List Port) (p : Port) → In p (put_by_line word words) → In p (word ∷ words)
in_put word [] p i = i
in_put word (next ∷ words) p i = by (nat_le word.line next.line) i (in_put word words p)
  where
    by : (b : Bool) → In p (cond b (word ∷ next ∷ words) (next ∷ put_by_line word words)) → (In p (put_by_line word words) → In p (word ∷ words)) → In p (word ∷ next ∷ words)
    by true i rest = i
    by false (inl e) rest = inr (inl e)
    by false (inr j) rest = elim (rest j) as (λ _. In p (word ∷ next ∷ words)) [ inl e ↦ inl e | inr k ↦ inr (inr k) ]

put_in : (word : Port) (words : List Port) (p : Port) → In p (word ∷ words) → In p (put_by_line word words)
put_in word [] p i = i
put_in word (next ∷ words) p i = by (nat_le word.line next.line) i (put_in word words p)
  where
    by : (b : Bool) → In p (word ∷ next ∷ words) → (In p (word ∷ words) → In p (put_by_line word words)) → In p (cond b (word ∷ next ∷ words) (next ∷ put_by_line word words))
    by true i rest = i
    by false (inl e) rest = inr (rest (inl e))
    by false (inr (inl e)) rest = inl e
    by false (inr (inr k)) rest = inr (rest (inr k))

in_by_line : (words : List Port) (p : Port) → In p (by_line words) → In p words
in_by_line [] p i = i
in_by_line (word ∷ words) p i = elim (in_put word (by_line words) p i) as (λ _. In p (word ∷ words)) [ inl e ↦ inl e | inr j ↦ inr (in_by_line words p j) ]

by_line_in : (words : List Port) (p : Port) → In p words → In p (by_line words)
by_line_in [] p i = i
by_line_in (word ∷ words) p (inl e) = put_in word (by_line words) p (inl e)
by_line_in (word ∷ words) p (inr j) = put_in word (by_line words) p (inr (by_line_in words p j))

-- the words of a model have its names
names_both : (ps qs : List Port) (xs ys : List Name) → port_names ps ≡ xs → port_names qs ≡ ys → port_names (ps ++ qs) ≡ xs ++ ys
names_both ps qs xs ys e f = map-append (λ (p : Port). p.name) ps qs ∙ ap₂ (λ a b. a ++ b) e f

names_flat : {X : Type 0} (f : X → List Port) (g : X → List Name) → ((x : X) → port_names (f x) ≡ g x) → (xs : List X) → port_names (flat_map f xs) ≡ flat_map g xs
names_flat f g each [] = refl
names_flat f g each (x ∷ xs) = names_both (f x) (flat_map f xs) (g x) (flat_map g xs) (each x) (names_flat f g each xs)

at_lines : (line : ℕ) (names : List Name) → port_names (map (at_line line) names) ≡ names
at_lines line [] = refl
at_lines line (name ∷ names) = ap (λ ns. name ∷ ns) (at_lines line names)

pin_lines : (line : ℕ) (pins : List Pin) → port_names (map (λ (pin : Pin). at_line line pin.actual) pins) ≡ map (λ (pin : Pin). pin.actual) pins
pin_lines line [] = refl
pin_lines line (pin ∷ pins) = ap (λ ns. pin.actual ∷ ns) (pin_lines line pins)

words_are_names : (m : Model) → port_names (model_words m) ≡ model_names m
words_are_names m =
    names_both _ (flat_map subckt_words m.subckts) _ _ (names_both _ (flat_map latch_words m.latches) _ _ (names_both _ (flat_map cover_words m.covers) _ _ (names_both (m.ins ++ m.outs) m.clocks _ _ (names_both m.ins m.outs _ _ refl refl) refl)
    (names_flat cover_words (λ (c : Cover). c.ins ++ c.out ∷ []) (λ (c : Cover). at_lines c.line (c.ins ++ c.out ∷ [])) m.covers))
    (names_flat latch_words (λ (l : LatchRow). l.input ∷ l.output ∷ option_to_list l.control) (λ (l : LatchRow). at_lines l.line (l.input ∷ l.output ∷ option_to_list l.control)) m.latches))
    (names_flat subckt_words (λ (s : Subckt). map (λ (pin : Pin). pin.actual) s.pins) (λ (s : Subckt). pin_lines s.line s.pins) m.subckts)

pub name_is : (m : Model) (name : Name) → In name (names_in_order m) → In name (model_names m)
name_is m name i =
    let (p, j, e) = in_mapped port_name (by_line (model_words m)) name (in_firsts _ name i) in
    subst (λ ns. In name ns) (words_are_names m) (subst (λ v. In v (port_names (model_words m))) (sym e) (in_map port_name (model_words m) p (in_by_line (model_words m) p j)))

pub name_listed : (m : Model) (name : Name) → In name (model_names m) → In name (names_in_order m)
name_listed m name i =
    let (p, j, e) = in_mapped port_name (model_words m) name (subst (λ ns. In name ns) (sym (words_are_names m)) i) in
    firsts_in _ name (subst (λ v. In v (port_names (by_line (model_words m)))) (sym e) (in_map port_name (by_line (model_words m)) p (by_line_in (model_words m) p j)))

pub names_once : (m : Model) → Pairs (λ a b. a ≢ b) (names_in_order m)
names_once m = firsts_once (port_names (by_line (model_words m)))

pub names_are_listed : NamesAreListed
names_are_listed m = record {
  all = λ name. ((λ c. contains_from _ name (name_is m name (in_from _ name c))), (λ c. contains_from _ name (name_listed m name (in_from _ name c))));
  once = all_pairs (λ a b. a ≢ b) (names_in_order m) (names_once m);
}

-- nets
pub net_is : (design : Design) (net : Net) → In net (nets_in_order design) → IsNet design net
net_is design net i =
    let (place, j, k) = in_flattened (nets_at design) (places_in_order design) net i in
    let (m, is_m) = place_is design place j in
    let (name, l, e) = in_mapped (net_at place) (names_in_order m) net (subst (λ o. In net (map (net_at place) (of_some names_in_order o))) is_m k) in
    subst (λ v. IsNet design v) (sym e) (m, is_m, contains_from (model_names m) name (name_is m name l))

pub net_listed : (design : Design) → IsNotRecursive design → (net : Net) → IsNet design net → In net (nets_in_order design)
net_listed design away net (m, is_m, c) =
    in_flat (nets_at design) (places_in_order design) net.place net (place_listed design away net.place m is_m)
    (subst (λ o. In net (map (net_at net.place) (of_some names_in_order o))) (sym is_m) (in_map (net_at net.place) (names_in_order m) net.name (name_listed m net.name (in_from (model_names m) net.name c))))

-- a net is at an earlier place, or another at the same
abbrev pub IsEarlierNet : Net → Net → Type 0
IsEarlierNet a b = IsBefore a.place b.place ⊎ ((a.place ≡ b.place) × (a ≢ b))

pub nets_ascend : (design : Design) → Pairs IsEarlierNet (nets_in_order design)
nets_ascend design = pairs_flat IsBefore IsEarlierNet (nets_at design) (places_in_order design) (ascend design) own across
  where
    of_names : (place : Place) (o : Option Model) → Pairs IsEarlierNet (map (net_at place) (of_some names_in_order o))
    of_names place None = tt
    of_names place (Some m) = pairs_map (λ a b. a ≢ b) IsEarlierNet (net_at place) (names_in_order m) (λ a b h. inr (refl, λ e. h (ap (λ (n : Net). n.name) e))) (names_once m)

    own : (place : Place) → In place (places_in_order design) → Pairs IsEarlierNet (nets_at design place)
    own place i = of_names place (model_at design place)

    at : (place : Place) (net : Net) → In net (nets_at design place) → net.place ≡ place
    at place net i = let (name, j, e) = in_mapped (net_at place) _ net i in ap (λ (n : Net). n.place) e

    across : (p q : Place) (a b : Net) → IsBefore p q → In a (nets_at design p) → In b (nets_at design q) → IsEarlierNet a b
    across p q a b h i j = inl (subst (λ v. IsBefore v b.place) (sym (at p a i)) (subst (λ v. IsBefore p v) (sym (at q b j)) h))

earlier_apart : (a b : Net) → IsEarlierNet a b → a ≢ b
earlier_apart a b (inl h) e = places_are_ordered.never_itself b.place (subst (λ (v : Net). IsBefore v.place b.place) e h)
earlier_apart a b (inr h) e = h.1 e

pub nets_once : (design : Design) → Pairs (λ a b. a ≢ b) (nets_in_order design)
nets_once design = pairs_weaken IsEarlierNet (λ a b. a ≢ b) (nets_in_order design) earlier_apart (nets_ascend design)

pub nets_are_listed : NetsAreListed
nets_are_listed design away = record {
  all = λ net. ((λ c. net_is design net (in_from _ net c)), (λ n. contains_from _ net (net_listed design away net n)));
  once = all_pairs (λ a b. a ≢ b) (nets_in_order design) (nets_once design);
}
