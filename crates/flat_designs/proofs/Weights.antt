-- A design has no more nets, and no more covers, than its weight.
use Rattle.std.proofs.Common.{ℕ, zero, suc, ◌≡◌, ◌≢◌, ◌<◌, ◌≤◌, ◌+◌, ◌*◌, ◌^◌, ◌⊎◌, inl, inr, List, [], ◌∷◌, ◌++◌, Bool, true, false, not, cond, Option, Some, None, slice_get, map, flat_map, length, find, option_and_then, option_map, unwrap_or, bytes_eq, is_some, sum_by, count_by, refl, sym, ap, ◌∙◌, subst, arith, true≢false}
use Rattle.std.specs.List.{list_any}
use Rattle.std.proofs.lemmas.Slice.Eq.{bytes_eq-Decides}
use Rattle.std.proofs.lemmas.Option.{slice_get_within}
use Rattle.std.proofs.lemmas.List.{length-map, length-append}
use Rattle.std.proofs.lemmas.List.Sums.{sum_by-cons, sum_by-append}
use Rattle.std.proofs.lemmas.List.Concat.{length-flat_map}
use Rattle.std.proofs.lemmas.Map.Made.{length-le_from_is_member, IsDistinct-from_AllPairs}
use Rattle.std.proofs.lemmas.Map.Views.{Contains-from_any}
use Rattle.netlist_core.specs.declared.model.Design.{Design}
use Rattle.netlist_core.specs.declared.model.Model.{Model}
use Rattle.netlist_core.specs.declared.model.Port.{Port}
use Rattle.netlist_core.specs.declared.model.Cover.{Cover}
use Rattle.netlist_core.specs.declared.model.LatchRow.{LatchRow}
use Rattle.netlist_core.specs.declared.model.Pin.{Pin}
use Rattle.netlist_core.specs.declared.model.Subckt.{Subckt}
use Rattle.netlist_core.specs.Names.{Name, model_named, port_names, is_named}
use Rattle.netlist_meaning.specs.Places.{Place, main_model, model_below, model_at, main_ports}
use Rattle.netlist_meaning.specs.Nets.{net_at}
use Rattle.netlist_core.specs.OwnWeight.{port_weight, literals, cover_weight, own_weight}
use Rattle.netlist_meaning.specs.Weight.{of_model, weight_below, weight}
use Rattle.lists.proofs.Names.{bytes_eq-same, names_are_equal}
use Rattle.netlist_meaning.proofs.Depth.{places_are_shallow}
use Rattle.netlist_rules.specs.Drivers.{is_output_pin}
use Rattle.netlist_rules.specs.ModelFaults.{AreFaultless}
use Rattle.lists.proofs.Members.{In, in_left, in_right, in_map, in_mapped, in_flat, in_from, contains_from, distinct_from, in_got, got_from}
use Rattle.netlist_rules.proofs.ModelSteps.{model_of_name}
use Rattle.netlist_rules.proofs.Faultless.{formals_are_distinct}
use Rattle.flat_designs.proofs.Faultless.{not_recursive, named_in, in_names_append}
use Rattle.flat_designs.proofs.Driven.{name_local}
use Rattle.flat_designs.proofs.OneDriver.{Local}
use Rattle.flat_designs.proofs.OneDriver.Local.{by_input, by_cover, by_latch, by_output}
use Rattle.netlist_core.specs.declared.flat.Node.{Node}
use Rattle.netlist_core.specs.declared.flat.FlatLatch.{FlatLatch}
use Rattle.netlist_core.specs.declared.flat.FlatPort.{FlatPort}
use Rattle.netlist_core.specs.declared.flat.Flat.{Flat}
use Rattle.netlist_meaning.specs.InOrder.{of_some, places_in_lines, places_below, places_in_order, names_in_order, nets_at, nets_in_order}
use Rattle.netlist_core.specs.declared.flat.Net.{Net as FlatNet}
use Rattle.netlist_meaning.specs.FlatOf.{flat_net, flat_node, flat_latch, flat_port, PortsWithoutControl, kept, left_out, IsFlatOf}
use Rattle.netlist_core.specs.OwnWeight.{rows_weight}
use Rattle.flat_designs.specs.Laws.{NetsAreFew, PartsAreFew, FlatIsWeighed}
use Rattle.flat_designs.proofs.Lists.{all_pairs}
use Rattle.flat_designs.proofs.Listed.{name_is, names_once}
use Rattle.flat_designs.proofs.Indices.{row}
use Rattle.lists.proofs.Sums.{sum_by-map, sum_by-same}
use Rattle.std.proofs.lemmas.Map.Keys.{any_passes_from_place as any_at}
use Rattle.flat_designs.proofs.Faultless.{one_pin}
use Rattle.netlist_meaning.proofs.Places.{both}

-- the sum of a number of models, over a model and all those below it
total : Design → (Model → ℕ) → ℕ → Model → ℕ
total design n zero m = 0
total design n (suc depth) m = n m + sum_by (λ line. of_model (total design n depth) (model_named design.models line.model)) m.subckts

lines_sum : (h : Place → ℕ) (g : Subckt → List Place) (w : Subckt → ℕ) (first : ℕ) (lines : List Subckt) → ((k number : ℕ) (line : Subckt) → number ≡ first + k → slice_get lines k ≡ Some line → sum_by (λ p. h (number ∷ p)) (g line) ≡ w line)
    → sum_by h (places_in_lines g first lines) ≡ sum_by w lines
lines_sum h g w first [] each = refl
lines_sum h g w first (line ∷ lines) each =
    sum_by-append h (map (λ p. first ∷ p) (g line)) (places_in_lines g (suc first) lines)
    ∙ both _ _ (w line) (sum_by w lines) (sum_by-map h (λ p. first ∷ p) (g line) ∙ each 0 first line (omega arith) refl) (lines_sum h g w (suc first) lines (λ k number l e is. each (suc k) number l (omega arith) is))
    ∙ sym (sum_by-cons w line lines)

places_sum : (design : Design) (n : Model → ℕ) (depth : ℕ) (m : Model) → sum_by (λ place. of_model n (model_below design place m)) (places_below design depth m) ≡ total design n depth m
unfolding total
places_sum design n zero m = refl
places_sum design n (suc depth) m =
    sum_by-cons (λ place. of_model n (model_below design place m)) [] (places_in_lines (λ line. of_some (places_below design depth) (model_named design.models line.model)) 0 m.subckts)
    ∙ both (n m) _ (n m) (sum_by (λ line. of_model (total design n depth) (model_named design.models line.model)) m.subckts) refl (lines_sum (λ place. of_model n (model_below design place m)) (λ line. of_some (places_below design depth) (model_named design.models line.model)) (λ line. of_model (total design n depth) (model_named design.models line.model)) 0 m.subckts
    (λ k number line e is. sum_by-same _ _ (of_some (places_below design depth) (model_named design.models line.model)) (λ p. let same : number ≡ k = omega arith in ap (λ o. of_model n (option_and_then (model_below design p) (option_and_then (λ (l : Subckt). model_named design.models l.model) o))) (ap (slice_get m.subckts) same ∙ is)) ∙ named (model_named design.models line.model) (λ inner. places_sum design n depth inner)))
  where
    named : (o : Option Model) → ((inner : Model) → sum_by (λ place. of_model n (model_below design place inner)) (places_below design depth inner) ≡ total design n depth inner)
        → sum_by (λ place. of_model n (option_and_then (model_below design place) o)) (of_some (places_below design depth) o) ≡ of_model (total design n depth) o
    named None each = refl
    named (Some inner) each = each inner

-- the length of what stands at places
at_places_length : {Y : Type 0} (design : Design) (f : Place → List Y) (n : Model → ℕ) → ((place : Place) → length (f place) ≡ of_model n (model_at design place)) → length (flat_map f (places_in_order design)) ≡ of_model (total design n (length design.models)) (main_model design)
at_places_length design f n each =
    length-flat_map f (places_in_order design)
    ∙ sum_by-same (λ place. length (f place)) (λ place. of_model n (model_at design place)) (places_in_order design) each
    ∙ by (main_model design)
  where
    by : (o : Option Model) → sum_by (λ place. of_model n (option_and_then (model_below design place) o)) (of_some (places_below design (length design.models)) o) ≡ of_model (total design n (length design.models)) o
    by None = refl
    by (Some m) = places_sum design n (length design.models) m

-- each cover weighs at least 1
covers_weigh : (covers : List Cover) → length covers ≤ sum_by cover_weight covers
covers_weigh [] = omega arith
covers_weigh (c ∷ covers) =
    let rest : length covers ≤ sum_by cover_weight covers = covers_weigh covers in
    let e : sum_by cover_weight (c ∷ covers) ≡ cover_weight c + sum_by cover_weight covers = sum_by-cons cover_weight c covers in
    at_least (length covers) (sum_by cover_weight covers) (sum_by cover_weight (c ∷ covers)) (length c.rows) (sum_by literals c.rows) rest e
  where
    at_least : (n w v a b : ℕ) → n ≤ w → v ≡ (1 + a + b) + w → suc n ≤ v
    at_least n w v a b l e = omega arith

sums_within : (t w : Subckt → ℕ) (lines : List Subckt) → ((k : ℕ) (line : Subckt) → slice_get lines k ≡ Some line → t line ≤ w line) → sum_by t lines ≤ sum_by w lines
sums_within t w [] each = omega arith
sums_within t w (line ∷ lines) each =
    let rest : sum_by t lines ≤ sum_by w lines = sums_within t w lines (λ k. each (suc k)) in
    let here : t line ≤ w line = each 0 line refl in
    let e : sum_by t (line ∷ lines) ≡ t line + sum_by t lines = sum_by-cons t line lines in
    let g : sum_by w (line ∷ lines) ≡ w line + sum_by w lines = sum_by-cons w line lines in
    omega arith

sum_both : (t o : Subckt → ℕ) (lines : List Subckt) → sum_by (λ line. t line + o line) lines ≡ sum_by t lines + sum_by o lines
sum_both t o [] = refl
sum_both t o (line ∷ lines) =
    let rest : sum_by (λ line. t line + o line) lines ≡ sum_by t lines + sum_by o lines = sum_both t o lines in
    let e : sum_by t (line ∷ lines) ≡ t line + sum_by t lines = sum_by-cons t line lines in
    let g : sum_by o (line ∷ lines) ≡ o line + sum_by o lines = sum_by-cons o line lines in
    let h : sum_by (λ line. t line + o line) (line ∷ lines) ≡ (t line + o line) + sum_by (λ line. t line + o line) lines = sum_by-cons (λ line. t line + o line) line lines in
    omega arith

-- covers
cover_count : Model → ℕ
cover_count m = length m.covers

covers_within_own : (m : Model) → cover_count m ≤ own_weight m
unfolding cover_count
covers_within_own m = let l : length m.covers ≤ sum_by cover_weight m.covers = covers_weigh m.covers in at_least (length m.covers) (port_weight m) (2 * length m.latches) (length m.subckts) (sum_by cover_weight m.covers) l
  where
    at_least : (n a b c d : ℕ) → n ≤ d → n ≤ a + b + c + d
    at_least n a b c d l = omega arith

covers_within : (design : Design) (depth : ℕ) (m : Model) → total design cover_count depth m ≤ weight_below design depth m
unfolding total
covers_within design zero m = omega arith
covers_within design (suc depth) m =
    let own : cover_count m ≤ own_weight m = covers_within_own m in
    let rest : sum_by (λ line. of_model (total design cover_count depth) (model_named design.models line.model)) m.subckts ≤ sum_by (λ line. of_model (weight_below design depth) (model_named design.models line.model)) m.subckts
    = sums_within (λ line. of_model (total design cover_count depth) (model_named design.models line.model)) (λ line. of_model (weight_below design depth) (model_named design.models line.model)) m.subckts (λ k line is. named (model_named design.models line.model) (λ inner. covers_within design depth inner)) in
    sum_le (cover_count m) _ (own_weight m) _ own rest
  where
    named : (o : Option Model) → ((inner : Model) → total design cover_count depth inner ≤ weight_below design depth inner) → of_model (total design cover_count depth) o ≤ of_model (weight_below design depth) o
    named None each = omega arith
    named (Some inner) each = each inner

    sum_le : (a b c d : ℕ) → a ≤ c → b ≤ d → a + b ≤ c + d
    sum_le a b c d l k = omega arith

pub nodes_within : (design : Design) (flat : Flat) → IsFlatOf design flat → length flat.nodes ≤ weight design
unfolding cover_count
nodes_within design flat h =
    let e : length flat.nodes ≡ of_model (total design cover_count (length design.models)) (main_model design) = ap (λ (xs : List Node). length xs) h.nodes ∙ at_places_length design (row design (λ (m : Model). m.covers) (flat_node design)) cover_count counted in
    le_of (length flat.nodes) (of_model (total design cover_count (length design.models)) (main_model design)) (weight design) e (by (main_model design))
  where
    le_of : (a b c : ℕ) → a ≡ b → b ≤ c → a ≤ c
    le_of a b c e l = omega arith

    by : (o : Option Model) → of_model (total design cover_count (length design.models)) o ≤ of_model (weight_below design (length design.models)) o
    by None = omega arith
    by (Some m) = covers_within design (length design.models) m

    counted_of : (place : Place) (o : Option Model) → length (map (flat_node design place) (of_some (λ (m : Model). m.covers) o)) ≡ of_model cover_count o
    counted_of place None = refl
    counted_of place (Some m) = length-map m.covers (flat_node design place)

    counted : (place : Place) → length (row design (λ (m : Model). m.covers) (flat_node design) place) ≡ of_model cover_count (model_at design place)
    counted place = counted_of place (model_at design place)

-- what drives the names of a model
cons_if : Bool → Port → List Port → List Port
cons_if true p ports = p ∷ ports
cons_if false p ports = ports

other_clocks : List Port → List Port → List Port
other_clocks ins [] = []
other_clocks ins (clock ∷ clocks) = cons_if (not (is_named ins clock.name)) clock (other_clocks ins clocks)

other_count : (ins clocks : List Port) → length (other_clocks ins clocks) ≡ count_by (λ (clock : Port). not (is_named ins clock.name)) clocks
unfolding cons_if other_clocks
other_count ins [] = refl
other_count ins (clock ∷ clocks) =
    by (not (is_named ins clock.name)) (other_count ins clocks) ∙ sym (sum_by-cons (λ (c : Port). cond (not (is_named ins c.name)) 1 0) clock clocks)
  where
    by : (b : Bool) → length (other_clocks ins clocks) ≡ count_by (λ (c : Port). not (is_named ins c.name)) clocks → length (cons_if b clock (other_clocks ins clocks)) ≡ cond b 1 0 + count_by (λ (c : Port). not (is_named ins c.name)) clocks
    by true e = let h : suc (length (other_clocks ins clocks)) ≡ 1 + count_by (λ (c : Port). not (is_named ins c.name)) clocks = omega arith in h
    by false e = let h : length (other_clocks ins clocks) ≡ 0 + count_by (λ (c : Port). not (is_named ins c.name)) clocks = omega arith in h

other_in : (ins clocks : List Port) (p : Port) → In p clocks → is_named ins p.name ≡ false → In p (other_clocks ins clocks)
unfolding cons_if other_clocks
other_in ins [] p i e = i
other_in ins (clock ∷ clocks) p (inl same) e = subst (λ b. In p (cons_if b clock (other_clocks ins clocks))) (sym (ap not (ap (λ (q : Port). is_named ins q.name) (sym same) ∙ e))) (inl same)
other_in ins (clock ∷ clocks) p (inr i) e = by (not (is_named ins clock.name)) (other_in ins clocks p i e)
  where
    by : (b : Bool) → In p (other_clocks ins clocks) → In p (cons_if b clock (other_clocks ins clocks))
    by true j = inr j
    by false j = j

-- the actual of a formal
actual_of : Subckt → Name → Name
actual_of line formal = unwrap_or (option_map (λ (pin : Pin). pin.actual) (find (λ (pin : Pin). bytes_eq pin.formal formal) line.pins)) []

outputs_on : Subckt → Option Model → List Name
outputs_on line o = map (actual_of line) (of_some (λ (m : Model). port_names m.outs) o)

output_count : Design → Subckt → ℕ
output_count design line = of_model (λ (m : Model). length m.outs) (model_named design.models line.model)

sources : Design → Model → List Name
sources design m = port_names m.ins ++ port_names (other_clocks m.ins m.clocks) ++ map (λ (c : Cover). c.out) m.covers ++ map (λ (l : LatchRow). l.output) m.latches ++ flat_map (λ line. outputs_on line (model_named design.models line.model)) m.subckts

found : (formal : Name) (pins : List Pin) (pin : Pin) → In pin pins → pin.formal ≡ formal → (other : Pin) × (find (λ (p : Pin). bytes_eq p.formal formal) pins ≡ Some other) × In other pins × (other.formal ≡ formal)
found formal [] pin i same = absurd i
found formal (first ∷ pins) pin i same = by (bytes_eq first.formal formal) refl i (λ j. found formal pins pin j same)
  where
    by : (b : Bool) → bytes_eq first.formal formal ≡ b → In pin (first ∷ pins) → (In pin pins → (other : Pin) × (find (λ (p : Pin). bytes_eq p.formal formal) pins ≡ Some other) × In other pins × (other.formal ≡ formal))
        → (other : Pin) × (cond b (Some first) (find (λ (p : Pin). bytes_eq p.formal formal) pins) ≡ Some other) × In other (first ∷ pins) × (other.formal ≡ formal)
    by true h i rest = (first, refl, inl refl, (bytes_eq-Decides first.formal formal).0 h)
    by false h (inl e) rest = absurd (true≢false (sym ((bytes_eq-Decides first.formal formal).1 (ap (λ (p : Pin). p.formal) (sym e) ∙ same)) ∙ h))
    by false h (inr j) rest = let (other, a, b, c) = rest j in (other, a, inr b, c)

name_sourced : (design : Design) → AreFaultless design.models → (m : Model) → In m design.models → (name : Name) → Local design.models m name → In name (sources design m)
unfolding sources outputs_on actual_of
name_sourced design faultless m i name (by_input j) = to_left (elim (in_names_append m.ins m.clocks name j) as (λ _. In name (port_names m.ins) ⊎ In name (port_names (other_clocks m.ins m.clocks))) [
  | inl a ↦ inl a
  | inr b ↦ (let (p, k, e) = in_mapped (λ (q : Port). q.name) m.clocks name b in by p k e (is_named m.ins p.name) refl)
])
  where
    by : (p : Port) → In p m.clocks → name ≡ p.name → (b : Bool) → is_named m.ins p.name ≡ b → In name (port_names m.ins) ⊎ In name (port_names (other_clocks m.ins m.clocks))
    by p k e true h = inl (subst (λ v. In v (port_names m.ins)) (sym e) (named_in m.ins p.name h))
    by p k e false h = inr (subst (λ v. In v (port_names (other_clocks m.ins m.clocks))) (sym e) (in_map (λ (q : Port). q.name) (other_clocks m.ins m.clocks) p (other_in m.ins m.clocks p k h)))

    to_left : In name (port_names m.ins) ⊎ In name (port_names (other_clocks m.ins m.clocks)) → In name (sources design m)
    to_left (inl a) = in_left _ _ name (in_left _ _ name (in_left _ _ name (in_left _ _ name a)))
    to_left (inr b) = in_left _ _ name (in_left _ _ name (in_left _ _ name (in_right (port_names m.ins) _ name b)))
name_sourced design faultless m i name (by_cover n c is e) = in_left _ _ name (in_left _ _ name (in_right (port_names m.ins ++ port_names (other_clocks m.ins m.clocks)) _ name (subst (λ v. In v (map (λ (c : Cover). c.out) m.covers)) e (in_map (λ (c : Cover). c.out) m.covers c (in_got m.covers n c is)))))
name_sourced design faultless m i name (by_latch n l is e) = in_left _ _ name (in_right (port_names m.ins ++ port_names (other_clocks m.ins m.clocks) ++ map (λ (c : Cover). c.out) m.covers) _ name (subst (λ v. In v (map (λ (l : LatchRow). l.output) m.latches)) e (in_map (λ (l : LatchRow). l.output) m.latches l (in_got m.latches n l is))))
name_sourced design faultless m i name (by_output n s pin is j t e) =
    in_right (port_names m.ins ++ port_names (other_clocks m.ins m.clocks) ++ map (λ (c : Cover). c.out) m.covers ++ map (λ (l : LatchRow). l.output) m.latches) _ name
    (in_flat (λ line. outputs_on line (model_named design.models line.model)) m.subckts s name (in_got m.subckts n s is) (by (model_named design.models s.model) t))
  where
    by : (o : Option Model) → is_output_pin o pin ≡ true → In name (outputs_on s o)
    by None t = absurd (true≢false (sym t))
    by (Some placed) t =
        let k : In pin.formal (port_names placed.outs) = named_in placed.outs pin.formal t in
        let (other, is_other, l, same) = found pin.formal s.pins pin j refl in
        let d = formals_are_distinct design.models faultless m s (contains_from design.models m i) (contains_from m.subckts s (in_got m.subckts n s is)) in
        let one : other ≡ pin = one_pin s.pins other pin (distinct_from (map (λ (pin : Pin). pin.formal) s.pins) d) l j same in
        let actual : actual_of s pin.formal ≡ name = ap (λ (o : Option Pin). unwrap_or (option_map (λ (p : Pin). p.actual) o) []) is_other ∙ ap (λ (p : Pin). p.actual) one ∙ e in
        subst (λ v. In v (map (actual_of s) (port_names placed.outs))) actual (in_map (actual_of s) (port_names placed.outs) pin.formal k)

any_in : (xs : List Name) (name : Name) → list_any (bytes_eq name) xs ≡ true → In name xs
any_in xs name e = in_from xs name (Contains-from_any (λ x y t. (bytes_eq-Decides x y).0 t) name xs e)

in_any : (xs : List Name) (name : Name) → In name xs → list_any (bytes_eq name) xs ≡ true
in_any xs name i = let (k, e) = got_from xs name i in any_at (bytes_eq name) xs k name e (bytes_eq-same name)

name_count : Model → ℕ
name_count m = length (names_in_order m)

names_within : (design : Design) → AreFaultless design.models → (m : Model) → In m design.models → name_count m ≤ length (sources design m)
unfolding name_count
names_within design faultless m i =
    length-le_from_is_member names_are_equal (names_in_order m) (sources design m) (IsDistinct-from_AllPairs bytes_eq-Decides (names_in_order m) (all_pairs (λ a b. a ≢ b) (names_in_order m) (names_once m)))
    (λ q e. in_any (sources design m) q (name_sourced design faultless m i q (name_local design.models faultless m i q (name_is m q (any_in (names_in_order m) q e)))))

source_count : (design : Design) (m : Model) → length (sources design m) ≡ length m.ins + count_by (λ (clock : Port). not (is_named m.ins clock.name)) m.clocks + length m.covers + length m.latches + sum_by (output_count design) m.subckts
unfolding sources outputs_on output_count
source_count design m =
    length-append (port_names m.ins ++ port_names (other_clocks m.ins m.clocks) ++ map (λ (c : Cover). c.out) m.covers ++ map (λ (l : LatchRow). l.output) m.latches) _
    ∙ both _ _ _ _ (length-append (port_names m.ins ++ port_names (other_clocks m.ins m.clocks) ++ map (λ (c : Cover). c.out) m.covers) _
    ∙ both _ _ _ _ (length-append (port_names m.ins ++ port_names (other_clocks m.ins m.clocks)) _
    ∙ both _ _ _ _ (length-append (port_names m.ins) (port_names (other_clocks m.ins m.clocks))
    ∙ both _ _ _ _ (length-map m.ins (λ (p : Port). p.name)) (length-map (other_clocks m.ins m.clocks) (λ (p : Port). p.name) ∙ other_count m.ins m.clocks))
    (length-map m.covers (λ (c : Cover). c.out))) (length-map m.latches (λ (l : LatchRow). l.output)))
    (length-flat_map (λ line. outputs_on line (model_named design.models line.model)) m.subckts ∙ sum_by-same (λ line. length (outputs_on line (model_named design.models line.model))) (output_count design) m.subckts (λ line. counted line (model_named design.models line.model)))
  where
    counted : (line : Subckt) (o : Option Model) → length (outputs_on line o) ≡ of_model (λ (m : Model). length m.outs) o
    counted line None = refl
    counted line (Some placed) = length-map (port_names placed.outs) (actual_of line) ∙ length-map placed.outs (λ (p : Port). p.name)

-- with its outputs, a model has no more names than it and the outputs of what it places weigh
own_within : (design : Design) → AreFaultless design.models → (m : Model) → In m design.models → name_count m + length m.outs ≤ own_weight m + sum_by (output_count design) m.subckts
own_within design faultless m i =
    let l : name_count m ≤ length (sources design m) = names_within design faultless m i in
    let e : length (sources design m) ≡ length m.ins + count_by (λ (clock : Port). not (is_named m.ins clock.name)) m.clocks + length m.covers + length m.latches + sum_by (output_count design) m.subckts = source_count design m in
    let c : length m.covers ≤ sum_by cover_weight m.covers = covers_weigh m.covers in
    add_up (name_count m) (length (sources design m)) (length m.ins) (count_by (λ (clock : Port). not (is_named m.ins clock.name)) m.clocks) (length m.covers) (length m.latches) (sum_by (output_count design) m.subckts) (length m.outs) (length m.subckts) (sum_by cover_weight m.covers) l e c
  where
    add_up : (n s a b c d o u k w : ℕ) → n ≤ s → s ≡ a + b + c + d + o → c ≤ w → n + u ≤ (a + u + b + 2 * d + k + w) + o
    add_up n s a b c d o u k w l e g = omega arith

IsDeep : Design → ℕ → Model → Type 0
IsDeep design depth m = (place : Place) (b : Model) → model_below design place m ≡ Some b → length place < depth

nets_below : (design : Design) → AreFaultless design.models → (depth : ℕ) (m : Model) → In m design.models → IsDeep design depth m → total design name_count depth m + length m.outs ≤ weight_below design depth m
unfolding total IsDeep output_count
nets_below design faultless zero m i deep = absurd (let l : 0 < 0 = deep [] m refl in omega arith)
nets_below design faultless (suc depth) m i deep =
    let own : name_count m + length m.outs ≤ own_weight m + sum_by (output_count design) m.subckts = own_within design faultless m i in
    let rest : sum_by (λ line. of_model (total design name_count depth) (model_named design.models line.model) + output_count design line) m.subckts ≤ sum_by (λ line. of_model (weight_below design depth) (model_named design.models line.model)) m.subckts
    = sums_within (λ line. of_model (total design name_count depth) (model_named design.models line.model) + output_count design line) (λ line. of_model (weight_below design depth) (model_named design.models line.model)) m.subckts
    (λ k line is. named k line is (model_named design.models line.model) refl (λ inner j d. nets_below design faultless depth inner j d)) in
    let parts : sum_by (λ line. of_model (total design name_count depth) (model_named design.models line.model) + output_count design line) m.subckts ≡ sum_by (λ line. of_model (total design name_count depth) (model_named design.models line.model)) m.subckts + sum_by (output_count design) m.subckts
    = sum_both (λ line. of_model (total design name_count depth) (model_named design.models line.model)) (output_count design) m.subckts in
    add_up (name_count m) (length m.outs) (own_weight m) (sum_by (output_count design) m.subckts) _ (sum_by (λ line. of_model (total design name_count depth) (model_named design.models line.model)) m.subckts) _ own rest parts
  where
    add_up : (n u w o s t v : ℕ) → n + u ≤ w + o → s ≤ v → s ≡ t + o → (n + t) + u ≤ w + v
    add_up n u w o s t v l k e = omega arith

    named : (k : ℕ) (line : Subckt) → slice_get m.subckts k ≡ Some line → (o : Option Model) → model_named design.models line.model ≡ o
        → ((inner : Model) → In inner design.models → IsDeep design depth inner → total design name_count depth inner + length inner.outs ≤ weight_below design depth inner)
        → of_model (total design name_count depth) o + of_model (λ (m : Model). length m.outs) o ≤ of_model (weight_below design depth) o
    named k line is None e each = omega arith
    named k line is (Some inner) e each =
        each inner (model_of_name design.models line.model inner e).0 (λ place b below.
        let deeper : suc (length place) < suc depth = deep (k ∷ place) b (ap (λ o. option_and_then (model_below design place) (option_and_then (λ (l : Subckt). model_named design.models l.model) o)) is ∙ ap (option_and_then (model_below design place)) e ∙ below) in
        omega arith)

pub nets_are_few : NetsAreFew
unfolding name_count IsDeep
nets_are_few design faultless =
    let e : length (nets_in_order design) ≡ of_model (total design name_count (length design.models)) (main_model design) = at_places_length design (nets_at design) name_count (λ place. counted place (model_at design place)) in
    le_of (length (nets_in_order design)) (of_model (total design name_count (length design.models)) (main_model design)) (weight design) e (by (main_model design) refl)
  where
    le_of : (a b c : ℕ) → a ≡ b → b ≤ c → a ≤ c
    le_of a b c e l = omega arith

    counted : (place : Place) (o : Option Model) → length (map (net_at place) (of_some names_in_order o)) ≡ of_model name_count o
    counted place None = refl
    counted place (Some m) = length-map (names_in_order m) (net_at place)

    by : (o : Option Model) → main_model design ≡ o → of_model (total design name_count (length design.models)) o ≤ of_model (weight_below design (length design.models)) o
    by None e = omega arith
    by (Some m) e =
        let l : total design name_count (length design.models) m + length m.outs ≤ weight_below design (length design.models) m
        = nets_below design faultless (length design.models) m (in_got design.models 0 m e) (λ place b below. places_are_shallow design (not_recursive design faultless) place (ap is_some (ap (option_and_then (model_below design place)) e ∙ below))) in
        omega arith

-- parts
places_total : (design : Design) (g : Place → ℕ) (n : Model → ℕ) → ((place : Place) → g place ≡ of_model n (model_at design place)) → sum_by g (places_in_order design) ≡ of_model (total design n (length design.models)) (main_model design)
places_total design g n each = sum_by-same g (λ place. of_model n (model_at design place)) (places_in_order design) each ∙ by (main_model design)
  where
    by : (o : Option Model) → sum_by (λ place. of_model n (option_and_then (model_below design place) o)) (of_some (places_below design (length design.models)) o) ≡ of_model (total design n (length design.models)) o
    by None = refl
    by (Some m) = places_sum design n (length design.models) m

sum_flat : {X Y : Type 0} (w : Y → ℕ) (f : X → List Y) (xs : List X) → sum_by w (flat_map f xs) ≡ sum_by (λ x. sum_by w (f x)) xs
sum_flat w f [] = refl
sum_flat w f (x ∷ xs) = sum_by-append w (f x) (flat_map f xs) ∙ both _ _ _ _ refl (sum_flat w f xs) ∙ sym (sum_by-cons (λ x. sum_by w (f x)) x xs)

latch_count : Model → ℕ
latch_count m = length m.latches

covers_weight : Model → ℕ
covers_weight m = sum_by cover_weight m.covers

lines_within : (design : Design) (depth : ℕ) (m : Model) → ((inner : Model) → 2 * total design latch_count depth inner + total design covers_weight depth inner ≤ weight_below design depth inner)
    → 2 * sum_by (λ line. of_model (total design latch_count depth) (model_named design.models line.model)) m.subckts + sum_by (λ line. of_model (total design covers_weight depth) (model_named design.models line.model)) m.subckts
    ≤ sum_by (λ line. of_model (weight_below design depth) (model_named design.models line.model)) m.subckts
lines_within design depth m each =
    let whole : sum_by (λ line. (tl line + tl line) + tc line) m.subckts ≤ sum_by w m.subckts = sums_within (λ line. (tl line + tl line) + tc line) w m.subckts (λ k line is. named (model_named design.models line.model)) in
    let outer : sum_by (λ line. (tl line + tl line) + tc line) m.subckts ≡ sum_by (λ line. tl line + tl line) m.subckts + sum_by tc m.subckts = sum_both (λ line. tl line + tl line) tc m.subckts in
    let inner : sum_by (λ line. tl line + tl line) m.subckts ≡ sum_by tl m.subckts + sum_by tl m.subckts = sum_both tl tl m.subckts in
    add_up (sum_by tl m.subckts) (sum_by tc m.subckts) _ _ (sum_by w m.subckts) whole outer inner
  where
    tl : Subckt → ℕ
    tl line = of_model (total design latch_count depth) (model_named design.models line.model)

    tc : Subckt → ℕ
    tc line = of_model (total design covers_weight depth) (model_named design.models line.model)

    w : Subckt → ℕ
    w line = of_model (weight_below design depth) (model_named design.models line.model)

    named : (o : Option Model) → (of_model (total design latch_count depth) o + of_model (total design latch_count depth) o) + of_model (total design covers_weight depth) o ≤ of_model (weight_below design depth) o
    named None = omega arith
    named (Some inner) = let l : 2 * total design latch_count depth inner + total design covers_weight depth inner ≤ weight_below design depth inner = each inner in twice (total design latch_count depth inner) (total design covers_weight depth inner) (weight_below design depth inner) l
      where
        twice : (a b c : ℕ) → 2 * a + b ≤ c → (a + a) + b ≤ c
        twice a b c l = omega arith

    add_up : (l c s d w : ℕ) → s ≤ w → s ≡ d + c → d ≡ l + l → 2 * l + c ≤ w
    add_up l c s d w a b e = omega arith

step_up : (i o k l s c tl tc w : ℕ) → 2 * tl + tc ≤ w → (i + o) + (2 * (l + tl) + (c + tc)) ≤ (i + o + k + 2 * l + s + c) + w
step_up i o k l s c tl tc w h = omega arith

parts_below : (design : Design) (depth : ℕ) (m : Model) → 2 * total design latch_count depth m + total design covers_weight depth m ≤ weight_below design depth m
unfolding total latch_count covers_weight
parts_below design zero m = omega arith
parts_below design (suc depth) m =
    less_of (length m.ins + length m.outs) _ _ (step_up (length m.ins) (length m.outs) (count_by (λ (clock : Port). not (is_named m.ins clock.name)) m.clocks) (length m.latches) (length m.subckts) (sum_by cover_weight m.covers) _ _ _ (lines_within design depth m (λ inner. parts_below design depth inner)))
  where
    less_of : (a b c : ℕ) → a + b ≤ c → b ≤ c
    less_of a b c l = omega arith

parts_with_ports : (design : Design) (depth : ℕ) (m : Model) → (length m.ins + length m.outs) + (2 * total design latch_count (suc depth) m + total design covers_weight (suc depth) m) ≤ weight_below design (suc depth) m
unfolding total latch_count covers_weight
parts_with_ports design depth m =
    step_up (length m.ins) (length m.outs) (count_by (λ (clock : Port). not (is_named m.ins clock.name)) m.clocks) (length m.latches) (length m.subckts) (sum_by cover_weight m.covers) _ _ _ (lines_within design depth m (λ inner. parts_below design depth inner))

kept_few : (design : Design) (ports rest : List Port) → PortsWithoutControl design ports rest → length rest ≤ length ports
kept_few design [] rest Rattle.netlist_meaning.specs.FlatOf.PortsWithoutControl.none = omega arith
kept_few design (p ∷ ports) rest (kept {rest = others} away h) = let l : length others ≤ length ports = kept_few design ports others h in omega arith
kept_few design (p ∷ ports) rest (left_out c h) = let l : length rest ≤ length ports = kept_few design ports rest h in omega arith

abbrev node_weight : Node → ℕ
node_weight node = rows_weight node.rows

pub parts_are_few : PartsAreFew
unfolding latch_count covers_weight
parts_are_few design flat h =
    let latches : length flat.latches ≡ of_model (total design latch_count (length design.models)) (main_model design) = ap (λ (xs : List FlatLatch). length xs) h.latches ∙ at_places_length design (row design (λ (m : Model). m.latches) (flat_latch design)) latch_count (λ place. counted place (model_at design place)) in
    let nodes : sum_by node_weight flat.nodes ≡ of_model (total design covers_weight (length design.models)) (main_model design) = ap (sum_by node_weight) h.nodes ∙ sum_flat node_weight (row design (λ (m : Model). m.covers) (flat_node design)) (places_in_order design) ∙ places_total design (λ place. sum_by node_weight (row design (λ (m : Model). m.covers) (flat_node design) place)) covers_weight (λ place. weighed place (model_at design place)) in
    let ins : length flat.ins ≤ length (main_ports (λ (m : Model). m.ins) design) = (let e : length flat.ins ≡ length h.in_ports = ap (λ (xs : List FlatPort). length xs) h.ins ∙ length-map h.in_ports (flat_port design) in let l : length h.in_ports ≤ length (main_ports (λ (m : Model). m.ins) design) = kept_few design (main_ports (λ (m : Model). m.ins) design) h.in_ports h.are_in_ports in omega arith) in
    let outs : length flat.outs ≡ length (main_ports (λ (m : Model). m.outs) design) = ap (λ (xs : List FlatPort). length xs) h.outs ∙ length-map (main_ports (λ (m : Model). m.outs) design) (flat_port design) in
    add_up (length flat.ins) (length flat.outs) (length flat.latches) (sum_by node_weight flat.nodes) _ _ _ _ (weight design) ins outs latches nodes (by (length design.models) (main_model design) (λ m e. slice_get_within design.models 0 m e))
  where
    counted : (place : Place) (o : Option Model) → length (map (flat_latch design place) (of_some (λ (m : Model). m.latches) o)) ≡ of_model latch_count o
    counted place None = refl
    counted place (Some m) = length-map m.latches (flat_latch design place)

    weighed : (place : Place) (o : Option Model) → sum_by node_weight (map (flat_node design place) (of_some (λ (m : Model). m.covers) o)) ≡ of_model covers_weight o
    weighed place None = refl
    weighed place (Some m) = sum_by-map node_weight (flat_node design place) m.covers

    by : (depth : ℕ) (o : Option Model) → ((m : Model) → o ≡ Some m → 0 < depth)
        → (length (unwrap_or (option_map (λ (m : Model). m.ins) o) []) + length (unwrap_or (option_map (λ (m : Model). m.outs) o) [])) + (2 * of_model (total design latch_count depth) o + of_model (total design covers_weight depth) o) ≤ of_model (weight_below design depth) o
    by depth None deep = omega arith
    by zero (Some m) deep = absurd (let l : 0 < 0 = deep m refl in omega arith)
    by (suc depth) (Some m) deep = parts_with_ports design depth m

    add_up : (i o l n mi mo ml mn w : ℕ) → i ≤ mi → o ≡ mo → l ≡ ml → n ≡ mn → (mi + mo) + (2 * ml + mn) ≤ w → i + o + 2 * l + n ≤ w
    add_up i o l n mi mo ml mn w a b c d e = omega arith

pub flat_is_weighed : FlatIsWeighed
flat_is_weighed design flat faultless h small =
    let nets : length flat.nets ≤ weight design = subst (λ n. n ≤ weight design) (sym (ap (λ (xs : List FlatNet). length xs) h.nets ∙ length-map (nets_in_order design) (flat_net design))) (nets_are_few design faultless) in
    record {
      nets = subst (λ w. length flat.nets ≤ w) (sym h.weight) nets;
      parts = subst (λ w. length flat.ins + length flat.outs + 2 * length flat.latches + sum_by node_weight flat.nodes ≤ w) (sym h.weight) (parts_are_few design flat h);
      few = subst (λ w. w < 2 ^ 31) (sym h.weight) small;
    }
