-- What models without a fault have.
use Rattle.std.proofs.lemmas.Bool.{or_parts, le-leb}
use Rattle.lists.proofs.Bools.{and_false_right as other_fails}
use Rattle.std.proofs.Common.{◌≡◌, ◌≢◌, refl, sym, ap, subst, ◌∙◌, ℕ, inl, inr, List, [], ◌∷◌, map, Bool, true, false, ◌&&◌, arith, ◌⊎◌}
use Rattle.std.specs.Prelude.{Some, None, Option, bytes_eq, flat_map, nat_le, option_to_list}
use Rattle.std.specs.Bool.{then_some}
use Rattle.std.specs.List.{list_any}
use Rattle.std.proofs.lemmas.Slice.Eq.{bytes_eq-Decides}
use Rattle.netlist_core.specs.declared.model.Port.{Port}
use Rattle.netlist_core.specs.declared.model.Pin.{Pin}
use Rattle.netlist_core.specs.declared.model.Subckt.{Subckt}
use Rattle.netlist_core.specs.declared.model.Model.{Model}
use Rattle.netlist_rules.specs.declared.fault.Fault.{Fault}
use Rattle.netlist_rules.specs.declared.fault.FaultKind.TheVariants.{PinTwice}
use Rattle.netlist_core.specs.Names.{at_line, model_named}
use Rattle.netlist_rules.specs.Drivers.{stands_earlier, same_name_up_to, repeats_after, repeats}
use Rattle.netlist_rules.specs.ModelFaults.{words_at_fault, formals_of, model_fault, AreFaultless, HasModelFault}
use Rattle.netlist_rules.specs.Circles.{HasSubcktOf, LeadsBack, IsOnCircle, IsCircleFault}
use Rattle.netlist_rules.specs.Laws.{all_words_at_fault, FormalsAreDistinct, NoModelIsInItself, FaultlessOrFault}
use Rattle.netlist_rules.proofs.ModelSteps.{leaves}
use Rattle.lists.proofs.Members.{In, in_from, Distinct, is_distinct}
use Rattle.netlist_rules.proofs.FirstModelFaults.{no_model_fault}
use Rattle.netlist_rules.proofs.CircleSearch.{simple_way, IsSimpleWay, circle_or_none}
use Rattle.lists.proofs.Appends.{append_nil_left as nothing_left, append_nil_right as nothing_right}

pub nothing_of : {X Y : Type 0} (f : X → List Y) (xs : List X) (x : X) → flat_map f xs ≡ [] → In x xs → f x ≡ []
nothing_of f [] x e i = absurd i
nothing_of f (z ∷ zs) x e (inl same) = ap f same ∙ nothing_left (f z) (flat_map f zs) e
nothing_of f (z ∷ zs) x e (inr later) = nothing_of f zs x (nothing_right (f z) (flat_map f zs) e) later

pub none_kept : (b : Bool) (p : Port) → option_to_list (then_some b p) ≡ [] → b ≡ false
none_kept true p e = absurd (cc)
none_kept false p e = refl

-- names on one line, of which none is a repeat, are distinct
abbrev formal_of : Pin → List ℕ
formal_of pin = pin.formal

-- a formal on a line
abbrev pub formal_at : ℕ → Pin → Port
formal_at line pin = at_line line pin.formal

-- the name of a port
abbrev pub port_name : Port → List ℕ
port_name port = port.name

not_there : (line : ℕ) (name : List ℕ) (names : List (List ℕ)) → list_any (same_name_up_to (at_line line name)) (map (at_line line) names) ≡ false → ¬ (In name names)
not_there line name [] e i = i
not_there line name (n ∷ ns) e (inl same) =
    let f : (bytes_eq n name && nat_le line line) ≡ false = (or_parts (bytes_eq n name && nat_le line line) (list_any (same_name_up_to (at_line line name)) (map (at_line line) ns)) e).0 in
    let t : bytes_eq n name ≡ true = (bytes_eq-Decides n name).1 (sym same) in
    let g : nat_le line line ≡ false = other_fails (bytes_eq n name) (nat_le line line) t f in
    let h : nat_le line line ≡ true = le-leb line line (omega arith) in
    cc
not_there line name (n ∷ ns) e (inr later) = not_there line name ns ((or_parts (bytes_eq n name && nat_le line line) (list_any (same_name_up_to (at_line line name)) (map (at_line line) ns)) e).1) later

formals_new : (line : ℕ) (names : List (List ℕ)) (pins : List Pin) → repeats_after (map (at_line line) names) (map (formal_at line) pins) ≡ [] → Distinct (map formal_of pins) × ((name : List ℕ) → In name (map formal_of pins) → ¬ (In name names))
formals_new line names [] e = (tt, λ name i j. i)
formals_new line names (pin ∷ pins) e =
    let p : Port = at_line line pin.formal in
    let here : option_to_list (then_some (stands_earlier (map (at_line line) names) p (map (formal_at line) pins)) p) ≡ [] = nothing_left _ (repeats_after (map (at_line line) (pin.formal ∷ names)) (map (formal_at line) pins)) e in
    let new : ¬ (In pin.formal names) = not_there line pin.formal names ((or_parts _ _ (none_kept _ p here)).0) in
    let rest : Distinct (map formal_of pins) × ((name : List ℕ) → In name (map formal_of pins) → ¬ (In name (pin.formal ∷ names))) = formals_new line (pin.formal ∷ names) pins (nothing_right (option_to_list (then_some (stands_earlier (map (at_line line) names) p (map (formal_at line) pins)) p)) _ e) in (
      (λ i. rest.1 pin.formal i (inl refl), rest.0),
      λ name i. elim i as (λ _. ¬ (In name names)) [ inl same ↦ subst (λ v. ¬ (In v names)) (sym same) new | inr later ↦ (λ j. rest.1 name later (inr j)) ],
    )

pub some_models : (models : List Model) → AreFaultless models → models ≢ []
some_models [] a e = let h : model_fault [] ≡ None = a.no_fault in cc
some_models (m ∷ ms) a e = cc

pub formals_are_distinct : FormalsAreDistinct
formals_are_distinct models a m s i j =
    let none : all_words_at_fault PinTwice models ≡ [] = (no_model_fault models (some_models models a)).0 a.no_fault PinTwice in
    let in_model : flat_map (λ (t : Subckt). repeats (formals_of t)) m.subckts ≡ [] = nothing_of (words_at_fault PinTwice models) models m none (in_from models m i) in
    let in_line : repeats (formals_of s) ≡ [] = nothing_of (λ (t : Subckt). repeats (formals_of t)) m.subckts s in_model (in_from m.subckts s j) in
    is_distinct (map formal_of s.pins) (formals_new s.line [] s.pins in_line).0

-- a first step, and a way back from there, make a circle
circle : (models : List Model) (name next : List ℕ) (p : HasSubcktOf models name next) (others : List (List ℕ)) → LeadsBack models next others name → Distinct (name ∷ others) → IsOnCircle models p.subckt.line (p.model.name ∷ others)
circle models name next p others back d = record {
  model = p.model;
  is_model = subst (λ v. model_named models v ≡ Some p.model) (sym (leaves models name next p).1) p.is_model;
  subckt = p.subckt;
  is_subckt = p.is_line;
  at_the_line = refl;
  others = others;
  begins = refl;
  leads_back = subst (λ v. LeadsBack models p.subckt.model others v) (sym (leaves models name next p).1) (subst (λ v. LeadsBack models v others name) (sym p.names_other) back);
  is_simple = is_distinct (p.model.name ∷ others) (subst (λ v. Distinct (v ∷ others)) (sym (leaves models name next p).1) d);
}

pub no_model_is_in_itself : NoModelIsInItself
no_model_is_in_itself models a name [] p = a.no_circle p.subckt.line (p.model.name ∷ []) (circle models name name p [] refl (λ i. i, tt))
no_model_is_in_itself models a name (next ∷ names) p = by (bytes_eq next name) refl
  where
    by : (b : Bool) → bytes_eq next name ≡ b → ⊥
    by true h = a.no_circle p.0.subckt.line (p.0.model.name ∷ []) (circle models name next p.0 [] ((bytes_eq-Decides next name).0 h) (λ i. i, tt))
    by false h =
        let other : next ≢ name = λ e. (let t : bytes_eq next name ≡ true = (bytes_eq-Decides next name).1 e in cc) in
        let w : (ys : List (List ℕ)) × IsSimpleWay models next ys name = simple_way models next names name other p.1 in
        a.no_circle p.0.subckt.line (p.0.model.name ∷ next ∷ w.0) (circle models name next p.0 (next ∷ w.0) (refl, w.1.leads) w.1.distinct)

pub faultless_or_fault : FaultlessOrFault
faultless_or_fault models = by (model_fault models) refl (circle_or_none models)
  where
    by : (o : Option Fault) → model_fault models ≡ o → ((f : Fault) × IsCircleFault models f) ⊎ ((line : ℕ) (names : List (List ℕ)) → ¬ (IsOnCircle models line names)) → AreFaultless models ⊎ ((f : Fault) × HasModelFault models f)
    by (Some f) e c = inr (f, inl e)
    by None e (inl c) = inr (c.0, inr (e, c.1))
    by None e (inr none) = inl (record { no_fault = e; no_circle = none })
