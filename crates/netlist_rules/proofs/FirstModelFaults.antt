-- The first fault of models, as a relation and as it is computed.
use Rattle.std.proofs.lemmas.Bool.{leb-true, leb-false}
use Rattle.std.proofs.Common.{◌≡◌, ◌≢◌, refl, sym, ap, subst, ◌∙◌, ◌<◌, ◌≤◌, ◌⊎◌, inl, inr, List, [], ◌∷◌, ◌++◌, Bool, true, false, arith, cond}
use Rattle.std.specs.Prelude.{Some, None, Option, nat_le, flat_map}
use Rattle.std.specs.List.{AllByRecursion}
use Rattle.netlist_core.specs.declared.model.Port.{Port}
use Rattle.netlist_core.specs.declared.model.Model.{Model}
use Rattle.netlist_rules.specs.declared.fault.FaultKind.{FaultKind}
use Rattle.netlist_rules.specs.declared.fault.FaultKind.TheVariants.{NoModelYet, UnknownDirective, Unsupported, BadCount, RowOutside, BadRow, MixedCover, BadLatch, BadPin, AfterEnd, DuplicateModel, DuplicatePort, MultipleDrivers, Undriven, NoSuchModel, NoSuchPin, PinTwice, PinMissing, Recursive, TwoClocks, ClockRead, NoModel}
use Rattle.netlist_core.specs.Names.{at_line}
use Rattle.netlist_rules.specs.ModelFaults.{earlier_of, earliest, words_at_fault, fault_of_port, first_broken_by, model_rules, model_fault}
use Rattle.netlist_rules.specs.Laws.{IsEarliest, all_words_at_fault, IsFirstModelFault, ModelFaultIsFirst, NoModelFault}
use Rattle.netlist_rules.proofs.FaultKinds.{Member}
use Rattle.netlist_rules.proofs.LowestRule.{IsLowest, found, finds, not_broken, none_broken}

-- the earliest of a list
all_later : (p q : Port) (ports : List Port) → p.line ≤ q.line → AllByRecursion (λ (r : Port). q.line ≤ r.line) ports → AllByRecursion (λ (r : Port). p.line ≤ r.line) ports
all_later p q [] h a = tt
all_later p q (r ∷ rs) h a = (let e : q.line ≤ r.line = a.0 in omega arith, all_later p q rs h a.1)

weaker : (p : Port) (ports : List Port) → AllByRecursion (λ (r : Port). p.line < r.line) ports → AllByRecursion (λ (r : Port). p.line ≤ r.line) ports
weaker p [] a = tt
weaker p (r ∷ rs) a = (let e : p.line < r.line = a.0 in omega arith, weaker p rs a.1)

joined : (P : Port → Type 0) (xs : List Port) (x : Port) (ys : List Port) → AllByRecursion P xs → P x → AllByRecursion P ys → AllByRecursion P (xs ++ x ∷ ys)
joined P [] x ys a h b = (h, b)
joined P (z ∷ zs) x ys a h b = (a.0, joined P zs x ys a.1 h b)

pub none_empty : (ports : List Port) → earliest ports ≡ None → ports ≡ []
none_empty [] e = refl
none_empty (p ∷ ports) e = by (earliest ports) e
  where
    by : (o : Option Port) → earlier_of p o ≡ None → p ∷ ports ≡ []
    by None d = absurd (cc)
    by (Some q) d = absurd (cc)

alone : (p q : Port) → p ≡ q → IsEarliest (p ∷ []) q
alone p q e = record { front = []; back = []; are_ports = ap (λ r. r ∷ []) e; front_later = tt; back_no_earlier = tt }

first_here : (p q : Port) (ports : List Port) → p.line ≤ q.line → IsEarliest ports q → IsEarliest (p ∷ ports) p
first_here p q ports h r = record {
  front = [];
  back = ports;
  are_ports = refl;
  front_later = tt;
  back_no_earlier = subst (λ v. AllByRecursion (λ (s : Port). p.line ≤ s.line) v) (sym r.are_ports) (joined (λ (s : Port). p.line ≤ s.line) r.front q r.back (all_later p q r.front h (weaker q r.front r.front_later)) h (all_later p q r.back h r.back_no_earlier));
}

first_later : (p q : Port) (ports : List Port) → q.line < p.line → IsEarliest ports q → IsEarliest (p ∷ ports) q
first_later p q ports h r = record { front = p ∷ r.front; back = r.back; are_ports = ap (λ v. p ∷ v) r.are_ports; front_later = (h, r.front_later); back_no_earlier = r.back_no_earlier }

is_earliest : (ports : List Port) (q : Port) → earliest ports ≡ Some q → IsEarliest ports q
is_earliest [] q e = absurd (cc)
is_earliest (p ∷ ports) q e = by (earliest ports) refl (is_earliest ports) e
  where
    choose : (b : Bool) (r : Port) → nat_le p.line r.line ≡ b → IsEarliest ports r → cond b p r ≡ q → IsEarliest (p ∷ ports) q
    choose true r h i d = subst (λ v. IsEarliest (p ∷ ports) v) d (first_here p r ports (leb-true p.line r.line h) i)
    choose false r h i d = subst (λ v. IsEarliest (p ∷ ports) v) d (first_later p r ports (leb-false p.line r.line h) i)

    by : (o : Option Port) → earliest ports ≡ o → ((r : Port) → earliest ports ≡ Some r → IsEarliest ports r) → earlier_of p o ≡ Some q → IsEarliest (p ∷ ports) q
    by None h again d = subst (λ v. IsEarliest (p ∷ v) q) (sym (none_empty ports h)) (alone p q (cc))
    by (Some r) h again d = choose (nat_le p.line r.line) r refl (again r h) (cc)

-- and back
in_middle : (P : Port → Type 0) (xs : List Port) (x : Port) (ys : List Port) → AllByRecursion P (xs ++ x ∷ ys) → P x
in_middle P [] x ys a = a.0
in_middle P (z ∷ zs) x ys a = in_middle P zs x ys a.1

chosen : (p r : Port) (b : Bool) → nat_le p.line r.line ≡ b → p.line ≤ r.line → cond b p r ≡ p
chosen p r true e h = refl
chosen p r false e h = absurd (let f : r.line < p.line = leb-false p.line r.line e in omega arith)

passed : (p r : Port) (b : Bool) → nat_le p.line r.line ≡ b → r.line < p.line → cond b p r ≡ r
passed p r true e h = absurd (let f : p.line ≤ r.line = leb-true p.line r.line e in omega arith)
passed p r false e h = refl

keeps : (p : Port) (ports : List Port) → AllByRecursion (λ (r : Port). p.line ≤ r.line) ports → earlier_of p (earliest ports) ≡ Some p
keeps p ports a = by (earliest ports) refl
  where
    by : (o : Option Port) → earliest ports ≡ o → earlier_of p o ≡ Some p
    by None e = refl
    by (Some r) e =
        let i : IsEarliest ports r = is_earliest ports r e in
        ap Some (chosen p r (nat_le p.line r.line) refl (in_middle (λ (s : Port). p.line ≤ s.line) i.front r i.back (subst (λ v. AllByRecursion (λ (s : Port). p.line ≤ s.line) v) i.are_ports a)))

found_earliest : (front : List Port) (p : Port) (back : List Port) → AllByRecursion (λ (r : Port). p.line < r.line) front → AllByRecursion (λ (r : Port). p.line ≤ r.line) back → earliest (front ++ p ∷ back) ≡ Some p
found_earliest [] p back a b = keeps p back b
found_earliest (q ∷ qs) p back a b = ap (earlier_of q) (found_earliest qs p back a.1 b) ∙ ap Some (passed q p (nat_le q.line p.line) refl a.0)

-- a rule that no model can break is none of those on models
no_words : (models rest : List Model) (kind : FaultKind) → ((ms : List Model) (m : Model) → words_at_fault kind ms m ≡ []) → flat_map (words_at_fault kind models) rest ≡ []
no_words models [] kind none = refl
no_words models (m ∷ rest) kind none = ap (λ v. v ++ flat_map (words_at_fault kind models) rest) (none models m) ∙ no_words models rest kind none

model_rule : (kind : FaultKind) (models : List Model) → (all_words_at_fault kind models ≡ []) ⊎ Member kind model_rules
model_rule NoModelYet models = inl (no_words models models NoModelYet (λ ms m. refl))
model_rule UnknownDirective models = inl (no_words models models UnknownDirective (λ ms m. refl))
model_rule Unsupported models = inl (no_words models models Unsupported (λ ms m. refl))
model_rule BadCount models = inl (no_words models models BadCount (λ ms m. refl))
model_rule RowOutside models = inl (no_words models models RowOutside (λ ms m. refl))
model_rule BadRow models = inl (no_words models models BadRow (λ ms m. refl))
model_rule MixedCover models = inl (no_words models models MixedCover (λ ms m. refl))
model_rule BadLatch models = inl (no_words models models BadLatch (λ ms m. refl))
model_rule BadPin models = inl (no_words models models BadPin (λ ms m. refl))
model_rule AfterEnd models = inl (no_words models models AfterEnd (λ ms m. refl))
model_rule DuplicateModel models = inl (no_words models models DuplicateModel (λ ms m. refl))
model_rule DuplicatePort models = inr (inl refl)
model_rule MultipleDrivers models = inr (inr (inl refl))
model_rule Undriven models = inr (inr (inr (inl refl)))
model_rule NoSuchModel models = inr (inr (inr (inr (inl refl))))
model_rule NoSuchPin models = inr (inr (inr (inr (inr (inl refl)))))
model_rule PinTwice models = inr (inr (inr (inr (inr (inr (inl refl))))))
model_rule PinMissing models = inr (inr (inr (inr (inr (inr (inr (inl refl)))))))
model_rule Recursive models = inl (no_words models models Recursive (λ ms m. refl))
model_rule TwoClocks models = inl (no_words models models TwoClocks (λ ms m. refl))
model_rule ClockRead models = inl (no_words models models ClockRead (λ ms m. refl))
model_rule NoModel models = inl (no_words models models NoModel (λ ms m. refl))

-- the earliest word at which models break a rule
abbrev broken_in : List Model → FaultKind → Option Port
broken_in models kind = earliest (all_words_at_fault kind models)

by_rules : (models : List Model) → models ≢ [] → model_fault models ≡ first_broken_by model_rules models
by_rules [] some = absurd (some refl)
by_rules (m ∷ ms) some = refl

pub model_fault_is_first : ModelFaultIsFirst
model_fault_is_first models fault = (λ p. to p.0 p.1, λ r. (from r, r.some_model))
  where
    to : model_fault models ≡ Some fault → models ≢ [] → IsFirstModelFault models fault
    to e some =
        let b : IsLowest fault_of_port (broken_in models) model_rules fault = found fault_of_port (broken_in models) (λ k p. refl) model_rules fault refl (sym (by_rules models some) ∙ e) in
        record {
          some_model = some;
          is_earliest = is_earliest (all_words_at_fault fault.kind models) (at_line fault.line fault.word) (b.breaks ∙ ap (λ g. Some (at_line g.line g.word)) (sym b.is_told));
          is_lowest = λ kind lower. elim (model_rule kind models) as (λ _. all_words_at_fault kind models ≡ []) [ inl h ↦ h | inr m ↦ none_empty (all_words_at_fault kind models) (b.is_lowest kind m lower) ];
        }

    some_word : all_words_at_fault fault.kind models ≡ [] → IsEarliest (all_words_at_fault fault.kind models) (at_line fault.line fault.word) → ⊥
    some_word h i = no_nil i.front (sym i.are_ports ∙ h)
      where
        no_nil : (front : List Port) → front ++ at_line fault.line fault.word ∷ i.back ≡ [] → ⊥
        no_nil [] d = cc
        no_nil (x ∷ xs) d = cc

    from : IsFirstModelFault models fault → model_fault models ≡ Some fault
    from r =
        let i : IsEarliest (all_words_at_fault fault.kind models) (at_line fault.line fault.word) = r.is_earliest in
        let w : earliest (all_words_at_fault fault.kind models) ≡ Some (at_line fault.line fault.word) = ap earliest i.are_ports ∙ found_earliest i.front (at_line fault.line fault.word) i.back i.front_later i.back_no_earlier in
        by_rules models r.some_model ∙ elim (model_rule fault.kind models) as (λ _. first_broken_by model_rules models ≡ Some fault) [ inl h ↦ absurd (some_word h i) | inr m ↦ finds fault_of_port (broken_in models) model_rules fault (at_line fault.line fault.word) refl m refl w (λ kind lower. ap earliest (r.is_lowest kind lower)) ]

-- where no fault comes, no rule is broken
pub no_model_fault : NoModelFault
no_model_fault models some = (
  λ e kind. elim (model_rule kind models) as (λ _. all_words_at_fault kind models ≡ []) [ inl h ↦ h | inr m ↦ none_empty (all_words_at_fault kind models) (not_broken fault_of_port (broken_in models) model_rules (sym (by_rules models some) ∙ e) kind m) ],
  λ none. by_rules models some ∙ none_broken fault_of_port (broken_in models) model_rules (λ kind. ap earliest (none kind)),
)
