-- The first fault of lines, as a relation and as it is computed.
use Rattle.netlist_rules.proofs.FaultKinds.{Member}
use Rattle.netlist_rules.proofs.LowestRule.{IsLowest, found, finds, not_broken, none_broken}
use Rattle.std.proofs.Common.{◌≡◌, refl, sym, ap, subst, ◌∙◌, ℕ, ◌<◌, ◌⊎◌, inl, inr, List, [], ◌∷◌, ◌++◌, reverse, append_assoc, append-nil}
use Rattle.std.specs.Prelude.{Some, None, Option}
use Rattle.std.specs.Option.{option_or}
use Rattle.std.proofs.lemmas.List.{reverse-append}
use Rattle.blif_text.specs.declared.logical.Logical.{Logical}
use Rattle.netlist_rules.specs.declared.fault.Fault.{Fault}
use Rattle.netlist_rules.specs.declared.fault.FaultKind.{FaultKind}
use Rattle.netlist_rules.specs.declared.fault.FaultKind.TheVariants.{NoModelYet, UnknownDirective, Unsupported, BadCount, RowOutside, BadRow, MixedCover, BadLatch, BadPin, AfterEnd, DuplicateModel}
use Rattle.netlist_rules.specs.FaultNames.{number_of, fault_on}
use Rattle.blif_text.specs.LineFaults.{word_at_fault, first_broken, fault_after, line_fault, line_rules}
use Rattle.blif_text.specs.Laws.{BreaksNone, IsFirstLineFault, LineFaultIsFirst, NoLineFault}

-- a rule that no line can break is none of those on lines
line_rule : (kind : FaultKind) (before : List Logical) (l : Logical) → (word_at_fault kind before l ≡ None) ⊎ Member kind line_rules
line_rule NoModelYet before l = inr (inl refl)
line_rule UnknownDirective before l = inr (inr (inl refl))
line_rule Unsupported before l = inr (inr (inr (inl refl)))
line_rule BadCount before l = inr (inr (inr (inr (inl refl))))
line_rule RowOutside before l = inr (inr (inr (inr (inr (inl refl)))))
line_rule BadRow before l = inr (inr (inr (inr (inr (inr (inl refl))))))
line_rule MixedCover before l = inr (inr (inr (inr (inr (inr (inr (inl refl)))))))
line_rule BadLatch before l = inr (inr (inr (inr (inr (inr (inr (inr (inl refl))))))))
line_rule BadPin before l = inr (inr (inr (inr (inr (inr (inr (inr (inr (inl refl)))))))))
line_rule AfterEnd before l = inr (inr (inr (inr (inr (inr (inr (inr (inr (inr (inl refl))))))))))
line_rule DuplicateModel before l = inr (inr (inr (inr (inr (inr (inr (inr (inr (inr (inr (inl refl)))))))))))
line_rule _ before l = inl refl

-- a fault of a line, and the word at which the line breaks a rule
abbrev fault_at : Logical → FaultKind → List ℕ → Fault
fault_at l kind word = fault_on kind l.line word

abbrev broken_at : List Logical → Logical → FaultKind → Option (List ℕ)
broken_at before l kind = word_at_fault kind before l

pub breaks_none : (before : List Logical) (l : Logical) → first_broken line_rules before l ≡ None → BreaksNone before l
breaks_none before l e kind = elim (line_rule kind before l) as (λ _. word_at_fault kind before l ≡ None) [ inl h ↦ h | inr m ↦ not_broken (fault_at l) (broken_at before l) line_rules e kind m ]

none_breaks : (before : List Logical) (l : Logical) → BreaksNone before l → first_broken line_rules before l ≡ None
none_breaks before l none = none_broken (fault_at l) (broken_at before l) line_rules none

-- the first fault of a list of lines that follows these, the nearest first
pub record FirstAfter (before lines : List Logical) (f : Fault) : Type 0 where
  pub front : List Logical
  pub line : Logical
  pub back : List Logical
  pub are_lines : lines ≡ front ++ line ∷ back
  pub at_its_line : f.line ≡ line.line
  pub breaks : word_at_fault f.kind (reverse front ++ before) line ≡ Some f.word
  pub is_lowest : (kind : FaultKind) → number_of kind < number_of f.kind → word_at_fault kind (reverse front ++ before) line ≡ None
  pub is_earliest : (a : List Logical) (e : Logical) (b : List Logical) → front ≡ a ++ e ∷ b → BreaksNone (reverse a ++ before) e

turned : (l : Logical) (front before : List Logical) → reverse (l ∷ front) ++ before ≡ reverse front ++ l ∷ before
turned l front before = ap (λ v. v ++ before) (reverse-append (l ∷ []) front) ∙ append_assoc (reverse front) (l ∷ []) before

here_first : (before : List Logical) (l : Logical) (ls : List Logical) (f : Fault) → first_broken line_rules before l ≡ Some f → FirstAfter before (l ∷ ls) f
here_first before l ls f e =
    let b : IsLowest (fault_at l) (broken_at before l) line_rules f = found (fault_at l) (broken_at before l) (λ k w. refl) line_rules f refl e in
    record {
      front = [];
      line = l;
      back = ls;
      are_lines = refl;
      at_its_line = ap (λ g. g.line) b.is_told;
      breaks = b.breaks ∙ ap (λ g. Some g.word) (sym b.is_told);
      is_lowest = λ kind lower. elim (line_rule kind before l) as (λ _. word_at_fault kind before l ≡ None) [ inl h ↦ h | inr m ↦ b.is_lowest kind m lower ];
      is_earliest = λ a x c h. empty a x c h;
    }
  where
    empty : (a : List Logical) (x : Logical) (c : List Logical) → [] ≡ a ++ x ∷ c → BreaksNone (reverse a ++ before) x
    empty [] x c h = absurd (cc)
    empty (y ∷ ys) x c h = absurd (cc)

later_first : (before : List Logical) (l : Logical) (ls : List Logical) (f : Fault) → first_broken line_rules before l ≡ None → FirstAfter (l ∷ before) ls f → FirstAfter before (l ∷ ls) f
later_first before l ls f none r = record {
  front = l ∷ r.front;
  line = r.line;
  back = r.back;
  are_lines = ap (λ v. l ∷ v) r.are_lines;
  at_its_line = r.at_its_line;
  breaks = subst (λ v. word_at_fault f.kind v r.line ≡ Some f.word) (sym (turned l r.front before)) r.breaks;
  is_lowest = λ kind lower. subst (λ v. word_at_fault kind v r.line ≡ None) (sym (turned l r.front before)) (r.is_lowest kind lower);
  is_earliest = λ a x c h. by a x c h;
}
  where
    by : (a : List Logical) (x : Logical) (c : List Logical) → l ∷ r.front ≡ a ++ x ∷ c → BreaksNone (reverse a ++ before) x
    by [] x c h = let e : l ≡ x = cc in subst (λ v. BreaksNone before v) e (breaks_none before l none)
    by (y ∷ ys) x c h =
        let e : y ≡ l = cc in
        let rest : r.front ≡ ys ++ x ∷ c = cc in
        subst (λ v. BreaksNone v x) (sym (turned y ys before)) (subst (λ v. BreaksNone (reverse ys ++ v ∷ before) x) (sym e) (r.is_earliest ys x c rest))

first_after : (before lines : List Logical) (f : Fault) → fault_after before lines ≡ Some f → FirstAfter before lines f
first_after before [] f e = absurd (cc)
first_after before (l ∷ ls) f e = by (λ d. first_after (l ∷ before) ls f d) (first_broken line_rules before l) refl e
  where
    by : (fault_after (l ∷ before) ls ≡ Some f → FirstAfter (l ∷ before) ls f) → (o : Option Fault) → first_broken line_rules before l ≡ o → option_or o (fault_after (l ∷ before) ls) ≡ Some f → FirstAfter before (l ∷ ls) f
    by again (Some g) h d = here_first before l ls f (h ∙ d)
    by again None h d = later_first before l ls f h (again d)

-- and back
is_found : (before front : List Logical) (line : Logical) (back : List Logical) (f : Fault) → f.line ≡ line.line → word_at_fault f.kind (reverse front ++ before) line ≡ Some f.word
    → ((kind : FaultKind) → number_of kind < number_of f.kind → word_at_fault kind (reverse front ++ before) line ≡ None)
    → ((a : List Logical) (e : Logical) (b : List Logical) → front ≡ a ++ e ∷ b → BreaksNone (reverse a ++ before) e) → fault_after before (front ++ line ∷ back) ≡ Some f
is_found before [] line back f at w low none = elim (line_rule f.kind before line) as (λ _. fault_after before (line ∷ back) ≡ Some f) [
  | inl h ↦ absurd (cc)
  | inr m ↦ ap (λ o. option_or o (fault_after (line ∷ before) back)) (finds (fault_at line) (broken_at before line) line_rules f f.word refl m (ap (λ n. fault_on f.kind n f.word) at) w low)
]
is_found before (l ∷ front) line back f at w low none =
    ap (λ o. option_or o (fault_after (l ∷ before) (front ++ line ∷ back))) (none_breaks before l (none [] l front refl))
    ∙ is_found (l ∷ before) front line back f at (subst (λ v. word_at_fault f.kind v line ≡ Some f.word) (turned l front before) w) (λ kind lower. subst (λ v. word_at_fault kind v line ≡ None) (turned l front before) (low kind lower))
    (λ a e b h. subst (λ v. BreaksNone v e) (turned l a before) (none (l ∷ a) e b (ap (λ v. l ∷ v) h)))

pub line_fault_is_first : LineFaultIsFirst
line_fault_is_first lines fault = (λ e. to e, λ r. from r)
  where
    to : line_fault lines ≡ Some fault → IsFirstLineFault lines fault
    to e = let r : FirstAfter [] lines fault = first_after [] lines fault e in record {
      before = r.front;
      line = r.line;
      after = r.back;
      are_lines = r.are_lines;
      at_its_line = r.at_its_line;
      breaks = subst (λ v. word_at_fault fault.kind v r.line ≡ Some fault.word) (append-nil (reverse r.front)) r.breaks;
      is_lowest = λ kind lower. subst (λ v. word_at_fault kind v r.line ≡ None) (append-nil (reverse r.front)) (r.is_lowest kind lower);
      is_earliest = λ a x c h. subst (λ v. BreaksNone v x) (append-nil (reverse a)) (r.is_earliest a x c h);
    }

    from : IsFirstLineFault lines fault → line_fault lines ≡ Some fault
    from r = ap line_fault r.are_lines ∙ is_found [] r.before r.line r.after fault r.at_its_line
        (subst (λ v. word_at_fault fault.kind v r.line ≡ Some fault.word) (sym (append-nil (reverse r.before))) r.breaks)
        (λ kind lower. subst (λ v. word_at_fault kind v r.line ≡ None) (sym (append-nil (reverse r.before))) (r.is_lowest kind lower))
        (λ a x c h. subst (λ v. BreaksNone v x) (sym (append-nil (reverse a))) (r.is_earliest a x c h))

-- where no fault comes, no line breaks a rule
none_after : (before lines : List Logical) → fault_after before lines ≡ None → (front : List Logical) (l : Logical) (back : List Logical) → lines ≡ front ++ l ∷ back → BreaksNone (reverse front ++ before) l
none_after before [] e [] l back h = absurd (cc)
none_after before [] e (x ∷ xs) l back h = absurd (cc)
none_after before (z ∷ zs) e front l back h = by (first_broken line_rules before z) refl e front h (λ d xs g. none_after (z ∷ before) zs d xs l back g)
  where
    step : first_broken line_rules before z ≡ None → fault_after (z ∷ before) zs ≡ None → (front : List Logical) → z ∷ zs ≡ front ++ l ∷ back → (fault_after (z ∷ before) zs ≡ None → (xs : List Logical) → zs ≡ xs ++ l ∷ back → BreaksNone (reverse xs ++ z ∷ before) l) → BreaksNone (reverse front ++ before) l
    step none d [] h again = let g : z ≡ l = cc in subst (λ v. BreaksNone before v) g (breaks_none before z none)
    step none d (x ∷ xs) h again =
        let g : x ≡ z = cc in
        let rest : zs ≡ xs ++ l ∷ back = cc in
        subst (λ v. BreaksNone v l) (sym (turned x xs before)) (subst (λ v. BreaksNone (reverse xs ++ v ∷ before) l) (sym g) (again d xs rest))

    by : (o : Option Fault) → first_broken line_rules before z ≡ o → option_or o (fault_after (z ∷ before) zs) ≡ None → (front : List Logical) → z ∷ zs ≡ front ++ l ∷ back → (fault_after (z ∷ before) zs ≡ None → (xs : List Logical) → zs ≡ xs ++ l ∷ back → BreaksNone (reverse xs ++ z ∷ before) l) → BreaksNone (reverse front ++ before) l
    by (Some f) o d front h again = absurd (cc)
    by None o d front h again = step o d front h again

after_none : (before lines : List Logical) → ((front : List Logical) (l : Logical) (back : List Logical) → lines ≡ front ++ l ∷ back → BreaksNone (reverse front ++ before) l) → fault_after before lines ≡ None
after_none before [] all = refl
after_none before (z ∷ zs) all =
    ap (λ o. option_or o (fault_after (z ∷ before) zs)) (none_breaks before z (all [] z zs refl))
    ∙ after_none (z ∷ before) zs (λ front l back h. subst (λ v. BreaksNone v l) (turned z front before) (all (z ∷ front) l back (ap (λ v. z ∷ v) h)))

pub no_line_fault : NoLineFault
no_line_fault lines = (
  λ e before line after h. subst (λ v. BreaksNone v line) (append-nil (reverse before)) (none_after [] lines e before line after h),
  λ all. after_none [] lines (λ front l back h. subst (λ v. BreaksNone v l) (sym (append-nil (reverse front))) (all front l back h)),
)
