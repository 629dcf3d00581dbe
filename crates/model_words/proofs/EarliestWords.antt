-- What the earliest of some words and more is.
use Rattle.std.proofs.lemmas.Bool.{leb-true, leb-false}
use Rattle.std.proofs.Common.{◌≡◌, refl, sym, ap, ◌∙◌, ◌<◌, ◌≤◌, List, [], ◌∷◌, ◌++◌, Bool, true, false, arith, cond}
use Rattle.std.specs.Prelude.{Some, None, Option, nat_le}
use Rattle.netlist_core.specs.declared.model.Port.{Port}
use Rattle.netlist_rules.specs.ModelFaults.{earlier_of, earliest}
use Rattle.model_words.specs.Words.{earliest_after}

-- no more words
pub earliest_after-none : (found : Option Port) → earliest_after found [] ≡ found
earliest_after-none None = refl
earliest_after-none (Some p) = refl

-- which of two comes first, by a test that is known
here : (p q : Port) (test : Bool) → p.line ≤ q.line → nat_le p.line q.line ≡ test → cond test p q ≡ p
here p q true at e = refl
here p q false at e = absurd (let after : q.line < p.line = leb-false p.line q.line e in omega arith)

later : (p q : Port) (test : Bool) → q.line < p.line → nat_le p.line q.line ≡ test → cond test p q ≡ q
later p q true after e = absurd (let at : p.line ≤ q.line = leb-true p.line q.line e in omega arith)
later p q false after e = refl

-- of three, the earliest is the same however they are joined
three : (p q r : Port) (a b : Bool) → nat_le p.line q.line ≡ a → nat_le q.line r.line ≡ b →
    earlier_of p (Some (cond b q r)) ≡ earlier_of (cond a p q) (Some r)
three p q r true true d e =
    let first : p.line ≤ q.line = leb-true p.line q.line d in
    let second : q.line ≤ r.line = leb-true q.line r.line e in
    ap Some (here p q (nat_le p.line q.line) first refl ∙ sym (here p r (nat_le p.line r.line) (omega arith) refl))
three p q r true false d e = refl
three p q r false true d e =
    ap Some (later p q (nat_le p.line q.line) (leb-false p.line q.line d) refl ∙ sym (here q r (nat_le q.line r.line) (leb-true q.line r.line e) refl))
three p q r false false d e =
    let first : q.line < p.line = leb-false p.line q.line d in
    let second : r.line < q.line = leb-false q.line r.line e in
    ap Some (later p r (nat_le p.line r.line) (omega arith) refl ∙ sym (later q r (nat_le q.line r.line) second refl))

joined : (p : Port) (found more : Option Port) (words : List Port) → earliest words ≡ more → earlier_of p (earliest_after found words) ≡ earliest_after (earlier_of p found) words
joined p None more words e = refl
joined p (Some q) None words e = ap (λ o. earlier_of p (earlier_of q o)) e ∙ sym (ap (λ o. earlier_of (cond (nat_le p.line q.line) p q) o) e)
joined p (Some q) (Some r) words e =
    ap (λ o. earlier_of p (earlier_of q o)) e ∙ three p q r (nat_le p.line q.line) (nat_le q.line r.line) refl refl ∙ sym (ap (λ o. earlier_of (cond (nat_le p.line q.line) p q) o) e)

-- the earliest of words and more
pub earliest-append : (words more : List Port) → earliest (words ++ more) ≡ earliest_after (earliest words) more
earliest-append [] more = refl
earliest-append (p ∷ words) more = ap (earlier_of p) (earliest-append words more) ∙ joined p (earliest words) (earliest more) more refl

pub earliest_after-append : (found : Option Port) (words more : List Port) → earliest_after (earliest_after found words) more ≡ earliest_after found (words ++ more)
earliest_after-append None words more = sym (earliest-append words more)
earliest_after-append (Some p) words more = sym (earliest-append (p ∷ words) more)
