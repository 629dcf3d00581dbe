-- Names of symbols, put into tables.
use Rattle.std.proofs.Common.{ℕ, zero, suc, ◌<◌, ◌≡◌, ◌≢◌, refl, sym, ap, ap₂, ◌∙◌, Bool, true, false, true≢false, cond, not, ◌&&◌, ◌||◌, ◌==◌, List, [], ◌∷◌, ◌++◌, length, get_or, Option, Some, None, arith, nat_lt, Bor, get_or-set_same, get_or-set_other}
use Rattle.std.specs.Prelude.{unwrap_or, option_map, find, is_some, replicate, slice_set, if◌then◌else◌}
use Rattle.std.specs.List.{list_any}
use Rattle.std.specs.Option.{option_copied}
use Rattle.std.proofs.lemmas.Bool.{eqb-true, ltb-true, and_parts}
use Rattle.std.proofs.lemmas.Bool.Decides.{nat_tests}
use Rattle.std.proofs.lemmas.List.{length-set, length-replicate}
use Rattle.std.proofs.lemmas.Option.{none-some}
use Rattle.aiger_text.specs.declared.section.Counts.{Counts}
use Rattle.aiger_text.specs.declared.section.SymbolKind.{SymbolKind}
use Rattle.aiger_text.specs.declared.fault.AigFaultKind.TheVariants.{BadSymbol}
use Rattle.aiger_text.specs.Symbols.{Symbol, is_for, is_same_kind, count_of_kind, is_bad_symbol, symbol_fault}
use Rattle.aiger_text.specs.Names.{name_for, plain_name}
use Rattle.aiger_reader.specs.declared.symbols.SymbolWords.{SymbolWords}
use Rattle.aiger_reader.specs.Known.{given_name, symbol_of, KnowsNamesOfKind}

abbrev blank : ℕ → List (Option (Bor (List ℕ)))
blank n = replicate n None

none_at : (n place : ℕ) → option_copied (get_or (blank n) place None) ≡ None
none_at zero place = refl
none_at (suc n) zero = refl
none_at (suc n) (suc place) = none_at n place

pub blank_knows : (kind : SymbolKind) (table : List (Option (Bor (List ℕ)))) (n : ℕ) → table ≡ replicate n None → KnowsNamesOfKind kind table []
blank_knows kind table n e place = ap (λ (t : List (Option (Bor (List ℕ)))). option_copied (get_or t place None)) e ∙ none_at n place

pub blank_many : (table : List (Option (Bor (List ℕ)))) (n : ℕ) → table ≡ replicate n None → length table ≡ n
blank_many table n e = ap length e ∙ length-replicate n None

-- what is found among symbols, and one more
find_other : (p : Symbol → Bool) (xs : List Symbol) (x : Symbol) → p x ≡ false → find p (xs ++ x ∷ []) ≡ find p xs
find_other p [] x e = ap (λ b. cond b (Some x) None) e
find_other p (y ∷ ys) x e = ap (cond (p y) (Some y)) (find_other p ys x e)

find_new : (p : Symbol → Bool) (xs : List Symbol) (x : Symbol) → find p xs ≡ None → p x ≡ true → find p (xs ++ x ∷ []) ≡ Some x
find_new p [] x none e = ap (λ b. cond b (Some x) None) e
find_new p (y ∷ ys) x none e = by (p y) none (λ later. find_new p ys x later e)
  where
    by : (b : Bool) → cond b (Some y) (find p ys) ≡ None → (find p ys ≡ None → find p (ys ++ x ∷ []) ≡ Some x) → cond b (Some y) (find p (ys ++ x ∷ [])) ≡ Some x
    by true f rest = absurd (none-some _ (sym f))
    by false f rest = rest f

any_found : (p : Symbol → Bool) (xs : List Symbol) → list_any p xs ≡ is_some (find p xs)
any_found p [] = refl
any_found p (x ∷ xs) = by (p x) (any_found p xs)
  where
    by : (b : Bool) → list_any p xs ≡ is_some (find p xs) → (b || list_any p xs) ≡ is_some (cond b (Some x) (find p xs))
    by true e = refl
    by false e = e

copied_some : (o : Option (Bor (List ℕ))) → is_some (option_copied o) ≡ is_some o
copied_some None = refl
copied_some (Some x) = refl

mapped_some : (o : Option Symbol) → is_some (option_map (λ (s : Symbol). s.name) o) ≡ is_some o
mapped_some None = refl
mapped_some (Some x) = refl

copied_none : (o : Option (Bor (List ℕ))) → is_some o ≡ false → option_copied o ≡ None
copied_none None e = refl
copied_none (Some x) e = absurd (true≢false e)

mapped_none : (o : Option Symbol) → option_map (λ (s : Symbol). s.name) o ≡ None → o ≡ None
mapped_none None e = refl
mapped_none (Some x) e = absurd (none-some _ (sym e))

-- a symbol for another kind
pub other_kind : (kind : SymbolKind) (table : List (Option (Bor (List ℕ)))) (symbols : List Symbol) (symbol : Symbol) → is_same_kind kind symbol.kind ≡ false → KnowsNamesOfKind kind table symbols → KnowsNamesOfKind kind table (symbols ++ symbol ∷ [])
other_kind kind table symbols symbol other h place =
    h place ∙ sym (ap (option_map (λ (s : Symbol). s.name)) (find_other (is_for kind place) symbols symbol (ap (λ b. b && (symbol.place == place)) other)))

-- a symbol for a place that has no name
pub after_put : (kind : SymbolKind) (table new : List (Option (Bor (List ℕ)))) (symbols : List Symbol) (symbol : Symbol) (name : Bor (List ℕ)) → is_same_kind kind symbol.kind ≡ true → name.now ≡ symbol.name
    → KnowsNamesOfKind kind table symbols → symbol.place < length table → is_some (get_or table symbol.place None) ≡ false → new ≡ slice_set table symbol.place (Some name) → KnowsNamesOfKind kind new (symbols ++ symbol ∷ [])
after_put kind table new symbols symbol name same is_name h low free put place = by (symbol.place == place) refl
  where
    by : (b : Bool) → (symbol.place == place) ≡ b → option_copied (get_or new place None) ≡ given_name (symbols ++ symbol ∷ []) kind place
    by true e =
        let at : symbol.place ≡ place = eqb-true _ _ e in
        let none : find (is_for kind place) symbols ≡ None = mapped_none _ (sym (h place) ∙ ap (λ n. option_copied (get_or table n None)) (sym at) ∙ copied_none _ free) in
        ap option_copied (ap (λ (t : List (Option (Bor (List ℕ)))). get_or t place None) put ∙ ap (λ n. get_or (slice_set table symbol.place (Some name)) n None) (sym at) ∙ get_or-set_same table symbol.place (Some name) None low)
        ∙ ap Some is_name
        ∙ sym (ap (option_map (λ (s : Symbol). s.name)) (find_new (is_for kind place) symbols symbol none (ap₂ (λ a b. a && b) same e)))
    by false e =
        let apart : place ≢ symbol.place = λ is. true≢false (sym (ap (λ n. symbol.place == n) is ∙ itself symbol.place) ∙ e) in
        ap option_copied (ap (λ (t : List (Option (Bor (List ℕ)))). get_or t place None) put ∙ get_or-set_other table symbol.place place (Some name) None apart)
        ∙ h place
        ∙ sym (ap (option_map (λ (s : Symbol). s.name)) (find_other (is_for kind place) symbols symbol (ap₂ (λ a b. a && b) same e)))
      where
        itself : (n : ℕ) → (n == n) ≡ true
        itself n = grind (arith, nat_tests)

-- whether a symbol is for a place that has no name
pub is_free : (kind : SymbolKind) (table : List (Option (Bor (List ℕ)))) (symbols : List Symbol) (place count : ℕ) → KnowsNamesOfKind kind table symbols → length table ≡ count
    → (nat_lt place (length table) && not (is_some (get_or table place None))) ≡ not (not (nat_lt place count) || list_any (is_for kind place) symbols)
is_free kind table symbols place count h many =
    ap₂ (λ n b. nat_lt place n && not b) many (sym (copied_some (get_or table place None)) ∙ ap is_some (h place) ∙ mapped_some (find (is_for kind place) symbols) ∙ sym (any_found (is_for kind place) symbols))
    ∙ turned (nat_lt place count) (list_any (is_for kind place) symbols)
  where
    turned : (a b : Bool) → (a && not b) ≡ not (not a || b)
    turned true b = refl
    turned false b = refl

pub no_fault : (c : Counts) (before : List Symbol) (symbol : Symbol) → is_bad_symbol c before symbol ≡ false → symbol_fault c before (Some symbol) ≡ None
no_fault c before symbol e = ap (λ (b : Bool). if b then Some BadSymbol else None) e

pub put_parts : (place count : ℕ) (o : Option (Bor (List ℕ))) → (nat_lt place count && not (is_some o)) ≡ true → (place < count) × (is_some o ≡ false)
put_parts place count o e = let p = and_parts (nat_lt place count) (not (is_some o)) e in (ltb-true place count p.0, flip (is_some o) p.1)
  where
    flip : (b : Bool) → not b ≡ true → b ≡ false
    flip true h = absurd (true≢false (sym h))
    flip false h = refl

-- a name is put just where its symbol has no fault
pub taken : (kind : SymbolKind) (table : List (Option (Bor (List ℕ)))) (c : Counts) (before : List Symbol) (words : SymbolWords) → KnowsNamesOfKind kind table before → length table ≡ count_of_kind c kind → words.kind ≡ kind
    → (nat_lt words.place (length table) && not (is_some (get_or table words.place None))) ≡ not (is_bad_symbol c before (symbol_of words))
taken kind table c before words h many is =
    is_free kind table before words.place (count_of_kind c kind) h many
    ∙ ap (λ k. not (not (nat_lt words.place (count_of_kind c k)) || list_any (is_for k words.place) before)) (sym is)

-- what is put
pub record IsPutAt (kind : SymbolKind) (table new : List (Option (Bor (List ℕ)))) (before : List Symbol) (words : SymbolWords) : Type 0 where
  pub knows : KnowsNamesOfKind kind new (before ++ symbol_of words ∷ [])
  pub many : length new ≡ length table

pub put_here : (kind : SymbolKind) (table new : List (Option (Bor (List ℕ)))) (before : List Symbol) (words : SymbolWords) → KnowsNamesOfKind kind table before → is_same_kind kind words.kind ≡ true
    → (nat_lt words.place (length table) && not (is_some (get_or table words.place None))) ≡ true → new ≡ slice_set table words.place (Some words.name) → IsPutAt kind table new before words
put_here kind table new before words h same free put =
    let p = put_parts words.place (length table) (get_or table words.place None) free in
    record {
      knows = after_put kind table new before (symbol_of words) words.name same refl h p.0 p.1 put;
      many = ap length put ∙ length-set table words.place (Some words.name);
    }

pub none_bad : (b : Bool) → not b ≡ true → b ≡ false
none_bad true h = absurd (true≢false (sym h))
none_bad false h = refl

-- the name of a place in a table
pub given_here : (kind : SymbolKind) (table : List (Option (Bor (List ℕ)))) (symbols : List Symbol) (place : ℕ) (o : Option (Bor (List ℕ))) → KnowsNamesOfKind kind table symbols → get_or table place None ≡ o
    → unwrap_or (option_copied o) (plain_name kind place) ≡ name_for symbols kind place
given_here kind table symbols place o h e = ap (λ n. unwrap_or n (plain_name kind place)) (sym (ap option_copied e) ∙ h place)
