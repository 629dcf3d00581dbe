-- A stable sort by line puts words in the order of the text.
use Rattle.std.proofs.Common.{◌≡◌, refl, sym, ap, ap₂, ◌∙◌, ℕ, ◌<◌, ◌≤◌, Bool, true, false, cond, not, ◌&&◌, ◌==◌, nat_lt, true≢false, List, [], ◌∷◌, length, get_or, arith}
use Rattle.std.specs.List.{filter}
use Rattle.std.specs.List.Sorted.{ties, IsSortedByKey, IsStableByKey}
use Rattle.std.specs.Ordering.{nat_cmp, is_lt}
use Rattle.std.specs.declared.cmp.Ordering.TheVariants.{Less, Equal, Greater}
use Rattle.std.specs.Cmp.{both_ways}
use Rattle.std.proofs.lemmas.Bool.{ltb-false, le-ltb}
use Rattle.std.proofs.lemmas.Bool.Decides.{Decides-eqb}
use Rattle.std.proofs.lemmas.List.{length-map}
use Rattle.std.proofs.lemmas.List.Elements.{filter_agree}
use Rattle.std.proofs.Math.ListN.{get_or-map}
use Rattle.std.proofs.lemmas.List.Sorted.{IsNonDecreasingBy-from_sort}
use Rattle.netlist_core.specs.declared.model.Port.{Port}
use Rattle.netlist_meaning.specs.InOrder.{cons_when, words_on_line, by_line}
use Rattle.flat_designs.proofs.Order.{words_stand_by_line}
use Rattle.design_walks.specs.declared.words.Word.{Word}
use Rattle.design_walks.specs.Words.{port_of, as_ports}

abbrev line_of : Word → ℕ
line_of word = word.line

abbrev on_line : ℕ → Word → Bool
on_line line word = word.line == line

-- the words of a line are those that pass its test
words_that_pass : (line : ℕ) (words : List Word) → words_on_line line (as_ports words) ≡ as_ports (filter (on_line line) words)
words_that_pass line [] = refl
words_that_pass line (word ∷ words) = by (on_line line word) (words_that_pass line words)
  where
    by : (b : Bool) → words_on_line line (as_ports words) ≡ as_ports (filter (on_line line) words) → cons_when b (port_of word) (words_on_line line (as_ports words)) ≡ as_ports (cond b (word ∷ filter (on_line line) words) (filter (on_line line) words))
    by true rest = ap (λ ws. port_of word ∷ ws) rest
    by false rest = rest

-- two words tie where they are on one line
ties_on_line : (a b : ℕ) → (not (is_lt (nat_cmp a b)) && not (is_lt (nat_cmp b a))) ≡ (b == a)
ties_on_line a b = ap₂ (λ p q. not p && not q) (is_less a b) (is_less b a) ∙ both_ways _ _ there back
  where
    is_less : (a b : ℕ) → is_lt (nat_cmp a b) ≡ nat_lt a b
    is_less a b = by (nat_lt a b) (a == b)
      where
        by : (less same : Bool) → is_lt (cond less Less (cond same Equal Greater)) ≡ less
        by true same = refl
        by false true = refl
        by false false = refl

    there : (not (nat_lt a b) && not (nat_lt b a)) ≡ true → (b == a) ≡ true
    there h = (Decides-eqb b a).1 (neither (nat_lt a b) (nat_lt b a) refl refl h)
      where
        neither : (p q : Bool) → nat_lt a b ≡ p → nat_lt b a ≡ q → (not p && not q) ≡ true → b ≡ a
        neither true q e f h = absurd (true≢false (sym h))
        neither false true e f h = absurd (true≢false (sym h))
        neither false false e f h = let p : b ≤ a = ltb-false a b e in let q : a ≤ b = ltb-false b a f in omega arith

    back : (b == a) ≡ true → (not (nat_lt a b) && not (nat_lt b a)) ≡ true
    back h = let same : b ≡ a = (Decides-eqb b a).0 h in ap₂ (λ p q. not p && not q) (le-ltb a b (omega arith)) (le-ltb b a (omega arith))

pub sorted_by_line : (words sorted : List Word) → IsSortedByKey line_of nat_cmp sorted → IsStableByKey line_of nat_cmp words sorted → as_ports sorted ≡ by_line (as_ports words)
sorted_by_line words sorted up stable = (words_stand_by_line (as_ports words) (as_ports sorted)).0 (record { ascend = ascend; stable = stays })
  where
    word_at : Port → Word
    word_at port = record { line = port.line; name = record { ref_ptr = (0, 0); now = port.name } }

    line_at : (k : ℕ) (port : Port) → (get_or (as_ports sorted) k port).line ≡ line_of (get_or sorted k (word_at port))
    line_at k port = ap (λ (p : Port). p.line) (get_or-map port_of sorted k (word_at port))

    ascend : (i j : ℕ) (port : Port) → i < j → j < length (as_ports sorted) → (get_or (as_ports sorted) i port).line ≤ (get_or (as_ports sorted) j port).line
    ascend i j port l m =
        let within : j < length sorted = let e : length (as_ports sorted) ≡ length sorted = length-map sorted port_of in omega arith in
        let rise : line_of (get_or sorted i (word_at port)) ≤ line_of (get_or sorted j (word_at port)) = IsNonDecreasingBy-from_sort line_of sorted up i j (word_at port) (omega arith) within in
        let e = line_at i port in
        let f = line_at j port in
        omega arith

    passes : (line : ℕ) → filter (on_line line) sorted ≡ filter (on_line line) words
    passes line =
        let at : Word = word_at (record { line = line; name = [] }) in
        let same : (word : Word) → ties (λ x y. is_lt (nat_cmp (line_of x) (line_of y))) at word ≡ on_line line word = λ word. ties_on_line line (line_of word) in
        sym (filter_agree _ _ same sorted) ∙ stable at ∙ filter_agree _ _ same words

    stays : (line : ℕ) → words_on_line line (as_ports sorted) ≡ words_on_line line (as_ports words)
    stays line = words_that_pass line sorted ∙ ap as_ports (passes line) ∙ sym (words_that_pass line words)
