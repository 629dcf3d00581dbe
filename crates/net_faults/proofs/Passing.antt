-- Loops over the words of a list that ask of each whether its name stands earlier.
use Rattle.std.proofs.Common.{◌≡◌, ap, ◌∙◌, subst, ℕ, ◌+◌, ◌<◌, Bool, true, false, cond, not, List, [], ◌∷◌, ◌++◌, length, drop, get_or}
use Rattle.std.specs.Prelude.{Option, option_to_list}
use Rattle.std.specs.Bool.{then_some}
use Rattle.std.proofs.lemmas.List.{append_assoc, drop_more}
use Rattle.netlist_core.specs.declared.model.Port.{Port}
use Rattle.model_words.specs.Words.{earliest_after}
use Rattle.model_words.proofs.EarliestWords.{earliest_after-append}
use Rattle.net_faults.specs.declared.numbering.Numbering.{Numbering}
use Rattle.net_faults.specs.declared.numbering.NumberedWord.{NumberedWord}
use Rattle.net_faults.specs.declared.repeats.Repeats.{Repeats}
use Rattle.net_faults.specs.Numbering.{numbered_port, numbered_ports}
use Rattle.net_faults.specs.Repeats.{IsBetween}

-- Words are left, and what they and those passed give is this.
pub record IsLeft {X : Type 0} (names : Numbering) (repeats : Repeats) (words : List NumberedWord) (value : List Port → List Port → X) (end : X) : Type 0 where
  pub before : List Port
  pub between : IsBetween names repeats before (numbered_ports words)
  pub gives : value before (numbered_ports words) ≡ end

-- a word at which nothing stands
abbrev pub no_word : NumberedWord
no_word = record { word = record { line = 0; name = record { ref_ptr = (0, 0); now = [] } }; number = 0 }

pub left_after : {X : Type 0} (names : Numbering) (repeats new : Repeats) (words : List NumberedWord) (value next : List Port → List Port → X) (end : X) (i : ℕ) → i < length words →
    ((before after : List Port) → IsBetween names repeats before (numbered_port (get_or words i no_word) ∷ after) → IsBetween names new (numbered_port (get_or words i no_word) ∷ before) after) →
    ((before after : List Port) → IsBetween names repeats before (numbered_port (get_or words i no_word) ∷ after) → next (numbered_port (get_or words i no_word) ∷ before) after ≡ value before (numbered_port (get_or words i no_word) ∷ after)) →
    IsLeft names repeats (drop i words) value end → IsLeft names new (drop (i + 1) words) next end
left_after {X} names repeats new words value next end i within passes steps left = to (subst (λ ws. IsLeft names repeats ws value end) (drop_more words i no_word within) left)
  where
    to : IsLeft names repeats (get_or words i no_word ∷ drop (i + 1) words) value end → IsLeft names new (drop (i + 1) words) next end
    to l = record {
      before = numbered_port (get_or words i no_word) ∷ l.before;
      between = passes l.before (numbered_ports (drop (i + 1) words)) l.between;
      gives = steps l.before (numbered_ports (drop (i + 1) words)) l.between ∙ l.gives;
    }

-- a word is offered where a test says so
pub offered_if : (test : Bool) (found new : Option Port) (p : Port) (rest : List Port) → new ≡ cond test (earliest_after found (p ∷ [])) found →
    earliest_after new rest ≡ earliest_after found (option_to_list (then_some test p) ++ rest)
offered_if true found new p rest is = ap (λ o. earliest_after o rest) is ∙ earliest_after-append found (p ∷ []) rest
offered_if false found new p rest is = ap (λ o. earliest_after o rest) is

-- a word is kept unless a test says so
pub kept_unless : (test : Bool) (kept new : List Port) (p : Port) (rest : List Port) → new ≡ cond test kept (kept ++ p ∷ []) →
    new ++ rest ≡ kept ++ (option_to_list (then_some (not test) p) ++ rest)
kept_unless true kept new p rest is = ap (λ ps. ps ++ rest) is
kept_unless false kept new p rest is = ap (λ ps. ps ++ rest) is ∙ append_assoc kept (p ∷ []) rest

-- three lists, offered one after another
pub offered_thrice : (start first second third : Option Port) (xs ys zs : List Port) → first ≡ earliest_after start xs → second ≡ earliest_after first ys → third ≡ earliest_after second zs →
    third ≡ earliest_after start (xs ++ ys ++ zs)
offered_thrice start first second third xs ys zs one two three =
    three
    ∙ ap (λ o. earliest_after o zs) (two ∙ ap (λ o. earliest_after o ys) one ∙ earliest_after-append start xs ys)
    ∙ earliest_after-append start (xs ++ ys) zs
