-- Names and their numbers.
use Rattle.std.proofs.Common.{◌≡◌, refl, sym, subst, ap, ap₂, ◌∙◌, ℕ, ◌+◌, ◌<◌, Bool, true, false, cond, List, [], ◌∷◌, ◌++◌, length, map, take, drop, get_or, arith}
use Rattle.std.proofs.lemmas.List.{map_more, map_push, take-map, drop-map}
use Rattle.std.proofs.lemmas.List.Elements.{All-push}
use Rattle.std.specs.Prelude.{Some, None, bytes_eq}
use Rattle.std.proofs.lemmas.List.{length-map, get_or_append_left, map-append, length-append}
use Rattle.std.proofs.Math.Seq.{get_or-append_seam, take-append_seam, drop-append_seam}
use Rattle.std.proofs.lemmas.Slice.Eq.{bytes_eq-Decides}
use denote.Ref.{Bor}
use Rattle.netlist_core.specs.declared.model.Port.{Port}
use Rattle.netlist_core.specs.Names.{Name}
use Rattle.model_words.specs.declared.word.Word.{Word}
use Rattle.model_words.specs.Words.{word_port, word_ports}
use Rattle.net_faults.specs.declared.numbering.Numbering.{Numbering}
use Rattle.net_faults.specs.declared.numbering.NumberedWord.{NumberedWord}
use Rattle.net_faults.specs.Numbering.{AreNumbered, IsNumbered, IsNumbering, GivesNumber, KeepsNumbers, StandsAt, count_of, numbered_names, name_number, numbered_port, numbered_ports}

-- a name that had no number gets the next one
pub fresh_keeps : (old new : Numbering) (name : Name) (next : ℕ) → name_number old name ≡ None → GivesNumber old new name next → KeepsNumbers old new
fresh_keeps old new name next none put other number is = put other ∙ by (bytes_eq name other) refl
  where
    by : (b : Bool) → bytes_eq name other ≡ b → cond b (Some next) (name_number old other) ≡ Some number
    by true e = absurd (let clash : None ≡ Some number = sym none ∙ ap (name_number old) ((bytes_eq-Decides name other).0 e) ∙ is in cc)
    by false e = is

pub fresh_numbering : (old new : Numbering) (key : Bor (List ℕ)) (next : ℕ) → IsNumbering old → next ≡ count_of old → GivesNumber old new key.now next → new.names.items ≡ old.names.items ++ key ∷ [] → IsNumbering new
fresh_numbering old new key next had is put pushed other number e = by (bytes_eq key.now other) refl (sym (put other) ∙ e)
  where
    names : numbered_names new ≡ numbered_names old ++ key.now ∷ []
    names = ap (map (λ (n : Bor (List ℕ)). n.now)) pushed ∙ map-append (λ (n : Bor (List ℕ)). n.now) old.names.items (key ∷ [])

    many : length (numbered_names old) ≡ count_of old
    many = length-map old.names.items (λ (n : Bor (List ℕ)). n.now)

    more : count_of new ≡ count_of old + 1
    more = ap length pushed ∙ length-append old.names.items (key ∷ [])

    by : (b : Bool) → bytes_eq key.now other ≡ b → cond b (Some next) (name_number old other) ≡ Some number → StandsAt new other number
    by true same there =
        let here : next ≡ number = cc in
        let longer : count_of new ≡ count_of old + 1 = more in
        ((omega arith), ap (λ ns. get_or ns number []) names ∙ ap (λ k. get_or (numbered_names old ++ key.now ∷ []) k []) (sym here ∙ is ∙ sym many) ∙ get_or-append_seam (numbered_names old) key.now [] [] ∙ (bytes_eq-Decides key.now other).0 same)
    by false apart there =
        let stands = had other number there in
        let within : number < count_of old = stands.0 in
        let longer : count_of new ≡ count_of old + 1 = more in
        let mapped : length (numbered_names old) ≡ count_of old = many in
        ((omega arith), ap (λ ns. get_or ns number []) names ∙ get_or_append_left (numbered_names old) (key.now ∷ []) [] number (omega arith) ∙ stands.1)

-- a name that had a number gets it back
pub back : (old middle new : Numbering) (name : Name) (next number : ℕ) → name_number old name ≡ Some number → GivesNumber old middle name next → GivesNumber middle new name number → (other : Name) → name_number new other ≡ name_number old other
back old middle new name next number known one two other = two other ∙ ap (cond (bytes_eq name other) (Some number)) (one other) ∙ by (bytes_eq name other) refl
  where
    by : (b : Bool) → bytes_eq name other ≡ b → cond b (Some number) (cond b (Some next) (name_number old other)) ≡ name_number old other
    by true e = sym known ∙ ap (name_number old) ((bytes_eq-Decides name other).0 e)
    by false e = refl

pub back_numbering : (old new : Numbering) → IsNumbering old → ((name : Name) → name_number new name ≡ name_number old name) → new.names.items ≡ old.names.items → IsNumbering new
back_numbering old new had same names name number is =
    let stands = had name number (sym (same name) ∙ is) in
    let within : number < count_of old = stands.0 in
    let many : count_of new ≡ count_of old = ap length names in
    ((omega arith), ap (λ (ns : List (Bor (List ℕ))). get_or (map (λ n. n.now) ns) number []) names ∙ stands.1)

-- what is put is the name's number
pub put_there : (old new : Numbering) (name : Name) (number : ℕ) → GivesNumber old new name number → name_number new name ≡ Some number
put_there old new name number put = put name ∙ ap (λ b. cond b (Some number) (name_number old name)) ((bytes_eq-Decides name name).1 refl)

-- words keep their numbers
pub still_numbered : (old new : Numbering) (words : List NumberedWord) → IsNumbering new → KeepsNumbers old new → AreNumbered old words → AreNumbered new words
still_numbered old new words numbering keeps had i w within =
    let was = had i w within in
    record { numbering = numbering; number = keeps (get_or words i w).word.name.now (get_or words i w).number was.number }

-- one more word
pub numbered_more : (old new : Numbering) (words pushed : List NumberedWord) (word : NumberedWord) → pushed ≡ words ++ word ∷ [] → IsNumbering new → KeepsNumbers old new → name_number new word.word.name.now ≡ Some word.number → AreNumbered old words → AreNumbered new pushed
numbered_more old new words pushed word is numbering keeps number had =
    subst (AreNumbered new) (sym is) (All-push (IsNumbered new) words word (still_numbered old new words numbering keeps had) (record { numbering = numbering; number = number }))

pub keeps_more : (old middle new : Numbering) → KeepsNumbers old middle → KeepsNumbers middle new → KeepsNumbers old new
keeps_more old middle new one two name number is = two name number (one name number is)

pub ports_more : (words : List Word) (i : ℕ) (numbered pushed : List NumberedWord) (word : NumberedWord) (d : Word) → i < length words → word.word ≡ get_or words i d → pushed ≡ numbered ++ word ∷ [] → numbered_ports numbered ≡ word_ports (take i words) → numbered_ports pushed ≡ word_ports (take (i + 1) words)
ports_more words i numbered pushed word d within is more had =
    ap numbered_ports more ∙ map_push numbered_port numbered word ∙ ap₂ (λ ps w. ps ++ word_port w ∷ []) had is ∙ sym (map_more word_port words i d within)

-- words that are cut where one list of ports ends and the other begins
pub ports_in_front : (words : List NumberedWord) (xs ys : List Port) (n : ℕ) (front : List NumberedWord) → numbered_ports words ≡ xs ++ ys → n ≡ length xs → front ≡ take n words → numbered_ports front ≡ xs
ports_in_front words xs ys n front are cut is =
    ap numbered_ports is ∙ sym (take-map numbered_port n words) ∙ ap₂ take cut are ∙ take-append_seam xs ys

pub ports_in_back : (words : List NumberedWord) (xs ys : List Port) (n : ℕ) (back : List NumberedWord) → numbered_ports words ≡ xs ++ ys → n ≡ length xs → back ≡ drop n words → numbered_ports back ≡ ys
ports_in_back words xs ys n back are cut is =
    ap numbered_ports is ∙ sym (drop-map numbered_port n words) ∙ ap₂ drop cut are ∙ drop-append_seam xs ys
