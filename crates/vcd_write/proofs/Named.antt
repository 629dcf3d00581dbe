-- The references of nets, piece by piece.
use Rattle.std.proofs.Common.{◌≡◌, refl, sym, ◌∙◌, ap, ap₂, subst, ℕ, suc, ◌+◌, ◌<◌, List, [], ◌∷◌, ◌++◌, append_assoc, flat_map, length, map, take, get_or, All, arith}
use Rattle.std.specs.List.{range_with_len}
use Rattle.std.proofs.lemmas.List.{append-nil, map-append, map_more, take_more}
use Rattle.std.proofs.lemmas.List.Elements.{All-append, All-cons, All-nil}
use Rattle.std.proofs.lemmas.Grind.{flat_map-append}
use Rattle.pattern_reading.specs.declared.ports.NetLine.{NetLine}
use Rattle.pattern_reading.specs.Escapes.{escaped_byte}
use Rattle.vcd_write.specs.References.{escaped_reference, is_plain_in_reference}
use Rattle.vcd_write.specs.NetWaves.{IsByteName, NetInContext, nets_in, reference_of}
use Rattle.vcd_write.proofs.Variables.{contexts_more}

-- one more element of a list
next : {X : Type 0} (xs : List X) (i : ℕ) (x : X) → i < length xs → x ≡ get_or xs i x → take (i + 1) xs ≡ take i xs ++ x ∷ []
next xs i x low is = take_more xs i x low ∙ ap (λ y. take i xs ++ y ∷ []) (sym is)

all_next : {X : Type 0} (P : X → Type 0) (xs : List X) (i : ℕ) (x : X) → i < length xs → x ≡ get_or xs i x → P x → All P (take i xs) → All P (take (i + 1) xs)
all_next P xs i x low is p all = subst (All P) (sym (next xs i x low is)) (All-append P (take i xs) (x ∷ []) all (All-cons P x [] p (All-nil P)))

pub escaped_more : (name : List ℕ) (i byte : ℕ) → i < length name → byte ≡ get_or name i byte → (first before after : List ℕ) → before ≡ first ++ escaped_reference (take i name)
    → after ≡ before ++ escaped_byte is_plain_in_reference byte → after ≡ first ++ escaped_reference (take (i + 1) name)
escaped_more name i byte low is first before after had pushed =
    let piece : List ℕ = escaped_byte is_plain_in_reference byte in
    let more : escaped_reference (take (i + 1) name) ≡ escaped_reference (take i name) ++ piece =
    ap escaped_reference (next name i byte low is) ∙ flat_map-append (escaped_byte is_plain_in_reference) (take i name) (byte ∷ []) ∙ ap (λ p. escaped_reference (take i name) ++ p) (append-nil piece) in
    pushed ∙ ap (λ t. t ++ piece) had ∙ append_assoc first (escaped_reference (take i name)) piece ∙ ap (λ t. first ++ t) (sym more)

pub bytes_more : (name : List ℕ) (i byte : ℕ) → i < length name → byte ≡ get_or name i byte → byte < 256 → IsByteName (take i name) → IsByteName (take (i + 1) name)
bytes_more name i byte low is small all = all_next (λ b. b < 256) name i byte low is small all

pub names_more : (nets : List NetLine) (i : ℕ) (net : NetLine) → i < length nets → net ≡ get_or nets i net → IsByteName net.name → All (λ net. IsByteName net.name) (take i nets) → All (λ net. IsByteName net.name) (take (i + 1) nets)
names_more nets i net low is small all = all_next (λ (net : NetLine). IsByteName net.name) nets i net low is small all

pub references_more : (contexts context : ℕ) (nets : List NetLine) (i : ℕ) (net : NetLine) → i < length nets → net ≡ get_or nets i net → (first before : List (List ℕ)) (reference : List ℕ) (after : List (List ℕ))
    → before ≡ first ++ map (reference_of contexts) (nets_in context (take i nets)) → reference ≡ reference_of contexts (record { context = context; net = net }) → after ≡ before ++ reference ∷ []
    → after ≡ first ++ map (reference_of contexts) (nets_in context (take (i + 1) nets))
references_more contexts context nets i net low is first before reference after had same pushed =
    let variable : NetInContext = record { context = context; net = net } in
    let front : List NetInContext = nets_in context (take i nets) in
    let more : map (reference_of contexts) (nets_in context (take (i + 1) nets)) ≡ map (reference_of contexts) front ++ reference_of contexts variable ∷ [] =
    ap (λ nets. map (reference_of contexts) (nets_in context nets)) (next nets i net low is)
    ∙ ap (map (reference_of contexts)) (map-append (λ net. record { context = context; net = net }) (take i nets) (net ∷ []))
    ∙ map-append (reference_of contexts) front (variable ∷ []) in
    pushed ∙ ap₂ (λ t r. t ++ r ∷ []) had same ∙ append_assoc first (map (reference_of contexts) front) (reference_of contexts variable ∷ []) ∙ ap (λ t. first ++ t) (sym more)

pub references_in_next : (contexts : ℕ) (nets : List NetLine) (context : ℕ) (before after : List (List ℕ)) → before ≡ map (reference_of contexts) (flat_map (λ c. nets_in c nets) (range_with_len 0 context))
    → after ≡ before ++ map (reference_of contexts) (nets_in context nets) → after ≡ map (reference_of contexts) (flat_map (λ c. nets_in c nets) (range_with_len 0 (context + 1)))
references_in_next contexts nets context before after had pushed =
    pushed ∙ ap (λ t. t ++ map (reference_of contexts) (nets_in context nets)) had
    ∙ sym (map-append (reference_of contexts) (flat_map (λ c. nets_in c nets) (range_with_len 0 context)) (nets_in context nets))
    ∙ ap (map (reference_of contexts)) (sym (contexts_more nets context))
