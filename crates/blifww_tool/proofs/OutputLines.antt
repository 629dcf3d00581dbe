-- The lines of outputs, one after the other.
use Rattle.std.proofs.Common.{ℕ, ◌≡◌, ◌<◌, ◌≤◌, ◌+◌, sym, ap, ap₂, ◌∙◌, refl, Bool, List, [], ◌∷◌, ◌++◌, length, take, take_all, get_or, map, flat_map, zip, arith}
use Rattle.std.proofs.lemmas.List.{append-nil, append_assoc, take_more}
use Rattle.std.proofs.lemmas.List.Concat.{flat_map-append}
use Rattle.std.proofs.lemmas.Slice.Zip.{length-zip, get_or-zip}
use Rattle.blifww_tool.specs.Lines.{bits_line}

-- an output's line, by the output and its bits
abbrev pub line : List ℕ × List Bool → List ℕ
line p = bits_line p.0 p.1

-- one more output
pub line_turn : (outs : List (List ℕ)) (bits : List (List Bool)) (n : ℕ) (out : List ℕ) (row : List Bool) → n < length outs → n < length bits
    → ((d : List ℕ) → out ≡ get_or outs n d) → ((d : List Bool) → row ≡ get_or bits n d)
    → flat_map line (take (n + 1) (zip outs bits)) ≡ flat_map line (take n (zip outs bits)) ++ bits_line out row
line_turn outs bits n out row in_outs in_bits out_is row_is =
    let pairs = zip outs bits in
    let last : List ℕ × List Bool = (out, row) in
    let long : n < length pairs = omega (arith, length-zip outs bits) in
    let at : get_or pairs n last ≡ last = get_or-zip outs bits n last in_outs in_bits ∙ ap₂ (λ (o : List ℕ) (r : List Bool). (o, r)) (sym (out_is out)) (sym (row_is row)) in
    let more : take (n + 1) pairs ≡ take n pairs ++ last ∷ [] = take_more pairs n last long ∙ ap (λ (p : List ℕ × List Bool). take n pairs ++ p ∷ []) at in
    ap (flat_map line) more ∙ flat_map-append line (take n pairs) (last ∷ []) ∙ ap (λ (l : List ℕ). flat_map line (take n pairs) ++ l) (append-nil (bits_line out row))

-- all of them
pub all_pairs : (outs : List (List ℕ)) (bits : List (List Bool)) (n : ℕ) → length (zip outs bits) ≤ n → flat_map line (take n (zip outs bits)) ≡ flat_map line (zip outs bits)
all_pairs outs bits n h = ap (flat_map line) (take_all n (zip outs bits) h)

-- the lines of outputs whose names and bits are given by functions, in each of some contexts
outputs_then : {X : Type 0} (name : X → List ℕ) (bits : X → List Bool) (outs : List X) (names : List (List ℕ)) (more : List (List Bool))
    → flat_map line (zip (map name outs ++ names) (map bits outs ++ more)) ≡ flat_map (λ out. bits_line (name out) (bits out)) outs ++ flat_map line (zip names more)
outputs_then name bits [] names more = refl
outputs_then name bits (out ∷ outs) names more =
    ap (λ (l : List ℕ). bits_line (name out) (bits out) ++ l) (outputs_then name bits outs names more)
    ∙ sym (append_assoc (bits_line (name out) (bits out)) (flat_map (λ o. bits_line (name o) (bits o)) outs) (flat_map line (zip names more)))

pub lines_in_contexts : {X : Type 0} (name : ℕ → X → List ℕ) (bits : ℕ → X → List Bool) (outs : List X) (contexts : List ℕ)
    → flat_map line (zip (flat_map (λ context. map (name context) outs) contexts) (flat_map (λ context. map (bits context) outs) contexts))
    ≡ flat_map (λ context. flat_map (λ out. bits_line (name context out) (bits context out)) outs) contexts
lines_in_contexts name bits outs [] = refl
lines_in_contexts name bits outs (context ∷ contexts) =
    outputs_then (name context) (bits context) outs (flat_map (λ c. map (name c) outs) contexts) (flat_map (λ c. map (bits c) outs) contexts)
    ∙ ap (λ (l : List ℕ). flat_map (λ out. bits_line (name context out) (bits context out)) outs ++ l) (lines_in_contexts name bits outs contexts)

-- and of those of names
pub lines_of_names : (bits : List ℕ → List Bool) (names : List (List ℕ)) → flat_map line (zip names (map bits names)) ≡ flat_map (λ name. bits_line name (bits name)) names
lines_of_names bits [] = refl
lines_of_names bits (name ∷ names) = ap (λ (l : List ℕ). bits_line name (bits name) ++ l) (lines_of_names bits names)
