-- The lines of the text.
use Rattle.std.proofs.Common.{◌≡◌, refl, sym, ap, ◌∙◌, ℕ, ◌<◌, ◌+◌, List, [], ◌∷◌, ◌++◌, false, append_assoc}
use Rattle.std.specs.Prelude.{codes, flat_map}
use Rattle.std.specs.List.{list_any, AllByRecursion}
use Rattle.blif_text.specs.declared.logical.Logical.{Logical}
use Rattle.blif_text.specs.LogicalLines.{words_of, logical_lines}
use Rattle.blif_text.proofs.Texts.{is_special, lines_from, logical, logical-cut, none-append, words-cut, words-whole}
use Rattle.made_netlists.specs.declared.gate.GateKind.{GateKind}
use Rattle.made_netlists.specs.declared.gate.GateKind.TheVariants.{And, Or, Xor, Nand}
use Rattle.made_netlists.specs.declared.gate.Gate.{Gate}
use Rattle.made_netlists.specs.Text.{net_name, drawn_gate_text, head_text, names_text, kind_rows}
use Rattle.made_netlists.specs.Design.{line_after}
use Rattle.made_netlists.proofs.Names.{name_special, name_blank, name_some}

abbrev pub row : ℕ → List ℕ → List ℕ → Logical
row n ins out = logical n (ins ∷ out ∷ [])

-- the lines of a gate with these names, before others
abbrev pub rows_then : GateKind → ℕ → List Logical → List Logical
rows_then And n more = row (n + 1) (codes "11") (codes "1") ∷ more
rows_then Or n more = row (n + 1) (codes "1-") (codes "1") ∷ row (n + 1 + 1) (codes "-1") (codes "1") ∷ more
rows_then Xor n more = row (n + 1) (codes "10") (codes "1") ∷ row (n + 1 + 1) (codes "01") (codes "1") ∷ more
rows_then Nand n more = row (n + 1) (codes "11") (codes "0") ∷ more

abbrev pub names_line : ℕ → List ℕ → List ℕ → List ℕ → Logical
names_line n a b o = logical n (codes ".names" ∷ a ∷ b ∷ o ∷ [])

abbrev pub lines_then : GateKind → ℕ → List ℕ → List ℕ → List ℕ → List Logical → List Logical
lines_then kind n a b o more = names_line n a b o ∷ rows_then kind n more

-- the lines of gates and the last line
abbrev pub gate_lines : ℕ → List Gate → List Logical
gate_lines n [] = logical n (codes ".end" ∷ []) ∷ []
gate_lines n (g ∷ gs) = lines_then g.kind n (net_name g.first) (net_name g.second) (net_name g.out) (gate_lines (line_after g.kind n) gs)

abbrev pub made_lines : ℕ → ℕ → ℕ → List Gate → List Logical
made_lines last data0 data1 gs =
    logical 1 (codes ".model" ∷ codes "made" ∷ []) ∷ logical 2 (codes ".inputs" ∷ codes "i0" ∷ codes "i1" ∷ codes "i2" ∷ codes "i3" ∷ [])
    ∷ logical 3 (codes ".outputs" ∷ net_name last ∷ codes "q0" ∷ codes "q1" ∷ [])
    ∷ logical 4 (codes ".latch" ∷ net_name data0 ∷ codes "q0" ∷ codes "0" ∷ []) ∷ logical 5 (codes ".latch" ∷ net_name data1 ∷ codes "q1" ∷ codes "1" ∷ []) ∷ gate_lines 6 gs

-- the nets of a gate are among those that a text may have
abbrev pub IsNear : Gate → Type 0
IsNear g = (g.first < 134) × (g.second < 134) × (g.out < 134)

one : (a : ℕ) → a < 134 → words_of (net_name a) ≡ net_name a ∷ []
one a h = words-whole (net_name a) (name_some a h) (name_blank a h)

before : (a : ℕ) (rest : List ℕ) → a < 134 → words_of (net_name a ++ 32 ∷ rest) ≡ net_name a ∷ words_of rest
before a rest h = words-cut (net_name a) 32 rest (name_some a h) (name_blank a h) refl

plain_before : (a : ℕ) (rest : List ℕ) → a < 134 → list_any is_special rest ≡ false → list_any is_special (net_name a ++ 32 ∷ rest) ≡ false
plain_before a rest h e = none-append is_special (net_name a) (32 ∷ rest) (name_special a h) e

rows_cut : (k : GateKind) (n : ℕ) (rest : List ℕ) → lines_from (n + 1) (kind_rows k ++ rest) ≡ rows_then k n (lines_from (line_after k n) rest)
rows_cut And n rest = logical-cut (n + 1) (codes "11 1") rest (codes "11") (codes "1" ∷ []) refl refl
rows_cut Or n rest = logical-cut (n + 1) (codes "1- 1") (codes "-1 1\n" ++ rest) (codes "1-") (codes "1" ∷ []) refl refl ∙ ap (λ v. row (n + 1) (codes "1-") (codes "1") ∷ v) (logical-cut (n + 1 + 1) (codes "-1 1") rest (codes "-1") (codes "1" ∷ []) refl refl)
rows_cut Xor n rest = logical-cut (n + 1) (codes "10 1") (codes "01 1\n" ++ rest) (codes "10") (codes "1" ∷ []) refl refl ∙ ap (λ v. row (n + 1) (codes "10") (codes "1") ∷ v) (logical-cut (n + 1 + 1) (codes "01 1") rest (codes "01") (codes "1" ∷ []) refl refl)
rows_cut Nand n rest = logical-cut (n + 1) (codes "11 0") rest (codes "11") (codes "0" ∷ []) refl refl

abbrev names_words : ℕ → ℕ → ℕ → List ℕ
names_words a b o = codes ".names " ++ (net_name a ++ 32 ∷ (net_name b ++ 32 ∷ net_name o))

names_joined : (a b o : ℕ) (rest : List ℕ) → names_text a b o ++ rest ≡ names_words a b o ++ 10 ∷ rest
names_joined a b o rest = ap (λ v. codes ".names " ++ v) (
    append_assoc (net_name a) (codes " " ++ (net_name b ++ (codes " " ++ (net_name o ++ codes "\n")))) rest
    ∙ ap (λ v. net_name a ++ 32 ∷ v) (
    append_assoc (net_name b) (codes " " ++ (net_name o ++ codes "\n")) rest
    ∙ ap (λ v. net_name b ++ 32 ∷ v) (append_assoc (net_name o) (codes "\n") rest)
    ∙ sym (append_assoc (net_name b) (32 ∷ net_name o) (10 ∷ rest)))
    ∙ sym (append_assoc (net_name a) (32 ∷ (net_name b ++ 32 ∷ net_name o)) (10 ∷ rest)))

names_cut : (n a b o : ℕ) (rest : List ℕ) → a < 134 → b < 134 → o < 134 → lines_from n (names_text a b o ++ rest) ≡ names_line n (net_name a) (net_name b) (net_name o) ∷ lines_from (n + 1) rest
names_cut n a b o rest h i j =
    ap (lines_from n) (names_joined a b o rest)
    ∙ logical-cut n (names_words a b o) rest (codes ".names") (net_name a ∷ net_name b ∷ net_name o ∷ [])
    (plain_before a (net_name b ++ 32 ∷ net_name o) h (plain_before b (net_name o) i (name_special o j)))
    (ap (λ u. codes ".names" ∷ u) (before a (net_name b ++ 32 ∷ net_name o) h ∙ ap (λ u. net_name a ∷ u) (before b (net_name o) i ∙ ap (λ u. net_name b ∷ u) (one o j))))

gate_cut : (n : ℕ) (g : Gate) (rest : List ℕ) → IsNear g → lines_from n (drawn_gate_text g ++ rest) ≡ lines_then g.kind n (net_name g.first) (net_name g.second) (net_name g.out) (lines_from (line_after g.kind n) rest)
gate_cut n g rest h =
    ap (lines_from n) (append_assoc (names_text g.first g.second g.out) (kind_rows g.kind) rest)
    ∙ names_cut n g.first g.second g.out (kind_rows g.kind ++ rest) h.0 h.1 h.2
    ∙ ap (λ v. names_line n (net_name g.first) (net_name g.second) (net_name g.out) ∷ v) (rows_cut g.kind n rest)

pub gates_cut : (n : ℕ) (gs : List Gate) → AllByRecursion IsNear gs → lines_from n (flat_map drawn_gate_text gs ++ codes ".end\n") ≡ gate_lines n gs
gates_cut n [] h = logical-cut n (codes ".end") [] (codes ".end") [] refl refl
gates_cut n (g ∷ gs) h =
    ap (lines_from n) (append_assoc (drawn_gate_text g) (flat_map drawn_gate_text gs) (codes ".end\n"))
    ∙ gate_cut n g (flat_map drawn_gate_text gs ++ codes ".end\n") h.0
    ∙ ap (λ v. lines_then g.kind n (net_name g.first) (net_name g.second) (net_name g.out) v) (gates_cut (line_after g.kind n) gs h.1)

outputs_cut : (n a : ℕ) (rest : List ℕ) → a < 134 → lines_from n (codes ".outputs " ++ (net_name a ++ (codes " q0 q1\n" ++ rest))) ≡ logical n (codes ".outputs" ∷ net_name a ∷ codes "q0" ∷ codes "q1" ∷ []) ∷ lines_from (n + 1) rest
outputs_cut n a rest h =
    ap (λ v. lines_from n (codes ".outputs " ++ v)) (sym (append_assoc (net_name a) (codes " q0 q1") (10 ∷ rest)))
    ∙ logical-cut n (codes ".outputs " ++ (net_name a ++ codes " q0 q1")) rest (codes ".outputs") (net_name a ∷ codes "q0" ∷ codes "q1" ∷ []) (plain_before a (codes "q0 q1") h refl) (ap (λ u. codes ".outputs" ∷ u) (before a (codes "q0 q1") h))

first_latch_cut : (n a : ℕ) (rest : List ℕ) → a < 134 → lines_from n (codes ".latch " ++ (net_name a ++ (codes " q0 0\n" ++ rest))) ≡ logical n (codes ".latch" ∷ net_name a ∷ codes "q0" ∷ codes "0" ∷ []) ∷ lines_from (n + 1) rest
first_latch_cut n a rest h =
    ap (λ v. lines_from n (codes ".latch " ++ v)) (sym (append_assoc (net_name a) (codes " q0 0") (10 ∷ rest)))
    ∙ logical-cut n (codes ".latch " ++ (net_name a ++ codes " q0 0")) rest (codes ".latch") (net_name a ∷ codes "q0" ∷ codes "0" ∷ []) (plain_before a (codes "q0 0") h refl) (ap (λ u. codes ".latch" ∷ u) (before a (codes "q0 0") h))

second_latch_cut : (n a : ℕ) (rest : List ℕ) → a < 134 → lines_from n (codes ".latch " ++ (net_name a ++ (codes " q1 1\n" ++ rest))) ≡ logical n (codes ".latch" ∷ net_name a ∷ codes "q1" ∷ codes "1" ∷ []) ∷ lines_from (n + 1) rest
second_latch_cut n a rest h =
    ap (λ v. lines_from n (codes ".latch " ++ v)) (sym (append_assoc (net_name a) (codes " q1 1") (10 ∷ rest)))
    ∙ logical-cut n (codes ".latch " ++ (net_name a ++ codes " q1 1")) rest (codes ".latch") (net_name a ∷ codes "q1" ∷ codes "1" ∷ []) (plain_before a (codes "q1 1") h refl) (ap (λ u. codes ".latch" ∷ u) (before a (codes "q1 1") h))

head_joined : (last data0 data1 : ℕ) (rest : List ℕ) → head_text last data0 data1 ++ rest ≡ codes ".model made\n.inputs i0 i1 i2 i3\n.outputs " ++ (net_name last ++ (codes " q0 q1\n.latch " ++ (net_name data0 ++ (codes " q0 0\n.latch " ++ (net_name data1 ++ (codes " q1 1\n" ++ rest))))))
head_joined last data0 data1 rest =
    ap (λ v. codes ".model made\n.inputs i0 i1 i2 i3\n.outputs " ++ v) (
    append_assoc (net_name last) (codes " q0 q1\n.latch " ++ (net_name data0 ++ (codes " q0 0\n.latch " ++ (net_name data1 ++ codes " q1 1\n")))) rest
    ∙ ap (λ v. net_name last ++ (codes " q0 q1\n.latch " ++ v)) (
    append_assoc (net_name data0) (codes " q0 0\n.latch " ++ (net_name data1 ++ codes " q1 1\n")) rest
    ∙ ap (λ v. net_name data0 ++ (codes " q0 0\n.latch " ++ v)) (append_assoc (net_name data1) (codes " q1 1\n") rest)))

pub made_lines_are : (last data0 data1 : ℕ) (gs : List Gate) → last < 134 → data0 < 134 → data1 < 134 → AllByRecursion IsNear gs → logical_lines (head_text last data0 data1 ++ (flat_map drawn_gate_text gs ++ codes ".end\n")) ≡ made_lines last data0 data1 gs
made_lines_are last data0 data1 gs h i j near =
    let rest : List ℕ = flat_map drawn_gate_text gs ++ codes ".end\n" in
    let after1 : List ℕ = codes ".latch " ++ (net_name data1 ++ (codes " q1 1\n" ++ rest)) in
    let after0 : List ℕ = codes ".latch " ++ (net_name data0 ++ (codes " q0 0\n" ++ after1)) in
    let outputs : List ℕ = codes ".outputs " ++ (net_name last ++ (codes " q0 q1\n" ++ after0)) in
    ap (lines_from 1) (head_joined last data0 data1 rest)
    ∙ logical-cut 1 (codes ".model made") (codes ".inputs i0 i1 i2 i3\n" ++ outputs) (codes ".model") (codes "made" ∷ []) refl refl
    ∙ ap (λ v. logical 1 (codes ".model" ∷ codes "made" ∷ []) ∷ v) (
    logical-cut 2 (codes ".inputs i0 i1 i2 i3") outputs (codes ".inputs") (codes "i0" ∷ codes "i1" ∷ codes "i2" ∷ codes "i3" ∷ []) refl refl
    ∙ ap (λ v. logical 2 (codes ".inputs" ∷ codes "i0" ∷ codes "i1" ∷ codes "i2" ∷ codes "i3" ∷ []) ∷ v) (
    outputs_cut 3 last after0 h
    ∙ ap (λ v. logical 3 (codes ".outputs" ∷ net_name last ∷ codes "q0" ∷ codes "q1" ∷ []) ∷ v) (
    first_latch_cut 4 data0 after1 i
    ∙ ap (λ v. logical 4 (codes ".latch" ∷ net_name data0 ∷ codes "q0" ∷ codes "0" ∷ []) ∷ v) (
    second_latch_cut 5 data1 rest j
    ∙ ap (λ v. logical 5 (codes ".latch" ∷ net_name data1 ∷ codes "q1" ∷ codes "1" ∷ []) ∷ v) (gates_cut 6 gs near)))))
