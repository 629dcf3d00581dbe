-- Draws after draws, and what they make.
use Rattle.std.proofs.Common.{◌≡◌, refl, ap, ◌∙◌, ℕ, zero, suc, ◌+◌, ◌*◌, ◌-◌, ◌++◌, List, arith, codes, flat_map, append_assoc}
use Rattle.made_netlists.specs.declared.gate.GateKind.{GateKind}
use Rattle.made_netlists.specs.declared.gate.Gate.{Gate}
use Rattle.made_netlists.specs.Draws.{draw_after, next_seed, number_below, state_after}
use Rattle.made_netlists.specs.Text.{drawn_gate, drawn_gates, drawn_gate_text, head_text, drawn_kind, latch_data, made_text, net_of_gate}

state_on : (seed a b : ℕ) → state_after (state_after seed a) b ≡ state_after seed (b + a)
state_on seed a zero = let e : a ≡ 0 + a = omega arith in ap (state_after seed) e
state_on seed a (suc b) = let e : suc (b + a) ≡ suc b + a = omega arith in ap next_seed (state_on seed a b) ∙ ap (state_after seed) e

pub state_after_both : (seed a b c : ℕ) → a + b ≡ c → state_after (state_after seed a) b ≡ state_after seed c
state_after_both seed a b c e = let f : b + a ≡ c = omega (arith, e) in state_on seed a b ∙ ap (state_after seed) f

draw_after_both : (seed a i k n : ℕ) → a + i ≡ k → draw_after (state_after seed a) i n ≡ draw_after seed k n
draw_after_both seed a i k n e =
    let f : a + (i + 1) ≡ k + 1 = omega (arith, e) in
    ap (number_below n) (state_after_both seed a (i + 1) (k + 1) f)

abbrev gate_from : GateKind → ℕ → ℕ → ℕ → Gate
gate_from kind first second out = record { kind = kind; first = first; second = second; out = out }

same_gate : {k l : GateKind} {a b c d m n : ℕ} → k ≡ l → a ≡ b → c ≡ d → m ≡ n → gate_from k a c m ≡ gate_from l b d n
same_gate e f g h = cc

-- a gate that is drawn after the draws of those before it
pub gate_drawn : (seed j state : ℕ) (gate : Gate) → state ≡ state_after seed (3 * j) → gate.kind ≡ drawn_kind (draw_after state 0 4) → gate.first ≡ draw_after state 1 (net_of_gate j) → gate.second ≡ draw_after state 2 (net_of_gate j) → gate.out ≡ net_of_gate j → gate ≡ drawn_gate seed j
gate_drawn seed j state gate e kind first second out =
    let zeroth : 3 * j + 0 ≡ 3 * j = omega arith in
    same_gate (kind ∙ ap (λ s. drawn_kind (draw_after s 0 4)) e ∙ ap drawn_kind (draw_after_both seed (3 * j) 0 (3 * j) 4 zeroth))
    (first ∙ ap (λ s. draw_after s 1 (net_of_gate j)) e ∙ draw_after_both seed (3 * j) 1 (3 * j + 1) (net_of_gate j) refl)
    (second ∙ ap (λ s. draw_after s 2 (net_of_gate j)) e ∙ draw_after_both seed (3 * j) 2 (3 * j + 2) (net_of_gate j) refl)
    out

-- the data of the latches, drawn after all gates
pub data_drawn : (seed size state l next number : ℕ) → state ≡ state_after seed (3 * size + l) → next ≡ next_seed state → number ≡ number_below (6 + size) next → number ≡ latch_data seed size l
data_drawn seed size state l next number e f g =
    let more : suc (3 * size + l) ≡ 3 * size + l + 1 = omega arith in
    g ∙ ap (number_below (6 + size)) (f ∙ ap next_seed e ∙ ap (state_after seed) more)

pub state_drawn : (seed n k state next : ℕ) → state ≡ state_after seed n → next ≡ next_seed state → n + 1 ≡ k → next ≡ state_after seed k
state_drawn seed n k state next e f g = let more : suc n ≡ k = omega (arith, g) in f ∙ ap next_seed e ∙ ap (state_after seed) more

-- the text by its parts
pub text_of_parts : (seed size last data0 data1 : ℕ) (gates : List Gate) → last ≡ net_of_gate (size - 1) → data0 ≡ latch_data seed size 0 → data1 ≡ latch_data seed size 1 → gates ≡ drawn_gates seed size → (head_text last data0 data1 ++ flat_map drawn_gate_text gates) ++ codes ".end\n" ≡ made_text seed size
text_of_parts seed size last data0 data1 gates e f g h =
    append_assoc (head_text last data0 data1) (flat_map drawn_gate_text gates) (codes ".end\n")
    ∙ ap (λ n. head_text n data0 data1 ++ (flat_map drawn_gate_text gates ++ codes ".end\n")) e
    ∙ ap (λ n. head_text (net_of_gate (size - 1)) n data1 ++ (flat_map drawn_gate_text gates ++ codes ".end\n")) f
    ∙ ap (λ n. head_text (net_of_gate (size - 1)) (latch_data seed size 0) n ++ (flat_map drawn_gate_text gates ++ codes ".end\n")) g
    ∙ ap (λ gs. head_text (net_of_gate (size - 1)) (latch_data seed size 0) (latch_data seed size 1) ++ (flat_map drawn_gate_text gs ++ codes ".end\n")) h
