-- The model that the lines say.
use Rattle.std.proofs.lemmas.List.Sums.{take_while-cons}
use Rattle.std.proofs.Common.{Bool, cond, ◌≡◌, refl, ap, ◌∙◌, ℕ, ◌+◌, List, [], ◌∷◌, true}
use Rattle.std.specs.Fmt.{digits}
use Rattle.std.specs.Prelude.{map, flat_map, codes, take_while}
use Rattle.netlist_core.specs.declared.model.Model.{Model}
use Rattle.netlist_core.specs.declared.model.Cover.{Cover}
use Rattle.blif_text.specs.Models.{model_of, latch_on, ports_on, subckt_of, covers_of, is_row, lines_with, models_of, stays_in_model, cover_of as cover_on}
use Rattle.blif_text.proofs.Texts.{logical}
use Rattle.made_netlists.specs.Design.{model_from, gate_cover, covers_from, line_after}
use Rattle.made_netlists.proofs.Lines.{made_lines, gate_lines, lines_then, names_line, row, rows_then}
use Rattle.blif_text.specs.declared.logical.Logical.{Logical}
use Rattle.made_netlists.specs.declared.gate.GateKind.{GateKind}
use Rattle.made_netlists.specs.declared.gate.GateKind.TheVariants.{And, Or, Xor, Nand}
use Rattle.made_netlists.specs.declared.gate.Gate.{Gate}
use Rattle.made_netlists.specs.Text.{net_name}

-- what lines of gates give to none of these
record AreLeft (lines more : List Logical) : Type 0 where
  inputs : lines_with (codes ".inputs") lines ≡ lines_with (codes ".inputs") more
  outputs : lines_with (codes ".outputs") lines ≡ lines_with (codes ".outputs") more
  clocks : lines_with (codes ".clock") lines ≡ lines_with (codes ".clock") more
  latches : lines_with (codes ".latch") lines ≡ lines_with (codes ".latch") more
  subckts : lines_with (codes ".subckt") lines ≡ lines_with (codes ".subckt") more
  models : models_of lines ≡ models_of more

left_by : (k : GateKind) (n : ℕ) (a b o : List ℕ) (more : List Logical) → AreLeft (lines_then k n a b o more) more
left_by And n a b o more = record { inputs = refl; outputs = refl; clocks = refl; latches = refl; subckts = refl; models = refl }
left_by Or n a b o more = record { inputs = refl; outputs = refl; clocks = refl; latches = refl; subckts = refl; models = refl }
left_by Xor n a b o more = record { inputs = refl; outputs = refl; clocks = refl; latches = refl; subckts = refl; models = refl }
left_by Nand n a b o more = record { inputs = refl; outputs = refl; clocks = refl; latches = refl; subckts = refl; models = refl }

left : (n : ℕ) (gs : List Gate) → AreLeft (gate_lines n gs) []
left n [] = record { inputs = refl; outputs = refl; clocks = refl; latches = refl; subckts = refl; models = refl }
left n (g ∷ gs) =
    let here = left_by g.kind n (net_name g.first) (net_name g.second) (net_name g.out) (gate_lines (line_after g.kind n) gs) in
    let later = left (line_after g.kind n) gs in
    record {
      inputs = here.inputs ∙ later.inputs;
      outputs = here.outputs ∙ later.outputs;
      clocks = here.clocks ∙ later.clocks;
      latches = here.latches ∙ later.latches;
      subckts = here.subckts ∙ later.subckts;
      models = here.models ∙ later.models;
    }

-- what is taken while a test passes
taken : {X : Type 0} (p : X → Bool) (x : X) (xs ys : List X) → p x ≡ true → take_while p xs ≡ ys → take_while p (x ∷ xs) ≡ x ∷ ys
taken p x xs ys e f = take_while-cons p x xs ∙ ap (λ b. cond b (x ∷ take_while p xs) []) e ∙ ap (λ v. x ∷ v) f

stays_by : (k : GateKind) (n : ℕ) (a b o : List ℕ) (more : List Logical) → take_while stays_in_model more ≡ more → take_while stays_in_model (lines_then k n a b o more) ≡ lines_then k n a b o more
stays_by And n a b o more e = taken stays_in_model (names_line n a b o) (rows_then And n more) (rows_then And n more) refl (taken stays_in_model (row (n + 1) (codes "11") (codes "1")) more more refl e)
stays_by Or n a b o more e = taken stays_in_model (names_line n a b o) (rows_then Or n more) (rows_then Or n more) refl (taken stays_in_model (row (n + 1) (codes "1-") (codes "1")) (row (n + 1 + 1) (codes "-1") (codes "1") ∷ more) (row (n + 1 + 1) (codes "-1") (codes "1") ∷ more) refl (taken stays_in_model (row (n + 1 + 1) (codes "-1") (codes "1")) more more refl e))
stays_by Xor n a b o more e = taken stays_in_model (names_line n a b o) (rows_then Xor n more) (rows_then Xor n more) refl (taken stays_in_model (row (n + 1) (codes "10") (codes "1")) (row (n + 1 + 1) (codes "01") (codes "1") ∷ more) (row (n + 1 + 1) (codes "01") (codes "1") ∷ more) refl (taken stays_in_model (row (n + 1 + 1) (codes "01") (codes "1")) more more refl e))
stays_by Nand n a b o more e = taken stays_in_model (names_line n a b o) (rows_then Nand n more) (rows_then Nand n more) refl (taken stays_in_model (row (n + 1) (codes "11") (codes "0")) more more refl e)

stay : (n : ℕ) (gs : List Gate) → take_while stays_in_model (gate_lines n gs) ≡ gate_lines n gs
stay n [] = refl
stay n (g ∷ gs) = stays_by g.kind n (net_name g.first) (net_name g.second) (net_name g.out) (gate_lines (line_after g.kind n) gs) (stay (line_after g.kind n) gs)

-- a directive comes first
no_row : (n : ℕ) (gs : List Gate) → take_while is_row (gate_lines n gs) ≡ []
no_row n [] = refl
no_row n (g ∷ gs) = refl

cover_by : (k : GateKind) (n : ℕ) (a b o : List ℕ) (more : List Logical) → take_while is_row more ≡ [] → covers_of (lines_then k n a b o more) ≡ gate_cover k n a b o ∷ covers_of more
cover_by And n a b o more e = ap (λ rows. cover_on (names_line n a b o) rows ∷ covers_of more) (taken is_row (row (n + 1) (codes "11") (codes "1")) more [] refl e)
cover_by Or n a b o more e = ap (λ rows. cover_on (names_line n a b o) rows ∷ covers_of more) (taken is_row (row (n + 1) (codes "1-") (codes "1")) (row (n + 1 + 1) (codes "-1") (codes "1") ∷ more) (row (n + 1 + 1) (codes "-1") (codes "1") ∷ []) refl (taken is_row (row (n + 1 + 1) (codes "-1") (codes "1")) more [] refl e))
cover_by Xor n a b o more e = ap (λ rows. cover_on (names_line n a b o) rows ∷ covers_of more) (taken is_row (row (n + 1) (codes "10") (codes "1")) (row (n + 1 + 1) (codes "01") (codes "1") ∷ more) (row (n + 1 + 1) (codes "01") (codes "1") ∷ []) refl (taken is_row (row (n + 1 + 1) (codes "01") (codes "1")) more [] refl e))
cover_by Nand n a b o more e = ap (λ rows. cover_on (names_line n a b o) rows ∷ covers_of more) (taken is_row (row (n + 1) (codes "11") (codes "0")) more [] refl e)

covers : (n : ℕ) (gs : List Gate) → covers_of (gate_lines n gs) ≡ covers_from n gs
covers n [] = refl
covers n (g ∷ gs) =
    cover_by g.kind n (net_name g.first) (net_name g.second) (net_name g.out) (gate_lines (line_after g.kind n) gs) (no_row (line_after g.kind n) gs)
    ∙ ap (λ cs. gate_cover g.kind n (net_name g.first) (net_name g.second) (net_name g.out) ∷ cs) (covers (line_after g.kind n) gs)

-- the five lines before the gates, and what follows
abbrev model_with : ℕ → ℕ → ℕ → List Logical → List Logical → List Logical → List Logical → List Logical → List Cover → Model
model_with last data0 data1 inputs outputs clocks latches subckts cs = record {
  line = 1;
  name = codes "made";
  ins = flat_map ports_on (logical 2 (codes ".inputs" ∷ codes "i0" ∷ codes "i1" ∷ codes "i2" ∷ codes "i3" ∷ []) ∷ inputs);
  outs = flat_map ports_on (logical 3 (codes ".outputs" ∷ net_name last ∷ codes "q0" ∷ codes "q1" ∷ []) ∷ outputs);
  clocks = flat_map ports_on clocks;
  covers = cs;
  latches = flat_map latch_on (logical 4 (codes ".latch" ∷ net_name data0 ∷ codes "q0" ∷ codes "0" ∷ []) ∷ logical 5 (codes ".latch" ∷ net_name data1 ∷ codes "q1" ∷ codes "1" ∷ []) ∷ latches);
  subckts = map subckt_of subckts;
}

same_model : (last data0 data1 : ℕ) {a b c d e : List Logical} {f g : List Cover} → a ≡ [] → b ≡ [] → c ≡ [] → d ≡ [] → e ≡ [] → f ≡ g → model_with last data0 data1 a b c d e f ≡ model_with last data0 data1 [] [] [] [] [] g
same_model last data0 data1 p q r s t u = cc

plain_model : (last data0 data1 : ℕ) (gs : List Gate) → model_with last data0 data1 [] [] [] [] [] (covers_from 6 gs) ≡ model_from last data0 data1 gs
unfolding digits
plain_model last data0 data1 gs = refl

abbrev later_lines : ℕ → ℕ → ℕ → List Gate → List Logical
later_lines last data0 data1 gs =
    logical 2 (codes ".inputs" ∷ codes "i0" ∷ codes "i1" ∷ codes "i2" ∷ codes "i3" ∷ [])
    ∷ logical 3 (codes ".outputs" ∷ net_name last ∷ codes "q0" ∷ codes "q1" ∷ [])
    ∷ logical 4 (codes ".latch" ∷ net_name data0 ∷ codes "q0" ∷ codes "0" ∷ []) ∷ logical 5 (codes ".latch" ∷ net_name data1 ∷ codes "q1" ∷ codes "1" ∷ []) ∷ gate_lines 6 gs

all_stay : (last data0 data1 : ℕ) (gs : List Gate) → take_while stays_in_model (later_lines last data0 data1 gs) ≡ later_lines last data0 data1 gs
all_stay last data0 data1 gs =
    let l5 : List Logical = logical 5 (codes ".latch" ∷ net_name data1 ∷ codes "q1" ∷ codes "1" ∷ []) ∷ gate_lines 6 gs in
    let l4 : List Logical = logical 4 (codes ".latch" ∷ net_name data0 ∷ codes "q0" ∷ codes "0" ∷ []) ∷ l5 in
    let l3 : List Logical = logical 3 (codes ".outputs" ∷ net_name last ∷ codes "q0" ∷ codes "q1" ∷ []) ∷ l4 in
    taken stays_in_model (logical 2 (codes ".inputs" ∷ codes "i0" ∷ codes "i1" ∷ codes "i2" ∷ codes "i3" ∷ [])) l3 l3 refl
    (taken stays_in_model (logical 3 (codes ".outputs" ∷ net_name last ∷ codes "q0" ∷ codes "q1" ∷ [])) l4 l4 refl
    (taken stays_in_model (logical 4 (codes ".latch" ∷ net_name data0 ∷ codes "q0" ∷ codes "0" ∷ [])) l5 l5 refl
    (taken stays_in_model (logical 5 (codes ".latch" ∷ net_name data1 ∷ codes "q1" ∷ codes "1" ∷ [])) (gate_lines 6 gs) (gate_lines 6 gs) refl (stay 6 gs))))

pub made_models : (last data0 data1 : ℕ) (gs : List Gate) → models_of (made_lines last data0 data1 gs) ≡ model_from last data0 data1 gs ∷ []
made_models last data0 data1 gs =
    let more = left 6 gs in
    let whole : model_of (logical 1 (codes ".model" ∷ codes "made" ∷ [])) (later_lines last data0 data1 gs) ≡ model_from last data0 data1 gs =
    same_model last data0 data1 more.inputs more.outputs more.clocks more.latches more.subckts (covers 6 gs) ∙ plain_model last data0 data1 gs in
    ap (λ lines. model_of (logical 1 (codes ".model" ∷ codes "made" ∷ [])) lines ∷ models_of (later_lines last data0 data1 gs)) (all_stay last data0 data1 gs)
    ∙ ap (λ m. m ∷ models_of (later_lines last data0 data1 gs)) whole
    ∙ ap (λ ms. model_from last data0 data1 gs ∷ ms) more.models
