-- No line breaks a rule on lines.
use Rattle.std.proofs.Common.{◌≡◌, refl, ap, ◌∙◌, ℕ, ◌+◌, List, [], ◌∷◌, true, false}
use Rattle.std.specs.Prelude.{codes, None, find}
use Rattle.std.specs.Option.{option_or, option_map_or}
use Rattle.std.specs.List.{list_any}
use Rattle.blif_text.specs.declared.logical.Logical.{Logical}
use Rattle.blif_text.specs.Models.{begins_model, has_directive}
use Rattle.blif_text.specs.LineFaults.{fault_after, first_broken, is_end_or_model, line_fault, line_rules}
use Rattle.blif_text.proofs.Texts.{logical}
use Rattle.made_netlists.specs.declared.gate.GateKind.{GateKind}
use Rattle.made_netlists.specs.declared.gate.GateKind.TheVariants.{And, Or, Xor, Nand}
use Rattle.made_netlists.specs.declared.gate.Gate.{Gate}
use Rattle.made_netlists.specs.Design.{line_after}
use Rattle.made_netlists.specs.Text.{net_name}
use Rattle.made_netlists.proofs.Lines.{gate_lines, made_lines, names_line, row, rows_then}

-- the lines before are in a model, and it has not ended
record IsOpen (before : List Logical) : Type 0 where
  begun : list_any begins_model before ≡ true
  not_ended : option_map_or (has_directive (codes ".end")) (find is_end_or_model before) false ≡ false

pass : (before : List Logical) (l : Logical) (later : List Logical) → first_broken line_rules before l ≡ None → fault_after before (l ∷ later) ≡ fault_after (l ∷ before) later
pass before l later e = ap (λ o. option_or o (fault_after (l ∷ before) later)) e

names_fine : (before : List Logical) (n : ℕ) (a b o : List ℕ) → IsOpen before → first_broken line_rules before (names_line n a b o) ≡ None
names_fine before n a b o h = simp (h.begun, h.not_ended)

end_fine : (before : List Logical) (n : ℕ) → IsOpen before → first_broken line_rules before (logical n (codes ".end" ∷ [])) ≡ None
end_fine before n h = simp (h.begun, h.not_ended)

module _ (before : List Logical) (n m : ℕ) (a b o : List ℕ) (h : IsOpen before) where
  and_fine : first_broken line_rules (names_line n a b o ∷ before) (row m (codes "11") (codes "1")) ≡ None
  and_fine = simp (h.begun, h.not_ended)

  nand_fine : first_broken line_rules (names_line n a b o ∷ before) (row m (codes "11") (codes "0")) ≡ None
  nand_fine = simp (h.begun, h.not_ended)

  or_fine : first_broken line_rules (names_line n a b o ∷ before) (row m (codes "1-") (codes "1")) ≡ None
  or_fine = simp (h.begun, h.not_ended)

  xor_fine : first_broken line_rules (names_line n a b o ∷ before) (row m (codes "10") (codes "1")) ≡ None
  xor_fine = simp (h.begun, h.not_ended)

  or_fine_too : (k : ℕ) → first_broken line_rules (row k (codes "1-") (codes "1") ∷ names_line n a b o ∷ before) (row m (codes "-1") (codes "1")) ≡ None
  or_fine_too k = simp (h.begun, h.not_ended)

  xor_fine_too : (k : ℕ) → first_broken line_rules (row k (codes "10") (codes "1") ∷ names_line n a b o ∷ before) (row m (codes "01") (codes "1")) ≡ None
  xor_fine_too k = simp (h.begun, h.not_ended)

rows_fine : (k : GateKind) (before : List Logical) (n : ℕ) (a b o : List ℕ) (more : List Logical) → IsOpen before → ((lines : List Logical) → IsOpen lines → fault_after lines more ≡ None) → fault_after (names_line n a b o ∷ before) (rows_then k n more) ≡ None
rows_fine And before n a b o more h next =
    pass _ _ more (and_fine before n (n + 1) a b o h) ∙ next (row (n + 1) (codes "11") (codes "1") ∷ names_line n a b o ∷ before) (record { begun = h.begun; not_ended = h.not_ended })
rows_fine Or before n a b o more h next =
    pass (names_line n a b o ∷ before) (row (n + 1) (codes "1-") (codes "1")) (row (n + 1 + 1) (codes "-1") (codes "1") ∷ more) (or_fine before n (n + 1) a b o h)
    ∙ pass (row (n + 1) (codes "1-") (codes "1") ∷ names_line n a b o ∷ before) (row (n + 1 + 1) (codes "-1") (codes "1")) more (or_fine_too before n (n + 1 + 1) a b o h (n + 1))
    ∙ next (row (n + 1 + 1) (codes "-1") (codes "1") ∷ row (n + 1) (codes "1-") (codes "1") ∷ names_line n a b o ∷ before) (record { begun = h.begun; not_ended = h.not_ended })
rows_fine Xor before n a b o more h next =
    pass (names_line n a b o ∷ before) (row (n + 1) (codes "10") (codes "1")) (row (n + 1 + 1) (codes "01") (codes "1") ∷ more) (xor_fine before n (n + 1) a b o h)
    ∙ pass (row (n + 1) (codes "10") (codes "1") ∷ names_line n a b o ∷ before) (row (n + 1 + 1) (codes "01") (codes "1")) more (xor_fine_too before n (n + 1 + 1) a b o h (n + 1))
    ∙ next (row (n + 1 + 1) (codes "01") (codes "1") ∷ row (n + 1) (codes "10") (codes "1") ∷ names_line n a b o ∷ before) (record { begun = h.begun; not_ended = h.not_ended })
rows_fine Nand before n a b o more h next =
    pass _ _ more (nand_fine before n (n + 1) a b o h) ∙ next (row (n + 1) (codes "11") (codes "0") ∷ names_line n a b o ∷ before) (record { begun = h.begun; not_ended = h.not_ended })

gates_fine : (gs : List Gate) (n : ℕ) (before : List Logical) → IsOpen before → fault_after before (gate_lines n gs) ≡ None
gates_fine [] n before h = pass before (logical n (codes ".end" ∷ [])) [] (end_fine before n h)
gates_fine (g ∷ gs) n before h =
    pass before (names_line n (net_name g.first) (net_name g.second) (net_name g.out)) (rows_then g.kind n (gate_lines (line_after g.kind n) gs)) (names_fine before n (net_name g.first) (net_name g.second) (net_name g.out) h)
    ∙ rows_fine g.kind before n (net_name g.first) (net_name g.second) (net_name g.out) (gate_lines (line_after g.kind n) gs) h (gates_fine gs (line_after g.kind n))

pub no_line_fault : (last data0 data1 : ℕ) (gs : List Gate) → line_fault (made_lines last data0 data1 gs) ≡ None
no_line_fault last data0 data1 gs = gates_fine gs 6 _ (record { begun = refl; not_ended = refl })
