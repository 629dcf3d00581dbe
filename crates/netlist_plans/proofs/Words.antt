-- Names of models are words of their lines.
use Rattle.std.proofs.Common.{ℕ, ◌≡◌, ◌≢◌, refl, sym, ap, subst, ◌∙◌, inl, inr, List, [], ◌∷◌, ◌++◌, Bool, true, false, ◌-◌, length, take, map, codes, true≢false}
use Rattle.std.specs.Prelude.{Some, flat_map, option_to_list, take_while}
use Rattle.std.specs.Bool.{then_some}
use Rattle.std.specs.List.{AllByRecursion, after_first, before_first}
use Rattle.std.proofs.lemmas.Bool.{or_parts}
use Rattle.std.proofs.lemmas.Option.{same_Some, none-some}
use Rattle.lists.proofs.Members.{In, in_from, in_parts, in_mapped, in_flattened, in_filtered, all_in}
use Rattle.netlist_core.specs.declared.model.Port.{Port}
use Rattle.netlist_core.specs.declared.model.Pin.{Pin}
use Rattle.netlist_core.specs.declared.model.Cover.{Cover}
use Rattle.netlist_core.specs.declared.model.LatchRow.{LatchRow}
use Rattle.netlist_core.specs.declared.model.Subckt.{Subckt}
use Rattle.netlist_core.specs.declared.model.Model.{Model}
use Rattle.netlist_core.specs.Names.{Name, at_line, port_names}
use Rattle.netlist_meaning.specs.Nets.{model_names}
use Rattle.flat_designs.proofs.Faultless.{in_models}
use Rattle.blif_text.specs.declared.logical.Logical.{Logical}
use Rattle.blif_text.specs.LogicalLines.{logical_lines, is_space, is_hash}
use Rattle.blif_text.specs.Models.{operands, has_directive, begins_model, stays_in_model, is_row, lines_with, ports_on, ports_listed, last_word, cover_of, cover_at, covers_of, is_control, latch_with, latch_on, is_equals, pin_of, pin_words, subckt_of, model_of, model_if, models_of}
use Rattle.blif_text.specs.LineFaults.{is_empty}
use Rattle.blif_text.proofs.LineNumbers.{lines_have_words}
use Rattle.netlist_plans.specs.TextNames.{IsNameWord, NamesAreWords, NetsAreWords}
use Rattle.netlist_plans.proofs.Lines.{Clean, all_taken, in_drop, in_take, in_last, none_dropped, clean_after}
use Rattle.netlist_plans.proofs.Newlines.{lines_have_no_comments, lines_have_one_line_words}

some_given : {X : Type 0} (b : Bool) (x y : X) → then_some b x ≡ Some y → (b ≡ true) × (x ≡ y)
some_given true x y e = (refl, same_Some x y e)
some_given false x y e = absurd (none-some y e)

-- the lines of a directive
listed : (name : List ℕ) (lines : List Logical) → AllByRecursion Clean lines → (l : Logical) → In l (lines_with name lines) → Clean l × (has_directive name l ≡ true)
listed name lines clean l i =
    let (k, at, e) = in_filtered (λ (k : Logical). then_some (has_directive name k) k) lines l i in
    let (given, same) = some_given (has_directive name k) k l e in
    (all_in Clean lines l clean (subst (λ v. In v lines) same at), subst (λ v. has_directive name v ≡ true) same given)

port_word : (directive : List ℕ) (lines : List Logical) → AllByRecursion Clean lines → (name : Name) → In name (port_names (ports_listed directive lines)) → IsNameWord name
port_word directive lines clean name i =
    let (p, j, e) = in_mapped (λ (q : Port). q.name) (ports_listed directive lines) name i in
    let (l, k, at) = in_flattened ports_on (lines_with directive lines) p j in
    let (word, w, is) = in_mapped (at_line l.line) (operands l) p at in
    subst IsNameWord (sym (e ∙ ap (λ (q : Port). q.name) is)) ((listed directive lines clean l k).0.words word (in_drop 1 l.words word w))

cover_word : (lines : List Logical) → AllByRecursion Clean lines → (c : Cover) → In c (covers_of lines) → (name : Name) → In name (c.ins ++ c.out ∷ []) → IsNameWord name
cover_word [] clean c i name j = absurd i
cover_word (l ∷ ls) clean c i name j =
    elim (in_parts (cover_at (has_directive (codes ".names") l) l ls) (covers_of ls) c i) as (λ _. IsNameWord name) [
      | inl here ↦ by (has_directive (codes ".names") l) refl here
      | inr later ↦ cover_word ls clean.1 c later name j
    ]
  where
    of_line : operands l ≢ [] → In name ((cover_of l (take_while is_row ls)).ins ++ (cover_of l (take_while is_row ls)).out ∷ []) → IsNameWord name
    of_line some k =
        elim (in_parts (take (length (operands l) - 1) (operands l)) (last_word (operands l) ∷ []) name k) as (λ _. IsNameWord name) [
          | inl a ↦ clean.0.words name (in_drop 1 l.words name (in_take (length (operands l) - 1) (operands l) name a))
          | inr b ↦ elim b as (λ _. IsNameWord name) [
            | inl is ↦ subst IsNameWord (sym is) (clean.0.words (last_word (operands l)) (in_drop 1 l.words (last_word (operands l)) (in_last (operands l) some)))
            | inr none ↦ absurd none
          ]
        ]

    by : (b : Bool) → has_directive (codes ".names") l ≡ b → In c (cover_at b l ls) → IsNameWord name
    by true h (inl is) = of_line (clean.0.counted h) (subst (λ (v : Cover). In name (v.ins ++ v.out ∷ [])) is j)
    by true h (inr none) = absurd none
    by false h none = absurd none

given_word : (b : Bool) (word name : Name) → In name (option_to_list (then_some b word)) → name ≡ word
given_word true word name (inl e) = e
given_word true word name (inr none) = absurd none
given_word false word name none = absurd none

latch_word : (line : ℕ) (words : List Name) → ((word : Name) → In word words → IsNameWord word) → (row : LatchRow) → In row (latch_with line words) → (name : Name) → In name (row.input ∷ row.output ∷ option_to_list row.control) → IsNameWord name
latch_word line [] f row i name j = absurd i
latch_word line (a ∷ []) f row i name j = absurd i
latch_word line (a ∷ b ∷ []) f row (inl is) name j = two a b name f (inl refl) (inr (inl refl)) (subst (λ (r : LatchRow). In name (r.input ∷ r.output ∷ option_to_list r.control)) is j)
  where
    two : (a b name : Name) → ((word : Name) → In word (a ∷ b ∷ []) → IsNameWord word) → In a (a ∷ b ∷ []) → In b (a ∷ b ∷ []) → In name (a ∷ b ∷ []) → IsNameWord name
    two a b name f x y k = f name k
latch_word line (a ∷ b ∷ []) f row (inr none) name j = absurd none
latch_word line (a ∷ b ∷ c ∷ []) f row (inl is) name j = free (subst (λ (r : LatchRow). In name (r.input ∷ r.output ∷ option_to_list r.control)) is j)
  where
    free : In name (a ∷ b ∷ []) → IsNameWord name
    free (inl e) = f name (inl e)
    free (inr (inl e)) = f name (inr (inl e))
    free (inr (inr none)) = absurd none
latch_word line (a ∷ b ∷ c ∷ []) f row (inr none) name j = absurd none
latch_word line (a ∷ b ∷ c ∷ d ∷ []) f row (inl is) name j = clocked (subst (λ (r : LatchRow). In name (r.input ∷ r.output ∷ option_to_list r.control)) is j)
  where
    clocked : In name (a ∷ b ∷ option_to_list (then_some (is_control d) d)) → IsNameWord name
    clocked (inl e) = f name (inl e)
    clocked (inr (inl e)) = f name (inr (inl e))
    clocked (inr (inr k)) = f name (inr (inr (inr (inl (given_word (is_control d) d name k)))))
latch_word line (a ∷ b ∷ c ∷ d ∷ []) f row (inr none) name j = absurd none
latch_word line (a ∷ b ∷ c ∷ d ∷ e ∷ []) f row (inl is) name j = clocked (subst (λ (r : LatchRow). In name (r.input ∷ r.output ∷ option_to_list r.control)) is j)
  where
    clocked : In name (a ∷ b ∷ option_to_list (then_some (is_control d) d)) → IsNameWord name
    clocked (inl s) = f name (inl s)
    clocked (inr (inl s)) = f name (inr (inl s))
    clocked (inr (inr k)) = f name (inr (inr (inr (inl (given_word (is_control d) d name k)))))
latch_word line (a ∷ b ∷ c ∷ d ∷ e ∷ []) f row (inr none) name j = absurd none
latch_word line (a ∷ b ∷ c ∷ d ∷ e ∷ g ∷ more) f row i name j = absurd i

not_empty : (word : List ℕ) → is_empty word ≡ false → word ≢ []
not_empty word e none = true≢false (sym (ap is_empty none) ∙ e)

actual_word : (l : Logical) → Clean l → has_directive (codes ".subckt") l ≡ true → (name : Name) → In name (map (λ (p : Pin). p.actual) (subckt_of l).pins) → IsNameWord name
actual_word l clean subckt name i =
    let (pin, j, e) = in_mapped (λ (p : Pin). p.actual) (map pin_of (pin_words l)) name i in
    let (word, k, is) = in_mapped pin_of (pin_words l) pin j in
    let w : IsNameWord word = clean.words word (in_drop 2 l.words word k) in
    let some : is_empty (after_first is_equals word) ≡ false = (or_parts (is_empty (before_first is_equals word)) (is_empty (after_first is_equals word)) (clean.pins subckt word k)).1 in
    subst IsNameWord (sym (e ∙ ap (λ (p : Pin). p.actual) is)) (record { some = not_empty (after_first is_equals word) some; plain = none_dropped is_space _ word w.plain; one_line = none_dropped Rattle.blif_text.specs.LogicalLines.is_newline _ word w.one_line; no_comment = none_dropped is_hash _ word w.no_comment })

abbrev inputs_in : List Logical → List Name
inputs_in lines = port_names (ports_listed (codes ".inputs") lines)

abbrev outputs_in : List Logical → List Name
outputs_in lines = port_names (ports_listed (codes ".outputs") lines)

abbrev clocks_in : List Logical → List Name
clocks_in lines = port_names (ports_listed (codes ".clock") lines)

abbrev covers_in : List Logical → List Name
covers_in lines = flat_map (λ (c : Cover). c.ins ++ c.out ∷ []) (covers_of lines)

abbrev latches_in_lines : List Logical → List Name
latches_in_lines lines = flat_map (λ (r : LatchRow). r.input ∷ r.output ∷ option_to_list r.control) (flat_map latch_on (lines_with (codes ".latch") lines))

abbrev subckts_in : List Logical → List Name
subckts_in lines = flat_map (λ (s : Subckt). map (λ (p : Pin). p.actual) s.pins) (map subckt_of (lines_with (codes ".subckt") lines))

model_word : (l : Logical) (lines : List Logical) → AllByRecursion Clean lines → (name : Name) → In name (model_names (model_of l lines)) → IsNameWord name
model_word l lines clean name i =
    elim (in_parts ((((inputs_in lines ++ outputs_in lines) ++ clocks_in lines) ++ covers_in lines) ++ latches_in_lines lines) (subckts_in lines) name i) as (λ _. IsNameWord name) [
      | inl a ↦ elim (in_parts (((inputs_in lines ++ outputs_in lines) ++ clocks_in lines) ++ covers_in lines) (latches_in_lines lines) name a) as (λ _. IsNameWord name) [
        | inl b ↦ elim (in_parts ((inputs_in lines ++ outputs_in lines) ++ clocks_in lines) (covers_in lines) name b) as (λ _. IsNameWord name) [
          | inl c ↦ elim (in_parts (inputs_in lines ++ outputs_in lines) (clocks_in lines) name c) as (λ _. IsNameWord name) [
            | inl d ↦ elim (in_parts (inputs_in lines) (outputs_in lines) name d) as (λ _. IsNameWord name) [
              | inl ins ↦ port_word (codes ".inputs") lines clean name ins
              | inr outs ↦ port_word (codes ".outputs") lines clean name outs
            ]
            | inr clocks ↦ port_word (codes ".clock") lines clean name clocks
          ]
          | inr covers ↦ of_covers covers
        ]
        | inr latches ↦ of_latches latches
      ]
      | inr subckts ↦ of_subckts subckts
    ]
  where
    of_covers : In name (flat_map (λ (c : Cover). c.ins ++ c.out ∷ []) (covers_of lines)) → IsNameWord name
    of_covers j = let (c, k, at) = in_flattened (λ (c : Cover). c.ins ++ c.out ∷ []) (covers_of lines) name j in cover_word lines clean c k name at

    of_latches : In name (flat_map (λ (r : LatchRow). r.input ∷ r.output ∷ option_to_list r.control) (flat_map latch_on (lines_with (codes ".latch") lines))) → IsNameWord name
    of_latches j =
        let (row, k, at) = in_flattened (λ (r : LatchRow). r.input ∷ r.output ∷ option_to_list r.control) (flat_map latch_on (lines_with (codes ".latch") lines)) name j in
        let (m, on, is) = in_flattened latch_on (lines_with (codes ".latch") lines) row k in
        latch_word m.line (operands m) (λ word w. (listed (codes ".latch") lines clean m on).0.words word (in_drop 1 m.words word w)) row is name at

    of_subckts : In name (flat_map (λ (s : Subckt). map (λ (p : Pin). p.actual) s.pins) (map subckt_of (lines_with (codes ".subckt") lines))) → IsNameWord name
    of_subckts j =
        let (s, k, at) = in_flattened (λ (s : Subckt). map (λ (p : Pin). p.actual) s.pins) (map subckt_of (lines_with (codes ".subckt") lines)) name j in
        let (m, on, is) = in_mapped subckt_of (lines_with (codes ".subckt") lines) s k in
        let (clean_m, given) = listed (codes ".subckt") lines clean m on in
        actual_word m clean_m given name (subst (λ (v : Subckt). In name (map (λ (p : Pin). p.actual) v.pins)) is at)

models_words : (lines : List Logical) → AllByRecursion Clean lines → (m : Model) → In m (models_of lines) → (name : Name) → In name (model_names m) → IsNameWord name
models_words [] clean m i name j = absurd i
models_words (l ∷ ls) clean m i name j =
    elim (in_parts (model_if (begins_model l) l ls) (models_of ls) m i) as (λ _. IsNameWord name) [
      | inl here ↦ by (begins_model l) here
      | inr later ↦ models_words ls clean.1 m later name j
    ]
  where
    by : (b : Bool) → In m (model_if b l ls) → IsNameWord name
    by true (inl is) = model_word l (take_while stays_in_model ls) (all_taken Clean _ ls clean.1) name (subst (λ (v : Model). In name (model_names v)) is j)
    by true (inr none) = absurd none
    by false none = absurd none

pub names_are_words : NamesAreWords
names_are_words text design is model has name named =
    models_words (logical_lines text) (clean_after [] (logical_lines text) is.models.no_fault (lines_have_words text).0 (lines_have_one_line_words text) (lines_have_no_comments text)) model
    (subst (λ ms. In model ms) is.models.are_models (in_from design.models model has)) name (in_from (model_names model) name named)

pub nets_are_words : NetsAreWords
nets_are_words text design is net (model, is_model, named) =
    names_are_words text design is model (Rattle.lists.proofs.Members.contains_from design.models model (in_models design net.place model is_model)) net.name named
