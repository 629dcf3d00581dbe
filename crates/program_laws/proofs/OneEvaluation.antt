-- `eval` prints one output of each text.
use Rattle.std.proofs.Common.{ℕ, zero, suc, ◌+◌, ◌≡◌, ◌<◌, ◌≤◌, ◌^◌, refl, sym, ap, ap₂, ◌∙◌, subst, inl, inr, Bool, false, List, [], ◌∷◌, ◌++◌, map, flat_map, length, get_or, arith}
use Rattle.std.specs.Prelude.{Some, slice_get}
use Rattle.std.specs.List.{range_with_len}
use Rattle.std.proofs.lemmas.List.{get_or-map}
use Rattle.std.proofs.lemmas.Option.{none-some, same_Some}
use Rattle.std.proofs.lemmas.List.FromFn.{length-map-range_with_len}
use Rattle.lists.proofs.Members.{In, map_in, got_from}
use Rattle.netlist_core.specs.declared.model.Design.{Design}
use Rattle.netlist_core.specs.declared.flat.Flat.{Flat}
use Rattle.netlist_core.specs.Names.{Name}
use Rattle.netlist_meaning.specs.Nets.{IsInNames}
use Rattle.netlist_meaning.specs.Places.{main_outputs}
use Rattle.netlist_meaning.specs.Valuation.{Valuation, IsRun, output_bit}
use Rattle.netlist_meaning.specs.FlatOf.{IsFlatOf}
use Rattle.netlist_meaning.specs.Weight.{weight}
use Rattle.netlist_meaning.proofs.Joined.{in_names_are_one}
use Rattle.flat_designs.proofs.Whole.{flat_is_there}
use Rattle.netlist_text.specs.NetlistText.{IsNetlist}
use Rattle.netlist_text.specs.Laws.{TextsAreDecided}
use Rattle.netlist_run.specs.Runs.{bits_in_run}
use Rattle.streams.specs.declared.streams.Streams.{Streams}
use Rattle.streams.specs.Streams.{inputs_of_contexts, streams_of}
use Rattle.streams.specs.Rows.{rows_of, stream_row}
use Rattle.blifww_tool.specs.Lines.{bits_line}
use Rattle.blifww_tool.specs.Evaluation.{Evaluation, IsEvaluation, evaluation_text}
use Rattle.program_laws.specs.OneAnswer.{EvalPrintsOne}
use Rattle.program_laws.proofs.NetlistRuns.{output_agrees, cycles_agree}

got_is : {X : Type 0} (xs : List X) (i : ℕ) (x d : X) → slice_get xs i ≡ Some x → (i < length xs) × (get_or xs i d ≡ x)
got_is [] i x d e = absurd (none-some x e)
got_is (y ∷ xs) zero x d e = (omega arith, same_Some _ _ e)
got_is (y ∷ xs) (suc i) x d e = let r = got_is xs i x d e in ((let l : i < length xs = r.0 in omega arith), r.1)

same_flat : {X Y : Type 0} (f g : X → List Y) (xs : List X) → ((x : X) → In x xs → f x ≡ g x) → flat_map f xs ≡ flat_map g xs
same_flat f g [] same = refl
same_flat f g (x ∷ xs) same = ap₂ (λ y ys. y ++ ys) (same x (inl refl)) (same_flat f g xs (λ y i. same y (inr i)))

below : (a n j : ℕ) → In j (range_with_len a n) → j < a + n
below a zero j among = absurd among
below a (suc n) j (inl e) = omega (arith, e)
below a (suc n) j (inr i) = let l = below (a + 1) n j i in omega (arith, l)

abbrev evaluation : Design → List Name → (cycles c : ℕ) → List (List Bool) → Evaluation
evaluation design names cycles c bits =
    record { design = design; in_names = names; streams = record { cycles = cycles; c = c; bits = bits } }

-- a text and words are one evaluation
same_evaluation : TextsAreDecided → (cycles : ℕ) (words : List (List ℕ)) (text : List ℕ) (d e : Evaluation) → IsEvaluation cycles words text d → IsEvaluation cycles words text e → d ≡ e
same_evaluation decided cycles words text d e h k =
    let design : d.design ≡ e.design = (decided text).one_design d.design e.design h.netlist k.netlist in
    let names : d.in_names ≡ e.in_names = in_names_are_one e.design d.in_names e.in_names (subst (λ (x : Design). IsInNames x d.in_names) design h.names) k.names in
    let bits : d.streams.bits ≡ e.streams.bits = h.streams.bits_is ∙ ap (λ (n : List Name). streams_of 1 words (inputs_of_contexts 1 n)) names ∙ sym k.streams.bits_is in
    ap₂ (λ (x : Design) (n : List Name). evaluation x n d.streams.cycles d.streams.c d.streams.bits) design names
    ∙ ap₂ (λ (n c : ℕ). evaluation e.design e.in_names n c d.streams.bits) (h.many ∙ sym k.many) (h.contexts ∙ sym k.contexts)
    ∙ ap (evaluation e.design e.in_names e.streams.cycles e.streams.c) bits

-- two runs of a netlist have the same lines
same_lines : (text : List ℕ) (e : Evaluation) → IsNetlist text e.design → (run other : ℕ → Valuation) → IsRun e.design (rows_of e.streams) run → IsRun e.design (rows_of e.streams) other
    → evaluation_text e run ≡ evaluation_text e other
same_lines text e netlist run other is is_other =
    same_flat (λ name. bits_line name (bits_in_run run e.streams.cycles name)) (λ name. bits_line name (bits_in_run other e.streams.cycles name)) (main_outputs e.design)
    (λ name among. ap (bits_line name) (map_in (λ cycle. run cycle [] name) (λ cycle. other cycle [] name) (range_with_len 0 e.streams.cycles) (λ cycle c. at name (got_from (main_outputs e.design) name among) cycle (below 0 e.streams.cycles cycle c))))
  where
    light : weight e.design < 2 ^ 32
    light = let few : weight e.design ≤ 8192 = netlist.is.light in omega (arith, few)

    flat : (flat : Flat) × IsFlatOf e.design flat
    flat = flat_is_there e.design netlist.is.design_of.faultless

    many : length (rows_of e.streams) ≡ e.streams.cycles
    many = length-map-range_with_len (stream_row e.streams) 0 e.streams.cycles

    own : (bits : Valuation) (i : ℕ) (name : Name) → slice_get (main_outputs e.design) i ≡ Some name → output_bit e.design bits i ≡ bits [] name
    own bits i name there =
        let got = got_is (main_outputs e.design) i name [] there in
        get_or-map (bits []) (main_outputs e.design) i [] false got.0 ∙ ap (bits []) got.1

    at : (name : Name) → (i : ℕ) × (slice_get (main_outputs e.design) i ≡ Some name) → (cycle : ℕ) → cycle < 0 + e.streams.cycles → run cycle [] name ≡ other cycle [] name
    at name (i, there) cycle low =
        let early : cycle < length (rows_of e.streams) = omega (arith, low, many) in
        sym (own (run cycle) i name there)
        ∙ output_agrees e.design netlist.is.design_of.faultless netlist.clocks light netlist.no_loop flat.0 flat.1 (run cycle) (other cycle)
        (cycles_agree e.design netlist.is.design_of.faultless netlist.clocks light netlist.no_loop flat.0 flat.1 (rows_of e.streams) run other is is_other cycle early)
        i (got_is (main_outputs e.design) i name [] there).0
        ∙ own (other cycle) i name there

pub eval_prints_one : TextsAreDecided → EvalPrintsOne
eval_prints_one decided cycles words text a b h k =
    let same : k.evaluation ≡ h.evaluation = same_evaluation decided cycles words text k.evaluation h.evaluation k.is h.is in
    h.lines
    ∙ same_lines text h.evaluation h.is.netlist h.run k.run h.is_run (subst (λ (e : Evaluation). IsRun e.design (rows_of e.streams) k.run) same k.is_run)
    ∙ sym (ap (λ (e : Evaluation). evaluation_text e k.run) same)
    ∙ sym k.lines
