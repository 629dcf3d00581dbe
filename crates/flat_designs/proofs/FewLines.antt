-- A model at a place has no more subckt lines than the design weighs.
use Rattle.std.proofs.Common.{ℕ, zero, suc, ◌≡◌, refl, sym, ap, subst, ◌∙◌, ◌+◌, ◌*◌, ◌<◌, ◌≤◌, [], ◌∷◌, length, Some, slice_get, get_or, sum_by, arith, is_some}
use Rattle.std.proofs.lemmas.Option.{slice_get_within, get_or_from_slice_get}
use Rattle.std.proofs.lemmas.List.Sums.{get_or-le-sum_by}
use Rattle.netlist_core.specs.declared.model.Design.{Design}
use Rattle.netlist_core.specs.declared.model.Model.{Model}
use Rattle.netlist_core.specs.declared.model.Subckt.{Subckt}
use Rattle.netlist_core.specs.Names.{model_named}
use Rattle.netlist_core.specs.OwnWeight.{own_weight, port_weight, cover_weight}
use Rattle.netlist_meaning.specs.Places.{Place, main_model, model_placed, model_below, model_at}
use Rattle.netlist_meaning.specs.Weight.{of_model, weight_below, weight}
use Rattle.netlist_meaning.proofs.Names.{and_then-from}
use Rattle.netlist_meaning.proofs.Depth.{places_are_shallow}
use Rattle.netlist_rules.specs.ModelFaults.{AreFaultless}
use Rattle.flat_designs.proofs.Faultless.{not_recursive}

own_lines : (m : Model) → length m.subckts ≤ own_weight m
own_lines m = within (port_weight m) (2 * length m.latches) (length m.subckts) (sum_by cover_weight m.covers)
  where
    within : (a b c d : ℕ) → c ≤ a + b + c + d
    within a b c d = omega arith

-- what stands below a model weighs no more than what is fewer lines deep
lines_below : (design : Design) (depth : ℕ) (m : Model) (place : Place) (b : Model) → model_below design place m ≡ Some b → length place < depth → length b.subckts ≤ weight_below design depth m
lines_below design zero m place b e short = absurd (omega arith)
lines_below design (suc depth) m [] b e short = first (length b.subckts) (own_weight m) (sum_by (λ (line : Subckt). of_model (weight_below design depth) (model_named design.models line.model)) m.subckts) (own e)
  where
    first : (n w rest : ℕ) → n ≤ w → n ≤ w + rest
    first n w rest l = omega arith

    own : Some m ≡ Some b → length b.subckts ≤ own_weight m
    own e = let same : m ≡ b = cc in let l : length m.subckts ≤ own_weight m = own_lines m in subst (λ (v : Model). length v.subckts ≤ own_weight m) same l
lines_below design (suc depth) m (number ∷ place) b e short =
    let (inner, is_inner, is_b) = and_then-from (model_below design place) (model_placed design m number) b e in
    let (line, is_line, is_named) = and_then-from (λ (l : Subckt). model_named design.models l.model) (slice_get m.subckts number) inner is_inner in
    let rest : length b.subckts ≤ weight_below design depth inner = lines_below design depth inner place b is_b (omega arith) in
    let weigh : Subckt → ℕ = λ l. of_model (weight_below design depth) (model_named design.models l.model) in
    let here : weigh (get_or m.subckts number line) ≤ sum_by weigh m.subckts = get_or-le-sum_by weigh m.subckts number line (slice_get_within m.subckts number line is_line) in
    let same : weigh (get_or m.subckts number line) ≡ weight_below design depth inner = ap weigh (get_or_from_slice_get m.subckts number line line is_line) ∙ ap (of_model (weight_below design depth)) is_named in
    let all : weight_below design (suc depth) m ≡ own_weight m + sum_by weigh m.subckts = refl in
    last (length b.subckts) (weight_below design depth inner) (weigh (get_or m.subckts number line)) (sum_by weigh m.subckts) (own_weight m) rest same here
  where
    last : (n w v s o : ℕ) → n ≤ w → v ≡ w → v ≤ s → n ≤ o + s
    last n w v s o l e k = omega arith

pub lines_are_few : (design : Design) → AreFaultless design.models → (place : Place) (m : Model) → model_at design place ≡ Some m → length m.subckts ≤ weight design
lines_are_few design faultless place m e =
    let (main, is_main, is_m) = and_then-from (model_below design place) (main_model design) m e in
    let short : length place < length design.models = places_are_shallow design (not_recursive design faultless) place (ap is_some e) in
    let below : length m.subckts ≤ weight_below design (length design.models) main = lines_below design (length design.models) main place m is_m short in
    subst (λ (w : ℕ). length m.subckts ≤ w) (sym (ap (of_model (weight_below design (length design.models))) is_main)) below
