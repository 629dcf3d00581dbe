-- The places of a design as a list, and sums over them.
use Rattle.std.proofs.Common.{ℕ, zero, suc, ◌≡◌, ◌<◌, ◌+◌, List, [], ◌∷◌, ◌++◌, Bool, true, false, ◌&&◌, Option, Some, None, slice_get, map, length, is_some, option_and_then, option_map, unwrap_or, pred, ◌==◌, add-zero, zero-add, refl, sym, ap, ◌∙◌, arith, bytes_eq, nat_lt, sum_by, count_by}
use Rattle.std.proofs.lemmas.List.Sums.{sum_by-cons, sum_by-append}
use Rattle.std.proofs.lemmas.Bool.{false_from_ne_true}
use Rattle.std.proofs.lemmas.Bool.Decides.{Decides-ltb, Decides-eqb}
use Rattle.std.proofs.Math.Dec.{eqb-zero-suc, eqb-suc-zero}
use Rattle.std.specs.Bool.{one_answer}
use Rattle.netlist_core.specs.declared.model.Design.{Design}
use Rattle.netlist_core.specs.declared.model.Model.{Model}
use Rattle.netlist_core.specs.declared.model.Subckt.{Subckt}
use Rattle.netlist_meaning.specs.Places.{Place, main_model, model_below}
use Rattle.netlist_core.specs.Names.{model_named}
use Rattle.netlist_meaning.specs.Weight.{weight_below, of_model}
use Rattle.netlist_core.specs.OwnWeight.{own_weight}
use Rattle.netlist_meaning.specs.Laws.{WeightIsSum}
use Rattle.lists.proofs.Sums.{sum_by-map, sum_by-same}
use Rattle.lists.specs.Items.{one_if}

-- the places inside the models of some subckt lines, where each line has a list of its own
next_line : Place → Place
next_line [] = []
next_line (number ∷ place) = suc number ∷ place

inside : (Subckt → List Place) → List Subckt → List Place
inside places_of [] = []
inside places_of (line ∷ lines) = map (λ place. 0 ∷ place) (places_of line) ++ map next_line (inside places_of lines)

places_of : (Model → List Place) → Option Model → List Place
places_of places None = []
places_of places (Some model) = places model

places_below : Design → ℕ → Model → List Place
places_below design zero model = []
places_below design (suc depth) model = [] ∷ inside (λ line. places_of (places_below design depth) (model_named design.models line.model)) model.subckts

-- the model at a place inside the models of some subckt lines, and `top` above them
in_lines : Design → Option Model → List Subckt → Place → Option Model
in_lines design top lines [] = top
in_lines design top lines (number ∷ place) = option_and_then (model_below design place) (option_and_then (λ line. model_named design.models line.model) (slice_get lines number))

pub both : (a b c d : ℕ) → a ≡ c → b ≡ d → a + b ≡ c + d
both a b c d e f = omega arith

sum_by-none : {A : Type 0} (f : A → ℕ) (xs : List A) → ((x : A) → f x ≡ 0) → sum_by f xs ≡ 0
sum_by-none f [] none = refl
sum_by-none f (x ∷ xs) none = sum_by-cons f x xs ∙ both _ _ 0 0 (none x) (sum_by-none f xs none)

-- a sum over the places inside lines, by the first line and the others
sum_by-inside : (f : Place → ℕ) (g : Subckt → List Place) (line : Subckt) (lines : List Subckt)
    → sum_by f (inside g (line ∷ lines)) ≡ sum_by (λ place. f (0 ∷ place)) (g line) + sum_by (λ place. f (next_line place)) (inside g lines)
unfolding inside
sum_by-inside f g line lines =
    sum_by-append f (map (λ place. 0 ∷ place) (g line)) (map next_line (inside g lines))
    ∙ both _ _ _ _ (sum_by-map f (λ place. 0 ∷ place) (g line)) (sum_by-map f next_line (inside g lines))

weight_at : Option Model → ℕ
weight_at model = of_model own_weight model

-- the own weights inside some lines
sum_inside : (design : Design) (top : Option Model) (g : Subckt → List Place) (w : Subckt → ℕ)
    → ((line : Subckt) → sum_by (λ place. weight_at (option_and_then (model_below design place) (model_named design.models line.model))) (g line) ≡ w line)
    → (lines : List Subckt) → sum_by (λ place. weight_at (in_lines design top lines place)) (inside g lines) ≡ sum_by w lines
unfolding inside in_lines next_line weight_at
sum_inside design top g w each [] = refl
sum_inside design top g w each (line ∷ lines) =
    sum_by-inside (λ place. weight_at (in_lines design top (line ∷ lines) place)) g line lines
    ∙ both _ _ _ _ (each line) (sum_by-same _ _ (inside g lines) shifted ∙ sum_inside design top g w each lines)
    ∙ sym (sum_by-cons w line lines)
  where
    shifted : (place : Place) → weight_at (in_lines design top (line ∷ lines) (next_line place)) ≡ weight_at (in_lines design top lines place)
    shifted [] = refl
    shifted (number ∷ place) = refl

-- the own weights at the places inside a model that a line names, by those of each model
sum_named : (design : Design) (depth : ℕ) → ((model : Model) → sum_by (λ place. weight_at (model_below design place model)) (places_below design depth model) ≡ weight_below design depth model)
    → (named : Option Model) → sum_by (λ place. weight_at (option_and_then (model_below design place) named)) (places_of (places_below design depth) named) ≡ of_model (weight_below design depth) named
unfolding places_of weight_at
sum_named design depth each None = refl
sum_named design depth each (Some inner) = each inner

-- the own weights at the places inside a model
sum_below : (design : Design) (depth : ℕ) (model : Model) → sum_by (λ place. weight_at (model_below design place model)) (places_below design depth model) ≡ weight_below design depth model
unfolding places_below weight_at in_lines
sum_below design zero model = refl
sum_below design (suc depth) model =
    sum_by-cons at_place [] (inside g model.subckts)
    ∙ both _ _ _ _ refl (sum_by-same at_place (λ place. weight_at (in_lines design (Some model) model.subckts place)) (inside g model.subckts) same
    ∙ sum_inside design (Some model) g w (λ line. sum_named design depth (sum_below design depth) (model_named design.models line.model)) model.subckts)
  where
    at_place : Place → ℕ
    at_place place = weight_at (model_below design place model)

    g : Subckt → List Place
    g line = places_of (places_below design depth) (model_named design.models line.model)

    w : Subckt → ℕ
    w line = of_model (weight_below design depth) (model_named design.models line.model)

    same : (place : Place) → at_place place ≡ weight_at (in_lines design (Some model) model.subckts place)
    same [] = refl
    same (number ∷ place) = refl

same_answer : (a b : ℕ) → (suc a == suc b) ≡ (a == b)
same_answer a b = one_answer _ _ (Decides-eqb (suc a) (suc b)) ((λ e. ap suc ((Decides-eqb a b).0 e)), λ e. (Decides-eqb a b).1 (ap pred e))

same_order : (a b : ℕ) → nat_lt (suc a) (suc b) ≡ nat_lt a b
same_order a b = one_answer _ _ (Decides-ltb (suc a) (suc b)) ((λ e. let lt : a < b = (Decides-ltb a b).0 e in omega arith), λ lt. (Decides-ltb a b).1 (omega arith))

-- how often a place stands inside some lines: not, or as often as what leads on from its line stands in that line's list
count_inside : (g : Subckt → List Place) (h : Subckt → Place → ℕ) → ((line : Subckt) (place : Place) → count_by (bytes_eq place) (g line) ≡ h line place)
    → (lines : List Subckt) (number : ℕ) (place : Place) → count_by (bytes_eq (number ∷ place)) (inside g lines) ≡ unwrap_or (option_map (λ line. h line place) (slice_get lines number)) 0
unfolding inside next_line
count_inside g h each [] number place = refl
count_inside g h each (line ∷ lines) zero place =
    sum_by-inside (λ other. one_if (bytes_eq (0 ∷ place) other)) g line lines
    ∙ both _ _ (h line place) 0 (each line place) (sum_by-none _ (inside g lines) away)
    ∙ add-zero (h line place)
  where
    away : (other : Place) → one_if (bytes_eq (0 ∷ place) (next_line other)) ≡ 0
    away [] = refl
    away (number ∷ other) = ap (λ t. one_if (t && bytes_eq place other)) (eqb-zero-suc number)
count_inside g h each (line ∷ lines) (suc number) place =
    sum_by-inside (λ other. one_if (bytes_eq (suc number ∷ place) other)) g line lines
    ∙ both _ _ 0 _ (sum_by-none _ (g line) first_line) (sum_by-same _ _ (inside g lines) shifted ∙ count_inside g h each lines number place)
    ∙ zero-add _
  where
    first_line : (other : Place) → one_if (bytes_eq (suc number ∷ place) (0 ∷ other)) ≡ 0
    first_line other = ap (λ t. one_if (t && bytes_eq place other)) (eqb-suc-zero number)

    shifted : (other : Place) → one_if (bytes_eq (suc number ∷ place) (next_line other)) ≡ one_if (bytes_eq (number ∷ place) other)
    shifted [] = refl
    shifted (first ∷ other) = ap (λ t. one_if (t && bytes_eq place other)) (same_answer number first)

top_is_not_inside : (g : Subckt → List Place) (lines : List Subckt) → count_by (bytes_eq []) (inside g lines) ≡ 0
unfolding inside next_line
top_is_not_inside g [] = refl
top_is_not_inside g (line ∷ lines) =
    sum_by-inside (λ other. one_if (bytes_eq [] other)) g line lines
    ∙ both _ _ 0 0 (sum_by-none _ (g line) (λ other. refl)) (sum_by-same _ _ (inside g lines) shifted ∙ top_is_not_inside g lines)
  where
    shifted : (other : Place) → one_if (bytes_eq [] (next_line other)) ≡ one_if (bytes_eq [] other)
    shifted [] = refl
    shifted (first ∷ other) = refl

-- once where the model is there and the place is not too deep
abbrev once_below : Design → ℕ → Option Model → Place → ℕ
once_below design depth named place = one_if (is_some (option_and_then (model_below design place) named) && nat_lt (length place) depth)

count_named : (design : Design) (depth : ℕ) → ((model : Model) (place : Place) → count_by (bytes_eq place) (places_below design depth model) ≡ once_below design depth (Some model) place)
    → (named : Option Model) (place : Place) → count_by (bytes_eq place) (places_of (places_below design depth) named) ≡ once_below design depth named place
unfolding places_of
count_named design depth each None place = refl
count_named design depth each (Some inner) place = each inner place

never : (b : Bool) (n : ℕ) → 0 ≡ one_if (b && nat_lt n 0)
never false n = refl
never true n = ap one_if (sym (false_from_ne_true (nat_lt n 0) (λ e. let lt : n < 0 = (Decides-ltb n 0).0 e in omega arith)))

at_line : (design : Design) (depth : ℕ) (place : Place) (line : Option Subckt)
    → unwrap_or (option_map (λ subckt. once_below design depth (model_named design.models subckt.model) place) line) 0
    ≡ one_if (is_some (option_and_then (model_below design place) (option_and_then (λ subckt. model_named design.models subckt.model) line)) && nat_lt (suc (length place)) (suc depth))
at_line design depth place None = refl
at_line design depth place (Some line) =
    ap (λ t. one_if (is_some (option_and_then (model_below design place) (model_named design.models line.model)) && t)) (sym (same_order (length place) depth))

-- the places inside a model each stand in the list once
count_below : (design : Design) (depth : ℕ) (model : Model) (place : Place) → count_by (bytes_eq place) (places_below design depth model) ≡ once_below design depth (Some model) place
unfolding places_below
count_below design zero model place = never (is_some (model_below design place model)) (length place)
count_below design (suc depth) model [] =
    sum_by-cons (λ other. one_if (bytes_eq [] other)) [] (inside g model.subckts)
    ∙ both _ _ 1 0 refl (top_is_not_inside g model.subckts)
    ∙ ap one_if (sym ((Decides-ltb 0 (suc depth)).1 (omega arith)))
  where
    g : Subckt → List Place
    g line = places_of (places_below design depth) (model_named design.models line.model)
count_below design (suc depth) model (number ∷ place) =
    sum_by-cons (λ other. one_if (bytes_eq (number ∷ place) other)) [] (inside g model.subckts)
    ∙ both _ _ 0 _ refl (count_inside g h (λ line. count_named design depth (count_below design depth) (model_named design.models line.model)) model.subckts number place)
    ∙ zero-add _
    ∙ at_line design depth place (slice_get model.subckts number)
  where
    g : Subckt → List Place
    g line = places_of (places_below design depth) (model_named design.models line.model)

    h : Subckt → Place → ℕ
    h line other = once_below design depth (model_named design.models line.model) other

pub weight_is_sum : WeightIsSum
unfolding weight_at
weight_is_sum design = (
  places_of (places_below design (length design.models)) (main_model design),
  count_named design (length design.models) (count_below design (length design.models)) (main_model design),
  sym (sum_named design (length design.models) (sum_below design (length design.models)) (main_model design)),
)
