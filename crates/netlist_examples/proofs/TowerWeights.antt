-- Weights of single designs.
use Rattle.std.proofs.Common.{ℕ, zero, suc, ◌≡◌, ◌≢◌, ◌<◌, ◌≤◌, ◌+◌, ◌*◌, ◌^◌, List, [], ◌∷◌, Bool, cond, Some, slice_get, find, length, drop, refl, ap, ◌∙◌, arith, bytes_eq, inl, inr}
use Rattle.std.proofs.lemmas.Fmt.{decimal_injective}
use Rattle.netlist_core.specs.declared.model.Model.{Model}
use Rattle.netlist_meaning.specs.Weight.{weight, weight_below, of_model}
use Rattle.netlist_examples.specs.Designs.{storey_name, storey, storeys, tower_design, adder_design, wide_design}
use Rattle.netlist_examples.specs.Instances.{TowerWeighs, HasWeights}
use Rattle.std.proofs.lemmas.Bool.{cases_eq}
use Rattle.lists.proofs.Names.{bytes_eq-same, bytes_eq-other}

adder : weight adder_design ≡ 74
adder = refl

widest : weight (wide_design 8190) ≡ 8192
widest = refl

too_wide : weight (wide_design 8191) ≡ 8193
too_wide = refl

-- names of storeys are one only where their numbers are
storey_name-apart : (j k : ℕ) → j < 2 ^ 64 → k < 2 ^ 64 → j ≢ k → storey_name j ≢ storey_name k
storey_name-apart j k small small' apart same = apart (decimal_injective j k small small' (ap (drop 1) same))

storey-name : (line n : ℕ) → (storey line n).name ≡ storey_name n
storey-name line zero = refl
storey-name line (suc n) = refl

-- the storey of that number stands among the storeys
storeys-find : (line k n : ℕ) → k ≤ n → n < 2 ^ 64 → (at : ℕ) × (find (λ model. bytes_eq model.name (storey_name k)) (storeys line n) ≡ Some (storey at k))
storeys-find line k n le small = go line n le small
  where
    test : Model → Bool
    test model = bytes_eq model.name (storey_name k)

    here : (line : ℕ) (models : List Model) (j : ℕ) → j ≡ k → find test (storey line j ∷ models) ≡ Some (storey line k)
    here line models j same =
        ap (λ t. cond t (Some (storey line j)) (find test models)) (ap (λ name. bytes_eq name (storey_name k)) (storey-name line j ∙ ap storey_name same) ∙ bytes_eq-same (storey_name k))
        ∙ ap (λ i. Some (storey line i)) same

    past : (line : ℕ) (models : List Model) (j : ℕ) → j ≢ k → j < 2 ^ 64 → k < 2 ^ 64 → find test (storey line j ∷ models) ≡ find test models
    past line models j apart small small' =
        ap (λ t. cond t (Some (storey line j)) (find test models)) (ap (λ name. bytes_eq name (storey_name k)) (storey-name line j) ∙ bytes_eq-other (storey_name j) (storey_name k) (storey_name-apart j k small small' apart))

    go : (line n : ℕ) → k ≤ n → n < 2 ^ 64 → (at : ℕ) × (find test (storeys line n) ≡ Some (storey at k))
    go line zero le small = let same : 0 ≡ k = omega arith in (line, here line [] 0 same)
    go line (suc n) le small =
        elim (cases_eq (suc n) k) [
          | inl same ↦ (line, here line (storeys (line + 4) n) (suc n) same)
          | inr apart ↦
              let rest = go (line + 4) n (omega arith) (omega arith) in
              (rest.0, past line (storeys (line + 4) n) (suc n) apart small (omega arith) ∙ rest.1)
        ]

length-storeys : (line n : ℕ) → length (storeys line n) ≡ n + 1
length-storeys line zero = refl
length-storeys line (suc n) = let e : length (storeys (line + 4) n) ≡ n + 1 = length-storeys (line + 4) n in omega arith

twice : (w v p q : ℕ) → w ≡ v → v + 2 ≡ 3 * p → q ≡ 2 * p → 2 + (0 + w + w) + 2 ≡ 3 * q
twice w v p q e f g = omega arith

doubled : (k : ℕ) → 2 ^ suc k ≡ 2 * 2 ^ k
doubled k = omega arith

-- a storey and all below it
storey-weighs : (top : ℕ) → top < 2 ^ 64 → (k depth line : ℕ) → k < depth → k ≤ top → weight_below (tower_design top) depth (storey line k) + 2 ≡ 3 * 2 ^ k
storey-weighs top small zero zero line lt le = absurd (omega arith)
storey-weighs top small zero (suc depth) line lt le = refl
storey-weighs top small (suc k) zero line lt le = absurd (omega arith)
storey-weighs top small (suc k) (suc depth) line lt le =
    let (at, found) = storeys-find 1 k top (omega arith) small in
    let is_below = ap (of_model (weight_below (tower_design top) depth)) found in
    let weighs = storey-weighs top small k depth at (omega arith) (omega arith) in
    twice _ _ (2 ^ k) (2 ^ suc k) is_below weighs (doubled k)

top-storey : (n : ℕ) → slice_get (storeys 1 n) 0 ≡ Some (storey 1 n)
top-storey zero = refl
top-storey (suc n) = refl

pub tower_weighs : TowerWeighs
tower_weighs n small =
    ap (λ w. w + 2) (ap (of_model (weight_below (tower_design n) (length (storeys 1 n)))) (top-storey n))
    ∙ let long : length (storeys 1 n) ≡ n + 1 = length-storeys 1 n in storey-weighs n small n (length (storeys 1 n)) 1 (omega arith) (omega arith)

tower : weight (tower_design 40) ≡ 3298534883326
tower = let weighs : weight (tower_design 40) + 2 ≡ 3298534883328 = tower_weighs 40 (omega arith) in omega arith

pub has_weights : HasWeights
has_weights = record { adder = adder; widest = widest; too_wide = too_wide; tower = tower }
