-- There is a list of IN names.
use Rattle.std.proofs.Common.{ℕ, suc, ◌≡◌, ◌+◌, List, [], ◌∷◌, Bool, true, false, cond, ◌&&◌, ◌||◌, Option, Some, None, is_some, option_and_then, option_map, unwrap_or, slice_get, count_by, bytes_eq, refl, sym, ap, ◌∙◌, arith, true≢false, inl, inr}
use Rattle.std.specs.List.{list_any}
use Rattle.std.specs.Bool.{Decides}
use Rattle.std.proofs.lemmas.Slice.Eq.{bytes_eq-Decides}
use Rattle.std.proofs.lemmas.List.Sums.{sum_by-cons}
use Rattle.netlist_core.specs.declared.model.Design.{Design}
use Rattle.netlist_core.specs.declared.model.Model.{Model}
use Rattle.netlist_core.specs.declared.model.LatchRow.{LatchRow}
use Rattle.netlist_core.specs.Names.{Name}
use Rattle.netlist_meaning.specs.Places.{Place, main_model, model_at, main_inputs}
use Rattle.netlist_meaning.specs.Nets.{Net, net_at, IsControl, WithoutControl, none, kept, left_out}
use Rattle.netlist_meaning.specs.Roots.{root, root_below, NamesFormalsOnce}
use Rattle.netlist_meaning.specs.Laws.{InNamesAreThere}
use Rattle.netlist_meaning.proofs.Names.{and_then-from}
use Rattle.std.proofs.lemmas.Bool.{and_parts, and_from, or_left, or_right, or_cases as either}
use Rattle.netlist_meaning.proofs.Roots.{joined_is_same_root}
use Rattle.netlist_meaning.proofs.Depth.{weight_is_sum_over_all}
use Rattle.std.proofs.lemmas.Map.Keys.{any_passes_from_place as any_at}
use Rattle.lists.specs.Items.{one_if}

any_gives : {X : Type 0} (test : X → Bool) (xs : List X) → list_any test xs ≡ true → (k : ℕ) × (x : X) × (slice_get xs k ≡ Some x) × (test x ≡ true)
any_gives test [] e = absurd (true≢false (sym e))
any_gives test (y ∷ xs) e =
    elim (either (test y) _ e) [
      | inl t ↦ (0, y, refl, t)
      | inr rest ↦ let (k, x, at, t) = any_gives test xs rest in (suc k, x, at, t)
    ]

rest_is_one : (a b : ℕ) → a + b ≡ 1 → a ≡ 0 → b ≡ 1
rest_is_one a b e f = omega arith

-- a place that is counted in a list is found there
any_counted : (test : Place → Bool) (places : List Place) (place : Place) → count_by (bytes_eq place) places ≡ 1 → test place ≡ true → list_any test places ≡ true
any_counted test [] place one t = absurd (omega arith)
any_counted test (first ∷ places) place one t = by_test (bytes_eq place first) refl (λ e. any_counted test places place e t)
  where
    by_test : (same : Bool) → bytes_eq place first ≡ same → (count_by (bytes_eq place) places ≡ 1 → list_any test places ≡ true) → (test first || list_any test places) ≡ true
    by_test true e rest = or_left (test first) _ (ap test (sym ((bytes_eq-Decides place first).0 e)) ∙ t)
    by_test false e rest =
        or_right (test first) _
        (rest (rest_is_one (one_if (bytes_eq place first)) (count_by (bytes_eq place) places) (sym (sum_by-cons (λ other. one_if (bytes_eq place other)) first places) ∙ one) (ap one_if e)))

is_top_net : Name → Net → Bool
is_top_net name net = bytes_eq net.place [] && bytes_eq net.name name

top_net-Decides : (name : Name) (net : Net) → Decides (is_top_net name net) (net ≡ net_at [] name)
unfolding is_top_net
top_net-Decides name net = (
  λ e. let (p, n) = and_parts _ _ e in ap (λ place. net_at place net.name) ((bytes_eq-Decides net.place []).0 p) ∙ ap (net_at []) ((bytes_eq-Decides net.name name).0 n),
  λ e. and_from _ _ ((bytes_eq-Decides net.place []).1 (ap (λ x. x.place) e)) ((bytes_eq-Decides net.name name).1 (ap (λ x. x.name) e)),
)

-- a net of the main model is its own root
pub root_of_top : (design : Design) (name : Name) → root design (net_at [] name) ≡ net_at [] name
root_of_top design name = by_main (main_model design)
  where
    by_main : (main : Option Model) → unwrap_or (option_map (root_below design [] name) main) (net_at [] name) ≡ net_at [] name
    by_main None = refl
    by_main (Some main) = refl

-- is the latch's control, at this place, joined with the main model's net of that name?
controls : Design → Name → Place → LatchRow → Bool
controls design name place latch = unwrap_or (option_map (λ control. is_top_net name (root design (net_at place control))) latch.control) false

controls_at : Design → Name → Place → Bool
controls_at design name place = unwrap_or (option_map (λ model. list_any (controls design name place) model.latches) (model_at design place)) false

-- a test of what an option has, where it passes
true_of : {X : Type 0} (test : X → Bool) (o : Option X) → unwrap_or (option_map test o) false ≡ true → (x : X) × (o ≡ Some x) × (test x ≡ true)
true_of test None e = absurd (true≢false (sym e))
true_of test (Some x) e = (x, refl, e)

-- the names of the main model that are controls are found by a test
control-Decides : (design : Design) → NamesFormalsOnce design → (places : List Place) → ((place : Place) → count_by (bytes_eq place) places ≡ cond (is_some (model_at design place)) 1 0)
    → (name : Name) → Decides (list_any (controls_at design name) places) (IsControl design (net_at [] name))
unfolding controls controls_at
control-Decides design once places listed name = (finds, found)
  where
    finds : list_any (controls_at design name) places ≡ true → IsControl design (net_at [] name)
    finds e =
        let (k, place, _, at) = any_gives (controls_at design name) places e in
        let (model, is_model, any) = true_of (λ m. list_any (controls design name place) m.latches) (model_at design place) at in
        let (number, latch, is_latch, at_latch) = any_gives (controls design name place) model.latches any in
        let (control, is_control, is_top) = true_of (λ c. is_top_net name (root design (net_at place c))) latch.control at_latch in (
          net_at place control,
          record { number = number; latch = latch; has_latch = ap (option_and_then (λ m. slice_get m.latches number)) is_model ∙ is_latch; has_control = is_control },
          (joined_is_same_root design once (net_at place control) (net_at [] name)).1 ((top_net-Decides name _).0 is_top ∙ sym (root_of_top design name)),
        )

    found : IsControl design (net_at [] name) → list_any (controls_at design name) places ≡ true
    found (source, h, joined) =
        let (model, is_model, is_latch) = and_then-from (λ m. slice_get m.latches h.number) (model_at design source.place) h.latch h.has_latch in
        let is_top : is_top_net name (root design source) ≡ true = (top_net-Decides name (root design source)).1 ((joined_is_same_root design once source (net_at [] name)).0 joined ∙ root_of_top design name) in
        let at_latch : controls design name source.place h.latch ≡ true = ap (λ o. unwrap_or (option_map (λ c. is_top_net name (root design (net_at source.place c))) o) false) h.has_control ∙ is_top in
        let any = any_at (controls design name source.place) model.latches h.number h.latch is_latch at_latch in
        any_counted (controls_at design name) places source.place
        (listed source.place ∙ ap (λ o. cond (is_some o) 1 0) is_model)
        (ap (λ o. unwrap_or (option_map (λ m. list_any (controls design name source.place) m.latches) o) false) is_model ∙ any)

left_names : (design : Design) (test : Name → Bool) → ((name : Name) → Decides (test name) (IsControl design (net_at [] name))) → (names : List Name) → (rest : List Name) × WithoutControl design names rest
left_names design test decides [] = ([], none)
left_names design test decides (name ∷ names) = by_test (test name) refl (left_names design test decides names)
  where
    by_test : (t : Bool) → test name ≡ t → (rest : List Name) × WithoutControl design names rest → (rest : List Name) × WithoutControl design (name ∷ names) rest
    by_test true e (rest, h) = (rest, left_out ((decides name).0 e) h)
    by_test false e (rest, h) = (name ∷ rest, kept (λ c. true≢false (sym ((decides name).1 c) ∙ e)) h)

pub in_names_are_there : InNamesAreThere
in_names_are_there design once away =
    let (places, listed, _) = weight_is_sum_over_all design away in
    left_names design (λ name. list_any (controls_at design name) places) (control-Decides design once places listed) (main_inputs design)
