-- What the sets of names have after a line is seen.
use Rattle.std.proofs.Common.{ℕ, ◌≡◌, refl, sym, ap, ◌∙◌, Bool, true, false, cond, ◌&&◌, ◌||◌, List, [], ◌∷◌, ◌++◌}
use Rattle.std.proofs.Math.Bool.{or-false}
use Rattle.std.specs.List.{list_any}
use Rattle.std.specs.Str.{bytes_eq}
use Rattle.std.specs.declared.cmp.Ordering.{Ordering}
use Rattle.std.specs.Ordering.{nat_cmp, is_eq, ordering_then}
use Rattle.std.specs.Cmp.{tied_then}
use Rattle.std.specs.Cmp.Lexicographic.{slice_cmp}
use Rattle.std.specs.BTreeSet.{BTreeSet, contains_by, UpdatesBy}
use Rattle.std.proofs.lemmas.Map.Text.{is_eq-slice_cmp}
use Rattle.lists.specs.Names.{holds_name}
use Rattle.lists.proofs.Names.{bytes_eq-turned}
use Rattle.lists.proofs.NameSets.{inserted, by_cond}
use denote.Ref.{Bor}
use Rattle.pattern_reading.specs.PortLines.{PortForm, Version, In, Out, Net}
use Rattle.pattern_reading.specs.PortTable.{is_same_port}
use Rattle.pattern_reading.specs.declared.ports.PortLine.{PortLine}
use Rattle.pattern_reading.specs.declared.ports.NetLine.{NetLine}
use Rattle.port_table.specs.Seen.{is_input, is_output, is_net}

any_same : (t u : PortForm → Bool) → ((form : PortForm) → t form ≡ u form) → (forms : List PortForm) → list_any t forms ≡ list_any u forms
any_same t u h [] = refl
any_same t u h (form ∷ forms) = rw (h form, any_same t u h forms) refl

-- one more line
step_any : (t a b : Bool) → a ≡ cond b true t → (u : Bool) → (u || a) ≡ cond b true (u || t)
step_any t a true e true = refl
step_any t a true e false = e
step_any t a false e true = refl
step_any t a false e false = e

pub any_push : (t : PortForm → Bool) (forms : List PortForm) (form : PortForm) → list_any t (forms ++ form ∷ []) ≡ cond (t form) true (list_any t forms)
any_push t [] form = or-false (t form) ∙ sym (by_cond (t form) false)
any_push t (first ∷ forms) form = step_any (list_any t forms) _ (t form) (any_push t forms form) (t first)

-- the tests of a line against others
pub same_as_version : (p l c : ℕ) (forms : List PortForm) → list_any (is_same_port (Version p l c)) forms ≡ false
same_as_version p l c [] = refl
same_as_version p l c (form ∷ forms) = same_as_version p l c forms

pub same_as_input : (port : PortLine) (forms : List PortForm) → list_any (is_same_port (In port)) forms ≡ list_any (is_input port.name) forms
same_as_input port forms = any_same _ _ by_form forms
  where
    by_form : (form : PortForm) → is_same_port (In port) form ≡ is_input port.name form
    by_form (Version p l c) = refl
    by_form (In a) = refl
    by_form (Out a) = refl
    by_form (Net a) = refl

pub same_as_output : (port : PortLine) (forms : List PortForm) → list_any (is_same_port (Out port)) forms ≡ list_any (is_output port.name) forms
same_as_output port forms = any_same _ _ by_form forms
  where
    by_form : (form : PortForm) → is_same_port (Out port) form ≡ is_output port.name form
    by_form (Version p l c) = refl
    by_form (In a) = refl
    by_form (Out a) = refl
    by_form (Net a) = refl

pub same_as_net : (net : NetLine) (forms : List PortForm) → list_any (is_same_port (Net net)) forms ≡ list_any (is_net net.name net.path) forms
same_as_net net forms = any_same _ _ by_form forms
  where
    by_form : (form : PortForm) → is_same_port (Net net) form ≡ is_net net.name net.path form
    by_form (Version p l c) = refl
    by_form (In a) = refl
    by_form (Out a) = refl
    by_form (Net a) = refl

-- the orders of names and of pairs of names
abbrev name_order : Bor (List ℕ) → Bor (List ℕ) → Ordering
name_order x y = slice_cmp nat_cmp x.now y.now

abbrev pair_order : Bor (List ℕ) × Bor (List ℕ) → Bor (List ℕ) × Bor (List ℕ) → Ordering
pair_order x y = ordering_then (slice_cmp nat_cmp x.0.now y.0.now) (slice_cmp nat_cmp x.1.now y.1.now)

-- a set of names after one is inserted
pub has_name : (t : List ℕ → PortForm → Bool) (s n : BTreeSet (Bor (List ℕ))) (key : Bor (List ℕ)) (before : List PortForm) (form : PortForm) → ((name : List ℕ) → t name form ≡ bytes_eq name key.now) → ((name : List ℕ) → holds_name s name ≡ list_any (t name) before) → UpdatesBy name_order (name_order key) s n true → (name : List ℕ) → holds_name n name ≡ list_any (t name) (before ++ form ∷ [])
has_name t s n key before form same had h name =
    let e : bytes_eq key.now name ≡ t name form = bytes_eq-turned key.now name ∙ sym (same name) in
    inserted s n key name h ∙ ap (λ b. cond b true (holds_name s name)) e ∙ ap (λ b. cond (t name form) true b) (had name) ∙ sym (any_push (t name) before form)

-- and a set of pairs
pub has_pair : (s n : BTreeSet (Bor (List ℕ) × Bor (List ℕ))) (key : Bor (List ℕ) × Bor (List ℕ)) (before : List PortForm) (form : PortForm) → ((name path : List ℕ) → is_net name path form ≡ (bytes_eq name key.0.now && bytes_eq path key.1.now)) → ((name path : List ℕ) → contains_by (λ k. ordering_then (slice_cmp nat_cmp name k.0.now) (slice_cmp nat_cmp path k.1.now)) s ≡ list_any (is_net name path) before) → UpdatesBy pair_order (pair_order key) s n true → (name path : List ℕ) → contains_by (λ k. ordering_then (slice_cmp nat_cmp name k.0.now) (slice_cmp nat_cmp path k.1.now)) n ≡ list_any (is_net name path) (before ++ form ∷ [])
has_pair s n key before form same had h name path =
    let q : Bor (List ℕ) × Bor (List ℕ) = (record { ref_ptr = (0, 0); now = name }, record { ref_ptr = (0, 0); now = path }) in
    let one : is_eq (slice_cmp nat_cmp key.0.now name) ≡ bytes_eq name key.0.now = is_eq-slice_cmp key.0.now name ∙ bytes_eq-turned key.0.now name in
    let other : is_eq (slice_cmp nat_cmp key.1.now path) ≡ bytes_eq path key.1.now = is_eq-slice_cmp key.1.now path ∙ bytes_eq-turned key.1.now path in
    let e : is_eq (pair_order key q) ≡ is_net name path form =
    sym (tied_then (slice_cmp nat_cmp key.0.now name) (slice_cmp nat_cmp key.1.now path)) ∙ ap (λ b. b && is_eq (slice_cmp nat_cmp key.1.now path)) one ∙ ap (λ b. bytes_eq name key.0.now && b) other ∙ sym (same name path) in
    h.0 q
    ∙ ap (λ b. cond b true (contains_by (pair_order q) s)) e
    ∙ ap (λ b. cond (is_net name path form) true b) (had name path)
    ∙ sym (any_push (is_net name path) before form)
