-- Along an order there is at most one valuation.
use Rattle.std.proofs.Common.{◌≡◌, refl, sym, ap, subst, ◌∙◌, ℕ, zero, suc, inl, inr, List, [], ◌∷◌, ◌++◌, map, Bool, false, slice_get, get_or, drop, option_and_then}
use Rattle.std.specs.Prelude.{Some, Contains, option_map, unwrap_or}
use Rattle.std.proofs.lemmas.List.{append_assoc}
use Rattle.netlist_core.specs.declared.model.Cover.{Cover}
use Rattle.netlist_core.specs.declared.model.Model.{Model}
use Rattle.netlist_core.specs.declared.model.Design.{Design}
use Rattle.netlist_core.specs.Names.{Name, port_names}
use Rattle.netlist_meaning.specs.Places.{main_model, main_inputs, main_clocks, latch_at}
use Rattle.netlist_meaning.specs.Nets.{Net, net_at, IsNet, Joined, IsControl, IsClockNet, WithoutControl, model_names}
use Rattle.netlist_meaning.specs.Nets.WithoutControl.{none, kept, left_out}
use Rattle.netlist_meaning.specs.Nets.Joined.{itself, reversed}
use Rattle.netlist_rules.specs.Clocks.{HasNoClockFault}
use Rattle.netlist_rules.specs.Clocks.IsUse.{by_cover}
use Rattle.netlist_meaning.specs.CoverValue.{cover_value}
use Rattle.netlist_meaning.specs.Valuation.{Valuation, LatchState, IsValuation}
use Rattle.netlist_meaning.proofs.Joined.{in_names_are_one, no_clock_net-joined}
use Rattle.netlist_rules.specs.ModelFaults.{AreFaultless}
use Rattle.lists.proofs.Members.{In, in_from, contains_from, in_left, in_right, in_parts, is_in, in_flat, in_got, got_from}
use Rattle.flat_designs.specs.OneDriver.{Driver, Drives}
use Rattle.flat_designs.specs.OneDriver.Drives.{of_port, of_cover, of_latch}
use Rattle.flat_designs.specs.Order.{CoverAt, IsCoverAt, IsCoverOrder, OrderedHaveAtMostOneValuation}
use Rattle.flat_designs.proofs.Faultless.{wired, in_names_append}
use Rattle.flat_designs.proofs.Sources.{have_drivers}

-- what is not the control stays among the IN names
stays : (design : Design) {names rest : List Name} (name : Name) → WithoutControl design names rest → In name names → ¬ IsControl design (net_at [] name) → In name rest
stays design name none i free = absurd i
stays design name (kept {name = n} f w) (inl e) free = inl e
stays design name (kept {name = n} f w) (inr i) free = inr (stays design name w i free)
stays design name (left_out {name = n} c w) (inl e) free = absurd (free (subst (λ v. IsControl design (net_at [] v)) (sym e) c))
stays design name (left_out {name = n} c w) (inr i) free = stays design name w i free

-- two functions with one list of values agree at its elements
same_at : (f g : Name → Bool) (xs : List Name) (x : Name) → map f xs ≡ map g xs → In x xs → f x ≡ g x
same_at f g [] x e i = absurd i
same_at f g (y ∷ ys) x e (inl s) = ap f s ∙ ap (λ l. get_or l 0 false) e ∙ sym (ap g s)
same_at f g (y ∷ ys) x e (inr i) = same_at f g ys x (ap (drop 1) e) i

pub same_map : (f g : Name → Bool) (xs : List Name) → ((x : Name) → In x xs → f x ≡ g x) → map f xs ≡ map g xs
same_map f g [] e = refl
same_map f g (y ∷ ys) e = ap (λ b. b ∷ map f ys) (e y (inl refl)) ∙ ap (λ l. g y ∷ l) (same_map f g ys (λ x i. e x (inr i)))

-- two valuations of one design, for the same bits and state
record Two (design : Design) (bits others : Valuation) : Type 0 where
  pub inputs : List Bool
  pub state : LatchState
  pub faultless : AreFaultless design.models
  pub clean : HasNoClockFault design
  pub first : IsValuation design inputs state bits
  pub second : IsValuation design inputs state others

Agree : Valuation → Valuation → Net → Type 0
Agree bits others net = bits net.place net.name ≡ others net.place net.name

-- they agree at an input that is no clock net
port_agrees : (design : Design) (bits others : Valuation) → Two design bits others → (main : Model) (name : Name) → main_model design ≡ Some main → In name (port_names (main.ins ++ main.clocks)) → ¬ IsClockNet design (net_at [] name) → Agree bits others (net_at [] name)
unfolding Agree
port_agrees design bits others t main name is_main i free =
    same_at (bits []) (others []) t.first.in_names name values (stays design name t.first.are_in_names in_inputs (λ c. free (c.0, inl c.1, c.2)))
  where
    inputs_are : main_inputs design ≡ port_names main.ins
    inputs_are = ap (λ o. port_names (unwrap_or (option_map (λ (m : Model). m.ins) o) [])) is_main

    clocks_are : main_clocks design ≡ port_names main.clocks
    clocks_are = ap (λ o. port_names (unwrap_or (option_map (λ (m : Model). m.clocks) o) [])) is_main

    in_inputs : In name (main_inputs design)
    in_inputs = elim (is_in name (main_inputs design)) as (λ _. In name (main_inputs design)) [
      | inl there ↦ there
      | inr no_input ↦ elim (in_names_append main.ins main.clocks name i) as (λ _. In name (main_inputs design)) [
        | inl a ↦ subst (λ v. In name v) (sym inputs_are) a
        | inr b ↦ absurd (free (net_at [] name, inr (record { is_main = refl; is_clock = contains_from (main_clocks design) name (subst (λ v. In name v) (sym clocks_are) b); is_no_input = λ c. no_input (in_from (main_inputs design) name c) }), itself))
      ]
    ]

    one : t.second.in_names ≡ t.first.in_names
    one = in_names_are_one design t.second.in_names t.first.in_names t.second.are_in_names t.first.are_in_names

    values : map (bits []) t.first.in_names ≡ map (others []) t.first.in_names
    values = t.first.inputs_given ∙ sym t.second.inputs_given ∙ ap (map (others [])) one

AgreeAt : Design → Valuation → Valuation → List CoverAt → Type 0
AgreeAt design bits others front = (at : CoverAt) (cover : Cover) → In at front → IsCoverAt design at cover → Agree bits others (net_at at.place cover.out)

-- at a net whose driver is no cover, or one in front
net_agrees : (design : Design) (bits others : Valuation) → Two design bits others → (net : Net) → IsNet design net → ¬ IsClockNet design net
    → ((at : CoverAt) (cover : Cover) → IsCoverAt design at cover → Joined design (net_at at.place cover.out) net → Agree bits others (net_at at.place cover.out)) → Agree bits others net
unfolding Agree
net_agrees design bits others t net is_net free covers =
    let (d, source, drives, joined) = have_drivers design t.faultless net is_net in
    let free_source : ¬ IsClockNet design source = no_clock_net-joined design net source (reversed joined) free in
    sym (t.first.joined_agree source net joined free_source) ∙ at_source source d drives joined free_source ∙ t.second.joined_agree source net joined free_source
  where
    at_source : (source : Net) (d : Driver) → Drives design d source → Joined design source net → ¬ IsClockNet design source → bits source.place source.name ≡ others source.place source.name
    at_source source d (of_port {main = main} {name = name} e i) j f = port_agrees design bits others t main name e (in_from (port_names (main.ins ++ main.clocks)) name i) f
    at_source source d (of_cover {place = p} {model = m} {number = n} {c = c} e g) j f = covers (record { place = p; number = n }) c (record { model = m; has_model = e; has_cover = g }) j
    at_source source d (of_latch {place = p} {model = m} {number = n} {l = l} e g) j f =
        let is_latch : latch_at design p n ≡ Some l = ap (option_and_then (λ (m : Model). slice_get m.latches n)) e ∙ g in
        t.first.latches_hold p n l is_latch ∙ sym (t.second.latches_hold p n l is_latch)

pub in_covers : (m : Model) (c : Cover) (name : Name) → In c m.covers → In name c.ins → In name (model_names m)
in_covers m c name i j = in_left _ _ name (in_left _ _ name (in_right (port_names m.ins ++ port_names m.outs ++ port_names m.clocks) _ name (in_flat (λ (c : Cover). c.ins ++ c.out ∷ []) m.covers c name i (in_left c.ins (c.out ∷ []) name j))))

pub got_left : (xs ys : List Name) (k : ℕ) (x : Name) → slice_get xs k ≡ Some x → slice_get (xs ++ ys) k ≡ Some x
got_left [] ys k x e = absurd (cc)
got_left (y ∷ xs) ys zero x e = e
got_left (y ∷ xs) ys (suc k) x e = got_left xs ys k x e

cover_agrees : (design : Design) (bits others : Valuation) → Two design bits others → (order : List CoverAt) → IsCoverOrder design order → (front back : List CoverAt) (at : CoverAt) → order ≡ front ++ at ∷ back → AgreeAt design bits others front → (cover : Cover) → IsCoverAt design at cover → Agree bits others (net_at at.place cover.out)
unfolding Agree AgreeAt
cover_agrees design bits others t order o front back at is_order before cover c =
    t.first.covers_hold at.place c.model cover c.has_model contains ∙ ap (cover_value cover.rows cover.on) (same_map (bits at.place) (others at.place) cover.ins each) ∙ sym (t.second.covers_hold at.place c.model cover c.has_model contains)
  where
    contains : Contains c.model.covers cover
    contains = contains_from c.model.covers cover (in_got c.model.covers at.number cover c.has_cover)

    each : (input : Name) → In input cover.ins → bits at.place input ≡ others at.place input
    each input i =
        let (k, g) = got_from cover.ins input i in
        net_agrees design bits others t (net_at at.place input) (c.model, c.has_model, contains_from (model_names c.model) input (in_covers c.model cover input (in_got c.model.covers at.number cover c.has_cover) i))
        (λ clock. (wired design t.faultless t.clean).clocks_unread cover.line k (net_at at.place input) (by_cover {cover = cover} c.has_model contains (got_left cover.ins (cover.out ∷ []) k input g), clock))
        (λ other read r j. before other read (in_from front other (o.after front back at other cover read input is_order c (contains_from cover.ins input i) r j)) r)

all_agree : (design : Design) (bits others : Valuation) → Two design bits others → (order : List CoverAt) → IsCoverOrder design order → (front back : List CoverAt) → order ≡ front ++ back → AgreeAt design bits others front → AgreeAt design bits others order
unfolding AgreeAt
all_agree design bits others t order o front [] e before at cover i c = before at cover (subst (λ v. In at v) (e ∙ nothing front) i) c
  where
    nothing : (xs : List CoverAt) → xs ++ [] ≡ xs
    nothing [] = refl
    nothing (x ∷ xs) = ap (λ l. x ∷ l) (nothing xs)
all_agree design bits others t order o front (x ∷ back) e before at cover i c =
    all_agree design bits others t order o (front ++ x ∷ []) back (e ∙ sym (append_assoc front (x ∷ []) back)) more at cover i c
  where
    more : AgreeAt design bits others (front ++ x ∷ [])
    more y d j r = elim (in_parts front (x ∷ []) y j) as (λ _. Agree bits others (net_at y.place d.out)) [
      | inl k ↦ before y d k r
      | inr k ↦ elim k as (λ _. Agree bits others (net_at y.place d.out)) [ inl s ↦ cover_agrees design bits others t order o front back y (subst (λ v. order ≡ front ++ v ∷ back) (sym s) e) before d r | inr n ↦ absurd n ]
    ]

pub one_valuation : OrderedHaveAtMostOneValuation
unfolding Agree AgreeAt
one_valuation design faultless clean order o inputs state bits others first second net is_net free =
    net_agrees design bits others two net is_net free (λ at cover c j. all_agree design bits others two order o [] order refl (λ a v i w. absurd i) at cover (in_from order at (o.all at cover c)) c)
  where
    two : Two design bits others
    two = record { inputs = inputs; state = state; faultless = faultless; clean = clean; first = first; second = second }
