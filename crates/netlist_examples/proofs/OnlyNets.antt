-- A valuation is one by its bits at the design's nets.
use Rattle.std.proofs.Common.{ℕ, zero, suc, ◌≡◌, List, [], ◌∷◌, ◌++◌, Bool, true, Option, Some, None, option_and_then, option_map, option_to_list, unwrap_or, slice_get, map, flat_map, length, Contains, bytes_eq, refl, sym, ap, ◌∙◌, subst, true≢false, inl, inr}
use Rattle.std.specs.List.{list_any}
use Rattle.std.proofs.lemmas.Slice.Eq.{bytes_eq-Decides}
use Rattle.std.proofs.lemmas.List.Folds.{list_any-append}
use Rattle.std.proofs.lemmas.Map.Views.{Contains-from_any}
use Rattle.std.proofs.lemmas.Option.{none-some, same_Some, slice_get-get_or, slice_get-map, slice_get_within, get_or_from_slice_get}
use Rattle.lists.proofs.Cuts.{got_left}
use Rattle.netlist_core.specs.declared.model.Design.{Design}
use Rattle.netlist_core.specs.declared.model.Model.{Model}
use Rattle.netlist_core.specs.declared.model.Cover.{Cover}
use Rattle.netlist_core.specs.declared.model.Port.{Port}
use Rattle.netlist_core.specs.declared.model.Pin.{Pin}
use Rattle.netlist_core.specs.declared.model.Subckt.{Subckt}
use Rattle.netlist_core.specs.declared.model.LatchRow.{LatchRow}
use Rattle.netlist_core.specs.Names.{Name, port_names}
use Rattle.netlist_meaning.specs.Places.{Place, main_model, model_below, model_at, latch_at, main_ports, main_inputs, main_outputs}
use Rattle.netlist_meaning.specs.Nets.{Net, net_at, model_names, IsNet, by_pin, IsControl, IsClockNet, WithoutControl, none, kept, left_out}
use Rattle.netlist_meaning.specs.CoverValue.{cover_value}
use Rattle.netlist_meaning.specs.Valuation.{Valuation, LatchState, IsValuation, AgreeOnNets, output_bits}
use Rattle.netlist_rules.specs.Clocks.{IsUse, by_cover, by_latch, by_main_output, IsWired}
use Rattle.netlist_meaning.specs.Roots.{root, NamesFormalsOnce}
use Rattle.netlist_meaning.specs.Laws.{AgreeAtPins}
use Rattle.netlist_examples.specs.DesignLaws.{WiredDesignsHaveNets}
use Rattle.netlist_meaning.proofs.Names.{and_then-from}
use Rattle.lists.proofs.Names.{bytes_eq-same}
use Rattle.std.proofs.lemmas.Bool.{or_left, or_right}
use Rattle.netlist_meaning.proofs.InNames.{root_of_top}
use Rattle.netlist_meaning.proofs.Joined.{pins_are_enough, no_clock_net-joined}
use Rattle.netlist_meaning.proofs.Roots.{joined_is_same_root}
use Rattle.lists.proofs.Appends.{slice_get_push as at_end}
use Rattle.std.proofs.lemmas.Map.Keys.{any_passes_from_place as any_at}
use Rattle.lists.proofs.Members.{map_in, got_from}

-- is the name one of these?
has : List Name → Name → Bool
has names name = list_any (bytes_eq name) names

has_left : (xs ys : List Name) (name : Name) → has xs name ≡ true → has (xs ++ ys) name ≡ true
unfolding has
has_left xs ys name e = list_any-append (bytes_eq name) xs ys ∙ or_left _ _ e

has_right : (xs ys : List Name) (name : Name) → has ys name ≡ true → has (xs ++ ys) name ≡ true
unfolding has
has_right xs ys name e = list_any-append (bytes_eq name) xs ys ∙ or_right (list_any (bytes_eq name) xs) _ e

has_inside : {X : Type 0} (f : X → List Name) (xs : List X) (k : ℕ) (x : X) (name : Name) → slice_get xs k ≡ Some x → has (f x) name ≡ true → has (flat_map f xs) name ≡ true
has_inside f [] k x name at e = absurd (none-some x at)
has_inside f (y ∷ xs) zero x name at e = has_left (f y) _ name (ap (λ z. has (f z) name) (same_Some _ _ at) ∙ e)
has_inside f (y ∷ xs) (suc k) x name at e = has_right (f y) _ name (has_inside f xs k x name at e)

has_at : (names : List Name) (k : ℕ) (name : Name) → slice_get names k ≡ Some name → has names name ≡ true
unfolding has
has_at names k name at = any_at (bytes_eq name) names k name at (bytes_eq-same name)

net_of : (design : Design) (place : Place) (model : Model) (name : Name) → model_at design place ≡ Some model → has (model_names model) name ≡ true → IsNet design (net_at place name)
unfolding has
net_of design place model name is_model e = (model, is_model, Contains-from_any (λ x y t. (bytes_eq-Decides x y).0 t) name (model_names model) e)

at_of : {X : Type 0} (xs : List X) (x : X) → Contains xs x → (k : ℕ) × (slice_get xs k ≡ Some x)
at_of xs x (k, lt, is) = (k, slice_get-get_or xs k x lt ∙ ap Some is)

-- the parts of a model's names
cover_names : Cover → List Name
cover_names cover = cover.ins ++ cover.out ∷ []

input_named : (model : Model) (name : Name) → has (port_names model.ins) name ≡ true → has (model_names model) name ≡ true
input_named model name e = has_left _ _ name (has_left _ _ name (has_left _ _ name (has_left _ _ name (has_left _ _ name e))))

output_named : (model : Model) (name : Name) → has (port_names model.outs) name ≡ true → has (model_names model) name ≡ true
output_named model name e = has_left _ _ name (has_left _ _ name (has_left _ _ name (has_left _ _ name (has_right (port_names model.ins) _ name e))))

cover_named : (model : Model) (k : ℕ) (cover : Cover) (name : Name) → slice_get model.covers k ≡ Some cover → has (cover.ins ++ cover.out ∷ []) name ≡ true → has (model_names model) name ≡ true
cover_named model k cover name at e = has_left _ _ name (has_left _ _ name (has_right (port_names model.ins ++ port_names model.outs ++ port_names model.clocks) _ name (has_inside (λ c. c.ins ++ c.out ∷ []) model.covers k cover name at e)))

latch_named : (model : Model) (k : ℕ) (latch : LatchRow) (name : Name) → slice_get model.latches k ≡ Some latch → has (latch.input ∷ latch.output ∷ []) name ≡ true → has (model_names model) name ≡ true
latch_named model k latch name at e =
    has_left _ _ name (has_right _ _ name (has_inside (λ l. l.input ∷ l.output ∷ option_to_list l.control) model.latches k latch name at (has_left (latch.input ∷ latch.output ∷ []) (option_to_list latch.control) name e)))

pin_named_there : (model : Model) (k : ℕ) (line : Subckt) (pin : Pin) → slice_get model.subckts k ≡ Some line → Contains line.pins pin → has (model_names model) pin.actual ≡ true
pin_named_there model k line pin at has_pin =
    let (j, is_pin) = at_of line.pins pin has_pin in
    has_right _ _ pin.actual (has_inside (λ l. map (λ p. p.actual) l.pins) model.subckts k line pin.actual at
    (has_at (map (λ p. p.actual) line.pins) j pin.actual (slice_get-map (λ p. p.actual) line.pins j ∙ ap (option_map (λ p. p.actual)) is_pin)))

-- what is used is a net
use_is_net : (design : Design) (line position : ℕ) (net : Net) → IsUse design line position net → IsNet design net
use_is_net design line position net (by_cover {place = place} {model = model} {cover = cover} {name = name} is_model has_cover at) =
    let (k, is_cover) = at_of model.covers cover has_cover in
    net_of design place model name is_model (cover_named model k cover name is_cover (has_at (cover.ins ++ cover.out ∷ []) position name at))
use_is_net design line position net (by_latch {place = place} {model = model} {latch = latch} {name = name} is_model has_latch at) =
    let (k, is_latch) = at_of model.latches latch has_latch in
    net_of design place model name is_model (latch_named model k latch name is_latch (has_at (latch.input ∷ latch.output ∷ []) position name at))
use_is_net design line position net (by_main_output {port = port} at) = by_main (main_model design) refl at
  where
    by_main : (main : Option Model) → main_model design ≡ main → slice_get (unwrap_or (option_map (λ m. m.outs) main) []) position ≡ Some port → IsNet design (net_at [] port.name)
    by_main None is_main e = absurd (none-some port e)
    by_main (Some main) is_main e =
        net_of design [] main port.name (ap (option_and_then (model_below design [])) is_main)
        (output_named main port.name (has_at (port_names main.outs) position port.name (slice_get-map (λ p. p.name) main.outs position ∙ ap (option_map (λ p. p.name)) e)))

-- lists that a function and another make alike
map_same : {X Y : Type 0} (f g : X → Y) (xs : List X) → ((k : ℕ) (x : X) → slice_get xs k ≡ Some x → f x ≡ g x) → map f xs ≡ map g xs
map_same f g xs same = map_in f g xs (λ x i. let r = got_from xs x i in same r.0 x r.1)

-- a clock net of the main model that is among its inputs is the control
clock_input : (design : Design) → NamesFormalsOnce design → (name : Name) → has (main_inputs design) name ≡ true → IsClockNet design (net_at [] name) → IsControl design (net_at [] name)
unfolding has
clock_input design once name is_input (source, inl is_control, joined) = (source, is_control, joined)
clock_input design once name is_input (source, inr is_clock, joined) =
    let is_top : net_at [] source.name ≡ source = ap (λ p. net_at p source.name) (sym is_clock.is_main) in
    let same : net_at [] source.name ≡ net_at [] name =
    sym (root_of_top design source.name) ∙ ap (root design) is_top ∙ (joined_is_same_root design once source (net_at [] name)).0 joined ∙ root_of_top design name in
    absurd (is_clock.is_no_input (among (ap (has (main_inputs design)) (ap (λ n. n.name) same) ∙ is_input)))
  where
    among : has (main_inputs design) source.name ≡ true → Contains (main_inputs design) source.name
    among e = Contains-from_any (λ x y t. (bytes_eq-Decides x y).0 t) source.name (main_inputs design) e

no_name : (name : Name) → has [] name ≡ true → ⊥
unfolding has
no_name name e = true≢false (sym e)

input_net : (design : Design) (name : Name) → has (main_inputs design) name ≡ true → IsNet design (net_at [] name)
input_net design name = by_main (main_model design) refl
  where
    by_main : (main : Option Model) → main_model design ≡ main → has (port_names (unwrap_or (option_map (λ m. m.ins) main) [])) name ≡ true → IsNet design (net_at [] name)
    by_main None is_main e = absurd (no_name name e)
    by_main (Some main) is_main e = net_of design [] main name (ap (option_and_then (model_below design [])) is_main) (input_named main name e)

-- the bits of IN names are alike
ins_alike : (design : Design) (f g : Name → Bool) (names rest : List Name) → WithoutControl design names rest → ((name : Name) → has names name ≡ true → ¬ IsControl design (net_at [] name) → f name ≡ g name) → map f rest ≡ map g rest
unfolding has
ins_alike design f g [] rest none same = refl
ins_alike design f g (name ∷ names) rest (kept {rest = others} away h) same =
    ap (λ bit. bit ∷ map f others) (same name (or_left _ _ (bytes_eq-same name)) away) ∙ ap (λ bits. g name ∷ bits) (ins_alike design f g names others h (λ other e. same other (or_right (bytes_eq other name) _ e)))
ins_alike design f g (name ∷ names) rest (left_out c h) same = ins_alike design f g names rest h (λ other e. same other (or_right (bytes_eq other name) _ e))

-- what is used agrees
used : (design : Design) → IsWired design → (bits others : Valuation) → AgreeOnNets design bits others → (line position : ℕ) (place : Place) (name : Name) → IsUse design line position (net_at place name) → bits place name ≡ others place name
used design wired bits others agree line position place name h =
    agree (net_at place name) (use_is_net design line position (net_at place name) h) (λ clock. wired.clocks_unread line position (net_at place name) (h, clock))

outputs_agree : (design : Design) → IsWired design → (bits others : Valuation) → AgreeOnNets design bits others → output_bits design bits ≡ output_bits design others
outputs_agree design wired bits others agree = map_same (bits []) (others []) (main_outputs design) each
  where
    by_port : (k : ℕ) (name : Name) (port : Option Port) → slice_get (main_ports (λ m. m.outs) design) k ≡ port → option_map (λ p. p.name) port ≡ Some name → bits [] name ≡ others [] name
    by_port k name None at e = absurd (none-some name e)
    by_port k name (Some port) at e =
        let same : port.name ≡ name = same_Some _ _ e in
        subst (λ n. bits [] n ≡ others [] n) same (used design wired bits others agree port.line k [] port.name (by_main_output at))

    each : (k : ℕ) (name : Name) → slice_get (main_outputs design) k ≡ Some name → bits [] name ≡ others [] name
    each k name at = by_port k name (slice_get (main_ports (λ m. m.outs) design) k) refl (sym (slice_get-map (λ p. p.name) (main_ports (λ m. m.outs) design) k) ∙ at)

pins_agree : (design : Design) → IsWired design → (bits others : Valuation) → AgreeOnNets design bits others → AgreeAtPins design bits → AgreeAtPins design others
pins_agree design wired bits others agree at_pins outer inner h away =
    let outer_net : IsNet design outer = net_of design outer.place h.model outer.name h.has_model (ap (has (model_names h.model)) h.is_actual ∙ pin_named_there h.model h.number h.line h.pin h.has_line h.has_pin) in
    sym (agree outer outer_net away)
    ∙ at_pins outer inner h away
    ∙ agree inner (wired.formals_named outer inner h) (no_clock_net-joined design outer inner (by_pin h) away)

solves : (design : Design) → IsWired design → (inputs : List Bool) (state : LatchState) (bits others : Valuation) → AgreeOnNets design bits others → IsValuation design inputs state bits → IsValuation design inputs state others
solves design wired inputs state bits others agree v =
    record {
      in_names = v.in_names;
      are_in_names = v.are_in_names;
      inputs_given = ins_alike design (others []) (bits []) (main_inputs design) v.in_names v.are_in_names ins ∙ v.inputs_given;
      joined_agree = (pins_are_enough design others).0 (pins_agree design wired bits others agree ((pins_are_enough design bits).1 v.joined_agree));
      covers_hold = covers;
      latches_hold = latches;
    }
  where
    ins : (name : Name) → has (main_inputs design) name ≡ true → ¬ IsControl design (net_at [] name) → others [] name ≡ bits [] name
    ins name is_input away = sym (agree (net_at [] name) (input_net design name is_input) (λ clock. away (clock_input design wired.formals_once name is_input clock)))

    covers : (place : Place) (model : Model) (cover : Cover) → model_at design place ≡ Some model → Contains model.covers cover → others place cover.out ≡ cover_value cover.rows cover.on (map (others place) cover.ins)
    covers place model cover is_model has_cover =
        sym (used design wired bits others agree cover.line (length cover.ins) place cover.out (by_cover is_model has_cover (at_end cover.ins cover.out)))
        ∙ v.covers_hold place model cover is_model has_cover
        ∙ ap (cover_value cover.rows cover.on) (map_same (bits place) (others place) cover.ins
        (λ k name at. used design wired bits others agree cover.line k place name (by_cover is_model has_cover (got_left cover.ins (cover.out ∷ []) k name at))))

    latches : (place : Place) (number : ℕ) (latch : LatchRow) → latch_at design place number ≡ Some latch → others place latch.output ≡ state place number
    latches place number latch h =
        let (model, is_model, is_latch) = and_then-from (λ m. slice_get m.latches number) (model_at design place) latch h in
        let has_latch : Contains model.latches latch = (number, slice_get_within model.latches number latch is_latch, get_or_from_slice_get model.latches number latch latch is_latch) in
        sym (used design wired bits others agree latch.line 1 place latch.output (by_latch is_model has_latch refl)) ∙ v.latches_hold place number latch h

pub wired_designs_have_nets : WiredDesignsHaveNets
wired_designs_have_nets design wired = record { solves = solves design wired; outputs = outputs_agree design wired }
