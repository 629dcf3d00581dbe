-- The sources of covers that are one cell.
use Rattle.std.proofs.Common.{◌≡◌, refl, sym, ◌∙◌, ap, subst, ℕ, ◌+◌, ◌<◌, Bool, true, false, cond, List, [], ◌∷◌, ◌++◌, map, take, length, get_or, Option, Some, None}
use Rattle.std.specs.Prelude.{is_some, codes}
use Rattle.std.specs.List.{filter_map}
use Rattle.std.specs.Option.{option_to_list}
use Rattle.std.proofs.lemmas.Bool.{and_from, eq-eqb}
use Rattle.std.proofs.lemmas.List.{take_more, length-map}
use Rattle.std.proofs.lemmas.List.Elements.{filter_map-append, Contains-get_or}
use Rattle.std.proofs.lemmas.Option.{none-some}
use Rattle.lists.proofs.Members.{In, in_from, contains_from, filtered_in}
use Rattle.netlist_core.specs.declared.flat.Flat.{Flat}
use Rattle.netlist_meaning.specs.Flat.{no_node, class_of, node_at, in_classes, out_class}
use Rattle.cell_core.specs.declared.cells.Src.{Src}
use Rattle.cell_core.specs.declared.cells.Src.TheVariants.{Zero}
use Rattle.cell_core.specs.declared.cells.Cell.{Cell}
use Rattle.cell_core.specs.declared.cells.Cell.TheVariants.{Or, Xor, AndNot}
use Rattle.cell_meaning.specs.Singles.{single_cell, are_pair, is_only}
use Rattle.cover_mapper.specs.Sourced.{ClassSources, source_at}
use Rattle.cover_mapper.specs.Singles.{is_single, single_source}
use Rattle.cell_meaning.specs.Mapped.{AreSinglesAmong}

one : {X Y : Type 0} (h : X → Option Y) (x : X) (o : Option Y) → h x ≡ o → filter_map h (x ∷ []) ≡ option_to_list o
one h x None e = ap (λ p. filter_map (λ (u : _). p) (x ∷ [])) e
one h x (Some y) e = ap (λ p. filter_map (λ (u : _). p) (x ∷ [])) e

pub filtered_more : {X Y : Type 0} (h : X → Option Y) (found : List Y) (xs : List X) (k : ℕ) (d : X) → k < length xs → found ≡ filter_map h (take k xs)
    → found ++ option_to_list (h (get_or xs k d)) ≡ filter_map h (take (k + 1) xs)
filtered_more h found xs k d within is =
    let x = get_or xs k d in
    ap (λ l. l ++ option_to_list (h x)) is
    ∙ ap (λ l. filter_map h (take k xs) ++ l) (sym (one h x (h x) refl))
    ∙ sym (filter_map-append h (take k xs) (x ∷ []))
    ∙ ap (filter_map h) (sym (take_more xs k d within))

-- ---- a cover of one cell is so over all sources
abbrev chosen : Bool → Bool → Bool → Bool → Bool → Src → Src → Option Cell
chosen on p q r s a b = cond on (cond p (Some (Or a b)) (cond q (Some (Xor a b)) (cond r (Some (AndNot a b)) (cond s (Some (AndNot b a)) None)))) None

some_over : (on p q r s : Bool) (a b c d : Src) (cell : Cell) → chosen on p q r s a b ≡ Some cell → is_some (chosen on p q r s c d) ≡ true
some_over false p q r s a b c d cell e = absurd (none-some cell e)
some_over true true q r s a b c d cell e = refl
some_over true false true r s a b c d cell e = refl
some_over true false false true s a b c d cell e = refl
some_over true false false false true a b c d cell e = refl
some_over true false false false false a b c d cell e = absurd (none-some cell e)

single_over : (sources : List Src) (rows : List (List ℕ)) (on : Bool) (cell : Cell) → single_cell sources rows on ≡ Some cell
    → (length sources ≡ 2) × (is_some (single_cell (Zero ∷ Zero ∷ []) rows on) ≡ true)
single_over [] rows on cell e = absurd (none-some cell e)
single_over (a ∷ []) rows on cell e = absurd (none-some cell e)
single_over (a ∷ b ∷ []) rows on cell e =
    (refl, some_over on (are_pair rows (codes "1-") (codes "-1")) (are_pair rows (codes "10") (codes "01")) (is_only rows (codes "10")) (is_only rows (codes "01")) a b Zero Zero cell e)
single_over (a ∷ b ∷ c ∷ sources) rows on cell e = absurd (none-some cell e)

is_one_cell : (flat : Flat) (sources : ℕ → Src) (n : ℕ) (cell : Cell) → single_cell (map sources (in_classes flat n)) (node_at flat n).rows (node_at flat n).on ≡ Some cell
    → is_single (node_at flat n) ≡ true
is_one_cell flat sources n cell e =
    let over = single_over (map sources (in_classes flat n)) (node_at flat n).rows (node_at flat n).on cell e in
    and_from _ _ (eq-eqb (length (node_at flat n).ins) 2 (sym (length-map (node_at flat n).ins (class_of flat)) ∙ sym (length-map (in_classes flat n) sources) ∙ over.0)) over.1

pub singles_among : (flat : Flat) (sources : ClassSources) (singles : List Src) → singles ≡ cond flat.listed (filter_map (single_source flat sources) flat.nodes) [] → AreSinglesAmong flat (source_at sources) singles
singles_among flat sources singles is listed n cell lt e =
    let node = node_at flat n in
    let made : single_source flat sources node ≡ Some (source_at sources (out_class flat n)) =
    ap (λ b. cond b (Some (source_at sources (out_class flat n))) None) (is_one_cell flat (source_at sources) n cell e) in
    contains_from singles (source_at sources (out_class flat n))
    (subst (λ l. In (source_at sources (out_class flat n)) l)
    (sym (is ∙ ap (λ b. cond b (filter_map (single_source flat sources) flat.nodes) []) listed)) (filtered_in (single_source flat sources) flat.nodes node (source_at sources (out_class flat n)) (in_from flat.nodes node (Contains-get_or flat.nodes n no_node lt)) made))
