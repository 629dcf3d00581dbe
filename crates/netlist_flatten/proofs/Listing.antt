-- What is listed place by place.
use Rattle.std.proofs.Common.{ℕ, ◌≡◌, ◌<◌, ◌≤◌, ◌+◌, ◌∙◌, inl, inr, List, [], ◌∷◌, ◌++◌, Option, Some, get_or, length, map, flat_map, take, refl, sym, ap, subst}
use Rattle.std.specs.Prelude.{All, option_to_list}
use Rattle.std.proofs.lemmas.List.{flat_map_more, map-append, take_all, take_more}
use Rattle.std.proofs.lemmas.Option.{slice_get_within, slice_get_read, get_or_from_slice_get}
use Rattle.netlist_core.specs.declared.model.Design.{Design}
use Rattle.netlist_core.specs.declared.model.Model.{Model}
use Rattle.netlist_core.specs.declared.model.Cover.{Cover}
use Rattle.netlist_core.specs.declared.model.LatchRow.{LatchRow}
use Rattle.netlist_core.specs.Names.{Name}
use Rattle.netlist_meaning.specs.Places.{Place, model_at}
use Rattle.netlist_meaning.specs.Nets.{Net, net_at, IsNet}
use Rattle.netlist_meaning.specs.InOrder.{of_some, places_in_order, nets_at, nets_in_order}
use Rattle.netlist_meaning.specs.FlatOf.{at_places}
use Rattle.lists.proofs.Members.{In, in_left, in_right, in_got, got_from}
use Rattle.flat_designs.proofs.Lists.{all_of}
use Rattle.flat_designs.proofs.Names.{cover_name, latch_name, is_net_of}
use Rattle.netlist_flatten.specs.Listed.{cover_names, latch_names}
use Rattle.netlist_flatten.specs.Numbered.{place_at, nets_before}

-- what is listed at the places before one
abbrev pub listed_before : {X Y : Type 0} → Design → (Model → List X) → (Place → X → Y) → ℕ → List Y
listed_before design items f k = flat_map (λ place. map (f place) (of_some items (model_at design place))) (take k (places_in_order design))

-- what is listed at one more place, and at all of them
module _ {X Y : Type 0} (design : Design) (items : Model → List X) (f : Place → X → Y) where
  abbrev here : Place → List Y
  here place = map (f place) (of_some items (model_at design place))

  pub listed_more : (k : ℕ) (old new : List Y) → k < length (places_in_order design) → old ≡ listed_before design items f k → new ≡ old ++ map (f (place_at design k)) (of_some items (model_at design (place_at design k)))
      → new ≡ listed_before design items f (k + 1)
  listed_more k old new lt before is =
      is
      ∙ ap (λ (l : List Y). l ++ here (place_at design k)) before
      ∙ flat_map_more here [] (take k (places_in_order design)) (place_at design k)
      ∙ ap (flat_map here) (sym (take_more (places_in_order design) k [] lt))

  pub listed_all : (k : ℕ) → length (places_in_order design) ≤ k → listed_before design items f k ≡ at_places design items f
  listed_all k past = ap (flat_map here) (take_all k (places_in_order design) past)

-- what is made of the nets at one more place, and at all of them
module _ {Y : Type 0} (design : Design) (f : Net → Y) where
  pub nets_more : (k : ℕ) (old new : List Y) → k < length (places_in_order design) → old ≡ map f (nets_before design k) → new ≡ old ++ map f (nets_at design (place_at design k)) → new ≡ map f (nets_before design (k + 1))
  nets_more k old new lt before is =
      is
      ∙ ap (λ (l : List Y). l ++ map f (nets_at design (place_at design k))) before
      ∙ sym (map-append f (nets_before design k) (nets_at design (place_at design k)))
      ∙ ap (map f) (flat_map_more (nets_at design) [] (take k (places_in_order design)) (place_at design k) ∙ ap (flat_map (nets_at design)) (sym (take_more (places_in_order design) k [] lt)))

  pub nets_all : (k : ℕ) → length (places_in_order design) ≤ k → map f (nets_before design k) ≡ map f (nets_in_order design)
  nets_all k past = ap (λ (places : List Place). map f (flat_map (nets_at design) places)) (take_all k (places_in_order design) past)

-- the names of a cover and of a latch are nets at its place
pub cover_nets : (design : Design) (place : Place) (m : Model) (c : Cover) → model_at design place ≡ Some m → In c m.covers → All (λ (name : Name). IsNet design (net_at place name)) (cover_names c)
cover_nets design place m c is_m i = all_of (λ (name : Name). IsNet design (net_at place name)) (cover_names c) (λ name j. is_net_of design place m name is_m (cover_name m c name i j))

pub latch_nets : (design : Design) (place : Place) (m : Model) (latch : LatchRow) → model_at design place ≡ Some m → In latch m.latches → All (λ (name : Name). IsNet design (net_at place name)) (latch_names latch)
latch_nets design place m latch is_m i = all_of (λ (name : Name). IsNet design (net_at place name)) (latch_names latch) (λ name j. is_net_of design place m name is_m (latch_name m latch name i j))

-- what holds of each item holds of one
pub all_at : {X : Type 0} (P : X → Type 0) (xs : List X) (x : X) → All P xs → In x xs → P x
all_at P xs x all i = let (k, e) = got_from xs x i in subst P (get_or_from_slice_get xs k x x e) (all k x (slice_get_within xs k x e))

-- the item that a loop has come to
pub item_in : {X : Type 0} (items xs : List X) (i : ℕ) (x : X) → items ≡ xs → i < length items → x ≡ get_or items i x → In x xs
item_in items xs i x same l e = subst (λ (ys : List _). In x ys) same (in_got items i x (slice_get_read items (length items) i x refl l e))

-- of names that are nets each is one
pub name_net : (design : Design) (place : Place) (names : List Name) (name word : Name) → All (λ (name : Name). IsNet design (net_at place name)) names → In name names → word ≡ name → IsNet design (net_at place word)
name_net design place names name word all i same = subst (λ (n : Name). IsNet design (net_at place n)) (sym same) (all_at (λ (n : Name). IsNet design (net_at place n)) names name all i)

pub input_nets : (design : Design) (place : Place) (cover : Cover) (ins : List Name) → All (λ (name : Name). IsNet design (net_at place name)) (cover_names cover) → ins ≡ cover.ins → All (λ (name : Name). IsNet design (net_at place name)) ins
input_nets design place cover ins all same =
    all_of (λ (name : Name). IsNet design (net_at place name)) ins
    (λ name i. all_at (λ (n : Name). IsNet design (net_at place n)) (cover_names cover) name all (in_left cover.ins (cover.out ∷ []) name (subst (λ (xs : List Name). In name xs) same i)))

pub output_net : (design : Design) (place : Place) (cover : Cover) (word : Name) → All (λ (name : Name). IsNet design (net_at place name)) (cover_names cover) → word ≡ cover.out → IsNet design (net_at place word)
output_net design place cover word all same = name_net design place (cover_names cover) cover.out word all (in_right cover.ins (cover.out ∷ []) cover.out (inl refl)) same

pub latch_input : (design : Design) (place : Place) (latch : LatchRow) (word : Name) → All (λ (name : Name). IsNet design (net_at place name)) (latch_names latch) → word ≡ latch.input → IsNet design (net_at place word)
latch_input design place latch word all same = name_net design place (latch_names latch) latch.input word all (inl refl) same

pub latch_output : (design : Design) (place : Place) (latch : LatchRow) (word : Name) → All (λ (name : Name). IsNet design (net_at place name)) (latch_names latch) → word ≡ latch.output → IsNet design (net_at place word)
latch_output design place latch word all same = name_net design place (latch_names latch) latch.output word all (inr (inl refl)) same

pub latch_control : (design : Design) (place : Place) (latch : LatchRow) (name word : Name) → All (λ (name : Name). IsNet design (net_at place name)) (latch_names latch) → latch.control ≡ Some name → word ≡ name → IsNet design (net_at place word)
latch_control design place latch name word all is same =
    name_net design place (latch_names latch) name word all (inr (inr (subst (λ (o : Option Name). In name (option_to_list o)) (sym is) (inl refl)))) same
