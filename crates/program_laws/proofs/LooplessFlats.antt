-- A flat netlist without loops has at most one valuation for given input bits and a given state.
use Rattle.std.proofs.Common.{◌≡◌, ◌≢◌, refl, sym, ◌∙◌, ap, subst, ℕ, zero, suc, ◌<◌, ◌≤◌, ◌⊎◌, inl, inr, Bool, true, false, true≢false, List, [], ◌∷◌, length, map, get_or, arith}
use Rattle.std.specs.List.{range_with_len}
use Rattle.std.proofs.lemmas.Option.{slice_get_within, get_or_from_slice_get}
use Rattle.std.proofs.lemmas.List.{length-map, get_or-map}
use Rattle.std.proofs.lemmas.List.FromFn.{length-range_with_len, get_or-range_with_len}
use Rattle.lists.proofs.Members.{In, in_from, contains_from, in_map, in_mapped, map_in}
use Rattle.netlist_core.specs.declared.flat.NetId.{NetId}
use Rattle.netlist_core.specs.declared.flat.FlatPort.{FlatPort}
use Rattle.netlist_core.specs.declared.flat.FlatLatch.{FlatLatch}
use Rattle.netlist_core.specs.declared.flat.Flat.{Flat}
use Rattle.netlist_meaning.specs.CoverValue.{cover_value}
use Rattle.netlist_meaning.specs.Flat.{no_net, no_node, IsNetId, IsClockClass, IsSound, FlatDriver, FlatDrives, class_of, node_at, in_classes, out_class}
use Rattle.netlist_meaning.specs.FlatOrder.{FlatFeeds, FlatFeedsThrough, IsFlatLoop}
use Rattle.netlist_meaning.specs.FlatValuation.{IsFlatValuation, AgreeWhereDriven}

-- lists that are made alike have like items
made_alike : {X Y Z : Type 0} (f : X → Z) (g : Y → Z) (xs : List X) (ys : List Y) → map f xs ≡ map g ys → (i : ℕ) (x : X) (d : Y) → i < length xs → get_or xs i x ≡ x → (i < length ys) × (f x ≡ g (get_or ys i d))
made_alike f g xs ys same i x d within is =
    let many : length xs ≡ length ys = sym (length-map xs f) ∙ ap length same ∙ length-map ys g in
    let low : i < length ys = omega (arith, within, many) in
    (low, ap f (sym is) ∙ sym (get_or-map f xs i x (f x) within) ∙ ap (λ zs. get_or zs i (f x)) same ∙ get_or-map g ys i d (f x) low)

-- each class of the list feeds the next
abbrev IsPath : Flat → List ℕ → Type 0
IsPath flat [] = Unit {0}
IsPath flat (class ∷ []) = Unit {0}
IsPath flat (class ∷ next ∷ classes) = FlatFeeds flat class next × IsPath flat (next ∷ classes)

-- the way along a path to a class on it
through : (flat : Flat) (start first : ℕ) (rest : List ℕ) (class : ℕ) → FlatFeeds flat start first → IsPath flat (first ∷ rest) → In class (first ∷ rest) → (classes : List ℕ) × FlatFeedsThrough flat start classes class
through flat start first rest class feeds path (inl same) = ([], subst (FlatFeeds flat start) (sym same) feeds)
through flat start first [] class feeds path (inr i) = absurd i
through flat start first (second ∷ rest) class feeds path (inr i) =
    let on = through flat first second rest class path.0 path.1 i in (first ∷ on.0, (feeds, on.1))

-- a list without one of its numbers
record IsWithout (number : ℕ) (numbers : List ℕ) : Type 0 where
  fewer : List ℕ
  less : length numbers ≡ suc (length fewer)
  others : (other : ℕ) → In other numbers → (other ≡ number) ⊎ In other fewer

-- a number more is left there
longer : (number first : ℕ) (numbers : List ℕ) → IsWithout number numbers → IsWithout number (first ∷ numbers)
longer number first numbers rest = record { fewer = first ∷ rest.fewer; less = ap suc rest.less; others = others }
  where
    later : (other : ℕ) → (other ≡ number) ⊎ In other rest.fewer → (other ≡ number) ⊎ In other (first ∷ rest.fewer)
    later other (inl e) = inl e
    later other (inr j) = inr (inr j)

    others : (other : ℕ) → In other (first ∷ numbers) → (other ≡ number) ⊎ In other (first ∷ rest.fewer)
    others other (inl e) = inr (inl e)
    others other (inr j) = later other (rest.others other j)

without : (numbers : List ℕ) (number : ℕ) → In number numbers → IsWithout number numbers
without [] number i = absurd i
without (first ∷ numbers) number (inl same) = record { fewer = numbers; less = refl; others = others }
  where
    others : (other : ℕ) → In other (first ∷ numbers) → (other ≡ number) ⊎ In other numbers
    others other (inl e) = inl (e ∙ sym same)
    others other (inr i) = inr i
without (first ∷ numbers) number (inr i) = longer number first numbers (without numbers number i)

same_or_not : (a b : Bool) → (a ≡ b) ⊎ (a ≢ b)
same_or_not true true = inl refl
same_or_not true false = inr true≢false
same_or_not false true = inr (λ e. true≢false (sym e))
same_or_not false false = inl refl

-- two functions agree at each number of a list, or differ at one
agree_or_not : (f g : ℕ → Bool) (numbers : List ℕ) → ((x : ℕ) → In x numbers → f x ≡ g x) ⊎ ((x : ℕ) × In x numbers × (f x ≢ g x))
agree_or_not f g [] = inl (λ x i. absurd i)
agree_or_not f g (first ∷ numbers) = by (same_or_not (f first) (g first)) (agree_or_not f g numbers)
  where
    by : (f first ≡ g first) ⊎ (f first ≢ g first) → ((x : ℕ) → In x numbers → f x ≡ g x) ⊎ ((x : ℕ) × In x numbers × (f x ≢ g x)) → ((x : ℕ) → In x (first ∷ numbers) → f x ≡ g x) ⊎ ((x : ℕ) × In x (first ∷ numbers) × (f x ≢ g x))
    by (inr differ) rest = inr (first, inl refl, differ)
    by (inl same) (inr found) = inr (found.0, inr found.1, found.2)
    by (inl same) (inl rest) = inl all
      where
        all : (x : ℕ) → In x (first ∷ numbers) → f x ≡ g x
        all x (inl e) = ap f e ∙ same ∙ ap g (sym e)
        all x (inr i) = rest x i

module _ (flat : Flat) (sound : IsSound flat) (no_loop : (classes : List ℕ) → IsFlatLoop flat classes → ⊥) (inputs state : List Bool) (f g : ℕ → Bool) (first : IsFlatValuation flat inputs state f) (second : IsFlatValuation flat inputs state g) where
  at_input : (k class : ℕ) → FlatDrives flat (FlatDriver.input k) class → f class ≡ g class
  at_input k class (port, at, is) =
      let bit = (made_alike (λ (p : FlatPort). f (class_of flat p.net)) (λ (p : FlatPort). g (class_of flat p.net)) flat.ins flat.ins (first.inputs_given ∙ sym second.inputs_given) k port port (slice_get_within flat.ins k port at) (get_or_from_slice_get flat.ins k port port at)).1 in
      ap f (sym is) ∙ bit ∙ ap (λ (p : FlatPort). g (class_of flat p.net)) (get_or_from_slice_get flat.ins k port port at) ∙ ap g is

  at_latch : (k class : ℕ) → FlatDrives flat (FlatDriver.latch k) class → f class ≡ g class
  at_latch k class (latch, at, is) =
      let bit = (made_alike (λ (l : FlatLatch). f (class_of flat l.output)) (λ (l : FlatLatch). g (class_of flat l.output)) flat.latches flat.latches (first.latches_hold ∙ sym second.latches_hold) k latch latch (slice_get_within flat.latches k latch at) (get_or_from_slice_get flat.latches k latch latch at)).1 in
      ap f (sym is) ∙ bit ∙ ap (λ (l : FlatLatch). g (class_of flat l.output)) (get_or_from_slice_get flat.latches k latch latch at) ∙ ap g is

  -- a node whose inputs agree agrees
  at_node : (n : ℕ) → n < length flat.nodes → ((x : ℕ) → In x (in_classes flat n) → f x ≡ g x) → f (out_class flat n) ≡ g (out_class flat n)
  at_node n is_node agree =
      first.nodes_hold n is_node
      ∙ ap (cover_value (node_at flat n).rows (node_at flat n).on) (map_in (λ (id : NetId). f (class_of flat id)) (λ (id : NetId). g (class_of flat id)) (node_at flat n).ins (λ id i. agree (class_of flat id) (in_map (class_of flat) (node_at flat n).ins id i)))
      ∙ sym (second.nodes_hold n is_node)

  -- what a node reads is driven
  record IsRead (class : ℕ) : Type 0 where
    within : class < length flat.nets
    driver : FlatDriver
    drives : FlatDrives flat driver class

  is_read : (n class : ℕ) → n < length flat.nodes → In class (in_classes flat n) → IsRead class
  is_read n class is_node i = subst IsRead (sym same) (record { within = sound.in_range.classes id.0 no_net is_id; driver = driven.0; drives = driven.1 })
    where
      of : (id : NetId) × In id (node_at flat n).ins × (class ≡ class_of flat id)
      of = in_mapped (class_of flat) (node_at flat n).ins class i

      id : NetId
      id = of.0

      same : class ≡ class_of flat id
      same = of.2

      is_id : IsNetId flat id
      is_id = let at = contains_from (node_at flat n).ins id of.1 in subst (IsNetId flat) at.2 (sound.in_range.node_ins n no_node is_node at.0 id at.1)

      free : ¬ IsClockClass flat (class_of flat id)
      free = subst (λ c. ¬ IsClockClass flat c) same (sound.clocks_unread n class (contains_from (in_classes flat n) class i))

      driven : (d : FlatDriver) × FlatDrives flat d (class_of flat id)
      driven = sound.driven id is_id free

  -- each class is on the path, or among these
  abbrev AllThere : (path left : List ℕ) → Type 0
  AllThere path left = (x : ℕ) → x < length flat.nets → In x path ⊎ In x left

  -- no class at the begin of a path differs, if so many classes are left
  abbrev Agrees : (left path : List ℕ) (class : ℕ) → Type 0
  Agrees left path class = IsPath flat (class ∷ path) → AllThere (class ∷ path) left → (d : FlatDriver) → FlatDrives flat d class → f class ≢ g class → ⊥

  -- where a node differs, an input of it differs, which is on the path, or one of those left
  one_more : (left path : List ℕ) (class : ℕ) → ((x : ℕ) (w : IsWithout x left) → Agrees w.fewer (class ∷ path) x) → Agrees left path class
  one_more left path class go_on is_path all (FlatDriver.input k) drives differ = differ (at_input k class drives)
  one_more left path class go_on is_path all (FlatDriver.latch k) drives differ = differ (at_latch k class drives)
  one_more left path class go_on is_path all (FlatDriver.node n) (is_node, is) differ = by (agree_or_not f g (in_classes flat n))
    where
      by : ((x : ℕ) → In x (in_classes flat n) → f x ≡ g x) ⊎ ((x : ℕ) × In x (in_classes flat n) × (f x ≢ g x)) → ⊥
      by (inl agree) = differ (ap f (sym is) ∙ at_node n is_node agree ∙ ap g is)
      by (inr (x, i, apart)) = found (all x read.within)
        where
          read : IsRead x
          read = is_read n x is_node i

          feeds : FlatFeeds flat x class
          feeds = record { node = n; is_node = is_node; reads = contains_from (in_classes flat n) x i; writes = is }

          found : In x (class ∷ path) ⊎ In x left → ⊥
          found (inl on) = let way = through flat x class path x feeds is_path on in no_loop (x ∷ way.0) way.1
          found (inr among) = go_on x w (feeds, is_path) there read.driver read.drives apart
            where
              w : IsWithout x left
              w = without left x among

              now : (y : ℕ) → (y ≡ x) ⊎ In y w.fewer → In y (x ∷ class ∷ path) ⊎ In y w.fewer
              now y (inl e) = inl (inl e)
              now y (inr j) = inr j

              later : (y : ℕ) → In y (class ∷ path) ⊎ In y left → In y (x ∷ class ∷ path) ⊎ In y w.fewer
              later y (inl j) = inl (inr j)
              later y (inr j) = now y (w.others y j)

              there : AllThere (x ∷ class ∷ path) w.fewer
              there y low = later y (all y low)

  never : (many : ℕ) (left path : List ℕ) (class : ℕ) → length left ≤ many → Agrees left path class
  never zero left path class few = one_more left path class (λ x w. absurd (omega (arith, few, w.less)))
  never (suc many) left path class few = one_more left path class (λ x w. never many w.fewer (class ∷ path) x (omega (arith, few, w.less)))

  abbrev all_classes : List ℕ
  all_classes = range_with_len 0 (length flat.nets)

  each_there : (class : ℕ) → AllThere (class ∷ []) all_classes
  each_there class x low =
      let many = length-range_with_len 0 (length flat.nets) in
      let at : get_or all_classes x x ≡ x = omega (arith, get_or-range_with_len 0 (length flat.nets) x x low) in
      inr (in_from all_classes x (x, omega (arith, low, many), at))

  pub loopless_agree : AgreeWhereDriven flat f g
  loopless_agree class d drives = by (same_or_not (f class) (g class))
    where
      by : (f class ≡ g class) ⊎ (f class ≢ g class) → f class ≡ g class
      by (inl same) = same
      by (inr differ) = absurd (never (length all_classes) all_classes [] class (omega arith) tt (each_there class) d drives differ)
