use Rattle.std.proofs.Common.{ℕ, ◌+◌, ◌-◌, ◌*◌, min, ◌<◌, ◌≡◌, refl, sym, ap, subst, ◌∙◌, None, Some, slice_set, List, [], ◌∷◌, length, get_or, arith}
use Rattle.std.proofs.lemmas.List.{with_items_is, length-map}
use Rattle.ww_rule.specs.Wireworld.{driven}
use Rattle.ww_rule.specs.Grid.{plane_of}
use Rattle.ww_rule.specs.Injections.{due_of_list}
use Rattle.band_core.specs.declared.band.Band.{Band}
use Rattle.band_core.specs.Bands.{IsAwake, moved_on, unready_neighbour}
use Rattle.band_core.specs.Band.{AreBands, AllShow, IsEvolution, IsQuiet, IsWaking, generations_of}
use Rattle.band_core.specs.Held.{held_pattern}
use Rattle.band_core.proofs.Evolution.{evolution}
use Rattle.band_core.proofs.Asleep.{is_awake, never_awake}
use Rattle.lists.proofs.Options.{none_where}
use Rattle.band_core.proofs.bands.Bands.skip.Goals as goal

some_band : (bands : List Band) → 0 < length bands → Band
some_band [] lt = absurd (omega (arith, lt))
some_band (band ∷ bands) lt = band

pub returns-in-Some-awake_cell-clause-cause : goal.returns-in-Some-awake_cell-clause-cause
returns-in-Some-awake_cell-clause-cause c =
    let s = c.self.inside in
    let v = c.self.invariant in
    let b = c.args.b in
    let h = s.height in
    let rows = length s.pattern.rows in
    let due = due_of_list s.injections.items in
    let plane = driven due (plane_of s.pattern.rows) in
    let evo = evolution s.pattern.width s.pattern.height s.pattern.rows s.injections.items s.pattern.in_rows v.inside in
    let none = none_where c.unready_neighbour.result c.in_default.not-Some in
    let ready : unready_neighbour (generations_of s.bands.items) b ≡ None = ap (λ bands. unready_neighbour (generations_of bands) b) (sym c.deref.ensures.value) ∙ sym c.unready_neighbour.ensures ∙ none in
    let x = c.in-Some-awake_cell.x in
    let y = c.in-Some-awake_cell.y in
    let many : c.len-rows.result ≡ rows = c.len-rows.ensures.count in
    let now = c.deref-2.result.now in
    let value : now ≡ s.bands.items = c.deref-2.ensures.value in
    let told = c.in-Some-awake_cell.ensures.some plane due s.pattern.width (subst (IsEvolution plane due s.pattern.width) (sym many) evo) (subst (λ r. AllShow plane due h r now) (sym many) (subst (AllShow plane due h rows) (sym value) v.shows)) in
    let waking : IsWaking plane due (get_or (generations_of s.bands.items) b 0) (b * h) (min h (rows - b * h)) x y =
    subst (λ bands. IsWaking plane due (get_or (generations_of bands) b 0) (b * h) (min h (rows - b * h)) x y) value
    (subst (λ r. IsWaking plane due (get_or (generations_of now) b 0) (b * h) (min h (r - b * h)) x y) many told) in
    subst (λ p. (unready_neighbour p.generations b ≡ None) × IsAwake p b x y) c.self.view_is
    (ready, is_awake (held_pattern s) s.pattern.in_rows v.inside b x y waking)

pub invariant_of-self : goal.invariant_of-self
invariant_of-self c =
    let s = c.self.inside in
    let v = c.self.invariant in
    let b = c.args.b in
    let h = s.height in
    let e = c.rest_band.ensures in
    let due = due_of_list s.injections.items in
    let plane = driven due (plane_of s.pattern.rows) in
    let columns = s.columns in
    let rows = length s.pattern.rows in
    let new = c.rest_band.new.bands in
    let evo = evolution s.pattern.width s.pattern.height s.pattern.rows s.injections.items s.pattern.in_rows v.inside in
    let many : c.len-rows.result ≡ rows = c.len-rows.ensures.count in
    let now = c.deref-2.result.now in
    let value : now ≡ s.bands.items = c.deref-2.ensures.value in
    let old : c.deref_mut.result.now ≡ s.bands.items = c.deref_mut.ensures.value in
    let quiet =
    c.awake_cell.ensures.quiet (none_where c.awake_cell.result c.in_default-awake_cell.not-Some) plane due s.pattern.width (subst (IsEvolution plane due s.pattern.width) (sym many) evo)
    (subst (λ r. AllShow plane due h r now) (sym many) (subst (AllShow plane due h rows) (sym value) v.shows)) in
    let calm : IsQuiet plane due (get_or (generations_of c.deref_mut.result.now) b 0) (b * h) (min h (rows - b * h)) =
    subst (λ r. IsQuiet plane due (get_or (generations_of c.deref_mut.result.now) b 0) (b * h) (min h (r - b * h))) many
    (subst (λ bands. IsQuiet plane due (get_or (generations_of bands) b 0) (b * h) (min h (c.len-rows.result - b * h))) (value ∙ sym old) quiet) in
    let were : AreBands columns h rows c.deref_mut.result.now = subst (AreBands columns h rows) (sym old) v.bands in
    let are : AreBands columns h rows new = e.bands columns h rows were in
    let shows = e.shows plane due s.pattern.width columns h rows evo were (subst (AllShow plane due h rows) (sym old) v.shows) calm in
    let same : length new ≡ length s.bands.items = are.many ∙ sym v.bands.many in
    let bands_is = with_items_is s.bands new (omega (arith, same)) in
    record {
      inside = v.inside;
      in_order = v.in_order;
      height = v.height;
      few = v.few;
      wide = v.wide;
      bands = subst (AreBands columns h rows) (sym bands_is) are;
      shows = subst (AllShow plane due h rows) (sym bands_is) shows;
    }

pub returns-clause-asleep : goal.returns-clause-asleep
returns-clause-asleep c x y awake =
    let s = c.self.inside in
    let v = c.self.invariant in
    let b = c.args.b in
    let h = s.height in
    let due = due_of_list s.injections.items in
    let plane = driven due (plane_of s.pattern.rows) in
    let rows = length s.pattern.rows in
    let evo = evolution s.pattern.width s.pattern.height s.pattern.rows s.injections.items s.pattern.in_rows v.inside in
    let many : c.len-rows.result ≡ rows = c.len-rows.ensures.count in
    let now = c.deref-2.result.now in
    let value : now ≡ s.bands.items = c.deref-2.ensures.value in
    let evo2 = subst (IsEvolution plane due s.pattern.width) (sym many) evo in
    let quiet =
    c.awake_cell.ensures.quiet (none_where c.awake_cell.result c.in_default-awake_cell.not-Some) plane due s.pattern.width evo2 (subst (λ r. AllShow plane due h r now) (sym many) (subst (AllShow plane due h rows) (sym value) v.shows)) in
    let calm : IsQuiet plane due (get_or (generations_of s.bands.items) b 0) (b * h) (min h (rows - b * h)) =
    subst (λ r. IsQuiet plane due (get_or (generations_of s.bands.items) b 0) (b * h) (min h (r - b * h))) many
    (subst (λ bands. IsQuiet plane due (get_or (generations_of bands) b 0) (b * h) (min h (c.len-rows.result - b * h))) value quiet) in
    let inside : b < length (generations_of s.bands.items) = subst (λ p. b < length p.generations) (sym c.self.view_is) c.requires.band in
    let l = length-map s.bands.items (λ (band : Band). band.generation) in
    let lb : b < length s.bands.items = omega (arith, inside, l) in
    let some = (v.bands.each b (some_band s.bands.items (omega (arith, lb))) lb).some in
    never_awake (held_pattern s) s.pattern.in_rows v.inside b some calm x y (subst (λ p. IsAwake p b x y) (sym c.self.view_is) awake)

pub returns-in-Some-clause-refused : goal.returns-in-Some-clause-refused
returns-in-Some-clause-refused c = refl

pub returns-in-Some-awake_cell-clause-refused : goal.returns-in-Some-awake_cell-clause-refused
returns-in-Some-awake_cell-clause-refused c = refl

pub returns-in-Some-clause-cause : goal.returns-in-Some-clause-cause
returns-in-Some-clause-cause c =
    subst (λ p. unready_neighbour p.generations c.args.b ≡ Some c.in-Some.refusal) c.self.view_is
    (ap (λ bands. unready_neighbour (generations_of bands) c.args.b) (sym c.deref.ensures.value) ∙ sym c.unready_neighbour.ensures ∙ c.in-Some.is)

pub returns-clause-ready : goal.returns-clause-ready
returns-clause-ready c =
    subst (λ p. unready_neighbour p.generations c.args.b ≡ None) c.self.view_is
    (ap (λ bands. unready_neighbour (generations_of bands) c.args.b) (sym c.deref.ensures.value) ∙ sym c.unready_neighbour.ensures ∙ none_where c.unready_neighbour.result c.in_default.not-Some)

pub returns-clause-moved : goal.returns-clause-moved
returns-clause-moved c =
    let s = c.self.inside in
    let b = c.args.b in
    let new = c.rest_band.new.bands in
    let columns = s.columns in
    let rows = length s.pattern.rows in
    let old : c.deref_mut.result.now ≡ s.bands.items = c.deref_mut.ensures.value in
    let are : AreBands columns s.height rows new = c.rest_band.ensures.bands columns s.height rows (subst (AreBands columns s.height rows) (sym old) c.self.invariant.bands) in
    let same : length new ≡ length s.bands.items = are.many ∙ sym c.self.invariant.bands.many in
    let generations =
    ap generations_of (with_items_is s.bands new (omega (arith, same)))
    ∙ c.rest_band.ensures.generations ∙ ap (λ bands. slice_set (generations_of bands) b (get_or (generations_of bands) b 0 + 1)) old in
    ap (λ (gs : List ℕ). record (held_pattern s) { generations = gs }) generations ∙ ap (moved_on b) c.self.view_is
