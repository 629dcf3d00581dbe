use Rattle.std.proofs.Common.{◌+◌, ◌<◌, ◌≡◌, sym, ap, subst, ◌∙◌, ℕ, List, length, arith}
use Rattle.std.specs.Prelude.{All}
use Rattle.std.specs.Vec.{with_items}
use Rattle.std.proofs.lemmas.List.{with_items_is}
use Rattle.ww_rule.specs.Wireworld.{driven}
use Rattle.ww_rule.specs.Grid.{plane_of}
use Rattle.ww_rule.specs.Injections.{due_of_list}
use Rattle.band_core.specs.Bands.{AreLevel, all_moved_on, generation_of}
use Rattle.band_core.specs.Band.{generations_of}
use Rattle.band_core.specs.Held.{IsHeld, held_pattern}
use Rattle.band_core.specs.Together.{CanMoveOn, HasNoneLit, HaveMovedOn, IsNarrowBand}
use Rattle.band_core.proofs.Evolution.{evolution}
use Rattle.band_core.proofs.Unlit.{are_narrow, generations_moved, held_anew, held_can_move, is_unlit}
use Rattle.band_core.proofs.bands.Bands.advance_all.Goals as goal
use Rattle.band_core.proofs.bands.Bands.advance_all.Goals.{After-len-rows, After-move_all}

-- the bands that are held can move on
can : (c : After-len-rows) → CanMoveOn c.args.n c.self.inside.columns c.self.inside.height (length c.self.inside.pattern.rows) c.self.inside.bands.items
can c = held_can_move c.self.inside c.self.invariant c.args.n (subst AreLevel (sym c.self.view_is) c.requires.level) (subst (λ p. generation_of p 0 + c.args.n < 18446744073709551616) (sym c.self.view_is) c.requires.room)

pub move_all-requires : goal.move_all-requires
move_all-requires c =
    let s = c.self.inside in
    let rows = length s.pattern.rows in
    let many : c.len-rows.result ≡ rows = c.len-rows.ensures.count in
    subst (λ r. CanMoveOn c.args.n s.columns s.height r c.deref_mut.result.now) (sym many)
    (subst (CanMoveOn c.args.n s.columns s.height rows) (sym c.deref_mut.ensures.value) (can (goal.at.move_all-requires c).After-len-rows))

-- they have moved on
moved : (c : After-move_all) → HaveMovedOn c.args.n c.self.inside.columns c.self.inside.height (length c.self.inside.pattern.rows) c.self.inside.bands.items c.move_all.new.bands
moved c =
    let s = c.self.inside in
    let rows = length s.pattern.rows in
    let new = c.move_all.new.bands in
    subst (λ bands. HaveMovedOn c.args.n s.columns s.height rows bands new) c.deref_mut.ensures.value
    (subst (λ r. HaveMovedOn c.args.n s.columns s.height r c.deref_mut.result.now new) c.len-rows.ensures.count c.move_all.ensures)

many : (c : After-move_all) → length c.move_all.new.bands ≡ length c.self.inside.bands.items
many c = (moved c).are.many ∙ sym c.self.invariant.bands.many

bands_are : (c : After-move_all) → (with_items c.self.inside.bands c.move_all.new.bands).items ≡ c.move_all.new.bands
bands_are c = let m = many c in with_items_is c.self.inside.bands c.move_all.new.bands (omega (arith, m))

held : (c : After-move_all) → IsHeld (record { pattern = c.self.inside.pattern; injections = c.self.inside.injections; height = c.self.inside.height; columns = c.self.inside.columns; bands = with_items c.self.inside.bands c.move_all.new.bands })
held c =
    let s = c.self.inside in
    let v = c.self.invariant in
    let due = due_of_list s.injections.items in
    let plane = driven due (plane_of s.pattern.rows) in
    let evo = evolution s.pattern.width s.pattern.height s.pattern.rows s.injections.items s.pattern.in_rows v.inside in
    held_anew s c.move_all.new.bands v (moved c).are ((moved c).shows plane due s.pattern.width evo v.shows) (bands_are c)

pub are_unlit-requires : goal.are_unlit-requires
are_unlit-requires c =
    let k = (goal.at.are_unlit-requires c).After-move_all in
    let s = c.self.inside in
    subst (All IsNarrowBand) (sym (c.deref.ensures.value ∙ bands_are k)) (are_narrow s.columns s.height (length s.pattern.rows) c.move_all.new.bands c.self.invariant.few (moved k).are)

pub invariant_of-self : goal.invariant_of-self
invariant_of-self c = held (goal.at.invariant_of-self c).After-move_all

pub returns-clause-moved : goal.returns-clause-moved
returns-clause-moved c =
    let k = (goal.at.returns-clause-moved c).After-move_all in
    let s = c.self.inside in
    let before = can (goal.at.returns-clause-moved c).After-len-rows in
    let generations =
    ap generations_of (bands_are k) ∙ generations_moved c.args.n before.generation s.bands.items c.move_all.new.bands (many k) before.at ((moved k).at before.generation before.at) in
    ap (λ (gs : List ℕ). record (held_pattern s) { generations = gs }) generations ∙ ap (all_moved_on c.args.n) c.self.view_is

pub returns-clause-unlit : goal.returns-clause-unlit
returns-clause-unlit c =
    let k = (goal.at.returns-clause-unlit c).After-move_all in
    let s = c.self.inside in
    let now = is_unlit (record { pattern = s.pattern; injections = s.injections; height = s.height; columns = s.columns; bands = with_items s.bands c.move_all.new.bands }) (held k) in (
      λ e. now.0 (subst (All HasNoneLit) c.deref.ensures.value (c.are_unlit.ensures.0 e)),
      λ unlit. c.are_unlit.ensures.1 (subst (All HasNoneLit) (sym c.deref.ensures.value) (now.1 unlit)),
    )
