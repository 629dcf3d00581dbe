use Rattle.std.proofs.Common.{ℕ, pos, ◌+◌, ◌-◌, ◌≡◌, ◌<◌, ◌≤◌, refl, sym, ap, subst, ◌∙◌, [], ◌∷◌, length, get_or, take, arith}
use Rattle.std.proofs.lemmas.List.{length-map, get_or-map, take_all}
use Rattle.ww_rule.specs.declared.pattern.Injection.{Injection}
use Rattle.ww_rule.specs.Wireworld.{injected}
use Rattle.ww_rule.specs.Injections.{has_cell}
use Rattle.ww_rule.proofs.Injected.{injected_more}
use Rattle.band_rows.specs.Fields.{ShowsField}
use Rattle.band_core.specs.Band.{injected_cells}
use Rattle.band_core.proofs.Injecting.{head_put}
use Rattle.band_core.proofs.band.inject.Goals as goal

pub make_head-requires : goal.make_head-requires
make_head-requires c =
    let n = c.loop-injection.injection-index in
    let v = c.loop-injection.invariant in
    let fits = c.requires.inside n (record { generation = 0; x = 0; y = 0 }) c.loop-injection-test.true in
    let a = fits.0 in
    let b = fits.1 in
    let w = fits.2 in
    let columns = v.size.columns in
    let rows = v.size.rows in
    record {
      closed = v.closed;
      column = omega (arith, w, columns);
      row = omega (arith, a, b, rows);
    }

pub loop-injection-init : goal.loop-injection-init
loop-injection-init c =
    record {
      closed = c.requires.closed;
      size = record { columns = refl; rows = refl; stride = refl };
      tails = refl;
      shows = λ p shown. shown;
    }

pub loop-injection-preserved : goal.loop-injection-preserved
loop-injection-preserved c =
    let n = c.loop-injection.injection-index in
    let i = get_or c.args.due.now n (record { generation = 0; x = 0; y = 0 }) in
    let v = c.loop-injection.invariant in
    let old = c.loop-injection.field in
    let new = c.make_head.new.self in
    let made = c.make_head.ensures in
    let fits = c.requires.inside n (record { generation = 0; x = 0; y = 0 }) c.loop-injection-test.true in
    let a = fits.0 in
    let k = i.y - c.args.y in
    let place : i.y ≡ c.args.y + k = omega (arith, a) in
    let cells = injected_cells c.args.due.now in
    let within : n < length cells = let m = length-map {B = ℕ × ℕ} c.args.due.now (λ (i : Injection). (i.x, i.y)) in omega (arith, m, c.loop-injection-test.true) in
    let cell : get_or cells n (0, 0) ≡ (i.x, i.y) = get_or-map (λ (i : Injection). (i.x, i.y)) c.args.due.now n (record { generation = 0; x = 0; y = 0 }) (0, 0) c.loop-injection-test.true in
    record {
      closed = made.closed;
      size = record { columns = made.size.columns ∙ v.size.columns; rows = made.size.rows ∙ v.size.rows; stride = made.size.stride ∙ v.size.stride };
      tails = made.tails ∙ v.tails;
      shows = λ p shown.
          let q = injected (has_cell (take n cells)) p in
          let after : injected (has_cell ((i.x, i.y) ∷ [])) q ≡ injected (has_cell (take (n + 1) cells)) p =
          ap (λ cell. injected (has_cell (cell ∷ [])) q) (sym cell) ∙ injected_more cells n (0, 0) p within in
          subst (λ q. ShowsField new q (pos c.args.y)) after
          (head_put old new i.x k i.y c.args.y q place made.size made.cells (v.shows p shown));
    }

pub returns-clause-shows : goal.returns-clause-shows
returns-clause-shows c p shown =
    let n = c.loop-injection.injection-index in
    let cells = injected_cells c.args.due.now in
    let m = length-map {B = ℕ × ℕ} c.args.due.now (λ (i : Injection). (i.x, i.y)) in
    let past : length cells ≤ n = omega (arith, m, c.loop-injection-test.false) in
    subst (λ cells. ShowsField c.loop-injection.field (injected (has_cell cells) p) (pos c.args.y)) (take_all n cells past) (c.loop-injection.invariant.shows p shown)
