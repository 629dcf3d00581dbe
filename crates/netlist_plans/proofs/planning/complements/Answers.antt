use Rattle.std.proofs.Common.{rules, arith, sym, ◌∙◌, ◌≡◌, ◌≤◌, ◌*◌, true, false, true≢false, subst, List, length}
use Rattle.std.proofs.lemmas.Result.{err_from_is_err_and}
use Rattle.cell_meaning.specs.Needs.{covers_weight}
use Rattle.cell_core.specs.declared.cells.Src.{Src}
use Rattle.cell_polarity.specs.Complements.{Complements}
use Rattle.cell_polarity.proofs.Mapped.{complements_spare_one}
use Rattle.netlist_plans.proofs.LowLists.{maps_low}
use Rattle.netlist_plans.proofs.planning.complements.Goals as goal

pub returns-in_err-low : goal.returns-in_err-low
returns-in_err-low c =
    let p = (err_from_is_err_and c.from_residual.result c.from_residual.ensures.1).1 in
    record { maps = rw p tt; spares = rw p tt }

pub returns-clause-maps : goal.returns-clause-maps
returns-clause-maps c =
    let mapped = c.args.mapped.now in
    let low = c.in_ok-low.low in
    let made : Complements mapped.list mapped.singles.items low.list low.kept.items =
    subst (λ (kept : List Src). Complements mapped.list kept low.list low.kept.items) c.deref.ensures.value c.in_ok-low.ensures in
    let allowed : c.is_allowed.result ≡ true = search rules in
    maps_low c.args.flat.now mapped.list low.list mapped.singles.items low.kept.items c.requires.sound c.requires.maps made (c.is_allowed.ensures.0 allowed)

pub returns-clause-spares : goal.returns-clause-spares
returns-clause-spares c room =
    let mapped = c.args.mapped.now in
    let low = c.in_ok-low.low in
    let made : Complements mapped.list mapped.singles.items low.list low.kept.items =
    subst (λ (kept : List Src). Complements mapped.list kept low.list low.kept.items) c.deref.ensures.value c.in_ok-low.ensures in
    (complements_spare_one mapped.list low.list mapped.singles.items low.kept.items made room.none).0

-- a list that has room is allowed
pub returns-then-not-is_allowed-clause-spares : goal.returns-then-not-is_allowed-clause-spares
returns-then-not-is_allowed-clause-spares c room =
    let mapped = c.args.mapped.now in
    let low = c.in_ok-low.low in
    let made : Complements mapped.list mapped.singles.items low.list low.kept.items =
    subst (λ (kept : List Src). Complements mapped.list kept low.list low.kept.items) c.deref.ensures.value c.in_ok-low.ensures in
    let short = (complements_spare_one mapped.list low.list mapped.singles.items low.kept.items made room.none).1 in
    let few = room.few in
    let fits : length low.list.cells ≤ 2 * covers_weight c.args.flat.now = omega (arith, short, few) in
    let no : c.is_allowed.result ≡ false = search rules in
    absurd (true≢false (sym (c.is_allowed.ensures.1 fits) ∙ no))
