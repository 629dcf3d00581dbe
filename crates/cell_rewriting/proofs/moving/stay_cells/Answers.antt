use Rattle.std.proofs.Common.{rules, ◌≡◌, ◌<◌, ◌≤◌, true, length, get_or}
use Rattle.cell_core.specs.declared.cells.Src.{Src}
use Rattle.cell_core.specs.declared.cells.Src.TheVariants.{Input}
use Rattle.cell_meaning.specs.Moved.{goes_to}
use Rattle.cell_meaning.specs.Same.{StaysCell}
use Rattle.cell_meaning.proofs.Moves.{none_stays, one_stays_more, all_stay}
use Rattle.cell_rewriting.proofs.moving.stay_cells.Goals as goal

-- what a read of the slice names where there is nothing
none : Src
none = Input 0

pub loop-src-init : goal.loop-src-init
loop-src-init c = none_stays c.args.old.now c.args.new.now (goes_to c.args.news.now) c.args.sources.now

pub loop-src-preserved : goal.loop-src-preserved
unfolding none
loop-src-preserved c =
    let within : c.loop-src.src-index < length c.args.sources.now = search rules in
    let yes : c.stays.result ≡ true = search rules in
    let this : StaysCell c.args.old.now c.args.new.now (goes_to c.args.news.now) (get_or c.args.sources.now c.loop-src.src-index none) = c.stays.ensures yes in
    one_stays_more c.args.old.now c.args.new.now (goes_to c.args.news.now) c.args.sources.now c.loop-src.src-index none within c.loop-src.invariant this

pub returns : goal.returns
returns c =
    let end : length c.args.sources.now ≤ c.loop-src.src-index = search rules in
    λ yes. all_stay c.args.old.now c.args.new.now (goes_to c.args.news.now) c.args.sources.now c.loop-src.src-index end c.loop-src.invariant
