use Rattle.std.proofs.Common.{rules, ◌≡◌, refl, map}
use Rattle.cell_meaning.specs.Moved.{goes_to}
use Rattle.cell_polarity.proofs.Ports.{outs_there, latches_there, nets_there, starts_fit, is_ported}
use Rattle.cell_polarity.proofs.building.ported.Goals as goal

pub invariant_of-list : goal.invariant_of-list
invariant_of-list c =
    let old = c.args.old.now in
    let now = c.args.list in
    let news = c.args.news.now in
    let outs : c.of.result ≡ map (goes_to news) old.outs = search rules in
    let latches : c.of-2.result ≡ map (goes_to news) old.latches = search rules in
    let nets : c.of-3.result ≡ map (goes_to news) old.nets = search rules in
    record {
      in_order = now.in_order;
      outs_there = outs_there old c.args.kept.now now news c.requires c.of.result outs;
      latches_there = latches_there old c.args.kept.now now news c.requires c.of-2.result latches;
      nets_there = nets_there old c.args.kept.now now news c.requires c.of-3.result nets;
      starts_fit = starts_fit old c.args.kept.now now news c.requires c.of-2.result latches;
    }

pub returns : goal.returns
returns c =
    let old = c.args.old.now in
    let now = c.args.list in
    let news = c.args.news.now in
    let outs : c.of.result ≡ map (goes_to news) old.outs = search rules in
    let latches : c.of-2.result ≡ map (goes_to news) old.latches = search rules in
    let nets : c.of-3.result ≡ map (goes_to news) old.nets = search rules in
    let kept : c.in-Ok.ports.kept.items ≡ map (goes_to news) c.args.kept.now = search rules in
    is_ported old c.args.kept.now now news c.requires _ c.in-Ok.ports.kept.items refl refl refl outs latches nets kept
