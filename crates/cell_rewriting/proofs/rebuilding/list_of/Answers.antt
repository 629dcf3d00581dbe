use Rattle.std.proofs.Common.{rules, ◌≡◌, refl, sym, ◌∙◌, ap, map, Some, length}
use Rattle.cell_meaning.specs.Moved.{new_source}
use Rattle.cell_core.proofs.Following.{as_many, in_order_again, there_again}
use Rattle.cell_meaning.proofs.Moves.{follows, is_rebuilt}
use Rattle.cell_rewriting.proofs.rebuilding.list_of.Goals as goal

pub invariant_of-result-clause-in_order : goal.invariant_of-result-clause-in_order
invariant_of-result-clause-in_order c =
    let starts : c.of-4.result ≡ c.args.list.now.starts = search rules in
    in_order_again c.args.list.now c.args.cells.items c.of.result c.of-4.result c.requires.in_order c.of.ensures starts

pub invariant_of-result-clause-outs_there : goal.invariant_of-result-clause-outs_there
invariant_of-result-clause-outs_there c =
    let starts : c.of-4.result ≡ c.args.list.now.starts = search rules in
    let found : map (new_source c.args.news.now) c.args.list.now.outs ≡ map (λ s. Some s) c.in-Some.outs.items = search rules in
    there_again c.args.list.now c.args.cells.items (new_source c.args.news.now) (follows c.args.list.now c.args.cells.items c.args.news.now c.requires)
    c.of.result c.of-4.result c.args.list.now.outs c.in-Some.outs.items c.of-2.result c.of.ensures starts found c.of-2.ensures c.args.list.now.outs_there

pub invariant_of-result-clause-latches_there : goal.invariant_of-result-clause-latches_there
invariant_of-result-clause-latches_there c =
    let starts : c.of-4.result ≡ c.args.list.now.starts = search rules in
    let found : map (new_source c.args.news.now) c.args.list.now.latches ≡ map (λ s. Some s) c.in-Some-2.latches.items = search rules in
    there_again c.args.list.now c.args.cells.items (new_source c.args.news.now) (follows c.args.list.now c.args.cells.items c.args.news.now c.requires)
    c.of.result c.of-4.result c.args.list.now.latches c.in-Some-2.latches.items c.of-3.result c.of.ensures starts found c.of-3.ensures c.args.list.now.latches_there

pub invariant_of-result-clause-nets_there : goal.invariant_of-result-clause-nets_there
invariant_of-result-clause-nets_there c =
    let starts : c.of-4.result ≡ c.args.list.now.starts = search rules in
    let found : map (new_source c.args.news.now) c.args.list.now.nets ≡ map (λ s. Some s) c.in-Some-3.nets.items = search rules in
    there_again c.args.list.now c.args.cells.items (new_source c.args.news.now) (follows c.args.list.now c.args.cells.items c.args.news.now c.requires)
    c.of.result c.of-4.result c.args.list.now.nets c.in-Some-3.nets.items c.of-5.result c.of.ensures starts found c.of-5.ensures c.args.list.now.nets_there

pub invariant_of-result-clause-starts_fit : goal.invariant_of-result-clause-starts_fit
invariant_of-result-clause-starts_fit c =
    let starts : c.of-4.result ≡ c.args.list.now.starts = search rules in
    let found : map (new_source c.args.news.now) c.args.list.now.latches ≡ map (λ s. Some s) c.in-Some-2.latches.items = search rules in
    ap length starts ∙ c.args.list.now.starts_fit ∙ as_many (new_source c.args.news.now) c.args.list.now.latches c.in-Some-2.latches.items found ∙ ap length (sym c.of-3.ensures)

pub returns : goal.returns
returns c =
    let starts : c.of-4.result ≡ c.args.list.now.starts = search rules in
    let outs : map (new_source c.args.news.now) c.args.list.now.outs ≡ map (λ s. Some s) c.in-Some.outs.items = search rules in
    let latches : map (new_source c.args.news.now) c.args.list.now.latches ≡ map (λ s. Some s) c.in-Some-2.latches.items = search rules in
    let nets : map (new_source c.args.news.now) c.args.list.now.nets ≡ map (λ s. Some s) c.in-Some-3.nets.items = search rules in
    is_rebuilt c.args.list.now _ c.args.cells.items c.args.news.now c.in-Some.outs.items c.in-Some-2.latches.items c.in-Some-3.nets.items c.requires
    refl starts c.of.ensures (record { follow = outs; is = c.of-2.ensures }) (record { follow = latches; is = c.of-3.ensures }) (record { follow = nets; is = c.of-5.ensures })
