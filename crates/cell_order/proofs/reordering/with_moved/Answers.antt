use Rattle.std.proofs.Common.{rules, ◌≡◌, refl, sym, ◌∙◌, ap, map, Some, length}
use Rattle.cell_order.specs.Renamed.{renamed}
use Rattle.cell_core.proofs.Following.{as_many, in_order_again, there_again}
use Rattle.cell_order.proofs.Moves.{compute_alike, follows}
use Rattle.cell_order.proofs.reordering.with_moved.Goals as goal

pub invariant_of-new-clause-in_order : goal.invariant_of-new-clause-in_order
invariant_of-new-clause-in_order c =
    let starts : c.of-4.result ≡ c.args.list.now.starts = search rules in
    in_order_again c.args.list.now c.args.moved.cells.items c.of.result c.of-4.result c.requires.in_order c.of.ensures starts

pub invariant_of-new-clause-outs_there : goal.invariant_of-new-clause-outs_there
invariant_of-new-clause-outs_there c =
    let starts : c.of-4.result ≡ c.args.list.now.starts = search rules in
    let found : map (renamed c.args.moved.numbers.items) c.args.list.now.outs ≡ map (λ s. Some s) c.in-Some.ends.outs.items = search rules in
    there_again c.args.list.now c.args.moved.cells.items (renamed c.args.moved.numbers.items) (follows c.args.list.now c.args.moved.cells.items c.args.moved.numbers.items c.requires)
    c.of.result c.of-4.result c.args.list.now.outs c.in-Some.ends.outs.items c.of-2.result c.of.ensures starts found c.of-2.ensures c.args.list.now.outs_there

pub invariant_of-new-clause-latches_there : goal.invariant_of-new-clause-latches_there
invariant_of-new-clause-latches_there c =
    let starts : c.of-4.result ≡ c.args.list.now.starts = search rules in
    let found : map (renamed c.args.moved.numbers.items) c.args.list.now.latches ≡ map (λ s. Some s) c.in-Some.ends.latches.items = search rules in
    there_again c.args.list.now c.args.moved.cells.items (renamed c.args.moved.numbers.items) (follows c.args.list.now c.args.moved.cells.items c.args.moved.numbers.items c.requires)
    c.of.result c.of-4.result c.args.list.now.latches c.in-Some.ends.latches.items c.of-3.result c.of.ensures starts found c.of-3.ensures c.args.list.now.latches_there

pub invariant_of-new-clause-nets_there : goal.invariant_of-new-clause-nets_there
invariant_of-new-clause-nets_there c =
    let starts : c.of-4.result ≡ c.args.list.now.starts = search rules in
    let found : map (renamed c.args.moved.numbers.items) c.args.list.now.nets ≡ map (λ s. Some s) c.in-Some.ends.nets.items = search rules in
    there_again c.args.list.now c.args.moved.cells.items (renamed c.args.moved.numbers.items) (follows c.args.list.now c.args.moved.cells.items c.args.moved.numbers.items c.requires)
    c.of.result c.of-4.result c.args.list.now.nets c.in-Some.ends.nets.items c.of-5.result c.of.ensures starts found c.of-5.ensures c.args.list.now.nets_there

pub invariant_of-new-clause-starts_fit : goal.invariant_of-new-clause-starts_fit
invariant_of-new-clause-starts_fit c =
    let starts : c.of-4.result ≡ c.args.list.now.starts = search rules in
    let found : map (renamed c.args.moved.numbers.items) c.args.list.now.latches ≡ map (λ s. Some s) c.in-Some.ends.latches.items = search rules in
    ap length starts ∙ c.args.list.now.starts_fit ∙ as_many (renamed c.args.moved.numbers.items) c.args.list.now.latches c.in-Some.ends.latches.items found ∙ ap length (sym c.of-3.ensures)

-- src/reordering.rt:14:1
pub returns : goal.returns
returns c =
    let starts : c.of-4.result ≡ c.args.list.now.starts = search rules in
    let outs : map (renamed c.args.moved.numbers.items) c.args.list.now.outs ≡ map (λ s. Some s) c.in-Some.ends.outs.items = search rules in
    let latches : map (renamed c.args.moved.numbers.items) c.args.list.now.latches ≡ map (λ s. Some s) c.in-Some.ends.latches.items = search rules in
    let nets : map (renamed c.args.moved.numbers.items) c.args.list.now.nets ≡ map (λ s. Some s) c.in-Some.ends.nets.items = search rules in
    let many : length c.of.result ≡ length c.args.list.now.cells = search rules in
    compute_alike c.args.list.now _ c.args.moved.cells.items c.args.moved.numbers.items c.in-Some.ends.outs.items c.in-Some.ends.latches.items c.in-Some.ends.nets.items c.requires
    refl starts c.of.ensures many (search rules) (record { follow = outs; is = c.of-2.ensures }) (record { follow = latches; is = c.of-3.ensures }) (record { follow = nets; is = c.of-5.ensures })
