use Rattle.std.proofs.Common.{◌==◌, List, ℕ, sym, ◌∙◌, ap, subst, length, arith}
use Rattle.std.proofs.lemmas.List.{length-map}
use Rattle.std.proofs.lemmas.Result.{err_from_is_err_and}
use Rattle.netlist_core.specs.declared.flat.FlatLatch.{FlatLatch}
use Rattle.netlist_meaning.specs.FlatOrder.{IsOrder}
use Rattle.cover_mapper.specs.Sourced.{AreMapped}
use Rattle.cover_mapper.proofs.Starting.{none_sourced}
use Rattle.cover_mapper.proofs.mapping.map_from.Goals as goal

pub with_ports-requires-clause-complete : goal.with_ports-requires-clause-complete
with_ports-requires-clause-complete c =
    record {
      start = c.in_ok-list.list;
      inputs = c.in_ok-list.ensures.inputs;
      starts = c.in_ok-list.ensures.starts;
      cells = c.in_ok-list.ensures.cells;
      order = c.args.order.now.nodes;
      ordered = c.requires.ordered;
      mapped = subst (λ (order : List ℕ). AreMapped c.args.flat.now c.in_ok-list.list c.map_nodes.new.list c.map_nodes.new.sources order) c.as_slice.ensures c.in-Ok.ensures;
    }

pub returns-in_err-list : goal.returns-in_err-list
returns-in_err-list c =
    let p = (err_from_is_err_and c.from_residual.result c.from_residual.ensures.1).1 in
    record { mapped = rw p tt; bits = rw p tt; cells = rw p tt; unlisted = rw p tt }

pub returns-in-Err : goal.returns-in-Err
returns-in-Err c = record { mapped = tt; bits = tt; cells = tt; unlisted = tt }

pub returns-in-Ok : goal.returns-in-Ok
returns-in-Ok c =
    let e = c.with_ports.ensures in
    record { mapped = e.mapped; bits = e.bits; cells = e.cells; unlisted = e.unlisted }

pub source_inputs-requires : goal.source_inputs-requires
source_inputs-requires c =
    record {
      sound = c.requires.sound;
      few = omega (arith, c.requires.weighed.parts, c.requires.weighed.few);
      inputs = c.in_ok-list.ensures.inputs;
      none = none_sourced c.args.flat.now c.in_ok-list.list c.args.sources.now c.requires.none;
    }

pub source_latches-requires : goal.source_latches-requires
source_latches-requires c =
    record {
      sound = c.requires.sound;
      few = omega (arith, c.requires.weighed.parts, c.requires.weighed.few);
      starts = ap length c.in_ok-list.ensures.starts ∙ length-map c.args.flat.now.latches (λ (latch : FlatLatch). latch.init == 1);
      inputs = c.source_inputs.ensures;
    }

pub map_nodes-requires : goal.map_nodes-requires
map_nodes-requires c =
    record {
      sound = c.requires.sound;
      ordered = subst (IsOrder c.args.flat.now) (sym c.as_slice.ensures) c.requires.ordered;
      ports = c.source_latches.ensures;
    }
