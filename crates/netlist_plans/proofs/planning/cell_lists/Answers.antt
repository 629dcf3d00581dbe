use Rattle.std.proofs.Common.{List, sym, subst}
use Rattle.std.specs.Prelude.{Option, IfSome}
use Rattle.std.proofs.lemmas.Result.{IfOk-weaker, err_from_is_err_and}
use Rattle.cell_core.specs.declared.cells.Src.{Src}
use Rattle.cell_polarity.specs.declared.building.KeptList.{KeptList}
use Rattle.netlist_plans.specs.Lists.{MapsFlat}
use Rattle.netlist_plans.specs.Sparing.{ComplementsNameNoOne}
use Rattle.netlist_plans.proofs.Sparing.{has_room}
use Rattle.netlist_plans.proofs.planning.cell_lists.Goals as goal

pub map-requires : goal.map-requires
map-requires c = record { sound = c.requires.sound; weighed = c.requires.weighed; ordered = c.requires.ordered }

pub returns-in_err-mapped : goal.returns-in_err-mapped
returns-in_err-mapped c =
    let p = (err_from_is_err_and c.from_residual.result c.from_residual.ensures.1).1 in
    record { some = rw p tt; computes = rw p tt; spares = rw p tt }

pub complements-requires : goal.complements-requires
complements-requires c =
    let e = c.in_ok-mapped.ensures in
    record { sound = c.requires.sound; maps = record { mapped = e.mapped; bits = e.bits } }

pub rewritten_lists-lists-requires : goal.rewritten_lists-lists-requires
rewritten_lists-lists-requires c =
    let e = c.in_ok-mapped.ensures in
    let maps : MapsFlat c.args.flat.now c.in_ok-mapped.mapped.list c.in_ok-mapped.mapped.singles.items = record { mapped = e.mapped; bits = e.bits } in
    record {
      sound = c.requires.sound;
      maps = subst (λ (kept : List Src). MapsFlat c.args.flat.now c.in_ok-mapped.mapped.list kept) (sym c.deref.ensures.value) maps;
    }

pub lists_of_both-lists-requires : goal.lists_of_both-lists-requires
lists_of_both-lists-requires c =
    let e = c.in_ok-mapped.ensures in
    record {
      sound = c.requires.sound;
      maps = record { mapped = e.mapped; bits = e.bits };
      low = subst (λ (o : Option KeptList). IfSome o (λ low. MapsFlat c.args.flat.now low.list low.kept.items)) c.in-Ok-Some.field-0-is c.in-Ok-Some.ensures.maps;
    }

pub returns-in-Err : goal.returns-in-Err
returns-in-Err c = record { some = tt; computes = tt; spares = tt }

pub returns-in-Ok-None : goal.returns-in-Ok-None
returns-in-Ok-None c =
    let e = c.in_ok-mapped.ensures in
    let mapped = c.in_ok-mapped.mapped in
    let r = c.rewritten_lists-lists.ensures in
    record {
      some = r.some;
      computes = r.computes;
      spares = IfOk-weaker c.rewritten_lists-lists.result _ _ (λ lists none s.
          none (subst (ComplementsNameNoOne mapped.list) c.in-Ok-None.field-0-is
          (c.in-Ok-None.ensures.spares (has_room c.args.flat.now mapped.list mapped.singles.items (record { mapped = e.mapped; bits = e.bits }) e.cells e.unlisted s)))) r.spares;
    }

pub returns-in-Ok-Some : goal.returns-in-Ok-Some
returns-in-Ok-Some c =
    let e = c.in_ok-mapped.ensures in
    let mapped = c.in_ok-mapped.mapped in
    let b = c.lists_of_both-lists.ensures in
    record {
      some = b.some;
      computes = b.computes;
      spares = IfOk-weaker c.lists_of_both-lists.result _ _ (λ lists none s.
          none s.latches (subst (ComplementsNameNoOne mapped.list) c.in-Ok-Some.field-0-is
          (c.in-Ok-Some.ensures.spares (has_room c.args.flat.now mapped.list mapped.singles.items (record { mapped = e.mapped; bits = e.bits }) e.cells e.unlisted s)))) b.spares;
    }
