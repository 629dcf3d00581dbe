use Rattle.std.proofs.Common.{append_assoc, ◌≡◌, ◌∙◌, sym, ap, ap₂, ◌++◌, ◌∷◌, [], Some, None, length, arith}
use Rattle.std.proofs.lemmas.List.{length-append}
use Rattle.std.proofs.lemmas.List.FromFn.{map-range_with_len_more}
use Rattle.aiger_text.specs.Names.{name_for, names_for}
use Rattle.aiger_reader.proofs.SymbolTables.{given_here}
use Rattle.aiger_reader.proofs.names.push_names.Goals.{in-Some+in_ok-name-in-Some, in-None+in_ok-name-in-None}
use Rattle.aiger_reader.proofs.names.push_names.Goals as goal

pub loop-place-preserved : goal.loop-place-preserved
loop-place-preserved c = record {
  long = omega (arith, c.loop-place.invariant.long, ap length c.in_ok-push.ensures.items, length-append c.loop-place.names.items (c.match-table-place.name ∷ []));
  names = λ symbols k.
      let name : c.match-table-place.name ≡ name_for symbols c.args.kind c.loop-place.place =
      elim c.match-table-place.branch [
        | in-Some+in_ok-name-in-Some w ↦ w.name-is ∙ w.in_ok-name-in-Some.ensures ∙ given_here c.args.kind c.args.table.now symbols c.loop-place.place (Some w.in-Some.name) k w.in-Some.is
        | in-None+in_ok-name-in-None w ↦ w.name-is ∙ w.in_ok-name-in-None.ensures ∙ given_here c.args.kind c.args.table.now symbols c.loop-place.place None k w.in-None.is
      ] in
      c.in_ok-push.ensures.items
      ∙ ap₂ (λ ns n. ns ++ n ∷ []) (c.loop-place.invariant.names symbols k) name
      ∙ append_assoc c.args.names.now.items (names_for symbols c.args.kind c.loop-place.place) (name_for symbols c.args.kind c.loop-place.place ∷ [])
      ∙ ap (λ ns. c.args.names.now.items ++ ns) (sym (map-range_with_len_more (name_for symbols c.args.kind) 0 c.loop-place.place c.loop-place.place (omega arith)));
}
