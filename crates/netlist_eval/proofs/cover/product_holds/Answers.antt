use Rattle.std.proofs.Common.{sym, ap, ◌∙◌, length, take}
use Rattle.std.specs.Prelude.{zip}
use Rattle.std.specs.List.{list_all}
use Rattle.std.proofs.lemmas.List.{length_push}
use Rattle.std.proofs.lemmas.Slice.Zip.{zip_turn, zip_end}
use Rattle.netlist_meaning.specs.CoverValue.{fits}
use Rattle.netlist_meaning.specs.Flat.{class_of}
use Rattle.netlist_eval.specs.Eval.{class_bit}
use Rattle.netlist_eval.proofs.Rows.{row_no, row_more, row_yes}
use Rattle.netlist_eval.proofs.cover.product_holds.Goals as goal

pub returns-then-not-fits : goal.returns-then-not-fits
returns-then-not-fits c =
    let row = c.args.row.now in
    let ins = c.args.ins.now in
    let turn = zip_turn row ins c.loop-character.yielded c.into_iter-character-iterator.result c.loop-character.character-iterator c.next.new.self c.next.result (cc) (cc) c.loop-character.yielded_by (c.in-Some.character, c.in-Some.net) c.in-Some.is c.next.ensures.steps in
    row_no (λ net. class_bit c.args.bits.now (class_of c.args.flat.now net)) row ins (length c.loop-character.yielded) c.in-Some.character.now c.in-Some.net.now turn.0 turn.1 turn.2 turn.3 (sym (c.if-not-fits.ensures ∙ ap (fits c.in-Some.character.now) c.net_bit.ensures))

pub loop-character-preserved : goal.loop-character-preserved
loop-character-preserved c =
    let row = c.args.row.now in
    let ins = c.args.ins.now in
    let turn = zip_turn row ins c.loop-character.yielded c.into_iter-character-iterator.result c.loop-character.character-iterator c.next.new.self c.next.result (cc) (cc) c.loop-character.yielded_by (c.in-Some.character, c.in-Some.net) c.in-Some.is c.next.ensures.steps in
    ap (λ n. list_all (λ at. fits at.0 (class_bit c.args.bits.now (class_of c.args.flat.now at.1))) (take n (zip row ins))) (length_push c.loop-character.yielded (c.in-Some.character, c.in-Some.net))
    ∙ row_more (λ net. class_bit c.args.bits.now (class_of c.args.flat.now net)) row ins (length c.loop-character.yielded) c.in-Some.character.now c.in-Some.net.now turn.0 turn.1 turn.2 turn.3 (sym (c.if-not-fits.ensures ∙ ap (fits c.in-Some.character.now) c.net_bit.ensures)) c.loop-character.invariant

pub returns : goal.returns
returns c =
    let row = c.args.row.now in
    let ins = c.args.ins.now in
    let end = zip_end row ins c.loop-character.yielded c.into_iter-character-iterator.result c.loop-character.character-iterator c.next.new.self c.next.result (cc) (cc) c.loop-character.yielded_by c.in-None.is c.next.ensures.steps in
    row_yes (λ net. class_bit c.args.bits.now (class_of c.args.flat.now net)) row ins (length c.loop-character.yielded) end c.loop-character.invariant
