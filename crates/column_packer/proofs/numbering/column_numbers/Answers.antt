use Rattle.std.proofs.Common.{rules, ◌≡◌, ◌∙◌, sym, ap, ap₂, subst, ◌+◌, max, length, get_or, take, [], ◌∷◌, ◌++◌, arith}
use Rattle.std.proofs.lemmas.List.{take_more, with_items_is, length-take-le}
use Rattle.lane_core.specs.declared.instr.Instr.TheVariants.{Swap}
use Rattle.lane_core.specs.Instrs.{IsOnLanes, lane_of}
use Rattle.column_packer.specs.Numbers.{column_numbers}
use Rattle.column_packer.proofs.Numbers.{number, numbers_push, used_short}
use Rattle.column_packer.proofs.Table.{IsTable, put_into, table_number, table_push}
use Rattle.column_packer.proofs.numbering.column_numbers.Goals as goal

pub put-requires-clause-few : goal.put-requires-clause-few
put-requires-clause-few c lane low =
    let t = c.loop-instr.invariant.0 in
    let front = take c.loop-instr.instr-index c.args.instrs.now in
    let same : get_or c.deref_mut.result.now lane 0 ≡ get_or c.loop-instr.used.items lane 0 = ap (λ l. get_or l lane 0) c.deref_mut.ensures.value in
    let wide : length c.deref_mut.result.now ≡ c.args.lanes = ap length c.deref_mut.ensures.value ∙ t.0 in
    let is = t.1 lane (omega (arith, low, wide)) in
    let short = used_short front lane in
    let long : length front ≡ c.loop-instr.instr-index = length-take-le c.loop-instr.instr-index c.args.instrs.now (omega arith) in
    omega (arith, same, is, short, long, c.loop-instr-test.true)

pub loop-instr-preserved : goal.loop-instr-preserved
loop-instr-preserved c =
    let t = c.loop-instr.invariant.0 in
    let k = c.loop-instr.instr-index in
    let front = take k c.args.instrs.now in
    let i = get_or c.args.instrs.now k (Swap 0) in
    let more : take (k + 1) c.args.instrs.now ≡ front ++ i ∷ [] = take_more c.args.instrs.now k (Swap 0) c.loop-instr-test.true in
    let on : IsOnLanes c.args.lanes i = c.requires k (Swap 0) c.loop-instr-test.true in
    let value = c.deref_mut.ensures.value in
    let n : c.put.result ≡ number front i = table_number c.args.lanes c.loop-instr.used.items front i c.put.result t on (c.put.ensures.number ∙ ap (λ u. max (get_or u (lane_of i) 0) (get_or u (lane_of i + 1) 0)) value) in
    let table : IsTable c.args.lanes c.put.new.used (front ++ i ∷ []) = subst (λ u. IsTable c.args.lanes u (front ++ i ∷ [])) (ap (λ u. put_into u i c.put.result) (sym value) ∙ sym c.put.ensures.used) (table_push c.args.lanes c.loop-instr.used.items front i c.put.result t on n) in (
      subst (λ u. IsTable c.args.lanes u (take (k + 1) c.args.instrs.now)) (sym (with_items_is c.loop-instr.used c.put.new.used (table.0 ∙ sym t.0 ∙ search rules))) (subst (IsTable c.args.lanes c.put.new.used) (sym more) table),
      c.in_ok-push.ensures.items ∙ ap₂ (λ ns m. ns ++ m ∷ []) c.loop-instr.invariant.1 n ∙ sym (numbers_push front i) ∙ ap column_numbers (sym more),
    )
