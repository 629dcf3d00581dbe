use Rattle.std.proofs.lemmas.Result.{on_ok_weaker}
use Rattle.lane_core.specs.declared.instr.Instr.TheVariants.{Swap}
use Rattle.row_placer.specs.Steps.{DoesInstr}
use Rattle.row_placer.proofs.Carry.{one_added, tags_swapped}
use Rattle.row_placer.proofs.lanes.Lanes.swap.Goals as goal

pub returns-clause-moved : goal.returns-clause-moved
returns-clause-moved c =
    let s = c.args.self.now in
    let new = c.step.new.self in
    let u = c.index-upper.result.now in
    let l = c.index-lower.result.now in
    on_ok_weaker c.step.result
    (λ (e : DoesInstr s new (Swap c.args.lane) u l).
    (let moved = tags_swapped s.tags.items new.tags.items c.args.lane u l c.requires c.index-upper.ensures c.index-lower.ensures e.tags in
    let adds = one_added s new c.args.lane u l (Swap c.args.lane) e.tags e.instrs in
    record { lanes = moved.0; same = moved.1; long = adds.long; count = adds.count }))
    c.step.ensures.does
