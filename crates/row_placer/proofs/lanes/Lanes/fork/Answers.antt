use Rattle.std.proofs.lemmas.Result.{on_ok_weaker}
use Rattle.lane_core.specs.declared.instr.Instr.TheVariants.{Fork}
use Rattle.row_placer.specs.Steps.{DoesInstr}
use Rattle.row_placer.proofs.Carry.{one_added, tag_copied}
use Rattle.row_placer.proofs.lanes.Lanes.fork.Goals as goal

pub returns-clause-copied : goal.returns-clause-copied
returns-clause-copied c =
    let s = c.args.self.now in
    let t = c.index-both.result.now in
    on_ok_weaker c.step.result
    (λ (e : DoesInstr s c.step.new.self (Fork c.args.lane) t t). tag_copied s c.step.new.self c.args.lane t c.requires c.index-both.ensures e.tags)
    c.step.ensures.does

pub returns-clause-adds : goal.returns-clause-adds
returns-clause-adds c =
    let s = c.args.self.now in
    let t = c.index-both.result.now in
    on_ok_weaker c.step.result
    (λ (e : DoesInstr s c.step.new.self (Fork c.args.lane) t t). one_added s c.step.new.self c.args.lane t t (Fork c.args.lane) e.tags e.instrs)
    c.step.ensures.does
