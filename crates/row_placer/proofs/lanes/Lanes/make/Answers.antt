use Rattle.std.proofs.Common.{◌≡◌, sym, ◌∙◌, ap, ap₂, subst, ◌+◌, ◌-◌, ◌++◌, ◌∷◌, [], length, get_or, set, arith}
use Rattle.std.specs.Prelude.{slice_get, Some}
use Rattle.std.proofs.lemmas.Result.{on_ok_weaker}
use Rattle.std.proofs.lemmas.List.{length_push, get_or_default}
use Rattle.lists.proofs.Appends.{slice_get_push}
use Rattle.lane_core.specs.Instrs.{lane_of}
use Rattle.row_placer.specs.declared.job.Job.{Job}
use Rattle.row_placer.specs.declared.job.NumberedCell.{NumberedCell}
use Rattle.row_placer.specs.Told.{BothExchanged, tag, free_tag, gate_instr}
use Rattle.row_placer.specs.declared.roles.Role.TheVariants.{Kept, First, Second}
use Rattle.row_placer.proofs.Carry.{one_added}
use Rattle.row_placer.proofs.Steps.{gate_exchanged}
use Rattle.row_placer.proofs.lanes.Lanes.make.Goals as goal

pub returns-clause-made : goal.returns-clause-made
returns-clause-made c =
    let s = c.args.self.now in
    let made = tag (s.job.base + length s.made.items) Kept in
    let t = tag c.args.gate.first First in
    let u = tag c.args.gate.second Second in
    let all : c.len.result ≡ length s.made.items = omega (arith, c.len.ensures, s.made.ok) in
    on_ok_weaker c.note.result
    (λ (more : length c.note.new.self.made.items ≡ length c.step.new.self.made.items + 1). record {
      exchanged = subst (λ tags. BothExchanged s.tags.items tags t u made free_tag) (sym (c.note.ensures.tags ∙ c.in_ok-step.ensures.does.tags ∙ ap₂ (λ l n. set (set s.tags.items l (tag (s.job.base + n) Kept)) (l + 1) free_tag) c.instr_of-instr.ensures.lane all))
          (gate_exchanged s.tags.items c.args.lane t u made c.args.turned c.requires.lane c.requires.upper c.requires.lower);
      made = more ∙ ap (λ m. length m + 1) c.in_ok-step.ensures.kept.made;
    })
    c.note.ensures.made

pub note-requires-clause-last : goal.note-requires-clause-last
note-requires-clause-last c gate =
    let s = c.args.self.now in
    let instr = c.instr_of-instr.result in
    let items : c.step.new.self.instrs.items ≡ s.instrs.items ++ instr ∷ [] = c.in_ok-step.ensures.does.instrs in
    let last : length c.step.new.self.instrs.items - 1 ≡ length s.instrs.items = (let n = length_push s.instrs.items instr in omega (arith, n, ap length items)) in
    let kind : (get_or s.job.gates (length s.made.items) gate).kind ≡ c.args.gate.kind =
    ap (λ (q : NumberedCell). q.kind) (get_or_default s.job.gates (length s.made.items) gate c.args.gate c.requires.next.within ∙ c.requires.next.known) in
    ap₂ (λ is n. slice_get is n) items last ∙ slice_get_push s.instrs.items instr ∙ ap Some c.instr_of-instr.ensures.value ∙ ap (λ k. Some (gate_instr k c.args.lane)) (sym kind)
    ∙ ap₂ (λ (j : Job) m. Some (gate_instr (get_or j.gates (length m) gate).kind c.args.lane)) (sym c.in_ok-step.ensures.kept.job) (sym c.in_ok-step.ensures.kept.made)

pub step-requires-clause-within : goal.step-requires-clause-within
step-requires-clause-within c = omega (arith, c.instr_of-instr.ensures.lane, c.requires.lane)

pub returns-clause-adds : goal.returns-clause-adds
returns-clause-adds c =
    let s = c.args.self.now in
    let instr = c.instr_of-instr.result in
    let made = tag (s.job.base + c.len.result) Kept in
    let one = one_added s c.step.new.self (lane_of instr) made free_tag instr c.in_ok-step.ensures.does.tags c.in_ok-step.ensures.does.instrs in
    on_ok_weaker c.note.result
    (λ (_ : length c.note.new.self.made.items ≡ length c.step.new.self.made.items + 1).
    record { long = ap length c.note.ensures.tags ∙ one.long; count = ap length c.note.ensures.instrs ∙ one.count })
    c.note.ensures.made

pub returns-clause-job : goal.returns-clause-job
returns-clause-job c = c.note.ensures.job ∙ c.in_ok-step.ensures.kept.job

pub note-requires-clause-lane : goal.note-requires-clause-lane
note-requires-clause-lane c =
    let s = c.args.self.now in
    let instr = c.instr_of-instr.result in
    let made = tag (s.job.base + c.len.result) Kept in
    let one = one_added s c.step.new.self (lane_of instr) made free_tag instr c.in_ok-step.ensures.does.tags c.in_ok-step.ensures.does.instrs in
    omega (arith, one.long, c.requires.lane)

pub note-requires-clause-some : goal.note-requires-clause-some
note-requires-clause-some c =
    let n = length_push c.args.self.now.instrs.items c.instr_of-instr.result in
    omega (arith, ap length c.in_ok-step.ensures.does.instrs, n)
