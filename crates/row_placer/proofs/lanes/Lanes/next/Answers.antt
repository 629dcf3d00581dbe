use Rattle.std.proofs.Common.{◌≡◌, sym, ◌∙◌, ap, ap₂, subst, ◌+◌, ◌-◌, ◌≤◌, length, get_or, cond, arith}
use Rattle.std.proofs.lemmas.Result.{err_from_is_err_and}
use Rattle.std.specs.Prelude.{◌==◌}
use Rattle.std.proofs.lemmas.List.{length-set}
use Rattle.row_placer.specs.declared.job.Job.{Job}
use Rattle.row_placer.specs.Told.{count, tag, free_tag, Exchanged, BothExchanged}
use Rattle.row_placer.specs.declared.roles.Role.TheVariants.{Kept, First, Second}
use Rattle.row_placer.proofs.Gates.{begun, halfway, whole}
use Rattle.row_placer.proofs.Uses.{result_there, first_used, second_used, comes, stays}
use Rattle.row_placer.proofs.lanes.Lanes.next.Goals as goal

pub use_value-requires-clause-usable : goal.use_value-requires-clause-usable
use_value-requires-clause-usable c =
    let s = c.args.self.now in
    let b = begun s.job s.made.items c.len-made.result s.made.len c.get-gate.result.now s.tags.items c.args.left.now c.len-made.ensures (sym s.made.ok.0) c.get-gate.ensures c.requires.within c.requires.ready in
    b.usable

pub use_value-requires-2-clause-usable : goal.use_value-requires-2-clause-usable
use_value-requires-2-clause-usable c =
    let s = c.args.self.now in
    let gate = c.get-gate.result.now in
    let b = begun s.job s.made.items c.len-made.result s.made.len gate s.tags.items c.args.left.now c.len-made.ensures (sym s.made.ok.0) c.get-gate.ensures c.requires.within c.requires.ready in
    let h = halfway s.job (length s.made.items) gate s.tags.items c.use_value.new.self.tags.items c.args.left.now c.use_value.new.left b c.in_ok-use_value.ensures.exchanged c.in_ok-use_value.ensures.left in
    h.usable

pub gate-requires-clause-next : goal.gate-requires-clause-next
gate-requires-clause-next c =
    let s = c.args.self.now in
    let gate = c.get-gate.result.now in
    let b = begun s.job s.made.items c.len-made.result s.made.len gate s.tags.items c.args.left.now c.len-made.ensures (sym s.made.ok.0) c.get-gate.ensures c.requires.within c.requires.ready in
    let jobs = c.in_ok-use_value-2.ensures.kept.job ∙ c.in_ok-use_value.ensures.kept.job in
    let mades = c.in_ok-use_value-2.ensures.kept.made ∙ c.in_ok-use_value.ensures.kept.made in
    record {
      within = omega (arith, c.requires.within, ap length mades, ap (λ (j : Job). length j.gates) jobs);
      known = ap₂ (λ (j : Job) m. get_or j.gates (length m) gate) jobs mades ∙ b.known;
    }

pub gate-requires-clause-first : goal.gate-requires-clause-first
gate-requires-clause-first c =
    let s = c.args.self.now in
    let gate = c.get-gate.result.now in
    let one = c.in_ok-use_value.ensures.exchanged in
    let two = c.in_ok-use_value-2.ensures.exchanged in
    stays gate.first First gate.second Second (get_or c.use_value.new.left gate.second 0) c.use_value.new.self.tags.items c.use_value-2.new.self.tags.items first_used two
    (comes gate.first First (get_or c.args.left.now gate.first 0) s.tags.items c.use_value.new.self.tags.items first_used one)

pub gate-requires-clause-second : goal.gate-requires-clause-second
gate-requires-clause-second c =
    let gate = c.get-gate.result.now in
    comes gate.second Second (get_or c.use_value.new.left gate.second 0) c.use_value.new.self.tags.items c.use_value-2.new.self.tags.items second_used c.in_ok-use_value-2.ensures.exchanged

pub end-requires : goal.end-requires
end-requires c =
    let s = c.args.self.now in
    let gate = c.get-gate.result.now in
    let value : c.use_value-2.new.self.job.base + c.len.result ≡ c.use_value-2.new.self.job.base + length c.use_value-2.new.self.made.items = ap (λ n. c.use_value-2.new.self.job.base + n) (c.len.ensures ∙ c.use_value-2.new.self.made.ok.0) in
    subst (λ n. 1 ≤ count n Kept c.gate.new.self.tags.items) (sym value)
    (result_there (c.use_value-2.new.self.job.base + length c.use_value-2.new.self.made.items) gate.first gate.second c.use_value-2.new.self.tags.items c.gate.new.self.tags.items c.in_ok-gate.ensures.made.exchanged)

pub returns-in_err-use_value : goal.returns-in_err-use_value
returns-in_err-use_value c =
    let p = (err_from_is_err_and c.from_residual.result c.from_residual.ensures.1).1 in
    record { ready = rw p tt; adds = rw p tt; made = rw p tt; job = c.use_value.ensures.kept.job; left = rw p tt }

pub returns-in_err-use_value-2 : goal.returns-in_err-use_value-2
returns-in_err-use_value-2 c =
    let p = (err_from_is_err_and c.from_residual-in_err-use_value-2.result c.from_residual-in_err-use_value-2.ensures.1).1 in
    record { ready = rw p tt; adds = rw p tt; made = rw p tt; job = c.use_value-2.ensures.kept.job ∙ c.in_ok-use_value.ensures.kept.job; left = rw p tt }

pub returns-in_err-gate : goal.returns-in_err-gate
returns-in_err-gate c =
    let p = (err_from_is_err_and c.from_residual-in_err-gate.result c.from_residual-in_err-gate.ensures.1).1 in
    record { ready = rw p tt; adds = rw p tt; made = rw p tt; job = c.gate.ensures.job ∙ c.in_ok-use_value-2.ensures.kept.job ∙ c.in_ok-use_value.ensures.kept.job; left = rw p tt }

pub returns-clause-ready : goal.returns-clause-ready
returns-clause-ready c =
    let s = c.args.self.now in
    let gate = c.get-gate.result.now in
    let b = begun s.job s.made.items c.len-made.result s.made.len gate s.tags.items c.args.left.now c.len-made.ensures (sym s.made.ok.0) c.get-gate.ensures c.requires.within c.requires.ready in
    let h = halfway s.job (length s.made.items) gate s.tags.items c.use_value.new.self.tags.items c.args.left.now c.use_value.new.left b c.in_ok-use_value.ensures.exchanged c.in_ok-use_value.ensures.left in
    let jobs = c.in_ok-use_value-2.ensures.kept.job ∙ c.in_ok-use_value.ensures.kept.job in
    let mades = c.in_ok-use_value-2.ensures.kept.made ∙ c.in_ok-use_value.ensures.kept.made in
    let after = c.use_value-2.new.self in
    let mine : after.job.base + length after.made.items ≡ s.job.base + length s.made.items = ap₂ (λ (j : Job) m. j.base + length m) jobs mades in
    let value : after.job.base + c.len.result ≡ s.job.base + length s.made.items = ap (λ n. after.job.base + n) (c.len.ensures ∙ after.made.ok.0) ∙ mine in
    let end : Exchanged c.gate.new.self.tags.items c.end.new.self.tags.items
    (cond (get_or c.use_value-2.new.left (s.job.base + length s.made.items) 0 == 0) (tag (s.job.base + length s.made.items) Kept) free_tag) free_tag =
    subst (λ v. Exchanged c.gate.new.self.tags.items c.end.new.self.tags.items (cond (get_or c.use_value-2.new.left v 0 == 0) (tag v Kept) free_tag) free_tag) value c.end.ensures.exchanged in
    whole s.job (length s.made.items) gate c.use_value.new.self.tags.items c.use_value-2.new.self.tags.items c.gate.new.self.tags.items c.end.new.self.tags.items
    c.use_value.new.left c.use_value-2.new.left b.second h c.in_ok-use_value-2.ensures.exchanged c.in_ok-use_value-2.ensures.left
    (subst (λ n. BothExchanged c.use_value-2.new.self.tags.items c.gate.new.self.tags.items (tag gate.first First) (tag gate.second Second) (tag n Kept) free_tag) mine c.in_ok-gate.ensures.made.exchanged)
    end
    (omega (arith, c.requires.wide, c.requires.within, ap length c.in_ok-use_value.ensures.left, length-set c.args.left.now gate.first (get_or c.args.left.now gate.first 0 - 1)))

pub returns-clause-adds : goal.returns-clause-adds
returns-clause-adds c =
    let one = c.in_ok-use_value.ensures.adds in
    let two = c.in_ok-use_value-2.ensures.adds in
    let made = c.in_ok-gate.ensures.adds in
    let end = c.end.ensures.adds in
    record {
      long = end.long ∙ made.long ∙ two.long ∙ one.long;
      count = omega (arith, end.count, made.count, two.count, one.count, two.long, one.long);
    }

pub returns-clause-made : goal.returns-clause-made
returns-clause-made c =
    ap length c.end.ensures.kept.made ∙ c.in_ok-gate.ensures.made.made ∙ ap (λ m. length m + 1) (c.in_ok-use_value-2.ensures.kept.made ∙ c.in_ok-use_value.ensures.kept.made)

pub returns-clause-job : goal.returns-clause-job
returns-clause-job c = c.end.ensures.kept.job ∙ c.in_ok-gate.ensures.job ∙ c.in_ok-use_value-2.ensures.kept.job ∙ c.in_ok-use_value.ensures.kept.job

pub returns-clause-left : goal.returns-clause-left
returns-clause-left c =
    let gate = c.get-gate.result.now in
    let first = c.args.left.now in
    let later = c.use_value.new.left in
    ap length c.in_ok-use_value-2.ensures.left ∙ length-set later gate.second (get_or later gate.second 0 - 1)
    ∙ ap length c.in_ok-use_value.ensures.left ∙ length-set first gate.first (get_or first gate.first 0 - 1)
