use Rattle.std.proofs.lemmas.Result.{err_from_is_err_and}
use Rattle.std.proofs.Common.{◌≡◌, ◌≤◌, ◌<◌, ◌+◌, ◌*◌, ◌-◌, ◌++◌, ◌∷◌, [], inl, inr, sym, ap, ◌∙◌, map, arith, ℕ, List, Bool, subst, Option}
use Rattle.std.specs.List.{range_with_len}
use Rattle.std.proofs.Math.Nat.{mul-le-mul_right}
use Rattle.std.proofs.lemmas.Bool.{cases_lt}
use Rattle.std.proofs.lemmas.List.FromFn.{map-range_with_len_more}
use Rattle.ww_rule.specs.Wireworld.{Plane}
use Rattle.ww_rule.specs.declared.pattern.Injection.{Injection}
use Rattle.drive.specs.Driving.{HasRunCause, last_from}
use Rattle.drive.proofs.LaterMisses.{later_cause}
use Rattle.drive.specs.Runs.{planes_of}
use Rattle.drive.specs.Shown.{row_of_cycle}
use Rattle.drive.proofs.bits.rows_of_cycles.Goals as goal

-- the last context of a cycle comes before the next cycle
before_next : (g p c : ℕ) → (1 < c → 32 * c ≤ p) → g + 32 * (c - 1) ≤ g + p
before_next g p c room =
    elim (cases_lt 1 c) [
      | inl more ↦ let some = room more in omega (arith, some)
      | inr one ↦ omega (arith, one)
    ]

pub loop-cycle-preserved : goal.loop-cycle-preserved
loop-cycle-preserved c =
    let ports = c.args.ports.now in
    let streams = c.args.streams.now in
    let gone = c.loop-cycle.invariant.gone in
    let went = c.in_ok-row_of_cycle.ensures.gone in
    let planes = planes_of c.args.run.now in
    let first = c.args.first in
    let cells = c.args.cells.now in
    let cycle = c.loop-cycle.cycle in
    let order = went.order in
    let next : (cycle + 1) * ports.p ≡ cycle * ports.p + ports.p = omega arith in
    let room = before_next (first + cycle * ports.p) ports.p ports.c c.requires.streams.room in
    let early : cycle ≤ streams.cycles - 1 = let lt = c.loop-cycle-test.true in omega (arith, lt) in
    let within : cycle * ports.p ≤ (streams.cycles - 1) * ports.p = mul-le-mul_right ports.p early in
    let row = λ (cycle : ℕ). row_of_cycle planes ports.c (first + cycle * ports.p) cells in
    record {
      gone = record { run = went.run; order = omega (arith, order, next, room); planes = went.planes ∙ gone.planes; misses = went.misses ∙ gone.misses };
      near = omega (arith, order, within);
      rows =
          c.in_ok-push.ensures.items
          ∙ ap (λ (rows : List (List Bool)). rows ++ c.of.result ∷ []) c.loop-cycle.invariant.rows
          ∙ ap (λ (last : List Bool). map row (range_with_len 0 cycle) ++ last ∷ [])
          (c.of.ensures ∙ c.in_ok-row_of_cycle.ensures.row ∙ ap (λ (e : ℕ → Plane). row_of_cycle e ports.c (first + cycle * ports.p) cells) gone.planes)
          ∙ sym (map-range_with_len_more row 0 cycle cycle (omega arith));
    }

pub returns-in_err-quiet-clause-refused : goal.returns-in_err-quiet-clause-refused
returns-in_err-quiet-clause-refused c =
    let ports = c.args.ports.now in
    let streams = c.args.streams.now in
    let new = c.row_of_cycle.new.run in
    let went = c.in_ok-row_of_cycle.ensures.gone in
    let last = last_from c.args.first ports streams in
    let early : c.loop-cycle.cycle ≤ streams.cycles - 1 = let lt = c.loop-cycle-test.true in omega (arith, lt) in
    let within : c.loop-cycle.cycle * ports.p ≤ (streams.cycles - 1) * ports.p = mul-le-mul_right ports.p early in
    let order = went.order in
    let error = c.in_err-quiet.field-0.0 in
    let cause = later_cause new new.generation last error went.run (omega (arith, order, within)) c.in_err-quiet.ensures.refused in
    let p = err_from_is_err_and c.from_residual-in_err-quiet.result c.from_residual-in_err-quiet.ensures.1 in
    rw (p.1, p.2)
    (subst (λ (m : ℕ → Option Injection). HasRunCause (m last) error) (went.misses ∙ c.loop-cycle.invariant.gone.misses) cause)
