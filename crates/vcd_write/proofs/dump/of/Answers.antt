use Rattle.std.proofs.Common.{◌≡◌, ◌≤◌, ◌<◌, ◌*◌, ◌^◌, sym, ap, subst, ◌∙◌, arith, ℕ, Option, length}
use Rattle.std.proofs.lemmas.List.{length-map}
use Rattle.ww_rule.specs.declared.pattern.Injection.{Injection}
use Rattle.ww_rule.specs.Grid.{plane_of}
use Rattle.std.proofs.lemmas.Result.{err_from_is_err_and}
use Rattle.drive.specs.Driving.{HasRunCause, first_miss, greatest_generation}
use Rattle.drive.proofs.LaterMisses.{simulate_cause}
use Rattle.drive.specs.Runs.{planes_of}
use Rattle.vcd_write.proofs.Order.{texts_say_waves}
use Rattle.vcd_write.specs.NetWaves.{last_of_all_nets, net_waves, nets_in_contexts, reference_of}
use Rattle.vcd_write.proofs.Dumped.{fits_of, same_waves}
use Rattle.vcd_write.proofs.Words.{references_words}
use Rattle.vcd_write.proofs.dump.of.Goals as goal

pub bits_of_nets-requires-clause-run : goal.bits_of_nets-requires-clause-run
bits_of_nets-requires-clause-run c = c.in_ok-run.ensures.run

pub bits_of_nets-requires-clause-begun : goal.bits_of_nets-requires-clause-begun
bits_of_nets-requires-clause-begun c = c.in_ok-run.ensures.begun

pub bits_of_nets-requires-clause-fits : goal.bits_of_nets-requires-clause-fits
bits_of_nets-requires-clause-fits c =
    let ports = c.args.ports.now in
    let streams = c.args.streams.now in
    let many = c.len.ensures ∙ ap length c.in_ok-references.ensures.references ∙ length-map (nets_in_contexts ports) (reference_of ports.c) in
    (streams.cycles, fits_of ports streams c.len.result _ c.in-Some.raster c.in-Some.ensures.raster many c.requires.cycles c.last_of_all_nets-generations.ensures (omega (arith, c.if-generations-gt-GREATEST_GENERATION.false)))

pub pass_injections-requires : goal.pass_injections-requires
pass_injections-requires c =
    let gone = c.in_ok-bits.ensures.gone in
    record { run = gone.run; order = omega (arith, gone.order, ap (λ r. r.last) c.in-Some.ensures.raster) }

pub quiet-requires : goal.quiet-requires
quiet-requires c = record { run = c.pass_injections.ensures.run; room = omega (arith, c.pass_injections.ensures.order, c.if-generations-gt-GREATEST_GENERATION.false) }

pub returns-clause-near : goal.returns-clause-near
returns-clause-near c = omega (arith, c.if-generations-gt-GREATEST_GENERATION.false, c.last_of_all_nets-generations.ensures)

pub returns-clause-quiet : goal.returns-clause-quiet
returns-clause-quiet c =
    let ports = c.args.ports.now in
    let streams = c.args.streams.now in
    let plane = plane_of c.args.pattern.rows in
    let last = c.last_of_all_nets-generations.result in
    ap (first_miss ports streams plane) (sym c.last_of_all_nets-generations.ensures)
    ∙ sym (c.pass_injections.ensures.missed
    ∙ ap (λ (m : ℕ → Option Injection). m last) (c.pass_injections.ensures.misses ∙ c.in_ok-bits.ensures.gone.misses ∙ c.in_ok-run.ensures.misses))
    ∙ c.in_ok-quiet.ensures.quiet

pub returns-clause-waves : goal.returns-clause-waves
returns-clause-waves c =
    let ports = c.args.ports.now in
    let streams = c.args.streams.now in
    let plane = plane_of c.args.pattern.rows in
    let raster = c.in-Some.raster in
    let same : raster.variables ≡ c.len.result = ap (λ r. r.variables) c.in-Some.ensures.raster in
    let whole : raster.bits ≡ streams.cycles * c.len.result = ap (λ r. r.bits) c.in-Some.ensures.raster in
    same_waves ports streams plane c.in_ok-references.references c.in_ok-bits.bits raster.variables raster.bits (planes_of c.in_ok-run.run') c.in_ok-references.ensures.references c.in_ok-run.ensures.planes
    (same ∙ c.len.ensures) (whole ∙ ap (λ n. streams.cycles * n) (sym same)) c.in_ok-bits.ensures.bits

pub returns-clause-says : goal.returns-clause-says
returns-clause-says c sound =
    let ports = c.args.ports.now in
    let streams = c.args.streams.now in
    texts_say_waves (net_waves ports streams (plane_of c.args.pattern.rows)) (references_words ports sound c.in_ok-references.ensures.bytes) c.in-Some.ensures.small

pub returns-in_err-quiet-clause-refused : goal.returns-in_err-quiet-clause-refused
returns-in_err-quiet-clause-refused c =
    let ports = c.args.ports.now in
    let streams = c.args.streams.now in
    let plane = plane_of c.args.pattern.rows in
    let last = last_of_all_nets ports streams in
    let generations = c.last_of_all_nets-generations.result in
    let near : last ≤ greatest_generation = omega (arith, c.if-generations-gt-GREATEST_GENERATION.false, c.last_of_all_nets-generations.ensures) in
    let error = c.in_err-quiet.field-0.0 in
    let misses = c.pass_injections.ensures.misses ∙ c.in_ok-bits.ensures.gone.misses ∙ c.in_ok-run.ensures.misses in
    let seen = c.pass_injections.ensures.missed ∙ ap (λ (m : ℕ → Option Injection). m generations) misses ∙ ap (first_miss ports streams plane) c.last_of_all_nets-generations.ensures in
    let p = err_from_is_err_and c.from_residual-in_err-quiet.result c.from_residual-in_err-quiet.ensures.1 in
    rw (p.1, p.2)
    (simulate_cause ports streams plane last error near
    (subst (λ (m : Option Injection). HasRunCause m error) seen c.in_err-quiet.ensures.refused))

pub returns-in_err-bits-clause-refused : goal.returns-in_err-bits-clause-refused
returns-in_err-bits-clause-refused c =
    let ports = c.args.ports.now in
    let streams = c.args.streams.now in
    let plane = plane_of c.args.pattern.rows in
    let last = last_of_all_nets ports streams in
    let near : last ≤ greatest_generation = omega (arith, c.if-generations-gt-GREATEST_GENERATION.false, c.last_of_all_nets-generations.ensures) in
    let error = c.in_err-bits.field-0.0 in
    let same : c.in-Some.raster.last ≡ last = ap (λ r. r.last) c.in-Some.ensures.raster ∙ c.last_of_all_nets-generations.ensures in
    let seen = ap (λ (m : ℕ → Option Injection). m c.in-Some.raster.last) c.in_ok-run.ensures.misses ∙ ap (first_miss ports streams plane) same in
    let p = err_from_is_err_and c.from_residual-in_err-bits.result c.from_residual-in_err-bits.ensures.1 in
    rw (p.1, p.2)
    (simulate_cause ports streams plane last error near
    (subst (λ (m : Option Injection). HasRunCause m error) seen c.in_err-bits.ensures.refused))

pub returns-in_err-references-clause-near : goal.returns-in_err-references-clause-near
returns-in_err-references-clause-near c = rw ((err_from_is_err_and c.from_residual.result c.from_residual.ensures.1).1) tt

pub returns-in_err-references-clause-quiet : goal.returns-in_err-references-clause-quiet
returns-in_err-references-clause-quiet c = rw ((err_from_is_err_and c.from_residual.result c.from_residual.ensures.1).1) tt

pub returns-in_err-references-clause-waves : goal.returns-in_err-references-clause-waves
returns-in_err-references-clause-waves c = rw ((err_from_is_err_and c.from_residual.result c.from_residual.ensures.1).1) tt

pub returns-in_err-references-clause-says : goal.returns-in_err-references-clause-says
returns-in_err-references-clause-says c = rw ((err_from_is_err_and c.from_residual.result c.from_residual.ensures.1).1) tt

pub returns-in_err-run-clause-near : goal.returns-in_err-run-clause-near
returns-in_err-run-clause-near c = rw ((err_from_is_err_and c.from_residual-in_err-run.result c.from_residual-in_err-run.ensures.1).1) tt

pub returns-in_err-run-clause-quiet : goal.returns-in_err-run-clause-quiet
returns-in_err-run-clause-quiet c = rw ((err_from_is_err_and c.from_residual-in_err-run.result c.from_residual-in_err-run.ensures.1).1) tt

pub returns-in_err-run-clause-waves : goal.returns-in_err-run-clause-waves
returns-in_err-run-clause-waves c = rw ((err_from_is_err_and c.from_residual-in_err-run.result c.from_residual-in_err-run.ensures.1).1) tt

pub returns-in_err-run-clause-says : goal.returns-in_err-run-clause-says
returns-in_err-run-clause-says c = rw ((err_from_is_err_and c.from_residual-in_err-run.result c.from_residual-in_err-run.ensures.1).1) tt

pub returns-in_err-bits-clause-near : goal.returns-in_err-bits-clause-near
returns-in_err-bits-clause-near c = rw ((err_from_is_err_and c.from_residual-in_err-bits.result c.from_residual-in_err-bits.ensures.1).1) tt

pub returns-in_err-bits-clause-quiet : goal.returns-in_err-bits-clause-quiet
returns-in_err-bits-clause-quiet c = rw ((err_from_is_err_and c.from_residual-in_err-bits.result c.from_residual-in_err-bits.ensures.1).1) tt

pub returns-in_err-bits-clause-waves : goal.returns-in_err-bits-clause-waves
returns-in_err-bits-clause-waves c = rw ((err_from_is_err_and c.from_residual-in_err-bits.result c.from_residual-in_err-bits.ensures.1).1) tt

pub returns-in_err-bits-clause-says : goal.returns-in_err-bits-clause-says
returns-in_err-bits-clause-says c = rw ((err_from_is_err_and c.from_residual-in_err-bits.result c.from_residual-in_err-bits.ensures.1).1) tt

pub returns-in_err-quiet-clause-near : goal.returns-in_err-quiet-clause-near
returns-in_err-quiet-clause-near c = rw ((err_from_is_err_and c.from_residual-in_err-quiet.result c.from_residual-in_err-quiet.ensures.1).1) tt

pub returns-in_err-quiet-clause-quiet : goal.returns-in_err-quiet-clause-quiet
returns-in_err-quiet-clause-quiet c = rw ((err_from_is_err_and c.from_residual-in_err-quiet.result c.from_residual-in_err-quiet.ensures.1).1) tt

pub returns-in_err-quiet-clause-waves : goal.returns-in_err-quiet-clause-waves
returns-in_err-quiet-clause-waves c = rw ((err_from_is_err_and c.from_residual-in_err-quiet.result c.from_residual-in_err-quiet.ensures.1).1) tt

pub returns-in_err-quiet-clause-says : goal.returns-in_err-quiet-clause-says
returns-in_err-quiet-clause-says c = rw ((err_from_is_err_and c.from_residual-in_err-quiet.result c.from_residual-in_err-quiet.ensures.1).1) tt
