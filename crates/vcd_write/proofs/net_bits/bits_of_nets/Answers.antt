use Rattle.std.proofs.Common.{◌+◌, ◌*◌, sym, ◌∙◌, subst, arith}
use Rattle.std.proofs.lemmas.Result.{err_from_is_err_and}
use Rattle.drive.specs.Runs.{planes_of}
use Rattle.vcd_write.specs.DueBits.{AreDueFrom}
use Rattle.vcd_write.proofs.FirstBits.{all_within, are_first, if_ok, room_of, shown, shown_at}
use Rattle.vcd_write.proofs.net_bits.bits_of_nets.Goals as goal

pub sorted_first_bits-requires : goal.sorted_first_bits-requires
sorted_first_bits-requires c = record { room = room_of c.args.ports.now c.requires.fits.0 c.args.raster.now c.requires.fits.1 }

pub read_bits-requires : goal.read_bits-requires
read_bits-requires c = record {
  run = c.requires.run;
  near = omega (arith, c.requires.begun);
  order = subst (λ g. AreDueFrom g c.in_ok-first.first.items) (sym c.requires.begun) c.in_ok-first.ensures.order;
  within = all_within c.args.ports.now c.requires.fits.0 c.args.raster.now c.requires.fits.1 c.in_ok-first.first.items c.in_ok-first.ensures.same;
}

pub returns-clause-bits : goal.returns-clause-bits
returns-clause-bits c =
    let ports = c.args.ports.now in
    let cycles = c.requires.fits.0 in
    let raster = c.args.raster.now in
    let fits = c.requires.fits.1 in
    let planes = planes_of c.args.run.now in
    if_ok c.read_bits.result
    (λ bits right n cycle variable e within.
    right (shown ports cycles raster fits planes) (are_first ports cycles raster fits planes c.in_ok-first.first.items c.in_ok-first.ensures.same) (cycle * raster.variables + n) within
    ∙ shown_at ports cycles raster fits planes n cycle variable e)
    c.read_bits.ensures.bits

pub returns-in_err-first-clause-gone : goal.returns-in_err-first-clause-gone
returns-in_err-first-clause-gone c = rw ((err_from_is_err_and c.from_residual.result c.from_residual.ensures.1).1) tt

pub returns-in_err-first-clause-long : goal.returns-in_err-first-clause-long
returns-in_err-first-clause-long c = rw ((err_from_is_err_and c.from_residual.result c.from_residual.ensures.1).1) tt

pub returns-in_err-first-clause-bits : goal.returns-in_err-first-clause-bits
returns-in_err-first-clause-bits c = rw ((err_from_is_err_and c.from_residual.result c.from_residual.ensures.1).1) tt
