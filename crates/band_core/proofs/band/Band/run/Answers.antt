use Rattle.std.proofs.Common.{refl}
use Rattle.band_core.proofs.band.Band.run.Goals as goal

pub returns-clause-run : goal.returns-clause-run
returns-clause-run c =
    record { generation = refl; done = refl; injections = refl; field = c.run-n.ensures.gone }
