use Rattle.grid_assembly.proofs.laws.keeps_law.Goals as goal

pub returns : goal.returns
returns g c = g.met.L.Library.law c.args.library.now
