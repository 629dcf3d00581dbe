use Rattle.flat_designs.proofs.Sound.{flat_is_sound}
use Rattle.flat_designs.proofs.Weights.{flat_is_weighed}
use Rattle.netlist_text.proofs.SoundParts.{sound, weighed}
use Rattle.netlist_tests.proofs.stages.expect_cells.Goals as goal

pub map-requires-clause-sound : goal.map-requires-clause-sound
map-requires-clause-sound c = sound c.args.netlist.now.design c.args.netlist.now.flat _ c.requires.parts flat_is_sound

pub map-requires-clause-weighed : goal.map-requires-clause-weighed
map-requires-clause-weighed c = weighed c.args.netlist.now.design c.args.netlist.now.flat _ c.requires.parts flat_is_weighed

pub map-requires-clause-ordered : goal.map-requires-clause-ordered
map-requires-clause-ordered c = c.requires.parts.is_order
