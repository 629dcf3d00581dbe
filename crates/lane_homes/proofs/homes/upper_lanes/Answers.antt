use Rattle.lane_homes.proofs.Parts.{own_apart}
use Rattle.lane_homes.proofs.homes.upper_lanes.Goals as goal

pub returns-clause-long : goal.returns-clause-long
returns-clause-long c = (own_apart c.args.above c.args.inputs c.args.is_dark c.in_ok-lanes-2.lanes.items c.requires.room c.in_ok-lanes-2.ensures).0

pub returns-clause-apart : goal.returns-clause-apart
returns-clause-apart c = (own_apart c.args.above c.args.inputs c.args.is_dark c.in_ok-lanes-2.lanes.items c.requires.room c.in_ok-lanes-2.ensures).1
