use Rattle.std.proofs.Common.{◌≡◌}
use Rattle.drive.specs.Runs.{planes_of}
use Rattle.probe_view.specs.Windows.{window_text}
use Rattle.probe_view.proofs.viewing.lines_of.Given as goal

abbrev pub invariant-loop-i : goal.invariant-loop-i
invariant-loop-i l = l.text.items ≡ window_text (planes_of l.run l.run.generation) l.x l.y l.width l.i
