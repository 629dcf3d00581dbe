use Rattle.std.proofs.Common.{◌≡◌, ◌++◌}
use Rattle.drive.specs.Runs.{planes_of}
use Rattle.probe_view.specs.Windows.{window_tags}
use Rattle.probe_view.proofs.viewing.push_tags.Given as goal

abbrev pub invariant-loop-i : goal.invariant-loop-i
invariant-loop-i l = l.text.items ≡ l.fn.text.items ++ window_tags (planes_of l.run l.run.generation) l.row l.x l.i
