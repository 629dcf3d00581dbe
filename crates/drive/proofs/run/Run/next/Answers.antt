use Rattle.std.proofs.Common.{◌≡◌, ◌+◌, ◌≤◌, ◌&&◌, refl, subst, true, leb, List, length}
use Rattle.std.proofs.lemmas.Bool.{and_parts, leb-true}
use Rattle.ww_rule.specs.declared.pattern.Injection.{Injection}
use Rattle.drive.specs.declared.run.Run.{Run}
use Rattle.drive.proofs.AllMoved.{are_level, has_room}
use Rattle.drive.proofs.Coming.{HasCome, comes_as_run, its_misses, its_planes}
use Rattle.drive.proofs.run.Run.next.Goals as goal
use Rattle.drive.proofs.run.Run.next.Goals.{After-advance_all-is_unlit}

pub advance_all-is_unlit-requires : goal.advance_all-is_unlit-requires
advance_all-is_unlit-requires c =
    let run = c.args.self.now in
    record {
      level = are_level run.generation 1 run.bands c.requires.run.at;
      room = has_room run.generation 1 run.bands c.requires.run.at c.requires.room;
    }

-- the run that it becomes
abbrev new : After-advance_all-is_unlit → Run
new c =
    record c.args.self.now {
      bands = c.advance_all-is_unlit.new.self;
      next_injection = c.look_ahead-next_injection.result.0;
      missed = c.look_ahead-next_injection.result.1;
      generation = c.args.self.now.generation + 1;
      is_still = leb (length c.injections.result.now) c.look_ahead-next_injection.result.0 && c.advance_all-is_unlit.result;
    }

come : (c : After-advance_all-is_unlit) → HasCome c.args.self.now (new c) 1
come c =
    let next = c.look_ahead-next_injection.result.0 in
    let parts = λ (e : (new c).is_still ≡ true). and_parts (leb (length c.injections.result.now) next) c.advance_all-is_unlit.result e in
    record {
      bands = c.advance_all-is_unlit.ensures.moved;
      generation = refl;
      orientation = refl;
      band_rows = refl;
      width = refl;
      rows = refl;
      next = c.look_ahead-next_injection.ensures.next;
      left = c.look_ahead-next_injection.ensures.left;
      missed = c.look_ahead-next_injection.ensures.missed;
      past = λ e. subst (λ (is : List Injection). length is ≤ next) c.injections.ensures (leb-true (length c.injections.result.now) next (parts e).0);
      unlit = λ e. c.advance_all-is_unlit.ensures.unlit.0 (parts e).1;
    }

pub returns-clause-run : goal.returns-clause-run
returns-clause-run c =
    let k = (goal.at.returns-clause-run c).After-advance_all-is_unlit in
    comes_as_run c.args.self.now (new k) 1 c.requires.run (come k)

pub returns-clause-planes : goal.returns-clause-planes
returns-clause-planes c =
    let k = (goal.at.returns-clause-planes c).After-advance_all-is_unlit in
    its_planes c.args.self.now (new k) 1 c.requires.run (come k)

pub returns-clause-misses : goal.returns-clause-misses
returns-clause-misses c =
    let k = (goal.at.returns-clause-misses c).After-advance_all-is_unlit in
    its_misses c.args.self.now (new k) 1 c.requires.run (come k)
