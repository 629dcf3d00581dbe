use Rattle.std.proofs.Common.{◌≡◌, ◌+◌, ◌≤◌, ◌&&◌, refl, sym, ◌∙◌, subst, true, leb, drop, List, length, arith}
use Rattle.std.proofs.lemmas.Bool.{and_parts, leb-true}
use Rattle.ww_rule.specs.declared.pattern.Injection.{Injection}
use Rattle.ww_rule.specs.Grid.{plane_of}
use Rattle.ww_rule.specs.Injections.{due_of_list}
use Rattle.drive.specs.declared.run.Run.{Run}
use Rattle.drive.proofs.AllMoved.{are_level, has_room}
use Rattle.drive.proofs.Coming.{HasCome, comes_as_run, its_misses, its_planes}
use Rattle.drive.proofs.FirstMisses.{first_calm}
use Rattle.drive.proofs.run.Run.pass.Goals as goal
use Rattle.drive.proofs.run.Run.pass.Goals.{After-advance_all-is_unlit}

pub advance_all-is_unlit-requires : goal.advance_all-is_unlit-requires
advance_all-is_unlit-requires c =
    let run = c.args.self.now in
    record {
      level = are_level run.generation c.args.n run.bands c.requires.run.at;
      room = has_room run.generation c.args.n run.bands c.requires.run.at c.requires.room;
    }

-- the run that it becomes
abbrev new : After-advance_all-is_unlit → Run
new c =
    record c.args.self.now {
      bands = c.advance_all-is_unlit.new.self;
      generation = c.args.self.now.generation + c.args.n;
      is_still = leb (length c.injections.result.now) c.args.self.now.next_injection && c.advance_all-is_unlit.result;
    }

come : (c : After-advance_all-is_unlit) → HasCome c.args.self.now (new c) c.args.n
come c =
    let run = c.args.self.now in
    let is = run.bands.injections in
    let next = run.next_injection in
    let left = c.requires.run.left in
    let parts = λ (e : (new c).is_still ≡ true). and_parts (leb (length c.injections.result.now) next) c.advance_all-is_unlit.result e in
    record {
      bands = c.advance_all-is_unlit.ensures.moved;
      generation = refl;
      orientation = refl;
      band_rows = refl;
      width = refl;
      rows = refl;
      next = c.requires.run.next;
      left = record {
        used = left.used;
        parts = left.parts;
        earlier = λ j d lt. let i = left.earlier j d lt in omega (arith, i);
        in_order = c.requires.calm;
      };
      missed = c.requires.run.missed ∙ sym (first_calm (due_of_list is) (plane_of run.bands.grid.rows) run.generation (run.generation + c.args.n) is (drop next is) (omega arith) left c.requires.calm);
      past = λ e. subst (λ (is : List Injection). length is ≤ next) c.injections.ensures (leb-true (length c.injections.result.now) next (parts e).0);
      unlit = λ e. c.advance_all-is_unlit.ensures.unlit.0 (parts e).1;
    }

pub returns-clause-run : goal.returns-clause-run
returns-clause-run c =
    let k = (goal.at.returns-clause-run c).After-advance_all-is_unlit in
    comes_as_run c.args.self.now (new k) c.args.n c.requires.run (come k)

pub returns-clause-planes : goal.returns-clause-planes
returns-clause-planes c =
    let k = (goal.at.returns-clause-planes c).After-advance_all-is_unlit in
    its_planes c.args.self.now (new k) c.args.n c.requires.run (come k)

pub returns-clause-misses : goal.returns-clause-misses
returns-clause-misses c =
    let k = (goal.at.returns-clause-misses c).After-advance_all-is_unlit in
    its_misses c.args.self.now (new k) c.args.n c.requires.run (come k)
