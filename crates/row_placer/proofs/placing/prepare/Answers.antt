use Rattle.std.proofs.Common.{◌≡◌, ◌≢◌, refl, sym, ◌∙◌, ap, ap₂, subst, ℕ, ◌+◌, ◌<◌, ◌≤◌, ◌++◌, cond, length, get_or, arith}
use Rattle.std.specs.Prelude.{All, AllPairs}
use Rattle.std.proofs.lemmas.Result.{err_from_is_err_and}
use Rattle.lists.proofs.Numbers.{at_most_one}
use Rattle.row_placer.specs.Uses.{uses_of, owed, idle, AreCounted, ReadsBelow, AreKnown}
use Rattle.row_placer.specs.Ready.{Ready}
use Rattle.cell_core.specs.Loops.{loop_count}
use Rattle.row_placer.specs.Placed.{IsStart, AreAtHome}
use Rattle.row_placer.proofs.Prepared.{JobFacts, job_facts, owed_small, start_ready, nothing_used}
use Rattle.row_placer.proofs.Sides.{homes_within, homes_of_list}
use Rattle.lane_homes.specs.Homes.{AreHomesAbove}
use Rattle.row_placer.proofs.placing.prepare.Goals as goal
use Rattle.row_placer.proofs.placing.prepare.Goals.{After-deref-2, After-count_idle-idle, After-first_home-least}

-- the gates and ports by the list's counts, how many lanes must be free, and how many are above
facts : (c : After-deref-2) → JobFacts c.args.list.now c.args.loops c.in_ok-gates.gates.items c.in_ok-ports.ports.items
facts c =
    job_facts c.args.list.now c.args.loops c.in_ok-gates.gates.items c.in_ok-ports.ports.items c.requires.loops c.requires.sound
    c.in_ok-gates.ensures c.in_ok-ports.ensures

few_owed : (c : After-count_idle-idle) → c.in_ok-left.owed + c.one_if-dark.result ≤ 1048577
few_owed c =
    let low = owed_small c.args.list.now c.args.loops c.in_ok-gates.gates.items c.deref.result.now c.in_ok-ports.ports.items c.deref-2.result.now c.in_ok-left.owed
    (facts (goal.at.first_home-least-requires c).After-deref-2) c.deref.ensures.value c.deref-2.ensures.value c.in_ok-left.ensures.few c.requires.small in
    let small = at_most_one c.wants_zero-zero.result in
    omega (arith, c.one_if-dark.ensures, small, low)

few_above : (c : After-first_home-least) → c.first_home-least.result + c.args.spare ≤ 2097152
few_above c =
    let few = few_owed (goal.at.overflow_add-above c).After-count_idle-idle in
    omega (arith, c.first_home-least.ensures.most, few, c.requires.spare)

pub gates_of-requires : goal.gates_of-requires
gates_of-requires c = record { loops = c.requires.loops; sound = c.requires.sound; small = omega (arith, c.requires.small) }

pub ports_of-requires : goal.ports_of-requires
ports_of-requires c = record { loops = c.requires.loops; sound = c.requires.sound; small = omega (arith, c.requires.small) }

pub count_uses-requires : goal.count_uses-requires
count_uses-requires c =
    let base = c.args.list.now.inputs + c.args.loops + 1 in
    let known = facts c in
    let gates_are = c.deref.ensures.value in
    let ports_are = c.deref-2.ensures.value in
    record {
      fits = omega (arith, ap length gates_are, known.cells, c.requires.loops, c.requires.small);
      gates = subst (λ gs. All (ReadsBelow (base + length gs)) gs) (sym gates_are) known.gates_low;
      ports = subst (λ gs. All (λ v. v < base + length gs) c.deref-2.result.now) (sym gates_are)
          (subst (All (λ v. v < base + length c.in_ok-gates.gates.items)) (sym ports_are) known.ports_low);
      few = omega (arith, ap length gates_are, ap length ports_are, known.cells, known.many, c.requires.small);
    }

pub wants_zero-zero-requires : goal.wants_zero-zero-requires
wants_zero-zero-requires c = omega (arith, c.in_ok-left.ensures.long)

pub count_idle-idle-requires : goal.count_idle-idle-requires
count_idle-idle-requires c =
    let small = at_most_one c.wants_zero-zero.result in
    omega (arith, c.in_ok-left.ensures.long, c.one_if-dark.ensures, small)

pub first_home-least-requires : goal.first_home-least-requires
first_home-least-requires c = let few = few_owed c in omega (arith, few)

pub overflow_add-above : goal.overflow_add-above
overflow_add-above c = let few = few_above c in omega (arith, few)

pub overflow_add-above-2 : goal.overflow_add-above-2
overflow_add-above-2 c = let few = few_above c in omega (arith, few, c.requires.small)

pub homes_for-requires : goal.homes_for-requires
homes_for-requires c =
    let few = few_above (goal.at.homes_for-requires c).After-first_home-least in
    record {
      room = omega (arith, c.first_home-least.ensures.dark, c.one_if-dark.ensures);
      few = omega (arith, few, c.requires.small, c.requires.loops);
    }

pub overflow_add-above-3 : goal.overflow_add-above-3
overflow_add-above-3 c =
    let few = few_above (goal.at.overflow_add-above-3 c).After-first_home-least in
    omega (arith, few, c.requires.small, c.requires.loops)

pub returns-in_err-gates : goal.returns-in_err-gates
returns-in_err-gates c =
    let p = (err_from_is_err_and c.from_residual.result c.from_residual.ensures.1).1 in
    record { prepared = rw p tt; few = rw p tt }

pub returns-in_err-ports : goal.returns-in_err-ports
returns-in_err-ports c =
    let p = (err_from_is_err_and c.from_residual-in_err-ports.result c.from_residual-in_err-ports.ensures.1).1 in
    record { prepared = rw p tt; few = rw p tt }

pub returns-in_err-left : goal.returns-in_err-left
returns-in_err-left c =
    let p = (err_from_is_err_and c.from_residual-in_err-left.result c.from_residual-in_err-left.ensures.1).1 in
    record { prepared = rw p tt; few = rw p tt }

pub returns-in_err-homes : goal.returns-in_err-homes
returns-in_err-homes c =
    let p = (err_from_is_err_and c.from_residual-in_err-homes.result c.from_residual-in_err-homes.ensures.1).1 in
    record { prepared = rw p tt; few = rw p tt }

pub returns-in_err-start : goal.returns-in_err-start
returns-in_err-start c =
    let p = (err_from_is_err_and c.from_residual-in_err-start.result c.from_residual-in_err-start.ensures.1).1 in
    record { prepared = rw p tt; few = rw p tt }

pub start_tags-requires : goal.start_tags-requires
start_tags-requires c =
    let list = c.args.list.now in
    let base = list.inputs + c.args.loops + 1 in
    let above = c.first_home-least.result + c.args.spare + list.inputs in
    let dark = c.wants_zero-zero.result in
    let small = at_most_one dark in
    let homes : AreHomesAbove above list.inputs c.args.loops dark c.in_ok-homes.homes.items = c.in_ok-homes.ensures in
    let same = c.deref-3.ensures.value in
    record {
      within = subst (All (λ lane. lane < above + c.args.loops)) (sym same)
          (homes_within above list.inputs c.args.loops (above + c.args.loops) dark c.in_ok-homes.homes.items homes refl);
      apart = subst (AllPairs (λ a b. a ≢ b)) (sym same) homes.apart;
      left = (let wide = c.in_ok-left.ensures.long ∙ ap (λ gs. base + length gs) c.deref.ensures.value in
          omega (arith, ap length same, ap length c.deref-4.ensures.value, homes.long, small, wide));
      few = omega (arith, ap length same, homes.long, small, c.requires.loops, c.requires.small);
    }

pub invariant_of-job : goal.invariant_of-job
invariant_of-job c =
    let list = c.args.list.now in
    let known = facts (goal.at.invariant_of-job c).After-deref-2 in
    record {
      known = subst (AreKnown (list.inputs + c.args.loops + 1)) (sym c.of.ensures) known.known;
      few_ports = omega (arith, ap length c.of-2.ensures, known.many, c.requires.small);
      few = omega (arith, ap length c.of.ensures, known.cells, known.base, c.requires.small);
    }

pub returns : goal.returns
returns c =
    let list = c.args.list.now in
    let g = c.in_ok-gates.gates.items in
    let ports = c.in_ok-ports.ports.items in
    let inner = list.inputs + c.args.loops in
    let base = inner + 1 in
    let known = facts (goal.at.returns c).After-deref-2 in
    let left = c.in_ok-left.left.items in
    let wide : length left ≡ base + length g = c.in_ok-left.ensures.long ∙ ap (λ gs. base + length gs) c.deref.ensures.value in
    let dark = c.wants_zero-zero.result in
    let small = at_most_one dark in
    let first = c.first_home-least.result + c.args.spare in
    let homes = c.in_ok-homes.homes.items in
    let above = first + list.inputs in
    let s : AreHomesAbove above list.inputs c.args.loops dark homes = c.in_ok-homes.ensures in
    let low = homes_within above list.inputs c.args.loops (above + c.args.loops) dark homes s refl in
    let start = c.in_ok-start.start.items in
    let is : IsStart homes left (above + c.args.loops) start = subst (λ hs. IsStart hs left (above + c.args.loops) start) c.deref-3.ensures.value (subst (λ l. IsStart c.deref-3.result.now l (above + c.args.loops) start) c.deref-4.ensures.value c.in_ok-start.ensures) in
    let counted : AreCounted left (uses_of g ++ ports) = subst (AreCounted left) (ap₂ (λ gs ps. uses_of gs ++ ps) c.deref.ensures.value c.deref-2.ensures.value) c.in_ok-left.ensures.left in
    let owes : c.in_ok-left.owed ≡ owed ports base g = c.in_ok-left.ensures.owed ∙ ap₂ (λ gs ps. owed ps base gs) c.deref.ensures.value c.deref-2.ensures.value in
    let few : c.in_ok-left.owed ≤ length g + length ports + 1 = omega (arith, c.in_ok-left.ensures.few, ap length c.deref.ensures.value, ap length c.deref-2.ensures.value) in
    let idles : c.count_idle-idle.result ≡ idle left (length homes) = c.count_idle-idle.ensures ∙ ap (idle left) (ap (λ n. inner + n) c.one_if-dark.ensures ∙ sym s.long) in
    let ready = start_ready g ports homes left inner (above + c.args.loops) first base dark start is low counted refl wide s.long c.wants_zero-zero.ensures.used (omega arith)
    (omega (arith, owes, idles, c.first_home-least.ensures.enough, c.one_if-dark.ensures)) in
    let long : length c.of-3.result ≡ above + c.args.loops = ap length c.of-3.ensures ∙ is.long in
    record {
      prepared = record {
        job_of = record { base = known.base; gates = c.of.ensures ∙ c.in_ok-gates.ensures; ports = c.of-2.ensures ∙ c.in_ok-ports.ensures };
        ready = subst (λ st. Ready (uses_of c.of.result ++ c.of-2.result) (base + 0) (owed c.of-2.result (base + 0) c.of.result) st left) (sym c.of-3.ensures)
            (subst (λ ps. Ready (uses_of c.of.result ++ ps) (base + 0) (owed ps (base + 0) c.of.result) start left) (sym c.of-2.ensures)
            (subst (λ gs. Ready (uses_of gs ++ ports) (base + 0) (owed ports (base + 0) gs) start left) (sym c.of.ensures) ready));
        counted = wide ∙ ap (λ n. base + n) (sym (ap length c.of.ensures));
        home = subst (AreAtHome homes) (sym c.of-3.ensures) is.home;
        homes_of = homes_of_list list above (length c.of-3.result) dark homes (subst (λ n. AreHomesAbove above list.inputs n dark homes) c.requires.loops s) (long ∙ ap (λ n. above + n) c.requires.loops);
        zero = λ k d below e. (let one : cond {A = ℕ} dark 1 0 ≡ 1 = ap (λ b. cond {A = ℕ} b 1 0) (c.wants_zero-zero.ensures.nets k d below e) in omega (arith, one, s.long, c.requires.loops));
        ports = subst (λ gs. All (λ v. v < base + length gs) c.of-2.result) (sym c.of.ensures) (subst (All (λ v. v < base + length g)) (sym c.of-2.ensures) known.ports_low);
        room = omega (arith, long, c.requires.loops);
        below = subst (λ n. All (λ lane. lane < n) homes) (sym long) low;
      };
      few = record {
        most = omega (arith, long, c.first_home-least.ensures.most, c.one_if-dark.ensures, small, few, known.cells, known.many, c.requires.loops);
        empty = λ (h : list.inputs + loop_count list + length list.cells + length list.outs + length list.nets ≡ 0).
            (let used = nothing_used base g ports (omega (arith, h, known.cells)) (omega (arith, h, known.many)) in
            let unused : get_or left inner 0 ≡ 0 = counted inner (omega (arith, wide)) ∙ used.1 inner in
            let off : cond {A = ℕ} dark 1 0 ≡ 0 = ap (λ b. cond {A = ℕ} b 1 0) (c.wants_zero-zero.ensures.none unused (omega (arith, h))) in
            omega (arith, long, c.first_home-least.ensures.most, c.one_if-dark.ensures, off, owes, used.0, h, c.requires.loops));
      };
    }
