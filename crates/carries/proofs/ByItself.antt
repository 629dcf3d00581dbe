-- Texts that run by themselves.
use Rattle.std.proofs.Common.{All, ℕ, Bool, false, ◌+◌, ◌*◌, ◌<◌, ◌≤◌, ◌≡◌, ◌≢◌, refl, ap, ◌∙◌, List, ◌++◌, length, replicate, arith}
use Rattle.std.proofs.lemmas.List.{append_assoc, length-append, length-replicate}
use Rattle.std.proofs.lemmas.List.Elements.{All-append, All-replicate}
use Rattle.std.proofs.Math.Nat.{le-mul_of_pos_right}
use Rattle.ww_rule.specs.Wireworld.{Plane, evolve}
use Rattle.ww_rule.specs.Grid.{plane_of}
use Rattle.netlist_meaning.specs.Valuation.{AreInputRows, output_bit}
use Rattle.carries.specs.Cells.{ShowsBitsFrom}
use Rattle.carries.specs.ByItself.{ThenZeros}
use Rattle.carries.specs.ByItselfLaws.{RunsInOneWay, ShowsBitsForever, RunnersGoOn, ZerosChangeNothing}
use Rattle.carries.proofs.OneWay.{one_spelling}
use Rattle.carries.proofs.Period.{has_period}

pub runs_in_one_way : RunsInOneWay
runs_in_one_way text design rows others a b = one_spelling text a.grid b.grid a.ports b.ports a.spells b.spells

-- rows of 0 after rows of 0
pub then_zeros : (rows more all : List (List Bool)) → ThenZeros rows more → ThenZeros more all → ThenZeros rows all
then_zeros rows more all (zeros, none, is) (zeros', none', is') =
    (zeros ++ zeros', All-append (λ (row : List Bool). All (λ bit. bit ≡ false) row) zeros zeros' none none', is' ∙ ap (λ (front : List (List Bool)). front ++ zeros') is ∙ append_assoc rows zeros zeros')

pub zeros_change_nothing : ZerosChangeNothing
zeros_change_nothing = (
  λ text design rows all k after fit. record {
    grid = k.grid;
    ports = k.ports;
    spells = k.spells;
    contexts = k.contexts;
    no_inputs = k.no_inputs;
    outs = k.outs;
    seen = k.seen;
    are_seen = k.are_seen;
    nets = k.nets;
    rows_fit = fit;
    shows = record {
      run = (k.shows.run.0, λ further is are. k.shows.run.1 further (then_zeros rows all further after is) are);
      heads = λ further is are run is_run. k.shows.heads further (then_zeros rows all further after is) are run is_run;
      nets = λ further is are run is_run. k.shows.nets further (then_zeros rows all further after is) are run is_run;
    };
  },
  λ text flat rows all k after fit. record {
    grid = k.grid;
    ports = k.ports;
    spells = k.spells;
    contexts = k.contexts;
    no_inputs = k.no_inputs;
    outs = k.outs;
    nets = k.nets;
    rows_fit = fit;
    shows = record {
      run = (k.shows.run.0, λ further is are. k.shows.run.1 further (then_zeros rows all further after is) are);
      heads = λ further is are run is_run. k.shows.heads further (then_zeros rows all further after is) are run is_run;
      nets = λ further is are run is_run. k.shows.nets further (then_zeros rows all further after is) are run is_run;
    };
  },
)

-- as many rows of 0 after rows of so many bits as a generation needs
module _ (rows : List (List Bool)) (wide : ℕ) (fit : All (λ row. length row ≡ wide) rows) (g : ℕ) where
  abbrev pub enough : List (List Bool)
  enough = rows ++ replicate (g + 1) (replicate wide false)

  pub are_enough : ThenZeros rows enough
  are_enough = (
    replicate (g + 1) (replicate wide false),
    All-replicate (λ (row : List Bool). All (λ bit. bit ≡ false) row) (g + 1) (replicate wide false) (All-replicate (λ bit. bit ≡ false) wide false refl),
    refl,
  )

  pub enough_fit : All (λ (row : List Bool). length row ≡ wide) enough
  enough_fit =
      All-append (λ (row : List Bool). length row ≡ wide) rows (replicate (g + 1) (replicate wide false)) fit
      (All-replicate (λ (row : List Bool). length row ≡ wide) (g + 1) (replicate wide false) (length-replicate wide false))

  pub long_enough : g < length enough
  long_enough = omega (arith, length-append rows (replicate (g + 1) (replicate wide false)), length-replicate (g + 1) (replicate wide false))

in_time : (first period cycles g : ℕ) → period ≢ 0 → g < cycles → g < first + cycles * period
in_time first period cycles g some early = let more : cycles ≤ cycles * period = le-mul_of_pos_right cycles (omega (arith, some)) in omega (arith, early, more)

-- with as many cycles as generations, none is left out
forever : (first period cycles : ℕ) (bit : ℕ → Bool) (g : ℕ) (plane : Plane) (x y : ℕ) → period ≢ 0 → g < cycles → ShowsBitsFrom first period cycles bit g plane x y → ShowsBitsForever first period bit g plane x y
forever first period cycles bit g plane x y some early shown = (
  λ head. (let found = shown.0 head in (found.0, found.2, found.3)),
  λ at. shown.1 (at.0, below at.0 at.1, at.1, at.2),
)
  where
    below : (t : ℕ) → g ≡ first + t * period → t < cycles
    below t e = let more : t ≤ t * period = le-mul_of_pos_right t (omega (arith, some)) in omega (arith, early, more, e)

pub runners_go_on : RunnersGoOn
runners_go_on text design rows k run onward = record {
  outs = λ output cell e g.
      forever k.ports.l k.ports.p (length (all g)) (λ t. output_bit design (run t) output) g (evolve g (plane_of k.grid.rows)) cell.x cell.y period (long g)
      (k.shows.heads (all g) (are g) (fits g) run (onward (all g) (are g) (fits g)) output cell e g (in_time k.ports.l k.ports.p (length (all g)) g period (long g)));
  nets = λ number net line is_net is_line g.
      forever line.offset k.ports.p (length (all g)) (λ t. run t net.place net.name) g (evolve g (plane_of k.grid.rows)) line.x line.y period (long g)
      (k.shows.nets (all g) (are g) (fits g) run (onward (all g) (are g) (fits g)) number net line is_net is_line g (in_time line.offset k.ports.p (length (all g)) g period (long g)));
}
  where
    period : k.ports.p ≢ 0
    period = has_period text k.grid.width k.grid.height k.ports k.spells.table

    wide : ℕ
    wide = length k.rows_fit.0

    all : ℕ → List (List Bool)
    all g = enough rows wide k.rows_fit.2 g

    are : (g : ℕ) → ThenZeros rows (all g)
    are g = are_enough rows wide k.rows_fit.2 g

    fits : (g : ℕ) → AreInputRows design (all g)
    fits g = (k.rows_fit.0, k.rows_fit.1, enough_fit rows wide k.rows_fit.2 g)

    long : (g : ℕ) → g < length (all g)
    long g = long_enough rows wide k.rows_fit.2 g
