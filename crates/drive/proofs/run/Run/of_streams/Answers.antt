use Rattle.std.proofs.Common.{◌≡◌, refl, ap, ap₂, sym, subst, ◌∙◌, ℕ, List, Option, Some, None, map, Result, Ok, Err, IfOk}
use Rattle.std.specs.Option.{option_map}
use Rattle.std.proofs.Math.Path.{fun_ext}
use Rattle.ww_rule.specs.declared.pattern.Injection.{Injection}
use Rattle.ww_rule.specs.Due.{AreInOrderFrom}
use Rattle.ww_rule.specs.Grid.{Grid, plane_of}
use Rattle.ww_rule.specs.Injections.{AreInside, due_of_list}
use Rattle.ww_rule.specs.Patterns.{grid_of}
use Rattle.ww_rule.specs.Turns.{injection_turned}
use Rattle.ww_rule.specs.Wireworld.{Plane, Due, driven}
use Rattle.drive.specs.declared.run.Orientation.{Orientation}
use Rattle.drive.specs.declared.run.Orientation.TheVariants.{Upright, Turned}
use Rattle.drive.specs.declared.run.Run.{Run}
use Rattle.drive.specs.Driving.{injections_of, first_miss}
use Rattle.drive.specs.Misses.{first_of_misses}
use Rattle.drive.specs.Runs.{laid, injection_laid, first_miss_of, planes_of}
use Rattle.drive.proofs.ContextBits.{list_is_due}
use Rattle.drive.proofs.Inside.{injections_inside}
use Rattle.drive.proofs.Turned.{turned_back, inside_turned, in_order_turned}
use Rattle.drive.proofs.TurnedMisses.{first_turned}
use Rattle.drive.proofs.run.Run.of_streams.Goals as goal

pub begin-requires-clause-inside : goal.begin-requires-clause-inside
begin-requires-clause-inside c =
    let pattern = c.args.pattern in
    subst (AreInside pattern.width pattern.height) (sym c.in_ok-due.ensures.list) (injections_inside pattern.width pattern.height c.args.ports.now c.args.streams.now c.requires.in_box)

pub begin-requires-clause-in_order : goal.begin-requires-clause-in_order
begin-requires-clause-in_order c = c.in_ok-due.ensures.sorted

pub begin-requires-2-clause-inside : goal.begin-requires-2-clause-inside
begin-requires-2-clause-inside c =
    let pattern = c.args.pattern in
    let turned = c.in_ok-turned.turned in
    let size = c.in_ok-turned.ensures in
    let due = c.in_ok-due.due.items in
    let items = c.turned_all.result.items in
    let inside : AreInside pattern.width pattern.height due =
    subst (AreInside pattern.width pattern.height) (sym c.in_ok-due.ensures.list) (injections_inside pattern.width pattern.height c.args.ports.now c.args.streams.now c.requires.in_box) in
    subst (λ (width : ℕ). AreInside width turned.height items) (sym size.width)
    (subst (λ (height : ℕ). AreInside pattern.height height items) (sym size.height)
    (subst (AreInside pattern.height pattern.width) (sym c.turned_all.ensures) (inside_turned pattern.width pattern.height due inside)))

pub begin-requires-2-clause-in_order : goal.begin-requires-2-clause-in_order
begin-requires-2-clause-in_order c =
    let due = c.in_ok-due.due.items in
    subst (AreInOrderFrom 0) (sym c.turned_all.ensures) (in_order_turned 0 due c.in_ok-due.ensures.sorted)

-- a run of this pattern under these injections, which lie in this orientation, has these planes
planes_are : {E : Type 0} (result : Result Run E) (orientation : Orientation) (grid : Grid) (injections due : List Injection) (planes : ℕ → Plane) → injections ≡ due → laid orientation (driven (due_of_list due) (plane_of grid.rows)) ≡ planes → IfOk result (λ run. run.orientation ≡ orientation) → IfOk result (λ run. run.bands.grid ≡ grid) → IfOk result (λ run. run.bands.injections ≡ injections) → IfOk result (λ run. planes_of run ≡ planes)
planes_are (Ok run) orientation grid injections due planes same shows lies is has =
    ap₂ (λ (grid : Grid) (injections : List Injection). laid run.orientation (driven (due_of_list injections) (plane_of grid.rows))) is (has ∙ same)
    ∙ ap (λ (o : Orientation). laid o (driven (due_of_list due) (plane_of grid.rows))) lies
    ∙ shows
planes_are (Err error) orientation grid injections due planes same shows lies is has = tt

-- and these first misses
abbrev first_laid : Orientation → List Injection → Grid → ℕ → Option Injection
first_laid orientation due grid g = option_map (injection_laid orientation) (first_of_misses due (due_of_list due) (plane_of grid.rows) g)

misses_are : {E : Type 0} (result : Result Run E) (orientation : Orientation) (grid : Grid) (injections due : List Injection) (misses : ℕ → Option Injection) → injections ≡ due → ((g : ℕ) → first_laid orientation due grid g ≡ misses g) → IfOk result (λ run. run.orientation ≡ orientation) → IfOk result (λ run. run.bands.grid ≡ grid) → IfOk result (λ run. run.bands.injections ≡ injections) → IfOk result (λ run. first_miss_of run ≡ misses)
misses_are (Ok run) orientation grid injections due misses same first lies is has =
    fun_ext (λ g.
    ap₂ (λ (grid : Grid) (injections : List Injection). first_laid run.orientation injections grid g) is (has ∙ same)
    ∙ ap (λ (o : Orientation). first_laid o due grid g) lies
    ∙ first g)
misses_are (Err error) orientation grid injections due misses same first lies is has = tt

upright : (o : Option Injection) → option_map (injection_laid Upright) o ≡ o
upright (Some i) = refl
upright None = refl

pub returns-then-not-is_narrow-clause-planes : goal.returns-then-not-is_narrow-clause-planes
returns-then-not-is_narrow-clause-planes c =
    planes_are c.begin.result Upright (grid_of c.args.pattern) _ _ _ c.in_ok-due.ensures.list
    (ap (λ (due : Due). driven due (plane_of c.args.pattern.rows)) (list_is_due c.args.ports.now c.args.streams.now))
    c.begin.ensures.orientation c.begin.ensures.grid c.begin.ensures.injections

pub returns-then-not-is_narrow-clause-misses : goal.returns-then-not-is_narrow-clause-misses
returns-then-not-is_narrow-clause-misses c =
    let due = injections_of c.args.ports.now c.args.streams.now in
    let plane = plane_of c.args.pattern.rows in
    misses_are c.begin.result Upright (grid_of c.args.pattern) _ due (first_miss c.args.ports.now c.args.streams.now plane) c.in_ok-due.ensures.list
    (λ g. upright (first_of_misses due (due_of_list due) plane g) ∙ ap (λ (d : Due). first_of_misses due d plane g) (list_is_due c.args.ports.now c.args.streams.now))
    c.begin.ensures.orientation c.begin.ensures.grid c.begin.ensures.injections

pub returns-clause-planes : goal.returns-clause-planes
returns-clause-planes c =
    let turned = c.in_ok-turned.turned in
    let plane = plane_of c.args.pattern.rows in
    let due = injections_of c.args.ports.now c.args.streams.now in
    let all : c.turned_all.result.items ≡ map injection_turned due = c.turned_all.ensures ∙ ap (map injection_turned) c.in_ok-due.ensures.list in
    planes_are c.begin-2.result Turned (grid_of turned) _ (map injection_turned due) _ all
    (turned_back due plane (plane_of turned.rows) c.in_ok-turned.ensures.cells ∙ ap (λ (d : Due). driven d plane) (list_is_due c.args.ports.now c.args.streams.now))
    c.begin-2.ensures.orientation c.begin-2.ensures.grid c.begin-2.ensures.injections

pub returns-clause-misses : goal.returns-clause-misses
returns-clause-misses c =
    let turned = c.in_ok-turned.turned in
    let plane = plane_of c.args.pattern.rows in
    let due = injections_of c.args.ports.now c.args.streams.now in
    let all : c.turned_all.result.items ≡ map injection_turned due = c.turned_all.ensures ∙ ap (map injection_turned) c.in_ok-due.ensures.list in
    misses_are c.begin-2.result Turned (grid_of turned) _ (map injection_turned due) (first_miss c.args.ports.now c.args.streams.now plane) all
    (λ g. first_turned due plane (plane_of turned.rows) c.in_ok-turned.ensures.cells g ∙ ap (λ (d : Due). first_of_misses due d plane g) (list_is_due c.args.ports.now c.args.streams.now))
    c.begin-2.ensures.orientation c.begin-2.ensures.grid c.begin-2.ensures.injections
