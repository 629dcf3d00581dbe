-- Runs in an orientation, and injections that are turned.
use Rattle.std.proofs.Common.{ℕ, ◌≡◌, ap, ap₂, ◌∙◌, List, [], ◌∷◌, length, map, get_or, arith}
use Rattle.std.proofs.lemmas.List.{get_or-map, length-map}
use Rattle.std.proofs.Math.Path.{fun_ext}
use Rattle.ww_rule.specs.declared.pattern.Injection.{Injection}
use Rattle.ww_rule.specs.Due.{AreInOrderFrom}
use Rattle.ww_rule.specs.Injections.{AreInside, due_of_list}
use Rattle.ww_rule.specs.Wireworld.{Plane, Due, driven}
use Rattle.ww_rule.specs.Turns.{turned, injection_turned}
use Rattle.ww_rule.proofs.Turns.{drives_turned_too}
use Rattle.drive.specs.declared.run.Orientation.{Orientation}
use Rattle.drive.specs.declared.run.Orientation.TheVariants.{Upright, Turned}
use Rattle.drive.specs.Runs.{laid}

-- what two generations have in common they have in each orientation
pub laid_at : (orientation : Orientation) (planes : ℕ → Plane) (g h : ℕ) → planes g ≡ planes h → laid orientation planes g ≡ laid orientation planes h
laid_at Upright planes g h same = same
laid_at Turned planes g h same = ap turned same

-- a turned plane under turned injections, laid back, is the plane under the injections
pub turned_back : (injections : List Injection) (p q : Plane) → q ≡ turned p → laid Turned (driven (due_of_list (map injection_turned injections)) q) ≡ driven (due_of_list injections) p
turned_back injections p q is =
    ap₂ (λ (due : Due) (plane : Plane). laid Turned (driven due plane)) (drives_turned_too.lists injections) is
    ∙ fun_ext (λ g. ap turned (drives_turned_too.turns (due_of_list injections) p g))

pub inside_turned : (width height : ℕ) (injections : List Injection) → AreInside width height injections → AreInside height width (map injection_turned injections)
inside_turned width height injections inside k d lt =
    let many : length (map injection_turned injections) ≡ length injections = length-map injections injection_turned in
    let here = inside k d (omega arith) in
    let is : get_or (map injection_turned injections) k d ≡ injection_turned (get_or injections k d) = get_or-map injection_turned injections k d d (omega arith) in
    rw is (here.1, here.0)

pub in_order_turned : (g : ℕ) (injections : List Injection) → AreInOrderFrom g injections → AreInOrderFrom g (map injection_turned injections)
in_order_turned g [] ordered = ordered
in_order_turned g (i ∷ is) ordered = (ordered.0, in_order_turned i.generation is ordered.1)
