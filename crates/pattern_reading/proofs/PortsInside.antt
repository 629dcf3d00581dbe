-- The cells of a table that reads lie in the box.
use Rattle.std.proofs.Common.{ℕ, ◌<◌, ◌≡◌, refl, sym, Bool, true, false, not, ◌&&◌, List, [], ◌∷◌, ◌++◌}
use Rattle.std.specs.Prelude.{if◌then◌else◌, Option, Some, None, filter_map, nat_lt}
use Rattle.std.specs.List.{AllByRecursion, cons_option}
use Rattle.std.proofs.lemmas.Bool.{and_parts, ltb-true, not-false}
use Rattle.std.proofs.lemmas.Option.{none-some}
use Rattle.pattern_reading.specs.declared.faults.PortFaultKind.{PortFaultKind}
use Rattle.pattern_reading.specs.declared.faults.PortFaultKind.TheVariants.{BadOrder, CellOutside, Twice}
use Rattle.pattern_reading.specs.Numbers.{◌>>=◌}
use Rattle.pattern_reading.specs.PortLines.{PortForm, Version, In, Out, Net, TableLine, table_of}
use Rattle.pattern_reading.specs.PortTable.{PortFaultAt, fault_of_form, faults_after, forms_of, input_of, is_outside, net_of, output_of}
use Rattle.pattern_reading.specs.Laws.{HasPortsInside, IsNetInside, IsPortInside}

abbrev IsInside : ℕ → ℕ → PortForm → Type 0
IsInside width height form = is_outside width height form ≡ false

-- where no fault stands first and none in the rest
pub no_first : (number : ℕ) (o : Option PortFaultKind) (faults : List PortFaultAt) → cons_option (o >>= λ kind. Some (record { kind = kind; line = number })) faults ≡ [] → (o ≡ None) × (faults ≡ [])
no_first number None faults e = (refl, e)
no_first number (Some kind) faults e = absurd (cc)

inside_of : (misplaced outside twice : Bool) → (if misplaced then Some BadOrder else if outside then Some CellOutside else if twice then Some Twice else None) ≡ None → outside ≡ false
inside_of true outside twice e = absurd (none-some _ (sym e))
inside_of false true twice e = absurd (none-some _ (sym e))
inside_of false false twice e = refl

form_inside : (width height : ℕ) (before : List (Option PortForm)) (o : Option PortForm) (forms : List PortForm) → fault_of_form width height before o ≡ None → AllByRecursion (IsInside width height) forms → AllByRecursion (IsInside width height) (cons_option o forms)
form_inside width height before None forms e h = absurd (none-some _ (sym e))
form_inside width height before (Some form) forms e h = (inside_of _ _ _ e, h)

lines_inside : (width height : ℕ) (before : List (Option PortForm)) (lines : List TableLine) → faults_after width height before lines ≡ [] → AllByRecursion (IsInside width height) (filter_map (λ line. line.form) lines)
lines_inside width height before [] e = tt
lines_inside width height before (line ∷ lines) e =
    let parts = no_first line.number (fault_of_form width height before line.form) _ e in
    form_inside width height before line.form _ parts.0 (lines_inside width height (before ++ line.form ∷ []) lines parts.1)

within : (x y width height : ℕ) → not (nat_lt x width && nat_lt y height) ≡ false → (x < width) × (y < height)
within x y width height e =
    let both = and_parts _ _ (not-false _ e) in
    (ltb-true _ _ both.0, ltb-true _ _ both.1)

ins_inside : (width height : ℕ) (forms : List PortForm) → AllByRecursion (IsInside width height) forms → AllByRecursion (IsPortInside width height) (filter_map input_of forms)
ins_inside width height [] h = tt
ins_inside width height (Version p l c ∷ forms) h = ins_inside width height forms h.1
ins_inside width height (In port ∷ forms) h = (within _ _ _ _ h.0, ins_inside width height forms h.1)
ins_inside width height (Out port ∷ forms) h = ins_inside width height forms h.1
ins_inside width height (Net net ∷ forms) h = ins_inside width height forms h.1

outs_inside : (width height : ℕ) (forms : List PortForm) → AllByRecursion (IsInside width height) forms → AllByRecursion (IsPortInside width height) (filter_map output_of forms)
outs_inside width height [] h = tt
outs_inside width height (Version p l c ∷ forms) h = outs_inside width height forms h.1
outs_inside width height (In port ∷ forms) h = outs_inside width height forms h.1
outs_inside width height (Out port ∷ forms) h = (within _ _ _ _ h.0, outs_inside width height forms h.1)
outs_inside width height (Net net ∷ forms) h = outs_inside width height forms h.1

nets_inside : (width height : ℕ) (forms : List PortForm) → AllByRecursion (IsInside width height) forms → AllByRecursion (IsNetInside width height) (filter_map net_of forms)
nets_inside width height [] h = tt
nets_inside width height (Version p l c ∷ forms) h = nets_inside width height forms h.1
nets_inside width height (In port ∷ forms) h = nets_inside width height forms h.1
nets_inside width height (Out port ∷ forms) h = nets_inside width height forms h.1
nets_inside width height (Net net ∷ forms) h = (within _ _ _ _ h.0, nets_inside width height forms h.1)

pub ports_inside : (text : List ℕ) (width height : ℕ) → HasPortsInside text width height
ports_inside text width height ports h =
    let forms = lines_inside width height [] (table_of text) h.no_fault in
    rw (h.ports_is) (record {
      ins = ins_inside width height (forms_of text) forms;
      outs = outs_inside width height (forms_of text) forms;
      nets = nets_inside width height (forms_of text) forms;
    })
