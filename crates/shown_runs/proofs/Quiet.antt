-- Streams for the inputs of a text that carries a design inject at conductors alone.
use Rattle.std.proofs.Common.{◌≡◌, refl, ap, ◌∙◌, subst, inl, inr, pos, Bool, true, false, cond, not, nat_le, List, [], ◌∷◌}
use Rattle.std.specs.Prelude.{None, Some, filter}
use Rattle.std.specs.List.{find}
use Rattle.lists.proofs.Members.{In, contains_from}
use Rattle.ww_rule.specs.declared.pattern.Injection.{Injection}
use Rattle.ww_rule.specs.declared.pattern.State.{State}
use Rattle.ww_rule.specs.Wireworld.{Plane, Due}
use Rattle.ww_rule.specs.Grid.{plane_of}
use Rattle.ww_rule.specs.Injections.{MeetsConductors}
use Rattle.ww_rule.proofs.Lists.{lists_are_injected}
use Rattle.netlist_meaning.specs.Valuation.{start_state}
use Rattle.streams.specs.Rows.{contexts_of}
use Rattle.drive.specs.Driving.{due_by, injections_of}
use Rattle.drive.specs.Misses.{is_conductor, misses}
use Rattle.drive.proofs.ContextBits.{list_is_due}
use Rattle.shown_runs.specs.ShownRuns.{CarriersAreQuiet, OneContextIsQuiet}
use Rattle.shown_runs.proofs.Shown.{as_context}
use Rattle.shown_runs.proofs.ShownContexts.{contexts}

-- none of those that pass is found where none is
none_found : {X : Type 0} (keep test : X → Bool) (xs : List X) → ((x : X) → In x xs → test x ≡ false) → find test (filter keep xs) ≡ None
none_found keep test [] h = refl
none_found keep test (x ∷ xs) h = by (keep x) (none_found keep test xs (λ y i. h y (inr i)))
  where
    by : (b : Bool) → find test (filter keep xs) ≡ None → find test (cond b (x ∷ filter keep xs) (filter keep xs)) ≡ None
    by false later = later
    by true later = ap (λ (b : Bool). cond b (Some x) (find test (filter keep xs))) (h x (inl refl)) ∙ later

-- an injection that is due where injections meet conductors
meets : (due : Due) (plane : Plane) (i : Injection) → MeetsConductors due plane → due i.generation (pos i.x) (pos i.y) ≡ true → misses due plane i ≡ false
meets due plane i conductors is = ap (λ (state : State). not (is_conductor state)) (conductors i.generation (pos i.x) (pos i.y) is)

pub carriers_are_quiet : CarriersAreQuiet
carriers_are_quiet text design starts k streams are g =
    none_found (λ (i : Injection). nat_le i.generation g) (misses (due_by k.ports streams) (plane_of k.grid.rows)) (injections_of k.ports streams)
    (λ i is. meets (due_by k.ports streams) (plane_of k.grid.rows) i
    (k.shows.conductors streams.cycles (contexts_of streams) (contexts text design starts k streams are)) (is_due i is))
  where
    is_due : (i : Injection) → In i (injections_of k.ports streams) → due_by k.ports streams i.generation (pos i.x) (pos i.y) ≡ true
    is_due i is =
        subst (λ (due : Due). due i.generation (pos i.x) (pos i.y) ≡ true) (list_is_due k.ports streams)
        ((lists_are_injected.exactly (injections_of k.ports streams) i.generation (pos i.x) (pos i.y)).1
        (record { injection = i; is_in = contains_from (injections_of k.ports streams) i is; in_time = refl; column = refl; row = refl }))

pub one_context_is_quiet : OneContextIsQuiet
one_context_is_quiet text design c streams are g = carriers_are_quiet text design (start_state design ∷ []) (as_context c) streams are g
