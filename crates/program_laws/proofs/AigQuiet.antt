-- Streams for the inputs of a text that carries a circuit inject at conductors alone.
use Rattle.std.proofs.Common.{ℕ, ◌≡◌, ◌*◌, refl, sym, ap, ◌∙◌, subst, inl, inr, pos, Bool, true, false, cond, not, nat_le, List, [], ◌∷◌, length, arith}
use Rattle.std.specs.Prelude.{None, Some, filter}
use Rattle.std.specs.List.{find, range_with_len}
use Rattle.std.proofs.lemmas.List.{length-map, length-take-le}
use Rattle.std.proofs.lemmas.List.Elements.{All-map}
use Rattle.lists.proofs.Members.{In, contains_from}
use Rattle.ww_rule.specs.declared.pattern.Injection.{Injection}
use Rattle.ww_rule.specs.declared.pattern.State.{State}
use Rattle.ww_rule.specs.Wireworld.{Plane, Due}
use Rattle.ww_rule.specs.Grid.{plane_of}
use Rattle.ww_rule.specs.Contexts.{due_of_contexts}
use Rattle.ww_rule.specs.Injections.{MeetsConductors}
use Rattle.ww_rule.proofs.Contexts.{contexts_are_injected}
use Rattle.ww_rule.proofs.Lists.{lists_are_injected}
use Rattle.pattern_reading.specs.declared.ports.PortLine.{PortLine}
use Rattle.pattern_reading.specs.declared.ports.Ports.{Ports}
use Rattle.pattern_reading.specs.Ports.{cells_of}
use Rattle.streams.specs.declared.streams.Streams.{Streams}
use Rattle.streams.specs.Rows.{rows_of, stream_row}
use Rattle.streams.proofs.Contexts.{one_context}
use Rattle.carries.specs.Cells.{drive}
use Rattle.drive.specs.Driving.{AreFor, due_by, first_miss, injections_of}
use Rattle.drive.specs.Misses.{is_conductor, misses}
use Rattle.drive.proofs.ContextBits.{list_is_due}
use Rattle.aiger_text.specs.declared.aig.Aig.{Aig}
use Rattle.aiger_text.specs.SoundAig.{IsSoundAig}
use Rattle.aiger_meaning.specs.Circuit.{AreAigRows}
use Rattle.aiger_plans.specs.CarriesAig.{CarriesAig}

-- none of those that pass is found where none is
none_found : {X : Type 0} (keep test : X → Bool) (xs : List X) → ((x : X) → In x xs → test x ≡ false) → find test (filter keep xs) ≡ None
none_found keep test [] h = refl
none_found keep test (x ∷ xs) h = by (keep x) (none_found keep test xs (λ y i. h y (inr i)))
  where
    by : (b : Bool) → find test (filter keep xs) ≡ None → find test (cond b (x ∷ filter keep xs) (filter keep xs)) ≡ None
    by false later = later
    by true later = ap (λ (b : Bool). cond b (Some x) (find test (filter keep xs))) (h x (inl refl)) ∙ later

-- streams whose injections meet conductors have no miss
quiet : (ports : Ports) (streams : Streams) (plane : Plane) → MeetsConductors (due_by ports streams) plane → (g : ℕ) → first_miss ports streams plane g ≡ None
quiet ports streams plane conductors g =
    none_found (λ (i : Injection). nat_le i.generation g) (misses (due_by ports streams) plane) (injections_of ports streams)
    (λ i is. ap (λ (state : State). not (is_conductor state)) (conductors i.generation (pos i.x) (pos i.y) (is_due i is)))
  where
    is_due : (i : Injection) → In i (injections_of ports streams) → due_by ports streams i.generation (pos i.x) (pos i.y) ≡ true
    is_due i is =
        subst (λ (due : Due). due i.generation (pos i.x) (pos i.y) ≡ true) (list_is_due ports streams)
        ((lists_are_injected.exactly (injections_of ports streams) i.generation (pos i.x) (pos i.y)).1
        (record { injection = i; is_in = contains_from (injections_of ports streams) i is; in_time = refl; column = refl; row = refl }))

module _ (text : List ℕ) (aig : Aig) (s : IsSoundAig aig) (c : CarriesAig text aig) (streams : Streams) (are : AreFor c.ports streams) where
  -- as many streams as inputs
  many : length streams.bits ≡ length aig.inputs
  many =
      let lines : length c.ports.ins ≡ length aig.inputs =
      sym (length-map c.ports.ins (λ (line : PortLine). line.name))
      ∙ ap (λ (names : List (List ℕ)). length names) c.names.ins
      ∙ length-take-le (length aig.inputs) aig.names (omega (arith, s.all_named)) in
      are.many ∙ ap (λ n. n * length c.ports.ins) c.contexts ∙ omega (arith, lines)

  aig_rows : AreAigRows aig (rows_of streams)
  aig_rows =
      All-map (λ (row : List Bool). length row ≡ length aig.inputs) (stream_row streams) (range_with_len 0 streams.cycles)
      (λ k d lt. length-map streams.bits _ ∙ many)

  -- the streams inject what their rows do
  one_due : due_by c.ports streams ≡ drive c.ports (rows_of streams)
  one_due =
      ap (λ contexts. due_of_contexts c.ports.p (cells_of c.ports.ins) contexts) (one_context streams (are.same ∙ c.contexts))
      ∙ contexts_are_injected.one c.ports.p (cells_of c.ports.ins) (rows_of streams)

  pub quiet_aig : (g : ℕ) → first_miss c.ports streams (plane_of c.grid.rows) g ≡ None
  quiet_aig =
      quiet c.ports streams (plane_of c.grid.rows)
      (subst (λ (due : Due). MeetsConductors due (plane_of c.grid.rows)) (sym one_due) (c.shows.conductors (rows_of streams) aig_rows))
