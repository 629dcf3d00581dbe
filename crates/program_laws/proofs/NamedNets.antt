-- The lines of a table and the nets that they name.
use Rattle.std.proofs.Common.{ℕ, zero, suc, ◌≡◌, ◌<◌, refl, sym, ap, ◌∙◌, List, [], ◌∷◌, length, get_or, arith}
use Rattle.std.specs.Prelude.{Some, slice_get}
use Rattle.std.proofs.lemmas.List.{length-map}
use Rattle.std.proofs.lemmas.Option.{slice_get-get_or, slice_get_within}
use Rattle.pattern_reading.specs.declared.ports.NetLine.{NetLine}
use Rattle.place_paths.specs.Paths.{name_and_path}
use Rattle.netlist_core.specs.declared.model.Design.{Design}
use Rattle.netlist_core.specs.Names.{Name}
use Rattle.netlist_meaning.specs.Nets.{Net, net_at}
use Rattle.netlist_meaning.specs.Valuation.{LatchState}
use Rattle.carries.specs.DesignContexts.{CarriesNetsInContexts}

-- an element at each place
pub got_within : {X : Type 0} (xs : List X) (k : ℕ) → k < length xs → (x : X) × (slice_get xs k ≡ Some x)
got_within [] k less = absurd (omega (arith, less))
got_within (x ∷ xs) zero less = (x, refl)
got_within (x ∷ xs) (suc k) less = got_within xs k (omega (arith, less))

module _ (text : List ℕ) (design : Design) (starts : List LatchState) (k : CarriesNetsInContexts text design starts) where
  -- a line for each net
  pub as_many_lines : length k.carried.ports.nets ≡ length k.nets
  as_many_lines =
      sym (length-map k.carried.ports.nets (λ (line : NetLine). (line.name, line.path)))
      ∙ ap (λ (names : List (Name × List ℕ)). length names) k.names
      ∙ length-map k.nets (λ (net : Net). name_and_path net.place net.name)

  -- the net of a line
  pub net_of_line : (number : ℕ) (line : NetLine) → slice_get k.carried.ports.nets number ≡ Some line → slice_get k.nets number ≡ Some (get_or k.nets number (net_at [] []))
  net_of_line number line at = slice_get-get_or k.nets number (net_at [] []) (omega (arith, slice_get_within k.carried.ports.nets number line at, as_many_lines))

  -- the line of a net
  pub line_of_net : (number : ℕ) (net : Net) → slice_get k.nets number ≡ Some net → (line : NetLine) × (slice_get k.carried.ports.nets number ≡ Some line)
  line_of_net number net at = got_within k.carried.ports.nets number (omega (arith, slice_get_within k.nets number net at, as_many_lines))
