-- The names and paths of lines, as the sets have them.
use Rattle.std.specs.Prelude.{◌≡◌, ℕ, Bool, false, ◌&&◌, List}
use Rattle.std.specs.List.{list_any}
use Rattle.std.specs.Str.{bytes_eq}
use Rattle.std.specs.Ordering.{nat_cmp, ordering_then}
use Rattle.std.specs.Cmp.Lexicographic.{slice_cmp}
use Rattle.std.specs.BTreeSet.{contains_by}
use Rattle.lists.specs.Names.{holds_name}
use Rattle.pattern_reading.specs.PortLines.{PortForm, In, Out, Net}
use Rattle.port_table.specs.declared.seen.Seen.{Seen}

-- whether a line is an input of this name
abbrev pub is_input : List ℕ → PortForm → Bool
is_input name (In port) = bytes_eq name port.name
is_input name _ = false

abbrev pub is_output : List ℕ → PortForm → Bool
is_output name (Out port) = bytes_eq name port.name
is_output name _ = false

-- whether a line is a net of this name and path
abbrev pub is_net : List ℕ → List ℕ → PortForm → Bool
is_net name path (Net net) = bytes_eq name net.name && bytes_eq path net.path
is_net name path _ = false

-- The sets have the names of these lines, and no others.
pub record HasSeen (seen : Seen) (forms : List PortForm) : Type 0 where
  pub has_ins : (name : List ℕ) → holds_name seen.ins name ≡ list_any (is_input name) forms
  pub has_outs : (name : List ℕ) → holds_name seen.outs name ≡ list_any (is_output name) forms
  pub has_nets : (name path : List ℕ)
      → contains_by (λ k. ordering_then (slice_cmp nat_cmp name k.0.now)
      (slice_cmp nat_cmp path k.1.now)) seen.nets ≡ list_any (is_net name path) forms
