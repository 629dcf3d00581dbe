-- The NET lines of a routed circuit can be written, and read back.
use Rattle.std.proofs.Common.{◌≡◌, ◌≢◌, sym, ◌∙◌, ap, subst, ℕ, ◌<◌, ◌^◌, List, [], ◌∷◌, length, get_or, arith}
use Rattle.std.specs.Prelude.{Option, Some}
use Rattle.std.specs.List.{All, AllByRecursion, AllPairs}
use Rattle.std.proofs.lemmas.List.{get_or-map, length-map}
use Rattle.std.proofs.lemmas.List.Elements.{All-head, All-tail, All-map}
use Rattle.netlist_core.specs.declared.flat.Net.{Net as FlatNet}
use Rattle.netlist_core.specs.declared.flat.Flat.{Flat}
use Rattle.netlist_core.specs.Names.{Name}
use Rattle.netlist_meaning.specs.Flat.{listed_nets, no_net}
use Rattle.pattern_reading.specs.declared.ports.NetLine.{NetLine}
use Rattle.pattern_reading.specs.PortLines.{path_in}
use Rattle.pattern_reading.specs.Spelling.{IsPortName}
use Rattle.pattern_reading.specs.SoundTable.{IsSoundNet}
use Rattle.pattern_reading.specs.Laws.{IsNetInside}
use Rattle.place_paths.specs.Paths.{HasTableNumbers, names_and_paths}
use Rattle.place_paths.proofs.Paths.{paths_are_read, paths_are_distinct}
use Rattle.plan_ports.specs.Tables.{HasPortNames, HasTablePlaces, named_paths}
use Rattle.plan_ports.proofs.NetLines.{line_words, net_words}
use Rattle.routed_plans.specs.declared.nets.SeenPort.{SeenPort}
use Rattle.routed_plans.specs.Drawn.{items_drawn}
use Rattle.routed_plans.proofs.Drawn.{all_drawn, pairs_drawn}

-- a name and a path that can stand in a table
abbrev IsNamed : Name × List ℕ → Type 0
IsNamed words = IsPortName words.0 × (path_in words.1 ≡ Some words.1)

-- lines in a box with such names
lines_sound : (width height : ℕ) → width < 2 ^ 64 → height < 2 ^ 64 → (lines : List NetLine) → AllByRecursion (IsNetInside width height) lines → All (λ (line : NetLine). line.offset < 4294967296) lines
    → All IsNamed (names_and_paths lines) → AllByRecursion IsSoundNet lines
lines_sound width height wide high [] inside small names = tt
lines_sound width height wide high (line ∷ lines) (at, rest) small names =
    let words = All-head IsNamed (line.name, line.path) (names_and_paths lines) names in (
      record { x = omega (arith, at.0, wide); y = omega (arith, at.1, high); offset = omega (arith, All-head (λ (l : NetLine). l.offset < 4294967296) line lines small); name = words.0; path = words.1 },
      lines_sound width height wide high lines rest (All-tail (λ (l : NetLine). l.offset < 4294967296) line lines small) (All-tail IsNamed (line.name, line.path) (names_and_paths lines) names),
    )

module _ (flat : Flat) (shown : List (Option SeenPort)) (names : HasPortNames flat) (places : HasTablePlaces flat) (lines : List NetLine) (named : names_and_paths lines ≡ named_paths (items_drawn shown (listed_nets flat))) where
  abbrev drawn : List FlatNet
  drawn = items_drawn shown (listed_nets flat)

  numbers : All (λ (net : FlatNet). HasTableNumbers net.place) drawn
  numbers = all_drawn (λ (net : FlatNet). HasTableNumbers net.place) shown (listed_nets flat) places.numbers

  words_fit : All IsNamed (named_paths drawn)
  words_fit =
      All-map IsNamed net_words drawn
      (λ k d lt. (all_drawn (λ (net : FlatNet). IsPortName net.name) shown (listed_nets flat) names.nets k d lt, paths_are_read (get_or drawn k d).place (numbers k d lt)))

  pub nets_sound : (width height : ℕ) → width < 2 ^ 64 → height < 2 ^ 64 → AllByRecursion (IsNetInside width height) lines → All (λ (line : NetLine). line.offset < 4294967296) lines → AllByRecursion IsSoundNet lines
  nets_sound width height wide high inside small = lines_sound width height wide high lines inside small (subst (All IsNamed) (sym named) words_fit)

  many : length lines ≡ length drawn
  many = sym (length-map lines line_words) ∙ ap length named ∙ length-map drawn net_words

  words_are : (k : ℕ) (d : NetLine) → k < length lines → net_words (get_or drawn k no_net) ≡ line_words (get_or lines k d)
  words_are k d lt =
      sym (get_or-map net_words drawn k no_net (d.name, d.path) (omega (arith, lt, many)))
      ∙ ap (λ words. get_or words k (d.name, d.path)) (sym named)
      ∙ get_or-map line_words lines k d (d.name, d.path) lt

  apart : AllPairs (λ (a b : FlatNet). a.name ≡ b.name → a.place ≢ b.place) drawn
  apart = pairs_drawn (λ (a b : FlatNet). a.name ≡ b.name → a.place ≢ b.place) shown (listed_nets flat) places.apart

  pub one_net : AllPairs (λ (a b : NetLine). a.name ≡ b.name → a.path ≢ b.path) lines
  one_net i j d before within same_name same_path =
      let first = words_are i d (omega (arith, before, within)) in
      let second = words_are j d within in
      let long : j < length drawn = omega (arith, within, many) in
      apart i j no_net before long
      (ap (λ words. words.0) first ∙ same_name ∙ sym (ap (λ words. words.0) second))
      (paths_are_distinct (get_or drawn i no_net).place (get_or drawn j no_net).place (numbers i no_net (omega (arith, before, long))) (numbers j no_net long)
      (ap (λ words. words.1) first ∙ same_path ∙ sym (ap (λ words. words.1) second)))
