-- Rows of text that pass a test keep the timing law. (The laws of the traits cite these proofs, and
-- so they stand in specs; the tests compute in the impls, by `refl`.)
use Rattle.std.proofs.Common.{◌≡◌, refl, Bool, true, false, ◌&&◌, List, Contains, ℕ, zero, suc, length, get_or, arith, inl, inr}
use Rattle.std.proofs.lemmas.Bool.{and_parts}
use Rattle.tile_core.specs.declared.kind.Kind.{Kind}
use Rattle.tile_core.specs.declared.kind.Kind.TheVariants.{Swap, Xor, Or, AndNot, Fork, East, South, North, EastSouth, SouthWest, WestNorth, NorthEast, West, WestSwap}
use Rattle.tile_core.specs.Interface.{Interface, IsInterface, AreSidePorts, side_ports}
use Rattle.tile_core.specs.Kinds.{interface, one, west_side, east_side, north_side, south_side, west_sides, east_sides}
use Rattle.tile_core.specs.TimingLaw.{KeepsTime, MeetsTimingLaw}
use Rattle.tile_timing.proofs.Traces.{law_test, keeps_time}
use Rattle.tile_timing.specs.Mirror.{mirrored_drawing}
use Rattle.tile_timing.proofs.Mirrors.{law_mirrored}
use Rattle.tile_timing.proofs.PortTests.{ports_test, has_ports}
use Rattle.tile_library.specs.declared.drawings.TheConstants.{SWAP}
use Rattle.tile_library.specs.Drawings.{drawn_rows}
use Rattle.tile_library.specs.InBox.{fits_box, drawn_in_box}

pair_form : (kind : Kind) → (interface kind).lanes ≡ 2 → length (interface kind).entries ≡ 2
    → length (interface kind).exits ≡ 2 → ((a b : Bool) → length ((interface kind).answer a b) ≡ 2)
    → AreSidePorts (interface kind).lanes (interface kind).entries
    → AreSidePorts (interface kind).lanes (interface kind).exits → IsInterface (interface kind)
pair_form kind height entries exits bits entered left =
    record {
      height = inr height;
      two_entries = entries;
      two_exits = exits;
      two_bits = bits;
      side_entries = entered;
      side_exits = left;
      unused_entry = λ single. absurd (omega (arith, single, height));
      unused_exit = λ single. absurd (omega (arith, single, height));
      unused_bit = λ single. absurd (omega (arith, single, height));
    }

single_form : (kind : Kind) → (interface kind).lanes ≡ 1 → length (interface kind).entries ≡ 2
    → length (interface kind).exits ≡ 2 → ((a b : Bool) → length ((interface kind).answer a b) ≡ 2)
    → AreSidePorts (interface kind).lanes (interface kind).entries
    → AreSidePorts (interface kind).lanes (interface kind).exits
    → get_or (interface kind).entries 1 (0, 0) ≡ (0, 0)
    → get_or (interface kind).exits 1 (0, 0) ≡ (0, 0)
    → ((a b : Bool) → get_or ((interface kind).answer a b) 1 false ≡ false)
    → IsInterface (interface kind)
single_form kind height entries exits bits entered left entry exit bit =
    record {
      height = inl height;
      two_entries = entries;
      two_exits = exits;
      two_bits = bits;
      side_entries = entered;
      side_exits = left;
      unused_entry = λ single. entry;
      unused_exit = λ single. exit;
      unused_bit = λ single. bit;
    }

-- the ports of tiles of two lanes and of one lane, by the sides in whose middles they lie
two_sides : (ports : List (ℕ × ℕ)) → Contains (side_ports 0) (get_or ports 0 (0, 0))
    → Contains (side_ports 1) (get_or ports 1 (0, 0)) → AreSidePorts 2 ports
two_sides ports upper lower zero lt = upper
two_sides ports upper lower (suc zero) lt = lower
two_sides ports upper lower (suc (suc lane)) lt = absurd (omega arith)

one_side : (port : ℕ × ℕ) → Contains (side_ports 0) port → AreSidePorts 1 (one port)
one_side port upper zero lt = upper
one_side port upper (suc lane) lt = absurd (omega arith)

wests : AreSidePorts 2 west_sides
wests = two_sides west_sides (0, omega arith, refl) (0, omega arith, refl)

easts : AreSidePorts 2 east_sides
easts = two_sides east_sides (1, omega arith, refl) (1, omega arith, refl)

west : AreSidePorts 1 (one west_side)
west = one_side west_side (0, omega arith, refl)

east : AreSidePorts 1 (one east_side)
east = one_side east_side (1, omega arith, refl)

north : AreSidePorts 1 (one north_side)
north = one_side north_side (2, omega arith, refl)

south : AreSidePorts 1 (one south_side)
south = one_side south_side (3, omega arith, refl)

-- the ports and answers of each kind have the form of an interface
pub has_form : (kind : Kind) → IsInterface (interface kind)
has_form Swap = pair_form Swap refl refl refl (λ a b. refl) wests easts
has_form Xor = pair_form Xor refl refl refl (λ a b. refl) wests easts
has_form Or = pair_form Or refl refl refl (λ a b. refl) wests easts
has_form AndNot = pair_form AndNot refl refl refl (λ a b. refl) wests easts
has_form Fork = pair_form Fork refl refl refl (λ a b. refl) wests easts
has_form East = single_form East refl refl refl (λ a b. refl) west east refl refl (λ a b. refl)
has_form South = single_form South refl refl refl (λ a b. refl) north south refl refl (λ a b. refl)
has_form North = single_form North refl refl refl (λ a b. refl) south north refl refl (λ a b. refl)
has_form EastSouth =
    single_form EastSouth refl refl refl (λ a b. refl) west south refl refl (λ a b. refl)
has_form SouthWest =
    single_form SouthWest refl refl refl (λ a b. refl) north west refl refl (λ a b. refl)
has_form WestNorth =
    single_form WestNorth refl refl refl (λ a b. refl) east north refl refl (λ a b. refl)
has_form NorthEast =
    single_form NorthEast refl refl refl (λ a b. refl) south east refl refl (λ a b. refl)
has_form West = single_form West refl refl refl (λ a b. refl) east west refl refl (λ a b. refl)
has_form WestSwap = pair_form WestSwap refl refl refl (λ a b. refl) easts wests

-- the test that rows of text keep the law: a run of 32 generations for each choice of entries, and
-- a look at the ports
abbrev pub passes : Interface → List (List ℕ) → Bool
passes tile rows =
    law_test (drawn_rows rows) tile false false
    && law_test (drawn_rows rows) tile false true
    && law_test (drawn_rows rows) tile true false
    && law_test (drawn_rows rows) tile true true
    && fits_box tile rows
    && ports_test tile (drawn_rows rows)

pub meets_law : (tile : Interface) (rows : List (List ℕ)) → passes tile rows ≡ true
    → MeetsTimingLaw tile (drawn_rows rows)
meets_law tile rows t =
    let p1 = and_parts _ _ t in
    let p2 = and_parts _ _ p1.0 in
    let p3 = and_parts _ _ p2.0 in
    let p4 = and_parts _ _ p3.0 in
    let p5 = and_parts _ _ p4.0 in
    record {
      keeps_time = choices p5.0 p5.1 p4.1 p3.1;
      has_ports = has_ports tile (drawn_rows rows) (drawn_in_box tile rows p2.1) p1.1;
    }
  where
    choices : law_test (drawn_rows rows) tile false false ≡ true
        → law_test (drawn_rows rows) tile false true ≡ true
        → law_test (drawn_rows rows) tile true false ≡ true
        → law_test (drawn_rows rows) tile true true ≡ true → (a b : Bool)
        → KeepsTime tile (drawn_rows rows) a b
    choices dark lower upper both false false = keeps_time (drawn_rows rows) tile false false dark
    choices dark lower upper both false true = keeps_time (drawn_rows rows) tile false true lower
    choices dark lower upper both true false = keeps_time (drawn_rows rows) tile true false upper
    choices dark lower upper both true true = keeps_time (drawn_rows rows) tile true true both

-- the law of `Swap` gives that of `WestSwap`
pub west_swap_meets : passes (interface Swap) SWAP ≡ true
    → MeetsTimingLaw (interface WestSwap) (mirrored_drawing (drawn_rows SWAP))
west_swap_meets t =
    law_mirrored (interface Swap) (interface WestSwap) (drawn_rows SWAP)
    (record { lanes = refl; entries = refl; exits = refl; answer = λ a b. refl })
    (meets_law (interface Swap) SWAP t)
