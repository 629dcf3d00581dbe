-- What is dumped of a run are the waves of the nets.
use Rattle.std.proofs.Common.{◌≡◌, refl, sym, ◌∙◌, ap, subst, ℕ, pos, ◌+◌, ◌*◌, ◌-◌, ◌^◌, ◌≤◌, ◌<◌, Bool, false, List, [], ◌∷◌, length, map, get_or, arith}
use Rattle.std.specs.Prelude.{Some, slice_get}
use Rattle.std.specs.List.{range_with_len}
use Rattle.std.proofs.lemmas.List.{get_or-map, length-map}
use Rattle.std.proofs.lemmas.List.FromFn.{get_or-map-range_with_len}
use Rattle.std.proofs.lemmas.Option.{slice_get-get_or}
use Rattle.lists.proofs.Members.{In, in_got}
use Rattle.ww_rule.specs.Wireworld.{Plane, is_head}
use Rattle.pattern_reading.specs.declared.ports.NetLine.{NetLine}
use Rattle.pattern_reading.specs.declared.ports.Ports.{Ports}
use Rattle.streams.specs.declared.streams.Streams.{Streams}
use Rattle.drive.specs.Driving.{driven_by}
use Rattle.vcd_write.specs.Laws.{AreSameWaves}
use Rattle.vcd_write.specs.declared.due_bits.Raster.{Raster}
use Rattle.vcd_write.specs.NetBits.{FitsNets}
use Rattle.vcd_write.specs.NetWaves.{NetInContext, last_of_all_nets, last_of_nets, net_waves, nets_in_contexts, reference_of, shown_of}
use Rattle.vcd_write.proofs.Texts.{place_within}
use Rattle.vcd_write.proofs.Variables.{offset_low}

last_low : (nets : List NetLine) (ports : Ports) (streams : Streams) (net : NetLine) → In net nets → net.offset + 32 * (ports.c - 1) + (streams.cycles - 1) * ports.p ≤ last_of_nets nets ports streams
last_low [] ports streams net i = absurd i
last_low (first ∷ nets) ports streams net i = let low = offset_low (first ∷ nets) net i in omega (arith, low)

pub fits_of : (ports : Ports) (streams : Streams) (variables last : ℕ) (raster : Raster) → raster ≡ record { variables = variables; period = ports.p; bits = streams.cycles * variables; last = last }
    → variables ≡ length (nets_in_contexts ports) → 0 < streams.cycles → last ≡ last_of_all_nets ports streams → last < 2 ^ 64 → FitsNets ports streams.cycles raster
fits_of ports streams variables last raster is many some same small =
    subst (FitsNets ports streams.cycles) (sym is)
    (record {
      some = some;
      variables = many;
      period = refl;
      bits = refl;
      early = λ k d within.
          let low = last_low ports.nets ports streams (get_or ports.nets k d) (in_got ports.nets k (get_or ports.nets k d) (slice_get-get_or ports.nets k d within)) in
          omega (arith, low, same);
      small = small;
    })

abbrev none : NetInContext
none = record { context = 0; net = record { x = 0; y = 0; offset = 0; name = []; path = [] } }

module _ (ports : Ports) (streams : Streams) (plane : Plane) where
  -- the bit of a variable among the waves
  wave_is : (n cycle : ℕ) → n < length (nets_in_contexts ports) → cycle < streams.cycles
      → (net_waves ports streams plane).bit n cycle
      ≡ is_head (driven_by ports streams plane ((get_or (nets_in_contexts ports) n none).net.offset + 32 * (get_or (nets_in_contexts ports) n none).context + cycle * ports.p) (pos (get_or (nets_in_contexts ports) n none).net.x) (pos (get_or (nets_in_contexts ports) n none).net.y))
  wave_is n cycle low lt =
      let v : NetInContext = get_or (nets_in_contexts ports) n none in
      ap (λ bits. get_or bits cycle false) (get_or-map (shown_of ports streams plane) (nets_in_contexts ports) n none [] low)
      ∙ get_or-map-range_with_len (λ cycle. is_head (driven_by ports streams plane (v.net.offset + 32 * v.context + cycle * ports.p) (pos v.net.x) (pos v.net.y))) 0 streams.cycles cycle cycle false lt (omega arith)

  pub same_waves : (references : List (List ℕ)) (bits : List Bool) (variables all : ℕ) (planes : ℕ → Plane) → references ≡ map (reference_of ports.c) (nets_in_contexts ports) → planes ≡ driven_by ports streams plane
      → variables ≡ length references → all ≡ streams.cycles * variables
      → ((n cycle : ℕ) (variable : NetInContext) → slice_get (nets_in_contexts ports) n ≡ Some variable → cycle * variables + n < all
      → get_or bits (cycle * variables + n) false ≡ is_head (planes (variable.net.offset + 32 * variable.context + cycle * ports.p) (pos variable.net.x) (pos variable.net.y)))
      → AreSameWaves (record { cycles = streams.cycles; references = references; bit = λ n cycle. get_or bits (cycle * length references + n) false }) (net_waves ports streams plane)
  same_waves references bits variables all planes names shows many whole right = record {
    cycles = refl;
    references = names;
    bits = λ n cycle within lt.
        let long : length (map (reference_of ports.c) (nets_in_contexts ports)) ≡ length (nets_in_contexts ports) = length-map (nets_in_contexts ports) (reference_of ports.c) in
        let low : n < length (nets_in_contexts ports) = omega (arith, within, long) in
        let v : NetInContext = get_or (nets_in_contexts ports) n none in
        let count : variables ≡ length (nets_in_contexts ports) = many ∙ ap length names ∙ long in
        let place : cycle * variables + n < streams.cycles * variables = place_within variables streams.cycles n cycle (omega (arith, low, count)) lt in
        ap (λ m. get_or bits (cycle * m + n) false) (sym many)
        ∙ right n cycle v (slice_get-get_or (nets_in_contexts ports) n none low) (omega (arith, place, whole))
        ∙ ap (λ (planes : ℕ → Plane). is_head (planes (v.net.offset + 32 * v.context + cycle * ports.p) (pos v.net.x) (pos v.net.y))) shows
        ∙ sym (wave_is n cycle low lt);
  }
