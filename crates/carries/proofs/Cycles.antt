-- What a text that carries a design shows, cycle by cycle.
use Rattle.std.proofs.Common.{All, pos, ℕ, Bool, true, ◌+◌, ◌*◌, ◌<◌, ◌≡◌, ◌≢◌, ◌↔◌, refl, sym, ap, ◌∙◌, subst, inl, inr, ◌++◌, length, arith}
use Rattle.std.proofs.lemmas.Bool.{cases_lt}
use Rattle.std.proofs.lemmas.List.{length-map}
use Rattle.std.proofs.Math.Nat.{mul-lt-mul_of_pos_right}
use Rattle.ww_rule.specs.declared.pattern.State.TheVariants.{Head}
use Rattle.ww_rule.specs.Wireworld.{Plane, driven}
use Rattle.ww_rule.specs.Grid.{plane_of}
use Rattle.ww_rule.proofs.Lists.{streams_go_on}
use Rattle.netlist_meaning.specs.Valuation.{output_bit}
use Rattle.netlist_meaning.proofs.Joined.{in_names_are_one}
use Rattle.pattern_reading.specs.Ports.{cells_of, names_of}
use Rattle.carries.specs.Cells.{ShowsBitsFrom, ShowsOutput, drive}
use Rattle.carries.specs.Shown.{CarriesCycles, CarriesNetCycles, CarriesOnward, CarriesEachFront, RowsFitPorts}
use Rattle.carries.proofs.Period.{has_period}

-- two cycles begin at two generations
one_cycle : (first period t u : ℕ) → period ≢ 0 → first + t * period ≡ first + u * period → t ≡ u
one_cycle first period t u some e =
    elim (cases_lt t u) [
      | inl below ↦ let less : t * period < u * period = mul-lt-mul_of_pos_right below (omega (arith, some)) in absurd (omega (arith, e, less))
      | inr above ↦
          elim (cases_lt u t) [
            | inl below ↦ let less : u * period < t * period = mul-lt-mul_of_pos_right below (omega (arith, some)) in absurd (omega (arith, e, less))
            | inr same ↦ omega (arith, above, same)
          ]
    ]

pub in_time : (first period cycles t : ℕ) → period ≢ 0 → t < cycles → first + t * period < first + cycles * period
in_time first period cycles t some lt =
    let less : t * period < cycles * period = mul-lt-mul_of_pos_right lt (omega (arith, some)) in omega (arith, less)

-- at the generation of a cycle a cell shows the cycle's bit
pub in_cycle : (first period cycles t : ℕ) (bit : ℕ → Bool) (plane : Plane) (x y : ℕ) → period ≢ 0 → t < cycles
    → ShowsBitsFrom first period cycles bit (first + t * period) plane x y → (plane (pos x) (pos y) ≡ Head) ↔ (bit t ≡ true)
in_cycle first period cycles t bit plane x y some lt shown = (
  λ head. (let found = shown.0 head in ap bit (one_cycle first period t found.0 some found.2) ∙ found.3),
  λ is. shown.1 (t, lt, refl, is),
)

-- what shows bits shows those that are the same in each of the cycles
pub same_from : (first period cycles : ℕ) (bit other : ℕ → Bool) (g : ℕ) (plane : Plane) (x y : ℕ) → ((t : ℕ) → t < cycles → bit t ≡ other t)
    → ShowsBitsFrom first period cycles bit g plane x y → ShowsBitsFrom first period cycles other g plane x y
same_from first period cycles bit other g plane x y same shown = (
  λ head. (let found = shown.0 head in (found.0, found.1, found.2, sym (same found.0 found.1) ∙ found.3)),
  λ at. shown.1 (at.0, at.1, at.2, same at.0 at.1 ∙ at.3),
)

-- what a cell shows of each cycle, in planes that show it up to the end of the last cycle
pub cycle_bits : (first period cycles : ℕ) (bit : ℕ → Bool) (planes : ℕ → Plane) (x y : ℕ) → period ≢ 0
    → ((g : ℕ) → g < first + cycles * period → ShowsBitsFrom first period cycles bit g (planes g) x y)
    → (t : ℕ) → t < cycles → (planes (first + t * period) (pos x) (pos y) ≡ Head) ↔ (bit t ≡ true)
cycle_bits first period cycles bit planes x y some shown t lt =
    in_cycle first period cycles t bit (planes (first + t * period)) x y some lt (shown (first + t * period) (in_time first period cycles t some lt))

pub carries_cycles : CarriesCycles
carries_cycles text design c rows are run is = record {
  bits = λ output cell e.
      cycle_bits c.ports.l c.ports.p (length rows) (λ t. output_bit design (run t) output) (driven (drive c.ports rows) (plane_of c.grid.rows)) cell.x cell.y period
      (c.shows.heads rows are run is output cell e);
  dark = λ output cell e g lt head.
      let found = (c.shows.heads rows are run is output cell e g (omega arith)).0 head in
      omega (arith, lt, found.2);
}
  where
    period : c.ports.p ≢ 0
    period = has_period text c.grid.width c.grid.height c.ports c.spells.table

pub carries_net_cycles : CarriesNetCycles
carries_net_cycles text design c rows are run is number net line is_net is_line t lt =
    let ports = c.carried.ports in
    let period : ports.p ≢ 0 = has_period text c.carried.grid.width c.carried.grid.height ports c.carried.spells.table in
    cycle_bits line.offset ports.p (length rows) (λ t. run t net.place net.name) (driven (drive ports rows) (plane_of c.carried.grid.rows)) line.x line.y period
    (c.shows rows are run is number net line is_net is_line) t lt

pub carries_onward : CarriesOnward
carries_onward text design c rows zeros are_zeros are run is output cell e g lt =
    subst (λ plane. ShowsOutput c.ports (length (rows ++ zeros)) (λ t. output_bit design (run t) output) g plane cell) ((streams_go_on c.ports.p (cells_of c.ports.ins) rows zeros).rest are_zeros (plane_of c.grid.rows) g) (c.shows.heads (rows ++ zeros) are run is output cell e g lt)

pub carries_each_front : CarriesEachFront
carries_each_front text design c rows later g lt =
    (streams_go_on c.ports.p (cells_of c.ports.ins) rows later).before (plane_of c.grid.rows) g lt

pub rows_fit_ports : RowsFitPorts
rows_fit_ports ports design rows named (names, are, long) =
    subst (λ n. All (λ row. length row ≡ n) rows) (ap length (in_names_are_one design names (names_of ports.ins) are named.ins) ∙ length-map ports.ins (λ line. line.name)) long
