-- A wire that keeps time delays its source, and shows its start bits.
use Rattle.std.proofs.Common.{◌≡◌, refl, sym, ◌∙◌, ap, ap₂, subst, ℕ, suc, ◌+◌, ◌-◌, ◌*◌, ◌/◌, ◌%◌, ◌<◌, ◌≤◌, ◌==◌, Bool, true, false, ◌&&◌, cond, if◌then◌else◌, List, [], length, arith}
use Rattle.std.specs.Prelude.{nat_le}
use Rattle.std.proofs.lemmas.Bool.{and_parts, leb-true, lt-ltb}
use Rattle.std.proofs.Math.Nat.{div-lt_iff_lt-mul}
use Rattle.lists.specs.Items.{flag_at}
use Rattle.ww_rule.specs.declared.pattern.State.{State}
use Rattle.ww_rule.specs.declared.pattern.State.TheVariants.{Head, Tail, Conductor}
use Rattle.gate_laws.specs.Signals.{cell_state, is_lit}
use Rattle.gate_laws.specs.Rows.{Port}
use Rattle.routed_circuits.specs.Runs.{list_bit, IsDelayed}
use Rattle.routed_circuits.specs.Lists.{Point, point_signal}
use Rattle.gate_library.specs.declared.ports.PortCell.{PortCell}
use Rattle.route_tables.specs.declared.tables.TableWire.{TableWire}
use Rattle.route_tables.specs.declared.tables.Tables.{Tables}
use Rattle.route_tables.specs.Serials.{listed_cell}
use Rattle.route_tables.specs.Tables.{input_port, table_wire, point_at, input_point, box_plane}
use Rattle.route_tables.specs.Reading.{IsPortAt}
use Rattle.route_tables.specs.Runs.{IsDelayedByWire, ShowsStarts}
use Rattle.route_cells.specs.Electrons.{comes_at}
use Rattle.route_cells.specs.Wires.{WireKeepsTime}

and_agree : (b x y : Bool) → (b ≡ true → x ≡ y) → (b && x) ≡ (b && y)
and_agree true x y h = h refl
and_agree false x y h = refl

-- a bit that is on the wire comes as the source at its end says
comes_as : (t : Tables) (bits : List Bool) (period : ℕ) → 0 < period → (point : Point) → ((c : ℕ) → c < length bits → list_bit t.list [] c point.1 ≡ flag_at bits c)
    → (g : ℕ) → g < point.0.1 + length bits * period → is_lit period (point_signal t.list [] point) g ≡ comes_at point.0.1 period bits g
comes_as t bits period some point starts g low =
    and_agree (nat_le point.0.1 g && (g - point.0.1) % period == 0) _ _
    (λ due. let since : point.0.1 ≤ g = leb-true point.0.1 g (and_parts _ _ due).0 in
    starts ((g - point.0.1) / period) ((div-lt_iff_lt-mul some).1 (let e : g - point.0.1 < length bits * period = omega (arith, since, low) in e)))

pub kept_time : (t : Tables) (states : List State) (period w : ℕ) → 0 < period → (from to : PortCell) → IsPortAt t (table_wire t w).from from
    → IsPortAt t (input_port (table_wire t w).to) to → WireKeepsTime t states period (table_wire t w) from to
    → IsDelayedByWire t period w × ShowsStarts t states period w
kept_time t states period w some from to begins ends keeps = (delayed, starts)
  where
    wire : TableWire
    wire = table_wire t w

    first : to.generation ≡ (input_point t (table_wire t w).to).0.1
    first = ap (λ (p : Port). p.1) ends.1

    takes : (point_at t (table_wire t w).from).0.1 + suc (table_wire t w).size ≡ (input_point t (table_wire t w).to).0.1 + (table_wire t w).cycles * period
    takes = ap (λ n. n + suc (table_wire t w).size) (sym (ap (λ (p : Port). p.1) begins.1)) ∙ keeps.takes ∙ ap (λ n. n + (table_wire t w).cycles * period) first

    comes : (g : ℕ) → g ≤ (table_wire t w).size → is_lit period (point_signal t.list [] (input_point t (table_wire t w).to)) g ≡ comes_at to.generation period keeps.bits g
    comes g low =
        comes_as t keeps.bits period some (input_point t (table_wire t w).to) keeps.leads.starts g
        (subst (λ n. g < (input_point t (table_wire t w).to).0.1 + n * period) (sym keeps.all) (omega (arith, takes, low)))
        ∙ ap (λ n. comes_at n period keeps.bits g) (sym first)

    delayed : IsDelayedByWire t period w
    delayed =
        let e : length keeps.bits + 0 ≡ (table_wire t w).cycles = omega (arith, keeps.all) in
        record {
          time = takes;
          source = subst (λ n. IsDelayed t.list n (point_at t (table_wire t w).from).1 (input_point t (table_wire t w).to).1) e (keeps.leads.delayed 0 (point_at t (table_wire t w).from).1 refl);
          clear = λ c low early.
              let within : c < length keeps.bits = omega (arith, keeps.all, low) in
              keeps.leads.starts c within ∙ keeps.carries.clear c within (subst (λ n. (table_wire t w).size ≤ n + c * period) (sym first) early);
        }

    starts : ShowsStarts t states period w
    starts =
        record {
          end = ap (cell_state (box_plane t states)) (sym (ap (λ (p : Port). p.0) ends.1)) ∙ keeps.carries.end
              ∙ ap (λ b. if b then Head else Conductor) (sym (comes 0 (omega arith)));
          cells = λ i rest is.
              let inside : i < (table_wire t w).size = omega (arith, is) in
              ap (λ b. cell_state (box_plane t states) (cond b (listed_cell t.cells ((table_wire t w).start + i)) (input_point t (table_wire t w).to).0.0)) (lt-ltb i (table_wire t w).size inside)
              ∙ keeps.carries.cells i inside rest is
              ∙ ap₂ (λ head tail. if head then Head else if tail then Tail else Conductor) (sym (comes (suc rest) (omega (arith, is)))) (sym (comes rest (omega (arith, is))));
        }

pub kept_wire : (t : Tables) (states : List State) (period w : ℕ) → 0 < period → (wire : TableWire) → wire ≡ table_wire t w → (from to : PortCell) → IsPortAt t wire.from from
    → IsPortAt t (input_port wire.to) to → WireKeepsTime t states period wire from to → IsDelayedByWire t period w × ShowsStarts t states period w
kept_wire t states period w some wire is from to begins ends keeps =
    kept_time t states period w some from to (subst (λ (it : TableWire). IsPortAt t it.from from) is begins) (subst (λ (it : TableWire). IsPortAt t (input_port it.to) to) is ends)
    (subst (λ it. WireKeepsTime t states period it from to) is keeps)
