-- Each net of the flat netlist of a sound circuit has one driver, and there is no clock.
use Rattle.std.proofs.Common.{ℕ, zero, suc, ◌+◌, ◌<◌, ◌≤◌, ◌-◌, ◌^◌, ◌≡◌, inl, inr, ⊎_elim, refl, sym, ap, ◌∙◌, subst, List, length, get_or, arith}
use Rattle.std.specs.Prelude.{MatchOption, Option}
use Rattle.std.proofs.lemmas.Bool.{cases_lt}
use Rattle.std.proofs.lemmas.List.{length-map}
use Rattle.std.proofs.lemmas.Option.{slice_get-get_or}
use Rattle.netlist_core.specs.declared.flat.NetId.{NetId}
use Rattle.netlist_core.specs.declared.flat.FlatPort.{FlatPort}
use Rattle.netlist_core.specs.declared.flat.FlatLatch.{FlatLatch}
use Rattle.netlist_core.specs.declared.flat.Flat.{Flat}
use Rattle.netlist_meaning.specs.Flat.{class_of, IsClockClass, FlatDriver, FlatDrives, IsSound, port_classes}
use Rattle.aiger_text.specs.declared.aig.Aig.{Aig}
use Rattle.aiger_text.specs.SoundAig.{IsSoundAig}
use Rattle.aiger_meaning.specs.Circuit.{aig_weight}
use Rattle.aiger_meaning.specs.FlatOf.{first_gate, latch_between, port_at, IsFlatOfAig}
use Rattle.aiger_meaning.proofs.View.{DrivesAt, drives_at, class_is, port_is, net_count, node_count, in_count, latch_count, nodes_many, out_class_zero, out_class_is}
use Rattle.aiger_meaning.proofs.Within.{in_range, latch_at}

module _ (aig : Aig) (flat : Flat) (s : IsSoundAig aig) (h : IsFlatOfAig aig flat) where
  apart : (class : ℕ) (d e : FlatDriver) → DrivesAt aig flat s h d class → DrivesAt aig flat s h e class → d ≡ e
  apart class (FlatDriver.input i) (FlatDriver.input j) a b = ap FlatDriver.input (omega (arith, a.1, b.1))
  apart class (FlatDriver.input i) (FlatDriver.latch j) a b = absurd (omega (arith, a.0, a.1, b.1))
  apart class (FlatDriver.input i) (FlatDriver.node zero) a b = absurd (omega (arith, a.1, b))
  apart class (FlatDriver.input i) (FlatDriver.node (suc k)) a b = absurd (omega (arith, a.0, a.1, b.1))
  apart class (FlatDriver.latch i) (FlatDriver.input j) a b = absurd (omega (arith, b.0, a.1, b.1))
  apart class (FlatDriver.latch i) (FlatDriver.latch j) a b = ap FlatDriver.latch (omega (arith, a.1, b.1))
  apart class (FlatDriver.latch i) (FlatDriver.node zero) a b = absurd (omega (arith, a.1, b))
  apart class (FlatDriver.latch i) (FlatDriver.node (suc k)) a b = absurd (omega (arith, a.0, a.1, b.1))
  apart class (FlatDriver.node zero) (FlatDriver.input j) a b = absurd (omega (arith, a, b.1))
  apart class (FlatDriver.node zero) (FlatDriver.latch j) a b = absurd (omega (arith, a, b.1))
  apart class (FlatDriver.node zero) (FlatDriver.node zero) a b = refl
  apart class (FlatDriver.node zero) (FlatDriver.node (suc k)) a b = absurd (omega (arith, a, b.1))
  apart class (FlatDriver.node (suc k)) (FlatDriver.input j) a b = absurd (omega (arith, b.0, a.1, b.1))
  apart class (FlatDriver.node (suc k)) (FlatDriver.latch j) a b = absurd (omega (arith, b.0, a.1, b.1))
  apart class (FlatDriver.node (suc k)) (FlatDriver.node zero) a b = absurd (omega (arith, a.1, b))
  apart class (FlatDriver.node (suc k)) (FlatDriver.node (suc j)) a b = ap (λ n. FlatDriver.node (suc n)) (omega (arith, a.1, b.1))

  pub one_driver : (class : ℕ) (d e : FlatDriver) → FlatDrives flat d class → FlatDrives flat e class → d ≡ e
  one_driver class d e a b = apart class d e (drives_at aig flat s h class d a) (drives_at aig flat s h class e b)

  -- every number below that of nets has one
  input_drives : (i : ℕ) → i < length aig.inputs → FlatDrives flat (FlatDriver.input i) (1 + i)
  input_drives i l =
      let d : FlatPort = port_at 0 in (
        get_or flat.ins i d,
        slice_get-get_or flat.ins i d (omega (arith, l, in_count aig flat s h)),
        ap (λ (port : FlatPort). class_of flat port.net) (ap (λ (ports : List FlatPort). get_or ports i d) h.ins ∙ port_is 1 (length aig.inputs) i d l) ∙ class_is aig flat s h (1 + i) (omega (arith, l)),
      )

  latch_drives_it : (small : aig_weight aig < 2 ^ 31) (i : ℕ) → i < length aig.latches → FlatDrives flat (FlatDriver.latch i) (1 + length aig.inputs + i)
  latch_drives_it small i l =
      let d : FlatLatch = latch_between 0 0 (record { lit = 0; next = 0; reset = 0 }) in
      let low : i < length flat.latches = omega (arith, l, latch_count aig flat s h) in (
        get_or flat.latches i d,
        slice_get-get_or flat.latches i d low,
        ap (λ (latch : FlatLatch). class_of flat latch.output) (latch_at aig flat s small h i d low) ∙ class_is aig flat s h (1 + length aig.inputs + i) (omega (arith, l)),
      )

  node_drives : (k : ℕ) → k < nodes_many aig flat s h → FlatDrives flat (FlatDriver.node (suc k)) (first_gate aig + k)
  node_drives k l = ((let e : suc k < length flat.nodes = omega (arith, l, node_count aig flat s h) in e), out_class_is aig flat s h k l)

  zero_drives : FlatDrives flat (FlatDriver.node 0) 0
  zero_drives = ((let e : 0 < length flat.nodes = omega (arith, node_count aig flat s h) in e), out_class_zero aig flat s h)

  abbrev HasDriver : ℕ → Type 0
  HasDriver n = (d : FlatDriver) × FlatDrives flat d n

  driven_at : (small : aig_weight aig < 2 ^ 31) (n : ℕ) → n < first_gate aig + nodes_many aig flat s h → HasDriver n
  driven_at small zero l = (FlatDriver.node 0, zero_drives)
  driven_at small (suc n) l = ⊎_elim in_inputs past_inputs (cases_lt n (length aig.inputs))
    where
      at : (m : ℕ) (d : FlatDriver) → FlatDrives flat d m → m ≡ suc n → HasDriver (suc n)
      at m d f e = (d, subst (FlatDrives flat d) e f)

      in_inputs : n < length aig.inputs → HasDriver (suc n)
      in_inputs low = at (1 + n) (FlatDriver.input n) (input_drives n low) (omega arith)

      in_latches : length aig.inputs ≤ n → n < length aig.inputs + length aig.latches → HasDriver (suc n)
      in_latches past low = at (1 + length aig.inputs + (n - length aig.inputs)) (FlatDriver.latch (n - length aig.inputs)) (latch_drives_it small (n - length aig.inputs) (omega (arith, past, low))) (omega (arith, past))

      in_nodes : length aig.inputs + length aig.latches ≤ n → HasDriver (suc n)
      in_nodes past =
          let k = n - (length aig.inputs + length aig.latches) in
          at (first_gate aig + k) (FlatDriver.node (suc k)) (node_drives k (omega (arith, past, l))) (omega (arith, past))

      past_inputs : length aig.inputs ≤ n → HasDriver (suc n)
      past_inputs past = ⊎_elim (in_latches past) in_nodes (cases_lt n (length aig.inputs + length aig.latches))

  -- no clock
  pub no_clock : (class : ℕ) → ¬ IsClockClass flat class
  no_clock class (inl c) = subst (λ (o : Option NetId). MatchOption o ⊥ (λ id. class_of flat id ≡ class)) h.control c
  no_clock class (inr c) =
      let many : length (port_classes flat flat.clocks) ≡ 0 = length-map flat.clocks (λ (port : FlatPort). class_of flat port.net) ∙ ap length h.clocks in
      let (k, l, is) = c.0 in
      omega (arith, l, many)

  pub sound : aig_weight aig < 2 ^ 31 → IsSound flat
  sound small = record {
    in_range = in_range aig flat s small h;
    one_driver = one_driver;
    driven = λ id is_net not_clock.
        (let low : id.0 < first_gate aig + nodes_many aig flat s h = omega (arith, is_net, net_count aig flat s h) in
        let d = driven_at small id.0 low in
        (d.0, subst (FlatDrives flat d.0) (sym (class_is aig flat s h id.0 low)) d.1));
    clocks_undriven = λ class d f. no_clock class;
    clocks_unread = λ n class c. no_clock class;
    clocks_no_outs = λ k d l. no_clock _;
    clocks_no_data = λ k d l. no_clock _;
  }
