-- What holds of all nets holds of those that tables list.
use Rattle.std.proofs.Common.{Bool, true, false, not, cond, [], arith}
use Rattle.std.specs.List.{All, AllPairs}
use Rattle.std.proofs.lemmas.List.Elements.{All-filter}
use Rattle.std.proofs.lemmas.List.Kept.{AllPairs-filter}
use Rattle.netlist_core.specs.declared.flat.Net.{Net as FlatNet}
use Rattle.netlist_core.specs.declared.flat.Flat.{Flat}
use Rattle.netlist_meaning.specs.Flat.{is_clock_class, listed_nets, nets_but_clocks}

pub all_listed : (P : FlatNet → Type 0) (flat : Flat) → All P flat.nets → All P (listed_nets flat)
all_listed P flat all = by flat.listed
  where
    by : (listed : Bool) → All P (cond listed (nets_but_clocks flat) [])
    by true = All-filter (λ (net : FlatNet). not (is_clock_class flat net.class)) P flat.nets all
    by false = λ k d lt. absurd (omega (arith, lt))

pub pairs_listed : (R : FlatNet → FlatNet → Type 0) (flat : Flat) → AllPairs R flat.nets → AllPairs R (listed_nets flat)
pairs_listed R flat all = by flat.listed
  where
    by : (listed : Bool) → AllPairs R (cond listed (nets_but_clocks flat) [])
    by true = AllPairs-filter R (λ (net : FlatNet). not (is_clock_class flat net.class)) flat.nets all
    by false = λ i j d before within. absurd (omega (arith, within))
