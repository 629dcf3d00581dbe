-- The names of the flat netlist of a circuit can stand in a port table.
use Rattle.std.proofs.Common.{◌≡◌, sym, ap, subst, false, cond, List, [], length, arith}
use Rattle.std.specs.Prelude.{◌≢◌, All, AllPairs}
use Rattle.std.proofs.lemmas.List.Elements.{All-take, All-drop}
use Rattle.netlist_core.specs.declared.flat.Net.{Net as FlatNet}
use Rattle.netlist_core.specs.declared.flat.Flat.{Flat}
use Rattle.netlist_core.specs.Names.{Name}
use Rattle.netlist_meaning.specs.Flat.{listed_nets, nets_but_clocks}
use Rattle.pattern_reading.specs.Spelling.{IsPortName}
use Rattle.place_paths.specs.Paths.{HasTableNumbers}
use Rattle.plan_ports.specs.Tables.{HasPortNames, HasTablePlaces}
use Rattle.aiger_text.specs.declared.aig.Aig.{Aig}
use Rattle.aiger_text.specs.SoundAig.{IsSoundAig}
use Rattle.aiger_meaning.specs.Lowered.{IsLowered}

-- no net is listed
pub none_listed : (flat : Flat) → flat.listed ≡ false → [] ≡ listed_nets flat
none_listed flat unlisted = sym (ap (λ listed. cond listed (nets_but_clocks flat) []) unlisted)

module _ (aig : Aig) (flat : Flat) (lowered : IsLowered aig flat) where
  pub port_names : IsSoundAig aig → HasPortNames flat
  port_names sound = record {
    ins = subst (λ (names : List Name). All IsPortName names) (sym lowered.in_names) (All-take IsPortName (length aig.inputs) aig.names sound.names);
    outs = subst (λ (names : List Name). All IsPortName names) (sym lowered.out_names) (All-drop IsPortName (length aig.inputs) aig.names sound.names);
    nets = subst (λ (nets : List FlatNet). All (λ (net : FlatNet). IsPortName net.name) nets) (none_listed flat lowered.unlisted) (λ k d within. absurd (omega (arith, within)));
  }

  pub table_places : HasTablePlaces flat
  table_places = record {
    numbers = subst (λ (nets : List FlatNet). All (λ (net : FlatNet). HasTableNumbers net.place) nets) (none_listed flat lowered.unlisted) (λ k d within. absurd (omega (arith, within)));
    apart = subst (λ (nets : List FlatNet). AllPairs (λ (a b : FlatNet). a.name ≡ b.name → a.place ≢ b.place) nets) (none_listed flat lowered.unlisted) (λ i j d before within. absurd (omega (arith, within)));
  }
