-- The ports of the main model, and the flat netlist from its parts.
use Rattle.std.proofs.Common.{ℕ, zero, suc, ◌≡◌, List, [], Option, Some, None, get_or, length, option_map, refl, sym, ap, ◌∙◌, subst}
use Rattle.std.specs.Prelude.{All, unwrap_or}
use Rattle.netlist_core.specs.declared.model.Design.{Design}
use Rattle.netlist_core.specs.declared.model.Model.{Model}
use Rattle.netlist_core.specs.declared.model.Port.{Port}
use Rattle.netlist_meaning.specs.Places.{main_model, main_ports, model_at, model_below}
use Rattle.netlist_meaning.specs.Nets.{net_at, model_names, IsNet}
use Rattle.netlist_meaning.specs.InOrder.{of_some, places_below}
use Rattle.netlist_meaning.proofs.Names.{and_then-from}
use Rattle.lists.proofs.Members.{In}
use Rattle.flat_designs.proofs.Lists.{all_of}
use Rattle.flat_designs.proofs.Names.{input_name, output_name, clock_name, is_net_of}
use Rattle.netlist_flatten.specs.Numbered.{place_at}

-- the first place is the main model's
pub main_place : (design : Design) → place_at design 0 ≡ []
main_place design = by (main_model design) (length design.models)
  where
    by : (o : Option Model) (n : ℕ) → get_or (of_some (places_below design n) o) 0 [] ≡ []
    by None n = refl
    by (Some m) zero = refl
    by (Some m) (suc n) = refl

pub main_at : (design : Design) (m : Model) → model_at design (place_at design 0) ≡ Some m → model_at design [] ≡ Some m
main_at design m e = ap (model_at design) (sym (main_place design)) ∙ e

pub main_is : (design : Design) (m : Model) → model_at design (place_at design 0) ≡ Some m → main_model design ≡ Some m
main_is design m e = let (own, is_own, same) = and_then-from (model_below design []) (main_model design) m (main_at design m e) in is_own ∙ same

pub main_ports_are : (design : Design) (m : Model) (ports_of : Model → List Port) → model_at design (place_at design 0) ≡ Some m → main_ports ports_of design ≡ ports_of m
main_ports_are design m ports_of e = ap (λ (o : Option Model). unwrap_or (option_map ports_of o) []) (main_is design m e)

-- they are nets
port_nets : (design : Design) (m : Model) (ports : List Port) → model_at design (place_at design 0) ≡ Some m → ((port : Port) → In port ports → In port.name (model_names m)) → All (λ (port : Port). IsNet design (net_at [] port.name)) ports
port_nets design m ports e named = all_of (λ (port : Port). IsNet design (net_at [] port.name)) ports (λ port i. is_net_of design [] m port.name (main_at design m e) (named port i))

pub input_ports : (design : Design) (m : Model) (ports : List Port) → model_at design (place_at design 0) ≡ Some m → ports ≡ m.ins → All (λ (port : Port). IsNet design (net_at [] port.name)) ports
input_ports design m ports e same = port_nets design m ports e (λ port i. input_name m port (subst (λ (ps : List Port). In port ps) same i))

pub output_ports : (design : Design) (m : Model) (ports : List Port) → model_at design (place_at design 0) ≡ Some m → ports ≡ m.outs → All (λ (port : Port). IsNet design (net_at [] port.name)) ports
output_ports design m ports e same = port_nets design m ports e (λ port i. output_name m port (subst (λ (ps : List Port). In port ps) same i))

pub clock_ports : (design : Design) (m : Model) (ports : List Port) → model_at design (place_at design 0) ≡ Some m → ports ≡ m.clocks → All (λ (port : Port). IsNet design (net_at [] port.name)) ports
clock_ports design m ports e same = port_nets design m ports e (λ port i. clock_name m port (subst (λ (ps : List Port). In port ps) same i))
