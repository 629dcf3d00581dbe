-- The ports of a netlist by their names.
use Rattle.std.proofs.Common.{ℕ, ◌≡◌, ◌≤◌, sym, ◌∙◌, subst, List, arith}
use Rattle.netlist_core.specs.declared.model.Design.{Design}
use Rattle.netlist_core.specs.declared.flat.Flat.{Flat}
use Rattle.netlist_core.specs.Names.{Name}
use Rattle.netlist_meaning.specs.Flat.{IsInRange, names_of_ports}
use Rattle.netlist_meaning.specs.Nets.{IsInNames}
use Rattle.netlist_meaning.specs.Places.{main_outputs}
use Rattle.netlist_meaning.specs.Weight.{weight}
use Rattle.flat_designs.proofs.Sound.{flat_is_in_range}
use Rattle.flat_designs.proofs.Whole.{ports_are_flat}
use Rattle.netlist_text.specs.Parts.{AreParts}

pub in_range : (design : Design) (flat : Flat) (order : List ℕ) → AreParts design flat order → IsInRange flat
in_range design flat order p = flat_is_in_range design flat p.faultless p.is_flat (let light : weight design ≤ 8192 = p.light in omega (arith, light))

pub in_names : (design : Design) (flat : Flat) (order : List ℕ) (names : List Name) → AreParts design flat order → names ≡ names_of_ports flat flat.ins → IsInNames design names
in_names design flat order names p e = subst (IsInNames design) (sym e) (ports_are_flat design flat p.faultless p.is_flat).ins

pub out_names : (design : Design) (flat : Flat) (order : List ℕ) (names : List Name) → AreParts design flat order → names ≡ names_of_ports flat flat.outs → names ≡ main_outputs design
out_names design flat order names p e = e ∙ (ports_are_flat design flat p.faultless p.is_flat).outs
