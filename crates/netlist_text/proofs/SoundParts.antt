-- What the crates above ask of the flat netlist of a text.
use Rattle.std.proofs.Common.{ℕ, ◌≡◌, ◌≤◌, ◌<◌, ◌^◌, List, arith}
use Rattle.netlist_core.specs.declared.model.Design.{Design}
use Rattle.netlist_core.specs.declared.flat.Flat.{Flat}
use Rattle.netlist_meaning.specs.Weight.{weight}
use Rattle.netlist_meaning.specs.Flat.{IsSound, IsWeighed}
use Rattle.flat_designs.specs.Laws.{FlatIsSound, FlatIsWeighed}
use Rattle.netlist_text.specs.Parts.{AreParts}

module _ (design : Design) (flat : Flat) (order : List ℕ) (p : AreParts design flat order) where
  pub sound : FlatIsSound → IsSound flat
  sound law = law design flat p.faultless p.clocks p.is_flat (let light : weight design ≤ 8192 = p.light in omega (arith, light))

  pub weighed : FlatIsWeighed → IsWeighed flat
  weighed law = law design flat p.faultless p.is_flat (let light : weight design ≤ 8192 = p.light in omega (arith, light))

  pub small : flat.weight < 2 ^ 16
  small = let light : weight design ≤ 8192 = p.light in let same : flat.weight ≡ weight design = p.is_flat.weight in omega (arith, light, same)
