-- One node drives a class.
use Rattle.std.proofs.Common.{◌≡◌, refl, ap, ℕ, ◌<◌, length}
use Rattle.netlist_core.specs.declared.flat.Flat.{Flat}
use Rattle.netlist_meaning.specs.Flat.{FlatDriver, input, latch, node, IsSound, out_class}

number_of : FlatDriver → ℕ
number_of (input i) = i
number_of (latch i) = i
number_of (node i) = i

pub one_node : (flat : Flat) → IsSound flat → (a b : ℕ) → a < length flat.nodes → b < length flat.nodes → out_class flat a ≡ out_class flat b → a ≡ b
unfolding number_of
one_node flat s a b la lb e = ap number_of (s.one_driver (out_class flat b) (node a) (node b) (la, e) (lb, refl))
