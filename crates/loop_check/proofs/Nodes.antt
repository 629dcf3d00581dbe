-- Nodes, what they read and what they drive.
use Rattle.std.proofs.Common.{◌≡◌, subst, refl, sym, ap, ◌∙◌, ℕ, ◌<◌, ◌≤◌, List, length, get_or, arith, slice_get}
use Rattle.std.specs.Prelude.{Option, Some, None}
use Rattle.std.proofs.lemmas.List.{length-map}
use Rattle.std.proofs.lemmas.Option.{get_or_from_slice_get, none-some, same_Some}
use Rattle.netlist_core.specs.declared.flat.Flat.{Flat}
use Rattle.netlist_core.specs.declared.flat.Node.{Node}
use Rattle.netlist_meaning.specs.Flat.{IsSound, in_classes, class_of, no_node, node_at}
use Rattle.netlist_meaning.specs.FlatOrder.{IsDrivenBy}
use Rattle.loop_check.specs.Links.{IsDriverOf}
use Rattle.loop_check.specs.Tables.{IsDriverBefore}
use Rattle.netlist_meaning.proofs.OneNode.{one_node}

pub inputs_are : (flat : Flat) (n : ℕ) (it : Node) → slice_get flat.nodes n ≡ Some it → length (in_classes flat n) ≡ length it.ins
inputs_are flat n it e = ap (λ (xs : List ℕ). length xs) refl ∙ length-map (node_at flat n).ins (class_of flat) ∙ ap (λ (v : Node). length v.ins) (get_or_from_slice_get flat.nodes n it no_node e)

-- what the table tells of the class of an input is the driver of the input
pub driver_is : (flat : Flat) → IsSound flat → (n k : ℕ) (found : Option ℕ) → k < length (in_classes flat n) → IsDriverBefore flat (length flat.nodes) (get_or (in_classes flat n) k 0) found → IsDriverOf flat n k found
driver_is flat s n k None within none = ((λ b e. absurd (none-some b e)), λ b r. absurd (none b r.0 (sym r.2)))
driver_is flat s n k (Some d) within (less, drives) =
    ((λ b e. subst (IsDrivenBy flat n k) (same_Some d b e) (less, within, sym drives)), λ b r. ap Some (one_node flat s d b less r.0 (drives ∙ r.2)))

-- past the inputs nothing drives
pub past_inputs : (flat : Flat) (n k : ℕ) → length (in_classes flat n) ≤ k → IsDriverOf flat n k None
past_inputs flat n k past = ((λ b e. absurd (none-some b e)), λ b r. absurd (let within : k < length (in_classes flat n) = r.1 in omega arith))
