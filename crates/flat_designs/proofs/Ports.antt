-- The inputs of a model without a fault have different names.
use Rattle.std.proofs.Common.{ℕ, ◌≡◌, ◌≢◌, ◌⊎◌, inl, inr, List, [], ◌∷◌, ◌++◌, Bool, Some, slice_get, sym, subst}
use Rattle.netlist_core.specs.declared.model.Port.{Port}
use Rattle.netlist_core.specs.declared.model.Model.{Model}
use Rattle.netlist_core.specs.declared.model.Design.{Design}
use Rattle.netlist_meaning.specs.Nets.{net_at, IsControl}
use Rattle.netlist_rules.specs.declared.fault.FaultKind.TheVariants.{DuplicatePort}
use Rattle.netlist_rules.specs.ModelFaults.{AreFaultless, doubles_after, is_output_before, is_input_by_then}
use Rattle.lists.proofs.Members.{In}
use Rattle.flat_designs.proofs.Local.{Apart, no_repeat}
use Rattle.lists.proofs.Appends.{append_nil_left as none_left, append_nil_right as none_right}
use Rattle.netlist_meaning.specs.FlatOf.{PortsWithoutControl, kept, left_out}
use Rattle.flat_designs.proofs.Lists.{Pairs, one_of_pairs, pairs_map}
use Rattle.netlist_core.specs.Names.{Name, port_names}
use Rattle.flat_designs.proofs.Valuations.{port_kept}
use Rattle.flat_designs.proofs.Exists.{no_double}
use Rattle.flat_designs.proofs.Faultless.{clean_of}

abbrev pub OtherName : Port → Port → Type 0
OtherName p q = q.name ≢ p.name

apart_pairs : (ports : List Port) → Apart ports → Pairs OtherName ports
apart_pairs [] a = tt
apart_pairs (p ∷ ports) a = (a.0, apart_pairs ports a.1)

-- ports of which none doubles another
once : (test : Port → Bool) (ports : List Port) → doubles_after test [] ports ≡ [] → Pairs OtherName ports
once test ports e = apart_pairs ports (no_repeat ports (no_double test [] ports e))

pub inputs_apart : (models : List Model) → AreFaultless models → (m : Model) → In m models → Pairs OtherName m.ins
inputs_apart models faultless m i =
    once (is_output_before m) m.ins
    (none_left (doubles_after (is_output_before m) [] m.ins) (doubles_after (is_output_before m) [] m.clocks)
    (none_left (doubles_after (is_output_before m) [] m.ins ++ doubles_after (is_output_before m) [] m.clocks) (doubles_after (is_input_by_then m) [] m.outs) (clean_of models faultless DuplicatePort m i)))

pub outputs_apart : (models : List Model) → AreFaultless models → (m : Model) → In m models → Pairs OtherName m.outs
outputs_apart models faultless m i =
    once (is_input_by_then m) m.outs
    (none_right (doubles_after (is_output_before m) [] m.ins ++ doubles_after (is_output_before m) [] m.clocks) (doubles_after (is_input_by_then m) [] m.outs) (clean_of models faultless DuplicatePort m i))

-- so their names differ
pub names_apart : (ports : List Port) → Pairs OtherName ports → Pairs (λ a b. a ≢ b) (port_names ports)
names_apart ports a = pairs_map OtherName (λ (a b : Name). a ≢ b) (λ (p : Port). p.name) ports (λ p q other same. other (sym same)) a

pub kept_apart : (design : Design) (ports rest : List Port) → PortsWithoutControl design ports rest → Pairs OtherName ports → Pairs OtherName rest
kept_apart design [] rest Rattle.netlist_meaning.specs.FlatOf.PortsWithoutControl.none a = tt
kept_apart design (p ∷ ports) rest (kept {rest = others} away h) a = ((λ q i. a.0 q (port_kept design ports others q h i)), kept_apart design ports others h a.1)
kept_apart design (p ∷ ports) rest (left_out c h) a = kept_apart design ports rest h a.1

pub not_control : (design : Design) (ports rest : List Port) (p : Port) → PortsWithoutControl design ports rest → In p rest → ¬ IsControl design (net_at [] p.name)
not_control design [] rest p Rattle.netlist_meaning.specs.FlatOf.PortsWithoutControl.none i = absurd i
not_control design (q ∷ ports) rest p (kept {rest = others} away h) (inl e) = λ c. away (subst (λ (v : Port). IsControl design (net_at [] v.name)) e c)
not_control design (q ∷ ports) rest p (kept {rest = others} away h) (inr i) = not_control design ports others p h i
not_control design (q ∷ ports) rest p (left_out c h) i = not_control design ports rest p h i

pub kept_or_control : (design : Design) (ports rest : List Port) (p : Port) → PortsWithoutControl design ports rest → In p ports → In p rest ⊎ IsControl design (net_at [] p.name)
kept_or_control design [] rest p Rattle.netlist_meaning.specs.FlatOf.PortsWithoutControl.none i = absurd i
kept_or_control design (q ∷ ports) rest p (kept {rest = others} away h) (inl e) = inl (inl e)
kept_or_control design (q ∷ ports) rest p (kept {rest = others} away h) (inr i) = elim (kept_or_control design ports others p h i) as (λ _. In p (q ∷ others) ⊎ IsControl design (net_at [] p.name)) [ inl j ↦ inl (inr j) | inr c ↦ inr c ]
kept_or_control design (q ∷ ports) rest p (left_out c h) (inl e) = inr (subst (λ (v : Port). IsControl design (net_at [] v.name)) (sym e) c)
kept_or_control design (q ∷ ports) rest p (left_out c h) (inr i) = kept_or_control design ports rest p h i

-- two of one name are one
pub one_port : (ports : List Port) (i j : ℕ) (p q : Port) → Pairs OtherName ports → slice_get ports i ≡ Some p → slice_get ports j ≡ Some q → p.name ≡ q.name → i ≡ j
one_port ports i j p q a e g same = one_of_pairs OtherName ports i j p q a e g (λ other. other (sym same)) (λ other. other same)
