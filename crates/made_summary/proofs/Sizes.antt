-- Names and sizes.
use Rattle.std.proofs.Common.{◌≡◌, refl, ap, ◌∙◌, subst, ℕ, suc, List, [], ◌∷◌, length, map}
use Rattle.std.specs.Fmt.{digits}
use Rattle.std.proofs.lemmas.List.{length-map, append-nil}
use Rattle.netlist_core.specs.declared.model.Design.{Design}
use Rattle.netlist_core.specs.declared.model.Model.{Model}
use Rattle.netlist_core.specs.declared.model.Port.{Port}
use Rattle.netlist_meaning.specs.Places.{main_inputs, main_outputs}
use Rattle.netlist_meaning.specs.Nets.{Net, IsControl, IsInNames}
use Rattle.netlist_meaning.specs.FlatOf.{PortsWithoutControl, flat_port, flat_node}
use Rattle.netlist_meaning.specs.FlatOf.PortsWithoutControl.{none, kept, left_out}
use Rattle.netlist_meaning.proofs.SingleModel.{all_in_names}
use Rattle.netlist_meaning.proofs.Joined.{in_names_are_one}
use Rattle.made_netlists.specs.declared.gate.Gate.{Gate}
use Rattle.made_netlists.specs.Text.{drawn_gates}
use Rattle.made_netlists.specs.Design.{covers_from, line_after, made_design, made_model}
use Rattle.made_summary.specs.MadeNetlists.{made_in_names, made_out_names, MadeHaveNames, MadeHaveSizes}
use Rattle.made_summary.proofs.Clocks.{no_control}
use Rattle.made_summary.proofs.Weights.{how_many}

ins_are : (seed size : ℕ) → main_inputs (made_design seed size) ≡ made_in_names
unfolding digits
ins_are seed size = refl

outs_are : (seed size : ℕ) → main_outputs (made_design seed size) ≡ made_out_names size
unfolding digits
outs_are seed size = refl

pub have_names : MadeHaveNames
have_names seed size =
    let ins : IsInNames (made_design seed size) made_in_names = subst (IsInNames (made_design seed size)) (ins_are seed size) (all_in_names (made_design seed size) (no_control seed size) (main_inputs (made_design seed size))) in
    record {
      ins = ins;
      no_other_ins = λ names h. in_names_are_one (made_design seed size) names made_in_names h ins;
      outs = outs_are seed size;
    }

-- all ports are kept
all_kept : (design : Design) → ((net : Net) → ¬ IsControl design net) → {ports rest : List Port} → PortsWithoutControl design ports rest → rest ≡ ports
all_kept design away none = refl
all_kept design away (kept {port = p} h k) = ap (λ r. p ∷ r) (all_kept design away k)
all_kept design away (left_out h k) = absurd (away _ h)

how_many_covers : (line : ℕ) (gs : List Gate) → length (covers_from line gs) ≡ length gs
how_many_covers line [] = refl
how_many_covers line (g ∷ gs) = ap suc (how_many_covers (line_after g.kind line) gs)

pub have_sizes : MadeHaveSizes
have_sizes seed size flat is =
    let design : Design = made_design seed size in
    let model : Model = made_model seed size in
    let ports : is.in_ports ≡ model.ins = all_kept design (no_control seed size) is.are_in_ports in
    let nodes : flat.nodes ≡ map (flat_node design []) model.covers = is.nodes ∙ append-nil (map (flat_node design []) model.covers) in
    record {
      ins = ap length is.ins ∙ length-map is.in_ports (flat_port design) ∙ ap length ports;
      outs = ap length is.outs;
      latches = ap length is.latches;
      nodes = ap length nodes ∙ length-map model.covers (flat_node design []) ∙ how_many_covers 6 (drawn_gates seed size) ∙ how_many seed size;
      clocks = is.clocks;
    }
