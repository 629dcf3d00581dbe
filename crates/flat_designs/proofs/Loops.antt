-- Loops of a design are those of its flat netlist.
use Rattle.std.proofs.Common.{ℕ, ◌≡◌, inl, List, [], ◌∷◌, Some, map, refl, sym, ap, ◌∙◌, subst}
use Rattle.std.specs.Prelude.{Contains}
use Rattle.std.proofs.lemmas.Option.{get_or_from_slice_get}
use Rattle.netlist_core.specs.declared.model.Design.{Design}
use Rattle.netlist_core.specs.declared.model.Model.{Model}
use Rattle.netlist_core.specs.declared.model.Cover.{Cover}
use Rattle.netlist_core.specs.Names.{Name}
use Rattle.netlist_meaning.specs.Places.{Place, model_at}
use Rattle.netlist_meaning.specs.Nets.{Net, net_at, IsNet, Joined, reversed}
use Rattle.netlist_meaning.specs.Roots.{root}
use Rattle.netlist_meaning.specs.Loop.{IsCombinationalLoop}
use Rattle.netlist_rules.specs.ModelFaults.{AreFaultless}
use Rattle.lists.proofs.Members.{In, in_left, in_right, in_map, in_mapped, in_from, contains_from}
use Rattle.netlist_core.specs.declared.flat.Node.{Node}
use Rattle.netlist_core.specs.declared.flat.Flat.{Flat}
use Rattle.netlist_meaning.specs.Flat.{class_of, in_classes}
use Rattle.netlist_meaning.specs.FlatOrder.{FlatFeeds, FlatFeedsThrough, IsFlatLoop}
use Rattle.netlist_meaning.specs.InOrder.{nets_in_order}
use Rattle.netlist_meaning.specs.FlatOf.{id_of, class_of_net, IsFlatOf}
use Rattle.flat_designs.specs.Laws.{net_of_class, class_of_listed, LoopsAreFlat}
use Rattle.flat_designs.proofs.Names.{cover_name, is_net_of}
use Rattle.flat_designs.proofs.Classes.{net_there, class_is, joined_class, net_joined, root_joined, root_is_net}
use Rattle.flat_designs.proofs.Valuations.{NodeIs, node_is, is_node}

abbrev DesignFeeds : Design → Net → Net → Type 0
DesignFeeds design a b = Rattle.netlist_meaning.specs.Loop.Feeds design a b

-- the net of the class of a net is its root
net_of : (design : Design) → AreFaultless design.models → (net : Net) → IsNet design net → net_of_class design (class_of_net design net) ≡ root design net
net_of design faultless net n = get_or_from_slice_get (nets_in_order design) (class_of_net design net) (root design net) (net_at [] []) (net_there design faultless (root design net) (root_is_net design faultless net n))

input_net : (design : Design) (place : Place) (m : Model) (c : Cover) (name : Name) → model_at design place ≡ Some m → In c m.covers → In name c.ins → IsNet design (net_at place name)
input_net design place m c name is_m i j = is_net_of design place m name is_m (cover_name m c name i (in_left c.ins (c.out ∷ []) name j))

output_net : (design : Design) (place : Place) (m : Model) (c : Cover) → model_at design place ≡ Some m → In c m.covers → IsNet design (net_at place c.out)
output_net design place m c is_m i = is_net_of design place m c.out is_m (cover_name m c c.out i (in_right c.ins (c.out ∷ []) c.out (inl refl)))

-- the class of a net that is read or written is that class
read_joined : (design : Design) (flat : Flat) → AreFaultless design.models → IsFlatOf design flat → (net : Net) → IsNet design net → (class : ℕ) → class ≡ class_of flat (id_of design net.place net.name) → Joined design (net_of_class design class) net
read_joined design flat faultless h net n class e =
    subst (λ v. Joined design v net) (sym (ap (net_of_class design) (e ∙ class_is design flat faultless h net n) ∙ net_of design faultless net n)) (reversed (root_joined design faultless net))

feeds_design : (design : Design) (flat : Flat) → AreFaultless design.models → IsFlatOf design flat → (a b : ℕ) → FlatFeeds flat a b → DesignFeeds design (net_of_class design a) (net_of_class design b)
feeds_design design flat faultless h a b f =
    let r : NodeIs design flat f.node = node_is design flat h f.node f.is_node in
    let i : In a (map (class_of flat) (map (id_of design r.place) r.cover.ins)) = subst (λ (v : Node). In a (map (class_of flat) v.ins)) r.is_node (in_from (in_classes flat f.node) a f.reads) in
    let (id, j, e) = in_mapped (class_of flat) (map (id_of design r.place) r.cover.ins) a i in
    let (name, k, g) = in_mapped (id_of design r.place) r.cover.ins id j in
    let out : b ≡ class_of flat (id_of design r.place r.cover.out) = sym f.writes ∙ ap (λ (v : Node). class_of flat v.out) r.is_node in
    record {
      place = r.place;
      model = r.model;
      cover = r.cover;
      input = name;
      has_model = r.has_model;
      has_cover = contains_from r.model.covers r.cover r.has_cover;
      has_input = contains_from r.cover.ins name k;
      reads = read_joined design flat faultless h (net_at r.place name) (input_net design r.place r.model r.cover name r.has_model r.has_cover k) a (e ∙ ap (class_of flat) g);
      writes = reversed (read_joined design flat faultless h (net_at r.place r.cover.out) (output_net design r.place r.model r.cover r.has_model r.has_cover) b out);
    }

feeds_flat : (design : Design) (flat : Flat) → AreFaultless design.models → IsFlatOf design flat → (a b : Net) → DesignFeeds design a b → FlatFeeds flat (class_of_listed design flat a) (class_of_listed design flat b)
feeds_flat design flat faultless h a b f =
    let i : In f.cover f.model.covers = in_from f.model.covers f.cover f.has_cover in
    let j : In f.input f.cover.ins = in_from f.cover.ins f.input f.has_input in
    let (n, less, is) = is_node design flat faultless h f.place f.model f.cover f.has_model i in
    let read_net : IsNet design (net_at f.place f.input) = input_net design f.place f.model f.cover f.input f.has_model i j in
    let out_net : IsNet design (net_at f.place f.cover.out) = output_net design f.place f.model f.cover f.has_model i in
    let a_net : IsNet design a = net_joined design faultless (net_at f.place f.input) a (reversed f.reads) read_net in
    let b_net : IsNet design b = net_joined design faultless (net_at f.place f.cover.out) b f.writes out_net in
    let read_class : class_of_listed design flat a ≡ class_of flat (id_of design f.place f.input) = class_is design flat faultless h a a_net ∙ joined_class design faultless a (net_at f.place f.input) f.reads ∙ sym (class_is design flat faultless h (net_at f.place f.input) read_net) in
    let out_class_is : class_of flat (id_of design f.place f.cover.out) ≡ class_of_listed design flat b = class_is design flat faultless h (net_at f.place f.cover.out) out_net ∙ joined_class design faultless (net_at f.place f.cover.out) b f.writes ∙ sym (class_is design flat faultless h b b_net) in
    record {
      node = n;
      is_node = less;
      reads = subst (λ (v : Node). Contains (map (class_of flat) v.ins) (class_of_listed design flat a)) (sym is)
          (contains_from (map (class_of flat) (map (id_of design f.place) f.cover.ins)) (class_of_listed design flat a)
          (subst (λ class. In class (map (class_of flat) (map (id_of design f.place) f.cover.ins))) (sym read_class) (in_map (class_of flat) (map (id_of design f.place) f.cover.ins) (id_of design f.place f.input) (in_map (id_of design f.place) f.cover.ins f.input j))));
      writes = ap (λ (v : Node). class_of flat v.out) is ∙ out_class_is;
    }

through_design : (design : Design) (flat : Flat) → AreFaultless design.models → IsFlatOf design flat → (a : ℕ) (classes : List ℕ) (b : ℕ) → FlatFeedsThrough flat a classes b
    → Rattle.netlist_meaning.specs.Loop.FeedsThrough design (net_of_class design a) (map (net_of_class design) classes) (net_of_class design b)
through_design design flat faultless h a [] b f = feeds_design design flat faultless h a b f
through_design design flat faultless h a (class ∷ classes) b f = (feeds_design design flat faultless h a class f.0, through_design design flat faultless h class classes b f.1)

through_flat : (design : Design) (flat : Flat) → AreFaultless design.models → IsFlatOf design flat → (a : Net) (nets : List Net) (b : Net) → Rattle.netlist_meaning.specs.Loop.FeedsThrough design a nets b
    → FlatFeedsThrough flat (class_of_listed design flat a) (map (class_of_listed design flat) nets) (class_of_listed design flat b)
through_flat design flat faultless h a [] b f = feeds_flat design flat faultless h a b f
through_flat design flat faultless h a (net ∷ nets) b f = (feeds_flat design flat faultless h a net f.0, through_flat design flat faultless h net nets b f.1)

pub loops_are_flat : LoopsAreFlat
loops_are_flat design flat faultless h = record { of_flat = of_flat; is_flat = is_flat }
  where
    of_flat : (classes : List ℕ) → IsFlatLoop flat classes → IsCombinationalLoop design (map (net_of_class design) classes)
    of_flat [] l = l
    of_flat (class ∷ classes) l = through_design design flat faultless h class classes class l

    is_flat : (nets : List Net) → IsCombinationalLoop design nets → IsFlatLoop flat (map (class_of_listed design flat) nets)
    is_flat [] l = l
    is_flat (net ∷ nets) l = through_flat design flat faultless h net nets net l
