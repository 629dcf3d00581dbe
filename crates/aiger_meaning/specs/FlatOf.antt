-- The flat netlist of a circuit: a net for constant 0 and for each input, latch and gate, and one
-- more for what each latch reads next and for each output. Each net is a class of its own, by its
-- position. A gate is a cover of one row, which has a `0` for each odd literal.
use Rattle.std.specs.Prelude.{ℕ, suc, ◌≡◌, ◌==◌, ◌+◌, ◌%◌, true, false, cond, List, [], ◌∷◌, ◌++◌, length, map, replicate, None}
use Rattle.std.specs.List.{position_or_len, range_with_len}
use Rattle.netlist_core.specs.declared.flat.NetId.{NetId}
use Rattle.netlist_core.specs.declared.flat.Net.{Net as FlatNet}
use Rattle.netlist_core.specs.declared.flat.FlatPort.{FlatPort}
use Rattle.netlist_core.specs.declared.flat.FlatLatch.{FlatLatch}
use Rattle.netlist_core.specs.declared.flat.Node.{Node}
use Rattle.netlist_core.specs.declared.flat.Flat.{Flat}
use Rattle.netlist_core.specs.Names.{Name}
use Rattle.aiger_text.specs.declared.aig.AigLatch.{AigLatch}
use Rattle.aiger_text.specs.declared.aig.Aig.{Aig}
use Rattle.aiger_text.specs.EntryFaults.{even}
use Rattle.aiger_text.specs.SoundAig.{definitions, sides_of, input_names, output_names}
use Rattle.aiger_meaning.specs.Circuit.{aig_weight}

-- the literals that have a net of their own, in the order of the nets: constant 0, the inputs, the
-- latches, the left sides
abbrev pub own_literals : Aig → List ℕ
own_literals aig = 0 ∷ definitions aig

-- the net of a literal, itself or negated
abbrev pub net_of_literal : Aig → ℕ → ℕ
net_of_literal aig lit = position_or_len (λ own. own == even lit) (own_literals aig)

abbrev pub net_id : ℕ → NetId
net_id n = record { 0 = n }

-- what the nodes read, each with its output on the next net: first the gates, then a buffer for
-- what each latch reads next, and a buffer for each output
abbrev pub buffer : ℕ → List ℕ
buffer lit = lit ∷ []

abbrev pub node_reads : Aig → List (List ℕ)
node_reads aig =
    map sides_of aig.ands ++ map buffer
    (map (λ (latch : AigLatch). latch.next) aig.latches ++ aig.outputs)

-- the character that a row has for a literal: `1`, or `0` if the literal is odd
abbrev pub row_character : ℕ → ℕ
row_character lit = cond (lit % 2 == 0) 49 48

-- a node that is 1 when all these literals are 1
abbrev pub node_of : Aig → List ℕ → ℕ → Node
node_of aig lits out =
    record {
      line = 0;
      ins = map (λ lit. net_id (net_of_literal aig lit)) lits;
      out = net_id out;
      rows = map row_character lits ∷ [];
      on = true;
    }

abbrev pub nodes_from : Aig → ℕ → List (List ℕ) → List Node
nodes_from aig n [] = []
nodes_from aig n (lits ∷ rest) = node_of aig lits n ∷ nodes_from aig (suc n) rest

-- constant 0 is a cover without rows
abbrev pub zero_node : Node
zero_node = record { line = 0; ins = []; out = net_id 0; rows = []; on = true }

-- the net of the first gate, of the first buffer, and of the first output's buffer
abbrev pub first_gate : Aig → ℕ
first_gate aig = 1 + length aig.inputs + length aig.latches

abbrev pub first_buffer : Aig → ℕ
first_buffer aig = first_gate aig + length aig.ands

abbrev pub first_output : Aig → ℕ
first_output aig = first_buffer aig + length aig.latches

abbrev pub latch_between : ℕ → ℕ → AigLatch → FlatLatch
latch_between input output latch = record {
  line = 0;
  input = net_id input;
  output = net_id output;
  kind = None;
  control = None;
  init = cond (latch.reset == 1) 1 0;
}

abbrev pub latches_from : ℕ → ℕ → List AigLatch → List FlatLatch
latches_from input output [] = []
latches_from input output (latch ∷ latches) =
    latch_between input output latch ∷ latches_from (suc input) (suc output) latches

abbrev pub port_at : ℕ → FlatPort
port_at net = record { line = 0; net = net_id net }

abbrev pub ports_from : ℕ → ℕ → List FlatPort
ports_from net count = map port_at (range_with_len net count)

-- only the nets of ports have names
abbrev pub net_names : Aig → List Name
net_names aig =
    [] ∷ (input_names aig ++ (replicate
    (length aig.latches + length aig.ands + length aig.latches) [] ++ output_names aig))

abbrev pub nets_from : ℕ → List Name → List FlatNet
nets_from n [] = []
nets_from n (name ∷ names) = record { place = []; name = name; class = n } ∷ nets_from (suc n) names

pub record IsFlatOfAig (aig : Aig) (flat : Flat) : Type 0 where
  pub nets : flat.nets ≡ nets_from 0 (net_names aig)
  pub ins : flat.ins ≡ ports_from 1 (length aig.inputs)
  pub outs : flat.outs ≡ ports_from (first_output aig) (length aig.outputs)
  pub clocks : flat.clocks ≡ []
  pub nodes : flat.nodes ≡ zero_node ∷ nodes_from aig (first_gate aig) (node_reads aig)
  pub latches : flat.latches ≡ latches_from (first_buffer aig) (1 + length aig.inputs) aig.latches
  pub control : flat.control ≡ None
  pub weight : flat.weight ≡ aig_weight aig
  pub unlisted : flat.listed ≡ false
