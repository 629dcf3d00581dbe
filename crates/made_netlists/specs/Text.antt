-- The text of a netlist that is made from a seed: a number of gates on four inputs and two latches.
use Rattle.std.specs.Prelude.{ℕ, ◌==◌, ◌+◌, ◌*◌, ◌-◌, nat_lt, cond, List, ◌++◌, map, flat_map, codes, decimal}
use Rattle.std.specs.List.{range_with_len}
use Rattle.made_netlists.specs.declared.gate.GateKind.{GateKind}
use Rattle.made_netlists.specs.declared.gate.GateKind.TheVariants.{And, Or, Xor, Nand}
use Rattle.made_netlists.specs.declared.gate.Gate.{Gate}
use Rattle.made_netlists.specs.Draws.{draw_after, state_after}

-- Nets are numbered: 0 to 3 are the inputs, 4 and 5 the latches, and then the gates in order.
abbrev pub net_of_gate : ℕ → ℕ
net_of_gate j = 6 + j

abbrev pub net_name : ℕ → List ℕ
net_name n =
    cond (nat_lt n 4) (codes "i" ++ decimal n)
    (cond (nat_lt n 6) (codes "q" ++ decimal (n - 4)) (codes "g" ++ decimal (n - 6)))

-- the kinds by their numbers, and the rows of each
abbrev pub drawn_kind : ℕ → GateKind
drawn_kind n = cond (n == 0) And (cond (n == 1) Or (cond (n == 2) Xor Nand))

abbrev pub kind_rows : GateKind → List ℕ
kind_rows And = codes "11 1\n"
kind_rows Or = codes "1- 1\n-1 1\n"
kind_rows Xor = codes "10 1\n01 1\n"
kind_rows Nand = codes "11 0\n"

-- Gate j takes three draws: its kind, and two inputs among the nets before its own.
abbrev pub drawn_gate : ℕ → ℕ → Gate
drawn_gate seed j = record {
  kind = drawn_kind (draw_after seed (3 * j) 4);
  first = draw_after seed (3 * j + 1) (net_of_gate j);
  second = draw_after seed (3 * j + 2) (net_of_gate j);
  out = net_of_gate j;
}

abbrev pub drawn_gates : ℕ → ℕ → List Gate
drawn_gates seed size = map (drawn_gate seed) (range_with_len 0 size)

-- The two draws after those of the gates give the nets of the data of latch 0 and of latch 1, among
-- all nets.
abbrev pub latch_data : ℕ → ℕ → ℕ → ℕ
latch_data seed size l = draw_after seed (3 * size + l) (net_of_gate size)

-- the lines of a gate
abbrev pub names_text : ℕ → ℕ → ℕ → List ℕ
names_text first second out =
    codes ".names " ++ (net_name first
    ++ (codes " " ++ (net_name second ++ (codes " " ++ (net_name out ++ codes "\n")))))

abbrev pub drawn_gate_text : Gate → List ℕ
drawn_gate_text gate = names_text gate.first gate.second gate.out ++ kind_rows gate.kind

-- the lines before the gates: the ports, with the last gate's net among the outputs, and the
-- latches with their data
abbrev pub head_text : ℕ → ℕ → ℕ → List ℕ
head_text last data0 data1 =
    codes ".model made\n.inputs i0 i1 i2 i3\n.outputs "
    ++ (net_name last ++ (codes " q0 q1\n.latch "
    ++ (net_name data0 ++ (codes " q0 0\n.latch " ++ (net_name data1 ++ codes " q1 1\n")))))

-- the text of a seed and a number of gates, which is at least one
abbrev pub made_text : ℕ → ℕ → List ℕ
made_text seed size =
    head_text (net_of_gate (size - 1)) (latch_data seed size 0) (latch_data seed size 1)
    ++ (flat_map drawn_gate_text (drawn_gates seed size) ++ codes ".end\n")

-- the state after the draws of this text
abbrev pub made_state : ℕ → ℕ → ℕ
made_state seed size = state_after seed (3 * size + 2)
