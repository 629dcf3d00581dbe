-- Single designs, each with its text in a comment, where a slash stands for a line end.
use Rattle.netlist_examples.specs.Parts.{ports_with, cover_with, plain_latch, pin_with, subckt_with, design_with}
use Rattle.std.specs.Prelude.{ℕ, zero, suc, ◌+◌, ◌++◌, List, [], ◌∷◌, Some, codes, decimal}
use Rattle.netlist_core.specs.declared.model.Design.{Design}
use Rattle.netlist_core.specs.declared.model.Model.{Model}
use Rattle.netlist_core.specs.declared.model.Cover.{Cover}
use Rattle.netlist_core.specs.declared.model.Subckt.{Subckt}
use Rattle.netlist_core.specs.declared.model.Trigger.TheVariants.{Rise}
use Rattle.netlist_core.specs.Names.{Name}

-- .model t / .outputs q / .latch n q 0 / .names q n / 0 1 / .end, with any names for n and q
abbrev pub toggle_main : Name → Name → Model
toggle_main n q =
    record {
      line = 1;
      name = codes "t";
      ins = [];
      outs = ports_with 2 (q ∷ []);
      clocks = [];
      covers = cover_with 4 (q ∷ []) n (codes "0" ∷ []) ∷ [];
      latches = plain_latch 3 n q 0 ∷ [];
      subckts = [];
    }

abbrev pub toggle_design : Name → Name → Design
toggle_design n q = design_with (toggle_main n q ∷ [])

-- .model m / .inputs a / .outputs x / .names x a x / 11 1 / .end
abbrev pub loop_main : Model
loop_main =
    record {
      line = 1;
      name = codes "m";
      ins = ports_with 2 (codes "a" ∷ []);
      outs = ports_with 3 (codes "x" ∷ []);
      clocks = [];
      covers = cover_with 4 (codes "x" ∷ codes "a" ∷ []) (codes "x") (codes "11" ∷ []) ∷ [];
      latches = [];
      subckts = [];
    }

abbrev pub loop_design : Design
loop_design = design_with (loop_main ∷ [])

-- .names a b c s / 100 1 / 010 1 / 001 1 / 111 1, and .names a b c co / 11- 1 / 1-1 1 / -11 1
abbrev pub sum_cover : Cover
sum_cover =
    cover_with 10 (codes "a" ∷ codes "b" ∷ codes "c" ∷ []) (codes "s")
    (codes "100" ∷ codes "010" ∷ codes "001" ∷ codes "111" ∷ [])

abbrev pub carry_cover : Cover
carry_cover =
    cover_with 15 (codes "a" ∷ codes "b" ∷ codes "c" ∷ []) (codes "co")
    (codes "11-" ∷ codes "1-1" ∷ codes "-11" ∷ [])

-- .model fa / .inputs a b c / .outputs s co / .names a b c s / 100 1 / 010 1 / 001 1 / 111 1
-- / .names a b c co / 11- 1 / 1-1 1 / -11 1 / .end
abbrev pub full_adder : Model
full_adder =
    record {
      line = 7;
      name = codes "fa";
      ins = ports_with 8 (codes "a" ∷ codes "b" ∷ codes "c" ∷ []);
      outs = ports_with 9 (codes "s" ∷ codes "co" ∷ []);
      clocks = [];
      covers = sum_cover ∷ carry_cover ∷ [];
      latches = [];
      subckts = [];
    }

-- .subckt fa a=a0 b=b0 c=ci s=s0 co=k, and .subckt fa a=a1 b=b1 c=k s=s1 co=c
abbrev pub first_line : Subckt
first_line =
    subckt_with 4 (codes "fa") (pin_with (codes "a") (codes "a0")
    ∷ pin_with (codes "b") (codes "b0") ∷ pin_with (codes "c") (codes "ci")
    ∷ pin_with (codes "s") (codes "s0") ∷ pin_with (codes "co") (codes "k") ∷ [])

abbrev pub second_line : Subckt
second_line =
    subckt_with 5 (codes "fa") (pin_with (codes "a") (codes "a1")
    ∷ pin_with (codes "b") (codes "b1") ∷ pin_with (codes "c") (codes "k")
    ∷ pin_with (codes "s") (codes "s1") ∷ pin_with (codes "co") (codes "c") ∷ [])

-- .model add / .inputs a0 a1 b0 b1 ci / .outputs s0 s1 c / .subckt fa a=a0 b=b0 c=ci s=s0 co=k
-- / .subckt fa a=a1 b=b1 c=k s=s1 co=c / .end, and the full adder
abbrev pub adder_main : Model
adder_main =
    record {
      line = 1;
      name = codes "add";
      ins = ports_with 2 (codes "a0" ∷ codes "a1" ∷ codes "b0" ∷ codes "b1" ∷ codes "ci" ∷ []);
      outs = ports_with 3 (codes "s0" ∷ codes "s1" ∷ codes "c" ∷ []);
      clocks = [];
      covers = [];
      latches = [];
      subckts = first_line ∷ second_line ∷ [];
    }

abbrev pub adder_design : Design
adder_design = design_with (adder_main ∷ full_adder ∷ [])

-- i0, i1, .. in order, before those that are given
abbrev pub numbered_inputs : ℕ → List Name → List Name
numbered_inputs zero names = names
numbered_inputs (suc n) names = numbered_inputs n ((codes "i" ++ decimal n) ∷ names)

-- .model m / .inputs i0 .. (so many) / .outputs y / .names y / .end
abbrev pub wide_main : ℕ → Model
wide_main inputs =
    record {
      line = 1;
      name = codes "m";
      ins = ports_with 2 (numbered_inputs inputs []);
      outs = ports_with 3 (codes "y" ∷ []);
      clocks = [];
      covers = cover_with 4 [] (codes "y") [] ∷ [];
      latches = [];
      subckts = [];
    }

abbrev pub wide_design : ℕ → Design
wide_design inputs = design_with (wide_main inputs ∷ [])

-- h0, h1, ..
abbrev pub storey_name : ℕ → Name
storey_name n = codes "h" ++ decimal n

-- .model h0 / .names y / .end, and above it .model hj / .subckt h(j-1) / .subckt h(j-1) / .end,
-- from a line on
abbrev pub storey : ℕ → ℕ → Model
storey line zero =
    record {
      line = line;
      name = storey_name 0;
      ins = [];
      outs = [];
      clocks = [];
      covers = cover_with (line + 1) [] (codes "y") [] ∷ [];
      latches = [];
      subckts = [];
    }
storey line (suc n) =
    record {
      line = line;
      name = storey_name (suc n);
      ins = [];
      outs = [];
      clocks = [];
      covers = [];
      latches = [];
      subckts =
          subckt_with (line + 1) (storey_name n) [] ∷ subckt_with (line + 2) (storey_name n) []
          ∷ [];
    }

-- the models hn down to h0, from a line on
abbrev pub storeys : ℕ → ℕ → List Model
storeys line zero = storey line zero ∷ []
storeys line (suc n) = storey line (suc n) ∷ storeys (line + 4) n

abbrev pub tower_design : ℕ → Design
tower_design n = design_with (storeys 1 n)

-- .model m / .inputs d \ / clk # two / .outputs q / .latch d q re clk 2 / .end
abbrev pub clocked_main : Model
clocked_main =
    record {
      line = 1;
      name = codes "m";
      ins = ports_with 2 (codes "d" ∷ codes "clk" ∷ []);
      outs = ports_with 4 (codes "q" ∷ []);
      clocks = [];
      covers = [];
      latches =
          record {
            line = 5;
            input = codes "d";
            output = codes "q";
            kind = Some Rise;
            control = Some (codes "clk");
            init = 2;
          } ∷ [];
      subckts = [];
    }

abbrev pub clocked_design : Design
clocked_design = design_with (clocked_main ∷ [])

-- .model m / .inputs d clk / .outputs q y / .latch d q re clk 2 / .names clk y / 1 1
abbrev pub read_clock_main : Model
read_clock_main =
    record {
      line = 1;
      name = codes "m";
      ins = ports_with 2 (codes "d" ∷ codes "clk" ∷ []);
      outs = ports_with 3 (codes "q" ∷ codes "y" ∷ []);
      clocks = [];
      covers = cover_with 5 (codes "clk" ∷ []) (codes "y") (codes "1" ∷ []) ∷ [];
      latches =
          record {
            line = 4;
            input = codes "d";
            output = codes "q";
            kind = Some Rise;
            control = Some (codes "clk");
            init = 2;
          } ∷ [];
      subckts = [];
    }

abbrev pub read_clock_design : Design
read_clock_design = design_with (read_clock_main ∷ [])

-- .model m / .inputs d / .clock c e / .outputs p q / .latch d p re c / .latch d q re e / .end:
-- latches with two clocks
abbrev pub two_clocks_main : Model
two_clocks_main =
    record {
      line = 1;
      name = codes "m";
      ins = ports_with 2 (codes "d" ∷ []);
      outs = ports_with 4 (codes "p" ∷ codes "q" ∷ []);
      clocks = ports_with 3 (codes "c" ∷ codes "e" ∷ []);
      covers = [];
      latches =
          record {
            line = 5;
            input = codes "d";
            output = codes "p";
            kind = Some Rise;
            control = Some (codes "c");
            init = 3;
          }
          ∷ record {
            line = 6;
            input = codes "d";
            output = codes "q";
            kind = Some Rise;
            control = Some (codes "e");
            init = 3;
          }
          ∷ [];
      subckts = [];
    }

abbrev pub two_clocks_design : Design
two_clocks_design = design_with (two_clocks_main ∷ [])

-- .model r / .inputs d / .outputs q / .latch d q init / .end
abbrev pub latch_main : ℕ → Model
latch_main init =
    record {
      line = 1;
      name = codes "r";
      ins = ports_with 2 (codes "d" ∷ []);
      outs = ports_with 3 (codes "q" ∷ []);
      clocks = [];
      covers = [];
      latches = plain_latch 4 (codes "d") (codes "q") init ∷ [];
      subckts = [];
    }

abbrev pub latch_design : ℕ → Design
latch_design init = design_with (latch_main init ∷ [])

-- .model m / .outputs x / .subckt b i=x o=x / .end
abbrev pub circle_line : Subckt
circle_line =
    subckt_with 3 (codes "b") (pin_with (codes "i") (codes "x") ∷ pin_with (codes "o") (codes "x")
    ∷ [])

abbrev pub circle_main : Model
circle_main =
    record {
      line = 1;
      name = codes "m";
      ins = [];
      outs = ports_with 2 (codes "x" ∷ []);
      clocks = [];
      covers = [];
      latches = [];
      subckts = circle_line ∷ [];
    }

-- .model b / .inputs i / .outputs o / .names i o / 1 1 / .end
abbrev pub buffer_model : Model
buffer_model =
    record {
      line = 5;
      name = codes "b";
      ins = ports_with 6 (codes "i" ∷ []);
      outs = ports_with 7 (codes "o" ∷ []);
      clocks = [];
      covers = cover_with 8 (codes "i" ∷ []) (codes "o") (codes "1" ∷ []) ∷ [];
      latches = [];
      subckts = [];
    }

abbrev pub circle_design : Design
circle_design = design_with (circle_main ∷ buffer_model ∷ [])

-- .subckt s x=d k=clk z=r
abbrev pub shared_line : Subckt
shared_line =
    subckt_with 5 (codes "s") (pin_with (codes "x") (codes "d") ∷ pin_with (codes "k") (codes "clk")
    ∷ pin_with (codes "z") (codes "r") ∷ [])

-- .model m / .inputs d clk / .outputs q r / .latch d q re clk / .subckt s x=d k=clk z=r / .end
abbrev pub shared_main : Model
shared_main =
    record {
      line = 1;
      name = codes "m";
      ins = ports_with 2 (codes "d" ∷ codes "clk" ∷ []);
      outs = ports_with 3 (codes "q" ∷ codes "r" ∷ []);
      clocks = [];
      covers = [];
      latches =
          record {
            line = 4;
            input = codes "d";
            output = codes "q";
            kind = Some Rise;
            control = Some (codes "clk");
            init = 3;
          } ∷ [];
      subckts = shared_line ∷ [];
    }

-- .model s / .inputs x k / .outputs z / .latch x z re k / .end
abbrev pub shared_inner : Model
shared_inner =
    record {
      line = 7;
      name = codes "s";
      ins = ports_with 8 (codes "x" ∷ codes "k" ∷ []);
      outs = ports_with 9 (codes "z" ∷ []);
      clocks = [];
      covers = [];
      latches =
          record {
            line = 10;
            input = codes "x";
            output = codes "z";
            kind = Some Rise;
            control = Some (codes "k");
            init = 3;
          } ∷ [];
      subckts = [];
    }

abbrev pub shared_design : Design
shared_design = design_with (shared_main ∷ shared_inner ∷ [])

-- .model m / .inputs d c / .outputs p q / .latch d p re c / .latch d q / .end
abbrev pub half_clocked_main : Model
half_clocked_main =
    record {
      line = 1;
      name = codes "m";
      ins = ports_with 2 (codes "d" ∷ codes "c" ∷ []);
      outs = ports_with 3 (codes "p" ∷ codes "q" ∷ []);
      clocks = [];
      covers = [];
      latches =
          record {
            line = 4;
            input = codes "d";
            output = codes "p";
            kind = Some Rise;
            control = Some (codes "c");
            init = 3;
          }
          ∷ plain_latch 5 (codes "d") (codes "q") 3
          ∷ [];
      subckts = [];
    }

abbrev pub half_clocked_design : Design
half_clocked_design = design_with (half_clocked_main ∷ [])

-- .model m / .inputs a / .outputs y / .clock e / .names a e y / 11 1 / .end
abbrev pub read_main_clock_main : Model
read_main_clock_main =
    record {
      line = 1;
      name = codes "m";
      ins = ports_with 2 (codes "a" ∷ []);
      outs = ports_with 3 (codes "y" ∷ []);
      clocks = ports_with 4 (codes "e" ∷ []);
      covers = cover_with 5 (codes "a" ∷ codes "e" ∷ []) (codes "y") (codes "11" ∷ []) ∷ [];
      latches = [];
      subckts = [];
    }

abbrev pub read_main_clock_design : Design
read_main_clock_design = design_with (read_main_clock_main ∷ [])
