-- Texts and what they mean: lines, models and faults, each computed from the definitions.
use Rattle.std.specs.Prelude.{◌≡◌, ℕ, Bool, true, false, List, [], ◌∷◌, map, codes, Some, None}
use Rattle.netlist_core.specs.declared.model.Trigger.{Trigger}
use Rattle.netlist_core.specs.declared.model.Trigger.TheVariants.{Rise, Fall}
use Rattle.netlist_core.specs.declared.model.Port.{Port}
use Rattle.netlist_core.specs.declared.model.Pin.{Pin}
use Rattle.netlist_core.specs.declared.model.Cover.{Cover}
use Rattle.netlist_core.specs.declared.model.LatchRow.{LatchRow}
use Rattle.netlist_core.specs.declared.model.Subckt.{Subckt}
use Rattle.netlist_core.specs.declared.model.Model.{Model}
use Rattle.blif_text.specs.declared.logical.Logical.{Logical}
use Rattle.netlist_rules.specs.declared.fault.FaultKind.{FaultKind}
use Rattle.netlist_rules.specs.declared.fault.FaultKind.TheVariants.{NoModelYet, UnknownDirective, Unsupported, BadCount, RowOutside, BadRow, MixedCover, BadLatch, BadPin, AfterEnd, DuplicateModel, DuplicatePort, MultipleDrivers, Undriven, NoSuchModel, NoSuchPin, PinTwice, PinMissing, Recursive, NoModel}
use Rattle.blif_text.specs.LogicalLines.{logical_lines}
use Rattle.blif_text.specs.Models.{models_of}
use Rattle.netlist_rules.specs.FaultNames.{fault_on}
use Rattle.netlist_core.specs.Names.{at_line}
use Rattle.blif_text.specs.Faults.{HasFault, IsDesignOf}

-- `Breaks`: the text has this fault; `IsFaultless`: the text has none
abbrev pub Breaks : List ℕ → FaultKind → ℕ → List ℕ → Type 0
Breaks text kind line word = HasFault (logical_lines text) (fault_on kind line word)

abbrev pub IsFaultless : List ℕ → Type 0
IsFaultless text = IsDesignOf text (record { models = models_of (logical_lines text) })

-- a design of these models
abbrev pub IsDesignWith : List ℕ → List Model → Type 0
IsDesignWith text models = IsDesignOf text (record { models = models })

abbrev pub logical : ℕ → List (List ℕ) → Logical
logical n words = record { line = n; words = words }

abbrev pub ports : ℕ → List (List ℕ) → List Port
ports line names = map (at_line line) names

abbrev pub cover : ℕ → List (List ℕ) → List ℕ → List (List ℕ) → Bool → Cover
cover line ins out rows on = record { line = line; ins = ins; out = out; rows = rows; on = on }

-- a latch without a control, and below it one with a control
abbrev pub free_latch : ℕ → List ℕ → List ℕ → ℕ → LatchRow
free_latch line input output init =
    record { line = line; input = input; output = output; kind = None; control = None; init = init }

abbrev pub clocked_latch : ℕ → List ℕ → List ℕ → Trigger → List ℕ → ℕ → LatchRow
clocked_latch line input output kind control init =
    record {
      line = line;
      input = input;
      output = output;
      kind = Some kind;
      control = Some control;
      init = init;
    }

abbrev pub pin : List ℕ → List ℕ → Pin
pin formal actual = record { formal = formal; actual = actual }

abbrev pub subckt : ℕ → List ℕ → List Pin → Subckt
subckt line model pins = record { line = line; model = model; pins = pins }

abbrev pub flat_model : ℕ → List ℕ → List Port → List Port → List Cover → List LatchRow → Model
flat_model line name ins outs covers latches =
    record {
      line = line;
      name = name;
      ins = ins;
      outs = outs;
      clocks = [];
      covers = covers;
      latches = latches;
      subckts = [];
    }

abbrev pub deep_model : ℕ → List ℕ → List Port → List Port → List Subckt → Model
deep_model line name ins outs subckts =
    record {
      line = line;
      name = name;
      ins = ins;
      outs = outs;
      clocks = [];
      covers = [];
      latches = [];
      subckts = subckts;
    }

-- Logical lines.
pub record LineExamples : Type 0 where
  -- `#` begins a comment
  pub comment : logical_lines (codes ".model m # the main one\n#\n\n.end # here\n")
      ≡ (logical 1 ((codes ".model") ∷ (codes "m") ∷ [])) ∷ (logical 4 ((codes ".end") ∷ [])) ∷ []
  -- a `\` joins the next line on, with nothing between
  pub continued : logical_lines (codes ".inputs a b\\\nc \\\n\td\n.end\n")
      ≡ (logical 1 ((codes ".inputs") ∷ (codes "a") ∷ (codes "bc") ∷ (codes "d") ∷ []))
      ∷ (logical 4 ((codes ".end") ∷ [])) ∷ []
  -- a comment is cut first, so a `\` before it joins
  pub comment_after_backslash : logical_lines (codes ".inputs d \\ # one\nclk # two\n.end")
      ≡ (logical 1 ((codes ".inputs") ∷ (codes "d") ∷ (codes "clk") ∷ []))
      ∷ (logical 3 ((codes ".end") ∷ [])) ∷ []
  -- a `\` in a comment joins nothing
  pub backslash_in_comment : logical_lines (codes ".inputs a # b \\\n.end\n")
      ≡ (logical 1 ((codes ".inputs") ∷ (codes "a") ∷ [])) ∷ (logical 2 ((codes ".end") ∷ [])) ∷ []
  -- at the end of the text there is nothing to join
  pub backslash_at_the_end : logical_lines (codes ".end\n.inputs a\\")
      ≡ (logical 1 ((codes ".end") ∷ [])) ∷ (logical 2 ((codes ".inputs") ∷ (codes "a") ∷ [])) ∷ []
  -- a `\` that a word follows is a byte like others
  pub backslash_within : logical_lines (codes "a\\b \\c\n")
      ≡ (logical 1 ((codes "a\\b") ∷ (codes "\\c") ∷ [])) ∷ []
  -- lines may end with bytes 13 and 10
  pub carriage_returns : logical_lines (codes ".inputs a \\\r\n b\r\n.end\r\n")
      ≡ (logical 1 ((codes ".inputs") ∷ (codes "a") ∷ (codes "b") ∷ []))
      ∷ (logical 3 ((codes ".end") ∷ [])) ∷ []
  -- a line without a word is skipped, also one that is joined
  pub skipped : logical_lines (codes "\\\n \t\\\n\n.end\n") ≡ (logical 4 ((codes ".end") ∷ [])) ∷ []
  -- a line has the number of its first physical line
  pub first_number : logical_lines (codes "\\\n\\\n.end\n") ≡ (logical 1 ((codes ".end") ∷ [])) ∷ []
  -- of two bytes 13 before a byte 10 the first is a blank
  pub two_returns : logical_lines (codes "a\\\r\r\nb\n") ≡ (logical 1 ((codes "ab") ∷ [])) ∷ []
  -- a byte 13 within a line is a blank
  pub return_within : logical_lines (codes "a\rb\n") ≡ (logical 1 ((codes "a") ∷ (codes "b") ∷ []))
      ∷ []
  -- `#` cuts a word
  pub hash_within : logical_lines (codes "a#b c\n") ≡ (logical 1 ((codes "a") ∷ [])) ∷ []
  -- of two `\` at the end one is dropped
  pub two_backslashes : logical_lines (codes "a\\\\\nb\n") ≡ (logical 1 ((codes "a\\b") ∷ [])) ∷ []
  -- a text of one `\` has no line
  pub only_backslash : logical_lines (codes "\\") ≡ []
  -- a text of one `#` has no line
  pub only_hash : logical_lines (codes "#") ≡ []
  -- vertical tab and form feed are blanks; a lone byte 13 is no word
  pub other_blanks : logical_lines (97 ∷ 11 ∷ 98 ∷ 12 ∷ 99 ∷ [])
      ≡ (logical 1 ((codes "a") ∷ (codes "b") ∷ (codes "c") ∷ [])) ∷ []
  pub lone_return : logical_lines (13 ∷ []) ≡ []

-- Models of texts without a fault.
pub record ModelExamples : Type 0 where
  -- the OR of two inputs
  pub or_gate : IsDesignWith
      (codes ".model or\n.inputs a b\n.outputs y\n.names a b y\n1- 1\n-1 1\n.end\n")
      ((flat_model 1 (codes "or") (ports 2 ((codes "a") ∷ (codes "b") ∷ []))
      (ports 3 ((codes "y") ∷ [])) ((cover 4 ((codes "a") ∷ (codes "b")
      ∷ []) (codes "y") ((codes "1-") ∷ (codes "-1") ∷ []) true) ∷ []) ([])) ∷ [])
  -- an annotation adds nothing
  pub annotated : IsDesignWith
      (codes ".model or\n.inputs a b\n.outputs y\n.area 2\n.names a b y\n10 1\n.end\n")
      ((flat_model 1 (codes "or") (ports 2 ((codes "a") ∷ (codes "b") ∷ []))
      (ports 3 ((codes "y") ∷ [])) ((cover 5 ((codes "a") ∷ (codes "b")
      ∷ []) (codes "y") ((codes "10") ∷ []) true) ∷ []) ([])) ∷ [])
  -- a latch that its own inverse feeds
  pub toggle : IsDesignWith (codes ".model t\n.outputs q\n.latch n q 0\n.names q n\n0 1\n.end\n")
      ((flat_model 1 (codes "t") [] (ports 2 ((codes "q") ∷ []))
      ((cover 4 ((codes "q") ∷ []) (codes "n") ((codes "0") ∷ []) true) ∷ [])
      ((free_latch 3 (codes "n") (codes "q") 0) ∷ [])) ∷ [])
  -- a counter of two bits
  pub counter : IsDesignWith
      (codes ".model k\n.outputs q0 q1\n.latch n0 q0 0\n.latch n1 q1 0\n.names q0 n0\n0 1\n.names q0 q1 n1\n10 1\n01 1\n.end\n") ((flat_model 1 (codes "k") [] (ports 2 ((codes "q0") ∷ (codes "q1") ∷ [])) ((cover 5 ((codes "q0") ∷ []) (codes "n0") ((codes "0") ∷ []) true) ∷ (cover 7 ((codes "q0") ∷ (codes "q1") ∷ []) (codes "n1") ((codes "10") ∷ (codes "01") ∷ []) true) ∷ []) ((free_latch 3 (codes "n0") (codes "q0") 0) ∷ (free_latch 4 (codes "n1") (codes "q1") 0) ∷ [])) ∷ [])
  -- an adder of two bits, of two full adders
  pub adder : IsDesignWith
      (codes ".model add\n.inputs a0 a1 b0 b1 ci\n.outputs s0 s1 c\n.subckt fa a=a0 b=b0 c=ci s=s0 co=k\n.subckt fa a=a1 b=b1 c=k s=s1 co=c\n.end\n.model fa\n.inputs a b c\n.outputs s co\n.names a b c s\n100 1\n010 1\n001 1\n111 1\n.names a b c co\n11- 1\n1-1 1\n-11 1\n.end\n") ((deep_model 1 (codes "add") (ports 2 ((codes "a0") ∷ (codes "a1") ∷ (codes "b0") ∷ (codes "b1") ∷ (codes "ci") ∷ [])) (ports 3 ((codes "s0") ∷ (codes "s1") ∷ (codes "c") ∷ [])) ((subckt 4 (codes "fa") ((pin (codes "a") (codes "a0")) ∷ (pin (codes "b") (codes "b0")) ∷ (pin (codes "c") (codes "ci")) ∷ (pin (codes "s") (codes "s0")) ∷ (pin (codes "co") (codes "k")) ∷ [])) ∷ (subckt 5 (codes "fa") ((pin (codes "a") (codes "a1")) ∷ (pin (codes "b") (codes "b1")) ∷ (pin (codes "c") (codes "k")) ∷ (pin (codes "s") (codes "s1")) ∷ (pin (codes "co") (codes "c")) ∷ [])) ∷ [])) ∷ (flat_model 7 (codes "fa") (ports 8 ((codes "a") ∷ (codes "b") ∷ (codes "c") ∷ [])) (ports 9 ((codes "s") ∷ (codes "co") ∷ [])) ((cover 10 ((codes "a") ∷ (codes "b") ∷ (codes "c") ∷ []) (codes "s") ((codes "100") ∷ (codes "010") ∷ (codes "001") ∷ (codes "111") ∷ []) true) ∷ (cover 15 ((codes "a") ∷ (codes "b") ∷ (codes "c") ∷ []) (codes "co") ((codes "11-") ∷ (codes "1-1") ∷ (codes "-11") ∷ []) true) ∷ []) ([])) ∷ [])
  -- a latch with a control, whose inputs are on a continued line
  pub clocked : IsDesignWith
      (codes ".model m\n.inputs d \\\nclk # two\n.outputs q\n.latch d q re clk 2\n.end\n")
      ((flat_model 1 (codes "m") (ports 2 ((codes "d") ∷ (codes "clk") ∷ []))
      (ports 4 ((codes "q") ∷ [])) ([])
      ((clocked_latch 5 (codes "d") (codes "q") Rise (codes "clk") 2) ∷ [])) ∷ [])
  -- covers without inputs, without rows, and with rows that end in `0`
  pub constants : IsDesignWith
      (codes ".model c\n.inputs a\n.outputs x y z\n.names x\n.names y\n1\n.names a z\n0 0\n")
      ((flat_model 1 (codes "c") (ports 2 ((codes "a") ∷ []))
      (ports 3 ((codes "x") ∷ (codes "y") ∷ (codes "z") ∷ []))
      ((cover 4 [] (codes "x") [] true) ∷ (cover 5 [] (codes "y") ((codes "") ∷ []) true)
      ∷ (cover 7 ((codes "a") ∷ []) (codes "z") ((codes "0") ∷ []) false) ∷ []) ([])) ∷ [])
  -- latches of 2 to 5 operands; `NIL` is no control, and the type is then ignored
  pub latches : IsDesignWith
      (codes ".model l\n.inputs d c\n.outputs p q r s t\n.latch d p\n.latch d q 1\n.latch d r fe c\n.latch d s re c 0\n.latch d t fe NIL 2\n.end\n") ((flat_model 1 (codes "l") (ports 2 ((codes "d") ∷ (codes "c") ∷ [])) (ports 3 ((codes "p") ∷ (codes "q") ∷ (codes "r") ∷ (codes "s") ∷ (codes "t") ∷ [])) ([]) ((free_latch 4 (codes "d") (codes "p") 3) ∷ (free_latch 5 (codes "d") (codes "q") 1) ∷ (clocked_latch 6 (codes "d") (codes "r") Fall (codes "c") 3) ∷ (clocked_latch 7 (codes "d") (codes "s") Rise (codes "c") 0) ∷ (free_latch 8 (codes "d") (codes "t") 2) ∷ [])) ∷ [])
  -- a pin is cut at its first `=`
  pub pins : IsDesignWith (codes ".model m\n.inputs b=c\n.subckt s a=b=c\n.model s\n.inputs a\n")
      ((deep_model 1 (codes "m") (ports 2 ((codes "b=c") ∷ [])) []
      ((subckt 3 (codes "s") ((pin (codes "a") (codes "b=c")) ∷ [])) ∷ []))
      ∷ (deep_model 4 (codes "s") (ports 5 ((codes "a") ∷ [])) [] ([])) ∷ [])
  -- an inverter, without `.end`
  pub inverter : IsDesignWith (codes ".model n\n.inputs a\n.outputs y\n.names a y\n0 1\n")
      ((flat_model 1 (codes "n") (ports 2 ((codes "a") ∷ [])) (ports 3 ((codes "y") ∷ []))
      ((cover 4 ((codes "a") ∷ []) (codes "y") ((codes "0") ∷ []) true) ∷ []) []) ∷ [])
  -- a row that ends in `0`
  pub nand_gate : IsDesignWith
      (codes ".model or\n.inputs a b\n.outputs y\n.names a b y\n11 0\n.end\n")
      ((flat_model 1 (codes "or") (ports 2 ((codes "a") ∷ (codes "b") ∷ []))
      (ports 3 ((codes "y") ∷ [])) ((cover 4 ((codes "a") ∷ (codes "b")
      ∷ []) (codes "y") ((codes "11") ∷ []) false) ∷ []) []) ∷ [])
  -- the constant 1
  pub constant_one : IsDesignWith (codes ".model c\n.outputs y\n.names y\n1\n.end\n")
      ((flat_model 1 (codes "c") [] (ports 2 ((codes "y") ∷ []))
      ((cover 3 [] (codes "y") ((codes "") ∷ []) true) ∷ []) []) ∷ [])
  -- the constant 0
  pub constant_zero : IsDesignWith (codes ".model c\n.outputs y\n.names y\n.end\n")
      ((flat_model 1 (codes "c") [] (ports 2 ((codes "y") ∷ []))
      ((cover 3 [] (codes "y") [] true) ∷ []) []) ∷ [])
  -- a latch with init 1
  pub register : IsDesignWith (codes ".model r\n.inputs d\n.outputs q\n.latch d q 1\n.end\n")
      ((flat_model 1 (codes "r") (ports 2 ((codes "d") ∷ [])) (ports 3 ((codes "q") ∷ [])) []
      ((free_latch 4 (codes "d") (codes "q") 1) ∷ [])) ∷ [])
  -- two covers of one input each
  pub two_outputs : IsDesignWith
      (codes ".model x\n.inputs a b\n.outputs p q\n.names b p\n1 1\n.names a q\n1 1\n.end\n")
      ((flat_model 1 (codes "x") (ports 2 ((codes "a") ∷ (codes "b") ∷ []))
      (ports 3 ((codes "p") ∷ (codes "q") ∷ []))
      ((cover 4 ((codes "b") ∷ []) (codes "p") ((codes "1") ∷ []) true)
      ∷ (cover 6 ((codes "a") ∷ []) (codes "q") ((codes "1") ∷ []) true) ∷ []) []) ∷ [])
  -- a cover that reads its output: no fault of lines or models
  pub own_input : IsDesignWith (codes ".model m\n.inputs a\n.outputs x\n.names x a x\n11 1\n.end\n")
      ((flat_model 1 (codes "m") (ports 2 ((codes "a") ∷ [])) (ports 3 ((codes "x") ∷ []))
      ((cover 4 ((codes "x") ∷ (codes "a") ∷ []) (codes "x") ((codes "11") ∷ []) true) ∷ []) [])
      ∷ [])
  -- a model of nothing
  pub nothing : IsDesignWith (codes ".model m\n.end\n")
      ((flat_model 1 (codes "m") [] [] [] []) ∷ [])
  -- a made netlist
  pub made : IsDesignWith
      (codes ".model made\n.inputs i0 i1 i2 i3\n.outputs g1 q0 q1\n.latch i2 q0 0\n.latch i3 q1 1\n.names q0 i3 g0\n10 1\n01 1\n.names g0 g0 g1\n11 0\n.end\n") ((flat_model 1 (codes "made") (ports 2 ((codes "i0") ∷ (codes "i1") ∷ (codes "i2") ∷ (codes "i3") ∷ [])) (ports 3 ((codes "g1") ∷ (codes "q0") ∷ (codes "q1") ∷ [])) ((cover 6 ((codes "q0") ∷ (codes "i3") ∷ []) (codes "g0") ((codes "10") ∷ (codes "01") ∷ []) true) ∷ (cover 9 ((codes "g0") ∷ (codes "g0") ∷ []) (codes "g1") ((codes "11") ∷ []) false) ∷ []) ((free_latch 4 (codes "i2") (codes "q0") 0) ∷ (free_latch 5 (codes "i3") (codes "q1") 1) ∷ [])) ∷ [])

-- Texts without a fault.
pub record FaultlessExamples : Type 0 where
  -- a clock net may be read in a model: that is a fault of places
  pub clock_read : IsFaultless
      (codes ".model m\n.inputs d clk\n.outputs q y\n.latch d q re clk 2\n.names clk y\n1 1\n")
  -- a text that begins with `.model`
  pub begun : IsFaultless (codes ".model m\n.inputs a\n")
  -- each directive that begins with `.default_` is an annotation
  pub default_directive : IsFaultless (codes ".model m\n.default_input_arrival 1 2\n.area\n.end\n")
  -- `.param` is one too
  pub parameter : IsFaultless (codes ".model m\n.param size 4\n.end\n")
  -- lists of ports may be empty
  pub empty_lists : IsFaultless (codes ".model m\n.inputs\n.outputs\n.clock\n.end\n")
  -- the latch type `re` is accepted
  pub rising_latch : IsFaultless (codes ".model m\n.inputs a c\n.outputs q\n.latch a q re c\n")
  -- a row of a cover without inputs
  pub constant_row : IsFaultless (codes ".model m\n.outputs y\n.names y\n1\n")
  -- rows of one output
  pub rows_alike : IsFaultless (codes ".model m\n.inputs a\n.outputs y\n.names a y\n1 0\n0 0\n")
  -- two covers, each with an output of its own
  pub covers_apart : IsFaultless
      (codes ".model m\n.inputs a\n.outputs y z\n.names a y\n1 1\n.names a z\n1 0\n")
  -- `.model` may follow `.end`
  pub model_after_end : IsFaultless (codes ".model m\n.end\n.model n\n.end\n")
  -- `.end` may be missing
  pub no_end : IsFaultless (codes ".model m\n.model n\n")
  -- a name in `.inputs` and `.clock` is one input
  pub input_and_clock : IsFaultless
      (codes ".model m\n.inputs a c\n.clock c\n.outputs a2\n.names a a2\n1 1\n")
  -- the control `NIL` is no net, so it needs no driver
  pub no_control : IsFaultless (codes ".model m\n.inputs a\n.outputs q\n.latch a q re NIL 0\n")
  -- a model that is placed with all of its pins
  pub placed : IsFaultless
      (codes ".model m\n.inputs a\n.outputs y\n.subckt s p=a q=y\n.end\n.model s\n.inputs p\n.outputs q\n.names p q\n1 1\n.end\n")
  -- an output formal may have no pin
  pub open_output : IsFaultless
      (codes ".model m\n.inputs a\n.subckt s p=a\n.end\n.model s\n.inputs p\n.outputs q\n.names p q\n1 1\n.end\n")
  -- one net may stand under two columns, and at two pins
  pub same_net_twice : IsFaultless
      (codes ".model m\n.inputs a\n.outputs y\n.names a a y\n11 1\n.subckt s p=a q=a\n.model s\n.inputs p q\n")

-- Texts with a fault of their lines, or with no line.
pub record LineFaultExamples : Type 0 where
  pub no_text : Breaks (codes "") NoModel 1 (codes "-")
  pub only_comments : Breaks (codes "# nothing\n\n") NoModel 1 (codes "-")
  pub before_model : Breaks (codes ".inputs a\n") NoModelYet 1 (codes ".inputs")
  pub unknown_before_model : Breaks (codes "\n\n.foo\n.model m\n") NoModelYet 3 (codes ".foo")
  pub unknown_directive : Breaks (codes ".model m\n.foo\n") UnknownDirective 2 (codes ".foo")
  pub lone_dot : Breaks (codes ".model m\n. a\n") UnknownDirective 2 (codes ".")
  pub gate : Breaks (codes ".model m\n.gate nand2 A=a\n") Unsupported 2 (codes ".gate")
  pub active_high : Breaks
      (codes ".model m\n.inputs a c\n.outputs q\n.latch a q ah c\n") Unsupported 4 (codes "ah")
  pub asynchronous : Breaks
      (codes ".model m\n.inputs a c\n.outputs q\n.latch a q as c 7\n") Unsupported 4 (codes "as")
  pub active_low : Breaks
      (codes ".model m\n.inputs a c\n.outputs q\n.latch a q al c\n") Unsupported 4 (codes "al")
  pub connection : Breaks (codes ".model m\n.inputs a\n.conn a b\n") Unsupported 3 (codes ".conn")
  pub two_names : Breaks (codes ".model m n\n") BadCount 1 (codes ".model")
  pub no_name : Breaks (codes ".model\n") BadCount 1 (codes ".model")
  pub end_with_operand : Breaks (codes ".model m\n.end m\n") BadCount 2 (codes ".end")
  pub cover_of_nothing : Breaks (codes ".model m\n.names\n") BadCount 2 (codes ".names")
  pub place_of_nothing : Breaks (codes ".model m\n.subckt\n") BadCount 2 (codes ".subckt")
  pub row_after_ports : Breaks (codes ".model m\n.inputs a\n1 1\n") RowOutside 3 (codes "1")
  pub row_after_annotation : Breaks
      (codes ".model or\n.inputs a b\n.outputs y\n.names a b y\n.area 2\n10 1\n.end\n") RowOutside 6
      (codes "10")
  pub row_in_next_model : Breaks (codes ".model m\n.names y\n.model n\n1\n") RowOutside 4
      (codes "1")
  pub row_without_inputs : Breaks
      (codes ".model m\n.inputs a\n.outputs y\n.names a y\n1\n") BadRow 5 (codes "1")
  pub row_with_dash : Breaks (codes ".model m\n.names y\n- 1\n") BadRow 3 (codes "-")
  pub row_too_long : Breaks (codes ".model m\n.inputs a\n.names a y\n1- 1\n") BadRow 4 (codes "1-")
  pub row_of_three : Breaks (codes ".model m\n.inputs a b\n.names a b y\n1 1 1\n") BadRow 4
      (codes "1")
  pub row_with_two : Breaks (codes ".model m\n.inputs a\n.names a y\n2 1\n") BadRow 4 (codes "2")
  pub output_dash : Breaks (codes ".model m\n.inputs a\n.names a y\n1 -\n") BadRow 4 (codes "1")
  pub mixed_cover : Breaks
      (codes ".model m\n.inputs a\n.outputs y\n.names a y\n1 1\n0 0\n") MixedCover 6 (codes "0")
  pub mixed_constant : Breaks (codes ".model m\n.names y\n1\n1\n0\n1\n") MixedCover 5 (codes "0")
  pub latch_of_one : Breaks (codes ".model m\n.latch a\n") BadLatch 2 (codes ".latch")
  pub latch_of_six : Breaks (codes ".model m\n.latch a q re c 0 0\n") BadLatch 2 (codes ".latch")
  pub init_of_two_digits : Breaks (codes ".model m\n.latch a q 00\n") BadLatch 2 (codes ".latch")
  pub init_four : Breaks (codes ".model m\n.latch a q re c 4\n") BadLatch 2 (codes ".latch")
  pub latch_type : Breaks (codes ".model m\n.latch a q rise c\n") BadLatch 2 (codes ".latch")
  pub type_for_an_init : Breaks (codes ".model m\n.latch a b ah\n") BadLatch 2 (codes ".latch")
  pub type_of_five : Breaks (codes ".model m\n.latch a q rise c 0\n") BadLatch 2 (codes ".latch")
  pub init_four_of_three : Breaks (codes ".model m\n.latch a q 4\n") BadLatch 2 (codes ".latch")
  pub pin_alone : Breaks (codes ".model m\n.subckt s a=x b c=\n") BadPin 2 (codes "b")
  pub pin_without_actual : Breaks (codes ".model m\n.subckt s a=\n") BadPin 2 (codes "a=")
  pub pin_without_formal : Breaks (codes ".model m\n.subckt s =a\n") BadPin 2 (codes "=a")
  pub after_end : Breaks (codes ".model m\n.end\n.names y\n") AfterEnd 3 (codes ".names")
  pub unknown_after_end : Breaks (codes ".model m\n.end\n.foo\n") AfterEnd 3 (codes ".foo")
  pub end_after_end : Breaks (codes ".model m\n.end\n.end\n") AfterEnd 3 (codes ".end")
  pub same_model : Breaks (codes ".model m\n.end\n.model m\n") DuplicateModel 3 (codes "m")
  pub earliest_line : Breaks (codes ".model m\n.names\n.foo\n") BadCount 2 (codes ".names")
  pub lines_before_models : Breaks (codes ".model m\n.inputs a a\n.latch a\n") BadLatch 3
      (codes ".latch")
  pub end_before_model : Breaks (codes ".end\n") NoModelYet 1 (codes ".end")
  pub row_before_model : Breaks (codes "1 1\n.model m\n") NoModelYet 1 (codes "1")
  pub annotation_before_model : Breaks (codes ".area 1\n.model m\n") NoModelYet 1 (codes ".area")
  pub capital_directive : Breaks (codes ".model m\n.Model n\n") UnknownDirective 2 (codes ".Model")
  pub bare_default : Breaks (codes ".model m\n.default 1\n") UnknownDirective 2 (codes ".default")
  pub default_dash : Breaks (codes ".model m\n.default-x 1\n") UnknownDirective 2
      (codes ".default-x")
  pub active_high_of_none : Breaks (codes ".model m\n.latch a q ah NIL\n") Unsupported 2
      (codes "ah")
  pub latch_of_three_words : Breaks (codes ".model m\n.latch a q NIL\n") BadLatch 2 (codes ".latch")
  pub latch_alone : Breaks (codes ".model m\n.latch\n") BadLatch 2 (codes ".latch")
  pub other_type_of_none : Breaks (codes ".model m\n.latch a q foo NIL\n") BadLatch 2
      (codes ".latch")
  pub constant_of_two_words : Breaks (codes ".model m\n.names y\n1 1\n") BadRow 3 (codes "1")
  pub output_of_two_digits : Breaks (codes ".model m\n.inputs a\n.names a y\n1 11\n") BadRow 4
      (codes "1")
  pub pin_before_model_of_it : Breaks (codes ".model m\n.subckt z b=c\n.subckt s a\n") BadPin 3
      (codes "a")
  pub row_after_end : Breaks (codes ".model m\n.names y\n.end\n1\n") AfterEnd 4 (codes "1")
  pub annotation_after_end : Breaks (codes ".model m\n.end\n.area 2\n") AfterEnd 3 (codes ".area")

-- Texts with a fault of their models.
pub record ModelFaultExamples : Type 0 where
  pub input_twice : Breaks (codes ".model m\n.inputs a b\n.inputs c b a\n") DuplicatePort 3
      (codes "b")
  pub input_twice_on_a_line : Breaks (codes ".model m\n.inputs a a\n") DuplicatePort 2 (codes "a")
  pub clock_twice : Breaks (codes ".model m\n.clock c\n.clock c\n") DuplicatePort 3 (codes "c")
  pub output_twice : Breaks (codes ".model m\n.outputs y y\n") DuplicatePort 2 (codes "y")
  pub input_and_output : Breaks (codes ".model m\n.inputs a\n.outputs a\n") DuplicatePort 3
      (codes "a")
  pub output_and_clock : Breaks
      (codes ".model m\n.outputs c\n.clock c\n.inputs c\n") DuplicatePort 3 (codes "c")
  pub clock_and_output : Breaks (codes ".model m\n.clock c\n.outputs c\n") DuplicatePort 3
      (codes "c")
  pub doubled_both_ways : Breaks (codes ".model m\n.outputs d\n.clock a d a\n") DuplicatePort 3
      (codes "d")
  pub output_before_double : Breaks (codes ".model m\n.outputs b\n.inputs b a a\n") DuplicatePort 3
      (codes "b")
  pub second_model : Breaks (codes ".model m\n.outputs y\n.model n\n.inputs a a\n") DuplicatePort 4
      (codes "a")
  pub driven_input : Breaks (codes ".model m\n.inputs a\n.names a\n1\n") MultipleDrivers 3
      (codes "a")
  pub input_driven_before : Breaks (codes ".model m\n.names a\n1\n.inputs a\n") MultipleDrivers 4
      (codes "a")
  pub clocked_input_driven : Breaks
      (codes ".model m\n.clock a\n.names a\n.inputs a\n") MultipleDrivers 3 (codes "a")
  pub two_covers : Breaks (codes ".model m\n.names y\n1\n.outputs y\n.names y\n") MultipleDrivers 5
      (codes "y")
  pub cover_and_latch : Breaks (codes ".model m\n.names y\n.latch y y\n") MultipleDrivers 3
      (codes "y")
  pub output_pin_twice : Breaks
      (codes ".model m\n.subckt s q=y q=y\n.model s\n.outputs q\n.names q\n") MultipleDrivers 2
      (codes "y")
  pub undriven_cover_input : Breaks (codes ".model m\n.outputs y\n.names z y\n1 1\n") Undriven 3
      (codes "z")
  pub undriven_output : Breaks (codes ".model m\n.outputs y\n") Undriven 2 (codes "y")
  pub undriven_control : Breaks (codes ".model m\n.inputs a\n.latch a q re c 0\n") Undriven 3
      (codes "c")
  pub undriven_latch : Breaks (codes ".model m\n.latch a q re c 0\n") Undriven 2 (codes "a")
  pub undriven_pin : Breaks (codes ".model m\n.subckt s p=a\n.model s\n.inputs p\n") Undriven 2
      (codes "a")
  pub undriven_first : Breaks (codes ".model m\n.names z x y\n.outputs w\n") Undriven 2 (codes "z")
  pub no_such_model : Breaks (codes ".model m\n.outputs y\n.subckt z a=y\n") NoSuchModel 3
      (codes "z")
  pub no_such_pin : Breaks
      (codes ".model m\n.inputs a\n.subckt s q=a\n.end\n.model s\n.inputs p\n.end\n") NoSuchPin 3
      (codes "q")
  pub no_such_pin_drives : Breaks
      (codes ".model m\n.outputs y\n.subckt s r=y\n.model s\n") NoSuchPin 3 (codes "r")
  pub pin_twice : Breaks
      (codes ".model m\n.inputs a\n.subckt s p=a p=a\n.end\n.model s\n.inputs p\n.end\n") PinTwice 3
      (codes "p")
  pub pin_missing : Breaks
      (codes ".model m\n.inputs a\n.subckt s\n.end\n.model s\n.inputs p\n.end\n") PinMissing 3
      (codes "p")
  pub first_pin_missing : Breaks
      (codes ".model m\n.subckt s\n.model s\n.clock c\n.inputs p\n") PinMissing 2 (codes "c")
  pub lowest_before_earliest : Breaks
      (codes ".model m\n.outputs y\n.names w\n.names w\n") MultipleDrivers 4 (codes "w")
  pub later_model_lower_rule : Breaks
      (codes ".model m\n.outputs y\n.model n\n.inputs a a\n") DuplicatePort 4 (codes "a")
  pub drivers_of_one_line : Breaks
      (codes ".model m\n.names x\n.names y\n.subckt s p=y q=x\n.model s\n.outputs q p\n.names q\n.names p\n") MultipleDrivers 4 (codes "y")
  pub formals_of_one_line : Breaks
      (codes ".model m\n.inputs n\n.subckt s a=n b=n b=n a=n\n.model s\n.inputs a b\n") PinTwice 3
      (codes "b")
  pub missing_in_text_order : Breaks
      (codes ".model m\n.inputs n\n.subckt s c=n\n.model s\n.inputs b\n.clock a c\n") PinMissing 3
      (codes "b")
  pub unknown_pin_is_read : Breaks
      (codes ".model m\n.outputs y\n.names x y\n.subckt z a=x\n") NoSuchModel 4 (codes "z")
  pub no_model_before_circle : Breaks (codes ".model m\n.subckt m\n.subckt z\n") NoSuchModel 3
      (codes "z")

-- Texts with a circle of models.
pub record CircleExamples : Type 0 where
  pub places_itself : Breaks (codes ".model m\n.subckt m\n") Recursive 2 (codes "m")
  pub places_each_other : Breaks (codes ".model a\n.subckt b\n.model b\n.subckt a\n") Recursive 2
      (codes "a b")
  pub leads_to_circle : Breaks
      (codes ".model a\n.subckt b\n.end\n.model b\n.subckt b\n") Recursive 5 (codes "b")
  pub circle_of_three : Breaks
      (codes ".model a\n.subckt d\n.subckt b\n.model b\n.subckt c\n.model c\n.subckt a\n.model d\n") Recursive 3 (codes "a b c")
  pub circle_beside_the_main_model : Breaks (codes ".model m\n.model a\n.subckt a\n") Recursive 3
      (codes "a")
  pub on_two_circles : Breaks
      (codes ".model a\n.subckt b\n.model b\n.subckt a\n.subckt c\n.model c\n.subckt a\n") Recursive 2 (codes "a b")
  pub on_the_other_circle : Breaks
      (codes ".model a\n.subckt b\n.model b\n.subckt a\n.subckt c\n.model c\n.subckt a\n") Recursive 2 (codes "a b c")
