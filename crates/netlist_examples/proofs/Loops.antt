-- A cover that reads its own output, by its name or through pins.
use Rattle.std.proofs.Common.{[], ◌∷◌, codes, refl, arith, Contains}
use Rattle.netlist_core.specs.declared.model.Pin.{Pin}
use Rattle.netlist_meaning.specs.Nets.{Net, net_at, Joined, by_pin, itself, reversed, followed}
use Rattle.netlist_meaning.specs.Loop.{Feeds}
use Rattle.netlist_examples.specs.Designs.{loop_main, circle_line, circle_main, buffer_model, circle_design}
use Rattle.netlist_examples.specs.Parts.{cover_with, pin_with}
use Rattle.netlist_examples.specs.Instances.{CoverReadsItself, IsLoopThroughPins}

pub cover_reads_itself : CoverReadsItself
cover_reads_itself =
    record {
      place = [];
      model = loop_main;
      cover = cover_with 4 (codes "x" ∷ codes "a" ∷ []) (codes "x") (codes "11" ∷ []);
      input = codes "x";
      has_model = refl;
      has_cover = (0, omega arith, refl);
      has_input = (0, omega arith, refl);
      reads = itself;
      writes = itself;
    }

circle_pin : (pin : Pin) → Contains circle_line.pins pin → Joined circle_design (net_at [] pin.actual) (net_at (0 ∷ []) pin.formal)
circle_pin pin has_pin =
    by_pin (record { model = circle_main; line = circle_line; pin = pin; number = 0; has_model = refl; has_line = refl; has_pin = has_pin; is_actual = refl; is_deeper = refl; is_formal = refl })

into : Joined circle_design (net_at [] (codes "x")) (net_at (0 ∷ []) (codes "i"))
into = circle_pin (pin_with (codes "i") (codes "x")) (0, omega arith, refl)

back : Joined circle_design (net_at (0 ∷ []) (codes "o")) (net_at [] (codes "x"))
back = reversed (circle_pin (pin_with (codes "o") (codes "x")) (1, omega arith, refl))

feeds : (read written : Net) → Joined circle_design read (net_at (0 ∷ []) (codes "i")) → Joined circle_design (net_at (0 ∷ []) (codes "o")) written → Feeds circle_design read written
feeds read written r w =
    record {
      place = 0 ∷ [];
      model = buffer_model;
      cover = cover_with 8 (codes "i" ∷ []) (codes "o") (codes "1" ∷ []);
      input = codes "i";
      has_model = refl;
      has_cover = (0, omega arith, refl);
      has_input = (0, omega arith, refl);
      reads = r;
      writes = w;
    }

pub loop_through_pins : IsLoopThroughPins
loop_through_pins =
    record {
      outside = feeds (net_at [] (codes "x")) (net_at [] (codes "x")) into back;
      input = feeds (net_at (0 ∷ []) (codes "i")) (net_at (0 ∷ []) (codes "i")) itself (followed back into);
      output = feeds (net_at (0 ∷ []) (codes "o")) (net_at (0 ∷ []) (codes "o")) (followed back into) itself;
    }
