use Rattle.std.proofs.Common.{◌≡◌, take, length, true}
use Rattle.std.specs.Prelude.{zip}
use Rattle.std.specs.List.{list_all}
use Rattle.netlist_meaning.specs.CoverValue.{fits}
use Rattle.netlist_meaning.specs.Flat.{class_of}
use Rattle.netlist_eval.specs.Eval.{class_bit}
use Rattle.netlist_eval.proofs.cover.product_holds.Given as goal

abbrev pub invariant-loop-character : goal.invariant-loop-character
invariant-loop-character l = list_all (λ at. fits at.0 (class_bit l.bits (class_of l.flat at.1))) (take (length l.yielded) (zip l.row l.ins)) ≡ true
