-- The text is a netlist.
use Rattle.std.proofs.Common.{ℕ, ◌+◌, ◌*◌, ◌≤◌, arith}
use Rattle.netlist_meaning.specs.Weight.{weight}
use Rattle.made_netlists.specs.Design.{made_design}
use Rattle.made_netlists.proofs.Read.{reads_as_made}
use Rattle.made_summary.specs.MadeNetlists.{MadeAreNetlists}
use Rattle.made_summary.proofs.Weights.{have_weights}
use Rattle.made_summary.proofs.Clocks.{no_clock_fault}
use Rattle.made_summary.proofs.Loops.{no_loop}

pub are_netlists : MadeAreNetlists
are_netlists seed size some few =
    let w : ℕ = weight (made_design seed size) in
    let bound : w ≤ 11 + 7 * size = have_weights seed size in
    record {
      is = record { design_of = reads_as_made seed size some few; light = omega (arith, bound, few) };
      clocks = no_clock_fault seed size;
      no_loop = no_loop seed size few;
    }
