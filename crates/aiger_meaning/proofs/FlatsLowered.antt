-- The flat netlist of a circuit does what the circuit does.
use Rattle.aiger_meaning.specs.Laws.{FlatsOfAigsAreLowered}
use Rattle.aiger_meaning.proofs.Drivers.{sound}
use Rattle.aiger_meaning.proofs.Weights.{weighed}
use Rattle.aiger_meaning.proofs.PortNames.{named, in_names_are, out_names_are, starts}
use Rattle.aiger_meaning.proofs.Valuations.{is_flat, of_flat}

pub flats_of_aigs_are_lowered : FlatsOfAigsAreLowered
flats_of_aigs_are_lowered aig flat s small h = record {
  sound = sound aig flat s h small;
  weighed = weighed aig flat s small h;
  named = named aig flat s h;
  weight = h.weight;
  unlisted = h.unlisted;
  in_names = in_names_are aig flat s h;
  out_names = out_names_are aig flat s h;
  starts = starts aig flat s h;
  is_flat = λ inputs state bits v. is_flat aig flat s small h bits inputs state v;
  of_flat = λ inputs state bits v. of_flat aig flat s small h bits inputs state v;
}
