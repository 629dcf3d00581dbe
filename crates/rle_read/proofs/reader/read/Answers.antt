use Rattle.rle_read.proofs.OneAnswer.{answer, reads_answer, fault_answer, large_answer}
use Rattle.rle_read.proofs.reader.read.Goals as goal

pub returns : goal.returns
returns c =
    let text = c.args.text.now in
    let r = c.pattern_in.result in
    let h = answer text r c.pattern_in.ensures.pattern c.pattern_in.ensures.refused in
    record {
      pattern = c.pattern_in.ensures.pattern;
      refused = c.pattern_in.ensures.refused;
      reads = reads_answer text r h;
      faulty = fault_answer text r h;
      large = large_answer text r h;
    }
