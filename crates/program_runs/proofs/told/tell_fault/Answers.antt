use Rattle.std.proofs.Common.{◌++◌, ap, ◌∙◌, codes}
use Rattle.program_runs.proofs.SameTexts.{told}
use Rattle.program_runs.proofs.told.tell_fault.Goals as goal

pub returns : goal.returns
returns g c =
    let e = c.write_pieces.ensures in
    told _ _ _ _ _ (ap (λ digits. c.args.name.now ++ (codes " line " ++ (digits ++ codes "\n"))) (c.as_bytes.ensures.value ∙ c.format.ensures.text)) e.ok e.front e.cause
