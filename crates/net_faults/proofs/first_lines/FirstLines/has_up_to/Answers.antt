use Rattle.std.proofs.Common.{◌∙◌, ap, false}
use Rattle.std.specs.Prelude.{nat_le}
use Rattle.std.specs.Option.{option_map_or}
use Rattle.net_faults.specs.Numbering.{numbered_port}
use Rattle.net_faults.proofs.first_lines.FirstLines.has_up_to.Goals as goal

pub returns : goal.returns
returns c = λ names ports is had.
    let line = c.args.word.word.line in
    c.is_up_to.ensures ∙ ap (λ known. option_map_or (λ other. nat_le other line) known false) c.line.ensures ∙ had.up_to (numbered_port c.args.word) c.args.word.number is.number
