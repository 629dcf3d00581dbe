use Rattle.std.proofs.Common.{◌∙◌, ap, false, set, Some}
use Rattle.std.specs.Prelude.{nat_le}
use Rattle.std.specs.Option.{option_map_or}
use Rattle.net_faults.specs.Numbering.{numbered_port}
use Rattle.net_faults.proofs.NamedLines.{least_of, lines_more}
use Rattle.net_faults.proofs.first_lines.FirstLines.insert.Goals as goal

pub returns-clause-stood : goal.returns-clause-stood
returns-clause-stood c = λ names ports is had.
    let line = c.args.word.word.line in
    c.is_up_to.ensures ∙ ap (λ known. option_map_or (λ other. nat_le other line) known false) c.line-known.ensures ∙ had.up_to (numbered_port c.args.word) c.args.word.number is.number

pub returns-clause-added : goal.returns-clause-added
returns-clause-added c = λ names ports is had.
    let lines = c.args.self.now.lines.items in
    let word = c.args.word in
    lines_more names c.args.self.now c.put.new.self word ports is
    (c.put.ensures ∙ ap (λ line. set lines word.number (Some line)) (c.lesser.ensures ∙ ap (least_of word.word.line) c.line-known.ensures))
    had
