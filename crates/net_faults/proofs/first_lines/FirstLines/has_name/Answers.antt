use Rattle.std.proofs.Common.{◌∙◌, ap, sym, Some}
use Rattle.std.specs.Prelude.{is_some}
use Rattle.net_faults.proofs.NamedLines.{is_there, named_by}
use Rattle.net_faults.proofs.first_lines.FirstLines.has_name.Goals as goal

pub returns-in-Some : goal.returns-in-Some
returns-in-Some c = λ ports had.
    c.is_some.ensures ∙ ap is_some c.line.ensures ∙ is_there c.args.self.now c.in-Some.number ∙ named_by c.args.names.now c.args.self.now ports c.args.name.now (Some c.in-Some.number) (sym c.in-Some.is ∙ c.find.ensures) had
