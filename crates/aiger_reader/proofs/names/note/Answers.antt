use Rattle.std.proofs.Common.{◌∙◌, sym, ap, []}
use Rattle.std.proofs.lemmas.List.{get_or_default}
use Rattle.aiger_reader.specs.Earlier.{number_of_name}
use Rattle.aiger_reader.proofs.EarlierNames.{own_name, added_name}
use Rattle.aiger_reader.proofs.names.note.Goals as goal

pub returns-then-is_number_at-clause-known : goal.returns-then-is_number_at-clause-known
returns-then-is_number_at-clause-known c = λ known fresh.
    own_name c.args.names.now c.args.i c.requires c.args.seen.now known
    (ap number_of_name (sym (c.as_slice-name.ensures ∙ c.index-names-i.is ∙ get_or_default c.args.names.now c.args.i _ [] c.requires)) ∙ sym c.number_of_name-number.ensures ∙ c.is_number_at.ensures c.if-is_number_at.true)

pub returns-clause-known : goal.returns-clause-known
returns-clause-known c = λ known fresh.
    added_name c.args.names.now c.args.i c.requires c.args.seen.now known c.as_slice-name.result c.insert.new.self
    (c.as_slice-name.ensures ∙ c.index-names-i.is ∙ get_or_default c.args.names.now c.args.i _ [] c.requires) c.in_ok-insert.ensures.updates
