use Rattle.std.proofs.Common.{ap, ◌∙◌, refl}
use Rattle.netlist_rules.specs.declared.fault.FaultKind.TheVariants.{UnknownDirective, Unsupported, BadCount, RowOutside, BadRow, MixedCover, BadLatch, BadPin, DuplicateModel}
use Rattle.blif_reader.specs.Before.{name_word}
use Rattle.lists.specs.Names.{holds_name}
use Rattle.blif_reader.proofs.FirstRules.{rule}
use Rattle.blif_reader.proofs.faults.broken_inside.Goals as goal

pub returns : goal.returns
returns c =
    let l = c.args.line.now in
    let n = l.line in
    let is_named = c.contains-is_named.ensures ∙ ap (holds_name c.args.before.now.names) c.first_operand.ensures in
    c.broken_or.ensures n
    ∙ rule UnknownDirective n c.unknown_directive.ensures (c.broken_or-broken-8.ensures n
    ∙ rule Unsupported n c.unsupported.ensures (c.broken_or-broken-7.ensures n
    ∙ rule BadCount n c.count_word.ensures (c.broken_or-broken-6.ensures n
    ∙ rule RowOutside n c.outside_word.ensures (c.broken_or-broken-5.ensures n
    ∙ rule BadRow n c.bad_row_word.ensures (c.broken_or-broken-4.ensures n
    ∙ rule MixedCover n c.mixed_word.ensures (c.broken_or-broken-3.ensures n
    ∙ rule BadLatch n c.latch_word.ensures (c.broken_or-broken-2.ensures n
    ∙ rule BadPin n c.pin_word.ensures (c.broken_or-broken.ensures n
    ∙ rule DuplicateModel n (c.name_word.ensures ∙ ap (λ t. name_word t l) is_named) refl))))))))
