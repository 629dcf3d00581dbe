use Rattle.std.proofs.Common.{sym, ap, ◌∙◌, ◌++◌}
use Rattle.std.specs.Prelude.{option_map}
use Rattle.pattern_reading.specs.Escapes.{unescaped}
use Rattle.port_table.proofs.EscapedNames.{byte_moved}
use Rattle.port_table.proofs.names.unescaped.Goals as goal

pub loop-rest-preserved : goal.loop-rest-preserved
loop-rest-preserved c =
    let so_far = c.loop-rest.bytes.items in
    ap (λ items. option_map (λ more. items ++ more) (unescaped c.in-Some.after.now)) c.in_ok-push.ensures.items
    ∙ byte_moved so_far c.in-Some.byte (unescaped c.in-Some.after.now)
    ∙ ap (option_map (λ more. so_far ++ more)) (sym c.in-Some.ensures.first)
    ∙ c.loop-rest.invariant
