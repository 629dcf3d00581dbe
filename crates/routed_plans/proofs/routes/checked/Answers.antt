use Rattle.std.proofs.Common.{ℕ, List, ◌++◌, subst}
use Rattle.std.proofs.lemmas.Result.{err_from_is_err_and}
use Rattle.std.specs.Prelude.{Option, IfSome}
use Rattle.ww_rule.specs.Patterns.{grid_of}
use Rattle.pattern_writing.specs.WrittenText.{pattern_text}
use Rattle.routed_plans.specs.declared.nets.SeenPort.{SeenPort}
use Rattle.routed_plans.specs.declared.routes.Page.{Page}
use Rattle.routed_plans.specs.Tables.{FitsPattern, NamesRouted}
use Rattle.routed_plans.proofs.Readable.{routed_spells}
use Rattle.routed_plans.proofs.Carrying.{carries_designs, shows_nets}
use Rattle.routed_plans.proofs.routes.checked.Goals as goal

pub page_of-requires : goal.page_of-requires
page_of-requires c = c.requires.compilable.1.sound.in_range

pub returns-in_err-lines : goal.returns-in_err-lines
returns-in_err-lines c =
    let p = (err_from_is_err_and c.from_residual.result c.from_residual.ensures.1).1 in
    record { routed = rw p tt; nets = rw p tt; lines = rw p tt }

pub returns-in_err-page : goal.returns-in_err-page
returns-in_err-page c =
    let p = (err_from_is_err_and c.from_residual-in_err-page.result c.from_residual-in_err-page.ensures.1).1 in
    record { routed = rw p tt; nets = rw p tt; lines = rw p tt }

pub returns-in-Ok-true-clause-routed : goal.returns-in-Ok-true-clause-routed
returns-in-Ok-true-clause-routed c =
    let flat = c.args.flat.now in
    let k = c.requires.compilable.1 in
    let shown : List (Option SeenPort) = c.args.seen.now in
    let pattern = c.in-Some.page.pattern in
    let ports = c.in-Some.page.ports in
    let names = subst (λ (o : Option Page). IfSome o (λ (page : Page). NamesRouted flat shown page.ports)) c.in-Some.is c.in_ok-page.ensures.names in
    let fits = subst (λ (o : Option Page). IfSome o (λ (page : Page). FitsPattern page.pattern page.ports)) c.in-Some.is c.in_ok-page.ensures.fits in
    let text : List ℕ = c.in_ok-lines.lines ++ pattern_text (grid_of pattern) ports in
    let spells = routed_spells flat shown pattern ports names fits k.named k.names k.places c.in_ok-lines.lines c.in_ok-lines.ensures in
    let drawn = c.in-Ok-true.ensures c.in-Ok-true.field-0-test in
    record {
      spells = spells;
      carries = carries_designs text flat (grid_of pattern) ports shown c.args.list.now drawn.0 k.sound c.requires.compilable.0 k.ordered
          spells names drawn.1 c.requires.computes drawn.2;
    }

pub returns-in-Ok-true-clause-nets : goal.returns-in-Ok-true-clause-nets
returns-in-Ok-true-clause-nets c =
    let flat = c.args.flat.now in
    let k = c.requires.compilable.1 in
    let shown : List (Option SeenPort) = c.args.seen.now in
    let pattern = c.in-Some.page.pattern in
    let ports = c.in-Some.page.ports in
    let names = subst (λ (o : Option Page). IfSome o (λ (page : Page). NamesRouted flat shown page.ports)) c.in-Some.is c.in_ok-page.ensures.names in
    let fits = subst (λ (o : Option Page). IfSome o (λ (page : Page). FitsPattern page.pattern page.ports)) c.in-Some.is c.in_ok-page.ensures.fits in
    let text : List ℕ = c.in_ok-lines.lines ++ pattern_text (grid_of pattern) ports in
    let spells = routed_spells flat shown pattern ports names fits k.named k.names k.places c.in_ok-lines.lines c.in_ok-lines.ensures in
    let drawn = c.in-Ok-true.ensures c.in-Ok-true.field-0-test in
    shows_nets text flat (grid_of pattern) ports shown c.args.list.now drawn.0 k.sound c.requires.compilable.0 k.ordered
    spells names drawn.1 c.requires.computes drawn.2 c.args.nets (c.are_enough.ensures c.if-not-are_enough.false)
