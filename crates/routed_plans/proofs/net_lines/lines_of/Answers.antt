use Rattle.std.proofs.Common.{◌++◌, ◌∙◌, ap, ap₂, sym, refl, ℕ, ◌<◌, List, [], length, map, get_or, arith}
use Rattle.std.proofs.lemmas.Result.{err_from_is_err_and}
use Rattle.std.specs.Prelude.{None, option_map}
use Rattle.std.specs.Option.{option_to_list}
use Rattle.std.proofs.lemmas.List.{take_all}
use denote.Ref.{Bor}
use Rattle.netlist_core.specs.declared.flat.Net.{Net as FlatNet}
use Rattle.netlist_core.specs.Names.{Name}
use Rattle.place_paths.specs.Paths.{names_and_paths}
use Rattle.routed_plans.specs.Drawn.{items_drawn}
use Rattle.routed_plans.proofs.Drawn.{drawn_none, mapped_more}
use Rattle.routed_plans.proofs.ListedNets.{words_are, words_of}
use Rattle.routed_plans.proofs.net_lines.lines_of.Goals as goal

pub loop-k-init : goal.loop-k-init
loop-k-init c = ap names_and_paths c.new-lines.ensures.items ∙ sym (drawn_none c.args.ports.now [] refl)

pub returns-in_err-add_line : goal.returns-in_err-add_line
returns-in_err-add_line c = rw ((err_from_is_err_and c.from_residual.result c.from_residual.ensures.1).1) tt

pub loop-k-preserved : goal.loop-k-preserved
loop-k-preserved c =
    let within : c.loop-k.k < length c.args.nets.now = omega (arith, c.loop-k-test.true, c.loop-k.auto.k-end) in
    c.in_ok-add_line.ensures
    ∙ ap₂ (λ (words : List (Name × List ℕ)) (net : Bor FlatNet). words ++ option_to_list (option_map (λ _. words_of net) (get_or c.args.ports.now c.loop-k.k None))) c.loop-k.invariant c.index-nets-k.is
    ∙ sym (mapped_more words_of c.args.ports.now c.args.nets.now c.loop-k.k c.index-nets-k.result within)

pub returns : goal.returns
returns c =
    c.loop-k.invariant
    ∙ ap (λ (nets : List (Bor FlatNet)). items_drawn c.args.ports.now (map words_of nets)) (take_all c.loop-k.k c.args.nets.now (omega (arith, c.loop-k-test.false)))
    ∙ ap (items_drawn c.args.ports.now) (sym (words_are c.args.nets.now))
