use Rattle.std.proofs.Common.{List, ℕ, Some, slice_get, ◌≡◌, sym, subst}
use Rattle.std.specs.Prelude.{MatchOption, Contains}
use Rattle.netlist_flatten.proofs.Numbering.{model_there, position_there}
use Rattle.netlist_flatten.specs.Numbered.{place_at}
use Rattle.netlist_meaning.specs.InOrder.{nets_at}
use Rattle.netlist_meaning.specs.Nets.{net_at}
use Rattle.netlist_flatten.proofs.numbers.Numbers.position.Goals as goal

pub returns : goal.returns
returns c =
    let (m, is_m) = model_there c.args.self.now c.args.at c.requires.place in
    let place = place_at c.args.self.now c.args.at in
    subst (λ (n : ℕ). slice_get (nets_at c.args.self.now place) n ≡ Some (net_at place c.args.name.now)) (sym c.unwrap_or.ensures)
    (position_there c.args.self.now place m c.args.name.now c.position.result is_m c.requires.net
    (subst (λ (names : List (List ℕ)). MatchOption c.position.result (¬ Contains names c.args.name.now) (λ position. slice_get names position ≡ Some c.args.name.now)) (c.model_names.ensures m is_m) c.position.ensures))
