use Rattle.std.proofs.Common.{rules, ℕ, ◌≡◌, ◌≤◌, ◌-◌, take, sym, ap, ◌∙◌, subst, List, [], ◌++◌, length, arith}
use Rattle.netlist_meaning.specs.Weight.{weight}
use Rattle.design_walks.specs.declared.placed.PlacedModel.{PlacedModel}
use Rattle.design_walks.specs.Places.{IsModelAt}
use Rattle.flat_designs.proofs.FewLines.{lines_are_few}
use Rattle.design_walks.proofs.Walked.{IsWalk, GoesOn, walk_starts, top_is_placed, one_step, walk_is_done}
use Rattle.design_walks.proofs.walk.list_places.Goals as goal

pub loop-placed-init : goal.loop-placed-init
loop-placed-init c =
    subst (λ (ps : List PlacedModel). IsWalk c.args.design.now ps c.args.to_come.now.items) (sym c.requires.listed)
    (subst (λ (ps : List PlacedModel). IsWalk c.args.design.now [] ps) (sym c.requires.to_come) (walk_starts c.args.design.now c.requires.faultless))

pub get-requires : goal.get-requires
get-requires c = (top_is_placed c.args.design.now c.loop-placed.listed.items c.loop-placed.to_come.items c.pop.new.self.items c.in-Some.placed c.loop-placed.invariant c.in-Some.ensures.items).is_there

pub push_inside-requires : goal.push_inside-requires
push_inside-requires c =
    let at : IsModelAt c.args.design.now c.in-Some.placed = top_is_placed c.args.design.now c.loop-placed.listed.items c.loop-placed.to_come.items c.pop.new.self.items c.in-Some.placed c.loop-placed.invariant c.in-Some.ensures.items in
    let few : length c.get.result.now.subckts ≤ weight c.args.design.now = lines_are_few c.args.design.now c.requires.faultless c.in-Some.placed.place c.get.result.now (at.is_placed ∙ c.get.ensures) in
    let lines : length c.as_slice-lines.result.now ≡ length c.get.result.now.subckts = ap length c.as_slice-lines.ensures in
    omega arith

step : (c : goal.In_ok-push) → GoesOn c.args.design.now c.push.new.self.items c.loop-placed.to_come.items c.push_inside.new.to_come.items
step c =
    let count : c.len.result ≡ length c.loop-placed.listed.items = search rules in
    one_step c.args.design.now c.loop-placed.listed.items c.push.new.self.items c.loop-placed.to_come.items c.pop.new.self.items c.push_inside.new.to_come.items c.in-Some.placed c.get.result.now c.args.named.now c.as_slice-lines.result.now c.len.result
    c.requires.faultless c.loop-placed.invariant c.in-Some.ensures.items c.get.ensures c.requires.named c.as_slice-lines.ensures count c.in_ok-push_inside.ensures c.in_ok-push.ensures.items

pub loop-placed-smaller : goal.loop-placed-smaller
loop-placed-smaller c = (step c).fewer

pub loop-placed-preserved : goal.loop-placed-preserved
loop-placed-preserved c = (step c).walk

pub returns : goal.returns
returns c =
    let stack : List PlacedModel = c.loop-placed.to_come.items in
    let none : stack ≡ [] = c.in_default.ensures.items ∙ ap (λ (ps : List PlacedModel). ps ++ []) (c.in_default.ensures.rest ∙ ap (λ (n : ℕ). take (n - 1) stack) c.in_default.ensures.cases.0) in
    walk_is_done c.args.design.now c.loop-placed.listed.items (subst (λ (ps : List PlacedModel). IsWalk c.args.design.now c.loop-placed.listed.items ps) none c.loop-placed.invariant)
