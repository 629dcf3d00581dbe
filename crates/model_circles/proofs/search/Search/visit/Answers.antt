use Rattle.std.proofs.Common.{◌≡◌, ◌∙◌, sym, ap, subst, length, get_or, ◌<◌, ◌+◌, arith}
use Rattle.std.proofs.lemmas.List.{get_or_default}
use Rattle.netlist_core.specs.declared.model.Model.{Model}
use Rattle.model_index.specs.Numbers.{subckts_of, Places}
use Rattle.model_index.proofs.Naming.{line_within, lines_at}
use Rattle.model_circles.specs.declared.search.Search.{Search}
use Rattle.model_circles.proofs.Finding.{IsVisiting, visited_some, visited_none}
use Rattle.model_circles.proofs.search.Search.visit.Goals as goal
use Rattle.model_circles.proofs.search.Search.visit.Goals.{in-Some+in_ok-meet, in_default}

pub loop-line-preserved : goal.loop-line-preserved
loop-line-preserved c =
    let s = c.args.self.now in
    let is : c.index-n.result.now ≡ get_or s.found.items c.args.at 0 = c.index-n.ensures ∙ get_or_default s.found.items c.args.at _ 0 c.requires.place in
    elim c.match-placed.branch [
      | in-Some+in_ok-meet w ↦
          subst (λ (v : Search). IsVisiting c.args.models.now c.args.first c.args.at c.index-n.result.now (c.loop-line.line + 1) s v) (sym w.self-is)
          (visited_some c.args.models.now c.args.first c.args.at c.index-n.result.now c.loop-line.line w.in-Some.inner s c.loop-line.self w.meet.new.self c.requires.search c.requires.place is c.loop-line.invariant (sym w.in-Some.ensures.number) w.in-Some.ensures.within w.in_ok-meet.ensures)
      | in_default w ↦
          subst (λ (v : Search). IsVisiting c.args.models.now c.args.first c.args.at c.index-n.result.now (c.loop-line.line + 1) s v) (sym w.self-is)
          (visited_none c.args.models.now c.args.first c.args.at c.index-n.result.now c.loop-line.line s c.loop-line.self c.loop-line.invariant (sym w.in_default.ensures.number))
    ]

pub returns-clause-met : goal.returns-clause-met
returns-clause-met c inner (k, e) =
    let s = c.args.self.now in
    let is : c.index-n.result.now ≡ get_or s.found.items c.args.at 0 = c.index-n.ensures ∙ get_or_default s.found.items c.args.at _ 0 c.requires.place in
    let less : c.index-n.result.now < length c.args.models.now = subst (λ v. v < length c.args.models.now) (sym is) (c.requires.search.numbers c.args.at c.requires.place) in
    let p : Places c.args.models.now c.index-n.result.now k inner = subst (λ v. Places c.args.models.now v k inner) (sym is) e in
    let lines : subckts_of c.args.models.now c.index-n.result.now ≡ c.index-models-n.result.subckts = lines_at c.args.models.now c.index-n.result.now c.index-models-n.result less c.index-models-n.is in
    let within : k < length c.index-models-n.result.subckts = subst (λ v. k < length v) lines (line_within c.args.models.now c.index-n.result.now k inner p) in
    let end = c.len-line-end.ensures in
    let same = ap (λ (m : Model). length m.subckts) c.index-models-n.is in
    c.loop-line.invariant.met k inner (omega (arith, end, same)) p
