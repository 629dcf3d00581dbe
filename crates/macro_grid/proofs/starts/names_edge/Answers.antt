use Rattle.std.proofs.Common.{sym, ◌∙◌, true≢false}
use Rattle.plan_layout.specs.Edges.{as_edge}
use Rattle.plan_layout.specs.Layout.{tiling_of}
use Rattle.macro_grid.proofs.Naming.{from_same, to_same, passed_there, named_there, at}
use Rattle.macro_grid.proofs.starts.names_edge.Goals as goal

pub returns-then-is_passed : goal.returns-then-is_passed
returns-then-is_passed c = (
  λ yes. record {
    edge = as_edge c.in-Some.edge;
    passed = sym c.is_passed.ensures ∙ c.if-is_passed.true;
    name = sym (from_same c.edge_name.result c.args.start.now (sym c.eq.ensures ∙ yes)) ∙ c.edge_name.ensures;
  },
  λ names. c.eq.ensures ∙ to_same c.edge_name.result c.args.start.now
      (c.edge_name.ensures ∙ named_there (tiling_of c.args.plan.now) c.args.start.now (as_edge c.in-Some.edge) c.in-Some.ensures names),
)

pub returns-else-is_passed : goal.returns-else-is_passed
returns-else-is_passed c = (
  λ yes. absurd (true≢false (sym yes ∙ c.if-is_passed.false)),
  λ names. c.is_passed.ensures ∙ passed_there (tiling_of c.args.plan.now) c.args.start.now (as_edge c.in-Some.edge) c.in-Some.ensures names,
)

pub returns-in-None : goal.returns-in-None
returns-in-None c = (
  λ yes. absurd (true≢false (sym yes)),
  λ names. absurd (c.in-None.ensures names.edge (at (tiling_of c.args.plan.now) c.args.start.now names)),
)
