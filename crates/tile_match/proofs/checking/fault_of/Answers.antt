use Rattle.std.proofs.Common.{rules, ◌≡◌, sym, ◌∙◌, subst, true, true≢false}
use Rattle.std.proofs.lemmas.Option.{none-some, same_Some}
use Rattle.std.proofs.lemmas.Result.{err_from_is_err_and}
use Rattle.ww_rule.specs.Patterns.{grid_of}
use Rattle.tile_match.specs.Faults.{HasCircuitFault}
use Rattle.tile_match.proofs.Read.{read_admissible, read_circuit, read_ports, some_plan}
use Rattle.tile_match.proofs.One.{read_is}
use Rattle.tile_match.proofs.checking.fault_of.Goals as goal

pub is_drawn-requires-clause-admissible : goal.is_drawn-requires-clause-admissible
is_drawn-requires-clause-admissible c = read_admissible (grid_of c.args.pattern.now) c.args.ports.now c.args.plan.now c.requires.read c.requires.nets

pub returns-then-branch : goal.returns-then-branch
returns-then-branch c = record {
  none = λ e. absurd (none-some _ (sym e));
  fault = λ f e.
      subst (HasCircuitFault (grid_of c.args.pattern.now) c.args.ports.now) (same_Some _ _ e)
      (some_plan (grid_of c.args.pattern.now) c.args.ports.now c.args.plan.now c.requires.read c.requires.nets, sym c.in_ok-has_bad_name.ensures ∙ c.if-branch.true);
}

pub returns-then-not-branch : goal.returns-then-not-branch
returns-then-not-branch c = record {
  none = λ e. absurd (none-some _ (sym e));
  fault = λ f e.
      subst (HasCircuitFault (grid_of c.args.pattern.now) c.args.ports.now) (same_Some _ _ e) (
        some_plan (grid_of c.args.pattern.now) c.args.ports.now c.args.plan.now c.requires.read c.requires.nets,
        sym c.in_ok-has_bad_name.ensures ∙ c.if-branch.false,
        λ other d. true≢false
            (sym (c.in_ok-is_drawn.ensures.1 (read_is (grid_of c.args.pattern.now) c.args.ports.now c.args.plan.now c.requires.read other d)) ∙ c.if-not-branch.true),
      );
}

pub returns : goal.returns
returns c =
    let yes : c.in_ok-is_drawn.field-0 ≡ true = search rules in
    record {
      none = λ e. (
        record {
          circuit = read_circuit (grid_of c.args.pattern.now) c.args.ports.now c.args.plan.now c.requires.read c.requires.nets;
          ports = read_ports (grid_of c.args.pattern.now) c.args.ports.now c.args.plan.now c.requires.read;
          drawn = c.in_ok-is_drawn.ensures.0 yes;
        },
        sym c.in_ok-has_bad_name.ensures ∙ c.if-branch.false,
      );
      fault = λ f e. absurd (none-some f e);
    }

pub returns-in_err-has_bad_name : goal.returns-in_err-has_bad_name
returns-in_err-has_bad_name c =
    let p = (err_from_is_err_and c.from_residual.result c.from_residual.ensures.1).1 in
    record { none = rw p tt; fault = rw p tt }

pub returns-in_err-is_drawn : goal.returns-in_err-is_drawn
returns-in_err-is_drawn c =
    let p = (err_from_is_err_and c.from_residual-in_err-is_drawn.result c.from_residual-in_err-is_drawn.ensures.1).1 in
    record { none = rw p tt; fault = rw p tt }
