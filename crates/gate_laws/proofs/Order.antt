-- The order of ports.
use Rattle.std.proofs.Common.{◌≡◌, subst, inl, inr, true, ◌++◌}
use Rattle.std.specs.Prelude.{Contains, ◌↔◌}
use Rattle.std.proofs.lemmas.List.Elements.{Contains-append_cases, Contains-append_left}
use Rattle.ww_rule.specs.declared.pattern.State.TheVariants.{Head}
use Rattle.ww_rule.specs.Wireworld.{driven}
use Rattle.gate_laws.specs.Signals.{Signal, cell_state, is_lit, due_of_signals, IsReady}
use Rattle.gate_laws.specs.Laws.{OrderIsFree}
use Rattle.gate_laws.proofs.Dues.{same_dues}

pub order_is_free : OrderIsFree
order_is_free period p ins outs inputs outputs same_ins all_outs run =
    record {
      drawn = λ s among. run.drawn s (old s among);
      shows = λ s among g. subst (λ due. (cell_state (driven due p g) s.cell ≡ Head) ↔ (is_lit period s g ≡ true)) dues (run.shows s (old s among) g);
      ready = λ s among g lit. subst (λ due. IsReady (driven due p g) s.cell) dues (run.ready s ((same_ins s).1 among) g lit);
    }
  where
    dues : due_of_signals period ins ≡ due_of_signals period inputs
    dues = same_dues period ins inputs same_ins

    old : (s : Signal) → Contains (inputs ++ outputs) s → Contains (ins ++ outs) s
    old s among = elim (Contains-append_cases inputs outputs s among) [
      | inl i ↦ Contains-append_left ins outs s ((same_ins s).1 i)
      | inr o ↦ all_outs s o
    ]
