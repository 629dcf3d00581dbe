-- Signals that are lit alike, and inputs that are never lit.
use Rattle.std.proofs.Common.{ℤ, ℕ, suc, ◌≡◌, sym, ◌∙◌, subst, inl, inr, true, List, ◌++◌}
use Rattle.std.specs.Prelude.{Contains, ◌≢◌, ◌↔◌}
use Rattle.std.specs.Cmp.{both_ways}
use Rattle.std.proofs.Math.Path.{fun_ext}
use Rattle.std.proofs.lemmas.List.Elements.{Contains-append_cases, Contains-append_left}
use Rattle.ww_rule.specs.declared.pattern.State.TheVariants.{Empty, Head}
use Rattle.ww_rule.specs.Wireworld.{driven}
use Rattle.gate_laws.specs.Signals.{Signal, cell_state, is_lit, due_of_signals, IsReady}
use Rattle.gate_laws.specs.Laws.{HasLitAlike, SignalsLitAlike}
use Rattle.gate_laws.proofs.Dues.{due_by_signal, signal_is_due}

due_alike : (period : ℕ) (ins inputs : List Signal) → ((s : Signal) → Contains ins s → HasLitAlike period inputs s) → (g : ℕ) (x y : ℤ) → due_of_signals period ins g x y ≡ true → due_of_signals period inputs g x y ≡ true
due_alike period ins inputs alike g x y e =
    let by = due_by_signal period ins g (x, y) e in
    let other = alike by.0 by.1 in
    signal_is_due period inputs g (x, y) other.0 other.1 (sym (other.2.lit g) ∙ by.2) (sym other.2.cell ∙ by.3)

pub signals_lit_alike : SignalsLitAlike
signals_lit_alike period p ins outs inputs outputs there back shown run =
    record {
      drawn = λ s among. (let r = old s among in subst (λ c. cell_state p c ≢ Empty) (sym r.2.cell) (run.drawn r.0 r.1));
      shows = λ s among g. (let r = old s among in
          subst (λ due. (cell_state (driven due p g) s.cell ≡ Head) ↔ (is_lit period s g ≡ true)) dues (subst (λ b. (cell_state (driven (due_of_signals period ins) p g) s.cell ≡ Head) ↔ (b ≡ true)) (sym (r.2.lit g)) (subst (λ c. (cell_state (driven (due_of_signals period ins) p g) c ≡ Head) ↔ (is_lit period r.0 g ≡ true)) (sym r.2.cell) (run.shows r.0 r.1 g))));
      ready = λ s among g lit. (let r = back s among in
          subst (λ due. IsReady (driven due p g) s.cell) dues (subst (IsReady (driven (due_of_signals period ins) p g)) (sym r.2.cell) (run.ready r.0 r.1 g (sym (r.2.lit (suc g)) ∙ lit))));
    }
  where
    dues : due_of_signals period ins ≡ due_of_signals period inputs
    dues = fun_ext (λ g. fun_ext (λ x. fun_ext (λ y. both_ways _ _ (due_alike period ins inputs there g x y) (due_alike period inputs ins back g x y))))

    old : (s : Signal) → Contains (inputs ++ outputs) s → HasLitAlike period (ins ++ outs) s
    old s among =
        elim (Contains-append_cases inputs outputs s among) [
          | inl i ↦ let r = back s i in (r.0, Contains-append_left ins outs r.0 r.1, r.2)
          | inr o ↦ shown s o
        ]
