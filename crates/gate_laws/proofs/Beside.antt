-- Parts beside each other.
use Rattle.std.proofs.Common.{ℕ, suc, ◌+◌, ◌≡◌, sym, ap, ap₂, ◌∙◌, subst, Bool, List, [], ◌∷◌, ◌++◌, length, arith}
use Rattle.std.proofs.Math.Path.{fun_ext}
use Rattle.gate_laws.specs.Signals.{CarriesSignals}
use Rattle.gate_laws.specs.Rows.{Port, signal_of, signals_at, row_of_both}
use Rattle.gate_laws.specs.Laws.{side_by_side}
use Rattle.gate_laws.specs.PartLaws.{both_meanings, PartsUnite}
use Rattle.gate_laws.proofs.Unite.{planes_unite}
use Rattle.gate_laws.proofs.Early.{signals_both}

-- the signals of ports, and of those after them
pub signals_after : (ports others : List Port) (bits : ℕ → ℕ → Bool) → signals_at (ports ++ others) bits ≡ signals_at ports bits ++ signals_at others (λ t i. bits t (length ports + i))
signals_after [] others bits =
    ap (signals_at others) (fun_ext (λ t. fun_ext (λ i. (let e : i ≡ 0 + i = omega arith in ap (bits t) e))))
signals_after (port ∷ ports) others bits =
    ap (λ signals. signal_of port (λ t. bits t 0) ∷ signals) (signals_after ports others (λ t i. bits t (suc i)))
    ∙ ap (λ rest. signal_of port (λ t. bits t 0) ∷ signals_at ports (λ t i. bits t (suc i)) ++ signals_at others rest) (fun_ext (λ t. fun_ext (λ i. (let e : suc (length ports + i) ≡ suc (length ports) + i = omega arith in ap (bits t) e))))

pub parts_unite : PartsUnite
parts_unite period p q ins outs inputs outputs meaning other apart part beside = (
  λ bits. let rest = λ (t i : ℕ). bits t (length ins + i) in
      subst (λ signals. CarriesSignals period (side_by_side p q) signals (signals_at (outs ++ outputs) (both_meanings (length ins) (length outs) meaning other bits))) (sym (signals_after ins inputs bits)) (subst (CarriesSignals period (side_by_side p q) (signals_at ins bits ++ signals_at inputs rest)) (sym (signals_both outs outputs (meaning bits) (other rest))) (planes_unite period p q (signals_at ins bits) (signals_at outs (meaning bits)) (signals_at inputs rest) (signals_at outputs (other rest)) apart (part bits) (beside rest))),
  λ first second bits others t same. ap₂ (row_of_both (length outs)) (first bits others t same) (second (λ u i. bits u (length ins + i)) (λ u i. others u (length ins + i)) t (λ u le. ap (λ row. λ (i : ℕ). row (length ins + i)) (same u le))),
)
