-- What a text that carries a circuit shows, cycle by cycle.
use Rattle.std.proofs.Common.{◌≡◌, ◌≢◌, refl, sym, Bool, true, false, length, arith}
use Rattle.ww_rule.specs.Wireworld.{driven}
use Rattle.ww_rule.specs.Grid.{plane_of}
use Rattle.aiger_meaning.specs.Circuit.{aig_output_bit}
use Rattle.carries.specs.Cells.{drive}
use Rattle.carries.proofs.Cycles.{cycle_bits}
use Rattle.carries.proofs.Period.{has_period}
use Rattle.aiger_plans.specs.Laws.{CarriesAigCycles, OneAigRunIsShown}

pub carries_aig_cycles : CarriesAigCycles
carries_aig_cycles text aig c rows are run is = record {
  bits = λ output cell e.
      cycle_bits c.ports.l c.ports.p (length rows) (λ t. aig_output_bit aig (run t) output) (driven (drive c.ports rows) (plane_of c.grid.rows)) cell.x cell.y period
      (c.shows.heads rows are run is output cell e);
  dark = λ output cell e g lt head.
      let found = (c.shows.heads rows are run is output cell e g (omega arith)).0 head in
      omega (arith, lt, found.2);
}
  where
    period : c.ports.p ≢ 0
    period = has_period text c.grid.width c.grid.height c.ports c.spells.table

-- two bits are the same where each is 1 if the other is
same_bit : (a b : Bool) → (a ≡ true → b ≡ true) → (b ≡ true → a ≡ true) → a ≡ b
same_bit true b to from = sym (to refl)
same_bit false true to from = from refl
same_bit false false to from = refl

pub one_aig_run_is_shown : OneAigRunIsShown
one_aig_run_is_shown text aig c rows are run other is is_other output cell e t lt =
    let a = (carries_aig_cycles text aig c rows are run is).bits output cell e t lt in
    let b = (carries_aig_cycles text aig c rows are other is_other).bits output cell e t lt in
    same_bit (aig_output_bit aig (run t) output) (aig_output_bit aig (other t) output) (λ one. b.0 (a.1 one)) (λ one. a.0 (b.1 one))
