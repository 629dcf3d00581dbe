use Rattle.std.proofs.Common.{◌≡◌, sym, ◌∙◌, ◌+◌, ◌-◌, ◌&&◌, false, subst}
use Rattle.std.specs.Prelude.{nat_le}
use Rattle.std.specs.List.{list_any}
use Rattle.std.proofs.lemmas.Bool.{not-true}
use Rattle.std.proofs.lemmas.List.{nil_from_length}
use Rattle.rle_write.proofs.DarkRows.{dark}
use Rattle.rle_write.proofs.dark.is_dark.Goals as goal

pub returns-then-len-eq0 : goal.returns-then-len-eq0
returns-then-len-eq0 c = λ yes.
    let none = nil_from_length c.args.plan.now.tape (sym c.len.ensures ∙ c.if-len-eq0.true) in
    let y = c.args.y in
    let far = subst (λ names. list_any (λ s. nat_le (y - 1) s.y && nat_le s.y (y + 1)) names ≡ false) c.as_slice.ensures
    (sym c.has_near.ensures ∙ not-true c.has_near.result yes) in
    dark c.args.plan.now c.requires.admissible none y far
