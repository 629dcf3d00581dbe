use Rattle.std.proofs.Common.{rules, ◌≡◌, sym, ◌∙◌, ap, subst, ◌+◌, ◌<◌, ◌++◌, [], length, replicate}
use Rattle.std.proofs.lemmas.List.{length-replicate, get_or-replicate, with_items_is}
use Rattle.std.proofs.lemmas.Result.{err_from_is_err_and}
use Rattle.row_placer.specs.Uses.{uses_of, AreCounted}
use Rattle.row_placer.proofs.counting.count_uses.Goals as goal

pub count_all-owed-requires : goal.count_all-owed-requires
count_all-owed-requires c =
    let values = c.args.base + length c.args.gates.now in
    let zeros : c.as_mut_slice.result.now ≡ replicate values 0 = search rules in
    record {
      none = subst (λ left. AreCounted left []) (sym zeros) (λ v low. get_or-replicate values v 0 0 (subst (λ n. v < n) (length-replicate values 0) low));
      long = ap length zeros ∙ length-replicate values 0;
      fits = c.requires.fits;
      gates = c.requires.gates;
      ports = c.requires.ports;
      few = c.requires.few;
    }

pub returns-in_err-left : goal.returns-in_err-left
returns-in_err-left c =
    let p = (err_from_is_err_and c.from_residual.result c.from_residual.ensures.1).1 in
    record { left = rw p tt; long = rw p tt; owed = rw p tt; few = rw p tt }

pub returns : goal.returns
returns c =
    let values = c.args.base + length c.args.gates.now in
    let left = c.in_ok-left.left in
    let zeros : c.as_mut_slice.result.now ≡ replicate values 0 = search rules in
    let old : length left.items ≡ values = ap length (sym c.as_mut_slice.ensures.value ∙ zeros) ∙ length-replicate values 0 in
    let counted = c.count_all-owed.ensures in
    let is = with_items_is left c.count_all-owed.new.left (counted.long ∙ sym old ∙ sym left.ok.0) in
    record {
      left = subst (λ ls. AreCounted ls (uses_of c.args.gates.now ++ c.args.ports.now)) (sym is) counted.left;
      long = ap length is ∙ counted.long;
      owed = counted.owed;
      few = counted.few;
    }
