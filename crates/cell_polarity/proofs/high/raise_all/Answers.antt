use Rattle.std.proofs.Common.{rules, ◌≡◌, refl, sym, ◌∙◌, ap, ap₂, ◌<◌, true, false, subst, Bool, List, length, get_or, replicate, None, arith}
use Rattle.std.proofs.lemmas.List.{get_or_default, length-map}
use Rattle.std.proofs.lemmas.Result.{err_from_is_err_and}
use Rattle.cell_core.specs.declared.cells.Src.{Src}
use Rattle.cell_core.specs.declared.cells.Src.TheVariants.{Input, Zero}
use Rattle.cell_core.specs.declared.cells.Cell.{Cell}
use Rattle.cell_core.specs.declared.cells.Cell.TheVariants.{Or}
use Rattle.cell_core.specs.Sources.{reads_there}
use Rattle.cell_meaning.specs.Moved.{NewSources, goes_to}
use Rattle.cell_meaning.specs.Same.{cell_over}
use Rattle.cell_sharing.specs.Grown.{HasSource}
use Rattle.cell_polarity.specs.Raised.{IsRaised, AreRaised}
use Rattle.cell_polarity.proofs.Raising.{own_there, low_there, raised_more, none_raised}
use Rattle.cell_polarity.proofs.high.raise_all.Goals as goal

-- what a read of the slice names where there is nothing
none : Cell
none = Or (Input 0) (Input 0)

pub loop-k-init : goal.loop-k-init
loop-k-init c =
    let r = c.requires in
    let low = c.args.low.now in
    let news : c.in_ok-news.news.items ≡ replicate (length c.args.old.now.cells) None = search rules in (
      none_raised c.args.old.now low.list c.args.kept.now low.lows.items low.zeros.items c.args.marks.now c.args.stays.now r.low r.marks r.stays c.in_ok-news.news.items news,
      refl,
      refl,
    )

pub index-src-requires : goal.index-src-requires
index-src-requires c = omega (arith, c.loop-k-test.true, c.len-k-end.ensures, c.requires.low.long, ap length c.loop-k.invariant.2)

pub index-zero-requires : goal.index-zero-requires
index-zero-requires c = omega (arith, c.loop-k-test.true, c.len-k-end.ensures, c.requires.low.zeros_long, ap length c.loop-k.invariant.1)

pub bounds-marks-k : goal.bounds-marks-k
bounds-marks-k c = omega (arith, c.loop-k-test.true, c.len-k-end.ensures, c.requires.low.zeros_long, c.requires.marks.long)

pub bounds-stays-k : goal.bounds-stays-k
bounds-stays-k c =
    omega (arith, c.loop-k-test.true, c.len-k-end.ensures, c.requires.low.zeros_long, c.requires.stays.long, length-map c.args.low.now.zeros.items (λ (zero : Bool). true))

pub returns-in_err-news : goal.returns-in_err-news
returns-in_err-news c = rw ((err_from_is_err_and c.from_residual.result c.from_residual.ensures.1).1) tt

pub returns-in_err-new : goal.returns-in_err-new
returns-in_err-new c = rw ((err_from_is_err_and c.from_residual-in_err-new.result c.from_residual-in_err-new.ensures.1).1) tt

pub returns : goal.returns
returns c =
    let all : c.loop-k.k ≡ length c.args.old.now.cells = omega (arith, c.loop-k-test.false, c.len-k-end.ensures, c.loop-k.auto.k-end) in
    subst (λ k. AreRaised c.args.old.now c.args.low.now.list c.args.kept.now c.args.low.now.zeros.items c.args.marks.now c.args.stays.now k c.loop-k.low.list c.loop-k.news.items)
    all c.loop-k.invariant.0

pub raise-requires-clause-low : goal.raise-requires-clause-low
unfolding none
raise-requires-clause-low c =
    let r = c.requires in
    let k = c.loop-k.k in
    let begun = c.args.low.now in
    let same = c.loop-k.invariant.2 in
    let within : k < length c.args.old.now.cells = omega (arith, c.loop-k-test.true, c.len-k-end.ensures) in
    let low : c.index-src.result.now ≡ get_or begun.lows.items k Zero =
    subst (λ (lows : List Src). c.index-src.result.now ≡ get_or lows k Zero) same
    (c.index-src.ensures ∙ get_or_default c.loop-k.low.lows.items k _ Zero (omega (arith, within, r.low.long, ap length same))) in
    subst (HasSource c.loop-k.low.list) (sym low)
    (low_there c.args.old.now begun.list c.args.kept.now begun.lows.items begun.zeros.items c.args.marks.now c.args.stays.now r.low r.marks r.stays k c.loop-k.low.list c.loop-k.news.items c.loop-k.invariant.0 none (get_or c.args.old.now.cells k none) within refl)

pub raise-requires-clause-own : goal.raise-requires-clause-own
unfolding none
raise-requires-clause-own c e =
    let r = c.requires in
    let k = c.loop-k.k in
    let old = c.args.old.now in
    let begun = c.args.low.now in
    let l = c.loop-k.low.list in
    let within : k < length old.cells = omega (arith, c.loop-k-test.true, c.len-k-end.ensures) in
    let own : c.cell_gone-own.result ≡ cell_over (goes_to c.loop-k.news.items) (get_or old.cells k none) =
    c.cell_gone-own.ensures ∙ ap₂ (λ (news : NewSources) (cells : List Cell). cell_over (goes_to news) (get_or cells k none)) c.deref.ensures.value c.as_slice.ensures in
    ap (reads_there l.inputs (length l.starts) (length l.cells)) own
    ∙ own_there old begun.list c.args.kept.now begun.lows.items begun.zeros.items c.args.marks.now c.args.stays.now r.low r.marks r.stays k l c.loop-k.news.items c.loop-k.invariant.0 none (get_or old.cells k none) within refl e

pub loop-k-preserved : goal.loop-k-preserved
unfolding none
loop-k-preserved c =
    let r = c.requires in
    let k = c.loop-k.k in
    let old = c.args.old.now in
    let begun = c.args.low.now in
    let l = c.loop-k.low.list in
    let l' = c.raise.new.list in
    let marks = c.args.marks.now in
    let stays = c.args.stays.now in
    let lows = begun.lows.items in
    let zeros = begun.zeros.items in
    let within : k < length old.cells = omega (arith, c.loop-k-test.true, c.len-k-end.ensures) in
    let low : c.index-src.result.now ≡ get_or lows k Zero =
    subst (λ (ls : List Src). c.index-src.result.now ≡ get_or ls k Zero) c.loop-k.invariant.2
    (c.index-src.ensures ∙ get_or_default c.loop-k.low.lows.items k _ Zero (omega (arith, within, r.low.long, ap length c.loop-k.invariant.2))) in
    let zero : c.index-zero.result.now ≡ get_or zeros k false =
    subst (λ (zs : List Bool). c.index-zero.result.now ≡ get_or zs k false) c.loop-k.invariant.1
    (c.index-zero.ensures ∙ get_or_default c.loop-k.low.zeros.items k _ false (omega (arith, within, r.low.zeros_long, ap length c.loop-k.invariant.1))) in
    let own : c.cell_gone-own.result ≡ cell_over (goes_to c.loop-k.news.items) (get_or old.cells k none) =
    c.cell_gone-own.ensures ∙ ap₂ (λ (news : NewSources) (cells : List Cell). cell_over (goes_to news) (get_or cells k none)) c.deref.ensures.value c.as_slice.ensures in (
      raised_more old begun.list c.args.kept.now lows zeros marks stays r.low r.marks r.stays k l c.loop-k.news.items c.loop-k.invariant.0 none (get_or old.cells k none) within refl l' c.in_ok-new.new
          (subst (λ cell. IsRaised l l' (get_or lows k Zero) (get_or zeros k false) (get_or marks k false) (get_or stays k false) cell c.in_ok-new.new) own
          (subst (λ z. IsRaised l l' (get_or lows k Zero) z (get_or marks k false) (get_or stays k false) c.cell_gone-own.result c.in_ok-new.new) zero
          (subst (λ s. IsRaised l l' s c.index-zero.result.now (get_or marks k false) (get_or stays k false) c.cell_gone-own.result c.in_ok-new.new) low c.in_ok-new.ensures))),
      c.loop-k.invariant.1,
      c.loop-k.invariant.2,
    )
