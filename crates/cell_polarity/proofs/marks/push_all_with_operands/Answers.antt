use Rattle.std.proofs.Common.{◌≡◌, sym, ◌∙◌, ap, ℕ, ◌+◌, ◌<◌, List, ◌++◌, length, get_or, take, flat_map}
use Rattle.std.proofs.lemmas.List.{flat_map_more, take_more}
use Rattle.cell_core.specs.declared.cells.Src.{Src}
use Rattle.cell_polarity.specs.Needed.{with_operands}
use Rattle.cell_polarity.proofs.marks.push_all_with_operands.Goals as goal

one_more : (f : Src → List Src) (old found new sources : List Src) (i : ℕ) (d : Src) → i < length sources → found ≡ old ++ flat_map f (take i sources) → new ≡ found ++ f (get_or sources i d)
    → new ≡ old ++ flat_map f (take (i + 1) sources)
one_more f old found new sources i d lt before is =
    is
    ∙ ap (λ (l : List Src). l ++ f (get_or sources i d)) before
    ∙ flat_map_more f old (take i sources) (get_or sources i d)
    ∙ ap (λ (xs : List Src). old ++ flat_map f xs) (sym (take_more sources i d lt))

pub loop-src-preserved : goal.loop-src-preserved
loop-src-preserved c =
    one_more (with_operands c.args.cells.now) c.args.found.now.items c.loop-src.found.items c.push_with_operands.new.found.items c.args.sources.now c.loop-src.src-index _ c.loop-src-test.true c.loop-src.invariant
    c.in_ok-push_with_operands.ensures
