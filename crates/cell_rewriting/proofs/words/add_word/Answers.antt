use Rattle.std.proofs.Common.{rules, ◌≡◌, sym, subst, slice_get, Some, ◌++◌, [], ◌∷◌}
use Rattle.cell_rewriting.specs.Words.{IsWordOfCell, AreWords}
use Rattle.cell_rewriting.proofs.Worded.{cell_is, word_added}
use Rattle.cell_rewriting.proofs.words.add_word.Goals as goal

pub returns-in_ok-push : goal.returns-in_ok-push
returns-in_ok-push c =
    let list = c.args.subst.now.list in
    let leaves = c.args.leaves.now in
    let at : slice_get list.cells c.args.number ≡ Some c.in-Some.cell = search rules in
    let made : IsWordOfCell list leaves c.in-Some.cell c.in-Some-cell_word.word = search rules in
    let items : c.push.new.self.items ≡ c.args.words.now.items ++ (record { cell = c.args.number; word = c.in-Some-cell_word.word } ∷ []) = search rules in
    subst (λ l. AreWords list leaves l) (sym items) (word_added list leaves c.args.words.now.items _ c.requires.words (cell_is list leaves c.args.number c.in-Some.cell c.in-Some-cell_word.word at made))
