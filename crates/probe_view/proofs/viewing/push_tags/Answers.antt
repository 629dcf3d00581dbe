use Rattle.std.proofs.Common.{ℕ, ◌+◌, ◌++◌, ◌∷◌, [], sym, ap, ◌∙◌, refl, List, pos}
use Rattle.std.proofs.lemmas.List.{append_assoc}
use Rattle.std.proofs.lemmas.List.FromFn.{map-range_with_len_more}
use Rattle.pattern_writing.specs.Writer.{tag_of}
use Rattle.drive.specs.Runs.{planes_of}
use Rattle.probe_view.specs.Windows.{window_tags}
use Rattle.probe_view.proofs.viewing.push_tags.Goals as goal

pub loop-i-preserved : goal.loop-i-preserved
loop-i-preserved c =
    let run = c.args.run.now in
    let plane = planes_of run run.generation in
    let row = c.args.row in
    let x = c.args.x in
    let i = c.loop-i.i in
    let before = c.args.text.now.items in
    let tags = window_tags plane row x i in
    let tag = λ (column : ℕ). tag_of (plane (pos column) (pos row)) in
    c.in_ok-push.ensures.items
    ∙ ap (λ (text : List ℕ). text ++ c.tag_of.result ∷ []) c.loop-i.invariant
    ∙ append_assoc before tags (c.tag_of.result ∷ [])
    ∙ ap (λ (t : ℕ). before ++ (tags ++ t ∷ [])) (c.tag_of.ensures.tag ∙ ap tag_of c.state-state.ensures)
    ∙ ap (λ (tags : List ℕ). before ++ tags) (sym (map-range_with_len_more tag x i (x + i) refl))
