use Rattle.std.proofs.Common.{ℕ, ◌+◌, ◌++◌, ◌∷◌, [], sym, ap, ◌∙◌, List}
use Rattle.std.proofs.lemmas.List.{append_assoc}
use Rattle.drive.specs.Runs.{planes_of}
use Rattle.probe_view.specs.Windows.{window_tags, window_text}
use Rattle.streams.proofs.Ranges.{flat_map_more}
use Rattle.probe_view.proofs.viewing.lines_of.Goals as goal

pub loop-i-preserved : goal.loop-i-preserved
loop-i-preserved c =
    let run = c.args.run.now in
    let plane = planes_of run run.generation in
    let x = c.args.x in
    let y = c.args.y in
    let width = c.args.width in
    let i = c.loop-i.i in
    let tags = window_tags plane (y + i) x width in
    c.in_ok-push.ensures.items
    ∙ ap (λ (text : List ℕ). text ++ 10 ∷ []) (c.in_ok-push_tags.ensures ∙ ap (λ (text : List ℕ). text ++ tags) c.loop-i.invariant)
    ∙ append_assoc (window_text plane x y width i) tags (10 ∷ [])
    ∙ sym (flat_map_more (λ row. window_tags plane row x width ++ 10 ∷ []) y i)
