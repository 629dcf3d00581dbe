use Rattle.std.proofs.Common.{◌∙◌, sym, ap, ap₂, List, ◌++◌, ◌∷◌, [], map, string_bytes, Bor}
use Rattle.std.proofs.lemmas.List.{map_more, map_push}
use Rattle.clap.specs.Walk.{Text}
use Rattle.command_words.proofs.command.owned.Goals as goal

pub texts-preserved : goal.texts-preserved
texts-preserved c =
    ap (map string_bytes) c.in_ok-push.ensures.items
    ∙ map_push string_bytes c.texts.words.items _
    ∙ ap₂ (λ (words : List Text) (word : Text). words ++ word ∷ []) c.texts.invariant c.in_ok-from_str.ensures.ok
    ∙ sym (map_more (λ (t : Bor Text). t.now) c.args.texts.now c.texts.text-index _ c.texts-test.true)
