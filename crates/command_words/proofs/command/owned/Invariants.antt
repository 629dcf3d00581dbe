use Rattle.std.proofs.Common.{◌≡◌, map, string_bytes, take}
use Rattle.command_words.proofs.command.owned.Given as goal

abbrev pub invariant-texts : goal.invariant-texts
invariant-texts l = map string_bytes l.words.items ≡ map (λ t. t.now) (take l.text-index l.fn.texts)
