use Rattle.std.proofs.Common.{◌≡◌, codes, false, refl, rules}
use Rattle.std.specs.Str.{bytes_eq}
use Rattle.command_words.proofs.Unnamed.{passed_over}
use Rattle.command_words.proofs.command.kind_named.Goals as goal

pub returns-in_default : goal.returns-in_default
returns-in_default c = λ rows.
    let name = c.args.name.now in
    let no_compile : bytes_eq name (codes "compile") ≡ false = search rules in
    let no_simulate : bytes_eq name (codes "simulate") ≡ false = search rules in
    let no_eval : bytes_eq name (codes "eval") ≡ false = search rules in
    let no_probe : bytes_eq name (codes "probe") ≡ false = search rules in
    let no_window : bytes_eq name (codes "window") ≡ false = search rules in
    let no_make : bytes_eq name (codes "make") ≡ false = search rules in
    let no_self : bytes_eq name (codes "self") ≡ false = search rules in
    let no_tape : bytes_eq name (codes "tape") ≡ false = search rules in
    let no_aiger : bytes_eq name (codes "aiger") ≡ false = search rules in
    let no_vcd : bytes_eq name (codes "vcd") ≡ false = search rules in
    let no_lift : bytes_eq name (codes "lift") ≡ false = search rules in
    passed_over _ _ _ _ no_compile (passed_over _ _ _ _ no_simulate (passed_over _ _ _ _ no_eval (passed_over _ _ _ _ no_probe (passed_over _ _ _ _ no_window (passed_over _ _ _ _ no_make (passed_over _ _ _ _ no_self (passed_over _ _ _ _ no_tape (passed_over _ _ _ _ no_aiger (passed_over _ _ _ _ no_vcd (passed_over _ _ _ _ no_lift refl))))))))))
