use Rattle.std.proofs.Common.{◌≡◌, refl, ℕ, zero, suc, ◌<◌, ◌≤◌, Bool, false, List, [], ◌∷◌, length, get_or, arith}
use Rattle.cell_core.specs.Tables.{table_bit}
use Rattle.cell_core.proofs.TableBits.{net_shown}
use Rattle.cell_core.proofs.tables.net_word.Goals as goal

words : List ℕ
words = 12297829382473034410 ∷ 14757395258967641292 ∷ 17361641481138401520 ∷ 18374966859414961920 ∷ 18446462603027742720 ∷ 18446744069414584320 ∷ []

each : (i : ℕ) → i < 6 → (bits : List Bool) → length bits ≤ 6 → table_bit bits (get_or words i 0) ≡ get_or bits i false
unfolding words
each zero lt bits le = net_shown 12297829382473034410 0 bits le refl
each (suc zero) lt bits le = net_shown 14757395258967641292 1 bits le refl
each (suc (suc zero)) lt bits le = net_shown 17361641481138401520 2 bits le refl
each (suc (suc (suc zero))) lt bits le = net_shown 18374966859414961920 3 bits le refl
each (suc (suc (suc (suc zero)))) lt bits le = net_shown 18446462603027742720 4 bits le refl
each (suc (suc (suc (suc (suc zero))))) lt bits le = net_shown 18446744069414584320 5 bits le refl
each (suc (suc (suc (suc (suc (suc i)))))) lt bits le = absurd (omega arith)

pub returns : goal.returns
unfolding words
returns c = λ bits le. each c.args.i c.requires bits le
