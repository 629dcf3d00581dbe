-- Equal words, and what they say.
use Rattle.std.proofs.Common.{◌≡◌, ap}
use Rattle.std.specs.Prelude.{Vec}

pub same_items : {X Z : Type 0} {v w : Vec X Z} → v ≡ w → v.items ≡ w.items
same_items {X} {Z} e = ap (λ (v : Vec X Z). v.items) e
