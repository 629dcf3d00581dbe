-- What a set of names has after one more.
use Rattle.std.proofs.Common.{◌≡◌, sym, ap, ◌∙◌, ℕ, ◌+◌, ◌<◌, true, ◌||◌, List, length, take, get_or}
use Rattle.std.proofs.lemmas.List.Folds.{list_any_more}
use Rattle.std.proofs.Math.Bool.{or_assoc}
use Rattle.std.specs.BTreeSet.{BTreeSet, UpdatesBy}
use Rattle.std.specs.Cmp.Lexicographic.{slice_cmp}
use Rattle.std.specs.Ordering.{nat_cmp}
use Rattle.std.specs.Str.{bytes_eq}
use denote.Ref.{Bor}
use Rattle.netlist_core.specs.declared.model.Port.{Port}
use Rattle.netlist_core.specs.Names.{Name, has_name, is_named}
use Rattle.lists.specs.Names.{holds_name}
use Rattle.lists.proofs.NameSets.{name_added}

-- one more port of a list
pub port_added : (first old new : BTreeSet (Bor (List ℕ))) (key : Bor (List ℕ)) (ports : List Port) (i : ℕ) (port : Port) → i < length ports → port ≡ get_or ports i port → key.now ≡ port.name → ((name : Name) → holds_name old name ≡ (holds_name first name || is_named (take i ports) name)) → UpdatesBy (λ x y. slice_cmp nat_cmp x.now y.now) (λ k. slice_cmp nat_cmp key.now k.now) old new true → (name : Name) → holds_name new name ≡ (holds_name first name || is_named (take (i + 1) ports) name)
port_added first old new key ports i port within is named had updates name =
    name_added old new key name updates
    ∙ ap (λ b. b || bytes_eq key.now name) (had name)
    ∙ or_assoc (holds_name first name) (is_named (take i ports) name) (bytes_eq key.now name)
    ∙ ap (λ (n : List ℕ). holds_name first name || (is_named (take i ports) name || bytes_eq n name)) (named ∙ ap (λ (p : Port). p.name) is)
    ∙ ap (λ b. holds_name first name || b) (sym (list_any_more (has_name name) ports i port within))
