-- A text spells one pattern and one table, and so carries a design in one way.
use Rattle.std.proofs.Common.{ℕ, ◌≡◌, sym, ap, ◌∙◌, subst, List}
use Rattle.ww_rule.specs.Grid.{Grid}
use Rattle.pattern_reading.specs.declared.ports.Ports.{Ports}
use Rattle.pattern_reading.specs.Ports.{names_of}
use Rattle.pattern_reading.specs.PortTable.{ReadsAsPorts}
use Rattle.pattern_reading.proofs.RleLaws.{one_pattern}
use Rattle.pattern_reading.proofs.PortLaws.{one_table}
use Rattle.carries.specs.Cells.{Spells}
use Rattle.carries.specs.Laws.{CarriesInOneWay, OutputsHaveLines}

pub one_spelling : (text : List ℕ) (grid other : Grid) (ports others : Ports) → Spells text grid ports → Spells text other others → (grid ≡ other) × (ports ≡ others)
one_spelling text grid other ports others a b =
    let same = one_pattern text grid other a.reads b.reads in
    (same, one_table text grid.width grid.height ports others a.table (subst (λ (g : Grid). ReadsAsPorts text g.width g.height others) (sym same) b.table))

pub carries_in_one_way : CarriesInOneWay
carries_in_one_way text design a b = one_spelling text a.grid b.grid a.ports b.ports a.spells b.spells

pub outputs_have_lines : OutputsHaveLines
outputs_have_lines text design c e = sym c.names.outs ∙ ap names_of e
