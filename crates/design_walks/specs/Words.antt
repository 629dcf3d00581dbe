-- Words as ports, and borrowed names, without the place of their bytes in memory.
use Rattle.std.specs.Prelude.{ℕ, List, map}
use denote.Ref.{Bor}
use Rattle.netlist_core.specs.declared.model.Port.{Port}
use Rattle.netlist_core.specs.Names.{Name, at_line}
use Rattle.design_walks.specs.declared.words.Word.{Word}

abbrev pub port_of : Word → Port
port_of word = at_line word.line word.name.now

abbrev pub as_ports : List Word → List Port
as_ports words = map port_of words

abbrev pub bytes_of : List (Bor (List ℕ)) → List Name
bytes_of names = map (λ name. name.now) names
