-- The names in the design of a text: each is a word, so a line of words can name it.
use Rattle.std.specs.Prelude.{◌≡◌, ◌≢◌, List, ℕ, [], false, Contains}
use Rattle.std.specs.List.{list_any}
use Rattle.netlist_core.specs.declared.model.Design.{Design}
use Rattle.netlist_core.specs.declared.model.Model.{Model}
use Rattle.netlist_core.specs.Names.{Name}
use Rattle.netlist_meaning.specs.Nets.{Net, IsNet, model_names}
use Rattle.blif_text.specs.LogicalLines.{is_space, is_newline, is_hash}
use Rattle.blif_text.specs.Faults.{IsDesignOf}

-- a word: at least one byte, and none of them a blank, the end of a line, or `#`, which begins a
-- comment
pub record IsNameWord (name : Name) : Type 0 where
  pub some : name ≢ []
  pub plain : list_any is_space name ≡ false
  pub one_line : list_any is_newline name ≡ false
  pub no_comment : list_any is_hash name ≡ false

-- the names that the lines of a model name are words
abbrev pub NamesAreWords : Type 0
NamesAreWords =
    (text : List ℕ) (design : Design) → IsDesignOf text design → (model : Model)
    → Contains design.models model → (name : Name) → Contains (model_names model) name
    → IsNameWord name

-- the names of a design's nets are words
abbrev pub NetsAreWords : Type 0
NetsAreWords =
    (text : List ℕ) (design : Design) → IsDesignOf text design → (net : Net) → IsNet design net
    → IsNameWord net.name
