-- Covers that read each other in a circle.
use Rattle.std.specs.Prelude.{◌≡◌, List, [], ◌∷◌, Some, Contains}
use Rattle.netlist_core.specs.declared.model.Design.{Design}
use Rattle.netlist_core.specs.declared.model.Model.{Model}
use Rattle.netlist_core.specs.declared.model.Cover.{Cover}
use Rattle.netlist_core.specs.Names.{Name}
use Rattle.netlist_meaning.specs.Places.{Place, model_at}
use Rattle.netlist_meaning.specs.Nets.{Net, net_at, Joined}

-- a cover reads the one net and drives the other, with joined nets counted as one. A latch makes no
-- such step
pub record Feeds (design : Design) (read written : Net) : Type 0 where
  pub place : Place
  pub model : Model
  pub cover : Cover
  pub input : Name
  pub has_model : model_at design place ≡ Some model
  pub has_cover : Contains model.covers cover
  pub has_input : Contains cover.ins input
  pub reads : Joined design read (net_at place input)
  pub writes : Joined design (net_at place cover.out) written

-- the net at the start feeds the first of the list, each net of the list feeds the next, and the
-- last feeds the net at the end
abbrev pub FeedsThrough : Design → Net → List Net → Net → Type 0
FeedsThrough design start [] end = Feeds design start end
FeedsThrough design start (net ∷ nets) end =
    Feeds design start net × FeedsThrough design net nets end

-- a combinational loop: at least one net; a cover reads each net and drives the next, and a cover
-- reads the last and drives the first
abbrev pub IsCombinationalLoop : Design → List Net → Type 0
IsCombinationalLoop design [] = ⊥
IsCombinationalLoop design (net ∷ nets) = FeedsThrough design net nets net
