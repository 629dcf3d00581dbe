-- Lists of cells that compute the same.
use Rattle.std.specs.Prelude.{ℕ, ◌≡◌, Bool, List, length, map}
use Rattle.cell_core.specs.declared.list.CellList.{CellList}
use Rattle.cell_core.specs.Meaning.{bit_of}
use Rattle.cell_core.specs.Loops.{names_one}
use Rattle.lane_core.specs.declared.plan.Plan.{Plan}
use Rattle.cell_meaning.specs.Computes.{ComputesByPlan}
use Rattle.cell_meaning.specs.Origins.{entry_source, maker_on}

-- Both lists have the same inputs and starts and as many cells, and both name constant 1 or neither
-- does. Under all inputs and states outputs, latches' data and nets have the same bits. The nets
-- that no cell makes have the same sources, and the others are made by cells of the same kinds.
pub record ComputeAlike (a b : CellList) : Type 0 where
  pub inputs : b.inputs ≡ a.inputs
  pub starts : b.starts ≡ a.starts
  pub cells : length b.cells ≡ length a.cells
  pub one : names_one b ≡ names_one a
  pub outs : (inputs state : List Bool)
      → map (bit_of b inputs state) b.outs ≡ map (bit_of a inputs state) a.outs
  pub latches : (inputs state : List Bool)
      → map (bit_of b inputs state) b.latches ≡ map (bit_of a inputs state) a.latches
  pub nets : (inputs state : List Bool)
      → map (bit_of b inputs state) b.nets ≡ map (bit_of a inputs state) a.nets
  pub entries : map entry_source b.nets ≡ map entry_source a.nets
  pub makers : (lane : ℕ) → map (maker_on b.cells lane) b.nets ≡ map (maker_on a.cells lane) a.nets

-- a plan that computes one of two lists that compute alike computes the other
abbrev pub AlikeIsPlanned : Type 0
AlikeIsPlanned =
    (a b : CellList) (plan : Plan) → ComputeAlike a b → ComputesByPlan b plan
    → ComputesByPlan a plan
