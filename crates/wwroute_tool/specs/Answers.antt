-- What a command makes of a text, and the lines that are told before it and beside it.
use Rattle.std.specs.Prelude.{ℕ, ◌≡◌, ◌<◌, ◌%◌, ◌⊎◌, nat_le, length, if◌then◌else◌, List, [], ◌++◌, codes, decimal, ⊤}
use Rattle.ww_rule.specs.Grid.{Grid}
use Rattle.lane_core.specs.declared.plan.Plan.{Plan}
use Rattle.lane_core.specs.Plans.{IsAdmissible, size_of}
use Rattle.pattern_reading.specs.declared.ports.Ports.{Ports}
use Rattle.rle_write.specs.PlanText.{text_of_plan}
use Rattle.blif_write.specs.Lift.{text_of_lift}
use Rattle.carries.specs.Cells.{Spells}
use Rattle.routed_plans.specs.declared.routes.Routed as routes
use Rattle.routed_plans.specs.Carried.{text_of_routed}
use Rattle.wwroute_tool.specs.declared.answer.Answer.{Answer}
use Rattle.wwroute_tool.specs.declared.answer.Answer.TheVariants.{Netlist, Routed, ByLanes}
use Rattle.wwroute_tool.specs.declared.report.Report.{Report}
use Rattle.wwroute_tool.specs.declared.report.Report.TheVariants as report

-- the bytes of an answer
abbrev pub answer_text : Answer → List ℕ
answer_text (Netlist lift) = text_of_lift lift
answer_text (Routed routed) = text_of_routed routed
answer_text (ByLanes planned) = text_of_plan planned.plan planned.ports

-- the answer can be written: a plan is admissible
abbrev pub IsWritableAnswer : Answer → Type 0
IsWritableAnswer (Netlist lift) = ⊤
IsWritableAnswer (Routed routed) = ⊤
IsWritableAnswer (ByLanes planned) = IsAdmissible planned.plan

-- a box and a period, as `box 40 x 23, P 64`
abbrev pub size_text : (width height period : ℕ) → List ℕ
size_text width height period =
    codes "box " ++ (decimal width ++ (codes " x " ++ (decimal height ++ (codes ", P " ++ decimal period))))

-- the line that tells the size of a routed circuit, and of a pattern that is drawn by lanes
abbrev pub routed_line : (width height period : ℕ) → List ℕ
routed_line width height period = size_text width height period ++ codes "\n"

abbrev pub lanes_line : (width height period : ℕ) → List ℕ
lanes_line width height period = size_text width height period ++ codes ", drawn by lanes\n"

-- the line that tells the weight of a netlist whose search takes long
abbrev pub notice_line : (weight : ℕ) → List ℕ
notice_line weight =
    codes "drawing a netlist of weight " ++ (decimal weight ++ codes ": this may take some time\n")

-- the greatest weight of a netlist that is drawn without a notice
abbrev pub quick_weight : ℕ
quick_weight = 400

-- what is told before a netlist of this weight is drawn: a notice, or nothing
abbrev pub notice_for : (weight : ℕ) → Report
notice_for weight = if nat_le weight quick_weight then report.Nothing else report.Notice weight

-- what is told beside an answer: nothing beside a netlist, and beside a pattern its box and its
-- period
abbrev pub report_of : Answer → Report
report_of (Netlist lift) = report.Nothing
report_of (Routed routed) =
    report.Routed (record {
      width = routed.pattern.width;
      height = routed.pattern.height;
      period = routed.ports.p;
    })
report_of (ByLanes planned) =
    report.ByLanes (record {
      width = (size_of planned.plan).0;
      height = (size_of planned.plan).1;
      period = planned.ports.p;
    })

-- the line of a report
abbrev pub report_line : Report → List ℕ
report_line report.Nothing = []
report_line (report.Notice weight) = notice_line weight
report_line (report.Routed size) = routed_line size.width size.height size.period
report_line (report.ByLanes size) = lanes_line size.width size.height size.period

-- the text is that of a plan with this port table, as `compile` draws it
abbrev pub IsPlanText : List ℕ → Ports → Type 0
IsPlanText text ports = (plan : Plan) × IsAdmissible plan × (text ≡ text_of_plan plan ports)

-- the text of the routed circuit begins with lines of gates and wires, or its box is none of a plan:
-- it has other columns than tiles of 32 and one more, or other rows than lanes of 16
abbrev pub HasNoPlanForm : routes.Routed → Type 0
HasNoPlanForm routed =
    (0 < length routed.lines)
    ⊎ ((1 < routed.pattern.width % 32) ⊎ (0 < routed.pattern.height % 16))

-- The line tells the size of the pattern that the text spells, and the period of its port table. It
-- says 'drawn by lanes' exactly if the text is that of a plan.
pub record TellsSize (text line : List ℕ) : Type 0 where
  pub grid : Grid
  pub ports : Ports
  pub spells : Spells text grid ports
  pub line_is : ((line ≡ routed_line grid.width grid.height ports.p) × (IsPlanText text ports → ⊥))
      ⊎ ((line ≡ lanes_line grid.width grid.height ports.p) × IsPlanText text ports)
