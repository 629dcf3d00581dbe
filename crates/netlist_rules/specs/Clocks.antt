-- The rules on clocks, 20 and 21: latches with two clocks, and a clock net that is read or driven.
use Rattle.netlist_rules.specs.FaultNames.{fault_on}
use Rattle.netlist_rules.specs.declared.fault.Fault.{Fault}
use Rattle.netlist_rules.specs.declared.fault.FaultKind.TheVariants.{TwoClocks, ClockRead}
use Rattle.netlist_meaning.specs.Nets.{IsNet, IsPinned, Net, net_at, Joined, IsClockNet}
use Rattle.netlist_meaning.specs.Roots.{NamesFormalsOnce}
use Rattle.std.specs.Prelude.{ℕ, ◌<◌, ◌≤◌, ◌≡◌, ◌⊎◌, [], ◌∷◌, ◌++◌, Option, Some, None, slice_get, Contains, codes}
use Rattle.netlist_core.specs.declared.model.Design.{Design}
use Rattle.netlist_core.specs.declared.model.Model.{Model}
use Rattle.netlist_core.specs.declared.model.Cover.{Cover}
use Rattle.netlist_core.specs.declared.model.LatchRow.{LatchRow}
use Rattle.netlist_core.specs.declared.model.Port.{Port}
use Rattle.netlist_core.specs.Names.{Name}
use Rattle.netlist_meaning.specs.Places.{Place, model_at, latch_at, main_ports, IsBefore}

-- a latch at a place, with its number there (from 0, in the order of the text)
pub record PlacedLatch : Type 0 where
  pub place : Place
  pub number : ℕ
  pub latch : LatchRow

-- the latch is one of the design's
abbrev pub IsPlacedLatch : Design → PlacedLatch → Type 0
IsPlacedLatch design a = latch_at design a.place a.number ≡ Some a.latch

-- the order of latches: by their places, and at one place by their lines, since a model's latches
-- are in the order of the text
abbrev pub ComesBefore : PlacedLatch → PlacedLatch → Type 0
ComesBefore a b = IsBefore a.place b.place ⊎ ((a.place ≡ b.place) × (a.number < b.number))

-- two controls, each a name at a place or none, are joined nets, or both are none
abbrev pub HasSameControl : Design → Place → Option Name → Place → Option Name → Type 0
HasSameControl design p None q None = Unit {0}
HasSameControl design p None q (Some b) = ⊥
HasSameControl design p (Some a) q None = ⊥
HasSameControl design p (Some a) q (Some b) = Joined design (net_at p a) (net_at q b)

-- two latches have the same type and control
pub record HasSameClock (design : Design) (a b : PlacedLatch) : Type 0 where
  pub same_type : a.latch.kind ≡ b.latch.kind
  pub same_control : HasSameControl design a.place a.latch.control b.place b.latch.control

-- the name of a control, or `-` if there is none
abbrev pub control_word : Option Name → Name
control_word None = codes "-"
control_word (Some name) = name

-- B20: a latch differs in type or control from the first. Of the latches that do, the fault names
-- the first in the order of latches, by its line and its control or `-`
pub record IsTwoClocks (design : Design) (line : ℕ) (word : Name) : Type 0 where
  pub first : PlacedLatch
  pub has_first : IsPlacedLatch design first
  pub is_first : (other : PlacedLatch) → IsPlacedLatch design other → ¬ ComesBefore other first
  pub found : PlacedLatch
  pub has_found : IsPlacedLatch design found
  pub differs : ¬ HasSameClock design first found
  pub agree_before : (other : PlacedLatch) → IsPlacedLatch design other → ComesBefore other found
      → HasSameClock design first other
  pub is_line : line ≡ found.latch.line
  pub is_word : word ≡ control_word found.latch.control

-- a word on a line that reads or drives a net as a cover, as a latch's input or output, or as a
-- main output does: the line's number, a position that rises along the line's words, and the net
pub data IsUse (design : Design) : ℕ → ℕ → Net → Type 0 where
  by_cover : {place : Place} {model : Model} {cover : Cover} {position : ℕ} {name : Name}
      → model_at design place ≡ Some model → Contains model.covers cover
      → slice_get (cover.ins ++ cover.out ∷ []) position ≡ Some name
      → IsUse design cover.line position (net_at place name)
  by_latch : {place : Place} {model : Model} {latch : LatchRow} {position : ℕ} {name : Name}
      → model_at design place ≡ Some model → Contains model.latches latch
      → slice_get (latch.input ∷ latch.output ∷ []) position ≡ Some name
      → IsUse design latch.line position (net_at place name)
  by_main_output : {port : Port} {position : ℕ}
      → slice_get (main_ports (λ model. model.outs) design) position ≡ Some port
      → IsUse design port.line position (net_at [] port.name)

-- this word of the line is such a use, and the net is a clock net
abbrev pub IsClockUse : Design → ℕ → ℕ → Net → Type 0
IsClockUse design line position net = IsUse design line position net × IsClockNet design net

-- B21: a clock net is read by a cover, a latch's data or a main output, or is driven by a cover or
-- a latch; the earliest such line, and there the earliest such word
pub record IsClockRead (design : Design) (line : ℕ) (word : Name) : Type 0 where
  pub position : ℕ
  pub net : Net
  pub is_use : IsClockUse design line position net
  pub is_earliest : (other_line other_position : ℕ) (other : Net)
      → IsClockUse design other_line other_position other
      → (line < other_line) ⊎ ((line ≡ other_line) × (position ≤ other_position))
  pub is_word : word ≡ net.name

-- no latch differs in type or control from the first
abbrev pub HasOneClock : Design → Type 0
HasOneClock design = (line : ℕ) (word : Name) → ¬ IsTwoClocks design line word

-- the clock fault of a design, with its line and word: B20, or B21 if there is no B20
pub data IsClockFault (design : Design) : Fault → Type 0 where
  two_clocks : {line : ℕ} {word : Name} → IsTwoClocks design line word
      → IsClockFault design (fault_on TwoClocks line word)
  clock_read : {line : ℕ} {word : Name} → HasOneClock design → IsClockRead design line word
      → IsClockFault design (fault_on ClockRead line word)

-- the design has no clock fault
abbrev pub HasNoClockFault : Design → Type 0
HasNoClockFault design = (fault : Fault) → ¬ IsClockFault design fault

-- A wired design: each formal is a name of the model that its line places, no line names a formal
-- with two actuals, and no clock net is read or driven
pub record IsWired (design : Design) : Type 0 where
  pub formals_named : (outer inner : Net) → IsPinned design outer inner → IsNet design inner
  pub formals_once : NamesFormalsOnce design
  pub clocks_unread : (line position : ℕ) (net : Net) → ¬ IsClockUse design line position net
