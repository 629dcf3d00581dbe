-- What 32 generations do to a matched tiling.
use Rattle.std.specs.Prelude.{ℤ, pos, ℕ, zero, suc, ◌+◌, ◌-◌, ◌*◌, ◌%◌, ◌/◌, ◌<◌, ◌≡◌, ◌↔◌, ◌⊎◌, Bool, true, false, ◌||◌}
use Rattle.ww_rule.specs.declared.pattern.State.TheVariants.{Head, Tail, Conductor}
use Rattle.ww_rule.specs.Wireworld.{Plane, Due, next_plane, evolve, driven}
use Rattle.tile_core.specs.declared.kind.Kind.{Kind}
use Rattle.tile_core.specs.Drawing.{Drawing}
use Rattle.tile_core.specs.Kinds.{interface}
use Rattle.tile_core.specs.TimingLaw.{MeetsTimingLaw}
use Rattle.tiling.specs.Tiling.{Piece, interface_of, Slot, Tiling, Lit, is_entry_lit, drawn}
use Rattle.tiling.specs.Tiling.Slot.{Nothing, Whole, Upper, Lower}
use Rattle.tiling.specs.Tiling.Edge.{Beside, Above}
use Rattle.tiling.specs.Matched.{IsMatched, is_entered, is_left}
use Rattle.tiling.specs.MacroStep.{macro_step, slot_answers}

-- each tile of the library keeps the timing law
abbrev pub KeepsLaw : (Kind → Drawing) → Type 0
KeepsLaw library = (kind : Kind) → MeetsTimingLaw (interface kind) (library kind)

-- the edges after m macro steps
abbrev pub after_steps : Tiling → Lit → ℕ → Lit
after_steps tiling lit zero = lit
after_steps tiling lit (suc m) = macro_step tiling (after_steps tiling lit m)

-- whether a piece has a lit entry edge, by its first block
abbrev pub piece_is_lit : Lit → ℕ → ℕ → Piece → Bool
piece_is_lit lit q l piece =
    is_entry_lit lit q l (interface_of piece) 0 || is_entry_lit lit q l (interface_of piece) 1

-- the same for what stands in a block
abbrev pub slot_is_lit : Lit → ℕ → ℕ → Slot → Bool
slot_is_lit lit q l Nothing = false
slot_is_lit lit q l (Whole piece) = piece_is_lit lit q l piece
slot_is_lit lit q l (Upper piece) = piece_is_lit lit q l piece
slot_is_lit lit q l (Lower piece) = piece_is_lit lit q (l - 1) piece

-- a head or a tail of the plane lies in a piece with a lit entry edge
abbrev pub LiesInLitPieces : Tiling → Lit → Plane → Type 0
LiesInLitPieces tiling lit p =
    (x y : ℤ) → (p x y ≡ Head) ⊎ (p x y ≡ Tail)
    → (X : ℕ) × (Y : ℕ) × (x ≡ pos X) × (y ≡ pos Y)
    × (slot_is_lit lit (X / 32) (Y / 16) (tiling (X / 32) (Y / 16)) ≡ true)

-- at generation 32 m the plane is drawn with the edges after m macro steps, and at the generations
-- between heads and tails are in lit pieces only
pub record StepsByMacro (library : Kind → Drawing) (tiling : Tiling) (lit : Lit) : Type 0 where
  pub whole : (m : ℕ) → evolve (32 * m) (drawn library tiling lit) ≡ drawn library tiling
      (after_steps tiling lit m)
  pub between : (m g : ℕ) → 0 < g → g < 32
      → LiesInLitPieces tiling (after_steps tiling lit m)
      (evolve (32 * m + g) (drawn library tiling lit))

-- 32 generations are one macro step, for every library, matched tiling and set of lit edges
abbrev pub MacroLaw : Type 0
MacroLaw =
    (library : Kind → Drawing) → KeepsLaw library → (tiling : Tiling) → IsMatched tiling
    → (lit : Lit) → StepsByMacro library tiling lit

-- heads are injected only at multiples of 32 generations, at the west sides of blocks that are
-- entered there, if no exit faces that side
pub record DrivesEntries (tiling : Tiling) (due : Due) : Type 0 where
  pub on_time : (g : ℕ) (x y : ℤ) → due g x y ≡ true → g % 32 ≡ 0
  pub at_entries : (g : ℕ) (x y : ℤ) → due g x y ≡ true
      → (q : ℕ) × (l : ℕ) × (x ≡ pos (32 * q)) × (y ≡ pos (16 * l + 8))
      × (is_entered (tiling q l) 0 8 ≡ true)
  pub nothing_before : (g q l : ℕ) → due g (pos (32 * (q + 1))) (pos (16 * l + 8)) ≡ true
      → is_left (tiling q l) 31 8 ≡ false

-- the edges at whose entries heads are injected at a generation
abbrev pub injected_edges : Due → ℕ → Lit
injected_edges due g (Beside q l) = due g (pos (32 * q)) (pos (16 * l + 8))
injected_edges due g (Above q l) = false

-- the lit edges, and those of the injections
abbrev pub with_injected : Due → ℕ → Lit → Lit
with_injected due g lit edge = lit edge || injected_edges due g edge

-- the lit edges at generation 32 m of a driven tiling, its injections among them
abbrev pub driven_edges : Tiling → Due → Lit → ℕ → Lit
driven_edges tiling due lit zero = with_injected due 0 lit
driven_edges tiling due lit (suc m) =
    with_injected due (32 * suc m) (macro_step tiling (driven_edges tiling due lit m))

-- in a run of the plane from lit edges on: the entry cell at a block's west side is a head at none
-- of the 32 generations but the first, and there exactly if its edge is lit; the exit cell at its
-- east side is a head at none but the last, and there exactly if the piece answers 1
pub record ShowsEdges (library : Kind → Drawing) (tiling : Tiling) (lit : Lit) : Type 0 where
  pub entry : (q l r : ℕ) → r < 32 → is_entered (tiling q l) 0 8 ≡ true
      → (evolve r (drawn library tiling lit) (pos (32 * q)) (pos (16 * l + 8)) ≡ Head)
      ↔ ((r ≡ 0) × (lit (Beside q l) ≡ true))
  pub exit : (q l r : ℕ) → r < 32 → is_left (tiling q l) 31 8 ≡ true
      → (evolve r (drawn library tiling lit) (pos (32 * q + 31)) (pos (16 * l + 8)) ≡ Head)
      ↔ ((r ≡ 31) × (slot_answers lit q l (tiling q l) 31 8 ≡ true))

-- every matched tiling shows its edges, with every library and all lit edges
abbrev pub EdgesLaw : Type 0
EdgesLaw =
    (library : Kind → Drawing) → KeepsLaw library → (tiling : Tiling) → IsMatched tiling
    → (lit : Lit) → ShowsEdges library tiling lit

-- a driven tiling: at generation 32 m it is drawn with the edges of m macro steps and of the
-- injections, it runs on for 32 generations, and each injection meets a cell that is a conductor
-- just before that generation's injections
pub record IsDriven (library : Kind → Drawing) (tiling : Tiling) (due : Due)
    (lit : Lit) : Type 0 where
  pub whole : (m r : ℕ) → r < 32 → driven due (drawn library tiling lit) (32 * m + r) ≡ evolve r
      (drawn library tiling (driven_edges tiling due lit m))
  pub conductors : (m : ℕ) (x y : ℤ) → due (32 * suc m) x y ≡ true
      → next_plane (driven due (drawn library tiling lit) (32 * m + 31)) x y ≡ Conductor
  pub first_conductors : (q l : ℕ) → due 0 (pos (32 * q)) (pos (16 * l + 8)) ≡ true
      → lit (Beside q l) ≡ false → drawn library tiling lit (pos (32 * q)) (pos (16 * l + 8))
      ≡ Conductor

-- every matched tiling is driven so, with every library, all lit edges and all injections at its
-- free entries
abbrev pub DrivenLaw : Type 0
DrivenLaw =
    (library : Kind → Drawing) → KeepsLaw library → (tiling : Tiling) → IsMatched tiling
    → (due : Due) → DrivesEntries tiling due → (lit : Lit) → IsDriven library tiling due lit
