-- What driven evolutions keep, on what they depend, and what lists of injections and streams make
-- due.
use Rattle.std.specs.Prelude.{ℤ, pos, ◌+ℤ◌, ◌-ℤ◌, ◌≤ℤ◌, ℕ, suc, ◌*◌, ◌<◌, ◌≤◌, ◌≡◌, ◌↔◌, Bool, true, false, List, ◌++◌, length, All, Contains}
use Rattle.ww_rule.specs.declared.pattern.Injection.{Injection}
use Rattle.ww_rule.specs.Wireworld.{Plane, Due, next_plane, evolve, injected, driven}
use Rattle.ww_rule.specs.Injections.{has_cell, cells_at, due_of_list, due_of_streams}
use Rattle.ww_rule.specs.Laws.{AgreeNear, moved, mirrored}

-- the plane mirrored from north to south: the rows y and b - y change places
abbrev pub upside_down : ℤ → Plane → Plane
upside_down b p x y = p x (b -ℤ y)

-- the rule, and any number of its generations, commute with mirrors from north to south
abbrev pub KeepsMirrorsDown : Type 0
KeepsMirrorsDown =
    ((b : ℤ) (p : Plane) → next_plane (upside_down b p) ≡ upside_down b (next_plane p))
    × ((b : ℤ) (n : ℕ) (p : Plane) → evolve n (upside_down b p) ≡ upside_down b (evolve n p))

-- the cells that are due, moved and mirrored as planes are
abbrev pub due_moved : ℤ → ℤ → Due → Due
due_moved a b due g x y = due g (x -ℤ a) (y -ℤ b)

abbrev pub due_mirrored : ℤ → Due → Due
due_mirrored a due g x y = due g (a -ℤ x) y

abbrev pub due_upside_down : ℤ → Due → Due
due_upside_down b due g x y = due g x (b -ℤ y)

-- moving or mirroring a plane together with its injections moves or mirrors its driven evolution
pub record DrivesAnywhere : Type 0 where
  pub moves : (a b : ℤ) (due : Due) (p : Plane) (g : ℕ)
      → driven (due_moved a b due) (moved a b p) g ≡ moved a b (driven due p g)
  pub mirrors : (a : ℤ) (due : Due) (p : Plane) (g : ℕ)
      → driven (due_mirrored a due) (mirrored a p) g ≡ mirrored a (driven due p g)
  pub mirrors_down : (b : ℤ) (due : Due) (p : Plane) (g : ℕ)
      → driven (due_upside_down b due) (upside_down b p) g ≡ upside_down b (driven due p g)

-- what is due after a generation changes nothing at that generation
abbrev pub IsCausal : Type 0
IsCausal =
    (due other : Due) (p : Plane) (g : ℕ) → ((h : ℕ) (x y : ℤ) → h ≤ g → due h x y ≡ other h x y)
    → driven due p g ≡ driven other p g

-- at each generation up to n the same cells are due within distance n of x, y
abbrev pub AgreeDueNear : ℕ → Due → Due → ℤ → ℤ → Type 0
AgreeDueNear n due other x y =
    (g : ℕ) (u v : ℤ) → g ≤ n → (x -ℤ pos n) ≤ℤ u → u ≤ℤ (x +ℤ pos n) → (y -ℤ pos n) ≤ℤ v
    → v ≤ℤ (y +ℤ pos n) → due g u v ≡ other g u v

-- a driven cell's state at generation n depends only on the cells within distance n, and on what is
-- due there
abbrev pub IsDrivenLocally : Type 0
IsDrivenLocally =
    (n : ℕ) (due other : Due) (p q : Plane) (x y : ℤ) → AgreeDueNear n due other x y
    → AgreeNear n p q x y
    → driven due p n x y ≡ driven other q n x y

-- an evolution driven by a list: generation 0 is the plane with the list's cells of generation 0
-- made heads; each later generation is the rule on the one before, with the list's cells of this
-- generation made heads
pub record StepsWithInjections (injections : List Injection) (p : Plane) : Type 0 where
  pub begins : driven (due_of_list injections) p 0 ≡ injected (has_cell (cells_at 0 injections)) p
  pub steps : (g : ℕ) → driven (due_of_list injections) p (suc g) ≡ injected
      (has_cell (cells_at (suc g) injections)) (next_plane (driven (due_of_list injections) p g))

-- the list has an injection at this generation and this cell
pub record IsInjectionOf (injections : List Injection) (g : ℕ) (x y : ℤ) : Type 0 where
  pub injection : Injection
  pub is_in : Contains injections injection
  pub in_time : injection.generation ≡ g
  pub column : pos injection.x ≡ x
  pub row : pos injection.y ≡ y

-- a list makes due exactly its injections; so neither their order nor repetition changes what it
-- drives
pub record ListsAreInjected : Type 0 where
  pub exactly : (injections : List Injection) (g : ℕ) (x y : ℤ)
      → (due_of_list injections g x y ≡ true) ↔ IsInjectionOf injections g x y
  pub in_any_order : (injections others : List Injection)
      → ((i : Injection) → Contains injections i ↔ Contains others i) → (p : Plane) (g : ℕ)
      → driven (due_of_list injections) p g ≡ driven (due_of_list others) p g

-- later rows of streams change nothing before their own cycles, and rows of 0 bits at the end
-- change nothing at all
pub record StreamsGoOn (period : ℕ) (cells : List (ℕ × ℕ))
    (rows later : List (List Bool)) : Type 0 where
  pub before : (p : Plane) (g : ℕ) → g < length rows * period
      → driven (due_of_streams period cells (rows ++ later)) p g
      ≡ driven (due_of_streams period cells rows) p g
  pub rest : All (λ row. All (λ bit. bit ≡ false) row) later → (p : Plane) (g : ℕ)
      → driven (due_of_streams period cells (rows ++ later)) p g
      ≡ driven (due_of_streams period cells rows) p g
