-- Contexts: several machines on the same wires, each driven by rows of bits of its own, 32
-- generations after the one before.
use Rattle.std.specs.Prelude.{ℤ, pos, ℕ, ◌+◌, ◌-◌, ◌*◌, ◌<◌, nat_le, ◌≡◌, ◌↔◌, Bool, true, false, ◌&&◌, ◌||◌, List, [], ◌∷◌, ◌++◌, map, length, get_or, All, Contains}
use Rattle.ww_rule.specs.declared.pattern.Injection.{Injection}
use Rattle.ww_rule.specs.Wireworld.{Due}
use Rattle.ww_rule.specs.Injections.{due_of_list, due_of_streams}

-- what is due, moved to so many generations later
abbrev pub due_later : ℕ → Due → Due
due_later generations due g x y = nat_le generations g && due (g - generations) x y

-- what the rows of several contexts make due: what the rows of the first context do, and 32
-- generations later what those of the other contexts do
abbrev pub due_of_contexts : ℕ → List (ℕ × ℕ) → List (List (List Bool)) → Due
due_of_contexts period cells [] g x y = false
due_of_contexts period cells (rows ∷ contexts) g x y =
    due_of_streams period cells rows g x y
    || due_later 32 (due_of_contexts period cells contexts) g x y

-- the row of bits of one cycle of one context
abbrev pub context_row : List (List (List Bool)) → ℕ → ℕ → List Bool
context_row contexts context cycle = get_or (get_or contexts context []) cycle []

-- an injection of contexts: the bit of an input is 1 in a cycle of a context, and the input's cell
-- is made a head at generation 32 * context + cycle * period
pub record IsBitOfContexts (period : ℕ) (cells : List (ℕ × ℕ)) (contexts : List (List (List Bool)))
    (g : ℕ) (x y : ℤ) : Type 0 where
  pub context : ℕ
  pub cycle : ℕ
  pub input : ℕ
  pub in_contexts : context < length contexts
  pub in_time : 32 * context + cycle * period ≡ g
  pub in_cells : input < length cells
  pub one : get_or (context_row contexts context cycle) input false ≡ true
  pub column : pos (get_or cells input (0, 0)).0 ≡ x
  pub line : pos (get_or cells input (0, 0)).1 ≡ y

-- Contexts make due exactly their bits that are 1, and so does each list of exactly these
-- injections, in whatever order. Rows of 0 bits at the end of each context change nothing. One
-- context alone makes due what streams do.
pub record ContextsAreInjected : Type 0 where
  pub exactly : (period : ℕ) (cells : List (ℕ × ℕ)) (contexts : List (List (List Bool))) (g : ℕ)
      (x y : ℤ)
      → (due_of_contexts period cells contexts g x y ≡ true)
      ↔ IsBitOfContexts period cells contexts g x y
  pub listed : (period : ℕ) (cells : List (ℕ × ℕ)) (contexts : List (List (List Bool)))
      (injections : List Injection)
      → ((i : Injection) → Contains injections i
      ↔ IsBitOfContexts period cells contexts i.generation (pos i.x) (pos i.y))
      → due_of_list injections ≡ due_of_contexts period cells contexts
  pub rest : (period : ℕ) (cells : List (ℕ × ℕ)) (contexts : List (List (List Bool)))
      (zeros : List (List Bool)) → All (λ row. All (λ bit. bit ≡ false) row) zeros
      → due_of_contexts period cells (map (λ rows. rows ++ zeros) contexts)
      ≡ due_of_contexts period cells contexts
  pub one : (period : ℕ) (cells : List (ℕ × ℕ)) (rows : List (List Bool))
      → due_of_contexts period cells (rows ∷ []) ≡ due_of_streams period cells rows
