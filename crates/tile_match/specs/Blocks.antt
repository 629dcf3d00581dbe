-- What rows of cells show of a plan, read at a few cells of each block.
use Rattle.std.specs.Prelude.{ℕ, zero, suc, ◌+◌, ◌-◌, ◌*◌, Bool, false, cond, List, [], ◌++◌, map, get_or, Option, Some, None, option_to_list, is_some}
use Rattle.std.specs.List.{range_with_len}
use Rattle.ww_rule.specs.declared.pattern.State.{State}
use Rattle.ww_rule.specs.declared.pattern.State.TheVariants.{Empty}
use Rattle.ww_rule.specs.Wireworld.{is_head}
use Rattle.tile_timing.specs.Law.{is_filled}
use Rattle.lane_core.specs.declared.instr.Instr.{Instr}
use Rattle.lane_core.specs.declared.instr.Instr.TheVariants.{Swap, Fork, Xor, Or, AndNot}
use Rattle.lane_core.specs.Plans.{row_of}
use Rattle.lane_core.specs.Entering.{first_loop_lane}

-- the cell at column x and row y of rows of cells; past them it is empty
abbrev pub cell_shown : List (List State) → ℕ → ℕ → State
cell_shown rows x y = get_or (get_or rows y []) x Empty

-- the cell is not empty
abbrev pub is_filled_in : List (List State) → ℕ → ℕ → Bool
is_filled_in rows x y = is_filled (cell_shown rows x y)

-- The instruction whose upper half stands in a block, or none if the block has a tile that only
-- goes on, by three cells of the block: `climbs` at (3, 6), `falls` at (5, 9) and `ends` at (23,
-- 8). No two of the six drawings that may stand there have the same three; for a block with other
-- cells the result means nothing.
abbrev pub instr_of_cells : ℕ → Bool → Bool → Bool → Option Instr
instr_of_cells lane climbs falls ends =
    cond climbs (cond ends (Some (Fork lane)) (Some (Swap lane)))
    (cond falls (cond ends (Some (Or lane)) (Some (Xor lane)))
    (cond ends None (Some (AndNot lane))))

-- the same by a test of the block's cells
abbrev pub instr_shown : ℕ → (ℕ → ℕ → Bool) → Option Instr
instr_shown lane block = instr_of_cells lane (block 3 6) (block 5 9) (block 23 8)

-- The instructions of `left` lanes, from this one on; `shown` is what each lane's block shows. The
-- lane below an instruction is taken by it.
abbrev pub instrs_from : (ℕ → Option Instr) → ℕ → ℕ → Bool → List Instr
instrs_from shown zero lane taken = []
instrs_from shown (suc left) lane taken =
    let here = cond taken None (shown lane) in
    option_to_list here ++ instrs_from shown left (lane + 1) (is_some here)

-- what the block of a lane that begins at x shows; and below, the instructions of a column that
-- begins at x
abbrev pub instr_in : List (List State) → ℕ → ℕ → Option Instr
instr_in rows x lane = instr_shown lane (λ u v. is_filled_in rows (x + u) (16 * lane + v))

abbrev pub column_shown : List (List State) → ℕ → ℕ → List Instr
column_shown rows lanes x = instrs_from (instr_in rows x) (lanes - 1) 0 false

-- where column c of the body begins, in a plan of so many loops
abbrev pub column_start : ℕ → ℕ → ℕ
column_start loops column = 32 * (loops + column)

-- the instructions of each column of the body
abbrev pub columns_shown : List (List State) → ℕ → ℕ → ℕ → List (List Instr)
columns_shown rows lanes loops count =
    map (λ column. column_shown rows lanes (column_start loops column)) (range_with_len 0 count)

-- a loop starts with 1 if a head stands where it enters the body
abbrev pub bit_shown : List (List State) → ℕ → ℕ → ℕ → Bool
bit_shown rows lanes loops number =
    is_head (cell_shown rows (column_start loops 0) (row_of (first_loop_lane lanes loops + number)))

abbrev pub bits_shown : List (List State) → ℕ → ℕ → List Bool
bits_shown rows lanes loops = map (bit_shown rows lanes loops) (range_with_len 0 loops)
