-- Tables of rows, of covers and of cells.
use Rattle.std.proofs.Common.{◌≡◌, ◌≢◌, refl, sym, ◌∙◌, ap, ap₂, ℕ, ◌+◌, ◌<◌, ◌≤◌, ◌==◌, min, Bool, true, false, ◌&&◌, not, List, [], ◌∷◌, ◌++◌, map, take, length, get_or, arith, zip}
use Rattle.std.specs.List.{list_all}
use Rattle.std.proofs.lemmas.List.{take_all, take_more, length_push, map-append}
use Rattle.std.proofs.lemmas.List.Sums.{fold_push}
use Rattle.std.proofs.lemmas.Slice.Zip.{length-zip}
use Rattle.netlist_meaning.specs.CoverValue.{fits, product_holds, any_holds, cover_value}
use Rattle.cell_core.specs.declared.cells.Cell.{Cell}
use Rattle.cell_core.specs.Meaning.{cell_bit, cell_bits}
use Rattle.cell_core.specs.Tables.{bits_number, table_bit}
use Rattle.cover_cells.specs.Words.{ShowTables}
use Rattle.lists.specs.Bits.{has_bit}
use Rattle.cover_cells.proofs.Products.{so_far, so_far_more}
use Rattle.cell_core.proofs.TableBits.{number_small, ones_shown}

-- ---- a row
pub row_more : (bits : List Bool) (row : List ℕ) (i nets word net new : ℕ) → nets ≤ 6 → length bits ≡ nets → i < length row → i < nets
    → table_bit bits word ≡ so_far i row bits → table_bit bits net ≡ get_or bits i false
    → ((n : ℕ) → n < 64 → has_bit new n ≡ (has_bit word n && fits (get_or row i 0) (has_bit net n)))
    → table_bit bits new ≡ so_far (i + 1) row bits
row_more bits row i nets word net new few long in_row in_nets before is made =
    made (bits_number bits) (number_small bits (omega (arith, long)))
    ∙ ap₂ (λ a b. a && fits (get_or row i 0) b) before is
    ∙ sym (so_far_more i row bits in_row (omega (arith, long)))

pub row_end : (bits : List Bool) (row : List ℕ) (i nets : ℕ) → length bits ≡ nets → i ≡ min (length row) nets → so_far i row bits ≡ product_holds row bits
row_end bits row i nets long end =
    let e : length (zip row bits) ≡ min (length row) (length bits) = length-zip row bits in
    ap (λ z. list_all (λ (column : ℕ × Bool). fits column.0 column.1) z) (take_all i (zip row bits) (omega (arith, long, end)))

-- ---- a cover
pub off_word : (bits : List Bool) (rows : List (List ℕ)) (i nets word new : ℕ) → nets ≤ 6 → length bits ≡ nets → i ≡ length rows → rows ≢ []
    → table_bit bits word ≡ any_holds (take i rows) bits
    → ((n : ℕ) → n < 64 → has_bit new n ≡ (has_bit 18446744073709551615 n && not (has_bit word n)))
    → table_bit bits new ≡ cover_value rows false bits
off_word bits rows i nets word new few long end some before made =
    made (bits_number bits) (number_small bits (omega (arith, long)))
    ∙ ap₂ (λ a b. a && not b) (ones_shown bits nets few long) (before ∙ ap (λ r. any_holds r bits) (take_all i rows (omega arith)))
    ∙ off rows some
  where
    off : (rows : List (List ℕ)) → rows ≢ [] → not (any_holds rows bits) ≡ cover_value rows false bits
    off [] some = absurd (some refl)
    off (row ∷ rows) some = refl

-- ---- cells
pub record HasWords (nets : ℕ) (words : List ℕ) (i : ℕ) (cells : List Cell) : Type 0 where
  pub long : length words ≡ i
  pub shows : (bits : List Bool) → length bits ≡ nets → ShowTables bits words (cell_bits bits [] (take i cells))

pub cell_bits_more : (inputs state : List Bool) (cells : List Cell) (i : ℕ) (d : Cell) → i < length cells
    → cell_bits inputs state (take (i + 1) cells) ≡ cell_bits inputs state (take i cells) ++ cell_bit inputs state (cell_bits inputs state (take i cells)) (get_or cells i d) ∷ []
cell_bits_more inputs state cells i d within =
    ap (cell_bits inputs state) (take_more cells i d within) ∙ fold_push (λ made c. made ++ cell_bit inputs state made c ∷ []) [] (take i cells) (get_or cells i d)

pub word_added : (nets i word : ℕ) (words new : List ℕ) (cells : List Cell) (d : Cell) → i < length cells → new ≡ words ++ word ∷ [] → HasWords nets words i cells
    → ((bits made : List Bool) → length bits ≡ nets → ShowTables bits words made → table_bit bits word ≡ cell_bit bits [] made (get_or cells i d)) → HasWords nets new (i + 1) cells
word_added nets i word words new cells d within is has made =
    record {
      long = ap length is ∙ length_push words word ∙ ap (λ n. n + 1) has.long;
      shows = λ bits long.
          ap (map (table_bit bits)) is ∙ map-append (table_bit bits) words (word ∷ [])
          ∙ ap₂ (λ (l : List Bool) (b : Bool). l ++ b ∷ []) (has.shows bits long) (made bits (cell_bits bits [] (take i cells)) long (has.shows bits long))
          ∙ sym (cell_bits_more bits [] cells i d within);
    }
