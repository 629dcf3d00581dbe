-- Designs of one cover with two inputs, among them the OR.
use Rattle.std.specs.Prelude.{ℕ, List, [], ◌∷◌, true, Some, codes, ◌≡◌, ◌≢◌, Bool, false, not, ◌||◌, length, All, ◌&&◌, slice_get}
use Rattle.netlist_core.specs.declared.model.Design.{Design}
use Rattle.netlist_core.specs.declared.model.Model.{Model}
use Rattle.netlist_core.specs.declared.model.Cover.{Cover}
use Rattle.netlist_core.specs.Names.{Name, port_names}
use Rattle.netlist_meaning.specs.CoverValue.{cover_value}
use Rattle.netlist_meaning.specs.Valuation.{Valuation, IsRun, output_bits}
use Rattle.netlist_examples.specs.Parts.{ports_with, cover_with, design_with}

-- .model or / .inputs a b / .outputs y / .names a b y / 1- 1 / -1 1 / .end
abbrev pub or_main : Model
or_main =
    record {
      line = 1;
      name = codes "or";
      ins = ports_with 2 (codes "a" ∷ codes "b" ∷ []);
      outs = ports_with 3 (codes "y" ∷ []);
      clocks = [];
      covers =
          cover_with 4 (codes "a" ∷ codes "b" ∷ []) (codes "y") (codes "1-" ∷ codes "-1" ∷ []) ∷ [];
      latches = [];
      subckts = [];
    }

abbrev pub or_design : Design
or_design = design_with (or_main ∷ [])

-- one model with the inputs a and b, the output y, and one cover of a and b with the output y
pub record IsOneCover (a b y : Name) (rows : List (List ℕ)) (on : Bool)
    (design : Design) : Type 0 where
  pub main : Model
  pub cover : Cover
  pub models : design.models ≡ main ∷ []
  pub inputs : port_names main.ins ≡ a ∷ b ∷ []
  pub outputs : port_names main.outs ≡ y ∷ []
  pub clocks : main.clocks ≡ []
  pub covers : main.covers ≡ cover ∷ []
  pub cover_ins : cover.ins ≡ a ∷ b ∷ []
  pub cover_out : cover.out ≡ y
  pub cover_rows : cover.rows ≡ rows
  pub cover_on : cover.on ≡ on
  pub latches : main.latches ≡ []
  pub subckts : main.subckts ≡ []

-- the rows of an OR
abbrev pub or_cover_rows : List (List ℕ)
or_cover_rows = codes "1-" ∷ codes "-1" ∷ []

-- there is a run on every list of rows of two bits, and in every run the one output of each cycle
-- is the function of its two bits
pub record Computes (design : Design) (function : Bool → Bool → Bool) : Type 0 where
  pub runs : (rows : List (List Bool)) → All (λ row. length row ≡ 2) rows
      → (run : ℕ → Valuation) × IsRun design rows run
  pub gives : (rows : List (List Bool)) (run : ℕ → Valuation) → IsRun design rows run
      → (cycle : ℕ) (p q : Bool) → slice_get rows cycle ≡ Some (p ∷ q ∷ [])
      → output_bits design (run cycle) ≡ function p q ∷ []

-- one cover of two inputs computes its cover's value
abbrev pub OneCoverComputes : Type 0
OneCoverComputes =
    (a b y : Name) (rows : List (List ℕ)) (on : Bool) (design : Design) → a ≢ b → a ≢ y → b ≢ y
    → IsOneCover a b y rows on design
    → Computes design (λ p q. cover_value rows on (p ∷ q ∷ []))

-- with the rows of an OR it computes `or`
abbrev pub OneCoverComputesOr : Type 0
OneCoverComputesOr =
    (a b y : Name) (design : Design) → a ≢ b → a ≢ y → b ≢ y
    → IsOneCover a b y or_cover_rows true design
    → Computes design (λ p q. p || q)

-- with the row `11 0` one cover computes NAND
abbrev pub OneCoverComputesNand : Type 0
OneCoverComputesNand =
    (a b y : Name) (design : Design) → a ≢ b → a ≢ y → b ≢ y
    → IsOneCover a b y (codes "11" ∷ []) false design
    → Computes design (λ p q. not (p && q))
