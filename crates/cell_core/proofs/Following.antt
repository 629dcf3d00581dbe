-- Lists of cells that are made again from another list: `to` gives the new source of each source that has one.
use Rattle.std.proofs.Common.{◌≡◌, refl, sym, ◌∙◌, ap, ap₂, ℕ, suc, Bool, true, ◌&&◌, ◌||◌, not, List, [], ◌∷◌, length, get_or, Option, Some, None, option_map, option_and_then, subst, map, drop, arith}
use Rattle.std.proofs.lemmas.Bool.{and_parts, and_from}
use Rattle.std.proofs.lemmas.List.{length-map}
use Rattle.std.proofs.lemmas.Option.{none-some, same_Some}
use Rattle.cell_core.specs.declared.cells.Src.{Src}
use Rattle.cell_core.specs.declared.cells.Cell.{Cell}
use Rattle.cell_core.specs.declared.cells.Cell.TheVariants.{Or, Xor, AndNot}
use Rattle.cell_core.specs.declared.list.CellList.{CellList}
use Rattle.cell_core.specs.Sources.{is_there, reads_there, are_there, are_in_order}
use Rattle.cell_core.specs.Meaning.{cell_bit, cell_bits, bit_in, bit_of}

pub none_is_some : {A B : Type 0} (f : A → B) (x : A) (xs : List A) → [] ≡ map f (x ∷ xs) → ⊥
none_is_some f x xs e = let n : 0 ≡ suc (length (map f xs)) = ap length e in omega arith

pub ∷-parts : {A : Type 0} {a b : A} {xs ys : List A} → a ∷ xs ≡ b ∷ ys → (a ≡ b) × (xs ≡ ys)
∷-parts {A} {a} {b} {xs} {ys} e = (ap (λ l. get_or l 0 a) e, ap (λ l. drop 1 l) e)

-- a new source is there, and has the bit of the old one
pub record Follows (list : CellList) (cells : List Cell) (src new : Src) : Type 0 where
  pub there : (made : ℕ) → is_there list.inputs (length list.starts) made src ≡ true → is_there list.inputs (length list.starts) (length cells) new ≡ true
  pub bit : (inputs state : List Bool) → bit_in cells inputs state new ≡ bit_of list inputs state src

-- a new cell reads what is there, and has the bit of the old one
pub record CellFollows (list : CellList) (cells : List Cell) (cell new : Cell) : Type 0 where
  pub there : (made : ℕ) → reads_there list.inputs (length list.starts) made cell ≡ true → reads_there list.inputs (length list.starts) (length cells) new ≡ true
  pub bit : (inputs state : List Bool) → cell_bit inputs state (cell_bits inputs state cells) new ≡ cell_bit inputs state (cell_bits inputs state list.cells) cell

-- both sources of a new cell
pub both : {A : Type 0} (f : Src → Src → A) (a b : Option Src) (new : A) → option_and_then (λ x. option_map (f x) b) a ≡ Some new
    → (x : Src) × (y : Src) × (a ≡ Some x) × (b ≡ Some y) × (f x y ≡ new)
both f None b new e = absurd (none-some new e)
both f (Some x) None new e = absurd (none-some new e)
both f (Some x) (Some y) new e = (x, y, refl, refl, same_Some _ _ e)

pub as_many : (to : Src → Option Src) (sources found : List Src) → map to sources ≡ map (λ s. Some s) found → length sources ≡ length found
as_many to sources found e = sym (length-map sources to) ∙ ap length e ∙ length-map found (λ s. Some s)

pub in_order_again : (list : CellList) (cells new : List Cell) (starts : List Bool) → are_in_order list.inputs (length list.starts) 0 cells ≡ true → new ≡ cells → starts ≡ list.starts
    → are_in_order list.inputs (length starts) 0 new ≡ true
in_order_again list cells new starts in_order same_cells same_starts =
    ap₂ (λ (s : List Bool) (c : List Cell). are_in_order list.inputs (length s) 0 c) same_starts same_cells ∙ in_order

-- what the sources of a port list become
pub record ArePorts (to : Src → Option Src) (sources found new : List Src) : Type 0 where
  pub follow : map to sources ≡ map (λ s. Some s) found
  pub is : new ≡ found

module _ (list : CellList) (cells : List Cell) (to : Src → Option Src) (follows : (src new : Src) → to src ≡ Some new → Follows list cells src new) where
  pub or_follows : (a b : Src) (new : Cell) → option_and_then (λ x. option_map (Or x) (to b)) (to a) ≡ Some new → CellFollows list cells (Or a b) new
  or_follows a b new e =
      let (x, y, at_a, at_b, is) = both Or (to a) (to b) new e in
      let p : Follows list cells a x = follows a x at_a in
      let q : Follows list cells b y = follows b y at_b in
      subst (λ c. CellFollows list cells (Or a b) c) is
      (record {
        there = λ made h. and_from _ _ (p.there made (and_parts _ _ h).0) (q.there made (and_parts _ _ h).1);
        bit = λ inputs state. ap₂ (λ u v. u || v) (p.bit inputs state) (q.bit inputs state);
      })

  pub xor_follows : (a b : Src) (new : Cell) → option_and_then (λ x. option_map (Xor x) (to b)) (to a) ≡ Some new → CellFollows list cells (Xor a b) new
  xor_follows a b new e =
      let (x, y, at_a, at_b, is) = both Xor (to a) (to b) new e in
      let p : Follows list cells a x = follows a x at_a in
      let q : Follows list cells b y = follows b y at_b in
      subst (λ c. CellFollows list cells (Xor a b) c) is
      (record {
        there = λ made h. and_from _ _ (p.there made (and_parts _ _ h).0) (q.there made (and_parts _ _ h).1);
        bit = λ inputs state. ap₂ (λ u v. (u || v) && not (u && v)) (p.bit inputs state) (q.bit inputs state);
      })

  pub and_not_follows : (a b : Src) (new : Cell) → option_and_then (λ x. option_map (AndNot x) (to b)) (to a) ≡ Some new → CellFollows list cells (AndNot a b) new
  and_not_follows a b new e =
      let (x, y, at_a, at_b, is) = both AndNot (to a) (to b) new e in
      let p : Follows list cells a x = follows a x at_a in
      let q : Follows list cells b y = follows b y at_b in
      subst (λ c. CellFollows list cells (AndNot a b) c) is
      (record {
        there = λ made h. and_from _ _ (p.there made (and_parts _ _ h).0) (q.there made (and_parts _ _ h).1);
        bit = λ inputs state. ap₂ (λ u v. u && not v) (p.bit inputs state) (q.bit inputs state);
      })

  pub bits_follow : (sources found : List Src) → map to sources ≡ map Some found → (inputs state : List Bool) → map (bit_in cells inputs state) found ≡ map (bit_of list inputs state) sources
  bits_follow [] [] e inputs state = refl
  bits_follow [] (new ∷ found) e inputs state = absurd (none_is_some (λ s. Some s) new found e)
  bits_follow (src ∷ sources) [] e inputs state = absurd (none_is_some to src sources (sym e))
  bits_follow (src ∷ sources) (new ∷ found) e inputs state =
      let parts : (to src ≡ Some new) × (map to sources ≡ map Some found) = ∷-parts e in
      ap₂ (λ (b : Bool) (bs : List Bool). b ∷ bs) ((follows src new parts.0).bit inputs state) (bits_follow sources found parts.1 inputs state)

  pub there_follow : (sources found : List Src) → map to sources ≡ map Some found
      → are_there list.inputs (length list.starts) (length list.cells) sources ≡ true → are_there list.inputs (length list.starts) (length cells) found ≡ true
  there_follow [] [] e there = refl
  there_follow [] (new ∷ found) e there = absurd (none_is_some (λ s. Some s) new found e)
  there_follow (src ∷ sources) [] e there = absurd (none_is_some to src sources (sym e))
  there_follow (src ∷ sources) (new ∷ found) e there =
      let parts : (to src ≡ Some new) × (map to sources ≡ map Some found) = ∷-parts e in
      and_from _ _ ((follows src new parts.0).there (length list.cells) (and_parts _ _ there).0)
      (there_follow sources found parts.1 (and_parts _ _ there).1)

  pub there_again : (new : List Cell) (starts : List Bool) (sources found found' : List Src) → new ≡ cells → starts ≡ list.starts
      → map to sources ≡ map (λ s. Some s) found → found' ≡ found → are_there list.inputs (length list.starts) (length list.cells) sources ≡ true
      → are_there list.inputs (length starts) (length new) found' ≡ true
  there_again new starts sources found found' same_cells same_starts e same_found there =
      ap₂ (λ (s : List Bool) (c : List Cell). are_there list.inputs (length s) (length c) found') same_starts same_cells
      ∙ ap (are_there list.inputs (length list.starts) (length cells)) same_found
      ∙ there_follow sources found e there

  pub ports_alike : (new : List Cell) (sources found found' : List Src) → new ≡ cells → ArePorts to sources found found'
      → (inputs state : List Bool) → map (bit_in new inputs state) found' ≡ map (bit_of list inputs state) sources
  ports_alike new sources found found' same_cells ports inputs state =
      ap₂ (λ (c : List Cell) (l : List Src). map (bit_in c inputs state) l) same_cells ports.is ∙ bits_follow sources found ports.follow inputs state
