-- Lists that compute the same, one after another.
use Rattle.std.proofs.Common.{◌≡◌, refl, sym, ◌∙◌, ap, ap₂, ℕ, Bool, true, ◌||◌, List, [], ◌∷◌, ◌++◌, length, map, subst, slice_get, Option, Some, None, ◌<◌, arith}
use Rattle.std.specs.Prelude.{Contains, IfSome}
use Rattle.std.specs.List.{list_any}
use Rattle.std.proofs.lemmas.Bool.{and_parts, lt-ltb}
use Rattle.std.proofs.lemmas.List.{append-nil, length-append, get_or_append_left}
use Rattle.std.proofs.lemmas.Option.{slice_get_within, slice_get-get_or}
use Rattle.cell_core.specs.declared.cells.Src.{Src}
use Rattle.cell_core.specs.declared.cells.Cell.{Cell}
use Rattle.cell_core.specs.declared.cells.Cell.TheVariants.{Or, Xor, AndNot}
use Rattle.cell_core.specs.declared.list.CellList.{CellList}
use Rattle.cell_core.specs.Sources.{is_there, are_there, is_one, read_one}
use Rattle.cell_core.specs.Meaning.{bit_in}
use Rattle.cell_core.proofs.Bits.{appending_keeps_bits}
use Rattle.cell_meaning.specs.Mapped.{IsCell}
use Rattle.cell_meaning.specs.Same.{cell_over, StaysCell, StaysBit, Keeps, IsNoLarger, IsRewritten, AreAlike, Rewrites}
use Rattle.cell_meaning.proofs.Mapping.{contains_mapped}
use Rattle.cell_rewriting.specs.Substitution.{Extends}

all_stay : (sources : List Src) → sources ≡ map (λ s. s) sources
all_stay [] = refl
all_stay (src ∷ sources) = ap (λ l. src ∷ l) (all_stay sources)

twice : (f g : Src → Src) (sources : List Src) → map g (map f sources) ≡ map (λ s. g (f s)) sources
twice f g [] = refl
twice f g (src ∷ sources) = ap (λ l. g (f src) ∷ l) (twice f g sources)

followed : (f g : Src → Src) (a b c : List Src) → b ≡ map f a → c ≡ map g b → c ≡ map (λ s. g (f s)) a
followed f g a b c p q = q ∙ ap (map g) p ∙ twice f g a

cell_twice : (f g : Src → Src) (cell : Cell) → cell_over g (cell_over f cell) ≡ cell_over (λ s. g (f s)) cell
cell_twice f g (Or a b) = refl
cell_twice f g (Xor a b) = refl
cell_twice f g (AndNot a b) = refl

cell_same : (cell : Cell) → cell ≡ cell_over (λ s. s) cell
cell_same (Or a b) = refl
cell_same (Xor a b) = refl
cell_same (AndNot a b) = refl

pub then_keeps : (a b c : CellList) (k l m : List Src) → Keeps a k b l → Keeps b l c m → Keeps a k c m
then_keeps a b c k l m p q =
    record {
      to = λ s. q.to (p.to s);
      moves = record {
        stays = λ s other. ap q.to (p.moves.stays s other) ∙ q.moves.stays s other;
        inputs = q.moves.inputs ∙ p.moves.inputs;
        starts = q.moves.starts ∙ p.moves.starts;
        outs_go = followed p.to q.to a.outs b.outs c.outs p.moves.outs_go q.moves.outs_go;
        latches_go = followed p.to q.to a.latches b.latches c.latches p.moves.latches_go q.moves.latches_go;
        nets_go = followed p.to q.to a.nets b.nets c.nets p.moves.nets_go q.moves.nets_go;
        outs = λ inputs state. q.moves.outs inputs state ∙ p.moves.outs inputs state;
        latches = λ inputs state. q.moves.latches inputs state ∙ p.moves.latches inputs state;
        nets = λ inputs state. q.moves.nets inputs state ∙ p.moves.nets inputs state;
      };
      cells = λ src among cell is.
          subst (λ e. IsCell c (q.to (p.to src)) e) (cell_twice p.to q.to cell)
          (q.cells (p.to src) (subst (λ s. Contains s (p.to src)) (sym p.follow) (contains_mapped p.to k src among)) (cell_over p.to cell) (p.cells src among cell is));
      bits = λ src among cell is inputs state.
          q.bits (p.to src) (subst (λ s. Contains s (p.to src)) (sym p.follow) (contains_mapped p.to k src among)) (cell_over p.to cell) (p.cells src among cell is) inputs state
          ∙ p.bits src among cell is inputs state;
      follow = followed p.to q.to k l m p.follow q.follow;
    }

pub then_not_more : (a b c : CellList) → IsNoLarger a b → IsNoLarger b c → IsNoLarger a c
then_not_more a b c p q = record { few = let x = p.few in let y = q.few in omega (arith, x, y); one = λ e. p.one (q.one e) }

-- ---- cells are added
-- bits of sources that are there
bits_stay : (cells more new : List Cell) (count latches : ℕ) (sources new_sources : List Src) → new ≡ cells ++ more → new_sources ≡ sources
    → are_there count latches (length cells) sources ≡ true → (inputs state : List Bool) → map (bit_in new inputs state) new_sources ≡ map (bit_in cells inputs state) sources
bits_stay cells more new count latches sources new_sources is same there inputs state =
    ap₂ (λ (c : List Cell) (l : List Src). map (bit_in c inputs state) l) is same ∙ each sources there where
      each : (l : List Src) → are_there count latches (length cells) l ≡ true → map (bit_in (cells ++ more) inputs state) l ≡ map (bit_in cells inputs state) l
      each [] there = refl
      each (src ∷ l) there =
          ap₂ (λ (b : Bool) (r : List Bool). b ∷ r) (appending_keeps_bits cells more inputs state latches count src (and_parts _ _ there).0) (each l (and_parts _ _ there).1)

front_kept : (cells rest : List Cell) (m : ℕ) (d : Cell) → m < length cells → slice_get (cells ++ rest) m ≡ slice_get cells m
front_kept cells rest m d low =
    slice_get-get_or (cells ++ rest) m d (let e = length-append cells rest in omega (arith, e, low))
    ∙ ap Some (get_or_append_left cells rest d m low) ∙ sym (slice_get-get_or cells m d low)

front_stays : (old new : CellList) (more : List Cell) → new.cells ≡ old.cells ++ more → (src : Src) → StaysCell old new (λ s. s) src
front_stays old new more is src = λ cell at.
    (at.0, at.1, ap (λ (l : List Cell). slice_get l at.0) is ∙ front_kept old.cells more at.0 cell (slice_get_within old.cells at.0 cell at.2) ∙ at.2 ∙ ap Some (cell_same cell))

front_bit : (old new : CellList) (more : List Cell) → new.cells ≡ old.cells ++ more → (src : Src) → StaysBit old new (λ s. s) src
front_bit old new more is src = λ cell at inputs state.
    ap (λ (l : List Cell). bit_in l inputs state src) is
    ∙ appending_keeps_bits old.cells more inputs state 0 0 src
    (ap (is_there 0 0 (length old.cells)) at.1 ∙ lt-ltb at.0 (length old.cells) (slice_get_within old.cells at.0 cell at.2))

pub added_keeps : (old new : CellList) → Extends old new → (kept : List Src) → Keeps old kept new kept
added_keeps old new (more, adds) kept =
    record {
      to = λ s. s;
      moves = record {
        stays = λ s other. refl;
        inputs = adds.inputs;
        starts = adds.starts;
        outs_go = adds.outs ∙ all_stay old.outs;
        latches_go = adds.latches ∙ all_stay old.latches;
        nets_go = adds.nets ∙ all_stay old.nets;
        outs = bits_stay old.cells more new.cells old.inputs (length old.starts) old.outs new.outs adds.cells adds.outs old.outs_there;
        latches = bits_stay old.cells more new.cells old.inputs (length old.starts) old.latches new.latches adds.cells adds.latches old.latches_there;
        nets = bits_stay old.cells more new.cells old.inputs (length old.starts) old.nets new.nets adds.cells adds.nets old.nets_there;
      };
      cells = λ src among. front_stays old new more adds.cells src;
      bits = λ src among. front_bit old new more adds.cells src;
      follow = all_stay kept;
    }

-- ---- a copy
pub alike_extends : (old new : CellList) → AreAlike old new → Extends old new
alike_extends old new alike =
    ([], record { inputs = alike.inputs; cells = alike.cells ∙ sym (append-nil old.cells); outs = alike.outs; latches = alike.latches; starts = alike.starts; nets = alike.nets })

is_named : (c c' : List Cell) (o o' l l' n n' : List Src) → c' ≡ c → o' ≡ o → l' ≡ l → n' ≡ n
    → (((read_one c' || list_any is_one o') || list_any is_one l') || list_any is_one n') ≡ (((read_one c || list_any is_one o) || list_any is_one l) || list_any is_one n)
is_named c c' o o' l l' n n' p q r s =
    ap₂ (λ (x y : Bool). x || y) (ap₂ (λ (x y : Bool). x || y) (ap₂ (λ (x y : Bool). x || y) (ap read_one p) (ap (list_any is_one) q)) (ap (list_any is_one) r)) (ap (list_any is_one) s)

pub alike_not_more : (old new : CellList) → AreAlike old new → IsNoLarger old new
alike_not_more old new alike =
    record {
      few = let e : length new.cells ≡ length old.cells = ap length alike.cells in omega (arith, e);
      one = λ named. sym (is_named old.cells new.cells old.outs new.outs old.latches new.latches old.nets new.nets alike.cells alike.outs alike.latches alike.nets) ∙ named;
    }

pub alike_rewritten : (old new : CellList) → AreAlike old new → (kept still : List Src) → still ≡ kept → IsRewritten old kept new still
alike_rewritten old new alike kept still same =
    subst (λ s. IsRewritten old kept new s) (sym same) (record { keeps = added_keeps old new (alike_extends old new alike) kept; no_larger = alike_not_more old new alike })

-- ---- all of it
pub then_rewritten : (a b c : CellList) (k l m : List Src) → IsRewritten a k b l → IsRewritten b l c m → IsRewritten a k c m
then_rewritten a b c k l m p q = record { keeps = then_keeps a b c k l m p.keeps q.keeps; no_larger = then_not_more a b c p.no_larger q.no_larger }

pub rewrites : (old new : CellList) (kept still : List Src) → IsRewritten old kept new still → Rewrites old kept new
rewrites old new kept still r =
    record { to = r.keeps.to; moves = r.keeps.moves; cells = r.keeps.cells; bits = r.keeps.bits; few = r.no_larger.few; one = r.no_larger.one }

pub itself_rewritten : (list : CellList) (kept : List Src) → IsRewritten list kept list kept
itself_rewritten list kept = alike_rewritten list list (record { inputs = refl; cells = refl; outs = refl; latches = refl; starts = refl; nets = refl }) kept kept refl

-- ---- options
pub some_weaker : {X : Type 0} (o : Option X) (P Q : X → Type 0) → ((x : X) → P x → Q x) → IfSome o P → IfSome o Q
some_weaker None P Q f h = tt
some_weaker (Some x) P Q f h = f x h
