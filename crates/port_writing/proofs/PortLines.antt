-- The lines of a port table, field by field and line by line.
use Rattle.std.proofs.Common.{◌≡◌, ◌≢◌, ℕ, zero, suc, ◌+◌, ◌-◌, ◌≤◌, ◌<◌, List, [], ◌∷◌, ◌++◌, map, flat_map, drop, length, get_or, codes, refl, sym, ap, ◌∙◌, append_assoc, add-one, drop-cons, drop_of_length-le, arith}
use Rattle.std.specs.Prelude.{Some, slice_get}
use Rattle.std.specs.List.{join_with_byte}
use Rattle.std.proofs.lemmas.List.{append-nil, drop_more, map-append, get_or-map, get_or_append_left, get_or-append-add, length-append, length-map}
use Rattle.std.proofs.lemmas.Option.{slice_get_within, get_or_from_slice_get}
use Rattle.std.proofs.lemmas.Grind.{flat_map-append}
use Rattle.std.proofs.lemmas.Simd.{map-map}
use Rattle.pattern_reading.specs.declared.ports.NetLine.{NetLine}
use Rattle.pattern_reading.specs.declared.ports.PortLine.{PortLine}
use Rattle.pattern_reading.specs.declared.ports.Ports.{Ports}
use Rattle.pattern_reading.specs.PortLines.{PortForm, Version, In, Out, Net}
use Rattle.pattern_reading.specs.Spelling.{escaped_name, spelled_line, port_forms, port_lines}
use Rattle.pattern_writing.specs.Writer.{ended_lines}
use Rattle.ww_base.proofs.LeftPieces.{piece_next, pieces_none}
use Rattle.port_writing.specs.Lines.{port_text, ended_line}

-- the rest of a list begins with the item that is next
pub items_next : {A : Type 0} (xs : List A) (i : ℕ) (x y : A) → i < length xs → x ≡ get_or xs i x → y ≡ x → drop i xs ≡ y ∷ drop (i + 1) xs
items_next xs i x y inside is e =
    let next : drop i xs ≡ get_or xs i x ∷ drop (i + 1) xs = rw add-one (drop-cons xs i x inside) in
    next ∙ ap (λ z. z ∷ drop (i + 1) xs) (sym (e ∙ is))

-- a space before each field, as it stands between them
joined : (field : List ℕ) (fields : List (List ℕ)) → flat_map (λ f. 32 ∷ f) (field ∷ fields) ≡ 32 ∷ join_with_byte 32 (field ∷ fields)
joined field [] = ap (λ l. 32 ∷ l) (append-nil field)
joined field (next ∷ fields) = ap (λ l. 32 ∷ (field ++ l)) (joined next fields)

pub line_is : (here first : List ℕ) (fields written : List (List ℕ)) (rest : List ℕ) → fields ≡ written
    → here ++ ((codes "#C BLIFWW " ++ join_with_byte 32 (first ∷ fields)) ++ rest) ≡ here ++ (codes "#C BLIFWW" ++ (flat_map (λ f. 32 ∷ f) (first ∷ written) ++ rest))
line_is here first fields written rest e =
    ap (λ l. here ++ (codes "#C BLIFWW" ++ (l ++ rest))) (sym (joined first fields)) ∙ ap (λ l. here ++ (codes "#C BLIFWW" ++ (flat_map (λ f. 32 ∷ f) (first ∷ l) ++ rest))) e

-- fields of which one is a name
with_name : (first : List ℕ) (before : List (List ℕ)) (name : List ℕ) (after : List (List ℕ)) (rest : List ℕ)
    → flat_map (λ f. 32 ∷ f) (first ∷ (before ++ name ∷ after)) ++ rest ≡ flat_map (λ f. 32 ∷ f) (first ∷ before) ++ (32 ∷ (name ++ (flat_map (λ f. 32 ∷ f) after ++ rest)))
with_name first before name after rest =
    ap (λ l. l ++ rest) (flat_map-append (λ f. 32 ∷ f) (first ∷ before) (name ∷ after))
    ∙ append_assoc (flat_map (λ f. 32 ∷ f) (first ∷ before)) ((32 ∷ name) ++ flat_map (λ f. 32 ∷ f) after) rest
    ∙ ap (λ l. flat_map (λ f. 32 ∷ f) (first ∷ before) ++ l) (append_assoc (32 ∷ name) (flat_map (λ f. 32 ∷ f) after) rest)

pub named_line_is : (here first : List ℕ) (before written : List (List ℕ)) (name said : List ℕ) (after tail : List (List ℕ)) (rest : List ℕ) → before ≡ written → name ≡ said → after ≡ tail
    → here ++ ((codes "#C BLIFWW " ++ join_with_byte 32 (first ∷ (before ++ escaped_name name ∷ after))) ++ rest)
    ≡ here ++ (codes "#C BLIFWW" ++ (flat_map (λ f. 32 ∷ f) (first ∷ written) ++ (32 ∷ (escaped_name said ++ (flat_map (λ f. 32 ∷ f) tail ++ rest)))))
named_line_is here first before written name said after tail rest e f g =
    line_is here first (before ++ escaped_name name ∷ after) (before ++ escaped_name name ∷ after) rest refl
    ∙ ap (λ l. here ++ (codes "#C BLIFWW" ++ l)) (with_name first before (escaped_name name) after rest)
    ∙ ap (λ l. here ++ (codes "#C BLIFWW" ++ (flat_map (λ f. 32 ∷ f) (first ∷ l) ++ (32 ∷ (escaped_name name ++ (flat_map (λ f. 32 ∷ f) after ++ rest)))))) e
    ∙ ap (λ l. here ++ (codes "#C BLIFWW" ++ (flat_map (λ f. 32 ∷ f) (first ∷ written) ++ (32 ∷ (escaped_name l ++ (flat_map (λ f. 32 ∷ f) after ++ rest)))))) f
    ∙ ap (λ l. here ++ (codes "#C BLIFWW" ++ (flat_map (λ f. 32 ∷ f) (first ∷ written) ++ (32 ∷ (escaped_name said ++ (flat_map (λ f. 32 ∷ f) l ++ rest)))))) g

-- the lines of a table, kind by kind
ended_more : (lines more : List (List ℕ)) (rest : List ℕ) → ended_lines (lines ++ more) ++ rest ≡ ended_lines lines ++ (ended_lines more ++ rest)
ended_more [] more rest = refl
ended_more (line ∷ lines) more rest =
    append_assoc (line ++ 10 ∷ []) (ended_lines (lines ++ more)) rest
    ∙ ap (λ l. (line ++ 10 ∷ []) ++ l) (ended_more lines more rest)
    ∙ sym (append_assoc (line ++ 10 ∷ []) (ended_lines lines) (ended_lines more ++ rest))

spelled_more : (some more : List PortForm) (rest : List ℕ) → ended_lines (map spelled_line (some ++ more)) ++ rest ≡ ended_lines (map spelled_line some) ++ (ended_lines (map spelled_line more) ++ rest)
spelled_more some more rest =
    ap (λ l. ended_lines l ++ rest) (map-append spelled_line some more) ∙ ended_more (map spelled_line some) (map spelled_line more) rest

pub table_is : (here : List ℕ) (ports : Ports) (rest : List ℕ)
    → here ++ (ended_lines (port_lines ports) ++ rest)
    ≡ here ++ (spelled_line (Version ports.p ports.l ports.c)
    ++ (10 ∷ (ended_lines (map (port_text (codes "IN")) ports.ins)
    ++ (ended_lines (map (port_text (codes "OUT")) ports.outs) ++ (ended_lines (map (λ net. spelled_line (Net net)) ports.nets) ++ rest)))))
table_is here ports rest =
    ap (λ l. here ++ l) (append_assoc (first ++ 10 ∷ []) (ended_lines (map spelled_line (map In ports.ins ++ map Out ports.outs ++ map Net ports.nets))) rest ∙ append_assoc first (10 ∷ []) _)
    ∙ ap (λ l. here ++ (first ++ (10 ∷ l))) (
    spelled_more (map In ports.ins ++ map Out ports.outs) (map Net ports.nets) rest
    ∙ spelled_more (map In ports.ins) (map Out ports.outs) (ended_lines (map spelled_line (map Net ports.nets)) ++ rest)
    ∙ ap (λ l. ended_lines l ++ (ended_lines (map spelled_line (map Out ports.outs)) ++ (ended_lines (map spelled_line (map Net ports.nets)) ++ rest))) (map-map spelled_line In ports.ins)
    ∙ ap (λ l. ended_lines (map (port_text (codes "IN")) ports.ins) ++ (ended_lines l ++ (ended_lines (map spelled_line (map Net ports.nets)) ++ rest))) (map-map spelled_line Out ports.outs)
    ∙ ap (λ l. ended_lines (map (port_text (codes "IN")) ports.ins) ++ (ended_lines (map (port_text (codes "OUT")) ports.outs) ++ (ended_lines l ++ rest))) (map-map spelled_line Net ports.nets))
  where
    first : List ℕ
    first = spelled_line (Version ports.p ports.l ports.c)

-- what is left of the lines of some things begins with the line of the next
pub line_next : {X : Type 0} (text : X → List ℕ) (here : List ℕ) (xs : List X) (i : ℕ) (x : X) (rest : List ℕ) → i < length xs → x ≡ get_or xs i x
    → here ++ (ended_lines (map text (drop i xs)) ++ rest) ≡ here ++ (text x ++ (10 ∷ (ended_lines (map text (drop (i + 1) xs)) ++ rest)))
line_next text here xs i x rest within is =
    ap (λ l. here ++ (ended_lines (map text l) ++ rest)) (items_next xs i x x within is refl)
    ∙ ap (λ l. here ++ l) (append_assoc (text x ++ 10 ∷ []) (ended_lines (map text (drop (i + 1) xs))) rest ∙ append_assoc (text x) (10 ∷ []) (ended_lines (map text (drop (i + 1) xs)) ++ rest))

-- A line of a table by its number.

abbrev forms : Ports → List PortForm
forms ports = map In ports.ins ++ map Out ports.outs ++ map Net ports.nets

after_version : (ports : Ports) (n : ℕ) → n ≢ 0 → get_or (port_lines ports) n [] ≡ get_or (map spelled_line (forms ports)) (n - 1) []
after_version ports zero some = absurd (some refl)
after_version ports (suc n) some = let e : suc n - 1 ≡ n = omega arith in ap (λ k. get_or (map spelled_line (forms ports)) k []) (sym e)

spelled_at : (some : List PortForm) (n : ℕ) → n < length some → get_or (map spelled_line some) n [] ≡ spelled_line (get_or some n (Version 0 0 1))
spelled_at some n within = get_or-map spelled_line some n (Version 0 0 1) [] within

three : {X : Type 0} (a b c : List X) → length (a ++ b ++ c) ≡ length a + length b + length c
three a b c =
    let one : length (a ++ b ++ c) ≡ length (a ++ b) + length c = length-append (a ++ b) c in
    let two : length (a ++ b) ≡ length a + length b = length-append a b in
    omega (arith, one, two)

many_forms : (ports : Ports) → length (forms ports) ≡ length ports.ins + length ports.outs + length ports.nets
many_forms ports =
    let all : length (forms ports) ≡ length (map In ports.ins) + length (map Out ports.outs) + length (map Net ports.nets) = three (map In ports.ins) (map Out ports.outs) (map Net ports.nets) in
    omega (arith, all, length-map ports.ins In, length-map ports.outs Out, length-map ports.nets Net)

pub input_line : (ports : Ports) (n : ℕ) (port : PortLine) → n ≢ 0 → slice_get ports.ins (n - 1) ≡ Some port → get_or (port_lines ports) n [] ≡ port_text (codes "IN") port
input_line ports n port some is =
    let within : n - 1 < length ports.ins = slice_get_within ports.ins (n - 1) port is in
    let ins : length (map In ports.ins) ≡ length ports.ins = length-map ports.ins In in
    let both : length (map In ports.ins ++ map Out ports.outs) ≡ length (map In ports.ins) + length (map Out ports.outs) = length-append (map In ports.ins) (map Out ports.outs) in
    after_version ports n some
    ∙ spelled_at (forms ports) (n - 1) (omega (arith, within, many_forms ports))
    ∙ ap spelled_line (get_or_append_left (map In ports.ins ++ map Out ports.outs) (map Net ports.nets) (Version 0 0 1) (n - 1) (omega (arith, within, ins, both))
    ∙ get_or_append_left (map In ports.ins) (map Out ports.outs) (Version 0 0 1) (n - 1) (omega (arith, within, ins))
    ∙ get_or-map In ports.ins (n - 1) port (Version 0 0 1) within ∙ ap In (get_or_from_slice_get ports.ins (n - 1) port port is))

pub output_line : (ports : Ports) (n k : ℕ) (port : PortLine) → n ≢ 0 → n - 1 ≡ length ports.ins + k → slice_get ports.outs k ≡ Some port → get_or (port_lines ports) n [] ≡ port_text (codes "OUT") port
output_line ports n k port some at is =
    let within : k < length ports.outs = slice_get_within ports.outs k port is in
    let ins : length (map In ports.ins) ≡ length ports.ins = length-map ports.ins In in
    let outs : length (map Out ports.outs) ≡ length ports.outs = length-map ports.outs Out in
    let both : length (map In ports.ins ++ map Out ports.outs) ≡ length (map In ports.ins) + length (map Out ports.outs) = length-append (map In ports.ins) (map Out ports.outs) in
    let place : n - 1 ≡ length (map In ports.ins) + k = omega (arith, at, ins) in
    after_version ports n some
    ∙ spelled_at (forms ports) (n - 1) (omega (arith, at, within, many_forms ports))
    ∙ ap spelled_line (ap (λ i. get_or (forms ports) i (Version 0 0 1)) place
    ∙ get_or_append_left (map In ports.ins ++ map Out ports.outs) (map Net ports.nets) (Version 0 0 1) (length (map In ports.ins) + k) (omega (arith, within, outs, both))
    ∙ get_or-append-add (map In ports.ins) (map Out ports.outs) k (Version 0 0 1)
    ∙ get_or-map Out ports.outs k port (Version 0 0 1) within ∙ ap Out (get_or_from_slice_get ports.outs k port port is))

pub net_line : (ports : Ports) (n k : ℕ) (net : NetLine) → n ≢ 0 → n - 1 ≡ length ports.ins + (length ports.outs + k) → slice_get ports.nets k ≡ Some net → get_or (port_lines ports) n [] ≡ spelled_line (Net net)
net_line ports n k net some at is =
    let within : k < length ports.nets = slice_get_within ports.nets k net is in
    let ins : length (map In ports.ins) ≡ length ports.ins = length-map ports.ins In in
    let outs : length (map Out ports.outs) ≡ length ports.outs = length-map ports.outs Out in
    let both : length (map In ports.ins ++ map Out ports.outs) ≡ length (map In ports.ins) + length (map Out ports.outs) = length-append (map In ports.ins) (map Out ports.outs) in
    let place : n - 1 ≡ length (map In ports.ins ++ map Out ports.outs) + k = omega (arith, at, ins, outs, both) in
    after_version ports n some
    ∙ spelled_at (forms ports) (n - 1) (omega (arith, at, within, many_forms ports))
    ∙ ap spelled_line (ap (λ i. get_or (forms ports) i (Version 0 0 1)) place
    ∙ get_or-append-add (map In ports.ins ++ map Out ports.outs) (map Net ports.nets) k (Version 0 0 1)
    ∙ get_or-map Net ports.nets k net (Version 0 0 1) within ∙ ap Net (get_or_from_slice_get ports.nets k net net is))

-- as it is written
pub line_with_end : (here : List ℕ) (ports : Ports) (n : ℕ) (text rest : List ℕ) → get_or (port_lines ports) n [] ≡ text → here ++ (ended_line ports n ++ rest) ≡ here ++ (text ++ (10 ∷ rest))
line_with_end here ports n text rest e = ap (λ l. here ++ ((l ++ 10 ∷ []) ++ rest)) e ∙ ap (λ l. here ++ l) (append_assoc text (10 ∷ []) rest)

-- the number of lines
pub count_lines : (ports : Ports) → length (port_lines ports) ≡ 1 + (length ports.ins + length ports.outs + length ports.nets)
count_lines ports =
    let spelled : length (port_lines ports) ≡ suc (length (forms ports)) = length-map (port_forms ports) spelled_line in
    omega (arith, spelled, many_forms ports)
