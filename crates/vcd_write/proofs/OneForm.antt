-- A text reads as one form: its lines are cut at byte 10, the fields of a line at byte 32.
use Rattle.std.proofs.Common.{◌≡◌, ◌≢◌, refl, sym, ◌∙◌, ap, ap₂, subst, ℕ, ◌^◌, ◌≤◌, ◌<◌, Bool, true, false, true≢false, ◌||◌, cond, List, [], ◌∷◌, ◌++◌, map, flat_map, get_or, codes, append_assoc, arith}
use Rattle.std.specs.Prelude.{◌==◌, not, drop, decimal}
use Rattle.std.specs.List.{AllByRecursion, list_all}
use Rattle.std.specs.Str.{bytes_eq}
use Rattle.std.specs.Str.Parse.{AllDigits}
use Rattle.std.proofs.lemmas.Bool.{and_parts}
use Rattle.std.proofs.lemmas.Bool.Decides.{nat_tests}
use Rattle.std.proofs.lemmas.Fmt.{decimal_injective, decimal_is_IsNumeral}
use Rattle.std.proofs.lemmas.Str.Parse.{digit_from_value}
use Rattle.std.proofs.lemmas.Slice.Eq.{bytes_eq-Decides}
use Rattle.pattern_writing.specs.Writer.{ended_lines}
use Rattle.vcd_write.specs.Reading.{VcdVar, VcdValue, VcdBlock, VcdForm, IsWord, IsInOrder, has_id, var_line, last_definition, time_line, value_line, block_lines, form_lines}
use Rattle.vcd_write.specs.Laws.{ReadsAsOneForm}

-- none of the bytes is this one
abbrev Lacks : ℕ → List ℕ → Type 0
Lacks c bytes = AllByRecursion (λ b. b ≢ c) bytes

module _ {X : Type 0} where
  first_same : (x y : X) (xs ys : List X) → x ∷ xs ≡ y ∷ ys → x ≡ y
  first_same x y xs ys e = ap (λ l. get_or l 0 x) e

  others_same : (x y : X) (xs ys : List X) → x ∷ xs ≡ y ∷ ys → xs ≡ ys
  others_same x y xs ys e = ap (drop 1) e

  both_same : (x y : X) (xs ys : List X) → x ≡ y → xs ≡ ys → x ∷ xs ≡ y ∷ ys
  both_same x y xs ys e f = ap₂ (λ z zs. z ∷ zs) e f

  none_some : (x : X) (xs : List X) → [] ≢ x ∷ xs
  none_some x xs e = true≢false (ap is_none e)
    where
      is_none : List X → Bool
      is_none [] = true
      is_none (y ∷ ys) = false

-- bytes that are cut at the first of this byte have one front and one rest
cut_same : (c : ℕ) (a b r s : List ℕ) → Lacks c a → Lacks c b → a ++ (c ∷ r) ≡ b ++ (c ∷ s) → (a ≡ b) × (r ≡ s)
cut_same c [] [] r s ha hb e = (refl, others_same c c r s e)
cut_same c [] (y ∷ b) r s ha hb e = absurd (hb.0 (sym (first_same c y r (b ++ (c ∷ s)) e)))
cut_same c (x ∷ a) [] r s ha hb e = absurd (ha.0 (first_same x c (a ++ (c ∷ r)) s e))
cut_same c (x ∷ a) (y ∷ b) r s ha hb e =
    let rest : (a ≡ b) × (r ≡ s) = cut_same c a b r s ha.1 hb.1 (others_same x y (a ++ (c ∷ r)) (b ++ (c ∷ s)) e) in
    (both_same x y a b (first_same x y (a ++ (c ∷ r)) (b ++ (c ∷ s)) e) rest.0, rest.1)

-- parts of bytes that lack one
lacks_both : (c : ℕ) (a b : List ℕ) → Lacks c a → Lacks c b → Lacks c (a ++ b)
lacks_both c [] b ha hb = hb
lacks_both c (x ∷ a) b ha hb = (ha.0, lacks_both c a b ha.1 hb)

word_lacks : (c : ℕ) (bytes : List ℕ) → c < 33 → AllByRecursion (λ b. (33 ≤ b) × (b ≤ 126)) bytes → Lacks c bytes
word_lacks c [] low h = tt
word_lacks c (b ∷ bytes) low h = let from : 33 ≤ b = h.0.0 in ((λ e. omega (arith, from, low, e)), word_lacks c bytes low h.1)

lacks_by : (c : ℕ) (bytes : List ℕ) → list_all (λ b. not (b == c)) bytes ≡ true → Lacks c bytes
lacks_by c [] e = tt
lacks_by c (b ∷ bytes) e =
    let parts = and_parts (not (b == c)) (list_all (λ b. not (b == c)) bytes) e in
    ((λ same. true≢false (sym parts.0 ∙ ap not (eqb-same b c same))), lacks_by c bytes parts.1)
  where
    eqb-same : (b c : ℕ) → b ≡ c → (b == c) ≡ true
    eqb-same b c e = grind (arith, nat_tests)

digits_lack : (digits : List ℕ) → AllDigits 10 digits → Lacks 10 digits
digits_lack [] h = tt
digits_lack (d ∷ digits) h = let small = digit_from_value d h.0 in ((λ e. omega (arith, small, e)), digits_lack digits h.1)

-- a line that is written says what it was written of
var_same : (a b : VcdVar) → IsWord a.id × IsWord a.reference → IsWord b.id × IsWord b.reference → var_line a ≡ var_line b → a ≡ b
var_same a b ha hb e =
    let end : List ℕ = codes "$end" in
    let ids : (a.id ≡ b.id) × (a.reference ++ (32 ∷ end) ≡ b.reference ++ (32 ∷ end)) =
    cut_same 32 a.id b.id (a.reference ++ (32 ∷ end)) (b.reference ++ (32 ∷ end)) (word_lacks 32 a.id (omega arith) ha.0.1) (word_lacks 32 b.id (omega arith) hb.0.1) (ap (drop 12) e) in
    let references : (a.reference ≡ b.reference) × (end ≡ end) =
    cut_same 32 a.reference b.reference end end (word_lacks 32 a.reference (omega arith) ha.1.1) (word_lacks 32 b.reference (omega arith) hb.1.1) ids.1 in
    ap₂ (λ id reference. record { id = id; reference = reference }) ids.0 references.0

-- the digit of a bit
abbrev digit : Bool → ℕ
digit bit = cond bit 49 48

digit_same : (a b : Bool) → digit a ≡ digit b → a ≡ b
digit_same true true e = refl
digit_same false false e = refl
digit_same true false e = absurd (omega (arith, e))
digit_same false true e = absurd (omega (arith, e))

value_same : (a b : VcdValue) → value_line a ≡ value_line b → a ≡ b
value_same a b e =
    ap₂ (λ id bit. record { id = id; bit = bit }) (others_same (digit a.bit) (digit b.bit) a.id b.id e)
    (digit_same a.bit b.bit (first_same (digit a.bit) (digit b.bit) a.id b.id e))

time_same : (a b : ℕ) → a < 2 ^ 64 → b < 2 ^ 64 → time_line a ≡ time_line b → a ≡ b
time_same a b ha hb e = decimal_injective a b ha hb (ap (drop 1) e)

-- no value line is the line of a time
no_time : (value : VcdValue) (time : ℕ) → value_line value ≢ time_line time
no_time value time e = by value.bit (first_same (digit value.bit) 35 value.id (decimal time) e)
  where
    by : (b : Bool) → digit b ≢ 35
    by true e = omega (arith, e)
    by false e = omega (arith, e)

-- values, and the blocks after them
values_same : (vs ws : List VcdValue) (a b : List VcdBlock)
    → map value_line vs ++ flat_map block_lines a ≡ map value_line ws ++ flat_map block_lines b → (vs ≡ ws) × (flat_map block_lines a ≡ flat_map block_lines b)
values_same [] [] a b e = (refl, e)
values_same [] (v ∷ ws) [] b e = absurd (none_some (value_line v) (map value_line ws ++ flat_map block_lines b) e)
values_same [] (v ∷ ws) (x ∷ a) b e = absurd (no_time v x.time (sym (first_same (time_line x.time) (value_line v) (map value_line x.values ++ flat_map block_lines a) (map value_line ws ++ flat_map block_lines b) e)))
values_same (v ∷ vs) [] a [] e = absurd (none_some (value_line v) (map value_line vs ++ flat_map block_lines a) (sym e))
values_same (v ∷ vs) [] a (x ∷ b) e = absurd (no_time v x.time (first_same (value_line v) (time_line x.time) (map value_line vs ++ flat_map block_lines a) (map value_line x.values ++ flat_map block_lines b) e))
values_same (v ∷ vs) (w ∷ ws) a b e =
    let first : value_line v ≡ value_line w = first_same (value_line v) (value_line w) (map value_line vs ++ flat_map block_lines a) (map value_line ws ++ flat_map block_lines b) e in
    let rest : (vs ≡ ws) × (flat_map block_lines a ≡ flat_map block_lines b) = values_same vs ws a b (others_same (value_line v) (value_line w) (map value_line vs ++ flat_map block_lines a) (map value_line ws ++ flat_map block_lines b) e) in
    (both_same v w vs ws (value_same v w first) rest.0, rest.1)

abbrev Fit : List VcdBlock → Type 0
Fit blocks = AllByRecursion (λ block. block.time < 2 ^ 64) blocks

blocks_same : (a b : List VcdBlock) → Fit a → Fit b → flat_map block_lines a ≡ flat_map block_lines b → a ≡ b
blocks_same [] [] ha hb e = refl
blocks_same [] (y ∷ b) ha hb e = absurd (none_some (time_line y.time) (map value_line y.values ++ flat_map block_lines b) e)
blocks_same (x ∷ a) [] ha hb e = absurd (none_some (time_line x.time) (map value_line x.values ++ flat_map block_lines a) (sym e))
blocks_same (x ∷ a) (y ∷ b) ha hb e =
    let first : time_line x.time ≡ time_line y.time =
    first_same (time_line x.time) (time_line y.time) (map value_line x.values ++ flat_map block_lines a) (map value_line y.values ++ flat_map block_lines b) e in
    let rest : (x.values ≡ y.values) × (flat_map block_lines a ≡ flat_map block_lines b) =
    values_same x.values y.values a b (others_same (time_line x.time) (time_line y.time) (map value_line x.values ++ flat_map block_lines a) (map value_line y.values ++ flat_map block_lines b) e) in
    both_same x y a b (ap₂ (λ time values. record { time = time; values = values }) (time_same x.time y.time ha.0 hb.0 first) rest.0) (blocks_same a b ha.1 hb.1 rest.1)

abbrev Words : List VcdVar → Type 0
Words vars = AllByRecursion (λ var. IsWord var.id × IsWord var.reference) vars

no_last : (var : VcdVar) → var_line var ≢ last_definition
no_last var e = let h : 118 ≡ 101 = ap (λ l. get_or l 1 0) e in omega (arith, h)

-- variables, and the lines after them
vars_same : (vs ws : List VcdVar) (a b : List (List ℕ)) → Words vs → Words ws
    → map var_line vs ++ (last_definition ∷ a) ≡ map var_line ws ++ (last_definition ∷ b) → (vs ≡ ws) × (a ≡ b)
vars_same [] [] a b ha hb e = (refl, others_same last_definition last_definition a b e)
vars_same [] (v ∷ ws) a b ha hb e = absurd (no_last v (sym (first_same last_definition (var_line v) a (map var_line ws ++ (last_definition ∷ b)) e)))
vars_same (v ∷ vs) [] a b ha hb e = absurd (no_last v (first_same (var_line v) last_definition (map var_line vs ++ (last_definition ∷ a)) b e))
vars_same (v ∷ vs) (w ∷ ws) a b ha hb e =
    let first : var_line v ≡ var_line w = first_same (var_line v) (var_line w) (map var_line vs ++ (last_definition ∷ a)) (map var_line ws ++ (last_definition ∷ b)) e in
    let rest : (vs ≡ ws) × (a ≡ b) = vars_same vs ws a b ha.1 hb.1 (others_same (var_line v) (var_line w) (map var_line vs ++ (last_definition ∷ a)) (map var_line ws ++ (last_definition ∷ b)) e) in
    (both_same v w vs ws (var_same v w ha.0 hb.0 first) rest.0, rest.1)

form_same : (a b : VcdForm) → IsInOrder a → IsInOrder b → form_lines a ≡ form_lines b → a ≡ b
form_same a b ha hb e =
    let vars : (a.vars ≡ b.vars) × (flat_map block_lines a.blocks ≡ flat_map block_lines b.blocks) = vars_same a.vars b.vars (flat_map block_lines a.blocks) (flat_map block_lines b.blocks) ha.words hb.words e in
    ap₂ (λ vars blocks. record { vars = vars; blocks = blocks }) vars.0 (blocks_same a.blocks b.blocks ha.fit hb.fit vars.1)

-- no line has a byte 10
abbrev Lines : List (List ℕ) → Type 0
Lines lines = AllByRecursion (Lacks 10) lines

lines_both : (a b : List (List ℕ)) → Lines a → Lines b → Lines (a ++ b)
lines_both [] b ha hb = hb
lines_both (x ∷ a) b ha hb = (ha.0, lines_both a b ha.1 hb)

var_lacks : (var : VcdVar) → IsWord var.id × IsWord var.reference → Lacks 10 (var_line var)
var_lacks var h =
    lacks_both 10 (codes "$var wire 1 ") (var.id ++ (codes " " ++ (var.reference ++ codes " $end"))) (lacks_by 10 (codes "$var wire 1 ") refl)
    (lacks_both 10 var.id (codes " " ++ (var.reference ++ codes " $end")) (word_lacks 10 var.id (omega arith) h.0.1)
    (lacks_both 10 (codes " ") (var.reference ++ codes " $end") (lacks_by 10 (codes " ") refl)
    (lacks_both 10 var.reference (codes " $end") (word_lacks 10 var.reference (omega arith) h.1.1) (lacks_by 10 (codes " $end") refl))))

vars_lack : (vars : List VcdVar) → Words vars → Lines (map var_line vars)
vars_lack [] h = tt
vars_lack (var ∷ vars) h = (var_lacks var h.0, vars_lack vars h.1)

-- an id of a variable is a word
known_lacks : (vars : List VcdVar) (id : List ℕ) → Words vars → has_id vars id ≡ true → Lacks 10 id
known_lacks [] id h e = absurd (true≢false (sym e))
known_lacks (var ∷ vars) id h e = by (bytes_eq var.id id) refl e (λ later. known_lacks vars id h.1 later)
  where
    by : (t : Bool) → bytes_eq var.id id ≡ t → (t || has_id vars id) ≡ true → (has_id vars id ≡ true → Lacks 10 id) → Lacks 10 id
    by true same f later = subst (Lacks 10) ((bytes_eq-Decides var.id id).0 same) (word_lacks 10 var.id (omega arith) h.0.0.1)
    by false other f later = later f

value_lacks : (value : VcdValue) → Lacks 10 value.id → Lacks 10 (value_line value)
value_lacks value h = (by value.bit, h)
  where
    by : (b : Bool) → digit b ≢ 10
    by true e = omega (arith, e)
    by false e = omega (arith, e)

values_lack : (vars : List VcdVar) (values : List VcdValue) → Words vars → AllByRecursion (λ value. has_id vars value.id ≡ true) values → Lines (map value_line values)
values_lack vars [] words h = tt
values_lack vars (value ∷ values) words h = (value_lacks value (known_lacks vars value.id words h.0), values_lack vars values words h.1)

blocks_lack : (vars : List VcdVar) (blocks : List VcdBlock) → Words vars → Fit blocks → AllByRecursion (λ block. AllByRecursion (λ value. has_id vars value.id ≡ true) block.values) blocks
    → Lines (flat_map block_lines blocks)
blocks_lack vars [] words fit h = tt
blocks_lack vars (block ∷ blocks) words fit h = (
  ((λ e. omega (arith, e)), digits_lack (decimal block.time) (decimal_is_IsNumeral block.time fit.0).0.1),
  lines_both (map value_line block.values) (flat_map block_lines blocks) (values_lack vars block.values words h.0) (blocks_lack vars blocks words fit.1 h.1),
)

form_lacks : (form : VcdForm) → IsInOrder form → Lines (form_lines form)
form_lacks form h =
    lines_both (map var_line form.vars) (last_definition ∷ flat_map block_lines form.blocks) (vars_lack form.vars h.words)
    (lacks_by 10 last_definition refl, blocks_lack form.vars form.blocks h.words h.fit h.known)

-- so lines are known from the text
line_then : (line rest : List ℕ) → (line ++ (10 ∷ [])) ++ rest ≡ line ++ (10 ∷ rest)
line_then line rest = append_assoc line (10 ∷ []) rest

no_line : (line rest : List ℕ) → [] ≢ line ++ (10 ∷ rest)
no_line [] rest e = none_some 10 rest e
no_line (b ∷ line) rest e = none_some b (line ++ (10 ∷ rest)) e

lines_same : (a b : List (List ℕ)) → Lines a → Lines b → ended_lines a ≡ ended_lines b → a ≡ b
lines_same [] [] ha hb e = refl
lines_same [] (y ∷ b) ha hb e = absurd (no_line y (ended_lines b) (e ∙ line_then y (ended_lines b)))
lines_same (x ∷ a) [] ha hb e = absurd (no_line x (ended_lines a) (sym e ∙ line_then x (ended_lines a)))
lines_same (x ∷ a) (y ∷ b) ha hb e =
    let cut : (x ≡ y) × (ended_lines a ≡ ended_lines b) =
    cut_same 10 x y (ended_lines a) (ended_lines b) ha.0 hb.0 (sym (line_then x (ended_lines a)) ∙ e ∙ line_then y (ended_lines b)) in
    both_same x y a b cut.0 (lines_same a b ha.1 hb.1 cut.1)

pub reads_as_one_form : ReadsAsOneForm
reads_as_one_form text a b ha hb =
    form_same a b ha.in_order hb.in_order (lines_same (form_lines a) (form_lines b) (form_lacks a ha.in_order) (form_lacks b hb.in_order) (sym ha.lines ∙ hb.lines))
