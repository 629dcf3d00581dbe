-- The first bits of the nets, and what they say of all bits of the nets.
use Rattle.std.proofs.Common.{◌≡◌, refl, sym, ◌∙◌, ap, ap₂, subst, ℕ, zero, suc, pos, ◌+◌, ◌*◌, ◌-◌, ◌/◌, ◌%◌, ◌^◌, ◌≤◌, ◌<◌, ◌⊎◌, inl, inr, Bool, false, Option, Some, None, List, [], ◌∷◌, ◌++◌, append_assoc, length, length-append, flat_map, take, get_or, All, arith}
use Rattle.std.specs.Prelude.{slice_get, Result, Ok, Err, IfOk}
use Rattle.std.specs.List.{range_with_len}
use Rattle.std.specs.List.Sorted.{IsNonDecreasingBy, IsPermutation}
use Rattle.std.proofs.Math.Nat.{div-add-mod, mod-lt, mul-le-mul_right}
use Rattle.std.proofs.lemmas.Bool.{cases_lt}
use Rattle.std.proofs.lemmas.List.{map_more}
use Rattle.std.proofs.lemmas.List.Elements.{All-cons, All-contains, All-nil}
use Rattle.std.proofs.lemmas.List.Sorted.{All-permutation, Contains-permutation}
use Rattle.std.proofs.lemmas.Nat.{div-mul-add, mod-mul-add}
use Rattle.std.proofs.lemmas.Option.{none-some, same_Some, slice_get-get_or, slice_get_within}
use Rattle.lists.proofs.Members.{contains_from, in_got}
use Rattle.ww_rule.specs.Wireworld.{Plane, is_head}
use Rattle.pattern_reading.specs.declared.ports.NetLine.{NetLine}
use Rattle.pattern_reading.specs.declared.ports.Ports.{Ports}
use Rattle.vcd_write.specs.declared.due_bits.DueBit.{DueBit}
use Rattle.vcd_write.specs.declared.due_bits.Raster.{Raster}
use Rattle.vcd_write.specs.DueBits.{AreDueFrom, AreFirstBits, ShowsDueBits, IsStillDue, IsWithin}
use Rattle.vcd_write.specs.FirstBits.{first_bit, first_due_bits}
use Rattle.vcd_write.specs.NetBits.{FitsNets}
use Rattle.vcd_write.specs.NetWaves.{NetInContext, nets_in, nets_in_contexts}
use Rattle.vcd_write.proofs.Variables.{context_low, contexts_more, net_there}

pub bits_long : (place : ℕ) (variables : List NetInContext) → length (first_due_bits place variables) ≡ length variables
bits_long place [] = refl
bits_long place (variable ∷ variables) = ap suc (bits_long (place + 1) variables)

pub bits_more : (place : ℕ) (a b : List NetInContext) → first_due_bits place (a ++ b) ≡ first_due_bits place a ++ first_due_bits (place + length a) b
bits_more place [] b = let e : place ≡ place + 0 = omega arith in ap (λ p. first_due_bits p b) e
bits_more place (variable ∷ a) b =
    let e : place + 1 + length a ≡ place + suc (length a) = omega arith in
    ap (λ bits. first_bit place variable ∷ bits) (bits_more (place + 1) a b ∙ ap (λ p. first_due_bits (place + 1) a ++ first_due_bits p b) e)

bit_at : (place : ℕ) (variables : List NetInContext) (n : ℕ) (variable : NetInContext) → slice_get variables n ≡ Some variable → slice_get (first_due_bits place variables) n ≡ Some (first_bit (place + n) variable)
bit_at place [] n variable e = absurd (none-some variable e)
bit_at place (v ∷ variables) zero variable e =
    let p : place ≡ place + 0 = omega arith in
    ap₂ (λ p v. Some (first_bit p v)) p (same_Some v variable e)
bit_at place (v ∷ variables) (suc n) variable e =
    let p : place + 1 + n ≡ place + suc n = omega arith in
    bit_at (place + 1) variables n variable e ∙ ap (λ p. Some (first_bit p variable)) p

all_bits : (P : DueBit → Type 0) (place : ℕ) (variables : List NetInContext) → ((n : ℕ) (variable : NetInContext) → slice_get variables n ≡ Some variable → P (first_bit (place + n) variable)) → All P (first_due_bits place variables)
all_bits P place [] each = All-nil P
all_bits P place (v ∷ variables) each =
    All-cons P (first_bit place v) (first_due_bits (place + 1) variables) (subst (λ p. P (first_bit p v)) (let e : place + 0 ≡ place = omega arith in e) (each 0 v refl))
    (all_bits P (place + 1) variables (λ n variable e. subst (λ p. P (first_bit p variable)) (let s : place + suc n ≡ place + 1 + n = omega arith in s) (each (suc n) variable e)))

module _ (ports : Ports) (cycles : ℕ) (raster : Raster) (fits : FitsNets ports cycles raster) where
  abbrev variables : List NetInContext
  variables = nets_in_contexts ports

  place_low : (n : ℕ) (variable : NetInContext) → slice_get variables n ≡ Some variable → n < raster.variables
  place_low n variable e = let low = slice_get_within variables n variable e in omega (arith, low, fits.variables)

  -- a cycle of a place within the raster is one of its cycles
  cycle_low : (n j : ℕ) → n + j * raster.variables < raster.bits → j < cycles
  cycle_low n j low = by (cases_lt j cycles)
    where
      by : (j < cycles) ⊎ (cycles ≤ j) → j < cycles
      by (inl lt) = lt
      by (inr ge) = let more : cycles * raster.variables ≤ j * raster.variables = mul-le-mul_right raster.variables ge in absurd (omega (arith, low, more, fits.bits))

  within_first : (n : ℕ) (variable : NetInContext) → slice_get variables n ≡ Some variable → IsWithin raster (first_bit n variable)
  within_first n variable e =
      let low = place_low n variable e in
      let one : 1 * raster.variables ≤ cycles * raster.variables = mul-le-mul_right raster.variables (let some = fits.some in omega (arith, some)) in
      let i = in_got variables n variable e in
      let context = context_low ports variable i in
      let last = All-contains (λ net. net.offset + 32 * (ports.c - 1) + (cycles - 1) * ports.p ≤ raster.last) ports.nets variable.net fits.early (contains_from ports.nets variable.net (net_there ports variable i)) in
      record {
        some = λ none. omega (arith, low, none);
        place = omega (arith, low, one, fits.bits);
        early = λ j within.
            let before : j * ports.p ≤ (cycles - 1) * ports.p = mul-le-mul_right ports.p (let lt = cycle_low n j within in omega (arith, lt)) in
            let same : j * raster.period ≡ j * ports.p = ap (λ p. j * p) fits.period in
            omega (arith, before, same, last, context);
      }

  pub all_within : (sorted : List DueBit) → IsPermutation (first_due_bits 0 variables) sorted → All (IsWithin raster) sorted
  all_within sorted moved =
      All-permutation (IsWithin raster) (first_due_bits 0 variables) sorted moved
      (all_bits (IsWithin raster) 0 variables (λ n variable e. subst (λ p. IsWithin raster (first_bit p variable)) (let s : n ≡ 0 + n = omega arith in s) (within_first n variable e)))

  module _ (planes : ℕ → Plane) where
    -- the bit of a variable in a cycle
    abbrev shown_in : ℕ → Option NetInContext → Bool
    shown_in cycle None = false
    shown_in cycle (Some variable) = is_head (planes (variable.net.offset + 32 * variable.context + cycle * ports.p) (pos variable.net.x) (pos variable.net.y))

    -- and the bit at a place
    abbrev pub shown : ℕ → Bool
    shown k = shown_in (k / raster.variables) (slice_get variables (k % raster.variables))

    pub shown_at : (n cycle : ℕ) (variable : NetInContext) → slice_get variables n ≡ Some variable
        → shown (cycle * raster.variables + n) ≡ is_head (planes (variable.net.offset + 32 * variable.context + cycle * ports.p) (pos variable.net.x) (pos variable.net.y))
    shown_at n cycle variable e =
        let low = place_low n variable e in
        ap₂ (λ t m. shown_in t (slice_get variables m)) (div-mul-add cycle raster.variables n low) (mod-mul-add cycle raster.variables n low)
        ∙ ap (shown_in cycle) e

    shown_first : (n : ℕ) (variable : NetInContext) → slice_get variables n ≡ Some variable → ShowsDueBits shown planes raster (first_bit n variable)
    shown_first n variable e j within =
        let turned : n + j * raster.variables ≡ j * raster.variables + n = omega arith in
        ap shown turned ∙ shown_at n j variable e
        ∙ ap (λ p. is_head (planes (variable.net.offset + 32 * variable.context + j * p) (pos variable.net.x) (pos variable.net.y))) (sym fits.period)

    come : (sorted : List DueBit) → IsPermutation (first_due_bits 0 variables) sorted → (k : ℕ) → k < raster.bits → (0 < raster.variables) → (slice_get variables (k % raster.variables) ≡ Some (get_or variables (k % raster.variables) (record { context = 0; net = record { x = 0; y = 0; offset = 0; name = []; path = [] } }))) → IsStillDue raster sorted k
    come sorted moved k low some e =
        let n : ℕ = k % raster.variables in
        let variable : NetInContext = get_or variables n (record { context = 0; net = record { x = 0; y = 0; offset = 0; name = []; path = [] } }) in
        let there = bit_at 0 variables n variable e in
        let s : 0 + n ≡ n = omega arith in
        record {
          bit = first_bit n variable;
          is_there = Contains-permutation (first_due_bits 0 variables) sorted (first_bit n variable) moved
              (contains_from (first_due_bits 0 variables) (first_bit n variable) (in_got (first_due_bits 0 variables) n (first_bit n variable) (there ∙ ap (λ p. Some (first_bit p variable)) s)));
          cycles = k / raster.variables;
          is_later = (let parts = div-add-mod k raster.variables in omega (arith, parts));
        }

    pub are_first : (sorted : List DueBit) → IsPermutation (first_due_bits 0 variables) sorted → AreFirstBits shown planes raster sorted
    are_first sorted moved = record {
      each = All-permutation (ShowsDueBits shown planes raster) (first_due_bits 0 variables) sorted moved
          (all_bits (ShowsDueBits shown planes raster) 0 variables (λ n variable e. subst (λ p. ShowsDueBits shown planes raster (first_bit p variable)) (let s : n ≡ 0 + n = omega arith in s) (shown_first n variable e)));
      all = λ k low.
          let some : 0 < raster.variables = by_some k low (cases_lt 0 raster.variables) in
          let within : k % raster.variables < length variables = (let l = mod-lt k some in omega (arith, l, fits.variables)) in
          come sorted moved k low some (slice_get-get_or variables (k % raster.variables) _ within);
    }
      where
        by_some : (k : ℕ) → k < raster.bits → (0 < raster.variables) ⊎ (raster.variables ≤ 0) → 0 < raster.variables
        by_some k low (inl some) = some
        by_some k low (inr none) =
            let v : raster.variables ≡ 0 = omega (arith, none) in
            let nothing : cycles * raster.variables ≡ cycles * 0 = ap (λ v. cycles * v) v in
            absurd (omega (arith, low, nothing, fits.bits))

-- one more net of a context
pub push_net : (initial due new : List DueBit) (nets : List NetLine) (context i : ℕ) (net : NetLine) (bit : DueBit) → due ≡ initial ++ first_due_bits (length initial) (nets_in context (take i nets)) → i < length nets
    → get_or nets i net ≡ net → bit ≡ first_bit (length due) (record { context = context; net = net }) → new ≡ due ++ bit ∷ [] → new ≡ initial ++ first_due_bits (length initial) (nets_in context (take (i + 1) nets))
push_net initial due new nets context i net bit before low is same pushed =
    let variable : NetInContext = record { context = context; net = net } in
    let front : List NetInContext = nets_in context (take i nets) in
    let more : nets_in context (take (i + 1) nets) ≡ front ++ variable ∷ [] =
    map_more (λ net. record { context = context; net = net }) nets i net low ∙ ap (λ n. front ++ (record { context = context; net = n } ∷ [])) is in
    let long : length due ≡ length initial + length front =
    ap length before ∙ length-append initial (first_due_bits (length initial) front) ∙ ap (λ n. length initial + n) (bits_long (length initial) front) in
    pushed
    ∙ ap₂ (λ due bit. due ++ bit ∷ []) before (same ∙ ap (λ p. first_bit p variable) long)
    ∙ append_assoc initial (first_due_bits (length initial) front) (first_bit (length initial + length front) variable ∷ [])
    ∙ ap (λ bits. initial ++ bits) (sym (bits_more (length initial) front (variable ∷ [])))
    ∙ ap (λ variables. initial ++ first_due_bits (length initial) variables) (sym more)

-- and those of one more context
pub push_nets : (due new : List DueBit) (nets : List NetLine) (context : ℕ) → due ≡ first_due_bits 0 (flat_map (λ c. nets_in c nets) (range_with_len 0 context))
    → new ≡ due ++ first_due_bits (length due) (nets_in context nets) → new ≡ first_due_bits 0 (flat_map (λ c. nets_in c nets) (range_with_len 0 (context + 1)))
push_nets due new nets context before pushed =
    let front : List NetInContext = flat_map (λ c. nets_in c nets) (range_with_len 0 context) in
    let long : length due ≡ 0 + length front = ap length before ∙ bits_long 0 front ∙ (let s : length front ≡ 0 + length front = omega arith in s) in
    pushed
    ∙ ap₂ (λ due n. due ++ first_due_bits n (nets_in context nets)) before long
    ∙ sym (bits_more 0 front (nets_in context nets))
    ∙ ap (first_due_bits 0) (sym (contexts_more nets context))

pub no_nets : (nets : List NetLine) (first many : ℕ) → nets ≡ [] → flat_map (λ c. nets_in c nets) (range_with_len first many) ≡ []
no_nets nets first zero e = refl
no_nets nets first (suc many) e = ap₂ (λ (a b : List NetInContext). a ++ b) (ap (nets_in first) e) (no_nets nets (first + 1) many e)

-- bits that do not come earlier than those before them
pub in_order : (bits : List DueBit) (g : ℕ) → (g ≤ (get_or bits 0 (record { generation = g; place = 0; x = 0; y = 0 })).generation) → IsNonDecreasingBy (λ bit. bit.generation) bits → AreDueFrom g bits
in_order [] g low rises = tt
in_order (bit ∷ bits) g low rises = (low, in_order bits bit.generation (first bits (λ i j d le lt. rises i j d le lt)) (λ i j d le lt. rises (suc i) (suc j) d (omega (arith, le)) (omega (arith, lt))))
  where
    first : (bits : List DueBit) → IsNonDecreasingBy (λ bit. bit.generation) (bit ∷ bits) → bit.generation ≤ (get_or bits 0 (record { generation = bit.generation; place = 0; x = 0; y = 0 })).generation
    first [] rises = omega arith
    first (next ∷ bits) rises = rises 0 1 bit (omega arith) (omega arith)

pub in_order_from_zero : (bits : List DueBit) → IsNonDecreasingBy (λ bit. bit.generation) bits → AreDueFrom 0 bits
in_order_from_zero bits rises = in_order bits 0 (omega arith) rises

-- generations fit 64 bits
pub room_of : (ports : Ports) (cycles : ℕ) (raster : Raster) → FitsNets ports cycles raster → All (λ net. net.offset + 32 * (ports.c - 1) < 2 ^ 64) ports.nets
room_of ports cycles raster fits k d within = let last = fits.early k d within in let small = fits.small in omega (arith, last, small)

-- of an answer that is there
pub if_ok : {X E : Type 0} {P Q : X → Type 0} (r : Result X E) → ((x : X) → P x → Q x) → IfOk r P → IfOk r Q
if_ok (Ok x) f p = f x p
if_ok (Err e) f p = tt
