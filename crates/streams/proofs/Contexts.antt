-- The inputs and the lists of contexts.
use Rattle.std.proofs.Common.{ℕ, ◌≡◌, ◌==◌, ◌<◌, ◌≤◌, ◌+◌, ◌-◌, ◌*◌, ◌/◌, refl, sym, ap, ap₂, ◌∙◌, subst, Bool, true, List, [], ◌∷◌, ◌++◌, length, map, take, drop, get_or, arith}
use Rattle.std.specs.Prelude.{All, flat_map, slice_get, Some}
use Rattle.std.specs.List.{range_with_len}
use Rattle.std.proofs.lemmas.Bool.{eqb-true}
use Rattle.std.proofs.Math.Nat.{div-one, mul-div_cancel_left, mul-le-mul_right}
use Rattle.std.proofs.Math.Seq.{take-length}
use Rattle.std.proofs.lemmas.List.{length-append, length-map, map-append, length-drop, length-take-le}
use Rattle.std.proofs.lemmas.List.Elements.{filter-append}
use Rattle.std.proofs.lemmas.List.FromFn.{length-range_with_len, length-map-range_with_len, get_or-map-range_with_len}
use Rattle.streams.specs.declared.error.StreamFault.{StreamFault}
use Rattle.streams.specs.declared.error.StreamError.{StreamError}
use Rattle.streams.specs.declared.error.StreamError.TheVariants.{NoMemory, Fault}
use Rattle.streams.specs.declared.streams.Streams.{Streams}
use Rattle.streams.specs.Rows.{contexts_of, in_context, inputs_each, rows_of, stream_row}
use Rattle.streams.specs.Streams.{Input, IsMissing, inputs_of_context, inputs_of_contexts, missing_fault, missing_inputs, streams_of}
use Rattle.streams.proofs.Ranges.{flat_map_more, flat_map_rest}

-- without names there are no inputs
pub inputs_none : (names : List (List ℕ)) (contexts : ℕ) → (length names == 0) ≡ true → inputs_of_contexts contexts names ≡ []
inputs_none [] contexts e = over (range_with_len 0 contexts)
  where
    over : (xs : List ℕ) → flat_map (λ context. inputs_of_context context []) xs ≡ []
    over [] = refl
    over (x ∷ xs) = over xs
inputs_none (name ∷ names) contexts e = absurd (omega (arith, eqb-true (length (name ∷ names)) 0 e))

-- one more context
pub inputs_more : (names : List (List ℕ)) (context : ℕ) → inputs_of_contexts (context + 1) names ≡ inputs_of_contexts context names ++ inputs_of_context context names
inputs_more names context =
    let same : 0 + context ≡ context = omega arith in
    flat_map_more (λ c. inputs_of_context c names) 0 context ∙ ap (λ c. inputs_of_contexts context names ++ inputs_of_context c names) same

-- the inputs of each context are as many as the names
pub inputs_many : (names : List (List ℕ)) (contexts : ℕ) → length (inputs_of_contexts contexts names) ≡ contexts * length names
inputs_many names contexts = over (range_with_len 0 contexts) ∙ ap (λ n. n * length names) (length-range_with_len 0 contexts)
  where
    over : (xs : List ℕ) → length (flat_map (λ context. inputs_of_context context names) xs) ≡ length xs * length names
    over [] = omega arith
    over (x ∷ xs) =
        let own : length (inputs_of_context x names) ≡ length names = length-map names (λ name. (x, name)) in
        let later = over xs in
        let both : length (inputs_of_context x names ++ flat_map (λ context. inputs_of_context context names) xs) ≡ length (inputs_of_context x names) + length (flat_map (λ context. inputs_of_context context names) xs) =
        length-append (inputs_of_context x names) (flat_map (λ context. inputs_of_context context names) xs) in
        let next : length (x ∷ xs) * length names ≡ length names + length xs * length names = omega arith in
        both ∙ ap₂ (λ (m n : ℕ). m + n) own later ∙ sym next

-- what is missing up to a context, and in it, comes first
missing_first : (contexts context : ℕ) (words names : List (List ℕ)) (fault : StreamFault) → context < contexts → missing_inputs contexts words (inputs_of_contexts context names) ≡ []
    → slice_get (map (missing_fault contexts) (missing_inputs contexts words (inputs_of_context context names))) 0 ≡ Some fault
    → slice_get (map (missing_fault contexts) (missing_inputs contexts words (inputs_of_contexts contexts names))) 0 ≡ Some fault
missing_first contexts context words names fault less none first =
    let own = missing_inputs contexts words (inputs_of_context context names) in
    let (rest, e) = flat_map_rest (λ c. inputs_of_context c names) (context + 1) (contexts - (context + 1)) in
    let whole : context + 1 + (contexts - (context + 1)) ≡ contexts = omega (arith, less) in
    let inputs : inputs_of_contexts contexts names ≡ (inputs_of_contexts context names ++ inputs_of_context context names) ++ rest =
    ap (λ n. inputs_of_contexts n names) (sym whole) ∙ e ∙ ap (λ (xs : List Input). xs ++ rest) (inputs_more names context) in
    let missing : missing_inputs contexts words (inputs_of_contexts contexts names) ≡ own ++ missing_inputs contexts words rest =
    ap (missing_inputs contexts words) inputs
    ∙ filter-append _ (inputs_of_contexts context names ++ inputs_of_context context names) rest
    ∙ ap (λ (xs : List Input). xs ++ missing_inputs contexts words rest) (filter-append _ (inputs_of_contexts context names) (inputs_of_context context names) ∙ ap (λ (xs : List Input). xs ++ own) none) in
    ap (λ (xs : List Input). slice_get (map (missing_fault contexts) xs) 0) missing ∙ in_front own (missing_inputs contexts words rest) first
  where
    in_front : (xs ys : List Input) → slice_get (map (missing_fault contexts) xs) 0 ≡ Some fault → slice_get (map (missing_fault contexts) (xs ++ ys)) 0 ≡ Some fault
    in_front [] ys e = cc
    in_front (x ∷ xs) ys e = e

pub missing_among : (contexts context : ℕ) (words names : List (List ℕ)) (error : StreamError) → context < contexts → missing_inputs contexts words (inputs_of_contexts context names) ≡ []
    → IsMissing contexts words (inputs_of_context context names) error → IsMissing contexts words (inputs_of_contexts contexts names) error
missing_among contexts context words names NoMemory less none first = tt
missing_among contexts context words names (Fault fault) less none first = missing_first contexts context words names fault less none first

-- one more context, of which no input is missing
pub missing_more : (contexts context : ℕ) (words names : List (List ℕ)) → missing_inputs contexts words (inputs_of_contexts context names) ≡ [] → missing_inputs contexts words (inputs_of_context context names) ≡ []
    → missing_inputs contexts words (inputs_of_contexts (context + 1) names) ≡ []
missing_more contexts context words names none own =
    ap (missing_inputs contexts words) (inputs_more names context)
    ∙ filter-append _ (inputs_of_contexts context names) (inputs_of_context context names)
    ∙ ap₂ (λ (xs ys : List Input). xs ++ ys) none own

-- and its streams
pub streams_more : (contexts context : ℕ) (words names : List (List ℕ)) (before after : List (List Bool)) → before ≡ streams_of contexts words (inputs_of_contexts context names)
    → after ≡ before ++ streams_of contexts words (inputs_of_context context names) → after ≡ streams_of contexts words (inputs_of_contexts (context + 1) names)
streams_more contexts context words names before after had pushed =
    pushed
    ∙ ap (λ (streams : List (List Bool)). streams ++ streams_of contexts words (inputs_of_context context names)) had
    ∙ sym (map-append _ (inputs_of_contexts context names) (inputs_of_context context names))
    ∙ sym (ap (streams_of contexts words) (inputs_more names context))

-- ---- the lists of each context

-- with n inputs
pub inputs_are : (streams : Streams) (n : ℕ) → 0 < streams.c → length streams.bits ≡ streams.c * n → inputs_each streams ≡ n
inputs_are streams n some many = ap (λ m. m / streams.c) many ∙ mul-div_cancel_left n some

-- one context has all lists
pub only_context : (streams : Streams) → streams.c ≡ 1 → in_context streams 0 ≡ streams
only_context streams one =
    let each : inputs_each streams ≡ length streams.bits = ap (λ n. length streams.bits / n) one ∙ div-one (length streams.bits) in
    let first : 0 * inputs_each streams ≡ 0 = omega arith in
    let lists : take (inputs_each streams) (drop (0 * inputs_each streams) streams.bits) ≡ streams.bits =
    ap₂ (λ m n. take m (drop n streams.bits)) each first ∙ take-length streams.bits in
    ap₂ (λ (n : ℕ) (bits : List (List Bool)). record { cycles = streams.cycles; c = n; bits = bits }) (sym one) lists

pub one_context : (streams : Streams) → streams.c ≡ 1 → contexts_of streams ≡ rows_of streams ∷ []
one_context streams one =
    ap (λ n. map (λ context. rows_of (in_context streams context)) (range_with_len 0 n)) one ∙ ap (λ (s : Streams). rows_of s ∷ []) (only_context streams one)

pub contexts_many : (streams : Streams) → length (contexts_of streams) ≡ streams.c
contexts_many streams = length-map-range_with_len (λ context. rows_of (in_context streams context)) 0 streams.c

pub context_at : (streams : Streams) (context : ℕ) (d : List (List Bool)) → context < streams.c → get_or (contexts_of streams) context d ≡ rows_of (in_context streams context)
context_at streams context d less = get_or-map-range_with_len (λ context. rows_of (in_context streams context)) 0 streams.c context context d less (omega arith)

-- each has a row for each cycle
pub contexts_long : (streams : Streams) → All (λ rows. length rows ≡ streams.cycles) (contexts_of streams)
contexts_long streams k d lt =
    let less : k < streams.c = subst (λ n. k < n) (contexts_many streams) lt in
    ap (λ (rows : List (List Bool)). length rows) (context_at streams k d less)
    ∙ length-map-range_with_len (stream_row (in_context streams k)) 0 streams.cycles

-- with a bit for each input
pub row_long : (streams : Streams) (n context cycle : ℕ) → context < streams.c → length streams.bits ≡ streams.c * n → length (stream_row (in_context streams context) cycle) ≡ n
row_long streams n context cycle less many =
    let each : inputs_each streams ≡ n = inputs_are streams n (omega (arith, less)) many in
    let low : context * n + n ≤ streams.c * n = up_to context streams.c n less in
    let rest : length (drop (context * n) streams.bits) ≡ length streams.bits - context * n = length-drop (context * n) streams.bits in
    let enough : n ≤ length (drop (context * n) streams.bits) = omega (arith, low, rest, many) in
    length-map (in_context streams context).bits _
    ∙ ap (λ m. length (take m (drop (context * m) streams.bits))) each
    ∙ length-take-le n (drop (context * n) streams.bits) enough
  where
    up_to : (k c n : ℕ) → k < c → k * n + n ≤ c * n
    up_to k c n less =
        let next : (k + 1) * n ≡ k * n + n = omega arith in
        let above : k + 1 ≤ c = omega (arith, less) in
        subst (λ m. m ≤ c * n) next (mul-le-mul_right n above)
