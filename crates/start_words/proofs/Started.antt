-- The bits of the flat latches are those of the states that start words mean.
use Rattle.std.proofs.Common.{ℕ, ◌≡◌, ◌==◌, ◌&&◌, List, [], ◌∷◌, Bool, true, false, Option, Some, None, slice_get, option_and_then, option_map, unwrap_or, refl, sym, ap, ◌∙◌, cond}
use Rattle.std.specs.List.{find, range_with_len}
use Rattle.std.specs.Option.{option_map_or}
use Rattle.std.proofs.lemmas.Option.{none-some}
use Rattle.std.proofs.Math.Path.{fun_ext}
use Rattle.std.proofs.lemmas.Simd.{map-map}
use Rattle.lists.proofs.Members.{In, in_got, map_in}
use Rattle.netlist_core.specs.declared.model.Design.{Design}
use Rattle.netlist_core.specs.declared.model.Model.{Model}
use Rattle.netlist_core.specs.declared.model.LatchRow.{LatchRow}
use Rattle.netlist_core.specs.declared.flat.Flat.{Flat}
use Rattle.netlist_core.specs.Names.{Name}
use Rattle.netlist_meaning.specs.Places.{Place, model_at, latch_at}
use Rattle.netlist_meaning.specs.Nets.{net_at}
use Rattle.netlist_meaning.specs.Flat.{class_of}
use Rattle.netlist_meaning.specs.FlatOf.{flat_latch, id_of, IsFlatOf}
use Rattle.netlist_meaning.specs.Valuation.{start_bit}
use Rattle.netlist_rules.specs.ModelFaults.{AreFaultless}
use Rattle.flat_designs.specs.Laws.{state_in_order}
use Rattle.flat_designs.proofs.Classes.{class_is}
use Rattle.flat_designs.proofs.Valuations.{latch_bits}
use Rattle.start_words.specs.Words.{Latches, bit_set, context_in, net_of_word, sets, is_char_one}
use Rattle.streams.specs.Cuts.{bits_in}
use Rattle.start_words.specs.Flats.{flat_latches, flat_start_bit, flat_start_bits}
use Rattle.start_words.specs.Starts.{latches_of, output_class, start_by_words, start_of_words}
use Rattle.start_words.specs.Laws.{NoWordsMeanStart, StartsAreFlat}
use Rattle.start_words.proofs.Named.{latches_are_flat, output_is_net}

-- words set the same bits for names that name the same latches
pub same_bit : (a b : Latches) → ((name : Name) → a name ≡ b name) → (context class : ℕ) (words : List (List ℕ)) → bit_set a context class words ≡ bit_set b context class words
same_bit a b same context class [] = refl
same_bit a b same context class (word ∷ words) =
    ap (λ (t : Bool). option_map bit (cond t (Some word) (find (sets a context class) words))) (ap (λ (o : Option ℕ). context_in word == context && option_map_or (λ named. named == class) o false) (same (net_of_word word)))
    ∙ by (same_bit a b same context class words) (sets b context class word)
  where
    bit : List ℕ → Bool
    bit word = is_char_one (bits_in word)

    by : bit_set a context class words ≡ bit_set b context class words → (t : Bool) → option_map bit (cond t (Some word) (find (sets a context class) words)) ≡ option_map bit (cond t (Some word) (find (sets b context class) words))
    by later true = refl
    by later false = later

-- the bits of one context
context_is_flat : (design : Design) (flat : Flat) → AreFaultless design.models → IsFlatOf design flat → (words : List (List ℕ)) (context : ℕ)
    → flat_start_bits flat words context ≡ state_in_order design (start_of_words design words context)
context_is_flat design flat faultless h words context = latch_bits design flat h (flat_start_bit flat words context) (start_of_words design words context) each
  where
    each : (place : Place) (number : ℕ) (l : LatchRow) → latch_at design place number ≡ Some l → flat_start_bit flat words context (flat_latch design place l) ≡ start_of_words design words context place number
    each place number l is_l =
        let (m, is_m, i) = model_of (model_at design place) is_l in
        let class : class_of flat (id_of design place l.output) ≡ output_class design place l = class_is design flat faultless h (net_at place l.output) (output_is_net design place m l is_m i) in
        ap (λ (c : ℕ). unwrap_or (bit_set (flat_latches flat) context c words) (l.init == 1)) class
        ∙ ap (λ (o : Option Bool). unwrap_or o (l.init == 1)) (same_bit (flat_latches flat) (latches_of design) (latches_are_flat design flat faultless h) context (output_class design place l) words)
        ∙ sym (ap (start_by_words design words context place) is_l)
      where
        model_of : (o : Option Model) → option_and_then (λ (m : Model). slice_get m.latches number) o ≡ Some l → (m : Model) × (o ≡ Some m) × In l m.latches
        model_of None e = absurd (none-some _ e)
        model_of (Some m) e = (m, refl, in_got m.latches number l e)

pub starts_are_flat : StartsAreFlat
starts_are_flat design flat faultless h words contexts =
    map_in (flat_start_bits flat words) (λ context. state_in_order design (start_of_words design words context)) (range_with_len 0 contexts) (λ context i. context_is_flat design flat faultless h words context)
    ∙ sym (map-map (state_in_order design) (start_of_words design words) (range_with_len 0 contexts))

pub no_words_mean_start : NoWordsMeanStart
no_words_mean_start design context = fun_ext (λ place. fun_ext (λ number. by place (latch_at design place number)))
  where
    by : (place : Place) (o : Option LatchRow) → start_by_words design [] context place o ≡ start_bit o
    by place None = refl
    by place (Some latch) = refl
