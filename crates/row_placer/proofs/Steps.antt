-- What an instruction keeps.
use Rattle.std.proofs.Common.{◌≡◌, refl, sym, ◌∙◌, ap, ap₂, subst, ℕ, ◌+◌, ◌<◌, ◌≤◌, Bool, true, false, ⊎_elim, List, [], ◌∷◌, ◌++◌, length, get_or, set, count_by, cond, add_comm, arith}
use Rattle.std.specs.Prelude.{All, Option, Some, None, take, slice_get, ◌==◌}
use Rattle.std.specs.Option.{ForSome}
use Rattle.std.proofs.lemmas.Bool.{cases_eq, cases_lt}
use Rattle.std.proofs.lemmas.List.{length-set, length-append, length_push, take-append-le, get_or-set_same, get_or-set_other, get_or_append_left, get_or_push}
use Rattle.std.proofs.lemmas.Option.{none-some, slice_get_within, slice_get-get_or, get_or_from_slice_get}
use Rattle.std.proofs.Math.Seq.{take-length}
use Rattle.std.proofs.lemmas.List.Elements.{All-push}
use Rattle.std.proofs.lemmas.List.Sums.{fold_push, sum_by-set}
use Rattle.lane_core.specs.declared.instr.Instr.{Instr}
use Rattle.lane_core.specs.declared.plan.NetPlace.{NetPlace}
use Rattle.lane_core.specs.Entering.{bits_after}
use Rattle.lane_core.specs.Instrs.{after_instr, after_instrs, bit_on, lane_of, upper_bit, lower_bit, IsOnLanes}
use Rattle.lane_core.specs.Places.{IsPlaceWithin}
use Rattle.channel_router.proofs.TwoSet.{two_set}
use Rattle.row_placer.specs.declared.roles.Role.{Role}
use Rattle.row_placer.specs.declared.roles.Role.TheVariants.{Kept}
use Rattle.row_placer.specs.declared.roles.Tag.{Tag}
use Rattle.row_placer.specs.declared.job.Job.{Job}
use Rattle.row_placer.specs.declared.job.NumberedCell.{NumberedCell}
use Rattle.row_placer.specs.Told.{role_code, Told, MadeTold, MadeAt, IsGateAt, instr_at, PutsTags, FitsTag, free_tag, tag, gate_instr, Exchanged, BothExchanged}
use Rattle.lane_core.proofs.Lengths.{length-after_instrs as length-after}

pub length-two : {X : Type 0} (xs : List X) (i j : ℕ) (a b : X) → length (set (set xs i a) j b) ≡ length xs
length-two xs i j a b = length-set (set xs i a) j b ∙ length-set xs i a

FitsTag-same : (bit : ℕ → Bool) (t t' : Tag) (b b' : Bool) → t' ≡ t → b' ≡ b → FitsTag bit t b → FitsTag bit t' b'
FitsTag-same bit t t' b b' et eb h some = eb ∙ h (subst (λ (t : Tag). 0 < role_code t.role) et some) ∙ ap (λ (t : Tag). bit t.value) (sym et)

pub step_told : (job : Job) (tags : List Tag) (instrs : List Instr) (instr : Instr) (upper lower : Tag) → lane_of instr + 1 < length tags → length job.start ≡ length tags
    → PutsTags job tags instr upper lower → Told job tags instrs → Told job (set (set tags (lane_of instr) upper) (lane_of instr + 1) lower) (instrs ++ instr ∷ [])
step_told job tags instrs instr upper lower within long answers told bit agrees bits fits holds lane =
    let i = lane_of instr in
    let x = after_instrs instrs bits in
    let now = told bit agrees bits fits holds in
    let a = bit_on x i in
    let b = bit_on x (i + 1) in
    let new = answers bit agrees a b (now i) (now (i + 1)) in
    let ts = two_set tags i upper lower free_tag lane within in
    let bs = two_set x i (upper_bit instr a b) (lower_bit instr a b) false lane (omega (arith, within, long, fits, length-after instrs bits)) in
    let e : bit_on (after_instrs (instrs ++ instr ∷ []) bits) lane ≡ bit_on (set (set x i (upper_bit instr a b)) (i + 1) (lower_bit instr a b)) lane = ap (λ y. bit_on y lane) (fold_push after_instr bits instrs instr) in
    ⊎_elim
    (λ here. FitsTag-same bit upper _ (upper_bit instr a b) _ (ts.0 here) (e ∙ bs.0 here) new.0)
    (λ off. ⊎_elim
    (λ below. FitsTag-same bit lower _ (lower_bit instr a b) _ (ts.1 below) (e ∙ bs.1 below) new.1)
    (λ away. FitsTag-same bit (get_or tags lane free_tag) _ (bit_on x lane) _ (ts.2 off away) (e ∙ bs.2 off away) (now lane))
    (cases_eq lane (i + 1)))
    (cases_eq lane i)

front_same : (instrs more : List Instr) (after : Option ℕ) (bits : List Bool) → ForSome after (λ n. n < length instrs) → bits_after after_instrs (instrs ++ more) after bits ≡ bits_after after_instrs instrs after bits
front_same instrs more None bits h = refl
front_same instrs more (Some n) bits h = let low : n < length instrs = h n refl in ap (λ is. after_instrs is bits) (take-append-le (n + 1) instrs more (omega (arith, low)))

pub step_made : (job : Job) (lanes : ℕ) (instrs : List Instr) (instr : Instr) (made : List NetPlace) → All (IsPlaceWithin lanes (length instrs)) made
    → MadeTold job instrs made → MadeTold job (instrs ++ instr ∷ []) made
step_made job lanes instrs instr made places told bit agrees bits fits holds g d within =
    ap (λ b. bit_on b (get_or made g d).lane) (front_same instrs (instr ∷ []) (get_or made g d).after bits (places g d within).after)
    ∙ told bit agrees bits fits holds g d within

later : (after : Option ℕ) (n m : ℕ) → n ≤ m → ForSome after (λ k. k < n) → ForSome after (λ k. k < m)
later after n m le h k is = let low : k < n = h k is in omega (arith, le, low)

pub step_places : (lanes : ℕ) (instrs : List Instr) (instr : Instr) (made : List NetPlace) → All (IsPlaceWithin lanes (length instrs)) made → All (IsPlaceWithin lanes (length (instrs ++ instr ∷ []))) made
step_places lanes instrs instr made places g d within = record {
  lane = (places g d within).lane;
  after = later (get_or made g d).after (length instrs) (length (instrs ++ instr ∷ [])) (omega (arith, length_push instrs instr)) (places g d within).after;
}

pub step_on : (lanes : ℕ) (instrs : List Instr) (instr : Instr) → All (IsOnLanes lanes) instrs → lane_of instr + 1 < lanes → All (IsOnLanes lanes) (instrs ++ instr ∷ [])
step_on lanes instrs instr all within = All-push (IsOnLanes lanes) instrs instr all within

-- tags that are counted
pub counts_set : (p : Tag → Bool) (tags : List Tag) (i : ℕ) (t : Tag) → i < length tags → count_by p (set tags i t) + cond (p (get_or tags i free_tag)) 1 0 ≡ count_by p tags + cond (p t) 1 0
counts_set p tags i t within = sum_by-set (λ t. cond (p t) 1 0) tags i t free_tag within

pub counts_step : (p : Tag → Bool) (tags : List Tag) (i : ℕ) (u l : Tag) → i + 1 < length tags
    → count_by p (set (set tags i u) (i + 1) l) + (cond (p (get_or tags i free_tag)) 1 0 + cond (p (get_or tags (i + 1) free_tag)) 1 0) ≡ count_by p tags + (cond (p u) 1 0 + cond (p l) 1 0)
counts_step p tags i u l within =
    let first = counts_set p tags i u (omega (arith, within)) in
    let second = counts_set p (set tags i u) (i + 1) l (omega (arith, within, length-set tags i u)) in
    let other : get_or (set tags i u) (i + 1) free_tag ≡ get_or tags (i + 1) free_tag = get_or-set_other tags i (i + 1) u free_tag (λ e. absurd (omega (arith, e))) in
    let same : cond {A = ℕ} (p (get_or (set tags i u) (i + 1) free_tag)) 1 0 ≡ cond (p (get_or tags (i + 1) free_tag)) 1 0 = ap (λ t. cond (p t) 1 0) other in
    omega (arith, first, second, same)

-- swaps
-- forks
-- marks
pub mark_told : (job : Job) (tags : List Tag) (instrs : List Instr) (i : ℕ) (role : Role) → i < length tags → 0 < role_code (get_or tags i free_tag).role → Told job tags instrs → Told job (set tags i (tag (get_or tags i free_tag).value role)) instrs
mark_told job tags instrs i role within some told bit agrees bits fits holds lane =
    let now = told bit agrees bits fits holds in
    ⊎_elim
    (λ here. FitsTag-same bit (tag (get_or tags i free_tag).value role) _ (bit_on (after_instrs instrs bits) i) _
    (ap (λ l. get_or (set tags i (tag (get_or tags i free_tag).value role)) l free_tag) here ∙ get_or-set_same tags i (tag (get_or tags i free_tag).value role) free_tag within)
    (ap (bit_on (after_instrs instrs bits)) here) (λ _. now i some))
    (λ off. FitsTag-same bit (get_or tags lane free_tag) _ (bit_on (after_instrs instrs bits) lane) _ (get_or-set_other tags i lane (tag (get_or tags i free_tag).value role) free_tag off) refl (now lane))
    (cases_eq lane i)

-- a lane that is freed
pub free_told : (job : Job) (tags : List Tag) (instrs : List Instr) (i : ℕ) → i < length tags → Told job tags instrs → Told job (set tags i free_tag) instrs
free_told job tags instrs i within told bit agrees bits fits holds lane =
    ⊎_elim
    (λ here. λ some. (let e : get_or (set tags i free_tag) lane free_tag ≡ free_tag = ap (λ l. get_or (set tags i free_tag) l free_tag) here ∙ get_or-set_same tags i free_tag free_tag within in
    let none : 0 < 0 = subst (λ (t : Tag). 0 < role_code t.role) e some in absurd (omega (arith, none))))
    (λ off. FitsTag-same bit (get_or tags lane free_tag) _ (bit_on (after_instrs instrs bits) lane) _ (get_or-set_other tags i lane free_tag free_tag off) refl (told bit agrees bits fits holds lane))
    (cases_eq lane i)

pub freed : (tags tags' : List Tag) (i n value : ℕ) → i < length tags → n ≡ 0 → get_or tags i free_tag ≡ tag value Kept → tags' ≡ set tags i free_tag → Exchanged tags tags' (cond (n == 0) (tag value Kept) free_tag) free_tag
freed tags tags' i n value within none here is p =
    let e = counts_set p tags i free_tag within in
    let old : cond {A = ℕ} (p (get_or tags i free_tag)) 1 0 ≡ cond {A = ℕ} (p (cond (n == 0) (tag value Kept) free_tag)) 1 0 =
    ap (λ (t : Tag). cond {A = ℕ} (p t) 1 0) (here ∙ ap (λ k. cond (k == 0) (tag value Kept) free_tag) (sym none)) in
    let new : count_by p tags' ≡ count_by p (set tags i free_tag) = ap (count_by p) is in
    omega (arith, e, old, new)

-- gates
-- what stands on the two lanes, and what the gate makes of it
pub gate_exchanged : (tags : List Tag) (lane : ℕ) (t u made : Tag) (turned : Bool) → lane + 1 < length tags → get_or tags lane free_tag ≡ cond turned u t → get_or tags (lane + 1) free_tag ≡ cond turned t u
    → BothExchanged tags (set (set tags lane made) (lane + 1) free_tag) t u made free_tag
gate_exchanged tags lane t u made turned within upper lower p =
    let e = counts_step p tags lane made free_tag within in
    let both = parts turned upper lower in
    omega (arith, e, both)
  where
    parts : (turned : Bool) → get_or tags lane free_tag ≡ cond turned u t → get_or tags (lane + 1) free_tag ≡ cond turned t u
        → cond {A = ℕ} (p (get_or tags lane free_tag)) 1 0 + cond (p (get_or tags (lane + 1) free_tag)) 1 0 ≡ cond (p t) 1 0 + cond (p u) 1 0
    parts true a b = ap₂ (λ x y. cond {A = ℕ} (p x) 1 0 + cond (p y) 1 0) a b ∙ add_comm (cond (p u) 1 0) (cond (p t) 1 0)
    parts false a b = ap₂ (λ x y. cond {A = ℕ} (p x) 1 0 + cond (p y) 1 0) a b

-- places
pub note_told : (job : Job) (tags : List Tag) (instrs : List Instr) (made : List NetPlace) (lane n : ℕ) → n + 1 ≡ length instrs → get_or tags lane free_tag ≡ tag (job.base + length made) Kept
    → Told job tags instrs → MadeTold job instrs made → MadeTold job instrs (made ++ record { lane = lane; after = Some n } ∷ [])
note_told job tags instrs made lane n last here told old bit agrees bits fits holds g d within =
    ⊎_elim
    (λ low. let e : get_or (made ++ place ∷ []) g d ≡ get_or made g d = get_or_append_left made (place ∷ []) d g low in
    ap (λ (q : NetPlace). bit_on (bits_after after_instrs instrs q.after bits) q.lane) e ∙ old bit agrees bits fits holds g d low)
    (λ high. let is : g ≡ length made = omega (arith, high, within, length_push made place) in
    let e : get_or (made ++ place ∷ []) g d ≡ place = ap (λ k. get_or (made ++ place ∷ []) k d) is ∙ get_or_push made place d (length made) refl in
    ap (λ (q : NetPlace). bit_on (bits_after after_instrs instrs q.after bits) q.lane) e
    ∙ ap (λ is. bit_on (after_instrs is bits) lane) (ap (λ k. take k instrs) last ∙ take-length instrs)
    ∙ now (subst (λ (t : Tag). 0 < role_code t.role) (sym here) (let some : 0 < 1 = omega arith in some)) ∙ ap (λ (t : Tag). bit t.value) here ∙ ap (λ k. bit (job.base + k)) (sym is))
    (cases_lt g (length made))
  where
    place : NetPlace
    place = record { lane = lane; after = Some n }

    now : FitsTag bit (get_or tags lane free_tag) (bit_on (after_instrs instrs bits) lane)
    now = told bit agrees bits fits holds lane

-- gates stay where they are when an instruction is added, and the last one may be a gate
pub got_front : (instrs more : List Instr) (n : ℕ) (i : Instr) → slice_get instrs n ≡ Some i → slice_get (instrs ++ more) n ≡ Some i
got_front instrs more n i got =
    let low : n < length instrs = slice_get_within instrs n i got in
    slice_get-get_or (instrs ++ more) n i (let e = length-append instrs more in omega (arith, e, low))
    ∙ ap Some (get_or_append_left instrs more i n low ∙ get_or_from_slice_get instrs n i i got)

got_after : (instrs more : List Instr) (after : Option ℕ) (i : Instr) → instr_at instrs after ≡ Some i → instr_at (instrs ++ more) after ≡ Some i
got_after instrs more None i got = absurd (none-some i got)
got_after instrs more (Some n) i got = got_front instrs more n i got

pub step_at : (job : Job) (instrs : List Instr) (instr : Instr) (made : List NetPlace) → MadeAt job instrs made → MadeAt job (instrs ++ instr ∷ []) made
step_at job instrs instr made at g gate place within = got_after instrs (instr ∷ []) (get_or made g place).after _ (at g gate place within)

pub note_at : (job : Job) (instrs : List Instr) (made : List NetPlace) (lane n : ℕ) → ((gate : NumberedCell) → slice_get instrs n ≡ Some (gate_instr (get_or job.gates (length made) gate).kind lane))
    → MadeAt job instrs made → MadeAt job instrs (made ++ record { lane = lane; after = Some n } ∷ [])
note_at job instrs made lane n last old g gate place within =
    ⊎_elim
    (λ low. subst (IsGateAt instrs (get_or job.gates g gate).kind) (sym (get_or_append_left made (new ∷ []) place g low)) (old g gate place low))
    (λ high. (let is : g ≡ length made = omega (arith, high, within, length_push made new) in
    subst (IsGateAt instrs (get_or job.gates g gate).kind) (sym (get_or_push made new place g (sym is)))
    (last gate ∙ ap (λ k. Some (gate_instr (get_or job.gates k gate).kind lane)) (sym is))))
    (cases_lt g (length made))
  where
    new : NetPlace
    new = record { lane = lane; after = Some n }

pub either : (b : Bool) (P : List NetPlace → Type 0) (x y : List NetPlace) → P x → P y → P (cond b x y)
either true P x y p q = p
either false P x y p q = q

abbrev value_of : Option ℕ → ℕ
value_of None = 0
value_of (Some n) = n

pub note_places : (lanes steps : ℕ) (made : List NetPlace) (lane n : ℕ) → lane < lanes → n + 1 ≡ steps → All (IsPlaceWithin lanes steps) made
    → All (IsPlaceWithin lanes steps) (made ++ record { lane = lane; after = Some n } ∷ [])
note_places lanes steps made lane n low last all = All-push (IsPlaceWithin lanes steps) made (record { lane = lane; after = Some n }) all (record {
  lane = low;
  after = λ k e. let same : n ≡ k = ap value_of e in omega (arith, last, same);
})
