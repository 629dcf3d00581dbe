-- The bits that are due are read one by one: each is right, or is still to come.
use Rattle.std.proofs.Common.{◌≡◌, ◌≢◌, refl, sym, ◌∙◌, ap, ap₂, subst, ℕ, zero, suc, pos, ◌+◌, ◌-◌, ◌*◌, ◌≤◌, ◌<◌, ◌==◌, ◌⊎◌, inl, inr, ⊎_elim, Bool, true, false, ◌&&◌, ◌||◌, List, [], ◌∷◌, ◌++◌, length, get_or, All, arith}
use Rattle.std.specs.Prelude.{nat_lt, if◌then◌else◌, Contains}
use Rattle.std.proofs.lemmas.Bool.{cases_eq, eq-eqb, ne_eqb, lt-ltb, ltb-true}
use Rattle.std.proofs.lemmas.List.{append-nil}
use Rattle.std.proofs.lemmas.List.Elements.{All-contains, All-nil}
use Rattle.lists.proofs.Members.{In, contains_from, in_from, in_left, in_parts, in_right}
use Rattle.ww_rule.specs.Wireworld.{Plane, is_head}
use Rattle.drive.specs.declared.run.Run.{Run}
use Rattle.drive.specs.Runs.{HasGoneOn, IsBandRun, planes_of}
use Rattle.vcd_write.specs.declared.due_bits.DueBit.{DueBit}
use Rattle.vcd_write.specs.declared.due_bits.DueBits.{DueBits}
use Rattle.vcd_write.specs.declared.due_bits.Raster.{Raster}
use Rattle.vcd_write.specs.DueBits.{AreDueFrom, AreFirstBits, AreInOrder, ShowsDueBits, IsTakenFrom, IsStillDue, IsWithin, next_bit}
use Rattle.vcd_write.proofs.DueOrder.{from_before, one_more, up_to_more}

-- a bit is due
abbrev pub IsDue : DueBit → DueBits → Type 0
IsDue bit due = In bit due.unbegun.items ⊎ In bit due.begun.items

-- what was taken was due, and so are all others
pub taken_was : (bit : DueBit) (old new : DueBits) → IsTakenFrom bit old new → IsDue bit old
taken_was bit old new (inl is) = inl (subst (In bit) (sym is.0) (inl refl))
taken_was bit old new (inr is) = inr (subst (In bit) (sym is.1) (inl refl))

taken_still : (bit : DueBit) (old new : DueBits) (e : DueBit) → IsTakenFrom bit old new → IsDue e new → IsDue e old
taken_still bit old new e (inl is) (inl u) = inl (subst (In e) (sym is.0) (inr u))
taken_still bit old new e (inl is) (inr b) = inr (subst (In e) (sym is.1) b)
taken_still bit old new e (inr is) (inl u) = inl (subst (In e) (sym is.0) u)
taken_still bit old new e (inr is) (inr b) = inr (subst (In e) (sym is.1) (inr b))

first_or : (bit e : DueBit) (bits : List DueBit) {P : Type 0} → In e (bit ∷ bits) → (In e bits → P) → (e ≡ bit) ⊎ P
first_or bit e bits (inl is) later = inl is
first_or bit e bits (inr i) later = inr (later i)

taken_left : (bit : DueBit) (old new : DueBits) (e : DueBit) → IsTakenFrom bit old new → IsDue e old → (e ≡ bit) ⊎ IsDue e new
taken_left bit old new e (inl is) (inl u) = first_or bit e new.unbegun.items (subst (In e) is.0 u) (λ i. inl i)
taken_left bit old new e (inl is) (inr b) = inr (inr (subst (In e) is.1 b))
taken_left bit old new e (inr is) (inl u) = inr (inl (subst (In e) is.0 u))
taken_left bit old new e (inr is) (inr b) = first_or bit e new.begun.items (subst (In e) is.1 b) (λ i. inr i)

module _ (raster : Raster) where
  abbrev later : DueBit → DueBit
  later bit = record { generation = bit.generation + raster.period; place = bit.place + raster.variables; x = bit.x; y = bit.y }

  next_is : (bit e : DueBit) → In e (next_bit raster bit) → (bit.place + raster.variables < raster.bits) × (e ≡ later bit)
  next_is bit e = by (nat_lt (bit.place + raster.variables) raster.bits) refl
    where
      by : (t : Bool) → nat_lt (bit.place + raster.variables) raster.bits ≡ t → In e (if t then later bit ∷ [] else []) → (bit.place + raster.variables < raster.bits) × (e ≡ later bit)
      by true lt (inl is) = (ltb-true (bit.place + raster.variables) raster.bits lt, is)
      by true lt (inr none) = absurd none
      by false ge none = absurd none

  next_there : (bit : DueBit) → bit.place + raster.variables < raster.bits → In (later bit) (next_bit raster bit)
  next_there bit lt =
      subst (λ (t : Bool). In (later bit) (if t then later bit ∷ [] else [])) (sym (lt-ltb (bit.place + raster.variables) raster.bits lt)) (inl refl)

  -- so many steps of a variable, and one more
  step_more : (a b j : ℕ) → a + b + j * b ≡ a + suc j * b
  step_more a b j = omega arith

  within_later : (bit : DueBit) → bit.place + raster.variables < raster.bits → IsWithin raster bit → IsWithin raster (later bit)
  within_later bit lt is = record {
    some = is.some;
    place = lt;
    early = λ j low.
        let e : bit.place + raster.variables + j * raster.variables ≡ bit.place + suc j * raster.variables = step_more bit.place raster.variables j in
        let f : bit.generation + raster.period + j * raster.period ≡ bit.generation + suc j * raster.period = step_more bit.generation raster.period j in
        let g = is.early (suc j) (omega (arith, e, low)) in
        omega (arith, f, g);
  }

  shown_later : (shown : ℕ → Bool) (planes : ℕ → Plane) (bit : DueBit) → ShowsDueBits shown planes raster bit → ShowsDueBits shown planes raster (later bit)
  shown_later shown planes bit is j low =
      let e : bit.place + raster.variables + j * raster.variables ≡ bit.place + suc j * raster.variables = step_more bit.place raster.variables j in
      let f : bit.generation + raster.period + j * raster.period ≡ bit.generation + suc j * raster.period = step_more bit.generation raster.period j in
      ap shown e ∙ is (suc j) (omega (arith, e, low)) ∙ sym (ap (λ g. is_head (planes g (pos bit.x) (pos bit.y))) f)

  -- a place that is still to come
  pub record IsLeft (due : DueBits) (k : ℕ) : Type 0 where
    pub bit : DueBit
    pub is_due : IsDue bit due
    pub cycles : ℕ
    pub is_later : k ≡ bit.place + cycles * raster.variables

  abbrev pub IsRead : (ℕ → Bool) → List Bool → DueBits → ℕ → Type 0
  IsRead shown bits due k = (get_or bits k false ≡ shown k) ⊎ ((get_or bits k false ≡ false) × IsLeft due k)

  pub record AreRead (shown : ℕ → Bool) (planes : ℕ → Plane) (due : DueBits) (bits : List Bool) : Type 0 where
    pub shows : (bit : DueBit) → IsDue bit due → ShowsDueBits shown planes raster bit
    pub each : (k : ℕ) → k < raster.bits → IsRead shown bits due k

  pub record Progress (first : List DueBit) (begun now : Run) (due : DueBits) (bits : List Bool) : Type 0 where
    pub gone : HasGoneOn raster.last begun now
    pub at : ℕ
    pub after : now.generation ≤ at
    pub order : AreInOrder at raster.period due
    pub within : (bit : DueBit) → IsDue bit due → IsWithin raster bit
    pub long : length bits ≡ raster.bits
    pub right : (shown : ℕ → Bool) → AreFirstBits shown (planes_of begun) raster first → AreRead shown (planes_of begun) due bits

  -- after a bit is read and the next of its variable is put
  module _ (bit : DueBit) (old taken new : DueBits) (is : IsTakenFrom bit old taken) (unbegun : new.unbegun.items ≡ taken.unbegun.items) (begun : new.begun.items ≡ taken.begun.items ++ next_bit raster bit) where
    due_before : (e : DueBit) → IsDue e new → IsDue e old ⊎ In e (next_bit raster bit)
    due_before e (inl u) = inl (taken_still bit old taken e is (inl (subst (In e) unbegun u)))
    due_before e (inr b) =
        ⊎_elim (λ i. inl (taken_still bit old taken e is (inr i))) (λ i. inr i) (in_parts taken.begun.items (next_bit raster bit) e (subst (In e) begun b))

    taken_kept : (e : DueBit) → IsDue e taken → IsDue e new
    taken_kept e (inl u) = inl (subst (In e) (sym unbegun) u)
    taken_kept e (inr b) = inr (subst (In e) (sym begun) (in_left taken.begun.items (next_bit raster bit) e b))

    next_due : bit.place + raster.variables < raster.bits → IsDue (later bit) new
    next_due lt = inr (subst (In (later bit)) (sym begun) (in_right taken.begun.items (next_bit raster bit) (later bit) (next_there bit lt)))

    within_step : ((e : DueBit) → IsDue e old → IsWithin raster e) → (e : DueBit) → IsDue e new → IsWithin raster e
    within_step within e due =
        ⊎_elim (λ was. within e was)
        (λ i. let next = next_is bit e i in subst (IsWithin raster) (sym next.1) (within_later bit next.0 (within bit (taken_was bit old taken is))))
        (due_before e due)

    left_step : (k : ℕ) → k < raster.bits → k ≢ bit.place → IsLeft old k → IsLeft new k
    left_step k low other left = ⊎_elim (λ same. by left.cycles (left.is_later ∙ ap (λ e. e.place + left.cycles * raster.variables) same)) still (taken_left bit old taken left.bit is left.is_due)
      where
        still : IsDue left.bit taken → IsLeft new k
        still due = record { bit = left.bit; is_due = taken_kept left.bit due; cycles = left.cycles; is_later = left.is_later }

        by : (j : ℕ) → k ≡ bit.place + j * raster.variables → IsLeft new k
        by zero e = absurd (other (omega (arith, e)))
        by (suc j) e =
            let f : bit.place + raster.variables + j * raster.variables ≡ bit.place + suc j * raster.variables = step_more bit.place raster.variables j in
            record { bit = later bit; is_due = next_due (omega (arith, e, f, low)); cycles = j; is_later = omega (arith, e, f) }

    module _ (shown : ℕ → Bool) (planes : ℕ → Plane) (bits more : List Bool) (head : Bool)
        (is_shown : shown bit.place ≡ head) (marked : (k : ℕ) → get_or more k false ≡ ((k == bit.place && head) || get_or bits k false)) where
      both_true : (h : Bool) → (true && h || h) ≡ h
      both_true true = refl
      both_true false = refl

      or_nothing : (h : Bool) → (true && h || false) ≡ h
      or_nothing true = refl
      or_nothing false = refl

      read_here : (k : ℕ) → k ≡ bit.place → IsRead shown bits old k → get_or more k false ≡ shown k
      read_here k e (inl right) =
          let same : shown k ≡ head = ap shown e ∙ is_shown in
          marked k ∙ ap₂ (λ t b. t && head || b) (eq-eqb k bit.place e) (right ∙ same) ∙ both_true head ∙ sym same
      read_here k e (inr unread) =
          let same : shown k ≡ head = ap shown e ∙ is_shown in
          marked k ∙ ap₂ (λ t b. t && head || b) (eq-eqb k bit.place e) unread.0 ∙ or_nothing head ∙ sym same

      unchanged : (k : ℕ) → k ≢ bit.place → get_or more k false ≡ get_or bits k false
      unchanged k ne = marked k ∙ ap (λ t. t && head || get_or bits k false) (ne_eqb k bit.place ne)

      read_other : (k : ℕ) → k < raster.bits → k ≢ bit.place → IsRead shown bits old k → IsRead shown more new k
      read_other k low ne (inl right) = inl (unchanged k ne ∙ right)
      read_other k low ne (inr unread) = inr (unchanged k ne ∙ unread.0, left_step k low ne unread.1)

      read_step : AreRead shown planes old bits → AreRead shown planes new more
      read_step read = record {
        shows = λ e due.
            ⊎_elim (λ was. read.shows e was)
            (λ i. let next = next_is bit e i in subst (ShowsDueBits shown planes raster) (sym next.1) (shown_later shown planes bit (read.shows bit (taken_was bit old taken is))))
            (due_before e due);
        each = λ k low. ⊎_elim (λ e. inl (read_here k e (read.each k low))) (λ ne. read_other k low ne (read.each k low)) (cases_eq k bit.place);
      }

    order_next : AreInOrder bit.generation raster.period taken → AreInOrder bit.generation raster.period new
    order_next order = by (nat_lt (bit.place + raster.variables) raster.bits) begun
      where
        by : (t : Bool) → new.begun.items ≡ taken.begun.items ++ (if t then later bit ∷ [] else []) → AreInOrder bit.generation raster.period new
        by true e = record {
          unbegun = subst (AreDueFrom bit.generation) (sym unbegun) order.unbegun;
          begun = subst (AreDueFrom bit.generation) (sym e) (one_more bit.generation (bit.generation + raster.period) taken.begun.items (later bit) order.begun order.near (omega arith) (omega arith));
          near = subst (All (λ b. b.generation ≤ bit.generation + raster.period)) (sym e) (up_to_more (bit.generation + raster.period) taken.begun.items (later bit) order.near (omega arith));
        }
        by false e =
            let same : new.begun.items ≡ taken.begun.items = e ∙ append-nil taken.begun.items in
            record {
              unbegun = subst (AreDueFrom bit.generation) (sym unbegun) order.unbegun;
              begun = subst (AreDueFrom bit.generation) (sym same) order.begun;
              near = subst (All (λ b. b.generation ≤ bit.generation + raster.period)) (sym same) order.near;
            }

    pub step : (first : List DueBit) (begin now next : Run) (bits more : List Bool) → Progress first begin now old bits
        → AreInOrder bit.generation raster.period taken → HasGoneOn bit.generation now next → length more ≡ length bits
        → ((k : ℕ) → get_or more k false ≡ ((k == bit.place && is_head (planes_of now bit.generation (pos bit.x) (pos bit.y))) || get_or bits k false))
        → Progress first begin next new more
    step first begin now next bits more p order went long marked =
        let here = p.within bit (taken_was bit old taken is) in
        let low = here.place in
        let early : bit.generation + 0 * raster.period ≤ raster.last = here.early 0 (omega (arith, low)) in
        record {
          gone = record { run = went.run; order = (let o = went.order in omega (arith, o, early)); planes = went.planes ∙ p.gone.planes; misses = went.misses ∙ p.gone.misses };
          at = bit.generation;
          after = went.order;
          order = order_next order;
          within = within_step p.within;
          long = long ∙ p.long;
          right = λ shown at_first.
              let read = p.right shown at_first in
              let g : bit.generation + 0 * raster.period ≡ bit.generation = omega arith in
              let k : bit.place + 0 * raster.variables ≡ bit.place = omega arith in
              let shows : shown bit.place ≡ is_head (planes_of now bit.generation (pos bit.x) (pos bit.y)) =
              sym (ap shown k) ∙ read.shows bit (taken_was bit old taken is) 0 (omega (arith, low))
              ∙ ap (λ g. is_head (planes_of begin g (pos bit.x) (pos bit.y))) g
              ∙ sym (ap (λ (planes : ℕ → Plane). is_head (planes bit.generation (pos bit.x) (pos bit.y))) p.gone.planes) in
              read_step shown (planes_of begin) bits more (is_head (planes_of now bit.generation (pos bit.x) (pos bit.y))) shows marked read;
        }

  -- at first none is read
  pub begin_with : (first : List DueBit) (run : Run) (due : DueBits) (bits : List Bool) → IsBandRun run → run.generation ≤ raster.last → AreDueFrom run.generation first → All (IsWithin raster) first
      → due.unbegun.items ≡ first → due.begun.items ≡ [] → length bits ≡ raster.bits → ((k : ℕ) → get_or bits k false ≡ false) → Progress first run run due bits
  begin_with first run due bits is near order within unbegun begun long none = record {
    gone = record { run = is; order = near; planes = refl; misses = refl };
    at = run.generation;
    after = omega arith;
    order = record {
      unbegun = subst (AreDueFrom run.generation) (sym unbegun) order;
      begun = subst (AreDueFrom run.generation) (sym begun) tt;
      near = subst (All (λ b. b.generation ≤ run.generation + raster.period)) (sym begun) (All-nil (λ (b : DueBit). b.generation ≤ run.generation + raster.period));
    };
    within = λ bit due. all_of (IsWithin raster) within bit due;
    long = long;
    right = λ shown at_first. record {
      shows = λ bit due. all_of (ShowsDueBits shown (planes_of run) raster) at_first.each bit due;
      each = λ k low. let to = at_first.all k low in inr (none k, record { bit = to.bit; is_due = inl (subst (In to.bit) (sym unbegun) (in_from first to.bit to.is_there)); cycles = to.cycles; is_later = to.is_later });
    };
  }
    where
      all_of : (P : DueBit → Type 0) → All P first → (bit : DueBit) → IsDue bit due → P bit
      all_of P all bit (inl u) = All-contains P first bit all (contains_from first bit (subst (In bit) unbegun u))
      all_of P all bit (inr b) = absurd (subst (In bit) begun b)

  -- and where no bit is due any more, each is right
  pub all_right : (first : List DueBit) (begin now : Run) (due : DueBits) (bits : List Bool) → Progress first begin now due bits → due.unbegun.items ≡ [] → due.begun.items ≡ []
      → (shown : ℕ → Bool) → AreFirstBits shown (planes_of begin) raster first → (k : ℕ) → k < raster.bits → get_or bits k false ≡ shown k
  all_right first begin now due bits p unbegun begun shown at_first k low = by ((p.right shown at_first).each k low)
    where
      nothing : (bit : DueBit) → IsDue bit due → ⊥
      nothing bit (inl u) = subst (In bit) unbegun u
      nothing bit (inr b) = subst (In bit) begun b

      by : IsRead shown bits due k → get_or bits k false ≡ shown k
      by (inl right) = right
      by (inr unread) = absurd (nothing unread.1.bit unread.1.is_due)

-- how many places are left, counted from each bit that is due
pub left : ℕ → List DueBit → ℕ
left all [] = 0
left all (bit ∷ bits) = (all - bit.place) + left all bits

left_more : (all : ℕ) (a b : List DueBit) → left all (a ++ b) ≡ left all a + left all b
unfolding left
left_more all [] b = omega arith
left_more all (bit ∷ a) b = let e = left_more all a b in omega (arith, e)

left_next : (raster : Raster) (bit : DueBit) → IsWithin raster bit → left raster.bits (next_bit raster bit) < raster.bits - bit.place
unfolding left
left_next raster bit is = by (nat_lt (bit.place + raster.variables) raster.bits) refl
  where
    by : (t : Bool) → nat_lt (bit.place + raster.variables) raster.bits ≡ t → left raster.bits (if t then later raster bit ∷ [] else []) < raster.bits - bit.place
    by true lt = let low = is.place in let some = is.some in omega (arith, low, some, ltb-true (bit.place + raster.variables) raster.bits lt)
    by false ge = let low = is.place in omega (arith, low)

pub fewer_left : (raster : Raster) (bit : DueBit) (old taken new : DueBits) → IsWithin raster bit → IsTakenFrom bit old taken → new.unbegun.items ≡ taken.unbegun.items → new.begun.items ≡ taken.begun.items ++ next_bit raster bit
    → left raster.bits new.unbegun.items + left raster.bits new.begun.items < left raster.bits old.unbegun.items + left raster.bits old.begun.items
unfolding left
fewer_left raster bit old taken new within is unbegun begun =
    let next = left_next raster bit within in
    let u = ap (left raster.bits) unbegun in
    let b = ap (left raster.bits) begun ∙ left_more raster.bits taken.begun.items (next_bit raster bit) in
    ⊎_elim
    (λ s. (let v : left raster.bits old.unbegun.items ≡ (raster.bits - bit.place) + left raster.bits taken.unbegun.items = ap (left raster.bits) s.0 in let w = ap (left raster.bits) s.1 in omega (arith, next, u, b, v, w)))
    (λ s. (let v = ap (left raster.bits) s.0 in let w : left raster.bits old.begun.items ≡ (raster.bits - bit.place) + left raster.bits taken.begun.items = ap (left raster.bits) s.1 in omega (arith, next, u, b, v, w)))
    is

-- a bit that is set where its cell is a head
pub marked_head : (here head before : Bool) → head ≡ true → (here || before) ≡ (here && head || before)
marked_head true head before e = sym (ap (λ h. h || before) e)
marked_head false head before e = refl

pub marked_none : (here head before : Bool) → head ≡ false → before ≡ (here && head || before)
marked_none true head before e = sym (ap (λ h. h || before) e)
marked_none false head before e = refl
