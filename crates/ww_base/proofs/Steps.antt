-- Calls on a sink one after another.
use Rattle.std.proofs.Common.{◌≡◌, ℕ, ◌+◌, min, List, [], ◌++◌, length, take, refl, sym, ap, ◌∙◌, subst, arith, append_assoc}
use Rattle.std.specs.Prelude.{Result, IsErrAnd, OnOk, OnErr, Ok, Err}
use Rattle.std.proofs.lemmas.List.{take-append-le, take_min, append-nil}
use Rattle.std.proofs.Math.Seq.{take-append-add}
use Rattle.std.specs.declared.option.Option.{Option}
use Rattle.std.specs.Io.KnownBytes.{Appends}
use Rattle.std.proofs.KnownBytes.{Appends-nil, Appends-trans}
use Rattle.ww_base.specs.Faults.{RoseByOne, HasCause}
use Rattle.ww_base.specs.Progress.{Wrote, Broke}

pub both_err : {T E : Type 0} (r : Result T E) {P Q R : Type 0} → (P → Q → R) → OnErr r P → OnErr r Q → OnErr r R
both_err (Ok x) f p q = tt
both_err (Err e) f p q = f p q

-- nothing was done
pub wrote_none : (a : Option (List ℕ)) (f : ℕ) (rest : List ℕ) → Wrote a a f f rest rest
wrote_none a f rest = record { text = []; taken = Appends-nil a; joined = refl; kept = refl }

pub wrote_then : {a b c : Option (List ℕ)} {f g h : ℕ} {x y z : List ℕ} → Wrote a b f g x y → Wrote b c g h y z → Wrote a c f h x z
wrote_then {z = z} w v = record {
  text = w.text ++ v.text;
  taken = Appends-trans _ _ _ _ _ w.taken v.taken;
  joined = w.joined ∙ ap (λ l. w.text ++ l) v.joined ∙ sym (append_assoc w.text v.text z);
  kept = v.kept ∙ w.kept;
}

-- a front of a piece was written
pub broke_piece : {a b : Option (List ℕ)} {f g : ℕ} (piece rest : List ℕ) → (n : ℕ) × Appends a b (take n piece) → RoseByOne f g → Broke a b f g (piece ++ rest)
broke_piece {a = a} {b = b} piece rest front rose =
    let n : ℕ = min front.0 (length piece) in
    let e : take front.0 piece ≡ take n (piece ++ rest) =
    sym (take-append-le n piece rest (omega arith) ∙ take_min front.0 piece) in
    record { count = n; taken = subst (Appends a b) e front.1; rose = rose }

pub wrote_broke : {a b c : Option (List ℕ)} {f g h : ℕ} {x y : List ℕ} → Wrote a b f g x y → Broke b c g h y → Broke a c f h x
wrote_broke {a = a} {c = c} {f = f} {g = g} {h = h} {x = x} {y = y} w v =
    let n : ℕ = length w.text + v.count in
    let e : w.text ++ take v.count y ≡ take n x =
    sym (ap (take n) w.joined ∙ take-append-add w.text y v.count) in
    record {
      count = n;
      taken = subst (Appends a c) e (Appends-trans _ _ _ _ _ w.taken v.taken);
      rose = subst (λ (k : ℕ). RoseByOne k h) w.kept v.rose;
    }

-- more is to come after it
pub wrote_before : {a b : Option (List ℕ)} {f g : ℕ} {x y : List ℕ} (rest : List ℕ) → Wrote a b f g x y → Wrote a b f g (x ++ rest) (y ++ rest)
wrote_before {y = y} rest w = record {
  text = w.text;
  taken = w.taken;
  joined = ap (λ l. l ++ rest) w.joined ∙ append_assoc w.text y rest;
  kept = w.kept;
}

pub broke_before : {a b : Option (List ℕ)} {f g : ℕ} {x : List ℕ} (rest : List ℕ) → Broke a b f g x → Broke a b f g (x ++ rest)
broke_before {x = x} rest v = broke_piece x rest (v.count, v.taken) v.rose

-- a text that is to be written, where nothing is held at first
pub begun : (here text : List ℕ) → here ≡ [] → text ≡ here ++ (text ++ [])
begun here text none = sym (append-nil text) ∙ ap (λ k. k ++ (text ++ [])) (sym none)

-- the same by other names of the texts
pub wrote_as : {a b : Option (List ℕ)} {f g : ℕ} {x x' y : List ℕ} → x' ≡ x → Wrote a b f g x y → Wrote a b f g x' y
wrote_as e w = record { text = w.text; taken = w.taken; joined = e ∙ w.joined; kept = w.kept }

pub broke_as : {a b : Option (List ℕ)} {f g : ℕ} {x x' : List ℕ} → x' ≡ x → Broke a b f g x → Broke a b f g x'
broke_as {a = a} {b = b} {f = f} {g = g} e v = subst (Broke a b f g) (sym e) v

pub wrote_to : {a b : Option (List ℕ)} {f g : ℕ} {x y y' : List ℕ} → y ≡ y' → Wrote a b f g x y → Wrote a b f g x y'
wrote_to {a = a} {b = b} {f = f} {g = g} {x = x} e w = subst (Wrote a b f g x) e w

-- all that was to be written was written
pub wrote_whole : {a b : Option (List ℕ)} {f g : ℕ} {x : List ℕ} → Wrote a b f g x [] → Appends a b x
wrote_whole {a = a} {b = b} w = subst (Appends a b) (sym (w.joined ∙ append-nil w.text)) w.taken

pub front_of : {a b : Option (List ℕ)} {f g : ℕ} {x : List ℕ} → Broke a b f g x → (n : ℕ) × Appends a b (take n x)
front_of v = (v.count, v.taken)

pub broke_cause : {T E : Type 0} {a b : Option (List ℕ)} {f g : ℕ} {x : List ℕ} (r : Result T E) (Q : E → Type 0) → IsErrAnd r Q → Broke a b f g x → HasCause f g r
broke_cause (Ok y) Q h v = absurd h
broke_cause (Err e) Q h v = record { kept = tt; failed = v.rose }

-- the cause of a call's result, from what it says where it is `Ok` and where it is `Err`
pub cause_of : {T E P Q : Type 0} {f g : ℕ} (r : Result T E) → (P → g ≡ f) → (Q → RoseByOne f g) → OnOk r P → OnErr r Q → HasCause f g r
cause_of (Ok x) p q ok err = record { kept = p ok; failed = tt }
cause_of (Err e) p q ok err = record { kept = tt; failed = q err }
