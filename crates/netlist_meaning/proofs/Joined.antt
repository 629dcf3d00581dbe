-- Joined nets, clock nets and IN names.
use Rattle.std.proofs.Common.{◌≡◌, List, [], ◌∷◌, IsTrue, refl, sym, ap, ◌∙◌}
use Rattle.netlist_core.specs.declared.model.Design.{Design}
use Rattle.netlist_core.specs.Names.{Name}
use Rattle.netlist_meaning.specs.Places.{main_inputs}
use Rattle.netlist_meaning.specs.Nets.{Net, IsPinned, Joined, by_pin, itself, reversed, followed, IsClockNet, WithoutControl, none, kept, left_out}
use Rattle.netlist_meaning.specs.Laws.{IsLeastEquivalence, AgreeAtPins, AgreeWhereJoined, PinsAreEnough, InNamesAreOne}

-- any relation that holds at pins and is an equivalence holds of joined nets
pub joined_gives : (design : Design) (R : Net → Net → Type 0) → ((a : Net) → R a a) → ((a b : Net) → R a b → R b a) → ((a b c : Net) → R a b → R b c → R a c) → ((outer inner : Net) → IsPinned design outer inner → R outer inner) → {a b : Net} → Joined design a b → R a b
joined_gives design R r s t p {a} {b} (by_pin h) = p a b h
joined_gives design R r s t p {a} {b} itself = r a
joined_gives design R r s t p {a} {b} (reversed h) = s b a (joined_gives design R r s t p h)
joined_gives design R r s t p {a} {b} (followed {b = m} h k) = t a m b (joined_gives design R r s t p h) (joined_gives design R r s t p k)

pub joined_is_least : (design : Design) → IsLeastEquivalence design
joined_is_least design =
    record {
      holds_at_pins = λ outer inner h. by_pin h;
      itself = λ a. itself;
      reversed = λ a b h. reversed h;
      followed = λ a b c h k. followed h k;
      is_least = λ test e p a b h. joined_gives design (λ x y. IsTrue (test x y)) e.refl (λ x y t. sym (e.symm x y) ∙ t) (λ x y z t u. e.congr x y z t ∙ u) p h;
    }

-- a net joined to a clock net is one
pub clock_net-joined : (design : Design) (a b : Net) → Joined design a b → IsClockNet design a → IsClockNet design b
clock_net-joined design a b h (source, is_source, k) = (source, is_source, followed k h)

pub no_clock_net-joined : (design : Design) (a b : Net) → Joined design a b → ¬ IsClockNet design a → ¬ IsClockNet design b
no_clock_net-joined design a b h away is_clock = away (clock_net-joined design b a (reversed h) is_clock)

pub pins_are_enough : PinsAreEnough
pins_are_enough design bits = (joined, λ agree outer inner h. agree outer inner (by_pin h))
  where
    along : AgreeAtPins design bits → {a b : Net} → Joined design a b → ¬ IsClockNet design a → bits a.place a.name ≡ bits b.place b.name
    along agree {a} {b} (by_pin h) away = agree a b h away
    along agree {a} {b} itself away = refl
    along agree {a} {b} (reversed h) away = sym (along agree h (no_clock_net-joined design a b (reversed h) away))
    along agree {a} {b} (followed {b = m} h k) away = along agree h away ∙ along agree k (no_clock_net-joined design a m h away)

    joined : AgreeAtPins design bits → AgreeWhereJoined design bits
    joined agree a b h = along agree h

-- the same names are left out
pub without_control-one : (design : Design) (names : List Name) → {rest others : List Name} → WithoutControl design names rest → WithoutControl design names others → rest ≡ others
without_control-one design [] none none = refl
without_control-one design (name ∷ names) (kept h k) (kept h' k') = ap (λ r. name ∷ r) (without_control-one design names k k')
without_control-one design (name ∷ names) (kept h k) (left_out h' k') = absurd (h h')
without_control-one design (name ∷ names) (left_out h k) (kept h' k') = absurd (h' h)
without_control-one design (name ∷ names) (left_out h k) (left_out h' k') = without_control-one design names k k'

pub in_names_are_one : InNamesAreOne
in_names_are_one design names others = without_control-one design (main_inputs design)
