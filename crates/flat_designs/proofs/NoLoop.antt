-- Along an order there is no loop.
use Rattle.std.proofs.Common.{◌≡◌, refl, sym, ap, subst, ◌∙◌, ℕ, zero, suc, ◌+◌, ◌<◌, ◌⊎◌, inl, inr, List, [], ◌∷◌, ◌++◌, arith, length}
use Rattle.std.specs.Prelude.{Contains}
use Rattle.std.proofs.lemmas.List.{append_assoc, length-append}
use Rattle.netlist_core.specs.declared.model.Cover.{Cover}
use Rattle.netlist_core.specs.declared.model.Design.{Design}
use Rattle.netlist_core.specs.Names.{Name}
use Rattle.netlist_meaning.specs.Nets.{Net, net_at, Joined}
use Rattle.netlist_meaning.specs.Nets.Joined.{followed}
use Rattle.netlist_meaning.specs.Loop.{Feeds, FeedsThrough}
use Rattle.lists.proofs.Members.{In, in_from, contains_from, in_got, got_from}
use Rattle.flat_designs.specs.Order.{CoverAt, IsCoverAt, IsCoverOrder, OrderedHaveNoLoop}

-- one step or more
data Steps (design : Design) : Net → Net → Type 0 where
  one : {a b : Net} → Feeds design a b → Steps design a b
  more : {a b c : Net} → Feeds design a b → Steps design b c → Steps design a c

steps : (design : Design) (start : Net) (nets : List Net) (end : Net) → FeedsThrough design start nets end → Steps design start end
steps design start [] end f = one f
steps design start (net ∷ nets) end (f, g) = more f (steps design net nets end g)

record Last (design : Design) (a c : Net) : Type 0 where
  pub before : Net
  pub way : (before ≡ a) ⊎ Steps design a before
  pub last : Feeds design before c

last_of : (design : Design) (a c : Net) → Steps design a c → Last design a c
last_of design a c (one f) = record { before = a; way = inl refl; last = f }
last_of design a c (more {b = b} f s) =
    let l : Last design b c = last_of design b c s in
    record { before = l.before; way = inr (elim l.way as (λ _. Steps design a l.before) [ inl e ↦ subst (λ v. Steps design a v) (sym e) (one f) | inr w ↦ more f w ]); last = l.last }

-- a cover on a loop: steps lead from its output to one of its inputs
record OnLoop (design : Design) : Type 0 where
  pub at : CoverAt
  pub cover : Cover
  pub input : Name
  pub is_cover : IsCoverAt design at cover
  pub has_input : Contains cover.ins input
  pub start : Net
  pub end : Net
  pub way : Steps design start end
  pub writes : Joined design (net_at at.place cover.out) start
  pub reads : Joined design end (net_at at.place input)

cover_at : (design : Design) (a b : Net) (f : Feeds design a b) → (at : CoverAt) × IsCoverAt design at f.cover × (at.place ≡ f.place)
cover_at design a b f = let (n, g) = got_from f.model.covers f.cover (in_from f.model.covers f.cover f.has_cover) in (record { place = f.place; number = n }, record { model = f.model; has_model = f.has_model; has_cover = g }, refl)

record Before (design : Design) (l : OnLoop design) : Type 0 where
  pub before : OnLoop design
  pub joins : Joined design (net_at before.at.place before.cover.out) (net_at l.at.place l.input)

-- the cover before it on the loop
before_of : (design : Design) (l : OnLoop design) → Before design l
before_of design l =
    let b : Last design l.start l.end = last_of design l.start l.end l.way in
    let (at, is_at, same) = cover_at design b.before l.end b.last in
    let itself_step : Feeds design l.end l.start = record {
      place = l.at.place;
      model = l.is_cover.model;
      cover = l.cover;
      input = l.input;
      has_model = l.is_cover.has_model;
      has_cover = contains_from l.is_cover.model.covers l.cover (in_got l.is_cover.model.covers l.at.number l.cover l.is_cover.has_cover);
      has_input = l.has_input;
      reads = l.reads;
      writes = l.writes;
    } in
    record {
      before = record {
        at = at;
        cover = b.last.cover;
        input = b.last.input;
        is_cover = is_at;
        has_input = b.last.has_input;
        start = l.end;
        end = b.before;
        way = elim b.way as (λ _. Steps design l.end b.before) [ inl e ↦ subst (λ v. Steps design l.end v) (sym e) (one itself_step) | inr w ↦ more itself_step w ];
        writes = subst (λ p. Joined design (net_at p b.last.cover.out) l.end) (sym same) b.last.writes;
        reads = subst (λ p. Joined design b.before (net_at p b.last.input)) (sym same) b.last.reads;
      };
      joins = followed (subst (λ p. Joined design (net_at p b.last.cover.out) l.end) (sym same) b.last.writes) l.reads;
    }

pub split_at : (xs : List CoverAt) (x : CoverAt) → In x xs → (front : List CoverAt) × (back : List CoverAt) × (xs ≡ front ++ x ∷ back)
split_at [] x i = absurd i
split_at (y ∷ ys) x (inl e) = ([], ys, ap (λ v. v ∷ ys) (sym e))
split_at (y ∷ ys) x (inr i) = let (f, b, e) = split_at ys x i in (y ∷ f, b, ap (λ l. y ∷ l) e)

descend : (fuel : ℕ) (design : Design) (order : List CoverAt) → IsCoverOrder design order → (l : OnLoop design) (front back : List CoverAt) → order ≡ front ++ l.at ∷ back → length front < fuel → ⊥
descend zero design order o l front back e less = absurd (omega arith)
descend (suc fuel) design order o l front back e less =
    let b : Before design l = before_of design l in
    let there : In b.before.at front = in_from front b.before.at (o.after front back l.at b.before.at l.cover b.before.cover l.input e l.is_cover l.has_input b.before.is_cover b.joins) in
    let (f, g, same) = split_at front b.before.at there in
    let shorter : length f < length front = (let long : length front ≡ length f + length (b.before.at ∷ g) = ap length same ∙ length-append f (b.before.at ∷ g) in let some : length (b.before.at ∷ g) ≡ suc (length g) = refl in omega arith) in
    descend fuel design order o b.before f (g ++ l.at ∷ back) (e ∙ ap (λ v. v ++ l.at ∷ back) same ∙ append_assoc f (b.before.at ∷ g) (l.at ∷ back)) (omega arith)

pub no_loop : OrderedHaveNoLoop
no_loop design order o [] loop = loop
no_loop design order o (net ∷ nets) loop =
    let whole : Steps design net net = steps design net nets net loop in
    let b : Last design net net = last_of design net net whole in
    let (at, is_at, same) = cover_at design b.before net b.last in
    let l : OnLoop design = record {
      at = at;
      cover = b.last.cover;
      input = b.last.input;
      is_cover = is_at;
      has_input = b.last.has_input;
      start = net;
      end = b.before;
      way = elim b.way as (λ _. Steps design net b.before) [ inl e ↦ subst (λ v. Steps design net v) (sym e) whole | inr w ↦ w ];
      writes = subst (λ p. Joined design (net_at p b.last.cover.out) net) (sym same) b.last.writes;
      reads = subst (λ p. Joined design b.before (net_at p b.last.input)) (sym same) b.last.reads;
    } in
    let (front, back, e) = split_at order at (in_from order at (o.all at b.last.cover is_at)) in
    descend (suc (length front)) design order o l front back e (omega arith)
