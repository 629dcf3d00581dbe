-- Each gate reads nets before its own, so no gates read each other in a circle.
use Rattle.std.proofs.Common.{◌≡◌, ◌≢◌, refl, sym, ap, ◌∙◌, subst, ℕ, zero, suc, ◌+◌, ◌*◌, ◌<◌, ◌≤◌, inl, inr, List, [], ◌∷◌, map, arith, true≢false}
use Rattle.std.specs.List.{range_with_len}
use Rattle.std.proofs.lemmas.Slice.Eq.{bytes_eq-Decides}
use Rattle.netlist_core.specs.declared.model.Cover.{Cover}
use Rattle.netlist_core.specs.declared.model.Model.{Model}
use Rattle.netlist_core.specs.Names.{Name}
use Rattle.netlist_meaning.specs.Nets.{Net, net_at}
use Rattle.netlist_meaning.specs.Loop.{Feeds, FeedsThrough, IsCombinationalLoop}
use Rattle.netlist_meaning.proofs.SingleModel.{model_at-flat, joined-flat}
use Rattle.lists.proofs.Members.{In, in_from}
use Rattle.made_netlists.specs.declared.gate.GateKind.{GateKind}
use Rattle.made_netlists.specs.declared.gate.GateKind.TheVariants.{And, Or, Xor, Nand}
use Rattle.made_netlists.specs.declared.gate.Gate.{Gate}
use Rattle.made_netlists.specs.Draws.{draw_after}
use Rattle.made_netlists.specs.Text.{drawn_gate, net_name, net_of_gate}
use Rattle.made_netlists.specs.Design.{covers_from, gate_cover, line_after, made_design, made_model}
use Rattle.made_netlists.proofs.Names.{names_apart}
use Rattle.made_netlists.proofs.Read.{draw_below}
use Rattle.made_summary.proofs.Clocks.{is_flat}

-- a cover of the net n reads only nets before it
record ReadsBefore (n : ℕ) (cover : Cover) : Type 0 where
  pub out : cover.out ≡ net_name n
  pub ins : (input : Name) → In input cover.ins → (r : ℕ) × (r < n) × (input ≡ net_name r)

one_of_two : (n a b : ℕ) → a < n → b < n → (input : Name) → In input (net_name a ∷ net_name b ∷ []) → (r : ℕ) × (r < n) × (input ≡ net_name r)
one_of_two n a b h i input (inl e) = (a, h, e)
one_of_two n a b h i input (inr (inl e)) = (b, i, e)
one_of_two n a b h i input (inr (inr e)) = absurd e

gate_reads : (k : GateKind) (line a b n : ℕ) → a < n → b < n → ReadsBefore n (gate_cover k line (net_name a) (net_name b) (net_name n))
gate_reads And line a b n h i = record { out = refl; ins = one_of_two n a b h i }
gate_reads Or line a b n h i = record { out = refl; ins = one_of_two n a b h i }
gate_reads Xor line a b n h i = record { out = refl; ins = one_of_two n a b h i }
gate_reads Nand line a b n h i = record { out = refl; ins = one_of_two n a b h i }

covers_read : (seed k j line : ℕ) (cover : Cover) → In cover (covers_from line (map (drawn_gate seed) (range_with_len j k))) → (n : ℕ) × (n < 6 + j + k) × ReadsBefore n cover
covers_read seed zero j line cover i = absurd i
covers_read seed (suc k) j line cover (inl e) =
    let g : Gate = drawn_gate seed j in
    let a : draw_after seed (3 * j + 1) (net_of_gate j) < 6 + j = draw_below seed (3 * j + 1) (net_of_gate j) (omega arith) in
    let b : draw_after seed (3 * j + 2) (net_of_gate j) < 6 + j = draw_below seed (3 * j + 2) (net_of_gate j) (omega arith) in
    (6 + j, omega arith, subst (ReadsBefore (6 + j)) (sym e) (gate_reads g.kind line g.first g.second (6 + j) a b))
covers_read seed (suc k) j line cover (inr i) =
    let (n, below, reads) = covers_read seed k (j + 1) (line_after (drawn_gate seed j).kind line) cover i in
    (n, omega (arith, below), reads)

-- the net of a number
record IsNumbered (net : Net) (n : ℕ) : Type 0 where
  pub is : net ≡ net_at [] (net_name n)
  pub below : n < 134

record AreRising (a b : Net) : Type 0 where
  pub from : ℕ
  pub to : ℕ
  pub starts : IsNumbered a from
  pub ends : IsNumbered b to
  pub rises : from < to

step : (seed size : ℕ) → size ≤ 128 → (a b : Net) → Feeds (made_design seed size) a b → AreRising a b
step seed size few a b f =
    let flat = is_flat seed size in
    let (is_top, is_main) = model_at-flat (made_design seed size) (made_model seed size) flat f.place f.model f.has_model in
    let there : In f.cover (made_model seed size).covers = subst (λ (m : Model). In f.cover m.covers) is_main (in_from f.model.covers f.cover f.has_cover) in
    let (n, below, reads) = covers_read seed size 0 6 f.cover there in
    let (r, before, is_read) = reads.ins f.input (in_from f.cover.ins f.input f.has_input) in
    record {
      from = r;
      to = n;
      starts = record {
        is = joined-flat (made_design seed size) (made_model seed size) flat f.reads ∙ ap (λ p. net_at p f.input) is_top ∙ ap (net_at []) is_read;
        below = omega (arith, below, before, few);
      };
      ends = record {
        is = sym (joined-flat (made_design seed size) (made_model seed size) flat f.writes) ∙ ap (λ p. net_at p f.cover.out) is_top ∙ ap (net_at []) reads.out;
        below = omega (arith, below, few);
      };
      rises = before;
    }

-- a net has one number
one_number : (net : Net) (m n : ℕ) → IsNumbered net m → IsNumbered net n → m ≢ n → ⊥
one_number net m n a b ne =
    let same : net_name m ≡ net_name n = ap (λ (v : Net). v.name) (sym a.is ∙ b.is) in
    true≢false (sym ((bytes_eq-Decides (net_name m) (net_name n)).1 same) ∙ names_apart m n a.below b.below ne)

not_less : (net : Net) (m n : ℕ) → IsNumbered net m → IsNumbered net n → m < n → ⊥
not_less net m n a b h = one_number net m n a b (λ e. absurd (omega (arith, e, h)))

steps : (seed size : ℕ) → size ≤ 128 → (a : Net) (nets : List Net) (b : Net) → FeedsThrough (made_design seed size) a nets b → AreRising a b
steps seed size few a [] b f = step seed size few a b f
steps seed size few a (net ∷ nets) b (f, g) =
    let here = step seed size few a net f in
    let later = steps seed size few net nets b g in
    let not_before : later.from < here.to → ⊥ = not_less net later.from here.to later.starts here.ends in
    let joins : here.to ≤ later.from = omega (arith, not_before) in
    record { from = here.from; to = later.to; starts = here.starts; ends = later.ends; rises = omega (arith, here.rises, later.rises, joins) }

pub no_loop : (seed size : ℕ) → size ≤ 128 → (nets : List Net) → ¬ IsCombinationalLoop (made_design seed size) nets
no_loop seed size few [] loop = loop
no_loop seed size few (net ∷ nets) loop = let r = steps seed size few net nets net loop in not_less net r.from r.to r.starts r.ends r.rises
