-- Each gate reads gates before its own, and nobody reads an output, so no covers read each other in a circle.
use Rattle.std.proofs.Common.{◌≡◌, ◌≢◌, refl, sym, ◌∙◌, ap, subst, ⊎_elim, ℕ, ◌+◌, ◌<◌, ◌≤◌, ◌^◌, true, false, inl, inr, ◌⊎◌, List, [], ◌∷◌, ◌++◌, length, get_or, arith, true≢false}
use Rattle.std.specs.Prelude.{decimal}
use Rattle.std.proofs.lemmas.Bool.{ltb-true, cases_eq, or_parts}
use Rattle.lists.proofs.Members.{In, in_from, in_parts}
use Rattle.netlist_core.specs.declared.model.Cover.{Cover}
use Rattle.netlist_core.specs.declared.model.Model.{Model}
use Rattle.netlist_core.specs.Names.{Name}
use Rattle.netlist_meaning.specs.Nets.{Net, net_at}
use Rattle.netlist_meaning.specs.Loop.{Feeds, FeedsThrough, IsCombinationalLoop}
use Rattle.netlist_meaning.proofs.SingleModel.{model_at-flat, joined-flat}
use Rattle.cell_core.specs.declared.cells.Src.{Src}
use Rattle.cell_core.specs.declared.cells.Src.TheVariants.{Input, Latch, One, Zero, Cell as Made}
use Rattle.cell_core.specs.declared.cells.Cell.TheVariants.{Or}
use Rattle.cell_core.specs.declared.list.CellList.{CellList}
use Rattle.cell_core.specs.Sources.{is_there, is_one}
use Rattle.cell_core.specs.Loops.{names_one}
use Rattle.cell_core.proofs.OwnBits.{cell_in_order}
use Rattle.lifted_designs.specs.Names.{mark, gate_name, source_name}
use Rattle.lifted_designs.specs.Lifted.{first_of, second_of, cell_covers, line_past_cells, output_covers, lifted_model, lifted_design}
use Rattle.lifted_designs.specs.Runs.{ArePortNames}
use Rattle.lifted_designs.specs.NoLoop.{LiftedHaveNoLoop}
use Rattle.lifted_designs.proofs.Lifted.{plain_source, reads_parts, plain_parts, is_flat}
use Rattle.lifted_designs.proofs.Apart.{gates_apart, loop_gate, zero_gate}
use Rattle.lifted_designs.proofs.Runs.{IsCellCover, cell_cover_is, IsOutputCover, output_cover_is, plain_at, there_at, in_other, out_other}

module _ (list : CellList) (ins outs : List Name) (long : length ins ≡ list.inputs) (wide : length outs ≡ length list.outs) (plain : names_one list ≡ false)
    (own : ArePortNames ins outs) (few_cells : length list.cells < 2 ^ 64) (few_latches : length list.latches < 2 ^ 64) where
  abbrev p : List ℕ
  p = mark (ins ++ outs)

  abbrev IsGate : Net → ℕ → Type 0
  IsGate net k = (k < length list.cells) × (net ≡ net_at [] (gate_name (mark (ins ++ outs)) k))

  abbrev IsOutput : Net → ℕ → Type 0
  IsOutput net j = (j < length outs) × (net ≡ net_at [] (get_or outs j []))

  -- a name that is read: no output, and of gates only one before a number
  record IsReadBefore (end : ℕ) (name : Name) : Type 0 where
    pub no_output : (j : ℕ) → j < length outs → name ≢ get_or outs j []
    pub before : (k : ℕ) → k < length list.cells → name ≡ gate_name (mark (ins ++ outs)) k → k < end

  source_read : (made : ℕ) (src : Src) → made ≤ length list.cells → is_there list.inputs (length list.starts) made src ≡ true → is_one src ≡ false
      → IsReadBefore made (source_name (mark (ins ++ outs)) ins src)
  source_read made (Input i) fit there own' =
      let low : i < list.inputs = ltb-true i list.inputs there in
      record {
        no_output = λ j lt. own.apart i j (omega (arith, low, long)) lt;
        before = λ k lt e. absurd (in_other list ins outs long wide plain own few_cells few_latches 103 (decimal k) i refl (omega (arith, low, long)) e);
      }
  source_read made (Latch i) fit there own' = record {
    no_output = λ j lt e. out_other list ins outs long wide plain own few_cells few_latches 113 (decimal i) j refl lt (sym e);
    before = λ k lt e. absurd (loop_gate (mark (ins ++ outs)) i k e);
  }
  source_read made One fit there own' = absurd (true≢false own')
  source_read made Zero fit there own' = record {
    no_output = λ j lt e. out_other list ins outs long wide plain own few_cells few_latches 122 [] j refl lt (sym e);
    before = λ k lt e. absurd (zero_gate (mark (ins ++ outs)) k e);
  }
  source_read made (Made i) fit there own' =
      let low : i < made = ltb-true i made there in
      record {
        no_output = λ j lt e. out_other list ins outs long wide plain own few_cells few_latches 103 (decimal i) j refl lt (sym e);
        before = λ k lt e.
            ⊎_elim
            (λ (same : i ≡ k). omega (arith, low, same))
            (λ other. absurd (gates_apart (mark (ins ++ outs)) i k (omega (arith, low, fit, few_cells)) (omega (arith, lt, few_cells)) other e))
            (cases_eq i k);
      }

  -- what a cover with an input writes: a gate, or an output
  record IsWriter (lifted_cover : Cover) : Type 0 where
    pub end : ℕ
    pub reads : (input : Name) → In input lifted_cover.ins → IsReadBefore end input
    pub writes : ((end < length list.cells) × (lifted_cover.out ≡ gate_name (mark (ins ++ outs)) end)) ⊎ ((j : ℕ) × (j < length outs) × (lifted_cover.out ≡ get_or outs j []))

  cell_writes : (c : Cover) → IsCellCover (mark (ins ++ outs)) ins 0 list.cells c → IsWriter c
  cell_writes c i =
      let order = cell_in_order list.inputs (length list.starts) 0 list.cells i.k (Or Zero Zero) i.within list.in_order in
      let parts = reads_parts list.inputs (length list.starts) (0 + i.k) (get_or list.cells i.k (Or Zero Zero)) order in
      let own' = plain_parts (get_or list.cells i.k (Or Zero Zero)) (plain_source list (or_parts _ _ (or_parts _ _ (or_parts _ _ plain).0).0).0 i.k (Or Zero Zero) i.within) in
      let le : 0 + i.k ≤ length list.cells = omega (arith, i.within) in
      let first = source_read (0 + i.k) (first_of (get_or list.cells i.k (Or Zero Zero))) le parts.0 own'.0 in
      let second = source_read (0 + i.k) (second_of (get_or list.cells i.k (Or Zero Zero))) le parts.1 own'.1 in
      subst IsWriter (sym i.is) (record { end = 0 + i.k; reads = two first second; writes = inl (omega (arith, i.within), refl) })
    where
      two : {end : ℕ} {a b : Name} → IsReadBefore end a → IsReadBefore end b → (input : Name) → In input (a ∷ b ∷ []) → IsReadBefore end input
      two {end} {a} {b} first second input (inl e) = subst (IsReadBefore end) (sym e) first
      two {end} {a} {b} first second input (inr (inl e)) = subst (IsReadBefore end) (sym e) second
      two {end} {a} {b} first second input (inr (inr e)) = absurd e

  output_writes : (c : Cover) → IsOutputCover (mark (ins ++ outs)) ins outs list.outs c → IsWriter c
  output_writes c i =
      let there = there_at list.inputs (length list.starts) (length list.cells) list.outs i.k list.outs_there in
      let own' = plain_at list.outs i.k (or_parts _ _ (or_parts _ _ (or_parts _ _ plain).0).0).1 in
      let read = source_read (length list.cells) (get_or list.outs i.k Zero) (omega arith) there own' in
      subst IsWriter (sym i.is) (record { end = length list.cells; reads = one read; writes = inr (i.k, i.within, refl) })
    where
      one : {end : ℕ} {a : Name} → IsReadBefore end a → (input : Name) → In input (a ∷ []) → IsReadBefore end input
      one {end} {a} first input (inl e) = subst (IsReadBefore end) (sym e) first
      one {end} {a} first input (inr e) = absurd e

  -- the covers of the model but the first, which reads nothing
  writes_of : (c : Cover) → In c (lifted_model ins outs list).covers → (input : Name) → In input c.ins → IsWriter c
  writes_of c (inl e) input i = let none : In input [] = subst (λ (lifted_cover : Cover). In input lifted_cover.ins) e i in absurd none
  writes_of c (inr there) input i =
      ⊎_elim
      (λ cells. cell_writes c (cell_cover_is (mark (ins ++ outs)) ins (5 + length list.latches) 0 list.cells c cells))
      (λ outputs. output_writes c (output_cover_is (mark (ins ++ outs)) ins (line_past_cells (5 + length list.latches) list.cells) outs list.outs c outputs))
      (in_parts (cell_covers (mark (ins ++ outs)) ins (5 + length list.latches) 0 list.cells) (output_covers (mark (ins ++ outs)) ins (line_past_cells (5 + length list.latches) list.cells) outs list.outs) c there)

  -- from a net that is read to one that is written: to an output, or to a gate after each that the first may be
  record IsStep (a b : Net) : Type 0 where
    pub no_output : (j : ℕ) → IsOutput a j → ⊥
    pub to : ((k : ℕ) × IsGate b k × ((i : ℕ) → IsGate a i → i < k)) ⊎ ((j : ℕ) × IsOutput b j)

  name_of : Net → Name
  name_of net = net.name

  step : (a b : Net) → Feeds (lifted_design ins outs list) a b → IsStep a b
  step a b f =
      let flat = is_flat list ins outs long wide plain in
      let top = model_at-flat (lifted_design ins outs list) (lifted_model ins outs list) flat f.place f.model f.has_model in
      let there : In f.cover (lifted_model ins outs list).covers = subst (λ (m : Model). In f.cover m.covers) top.1 (in_from f.model.covers f.cover f.has_cover) in
      let input : In f.input f.cover.ins = in_from f.cover.ins f.input f.has_input in
      let w = writes_of f.cover there f.input input in
      let read : a ≡ net_at [] f.input = joined-flat (lifted_design ins outs list) (lifted_model ins outs list) flat f.reads ∙ ap (λ q. net_at q f.input) top.0 in
      let written : b ≡ net_at [] f.cover.out = sym (joined-flat (lifted_design ins outs list) (lifted_model ins outs list) flat f.writes) ∙ ap (λ q. net_at q f.cover.out) top.0 in
      let r = w.reads f.input input in
      record {
        no_output = λ j out. r.no_output j out.0 (ap (λ (n : Net). n.name) (sym read ∙ out.1));
        to = ⊎_elim
            (λ gate. inl (w.end, (gate.0, written ∙ ap (net_at []) gate.1), λ i own'. r.before i own'.0 (ap (λ (n : Net). n.name) (sym read ∙ own'.1))))
            (λ out. inr (out.0, (out.1, written ∙ ap (net_at []) out.2)))
            w.writes;
      }

  joined_steps : (a m b : Net) → IsStep a m → IsStep m b → IsStep a b
  joined_steps a m b first second = record {
    no_output = first.no_output;
    to = ⊎_elim
        (λ gate. ⊎_elim
        (λ later. inl (later.0, later.1, λ i own'. (let here : i < gate.0 = gate.2 i own' in let next : gate.0 < later.0 = later.2 gate.0 gate.1 in omega (arith, here, next))))
        (λ out. inr out)
        second.to)
        (λ out. absurd (second.no_output out.0 out.1))
        first.to;
  }

  steps : (a : Net) (nets : List Net) (b : Net) → FeedsThrough (lifted_design ins outs list) a nets b → IsStep a b
  steps a [] b f = step a b f
  steps a (net ∷ nets) b (f, g) = joined_steps a net b (step a net f) (steps net nets b g)

  no_circle : (a : Net) → IsStep a a → ⊥
  no_circle a s =
      ⊎_elim
      (λ gate. (let less : gate.0 < gate.0 = gate.2 gate.0 gate.1 in absurd (omega (arith, less))))
      (λ out. s.no_output out.0 out.1)
      s.to

  no_loop : (nets : List Net) → ¬ IsCombinationalLoop (lifted_design ins outs list) nets
  no_loop [] loop = loop
  no_loop (net ∷ nets) loop = no_circle net (steps net nets net loop)

pub lifted_have_no_loop : LiftedHaveNoLoop
lifted_have_no_loop list ins outs long wide plain own few_cells few_latches nets = no_loop list ins outs long wide plain own few_cells few_latches nets
