use Rattle.std.proofs.Common.{◌∙◌, sym, subst, ap, not, ◌&&◌, ◌++◌, ◌∷◌, [], List, Option, Some, None, Bor, length, get_or, nat_lt, arith, ℕ}
use Rattle.std.specs.Prelude.{is_some, slice_set}
use Rattle.std.proofs.lemmas.List.{with_items_is}
use Rattle.aiger_text.specs.declared.section.SymbolKind.TheVariants.{Input, Latch, Output}
use Rattle.aiger_text.specs.Symbols.{is_same_kind}
use Rattle.aiger_reader.specs.Known.{KnowsNamesOfKind, symbol_of}
use Rattle.aiger_reader.proofs.SymbolTables.{IsPutAt, other_kind, put_here, taken}
use Rattle.aiger_reader.proofs.symbols.NameTables.put.Goals as goal

pub returns-in-Input-clause-taken : goal.returns-in-Input-clause-taken
returns-in-Input-clause-taken c counts before k =
    c.put_name.ensures.free
    ∙ ap (λ (t : List (Option (Bor (List ℕ)))). nat_lt c.args.symbol.place (length t) && not (is_some (get_or t c.args.symbol.place None))) c.deref_mut.ensures.value
    ∙ taken Input c.args.self.now.inputs.items counts before c.args.symbol k.inputs k.many_inputs c.in-Input.is

pub returns-in-Input-clause-known : goal.returns-in-Input-clause-known
returns-in-Input-clause-known c counts before k is_put =
    let table = c.args.self.now.inputs.items in
    let put = c.put_name.ensures.put is_put ∙ ap (λ (t : List (Option (Bor (List ℕ)))). slice_set t c.args.symbol.place (Some c.args.symbol.name)) c.deref_mut.ensures.value in
    let free =
    sym (ap (λ (t : List (Option (Bor (List ℕ)))). nat_lt c.args.symbol.place (length t) && not (is_some (get_or t c.args.symbol.place None))) c.deref_mut.ensures.value)
    ∙ sym c.put_name.ensures.free ∙ is_put in
    let here : IsPutAt Input table c.put_name.new.table before c.args.symbol =
    put_here Input table c.put_name.new.table before c.args.symbol k.inputs (ap (is_same_kind Input) c.in-Input.is) free put in
    let is = with_items_is c.args.self.now.inputs c.put_name.new.table (omega (arith, here.many)) in
    record {
      many_inputs = ap length is ∙ here.many ∙ k.many_inputs;
      many_latches = k.many_latches;
      many_outputs = k.many_outputs;
      inputs = subst (λ (t : List (Option (Bor (List ℕ)))). KnowsNamesOfKind Input t (before ++ symbol_of c.args.symbol ∷ [])) (sym is) here.knows;
      latches = other_kind Latch c.args.self.now.latches.items before (symbol_of c.args.symbol) (ap (is_same_kind Latch) c.in-Input.is) k.latches;
      outputs = other_kind Output c.args.self.now.outputs.items before (symbol_of c.args.symbol) (ap (is_same_kind Output) c.in-Input.is) k.outputs;
    }

pub returns-in-Latch-clause-taken : goal.returns-in-Latch-clause-taken
returns-in-Latch-clause-taken c counts before k =
    c.put_name-in-Latch.ensures.free
    ∙ ap (λ (t : List (Option (Bor (List ℕ)))). nat_lt c.args.symbol.place (length t) && not (is_some (get_or t c.args.symbol.place None))) c.deref_mut-in-Latch.ensures.value
    ∙ taken Latch c.args.self.now.latches.items counts before c.args.symbol k.latches k.many_latches c.in-Latch.is

pub returns-in-Latch-clause-known : goal.returns-in-Latch-clause-known
returns-in-Latch-clause-known c counts before k is_put =
    let table = c.args.self.now.latches.items in
    let put = c.put_name-in-Latch.ensures.put is_put ∙ ap (λ (t : List (Option (Bor (List ℕ)))). slice_set t c.args.symbol.place (Some c.args.symbol.name)) c.deref_mut-in-Latch.ensures.value in
    let free =
    sym (ap (λ (t : List (Option (Bor (List ℕ)))). nat_lt c.args.symbol.place (length t) && not (is_some (get_or t c.args.symbol.place None))) c.deref_mut-in-Latch.ensures.value)
    ∙ sym c.put_name-in-Latch.ensures.free ∙ is_put in
    let here : IsPutAt Latch table c.put_name-in-Latch.new.table before c.args.symbol =
    put_here Latch table c.put_name-in-Latch.new.table before c.args.symbol k.latches (ap (is_same_kind Latch) c.in-Latch.is) free put in
    let is = with_items_is c.args.self.now.latches c.put_name-in-Latch.new.table (omega (arith, here.many)) in
    record {
      many_inputs = k.many_inputs;
      many_latches = ap length is ∙ here.many ∙ k.many_latches;
      many_outputs = k.many_outputs;
      inputs = other_kind Input c.args.self.now.inputs.items before (symbol_of c.args.symbol) (ap (is_same_kind Input) c.in-Latch.is) k.inputs;
      latches = subst (λ (t : List (Option (Bor (List ℕ)))). KnowsNamesOfKind Latch t (before ++ symbol_of c.args.symbol ∷ [])) (sym is) here.knows;
      outputs = other_kind Output c.args.self.now.outputs.items before (symbol_of c.args.symbol) (ap (is_same_kind Output) c.in-Latch.is) k.outputs;
    }

pub returns-in-Output-clause-taken : goal.returns-in-Output-clause-taken
returns-in-Output-clause-taken c counts before k =
    c.put_name-in-Output.ensures.free
    ∙ ap (λ (t : List (Option (Bor (List ℕ)))). nat_lt c.args.symbol.place (length t) && not (is_some (get_or t c.args.symbol.place None))) c.deref_mut-in-Output.ensures.value
    ∙ taken Output c.args.self.now.outputs.items counts before c.args.symbol k.outputs k.many_outputs c.in-Output.is

pub returns-in-Output-clause-known : goal.returns-in-Output-clause-known
returns-in-Output-clause-known c counts before k is_put =
    let table = c.args.self.now.outputs.items in
    let put = c.put_name-in-Output.ensures.put is_put ∙ ap (λ (t : List (Option (Bor (List ℕ)))). slice_set t c.args.symbol.place (Some c.args.symbol.name)) c.deref_mut-in-Output.ensures.value in
    let free =
    sym (ap (λ (t : List (Option (Bor (List ℕ)))). nat_lt c.args.symbol.place (length t) && not (is_some (get_or t c.args.symbol.place None))) c.deref_mut-in-Output.ensures.value)
    ∙ sym c.put_name-in-Output.ensures.free ∙ is_put in
    let here : IsPutAt Output table c.put_name-in-Output.new.table before c.args.symbol =
    put_here Output table c.put_name-in-Output.new.table before c.args.symbol k.outputs (ap (is_same_kind Output) c.in-Output.is) free put in
    let is = with_items_is c.args.self.now.outputs c.put_name-in-Output.new.table (omega (arith, here.many)) in
    record {
      many_inputs = k.many_inputs;
      many_latches = k.many_latches;
      many_outputs = ap length is ∙ here.many ∙ k.many_outputs;
      inputs = other_kind Input c.args.self.now.inputs.items before (symbol_of c.args.symbol) (ap (is_same_kind Input) c.in-Output.is) k.inputs;
      latches = other_kind Latch c.args.self.now.latches.items before (symbol_of c.args.symbol) (ap (is_same_kind Latch) c.in-Output.is) k.latches;
      outputs = subst (λ (t : List (Option (Bor (List ℕ)))). KnowsNamesOfKind Output t (before ++ symbol_of c.args.symbol ∷ [])) (sym is) here.knows;
    }
