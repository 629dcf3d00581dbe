use Rattle.std.specs.Prelude.{flat_map}
use Rattle.std.proofs.Common.{true, ◌==◌, ◌*◌, ◌++◌, sym, ap, ap₂, All, ◌<◌, ◌∙◌, map, take, drop, length, List, Bool, ◌≡◌, ℕ, [], subst, arith}
use Rattle.std.specs.List.{range_with_len}
use Rattle.std.proofs.lemmas.Bool.{eqb-true}
use Rattle.std.proofs.lemmas.List.{length-map}
use Rattle.ww_rule.specs.declared.pattern.Injection.{Injection}
use Rattle.ww_rule.specs.Injections.{injections_from}
use Rattle.pattern_reading.specs.declared.ports.PortLine.{PortLine}
use Rattle.pattern_reading.specs.Ports.{cells_of}
use Rattle.streams.specs.Rows.{bits_across}
use Rattle.ww_rule.specs.Due.{AreInOrderFrom}
use Rattle.ww_rule.specs.Injections.{due_of_list}
use Rattle.drive.proofs.ContextBits.{list_is_due}
use Rattle.drive.proofs.CycleRows.{cycle_rows_are}
use Rattle.drive.proofs.Ranges.{pieces_more}
use Rattle.drive.proofs.Streamed.{at_cycle, injections_in_order, none_injected}
use Rattle.drive.specs.Driving.{injections_of}
use Rattle.pattern_reading.specs.declared.ports.Ports.{Ports}
use Rattle.streams.specs.declared.streams.Streams.{Streams}
use Rattle.drive.proofs.driving.injections.Goals as goal

none_listed : (ports : Ports) (streams : Streams) (inputs : List PortLine) (items : List Injection) (b : Bool) → items ≡ [] → inputs ≡ ports.ins → b ≡ (length inputs == 0) → b ≡ true → items ≡ injections_of ports streams
none_listed ports streams inputs items b empty lent is e = empty ∙ sym (none_injected ports streams (ap length (sym lent) ∙ eqb-true (length inputs) 0 (sym is ∙ e)))

pub returns-then-is_empty : goal.returns-then-is_empty
returns-then-is_empty c =
    let ports = c.args.ports.now in
    let streams = c.args.streams.now in
    let list = none_listed ports streams c.as_slice-inputs.result.now c.new-due.result.items c.is_empty.result c.new-due.ensures.items c.as_slice-inputs.ensures c.is_empty.ensures c.if-is_empty.true in
    record {
      list = list;
      due = ap due_of_list list ∙ list_is_due ports streams;
      sorted = subst (AreInOrderFrom 0) (sym list) (injections_in_order ports streams c.requires);
    }

pub loop-cycle-init : goal.loop-cycle-init
loop-cycle-init c = c.new-due.ensures.items

pub bits_across-requires : goal.bits_across-requires
bits_across-requires c =
    let early = c.loop-cycle-test.true in
    subst (All (λ (bits : List Bool). c.loop-cycle.cycle < length bits)) (sym c.as_slice.ensures)
    (λ i d lt. let long = c.requires.long i d lt in omega (arith, early, long))

pub push_cycle-requires-clause-many : goal.push_cycle-requires-clause-many
push_cycle-requires-clause-many c =
    let streams = c.args.streams.now in
    ap length (c.deref.ensures.value ∙ c.in_ok-bits.ensures {u = tt})
    ∙ length-map c.as_slice.result.now _
    ∙ ap length c.as_slice.ensures
    ∙ c.requires.many
    ∙ ap (λ (inputs : List PortLine). c.args.ports.now.c * length inputs) (sym c.as_slice-inputs.ensures)

pub loop-cycle-preserved : goal.loop-cycle-preserved
loop-cycle-preserved c =
    let ports = c.args.ports.now in
    let streams = c.args.streams.now in
    let t = c.loop-cycle.cycle in
    let bits = bits_across streams.bits t in
    let pieces = λ (inputs : List PortLine) (bits : List Bool). map (λ context. take (length inputs) (drop (context * length inputs) bits)) (range_with_len 0 ports.c) in
    c.in_ok-push_cycle.ensures
    ∙ ap₂ (λ (inputs : List PortLine) (bits : List Bool). c.loop-cycle.due.items ++ injections_from (t * ports.p) 32 (cells_of inputs) (pieces inputs bits))
    c.as_slice-inputs.ensures (c.deref.ensures.value ∙ c.in_ok-bits.ensures ∙ ap (λ (lists : List (List Bool)). bits_across lists t) c.as_slice.ensures)
    ∙ ap (λ (rows : List (List Bool)). c.loop-cycle.due.items ++ injections_from (t * ports.p) 32 (cells_of ports.ins) rows) (sym (cycle_rows_are ports streams c.requires t c.loop-cycle-test.true))
    ∙ ap (λ (due : List Injection). due ++ at_cycle ports streams t) c.loop-cycle.invariant
    ∙ sym (pieces_more (at_cycle ports streams) t)

-- after the last cycle
all_listed : (ports : Ports) (streams : Streams) (items : List Injection) (cycle : ℕ) → items ≡ flat_map (at_cycle ports streams) (range_with_len 0 cycle) → cycle ≡ streams.cycles → items ≡ injections_of ports streams
all_listed ports streams items cycle is all = is ∙ ap (λ n. flat_map (at_cycle ports streams) (range_with_len 0 n)) all

pub returns : goal.returns
returns c =
    let ports = c.args.ports.now in
    let streams = c.args.streams.now in
    let far = c.loop-cycle-test.false in
    let near = c.loop-cycle.auto.cycle-end in
    let list = all_listed ports streams c.loop-cycle.due.items c.loop-cycle.cycle c.loop-cycle.invariant (omega (arith, far, near)) in
    record {
      list = list;
      due = ap due_of_list list ∙ list_is_due ports streams;
      sorted = subst (AreInOrderFrom 0) (sym list) (injections_in_order ports streams c.requires);
    }
