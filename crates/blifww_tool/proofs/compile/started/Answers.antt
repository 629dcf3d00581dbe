use Rattle.std.proofs.Common.{◌≡◌, ◌∙◌, ◌≤◌, ◌/◌, refl, subst, sym, arith, ℕ, map, length, string_bytes}
use Rattle.std.proofs.lemmas.List.{length-map}
use Rattle.std.proofs.lemmas.Result.{err_from_is_err_and}
use Rattle.netlist_plans.specs.Contexts.{loop_starting_bits, IsPaddedFor}
use Rattle.netlist_plans.proofs.Compiled.{planned_ports, planned_table}
use Rattle.blifww_tool.specs.Compilation.{HasNoRoom}
use Rattle.flat_designs.proofs.Whole.{flat_is_named, flat_is_one}
use Rattle.plan_ports.specs.Tables.{IsTableOf}
use Rattle.netlist_text.proofs.SoundParts.{sound, weighed, small}
use Rattle.plan_carries.proofs.Designs.{designs_are_carried_in_contexts}
use Rattle.plan_carries.proofs.SeenNets.{places_fit}
use Rattle.blifww_tool.proofs.Compiled.{alone, compilable, compiles, compiles_plain, drawn_in_one, long_starts, many_starts, not_alone, room_refused}
use Rattle.flat_designs.proofs.Sound.{flat_is_sound}
use Rattle.flat_designs.proofs.Weights.{flat_is_weighed}
use Rattle.carries.proofs.OneContext.{one_context_carries, one_context_carries_nets}
use Rattle.start_words.proofs.Started.{no_words_mean_start, starts_are_flat}
use Rattle.lift_carries.proofs.Drawings.{compiled_are_drawings}
use Rattle.lift_carries.proofs.Starts.{one_context_is_circuit}
use Rattle.blifww_tool.proofs.compile.started.Goals as goal

pub period-limit-requires : goal.period-limit-requires
period-limit-requires c = c.requires.planned.is.admissible

pub returns-then-contexts-limit-clause-refused : goal.returns-then-contexts-limit-clause-refused
returns-then-contexts-limit-clause-refused c = λ text has.
    let words = map string_bytes c.args.words.now in
    let flat = c.args.netlist.now.flat in
    let own = planned_table flat c.args.plan c.requires.planned in
    let is : own.0.p ≡ c.period-limit.result = own.1.period ∙ sym c.period-limit.ensures in (
      refl,
      subst (λ (p : ℕ). HasNoRoom c.args.contexts words text (p / 32)) is
          (room_refused c.args.contexts words text c.args.netlist.now.design flat c.args.plan own.0 has c.requires.parts.is_flat (c.requires.carried own.0 own.1) (omega (arith, is, c.if-contexts-limit.true))),
    )

pub of_plan-requires-clause-in_range : goal.of_plan-requires-clause-in_range
of_plan-requires-clause-in_range c = (sound c.args.netlist.now.design c.args.netlist.now.flat _ c.requires.parts flat_is_sound).in_range

pub of_plan-requires-clause-admissible : goal.of_plan-requires-clause-admissible
of_plan-requires-clause-admissible c = c.requires.planned.is.admissible

pub of_plan-requires-clause-ports : goal.of_plan-requires-clause-ports
of_plan-requires-clause-ports c = planned_ports c.args.netlist.now.flat c.args.plan c.requires.planned

pub returns-in_err-ports-clause-refused : goal.returns-in_err-ports-clause-refused
returns-in_err-ports-clause-refused c =
    let p = err_from_is_err_and c.from_residual.result c.from_residual.ensures.1 in
    rw (p.1, p.2) (λ text has. tt)

pub returns-then-is_alone-clause-printed : goal.returns-then-is_alone-clause-printed
returns-then-is_alone-clause-printed c = λ text has.
    let ports = c.in_ok-ports.ports in
    let table = c.in_ok-ports.ensures in
    let room : c.args.contexts ≤ ports.p / 32 = omega (arith, table.period, c.period-limit.ensures, c.if-contexts-limit.false) in
    compiles_plain one_context_carries one_context_carries_nets no_words_mean_start c.args.contexts (map string_bytes c.args.words.now)
    (alone string_bytes c.args.contexts c.args.words.now (sym c.is_alone.ensures ∙ c.if-is_alone.true)) text c.args.netlist.now.design c.args.netlist.now.flat _ c.args.plan ports has c.requires.parts (c.requires.carried ports table) room

pub returns-in_err-bits-clause-refused : goal.returns-in_err-bits-clause-refused
returns-in_err-bits-clause-refused c =
    let p = err_from_is_err_and c.from_residual-in_err-bits.result c.from_residual-in_err-bits.ensures.1 in
    rw (p.1, p.2) (λ text has. tt)

pub returns-in_err-started-clause-refused : goal.returns-in_err-started-clause-refused
returns-in_err-started-clause-refused c =
    let p = err_from_is_err_and c.from_residual-in_err-started.result c.from_residual-in_err-started.ensures.1 in
    rw (p.1, p.2) (λ text has. tt)

pub plan_contexts-made-requires-clause-compilable : goal.plan_contexts-made-requires-clause-compilable
plan_contexts-made-requires-clause-compilable c =
    (c.args.netlist.now.order.nodes, compilable c.args.netlist.now.design c.args.netlist.now.flat _ c.requires.parts c.requires.names)

pub plan_contexts-made-requires-clause-weighed : goal.plan_contexts-made-requires-clause-weighed
plan_contexts-made-requires-clause-weighed c = weighed c.args.netlist.now.design c.args.netlist.now.flat _ c.requires.parts flat_is_weighed

pub plan_contexts-made-requires-clause-small : goal.plan_contexts-made-requires-clause-small
plan_contexts-made-requires-clause-small c = small c.args.netlist.now.design c.args.netlist.now.flat _ c.requires.parts

pub plan_contexts-made-requires-clause-planned : goal.plan_contexts-made-requires-clause-planned
plan_contexts-made-requires-clause-planned c = c.requires.planned

pub plan_contexts-made-requires-clause-starts : goal.plan_contexts-made-requires-clause-starts
plan_contexts-made-requires-clause-starts c =
    let flat = c.args.netlist.now.flat in
    let words = map string_bytes c.args.words.now in
    let bits = c.as_slice.ensures ∙ c.in_ok-bits.ensures words c.requires.set in
    let many = many_starts flat words c.args.contexts c.as_slice.result.now bits in
    record {
      some = omega (arith, many, c.requires.some);
      fit = omega (arith, many, c.period-limit.ensures, c.if-contexts-limit.false);
      long = long_starts flat words c.args.contexts c.as_slice.result.now bits;
    }

pub returns-clause-printed : goal.returns-clause-printed
returns-clause-printed c = λ text has.
    let words = map string_bytes c.args.words.now in
    let flat = c.args.netlist.now.flat in
    let contexts = c.args.contexts in
    let base = c.args.plan in
    let own = planned_table flat base c.requires.planned in
    let plan = c.in_ok-started.started.plan in
    let ports = c.in_ok-started.started.ports in
    let p = c.in_ok-started.ensures in
    let room : contexts ≤ own.0.p / 32 = omega (arith, own.1.period, c.period-limit.ensures, c.if-contexts-limit.false) in
    let bits = c.as_slice.ensures ∙ c.in_ok-bits.ensures words c.requires.set in
    let many : length c.as_slice.result.now ≡ contexts = many_starts flat words contexts c.as_slice.result.now bits in
    compiles flat_is_one designs_are_carried_in_contexts starts_are_flat contexts words text c.args.netlist.now.design flat _ base own.0 plan ports c.as_slice.result.now has
    c.requires.parts (c.requires.carried own.0 own.1) room (not_alone string_bytes contexts c.args.words.now (sym c.is_alone.ensures ∙ c.if-is_alone.false)) p.admissible p.edges
    (subst (λ (n : ℕ). IsPaddedFor n base plan) many p.padded) bits p.starts
    (subst (λ (n : ℕ). IsTableOf flat plan n ports) many p.table) p.places
    p.carries
    (λ one. drawn_in_one one_context_is_circuit compiled_are_drawings flat plan ports
    (sound c.args.netlist.now.design c.args.netlist.now.flat _ c.requires.parts flat_is_sound)
    (flat_is_named c.args.netlist.now.design c.args.netlist.now.flat c.requires.parts.faultless c.requires.parts.is_flat) c.requires.names
    (places_fit c.args.netlist.now.design c.args.netlist.now.flat c.requires.parts.faultless
    (omega (arith, small c.args.netlist.now.design c.args.netlist.now.flat _ c.requires.parts, c.requires.parts.is_flat.weight)) c.requires.parts.is_flat)
    p.admissible p.bare p.edges _ p.starts (length-map c.as_slice.result.now (loop_starting_bits base) ∙ many ∙ one) (subst (λ (n : ℕ). IsTableOf flat plan n ports) (many ∙ one) p.table))
