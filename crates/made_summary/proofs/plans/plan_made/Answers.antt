use Rattle.std.proofs.Common.{ℕ, ◌<◌, ◌∙◌, sym, subst, List, arith}
use Rattle.std.proofs.lemmas.Result.{err_from_is_err_and}
use Rattle.netlist_text.specs.NetlistText.{IsNetlist}
use Rattle.made_netlists.specs.Design.{made_design}
use Rattle.flat_designs.proofs.Sound.{flat_is_sound}
use Rattle.flat_designs.proofs.Weights.{flat_is_weighed}
use Rattle.flat_designs.proofs.Whole.{flat_is_named}
use Rattle.netlist_text.proofs.Decided.{texts_are_decided}
use Rattle.netlist_text.proofs.SoundParts.{sound, weighed, small}
use Rattle.netlist_plans.proofs.Names.{texts_have_port_names}
use Rattle.plan_carries.proofs.Designs.{designs_are_carried}
use Rattle.plan_carries.proofs.SeenNets.{places_fit}
use Rattle.made_summary.proofs.Netlists.{are_netlists}
use Rattle.made_summary.proofs.Read.{written_plans_read}
use Rattle.made_summary.proofs.Sizes.{have_sizes}
use Rattle.made_summary.proofs.Summarized.{is_planned}
use Rattle.made_summary.proofs.plans.plan_made.Goals as goal

pub netlist_in-requires : goal.netlist_in-requires
netlist_in-requires c =
    let some : 0 < c.args.size = c.requires.some_gate in (
      made_design c.args.seed c.args.size,
      subst (λ (text : List ℕ). IsNetlist text (made_design c.args.seed c.args.size)) (sym (c.as_slice.ensures ∙ c.in_ok-made.ensures.text))
          (are_netlists c.args.seed c.args.size (omega (arith, some)) c.requires.few_gates),
    )

pub plan_netlist-requires-clause-compilable : goal.plan_netlist-requires-clause-compilable
plan_netlist-requires-clause-compilable c =
    record {
      sound = sound c.in_ok-netlist.netlist.design c.in_ok-netlist.netlist.flat _ c.in_ok-netlist.ensures.parts flat_is_sound;
      ordered = c.in_ok-netlist.ensures.parts.is_order;
      named = flat_is_named c.in_ok-netlist.netlist.design c.in_ok-netlist.netlist.flat c.in_ok-netlist.ensures.parts.faultless c.in_ok-netlist.ensures.parts.is_flat;
      names = texts_have_port_names _ c.in_ok-netlist.netlist.design c.in_ok-netlist.netlist.flat c.in_ok-netlist.ensures.netlist.is.design_of c.in_ok-netlist.ensures.parts.is_flat;
      places = places_fit c.in_ok-netlist.netlist.design c.in_ok-netlist.netlist.flat c.in_ok-netlist.ensures.parts.faultless (omega (arith, small c.in_ok-netlist.netlist.design c.in_ok-netlist.netlist.flat _ c.in_ok-netlist.ensures.parts, c.in_ok-netlist.ensures.parts.is_flat.weight)) c.in_ok-netlist.ensures.parts.is_flat;
    }

pub plan_netlist-requires-clause-weighed : goal.plan_netlist-requires-clause-weighed
plan_netlist-requires-clause-weighed c = weighed c.in_ok-netlist.netlist.design c.in_ok-netlist.netlist.flat _ c.in_ok-netlist.ensures.parts flat_is_weighed

pub plan_netlist-requires-clause-small : goal.plan_netlist-requires-clause-small
plan_netlist-requires-clause-small c = small c.in_ok-netlist.netlist.design c.in_ok-netlist.netlist.flat _ c.in_ok-netlist.ensures.parts

pub returns-clause-plan : goal.returns-clause-plan
returns-clause-plan c =
    let text = c.as_slice.ensures ∙ c.in_ok-made.ensures.text in
    is_planned designs_are_carried are_netlists have_sizes texts_are_decided written_plans_read c.args.seed c.args.size c.requires.some_gate c.requires.few_gates
    c.in_ok-netlist.netlist c.in-Ok.planned (subst (λ (t : List ℕ). IsNetlist t c.in_ok-netlist.netlist.design) text c.in_ok-netlist.ensures.netlist) c.in_ok-netlist.ensures.parts
    c.in-Ok.ensures.admissible c.in-Ok.ensures.bare c.in-Ok.ensures.table c.in-Ok.ensures.carries c.in-Ok.ensures.small

pub make-requires-clause-seed : goal.make-requires-clause-seed
make-requires-clause-seed c = c.requires.seed

pub make-requires-clause-some : goal.make-requires-clause-some
make-requires-clause-some c = c.requires.some_gate

pub make-requires-clause-few : goal.make-requires-clause-few
make-requires-clause-few c = c.requires.few_gates

pub returns-clause-state : goal.returns-clause-state
returns-clause-state c = c.in_ok-made.ensures.state

pub returns-clause-range : goal.returns-clause-range
returns-clause-range c = c.in_ok-made.ensures.range

pub returns-in_err-made-clause-plan : goal.returns-in_err-made-clause-plan
returns-in_err-made-clause-plan c = rw ((err_from_is_err_and c.from_residual.result c.from_residual.ensures.1).1) tt

pub returns-in_err-made-clause-state : goal.returns-in_err-made-clause-state
returns-in_err-made-clause-state c = rw ((err_from_is_err_and c.from_residual.result c.from_residual.ensures.1).1) tt

pub returns-in_err-made-clause-range : goal.returns-in_err-made-clause-range
returns-in_err-made-clause-range c = rw ((err_from_is_err_and c.from_residual.result c.from_residual.ensures.1).1) tt

pub returns-in_err-made-clause-refused : goal.returns-in_err-made-clause-refused
returns-in_err-made-clause-refused c =
    let p = err_from_is_err_and c.from_residual.result c.from_residual.ensures.1 in
    rw (p.1) p.2

pub returns-in_err-netlist-clause-plan : goal.returns-in_err-netlist-clause-plan
returns-in_err-netlist-clause-plan c = rw ((err_from_is_err_and c.from_residual-in_err-netlist.result c.from_residual-in_err-netlist.ensures.1).1) tt

pub returns-in_err-netlist-clause-state : goal.returns-in_err-netlist-clause-state
returns-in_err-netlist-clause-state c = rw ((err_from_is_err_and c.from_residual-in_err-netlist.result c.from_residual-in_err-netlist.ensures.1).1) tt

pub returns-in_err-netlist-clause-range : goal.returns-in_err-netlist-clause-range
returns-in_err-netlist-clause-range c = rw ((err_from_is_err_and c.from_residual-in_err-netlist.result c.from_residual-in_err-netlist.ensures.1).1) tt

pub returns-in_err-netlist-clause-refused : goal.returns-in_err-netlist-clause-refused
returns-in_err-netlist-clause-refused c =
    let p = err_from_is_err_and c.from_residual-in_err-netlist.result c.from_residual-in_err-netlist.ensures.1 in
    rw (p.1) p.2
