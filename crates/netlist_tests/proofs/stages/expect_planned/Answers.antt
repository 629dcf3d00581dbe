use Rattle.std.proofs.Common.{arith}
use Rattle.flat_designs.proofs.Sound.{flat_is_sound}
use Rattle.flat_designs.proofs.Weights.{flat_is_weighed}
use Rattle.flat_designs.proofs.Whole.{flat_is_named}
use Rattle.netlist_text.proofs.SoundParts.{sound, weighed, small}
use Rattle.netlist_plans.proofs.Names.{texts_have_port_names}
use Rattle.plan_carries.proofs.SeenNets.{places_fit}
use Rattle.netlist_tests.proofs.stages.expect_planned.Goals as goal

pub plan_netlist-requires-clause-compilable : goal.plan_netlist-requires-clause-compilable
plan_netlist-requires-clause-compilable c =
    record {
      sound = sound c.args.netlist.now.design c.args.netlist.now.flat _ c.requires.parts flat_is_sound;
      ordered = c.requires.parts.is_order;
      named = flat_is_named c.args.netlist.now.design c.args.netlist.now.flat c.requires.parts.faultless c.requires.parts.is_flat;
      names = texts_have_port_names c.requires.of_text.0 c.args.netlist.now.design c.args.netlist.now.flat c.requires.of_text.1.is.design_of c.requires.parts.is_flat;
      places = places_fit c.args.netlist.now.design c.args.netlist.now.flat c.requires.parts.faultless (omega (arith, small c.args.netlist.now.design c.args.netlist.now.flat _ c.requires.parts, c.requires.parts.is_flat.weight)) c.requires.parts.is_flat;
    }

pub plan_netlist-requires-clause-weighed : goal.plan_netlist-requires-clause-weighed
plan_netlist-requires-clause-weighed c = weighed c.args.netlist.now.design c.args.netlist.now.flat _ c.requires.parts flat_is_weighed

pub plan_netlist-requires-clause-small : goal.plan_netlist-requires-clause-small
plan_netlist-requires-clause-small c = small c.args.netlist.now.design c.args.netlist.now.flat _ c.requires.parts
