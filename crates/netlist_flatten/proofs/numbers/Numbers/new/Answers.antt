use Rattle.std.proofs.Common.{◌<◌, sym, ap, subst, ◌∙◌, slice_get, length}
use Rattle.design_walks.specs.Places.{ArePlaces}
use Rattle.netlist_flatten.specs.Tables.{AreNames}
use Rattle.netlist_flatten.proofs.numbers.Numbers.new.Goals as goal

pub names_by_model-requires : goal.names_by_model-requires
names_by_model-requires c = subst (ArePlaces c.args.design.now) (sym c.as_slice.ensures) c.in_ok-placed.ensures

pub firsts_of-requires : goal.firsts_of-requires
firsts_of-requires c =
    let design = c.args.design.now in
    record {
      faultless = c.requires.faultless;
      few = c.requires.few;
      places = subst (ArePlaces design) (sym c.as_slice-2.ensures) c.in_ok-placed.ensures;
      names = subst (λ placed. AreNames design placed c.deref.result.now) (c.as_slice.ensures ∙ sym c.as_slice-2.ensures)
          (subst (AreNames design c.as_slice.result.now) (sym c.deref.ensures.value) c.in_ok-names.ensures);
    }

pub invariant_of-result : goal.invariant_of-result
invariant_of-result c =
    let design = c.args.design.now in
    let placed = c.in_ok-placed.placed in
    record {
      faultless = c.requires.faultless;
      few = c.requires.few;
      are_places = c.in_ok-placed.ensures;
      are_names = subst (AreNames design placed) (sym c.of.ensures)
          (subst (λ placed. AreNames design placed c.in_ok-names.names.items) c.as_slice.ensures c.in_ok-names.ensures);
      are_firsts = λ k lt. ap (λ firsts. slice_get firsts k) c.of-2.ensures ∙ c.in_ok-firsts.ensures k (subst (λ placed. k < length placed) (sym c.as_slice-2.ensures) lt);
    }
