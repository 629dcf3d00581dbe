use Rattle.std.proofs.Common.{ℕ, ◌≡◌, sym, None, [], get_or, arith}
use Rattle.lists.proofs.Fills.{filled_whole}
use Rattle.model_index.specs.Numbers.{number_placed}
use Rattle.model_index.proofs.Naming.{no_model}
use Rattle.model_index.proofs.links.links_of.Goals as goal

pub returns : goal.returns
returns c = record {
  long = (let long = c.loop-n.invariant.0 in omega (arith, long, c.loop-n-test.false, c.loop-n.auto.n-end));
  each = filled_whole (λ n numbers. (k : ℕ) → get_or numbers k None ≡ number_placed c.args.models.now n k) [] c.loop-n.n c.loop-n.links.items c.loop-n.invariant
      (λ n l k. sym (no_model c.args.models.now n k (omega (arith, l, c.loop-n-test.false))));
}
