use Rattle.std.proofs.Common.{◌≡◌, ◌≤◌, ◌<◌, refl, sym, ap, ap₂, subst, ◌∙◌, length, take, drop, false, ℕ, List, All}
use Rattle.std.specs.List.{find}
use Rattle.std.proofs.lemmas.List.{length-replicate, get_or-replicate}
use Rattle.ww_rule.specs.declared.pattern.Injection.{Injection}
use Rattle.ww_rule.specs.Due.{due_count}
use Rattle.ww_rule.specs.Grid.{plane_of}
use Rattle.ww_rule.specs.Injections.{due_of_list}
use Rattle.ww_rule.proofs.Due.{all_left, left_after}
use Rattle.band_core.specs.Bands.{BandedPattern, bands_in}
use Rattle.drive.specs.Misses.{misses}
use Rattle.drive.specs.Runs.{IsBandRun}
use Rattle.drive.proofs.FirstMisses.{due_now, first_at_zero}
use Rattle.drive.proofs.run.Run.begin.Goals as goal

pub first_on_pattern-missed-requires : goal.first_on_pattern-missed-requires
first_on_pattern-missed-requires c =
    let items = c.args.injections.items in
    let count : c.due_count-next_injection.result ≡ due_count 0 items = c.due_count-next_injection.ensures.count ∙ ap (due_count 0) c.deref.ensures.value in
    subst (All (λ (i : Injection). i.generation ≡ 0)) (sym (ap₂ (λ (n : ℕ) (is : List Injection). take n is) count c.deref-2.ensures.value)) (due_now 0 items)

pub returns-clause-run : goal.returns-clause-run
returns-clause-run c =
    let pattern = c.args.pattern in
    let items = c.args.injections.items in
    let next = c.due_count-next_injection.result in
    let missed = c.first_on_pattern-missed.result in
    let many = bands_in (length pattern.rows) c.band_rows-band_rows.result in
    let begun = c.in_ok-bands.ensures in
    let due = due_of_list items in
    let plane = plane_of pattern.rows in
    let count : next ≡ due_count 0 items = c.due_count-next_injection.ensures.count ∙ ap (due_count 0) c.deref.ensures.value in
    subst (λ (bands : BandedPattern). IsBandRun (record { bands = bands; band_rows = c.band_rows-band_rows.result; orientation = c.args.orientation; width = pattern.width; rows = c.len-rows.result; next_injection = next; missed = missed; generation = 0; is_still = false })) (sym begun)
    (record {
      whole = record {
        grid = pattern.in_rows;
        inside = c.requires.inside;
        in_order = c.requires.in_order;
        height = c.band_rows-band_rows.ensures;
        many = length-replicate many 0;
      };
      at = λ b lt. get_or-replicate many b 0 0 (subst (λ (n : ℕ). b < n) (length-replicate many 0) lt);
      height = refl;
      width = refl;
      rows = c.len-rows.ensures.count;
      next = subst (λ (is : List Injection). next ≤ length is) c.deref.ensures.value c.due_count-next_injection.ensures.within;
      left = left_after 0 items items (all_left items c.requires.in_order) (drop next items) (ap (λ (n : ℕ). drop n items) count);
      missed =
          c.first_on_pattern-missed.ensures due
          ∙ ap₂ (λ (n : ℕ) (is : List Injection). find (misses due plane) (take n is)) count c.deref-2.ensures.value
          ∙ sym (first_at_zero due plane items c.requires.in_order);
      still = λ e g le. cc;
      no_more = λ e g le. cc;
    })
