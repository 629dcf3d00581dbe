use Rattle.std.proofs.Common.{◌≡◌, ◌∙◌, sym, ap, subst, List, Bool, length, map}
use Rattle.std.specs.Prelude.{All}
use Rattle.std.specs.List.{range_with_len}
use Rattle.streams.specs.Rows.{bits_across}
use Rattle.flat_designs.proofs.Sound.{flat_is_sound}
use Rattle.netlist_text.proofs.SoundParts.{sound}
use Rattle.netlist_run.proofs.Ran.{all_run, rows_are_long}
use Rattle.netlist_run.proofs.running.columns_in_run.Goals as goal

pub rows_in_run-requires : goal.rows_in_run-requires
rows_in_run-requires c = record {
  sound = sound c.requires.parts.0 c.args.flat.now _ c.requires.parts.1 flat_is_sound;
  ordered = c.requires.parts.1.is_order;
  many = c.requires.many;
  long = c.requires.long;
}

pub columns_of-requires : goal.columns_of-requires
columns_of-requires c =
    let design = c.requires.parts.0 in
    let flat = c.args.flat.now in
    let streams = c.args.streams.now in
    let parts = c.requires.parts.1 in
    let ran = c.in_ok-rows.ensures design _ parts in
    let long = rows_are_long design flat _ streams streams.cycles c.in_ok-rows.rows.items ran.0 parts ran.1 in
    let rows : All (λ row. length row ≡ c.len.result) c.in_ok-rows.rows.items = λ k d lt. long k d lt ∙ sym c.len.ensures in
    subst (λ (rs : List (List Bool)). All (λ row. length row ≡ c.len.result) rs) (sym c.deref.ensures.value) rows

pub returns : goal.returns
returns c = λ design parts.
    let flat = c.args.flat.now in
    let streams = c.args.streams.now in
    let rows = c.in_ok-rows.rows.items in
    let ran = c.in_ok-rows.ensures design _ parts in
    let columns : c.in_ok-columns_of.field-0 ≡ map (bits_across rows) (range_with_len 0 c.len.result) =
    c.in_ok-columns_of.ensures ∙ ap (λ (rs : List (List Bool)). map (bits_across rs) (range_with_len 0 c.len.result)) c.deref.ensures.value in
    all_run design flat _ streams rows c.in_ok-columns_of.field-0 ran.0 c.len.result parts ran.1 c.len.ensures columns
