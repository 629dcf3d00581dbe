use Rattle.std.proofs.Common.{ℕ, ◌+◌, ◌-◌, ◌*◌, min, ◌<◌, ◌≡◌, sym, ap, subst, ◌∙◌, List, length, get_or, slice_set}
use Rattle.std.proofs.lemmas.List.{length-set, map-set, get_or-map}
use Rattle.band_core.specs.declared.band.Band.{Band}
use Rattle.band_core.specs.Band.{IsBand, IsQuiet, ShowsBand, generations_of}
use Rattle.band_core.proofs.Putting.{put_one}
use Rattle.band_core.proofs.Resting.{rests, rest_shows}
use Rattle.band_core.proofs.moving.rest_band.Goals as goal

own : (bands : List Band) (b : ℕ) (d : Band) → b < length bands → (get_or bands b d).generation ≡ get_or (generations_of bands) b 0
own bands b d lt = sym (get_or-map (λ (band : Band). band.generation) bands b d 0 lt)

pub returns-clause-bands : goal.returns-clause-bands
returns-clause-bands c columns height rows are =
    let b = c.args.b in
    let bands = c.args.bands.now in
    let d = c.index-bands-b.result in
    let next = c.rest.new.self in
    let e = c.rest.ensures in
    let y = b * height in
    let m = min height (rows - y) in
    let is = are.each b d c.requires.band in
    record {
      many = length-set bands b next ∙ are.many;
      each = put_one (λ k band. IsBand columns (k * height) (min height (rows - k * height)) band) bands b next c.requires.band
          (rests columns y m (get_or bands b d) next e.field e.injections e.done is) are.each;
    }

pub returns-clause-generations : goal.returns-clause-generations
returns-clause-generations c =
    let b = c.args.b in
    let bands = c.args.bands.now in
    let next = c.rest.new.self in
    map-set (λ (band : Band). band.generation) bands b next ∙ ap (slice_set (generations_of bands) b) (c.rest.ensures.generation ∙ ap (λ n. n + 1) (own bands b c.index-bands-b.result c.requires.band))

pub returns-clause-shows : goal.returns-clause-shows
returns-clause-shows c e due width columns height rows evo are shows quiet =
    let b = c.args.b in
    let bands = c.args.bands.now in
    let d = c.index-bands-b.result in
    let next = c.rest.new.self in
    let r = c.rest.ensures in
    let y = b * height in
    let m = min height (rows - y) in
    let calm = subst (λ g. IsQuiet e due g y m) (sym (own bands b d c.requires.band)) quiet in
    put_one (λ k band. ShowsBand e due (k * height) (min height (rows - k * height)) band) bands b next c.requires.band
    (rest_shows e due width rows columns y m (get_or bands b d) next evo (are.each b d c.requires.band) (shows b d c.requires.band) calm (c.requires.none_due d) r.generation r.field r.injections r.done) shows
