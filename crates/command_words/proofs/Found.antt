-- What clap has found for the last words, as the rows of its matches.
use Rattle.std.proofs.Common.{◌≡◌, refl, ap, ◌∙◌, List, [], Some, None, Option, codes, map, option_map, unwrap_or, Bor}
use Rattle.clap.specs.Matches.{matched_of, raw_values}
use Rattle.clap.specs.Walk.{Text, rows_of}
use Rattle.clap.specs.declared.parser.matches.Found.{Found}
use Rattle.clap.proofs.WalkLemmas.{raw_values-rows}
use Rattle.command_words.specs.Shapes.{streams_met}

-- the texts of the last words, of which there may be none
pub streams_found : (f : Found) (o : Option (Bor (List (Bor Text)))) (d r : Bor (List (Bor Text))) → r ≡ unwrap_or o d → d.now ≡ []
    → option_map (λ s. map (λ v. v.now) s.now) o ≡ option_map raw_values (matched_of f (codes "streams"))
    → map (λ v. v.now) r.now ≡ streams_met (rows_of f)
streams_found f o d r is none e = ap (λ (s : Bor (List (Bor Text))). map (λ v. v.now) s.now) is ∙ go o ∙ ap (λ (p : Option (List Text)). unwrap_or p []) (e ∙ raw_values-rows f (codes "streams"))
  where
    go : (o : Option (Bor (List (Bor Text)))) → map (λ v. v.now) (unwrap_or o d).now ≡ unwrap_or (option_map (λ s. map (λ v. v.now) s.now) o) []
    go (Some s) = refl
    go None = ap (map (λ v. v.now)) none
