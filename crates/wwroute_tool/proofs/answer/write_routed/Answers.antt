use Rattle.std.proofs.Common.{◌≡◌, ℕ, ◌++◌, List, refl, sym, ap, subst, ◌∙◌}
use Rattle.std.specs.Io.KnownBytes.{Appends}
use Rattle.std.proofs.KnownBytes.{Appends-trans}
use Rattle.std.proofs.lemmas.Result.{err_from_is_err_and, on_ok_weaker, on_err_weaker}
use Rattle.ww_rule.specs.Patterns.{grid_of}
use Rattle.pattern_writing.specs.WrittenText.{pattern_text}
use Rattle.lists.proofs.Results.{on_err}
use Rattle.ww_base.proofs.Steps.{both_err, broke_as, broke_cause, broke_piece, front_of, wrote_as, wrote_broke}
use Rattle.wwroute_tool.proofs.answer.write_routed.Goals as goal

pub returns-in_err-write_all : goal.returns-in_err-write_all
returns-in_err-write_all g c =
    let routed = c.args.routed.now in
    let text : List ℕ = pattern_text (grid_of routed.pattern) routed.ports in
    let same : routed.lines ++ text ≡ c.as_slice.result.now ++ text = ap (λ (l : List ℕ). l ++ text) (sym c.as_slice.ensures) in
    let broke = broke_as same (broke_piece c.as_slice.result.now text c.in_err-write_all.ensures.front c.in_err-write_all.ensures.cause.failed) in
    record {
      ok = rw (err_from_is_err_and c.from_residual.result c.from_residual.ensures.1).1 tt;
      front = on_err _ (front_of broke);
      cause = broke_cause _ _ c.from_residual.ensures.1 broke;
    }

pub returns : goal.returns
returns g c =
    let routed = c.args.routed.now in
    let text : List ℕ = pattern_text (grid_of routed.pattern) routed.ports in
    let same : routed.lines ++ text ≡ c.as_slice.result.now ++ text = ap (λ (l : List ℕ). l ++ text) (sym c.as_slice.ensures) in
    let taken = c.in_ok-write_all.ensures.ok in
    let kept = c.in_ok-write_all.ensures.cause.kept in
    let wrote = wrote_as same (record { text = c.as_slice.result.now; taken = taken; joined = refl; kept = kept }) in
    let broke = both_err c.write_pattern.result (λ front rose. wrote_broke wrote (record { count = front.0; taken = front.1; rose = rose }))
    c.write_pattern.ensures.front c.write_pattern.ensures.cause.failed in
    record {
      ok = on_ok_weaker c.write_pattern.result (λ last. subst (Appends _ _) (sym same) (Appends-trans _ _ _ _ text taken last)) c.write_pattern.ensures.ok;
      front = on_err_weaker c.write_pattern.result front_of broke;
      cause = record {
        kept = on_ok_weaker c.write_pattern.result (λ rest. rest ∙ kept) c.write_pattern.ensures.cause.kept;
        failed = on_err_weaker c.write_pattern.result (λ cut. cut.rose) broke;
      };
    }
