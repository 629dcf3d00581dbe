use Rattle.std.proofs.Common.{◌≡◌, ◌<◌, ◌+◌, sym, subst, ap, ◌∙◌, drop, length, inl, inr, List, ℕ}
use Rattle.std.specs.Prelude.{None, Some}
use Rattle.streams.specs.Streams.{IsMissing, bits_for, inputs_of_context, missing_fault, missing_inputs}
use Rattle.streams.specs.GivenBits.{AreBitsOf}
use Rattle.streams.specs.declared.error.StreamError.TheVariants.{Fault}
use Rattle.streams.proofs.Found.{found_more, is_missing, missing_more, streams_more}
use Rattle.streams.proofs.streams.push_context.Goals as goal

pub returns-in_default-clause-missing : goal.returns-in_default-clause-missing
returns-in_default-clause-missing c = λ words are.
    let contexts = c.args.contexts in
    let context = c.args.context in
    let names = c.args.names.now in
    let i = c.loop-name.name-index in
    let name = c.name-item.result in
    let lt : i < length names = c.loop-name-test.true in
    let none : bits_for contexts words (context, name) ≡ None = ap (λ (n : List ℕ). bits_for contexts words (context, n)) (sym c.as_slice.ensures) ∙ sym (c.in_default.ensures contexts words are) in
    let left = sym (c.loop-name.invariant.missing words are) ∙ missing_more contexts context words names i name lt c.name-item.is none in
    let is = is_missing contexts words (inputs_of_context context names) (missing_inputs contexts words (inputs_of_context context (drop (i + 1) names))) (context, name) left in
    elim c.missing.ensures [
      | inl e ↦ subst (IsMissing contexts words (inputs_of_context context names)) (sym e) tt
      | inr e ↦
          subst (IsMissing contexts words (inputs_of_context context names)) (sym e)
          (subst (λ (n : List ℕ). IsMissing contexts words (inputs_of_context context names) (Fault (missing_fault contexts (context, n)))) (sym c.as_slice-in_default.ensures) is)
    ]

pub loop-name-preserved : goal.loop-name-preserved
loop-name-preserved c =
    let contexts = c.args.contexts in
    let context = c.args.context in
    let names = c.args.names.now in
    let i = c.loop-name.name-index in
    let name = c.name-item.result in
    let lt : i < length names = c.loop-name-test.true in
    let some : (words : List (List ℕ)) → AreBitsOf contexts c.args.given.now words → bits_for contexts words (context, name) ≡ Some c.in-Some.bits.now = λ words are.
    ap (λ (n : List ℕ). bits_for contexts words (context, n)) (sym c.as_slice.ensures) ∙ sym (c.in-Some.ensures contexts words are) in
    record {
      streams = λ words are.
          streams_more contexts context words names i name c.in-Some.bits.now lt c.name-item.is (some words are) c.args.streams.now.items c.loop-name.streams.items c.of.result (c.loop-name.invariant.streams words are)
          (c.of.ensures ∙ c.in_ok-stream_in.ensures) c.in_ok-push.ensures.items;
      missing = λ words are. found_more contexts context words names i name c.in-Some.bits.now lt c.name-item.is (some words are) ∙ c.loop-name.invariant.missing words are;
    }
