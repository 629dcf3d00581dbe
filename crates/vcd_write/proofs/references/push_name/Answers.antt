use Rattle.std.proofs.Common.{◌≡◌, sym, ◌∙◌, ap, subst, ℕ, ◌++◌, get_or, arith}
use Rattle.std.proofs.lemmas.List.{get_or_default, append-nil, take_all}
use Rattle.vcd_write.specs.References.{escaped_reference}
use Rattle.vcd_write.specs.NetWaves.{IsByteName}
use Rattle.vcd_write.proofs.Named.{bytes_more, escaped_more}
use Rattle.vcd_write.proofs.references.push_name.Goals as goal

pub loop-byte-init : goal.loop-byte-init
loop-byte-init c = record { text = sym (append-nil c.args.text.now.items); bytes = λ k d low. absurd (omega (arith, low)) }

pub loop-byte-preserved : goal.loop-byte-preserved
loop-byte-preserved c =
    let name = c.args.name.now in
    let i = c.loop-byte.byte-index in
    let byte : ℕ = get_or name i 0 in
    let is : byte ≡ get_or name i byte = get_or_default name i 0 byte c.loop-byte-test.true in
    record {
      text = escaped_more name i byte c.loop-byte-test.true is c.args.text.now.items c.loop-byte.text.items c.push_byte.new.text.items c.loop-byte.invariant.text c.in_ok-push_byte.ensures.text;
      bytes = bytes_more name i byte c.loop-byte-test.true is c.push_byte.ensures.small c.loop-byte.invariant.bytes;
    }

pub returns : goal.returns
returns c =
    let all = take_all c.loop-byte.byte-index c.args.name.now c.loop-byte-test.false in
    record {
      text = c.loop-byte.invariant.text ∙ ap (λ name. c.args.text.now.items ++ escaped_reference name) all;
      bytes = subst IsByteName all c.loop-byte.invariant.bytes;
    }
