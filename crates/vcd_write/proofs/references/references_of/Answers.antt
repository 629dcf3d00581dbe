use Rattle.std.proofs.Common.{◌++◌, sym, subst, ◌∙◌, ap, map, List, All, refl}
use Rattle.std.proofs.lemmas.List.{nil_from_length}
use Rattle.std.proofs.lemmas.List.Elements.{All-nil}
use Rattle.pattern_reading.specs.declared.ports.NetLine.{NetLine}
use Rattle.vcd_write.specs.NetWaves.{IsByteName, nets_in, reference_of}
use Rattle.vcd_write.proofs.FirstBits.{no_nets}
use Rattle.vcd_write.proofs.Named.{references_in_next}
use Rattle.vcd_write.proofs.references.references_of.Goals as goal

pub returns-then-len-eq0-clause-references : goal.returns-then-len-eq0-clause-references
returns-then-len-eq0-clause-references c =
    let nets = c.args.ports.now.nets in
    let none = nil_from_length nets (sym c.len.ensures ∙ c.if-len-eq0.true) in
    c.of.ensures ∙ c.new-references.ensures.items ∙ sym (ap (map (reference_of c.args.ports.now.c)) (no_nets nets 0 c.args.ports.now.c none))

pub returns-then-len-eq0-clause-bytes : goal.returns-then-len-eq0-clause-bytes
returns-then-len-eq0-clause-bytes c =
    let nets = c.args.ports.now.nets in
    let none = nil_from_length nets (sym c.len.ensures ∙ c.if-len-eq0.true) in
    subst (All (λ net. IsByteName net.name)) (sym none) (All-nil (λ (net : NetLine). IsByteName net.name))

pub loop-context-init : goal.loop-context-init
loop-context-init c = record { references = c.new-references.ensures.items; bytes = λ some. absurd (some refl) }

pub loop-context-preserved : goal.loop-context-preserved
loop-context-preserved c =
    let nets = c.args.ports.now.nets in
    record {
      references = references_in_next c.args.ports.now.c nets c.loop-context.context c.loop-context.references.items c.push_context.new.references.items c.loop-context.invariant.references
          (c.in_ok-push_context.ensures.references ∙ ap (λ (nets : List NetLine). c.loop-context.references.items ++ map (reference_of c.args.ports.now.c) (nets_in c.loop-context.context nets)) c.as_slice.ensures);
      bytes = λ some. subst (All (λ net. IsByteName net.name)) c.as_slice.ensures c.in_ok-push_context.ensures.bytes;
    }
