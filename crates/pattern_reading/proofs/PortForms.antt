-- The lines of a table make the table.
use Rattle.std.proofs.Common.{◌≡◌, refl, ap, ◌∙◌, List, [], ◌∷◌, ◌++◌, map}
use Rattle.std.specs.Prelude.{Option, Some, None, filter_map}
use Rattle.std.proofs.lemmas.List.{append-nil}
use Rattle.std.proofs.lemmas.List.Elements.{filter_map-append}
use Rattle.pattern_reading.specs.declared.ports.PortLine.{PortLine}
use Rattle.pattern_reading.specs.declared.ports.NetLine.{NetLine}
use Rattle.pattern_reading.specs.declared.ports.Ports.{Ports}
use Rattle.pattern_reading.specs.PortLines.{PortForm, In, Out, Net}
use Rattle.pattern_reading.specs.PortTable.{input_of, net_of, output_of}
use Rattle.pattern_reading.specs.Spelling.{HasItsForms}

module _ {X Y : Type 0} (of : PortForm → Option Y) (form : X → PortForm) where
  pub none_of : ((x : X) → of (form x) ≡ None) → (xs : List X) → filter_map of (map form xs) ≡ []
  none_of e [] = refl
  none_of e (x ∷ xs) = rw (e x, none_of e xs) refl

module _ {X : Type 0} (of : PortForm → Option X) (form : X → PortForm) where
  pub all_of : ((x : X) → of (form x) ≡ Some x) → (xs : List X) → filter_map of (map form xs) ≡ xs
  all_of e [] = refl
  all_of e (x ∷ xs) = rw (e x, all_of e xs) refl

three_kinds : {Y : Type 0} (of : PortForm → Option Y) (ins outs : List PortLine) (nets : List NetLine) → filter_map of (map In ins ++ map Out outs ++ map Net nets) ≡ filter_map of (map In ins) ++ filter_map of (map Out outs) ++ filter_map of (map Net nets)
three_kinds of ins outs nets =
    filter_map-append of (map In ins ++ map Out outs) (map Net nets)
    ∙ ap (λ l. l ++ filter_map of (map Net nets)) (filter_map-append of (map In ins) (map Out outs))

module _ (ins outs : List PortLine) (nets : List NetLine) where
  pub ins_are : filter_map input_of (map In ins ++ map Out outs ++ map Net nets) ≡ ins
  ins_are =
      three_kinds input_of ins outs nets
      ∙ rw (all_of input_of In (λ p. refl) ins, none_of input_of Out (λ p. refl) outs, none_of input_of Net (λ p. refl) nets) (append-nil (ins ++ []) ∙ append-nil ins)

  pub outs_are : filter_map output_of (map In ins ++ map Out outs ++ map Net nets) ≡ outs
  outs_are =
      three_kinds output_of ins outs nets
      ∙ rw (none_of output_of In (λ p. refl) ins, all_of output_of Out (λ p. refl) outs, none_of output_of Net (λ p. refl) nets) (append-nil outs)

  pub nets_are : filter_map net_of (map In ins ++ map Out outs ++ map Net nets) ≡ nets
  nets_are =
      three_kinds net_of ins outs nets
      ∙ rw (none_of net_of In (λ p. refl) ins, none_of net_of Out (λ p. refl) outs, all_of net_of Net (λ p. refl) nets) refl

pub its_forms : (ports : Ports) → HasItsForms ports
its_forms ports = rw (ins_are ports.ins ports.outs ports.nets, outs_are ports.ins ports.outs ports.nets, nets_are ports.ins ports.outs ports.nets) refl
