-- The names of the ports of what `compile` writes are good, but for a `\` at the end.
use Rattle.std.proofs.Common.{ℕ, ◌≡◌, ◌≢◌, ◌<◌, ◌≤◌, ◌==◌, refl, sym, ap, ap₂, ◌∙◌, subst, inl, inr, Bool, true, false, ◌||◌, List, [], ◌∷◌, ◌++◌, length, arith}
use Rattle.std.specs.Prelude.{Option, Some, None, option_map, option_to_list, unwrap_or}
use Rattle.std.specs.Bool.{then_some}
use Rattle.std.specs.List.{list_any}
use Rattle.std.specs.Str.{bytes_eq}
use Rattle.std.proofs.lemmas.Bool.{or_parts}
use Rattle.std.proofs.lemmas.Bool.Decides.{nat_tests}
use Rattle.std.proofs.lemmas.List.Folds.{list_any-append}
use Rattle.std.proofs.lemmas.Slice.Eq.{bytes_eq-Decides}
use Rattle.lists.proofs.Appends.{append_nil_left as none_left, append_nil_right as none_right}
use Rattle.lists.proofs.Bools.{or_false_right as second_of}
use Rattle.lists.proofs.Members.{In, in_got, in_left, in_map, in_mapped}
use Rattle.pattern_reading.specs.declared.ports.PortLine.{PortLine}
use Rattle.pattern_reading.specs.declared.ports.Ports.{Ports}
use Rattle.pattern_reading.specs.Ports.{names_of}
use Rattle.tile_match.specs.Names.{has_bad_name, is_bad_name, is_bad_port, is_break, shares_name}
use Rattle.netlist_core.specs.declared.model.Design.{Design}
use Rattle.netlist_core.specs.declared.model.Model.{Model}
use Rattle.netlist_core.specs.declared.model.Port.{Port}
use Rattle.netlist_core.specs.Names.{Name}
use Rattle.netlist_meaning.specs.Nets.{WithoutControl, net_at}
use Rattle.netlist_meaning.specs.Nets.WithoutControl.{none, kept, left_out}
use Rattle.netlist_meaning.specs.Places.{main_inputs, main_model, main_ports}
use Rattle.netlist_rules.specs.declared.fault.FaultKind.TheVariants.{DuplicatePort}
use Rattle.netlist_rules.specs.ModelFaults.{AreFaultless, doubles_after, duplicate_ports, is_input_by_then, is_output_before}
use Rattle.netlist_rules.specs.Drivers.{same_name_before, same_name_up_to, stands_earlier}
use Rattle.netlist_rules.proofs.Faultless.{none_kept}
use Rattle.flat_designs.proofs.Faultless.{clean_of}
use Rattle.flat_designs.proofs.Local.{not_any, not_before, not_up_to}
use Rattle.flat_designs.proofs.Sound.{main_net}
use Rattle.flat_designs.proofs.Names.{input_name, output_name}
use Rattle.blif_text.specs.Faults.{IsDesignOf}
use Rattle.blif_text.specs.LogicalLines.{is_hash, is_newline, is_space}
use Rattle.netlist_plans.specs.TextNames.{IsNameWord, NetsAreWords}
use Rattle.carries.specs.Carries.{NamesPorts}
use Rattle.program_laws.specs.LiftsBack.{CompiledNamesAreGood, ends_with_backslash, has_backslash}

-- ---- a name that is a word

no_break : (b : ℕ) → is_space b ≡ false → is_newline b ≡ false → is_hash b ≡ false → is_break b ≡ false
no_break b space newline hash = by (is_break b) refl
  where
    by : (t : Bool) → is_break b ≡ t → is_break b ≡ false
    by false e = e
    by true e = grind (arith, nat_tests, space, newline, hash, e)

no_breaks : (name : List ℕ) → list_any is_space name ≡ false → list_any is_newline name ≡ false → list_any is_hash name ≡ false → list_any is_break name ≡ false
no_breaks [] space newline hash = refl
no_breaks (b ∷ name) space newline hash =
    let s = or_parts (is_space b) (list_any is_space name) space in
    let n = or_parts (is_newline b) (list_any is_newline name) newline in
    let h = or_parts (is_hash b) (list_any is_hash name) hash in
    ap₂ (λ x y. x || y) (no_break b s.0 n.0 h.0) (no_breaks name s.1 n.1 h.1)

not_empty : (name : List ℕ) → name ≢ [] → (length name == 0) ≡ false
not_empty [] some = absurd (some refl)
not_empty (b ∷ name) some = grind (arith, nat_tests)

good_name : (name : Name) → IsNameWord name → is_bad_name name ≡ ends_with_backslash name
good_name name w =
    ap₂ (λ empty breaks. empty || breaks || ends_with_backslash name) (not_empty name w.some) (no_breaks name w.plain w.one_line w.no_comment)

-- ---- no input is an output

none_doubles : (test : Port → Bool) (before ports : List Port) (p : Port) → doubles_after test before ports ≡ [] → In p ports → test p ≡ false
none_doubles test before [] p e i = absurd i
none_doubles test before (x ∷ xs) p e (inl same) =
    ap test same ∙ second_of (stands_earlier before x xs) (test x) (none_kept (stands_earlier before x xs || test x) x (none_left (option_to_list (then_some (stands_earlier before x xs || test x) x)) (doubles_after test (x ∷ before) xs) e))
none_doubles test before (x ∷ xs) p e (inr later) = none_doubles test (x ∷ before) xs p (none_right (option_to_list (then_some (stands_earlier before x xs || test x) x)) (doubles_after test (x ∷ before) xs) e) later

-- the rules on inputs and on outputs ask for each that the other stands on an earlier line
input_or_output : (m : Model) (p q : Port) → duplicate_ports m ≡ [] → In p m.ins → In q m.outs → p.name ≡ q.name → ⊥
input_or_output m p q e i o same =
    let front : doubles_after (is_output_before m) [] m.ins ++ doubles_after (is_output_before m) [] m.clocks ≡ [] = none_left _ (doubles_after (is_input_by_then m) [] m.outs) e in
    let back : doubles_after (is_input_by_then m) [] m.outs ≡ [] = none_right (doubles_after (is_output_before m) [] m.ins ++ doubles_after (is_output_before m) [] m.clocks) _ e in
    let less : q.line < p.line = not_up_to q p (not_any (same_name_up_to q) (m.ins ++ m.clocks) p (none_doubles (is_input_by_then m) [] m.outs q back o) (in_left m.ins m.clocks p i)) same in
    let not_out : is_output_before m p ≡ false = none_doubles (is_output_before m) [] m.ins p (none_left _ (doubles_after (is_output_before m) [] m.clocks) front) i in
    let more : p.line ≤ q.line = not_before p q (not_any (same_name_before p) m.outs q not_out o) (sym same) in
    absurd (omega (arith, less, more))

main_apart : (design : Design) → AreFaultless design.models → (p q : Port) → In p (main_ports (λ (m : Model). m.ins) design) → In q (main_ports (λ (m : Model). m.outs) design) → p.name ≡ q.name → ⊥
main_apart design faultless p q = by (main_model design) refl
  where
    by : (o : Option Model) → main_model design ≡ o → In p (unwrap_or (option_map (λ (m : Model). m.ins) o) []) → In q (unwrap_or (option_map (λ (m : Model). m.outs) o) []) → p.name ≡ q.name → ⊥
    by None e i o = absurd i
    by (Some m) e i o = input_or_output m p q (clean_of design.models faultless DuplicatePort m (in_got design.models 0 m e)) i o

-- ---- a table

kept_in : (design : Design) (names rest : List Name) (name : Name) → WithoutControl design names rest → In name rest → In name names
kept_in design [] rest name none i = absurd i
kept_in design (first ∷ names) rest name (kept {rest = others} h k) (inl same) = inl same
kept_in design (first ∷ names) rest name (kept {rest = others} h k) (inr i) = inr (kept_in design names others name k i)
kept_in design (first ∷ names) rest name (left_out h k) i = inr (kept_in design names rest name k i)

same_any : (ports : List PortLine) → ((p : PortLine) → In p ports → is_bad_name p.name ≡ ends_with_backslash p.name) → list_any is_bad_port ports ≡ list_any ends_with_backslash (names_of ports)
same_any [] h = refl
same_any (p ∷ ports) h = ap₂ (λ x y. x || y) (h p (inl refl)) (same_any ports (λ q i. h q (inr i)))

none_passes : {X : Type 0} (test : X → Bool) (xs : List X) → ((x : X) → In x xs → test x ≡ false) → list_any test xs ≡ false
none_passes test [] h = refl
none_passes test (x ∷ xs) h = ap₂ (λ a b. a || b) (h x (inl refl)) (none_passes test xs (λ y i. h y (inr i)))

without_last : (a b : Bool) → (a || b || false) ≡ (a || b)
without_last true b = refl
without_last false true = refl
without_last false false = refl

module _ (words : NetsAreWords) (text : List ℕ) (design : Design) (of_text : IsDesignOf text design) (ports : Ports) (named : NamesPorts ports design) where
  -- a name of an IN line is that of a main input, and one of an OUT line that of a main output
  input : (line : PortLine) → In line ports.ins → (p : Port) × In p (main_ports (λ (m : Model). m.ins) design) × (line.name ≡ p.name)
  input line i =
      in_mapped (λ (p : Port). p.name) (main_ports (λ (m : Model). m.ins) design) line.name
      (kept_in design (main_inputs design) (names_of ports.ins) line.name named.ins (in_map (λ (l : PortLine). l.name) ports.ins line i))

  output : (line : PortLine) → In line ports.outs → (p : Port) × In p (main_ports (λ (m : Model). m.outs) design) × (line.name ≡ p.name)
  output line i =
      in_mapped (λ (p : Port). p.name) (main_ports (λ (m : Model). m.outs) design) line.name
      (subst (In line.name) named.outs (in_map (λ (l : PortLine). l.name) ports.outs line i))

  good_input : (line : PortLine) → In line ports.ins → is_bad_name line.name ≡ ends_with_backslash line.name
  good_input line i =
      let (p, j, same) = input line i in
      good_name line.name (subst IsNameWord (sym same) (words text design of_text (net_at [] p.name) (main_net design (λ (m : Model). m.ins) input_name p j)))

  good_output : (line : PortLine) → In line ports.outs → is_bad_name line.name ≡ ends_with_backslash line.name
  good_output line i =
      let (p, j, same) = output line i in
      good_name line.name (subst IsNameWord (sym same) (words text design of_text (net_at [] p.name) (main_net design (λ (m : Model). m.outs) output_name p j)))

  -- so no IN line has the name of an OUT line
  unshared : (line : PortLine) → In line ports.ins → shares_name ports.outs line ≡ false
  unshared line i = none_passes (λ (out : PortLine). bytes_eq out.name line.name) ports.outs (λ out j. by (bytes_eq out.name line.name) out j refl)
    where
      by : (b : Bool) (out : PortLine) → In out ports.outs → bytes_eq out.name line.name ≡ b → bytes_eq out.name line.name ≡ false
      by false out j e = e
      by true out j e =
          let (p, k, of_in) = input line i in
          let (q, l, of_out) = output out j in
          absurd (main_apart design of_text.faultless p q k l (sym of_in ∙ sym ((bytes_eq-Decides out.name line.name).0 e) ∙ of_out))

  pub good_names : has_bad_name ports ≡ has_backslash ports
  good_names =
      ap₂ (λ a b. a || b || list_any (shares_name ports.outs) ports.ins) (same_any ports.ins good_input) (same_any ports.outs good_output)
      ∙ ap (λ c. list_any ends_with_backslash (names_of ports.ins) || list_any ends_with_backslash (names_of ports.outs) || c) (none_passes (shares_name ports.outs) ports.ins unshared)
      ∙ without_last (list_any ends_with_backslash (names_of ports.ins)) (list_any ends_with_backslash (names_of ports.outs))
      ∙ sym (list_any-append ends_with_backslash (names_of ports.ins) (names_of ports.outs))

pub compiled_names_are_good : NetsAreWords → CompiledNamesAreGood
compiled_names_are_good words contexts starts netlist text compiled width height ports table =
    let k = compiled.carries in
    let same : k.ports ≡ ports = k.spells.table.ports_is ∙ sym table.ports_is in
    subst (λ (p : Ports). has_bad_name p ≡ has_backslash p) same
    (good_names words netlist compiled.design compiled.has.netlist.is.design_of k.ports k.names)
