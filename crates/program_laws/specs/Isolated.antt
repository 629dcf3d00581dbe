-- Contexts do not see each other: what `simulate`, `probe` and `vcd` print of a context of a text
-- that carries a design depends on the bits that the words give this context, and on no others.
use Rattle.std.specs.Prelude.{ℕ, ◌≡◌, ◌<◌, ◌+◌, ◌*◌, Bool, List, [], ◌∷◌, length, flat_map, Some}
use Rattle.std.specs.List.{range_with_len}
use Rattle.netlist_core.specs.declared.model.Design.{Design}
use Rattle.netlist_core.specs.Names.{Name}
use Rattle.netlist_meaning.specs.Nets.{Net}
use Rattle.netlist_meaning.specs.Places.{main_outputs}
use Rattle.netlist_meaning.specs.Valuation.{LatchState}
use Rattle.netlist_text.specs.NetlistText.{IsNetlist}
use Rattle.carries.specs.DesignContexts.{CarriesContexts, CarriesNetsInContexts}
use Rattle.carries.specs.Nets.{AreSeenNets}
use Rattle.streams.specs.Streams.{bits_for}
use Rattle.vcd_write.specs.Reading.{VcdForm, ReadsAsVcd, last_time, value_at}
use Rattle.vcd_write.specs.Writing.{vcd_id}
use Rattle.command_words.specs.Shapes.{compile, simulate, probe, vcd}
use Rattle.blifww_tool.specs.Lines.{context_line}
use Rattle.blifww_tool.specs.Commands.{Prints}
use Rattle.program_laws.specs.DumpsNets.{HasVariables, net_references}

-- the words give the inputs of a context the same bits: words `c:name=bits`, or `name=bits` if there
-- is one context
abbrev pub AgreeOn : (contexts context : ℕ) → (words others : List (List ℕ)) → Type 0
AgreeOn contexts context words others =
    (name : Name) → bits_for contexts words (context, name) ≡ bits_for contexts others (context, name)

-- in each context a line for each of these names, with its bits: all lines of context 0 first
abbrev pub lines_of_names : (contexts : ℕ) → List Name → (ℕ → Name → List Bool) → List ℕ
lines_of_names contexts names bits =
    flat_map (λ context. flat_map (λ name. context_line contexts context name (bits context name))
    names) (range_with_len 0 contexts)

-- Two outputs are such lines, with a bit for each cycle, and the lines of one context are the same
-- in both.
pub record HaveSameLines (contexts cycles : ℕ) (names : List Name) (context : ℕ)
    (shown seen : List ℕ) : Type 0 where
  pub bits : ℕ → Name → List Bool
  pub others : ℕ → Name → List Bool
  pub many : (c : ℕ) (name : Name) → length (bits c name) ≡ cycles
  pub as_many : (c : ℕ) (name : Name) → length (others c name) ≡ cycles
  pub shown_is : shown ≡ lines_of_names contexts names bits
  pub seen_is : seen ≡ lines_of_names contexts names others
  pub same : bits context ≡ others context

-- of this text `simulate` prints the same lines of a context under words that agree on it, whatever
-- they give the other contexts
abbrev pub SimulatesApart : (text : List ℕ) → Design → (contexts : ℕ) → Type 0
SimulatesApart text design contexts =
    (cycles : ℕ) (words others : List (List ℕ)) (shown seen : List ℕ)
    → Prints (simulate cycles words) text shown → Prints (simulate cycles others) text seen
    → (context : ℕ) → context < contexts → AgreeOn contexts context words others
    → HaveSameLines contexts cycles (main_outputs design) context shown seen

-- so does `probe` with the line of a net
abbrev pub ProbesApart : (text : List ℕ) → (contexts : ℕ) → Type 0
ProbesApart text contexts =
    (cycles : ℕ) (name path : List ℕ) (words others : List (List ℕ)) (shown seen : List ℕ)
    → Prints (probe cycles name path words) text shown
    → Prints (probe cycles name path others) text seen
    → (context : ℕ) → context < contexts → AgreeOn contexts context words others
    → HaveSameLines contexts cycles (name ∷ []) context shown seen

-- Two outputs read as forms with the variables of these nets in each context, and in one context
-- both forms give each net the same bits, in so many cycles.
pub record HaveSameBits (contexts cycles : ℕ) (nets : List Net) (context : ℕ)
    (shown seen : List ℕ) : Type 0 where
  pub form : VcdForm
  pub other : VcdForm
  pub reads : ReadsAsVcd shown form
  pub reads_too : ReadsAsVcd seen other
  pub variables : HasVariables form (net_references contexts nets)
  pub variables_too : HasVariables other (net_references contexts nets)
  pub ends : last_time form ≡ cycles
  pub ends_too : last_time other ≡ cycles
  pub bit : (number cycle : ℕ) → Bool
  pub gives : (number cycle : ℕ) → number < length nets → cycle < cycles
      → value_at form (vcd_id (context * length nets + number)) cycle ≡ Some (bit number cycle)
  pub gives_too : (number cycle : ℕ) → number < length nets → cycle < cycles
      → value_at other (vcd_id (context * length nets + number)) cycle ≡ Some (bit number cycle)

-- so does `vcd` with the bits of all nets but the clock nets
abbrev pub DumpsApart : (text : List ℕ) → Design → (contexts : ℕ) → Type 0
DumpsApart text design contexts =
    (nets : List Net) × AreSeenNets design nets
    × ((cycles : ℕ) (words others : List (List ℕ)) (shown seen : List ℕ)
    → Prints (vcd cycles words) text shown → Prints (vcd cycles others) text seen
    → (context : ℕ) → context < contexts → AgreeOn contexts context words others
    → HaveSameBits contexts cycles nets context shown seen)

-- so it is with a text that carries a design in contexts, whoever made it,
abbrev pub ContextsPrintApart : Type 0
ContextsPrintApart =
    (text : List ℕ) (design : Design) (starts : List LatchState)
    → CarriesContexts text design starts → SimulatesApart text design (length starts)

-- if it also carries the nets,
abbrev pub NetsPrintApart : Type 0
NetsPrintApart =
    (text : List ℕ) (design : Design) (starts : List LatchState)
    → CarriesNetsInContexts text design starts
    → ProbesApart text (length starts) × DumpsApart text design (length starts)

-- and with the text that `compile` writes for several contexts
abbrev pub CompiledPrintApart : Type 0
CompiledPrintApart =
    (contexts : ℕ) (starts : List (List ℕ)) (netlist text : List ℕ)
    → Prints (compile contexts starts) netlist text
    → (design : Design) × IsNetlist netlist design
    × SimulatesApart text design contexts
    × ProbesApart text contexts × DumpsApart text design contexts
