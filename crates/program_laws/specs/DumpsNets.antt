-- What `vcd` writes of a text that carries the nets of a design in contexts.
use Rattle.std.specs.Prelude.{ℕ, ◌≡◌, ◌<◌, ◌+◌, ◌*◌, List, ◌++◌, length, map, flat_map, Some, slice_get}
use Rattle.std.specs.List.{range_with_len}
use Rattle.netlist_core.specs.declared.model.Design.{Design}
use Rattle.netlist_meaning.specs.Nets.{Net}
use Rattle.netlist_meaning.specs.Valuation.{Valuation, LatchState}
use Rattle.carries.specs.DesignContexts.{CarriesNetsInContexts}
use Rattle.carries.specs.Nets.{AreSeenNets}
use Rattle.place_paths.specs.Paths.{path_of}
use Rattle.streams.specs.Cuts.{with_context}
use Rattle.streams.specs.declared.streams.Streams.{Streams}
use Rattle.vcd_write.specs.NetWaves.{path_before}
use Rattle.vcd_write.specs.Reading.{VcdForm, ReadsAsVcd, last_time, value_at}
use Rattle.vcd_write.specs.References.{escaped_reference}
use Rattle.vcd_write.specs.Writing.{vcd_id}
use Rattle.netlist_text.specs.NetlistText.{IsNetlist}
use Rattle.start_words.specs.Starts.{starts_of_words}
use Rattle.command_words.specs.Shapes.{compile, vcd}
use Rattle.blifww_tool.specs.Evaluation.{FeedsInputs}
use Rattle.blifww_tool.specs.Commands.{Prints}
use Rattle.program_laws.specs.PrintsAlike.{AreRunsOn}

-- the reference of a net in one of so many contexts: `path/name`, or `context:path/name` if there
-- are several, without `path/` in the main model. A name may have `/` too: so two nets, at
-- different places, can have one reference
abbrev pub net_reference : (contexts context : ℕ) → Net → List ℕ
net_reference contexts context net =
    with_context contexts context (path_before (path_of net.place) ++ escaped_reference net.name)

-- the references of nets: all those of context 0 first
abbrev pub net_references : (contexts : ℕ) → List Net → List (List ℕ)
net_references contexts nets =
    flat_map (λ context. map (net_reference contexts context) nets) (range_with_len 0 contexts)

-- the form has a variable for each reference, in order, and no others; variable n has the id of
-- number n
pub record HasVariables (form : VcdForm) (references : List (List ℕ)) : Type 0 where
  pub shown_as : map (λ var. var.reference) form.vars ≡ references
  pub ids : map (λ var. var.id) form.vars ≡ map vcd_id (range_with_len 0 (length references))

-- The words give streams for the IN names of the design in each context, and the design has runs on
-- them, one from each start on. The output reads as a form, with the variables of all nets of the
-- design except the clock nets, by their references in each context. Its last time is the number of
-- cycles. If there are n nets, in context c the form gives the variable of net i, which is the one
-- with the id of number c n + i, at each cycle the net's bit in all such runs.
pub record DumpsNets (cycles : ℕ) (words : List (List ℕ)) (design : Design)
    (starts : List LatchState) (output : List ℕ) : Type 0 where
  pub fed : Streams
  pub feeds : FeedsInputs (length starts) cycles words design fed
  pub runs : ℕ → ℕ → Valuation
  pub are_runs : AreRunsOn design starts fed runs
  pub form : VcdForm
  pub reads : ReadsAsVcd output form
  pub nets : List Net
  pub are_nets : AreSeenNets design nets
  pub variables : HasVariables form (net_references (length starts) nets)
  pub ends : last_time form ≡ cycles
  pub bits : (number : ℕ) (net : Net) → slice_get nets number ≡ Some net
      → (context : ℕ) → context < length starts → (others : ℕ → ℕ → Valuation)
      → AreRunsOn design starts fed others → (cycle : ℕ) → cycle < cycles
      → value_at form (vcd_id (context * length nets + number)) cycle
      ≡ Some (others context cycle net.place net.name)

-- what `vcd` writes of a text that carries the nets of a design in contexts, whoever made the text
abbrev pub CarriersDumpNets : Type 0
CarriersDumpNets =
    (text : List ℕ) (design : Design) (starts : List LatchState)
    → CarriesNetsInContexts text design starts
    → (cycles : ℕ) (words : List (List ℕ)) (output : List ℕ) → Prints (vcd cycles words) text output
    → DumpsNets cycles words design starts output

-- what `vcd` writes of the text that `compile` writes of a netlist, each context from the start that
-- the words give it
abbrev pub CompiledDumpNets : Type 0
CompiledDumpNets =
    (contexts : ℕ) (starts : List (List ℕ)) (netlist text : List ℕ)
    → Prints (compile contexts starts) netlist text
    → (design : Design) × IsNetlist netlist design
    × ((cycles : ℕ) (words : List (List ℕ)) (output : List ℕ)
    → Prints (vcd cycles words) text output
    → DumpsNets cycles words design (starts_of_words design starts contexts) output)
