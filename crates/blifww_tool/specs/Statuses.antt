-- What each status of a run means by itself.
use Rattle.std.specs.Prelude.{◌≡◌, ◌≢◌, ◌<◌, ◌⊎◌, ℕ, List}
use Rattle.netlist_core.specs.Names.{Name}
use Rattle.netlist_rules.specs.declared.fault.Fault.{Fault}
use Rattle.rle_read.specs.declared.error.RleFault.{RleFault}
use Rattle.port_table.specs.declared.faults.PortFault.{PortFault}
use Rattle.streams.specs.declared.error.StreamFault.{StreamFault}
use Rattle.netlist_text.specs.NetlistText.{IsAtFault, IsTooHeavy, HasLoop}
use Rattle.aiger_text.specs.declared.fault.AigFault.{AigFault}
use Rattle.aiger_text.specs.AigText.{HasAigFault}
use Rattle.start_words.specs.declared.error.StartFault.{StartFault}
use Rattle.command_words.specs.Shapes.{CommandValues, compile, aiger}
use Rattle.blifww_tool.specs.Compilation.{HasNoRoom}
use Rattle.tile_match.specs.declared.error.CircuitFault.{CircuitFault}
use Rattle.blifww_tool.specs.Aigs.{HasNoAig}
use Rattle.blifww_tool.specs.Run.{Asks, AsksForText, AsksNothing, IsAsked, RefusesText, Ends}
use Rattle.program_runs.specs.Runs.{Call, GaveAll, GaveTooMuch, ReadFailed, WriteFailed}
use Rattle.program_runs.specs.declared.causes.Cause.TheVariants.{WeightTooLarge, AigLoop, Pattern, GridTooLarge, PortTable, Streams, StartWord, NoSuchNet, TooFar, TooManyContexts, NotQuiet, NotCircuit}

-- the source gave too many bytes, or the command refuses the text that it has: for the netlist's
-- weight, the size of the pattern's box, the number of generations, or the number of contexts
abbrev pub IsOverALimit : Call → Type 0
IsOverALimit c =
    (AsksForText c.words × GaveTooMuch c.src)
    ⊎ (((weight : ℕ) × RefusesText c.words c.src (WeightTooLarge weight))
    ⊎ (((width height : ℕ) × RefusesText c.words c.src (GridTooLarge width height))
    ⊎ (((generations : ℕ) × RefusesText c.words c.src (TooFar generations))
    ⊎ ((contexts limit : ℕ) × RefusesText c.words c.src (TooManyContexts contexts limit)))))

-- for `compile`: the source gave too many bytes, or a netlist that weighs too much, or one in which
-- several contexts have no room
abbrev pub IsTooLarge : Call → (contexts : ℕ) → (starts : List (List ℕ)) → Type 0
IsTooLarge c contexts starts =
    (AsksForText c.words × GaveTooMuch c.src)
    ⊎ (((text : List ℕ) × (weight : ℕ) × GaveAll c.src text × IsTooHeavy text weight)
    ⊎ ((text : List ℕ) × (limit : ℕ) × GaveAll c.src text × (1 < contexts)
    × HasNoRoom contexts starts text limit))

-- the command refuses the text because it is no pattern, or for its port table
abbrev pub HasNoPattern : Call → Type 0
HasNoPattern c =
    ((fault : RleFault) × RefusesText c.words c.src (Pattern fault))
    ⊎ ((fault : PortFault) × RefusesText c.words c.src (PortTable fault))

-- the words do not fit what the command reads: they are no streams for its inputs, or no starts for
-- its latches, or ask for a net that it does not have
abbrev pub WordsDoNotFit : Call → Type 0
WordsDoNotFit c =
    ((fault : StreamFault) × RefusesText c.words c.src (Streams fault))
    ⊎ (((fault : StartFault) × RefusesText c.words c.src (StartWord fault))
    ⊎ ((name : Name) × RefusesText c.words c.src (NoSuchNet name)))

-- the command refuses the text because an injection meets no conductor
abbrev pub IsFirstMiss : Call → Type 0
IsFirstMiss c = (generation x y : ℕ) × RefusesText c.words c.src (NotQuiet generation x y)

-- the command refuses the text of a pattern because it is no circuit
abbrev pub IsNotCircuit : Call → Type 0
IsNotCircuit c = (fault : CircuitFault) × RefusesText c.words c.src (NotCircuit fault)

-- Each status except 7 comes only with its cause; with any status except 2, 6 and 7 a command was
-- asked for.
pub record HaveCauses (c : Call) (status : ℕ) : Type 0 where
  pub at_fault : status ≡ 1 → ¬ Asks c.words aiger
      → (text : List ℕ) × (fault : Fault) × GaveAll c.src text × IsAtFault text fault
  pub aig_at_fault : status ≡ 1 → Asks c.words aiger
      → (text : List ℕ) × (fault : AigFault) × GaveAll c.src text × HasAigFault text fault
  pub usage : status ≡ 2 → AsksNothing c.words
  pub asked : status ≢ 2 → status ≢ 6 → status ≢ 7
      → (command : CommandValues) × IsAsked c.words command
  pub a_loop : status ≡ 3 → ¬ Asks c.words aiger
      → (text : List ℕ) × (names : List Name) × GaveAll c.src text × HasLoop text names
  pub aig_loop : status ≡ 3 → Asks c.words aiger
      → (text : List ℕ) × (literals : List ℕ) × GaveAll c.src text
      × HasNoAig text (AigLoop literals)
  pub too_large : status ≡ 4 → (contexts : ℕ) (starts : List (List ℕ))
      → Asks c.words (compile contexts starts) → IsTooLarge c contexts starts
  pub over_a_limit : status ≡ 4 → IsOverALimit c
  pub read_fault : status ≡ 5 → ReadFailed c.src
  pub write_fault : status ≡ 6 → WriteFailed c.out ⊎ WriteFailed c.err
  pub no_pattern : status ≡ 8 → HasNoPattern c
  pub misfit : status ≡ 9 → WordsDoNotFit c
  pub not_quiet : status ≡ 10 → IsFirstMiss c
  pub not_circuit : status ≡ 12 → IsNotCircuit c

abbrev pub StatusesHaveCauses : Type 0
StatusesHaveCauses = (c : Call) (status : ℕ) → Ends c status → HaveCauses c status
