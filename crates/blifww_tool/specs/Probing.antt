-- What a net of a text's pattern shows under streams of bits, as lines.
use Rattle.std.specs.Prelude.{◌≡◌, ℕ, List, Bool, None, map, flat_map, zip}
use Rattle.std.specs.List.{range_with_len}
use Rattle.ww_rule.specs.Grid.{plane_of}
use Rattle.streams.specs.Cuts.{with_context}
use Rattle.probe_view.specs.Probes.{net_named, HasProbed, IsTooFar, IsNotQuiet}
use Rattle.blifww_tool.specs.Lines.{bits_line}
use Rattle.blifww_tool.specs.Simulation.{Simulation, IsSimulation, HasNoStreams}
use Rattle.program_runs.specs.declared.causes.Cause.{Cause}
use Rattle.program_runs.specs.declared.causes.Cause.TheVariants.{NoSuchNet, TooFar, NotQuiet}

-- The text and the words are a simulation, whose table has the net of this name and path. These are
-- the net's bits in each context; the last of them is shown in time, and each injection up to it
-- meets a conductor.
pub record Probes (cycles : ℕ) (name path : List ℕ) (words : List (List ℕ)) (text : List ℕ)
    (bits : List (List Bool)) : Type 0 where
  pub simulation : Simulation
  pub is : IsSimulation cycles words text simulation
  pub probed : HasProbed simulation.ports simulation.streams
      (plane_of simulation.grid.rows) name path bits

-- a net's name as it stands before its bits in each context
abbrev pub names_in_contexts : (contexts : ℕ) → List ℕ → List (List ℕ)
names_in_contexts contexts name =
    map (λ context. with_context contexts context name) (range_with_len 0 contexts)

-- a line for each context, with the net's bits in it
abbrev pub net_text : (contexts : ℕ) → List ℕ → List (List Bool) → List ℕ
net_text contexts name bits =
    flat_map (λ p. bits_line p.0 p.1) (zip (names_in_contexts contexts name) bits)

-- the text and the words show the net's bits, and these are their lines
pub record PrintsProbe (cycles : ℕ) (name path : List ℕ) (words : List (List ℕ))
    (text output : List ℕ) : Type 0 where
  pub bits : List (List Bool)
  pub probes : Probes cycles name path words text bits
  pub lines : output ≡ net_text probes.simulation.ports.c name bits

-- why the text and the words give no bits: they are no simulation; its table has no such net; the
-- net's last bit is shown too late; or it is in time, but an injection up to it meets no conductor
abbrev pub HasNoProbe : ℕ → (name path : List ℕ) → List (List ℕ) → List ℕ → Cause → Type 0
HasNoProbe cycles name path words text (NoSuchNet told) =
    (s : Simulation) × IsSimulation cycles words text s × (told ≡ name)
    × (net_named s.ports name path ≡ None)
HasNoProbe cycles name path words text (TooFar generations) =
    (s : Simulation) × IsSimulation cycles words text s
    × IsTooFar s.ports s.streams name path generations
HasNoProbe cycles name path words text (NotQuiet generation x y) =
    (s : Simulation) × IsSimulation cycles words text s
    × IsNotQuiet s.ports s.streams (plane_of s.grid.rows) name path generation x y
HasNoProbe cycles name path words text cause = HasNoStreams cycles words text cause
