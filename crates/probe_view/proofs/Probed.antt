-- Why a net's cell gives no bits.
use Rattle.std.proofs.Common.{ℕ, ◌≡◌, ◌<◌, List, sym, subst}
use Rattle.std.specs.Prelude.{Some}
use Rattle.ww_rule.specs.Wireworld.{Plane}
use Rattle.pattern_reading.specs.declared.ports.NetLine.{NetLine}
use Rattle.pattern_reading.specs.declared.ports.Ports.{Ports}
use Rattle.streams.specs.declared.streams.Streams.{Streams}
use Rattle.drive.specs.Driving.{HasSimulateCause}
use Rattle.drive.specs.declared.error.SimulateError.{SimulateError}
use Rattle.drive.specs.declared.error.SimulateError.TheVariants as simulating
use Rattle.probe_view.specs.Probes.{HasProbeCause, last_probed, net_named, probe_error}

-- what stops the run stops the probe
pub not_probed : (ports : Ports) (streams : Streams) (plane : Plane) (name path : List ℕ) (net : NetLine) → net_named ports name path ≡ Some net
    → (e : SimulateError) → HasSimulateCause ports streams plane (last_probed ports streams net) e → HasProbeCause ports streams plane name path (probe_error e)
not_probed ports streams plane name path net is simulating.NoMemory cause = tt
not_probed ports streams plane name path net is (simulating.TooFar generations) cause = record { net = net; is_there = is; needed = cause.0; far = subst (λ n. 4294967296 < n) (sym cause.0) cause.1 }
not_probed ports streams plane name path net is (simulating.NotQuiet generation x y) cause = record { net = net; is_there = is; near = cause.0; first = cause.1 }
