-- A plane that shows the runs of a list shows those of a list that runs alike.
use Rattle.std.proofs.Common.{ℕ, ◌≡◌, subst, Bool}
use Rattle.std.proofs.Math.Path.{fun_ext}
use Rattle.ww_rule.specs.Wireworld.{Plane, driven}
use Rattle.pattern_reading.specs.declared.ports.Ports.{Ports}
use Rattle.carries.specs.Cells.{drive}
use Rattle.cell_core.specs.declared.list.CellList.{CellList}
use Rattle.routed_circuits.specs.Runs.{src_at, list_bit}
use Rattle.routed_circuits.specs.Tables.{ShowsBits, ShowsListRuns}
use Rattle.list_matching.specs.Alike.{RunAlike}

pub alike_shown : (plane : Plane) (ports : Ports) (found wanted : CellList) → RunAlike found wanted → ShowsListRuns plane ports found → ShowsListRuns plane ports wanted
alike_shown plane ports found wanted alike shows = record {
  conductors = shows.conductors;
  outs = λ rows o line at g. (
      let same : (λ (t : ℕ). list_bit found rows t (src_at found.outs o)) ≡ (λ (t : ℕ). list_bit wanted rows t (src_at wanted.outs o)) = fun_ext (λ t. alike.out_bits rows t o) in
      subst (λ (bit : ℕ → Bool). ShowsBits ports.l ports.p bit g (driven (drive ports rows) plane g) line.x line.y) same (shows.outs rows o line at g));
  nets = λ rows k line at g. (
      let same : (λ (t : ℕ). list_bit found rows t (src_at found.nets k)) ≡ (λ (t : ℕ). list_bit wanted rows t (src_at wanted.nets k)) = fun_ext (λ t. alike.net_bits rows t k) in
      subst (λ (bit : ℕ → Bool). ShowsBits line.offset ports.p bit g (driven (drive ports rows) plane g) line.x line.y) same (shows.nets rows k line at g));
}
