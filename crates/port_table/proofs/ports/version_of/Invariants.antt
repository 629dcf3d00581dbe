use Rattle.std.proofs.Common.{◌≡◌, drop}
use Rattle.pattern_reading.specs.PortTable.{period_in, latency_in, contexts_in}
use Rattle.port_table.specs.Lent.{forms_in}
use Rattle.port_table.proofs.ports.version_of.Given as goal

abbrev pub invariant-loop-line : goal.invariant-loop-line
invariant-loop-line l = record {
  same_period : period_in (forms_in (drop l.line-index l.lines)) ≡ period_in (forms_in l.lines);
  same_latency : latency_in (forms_in (drop l.line-index l.lines)) ≡ latency_in (forms_in l.lines);
  same_contexts : contexts_in (forms_in (drop l.line-index l.lines)) ≡ contexts_in (forms_in l.lines);
}
