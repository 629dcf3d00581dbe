-- What the samples read as, by computing the verdict on each text.
use Rattle.std.proofs.Common.{refl, []}
use Rattle.pattern_reading.specs.Pattern.{ReadsAsPattern}
use Rattle.pattern_reading.specs.PortTable.{ReadsAsPorts}
use Rattle.pattern_reading.proofs.RleVerdict.{verdict_pattern}
use Rattle.pattern_writing.specs.Samples.{or_grid, or_text, or_text_with_nets, or_items_text, bare_grid, bare_text}
use Rattle.pattern_writing.specs.SamplePorts.{or_ports, bare_ports}

pub or_items_read : ReadsAsPattern or_items_text or_grid
or_items_read = verdict_pattern or_items_text or_grid refl refl

pub or_reads : ReadsAsPattern or_text or_grid
or_reads = verdict_pattern or_text or_grid refl refl

pub or_with_nets_reads : ReadsAsPattern or_text_with_nets or_grid
or_with_nets_reads = verdict_pattern or_text_with_nets or_grid refl refl

pub or_has_ports : ReadsAsPorts or_text 33 32 (record or_ports { nets = [] })
or_has_ports = record { no_fault = refl; ports_is = refl }

pub or_with_nets_has_ports : ReadsAsPorts or_text_with_nets 33 32 or_ports
or_with_nets_has_ports = record { no_fault = refl; ports_is = refl }

pub bare_reads : ReadsAsPattern bare_text bare_grid
bare_reads = verdict_pattern bare_text bare_grid refl refl

pub bare_has_ports : ReadsAsPorts bare_text 0 0 bare_ports
bare_has_ports = record { no_fault = refl; ports_is = refl }
