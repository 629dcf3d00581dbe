use Rattle.pattern_reading.proofs.SoundLines.{sound_lines, spellable_lines}
use Rattle.pattern_reading.proofs.PortForms.{its_forms}
use Rattle.pattern_reading.proofs.Spelled.{spelled_ports, same_pattern}
use Rattle.pattern_reading.proofs.Escapes.{its_escapes, its_name}
use Rattle.pattern_laws.proofs.laws.spelled_table_laws.Goals as goal

pub returns-clause-ports : goal.returns-clause-ports
returns-clause-ports c = spelled_ports

pub returns-clause-pattern : goal.returns-clause-pattern
returns-clause-pattern c = same_pattern

pub returns-clause-forms : goal.returns-clause-forms
returns-clause-forms c = its_forms

pub returns-clause-escapes : goal.returns-clause-escapes
returns-clause-escapes c = its_escapes

pub returns-clause-names : goal.returns-clause-names
returns-clause-names c = its_name

pub returns-clause-spellable : goal.returns-clause-spellable
returns-clause-spellable c = spellable_lines

pub returns-clause-sound : goal.returns-clause-sound
returns-clause-sound c = sound_lines
