-- The text that is written of what is compiled for one context spells the drawing of the plan.
use Rattle.std.proofs.Common.{refl, arith}
use Rattle.grid_assembly.specs.PlanDrawing.{start_grid}
use Rattle.grid_assembly.proofs.Pattern.{patterns_are_planes}
use Rattle.pattern_writing.proofs.Written.{written_text}
use Rattle.plan_ports.specs.Laws.{HasRoom}
use Rattle.plan_ports.proofs.Readable.{small_size, tables_are_readable}
use Rattle.plan_carries.proofs.Bare.{bare_in_cells, bare_out_cells}
use Rattle.lift_carries.specs.Compiled.{CompiledAreDrawings}

pub compiled_are_drawings : CompiledAreDrawings
compiled_are_drawings flat plan ports k =
    let c = k.circuit in
    let size = small_size plan c.admissible in
    let room : HasRoom plan 1 = record { some = λ e. omega (arith, e); room = λ more. absurd (omega (arith, more)) } in
    let table = tables_are_readable flat plan 1 ports k.sound.in_range k.named k.names k.places c.admissible room k.table in
    let reads = written_text (start_grid plan) ports (record { in_rows = (patterns_are_planes plan c.admissible).box; width = omega (arith, size.0); height = omega (arith, size.1) }) table.sound table.inside in
    record {
      spells = record { reads = reads.0; table = reads.1 };
      drawing = record {
        circuit = c;
        ports = record {
          size = refl;
          period = k.table.period;
          latency = k.table.latency;
          contexts = k.table.contexts;
          in_cells = bare_in_cells plan c.no_tape flat 1 ports k.table;
          out_cells = bare_out_cells plan c.no_tape flat 1 ports k.table;
        };
        drawn = refl;
      };
    }
