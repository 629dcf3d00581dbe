use Rattle.std.proofs.Common.{◌≡◌, ap, sym, ◌∙◌, Some}
use Rattle.std.specs.List.{find}
use Rattle.std.proofs.lemmas.List.Concat.{flat_map_single}
use Rattle.std.proofs.lemmas.Result.{err_from_is_err_and}
use Rattle.ww_rule.specs.Grid.{plane_of}
use Rattle.std.specs.List.{range_with_len}
use Rattle.probe_view.specs.Probes.{has_name_and_path, net_named, probed_at}
use Rattle.probe_view.proofs.Probed.{not_probed}
use Rattle.probe_view.proofs.probing.probe.Goals as goal

pub returns-clause-bits : goal.returns-clause-bits
returns-clause-bits c =
    let ports = c.args.ports.now in
    let net = c.in-Some.net.now in
    record {
      net = net;
      is_there = ap (find (has_name_and_path c.args.name.now c.args.path.now)) (sym c.as_slice.ensures) ∙ sym c.in-Some.ensures;
      near = c.in_ok-bits_of_cells.ensures.near;
      quiet = c.in_ok-bits_of_cells.ensures.quiet;
      bits_are =
          c.in_ok-bits_of_cells.ensures.bits
          ∙ flat_map_single (λ context. probed_at ports c.args.streams.now (plane_of c.args.pattern.rows) context net) (range_with_len 0 ports.c);
    }

pub returns-in_err-bits_of_cells-clause-refused : goal.returns-in_err-bits_of_cells-clause-refused
returns-in_err-bits_of_cells-clause-refused c =
    let p = err_from_is_err_and c.from_residual.result c.from_residual.ensures.1 in
    let ports = c.args.ports.now in
    let net = c.in-Some.net.now in
    let is : net_named ports c.args.name.now c.args.path.now ≡ Some net = ap (find (has_name_and_path c.args.name.now c.args.path.now)) (sym c.as_slice.ensures) ∙ sym c.in-Some.ensures in
    rw (p.1, p.2) (not_probed ports c.args.streams.now (plane_of c.args.pattern.rows) c.args.name.now c.args.path.now net is c.in_err-bits_of_cells.field-0.0 c.in_err-bits_of_cells.ensures.refused)
