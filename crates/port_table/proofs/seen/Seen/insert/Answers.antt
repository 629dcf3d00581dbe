use Rattle.std.proofs.Common.{refl, sym, ap, ap₂, ◌∙◌, not, ◌&&◌}
use Rattle.std.specs.List.{list_any}
use Rattle.std.specs.Str.{bytes_eq}
use Rattle.pattern_reading.specs.PortLines.{In, Out, Net}
use Rattle.port_table.specs.Seen.{is_input, is_output, is_net}
use Rattle.port_table.proofs.SeenNames.{any_push, same_as_version, same_as_input, same_as_output, same_as_net, has_name, has_pair}
use Rattle.port_table.proofs.seen.Seen.insert.Goals as goal

pub returns-in-Version-clause-added : goal.returns-in-Version-clause-added
returns-in-Version-clause-added c = λ before h. rw (c.in-Version.is, same_as_version c.in-Version.period c.in-Version.latency c.in-Version.contexts before) refl

pub returns-in_ok-is_new-in-In-clause-added : goal.returns-in_ok-is_new-in-In-clause-added
returns-in_ok-is_new-in-In-clause-added c = λ before h.
    rw (c.in-In.is, same_as_input c.in-In.port before)
    (c.in_ok-is_new-in-In.ensures.added ∙ ap not (h.has_ins c.as_slice.result.now) ∙ ap (λ name. not (list_any (is_input name) before)) c.as_slice.ensures)

pub returns-in_ok-is_new-in-Out-clause-added : goal.returns-in_ok-is_new-in-Out-clause-added
returns-in_ok-is_new-in-Out-clause-added c = λ before h.
    rw (c.in-Out.is, same_as_output c.in-Out.port before)
    (c.in_ok-is_new-in-Out.ensures.added ∙ ap not (h.has_outs c.as_slice-in-Out.result.now) ∙ ap (λ name. not (list_any (is_output name) before)) c.as_slice-in-Out.ensures)

pub returns-in_ok-is_new-in-Net-clause-added : goal.returns-in_ok-is_new-in-Net-clause-added
returns-in_ok-is_new-in-Net-clause-added c = λ before h.
    rw (c.in-Net.is, same_as_net c.in-Net.net before)
    (c.in_ok-is_new-in-Net.ensures.added
    ∙ ap not (h.has_nets c.as_slice-in-Net.result.now c.as_slice-in-Net-2.result.now)
    ∙ ap₂ (λ name path. not (list_any (is_net name path) before)) c.as_slice-in-Net.ensures c.as_slice-in-Net-2.ensures)

pub returns-in_ok-is_new-in-In-clause-seen : goal.returns-in_ok-is_new-in-In-clause-seen
returns-in_ok-is_new-in-In-clause-seen c = λ before h.
    let form = In c.in-In.port in
    rw c.in-In.is (record {
      has_ins = has_name is_input c.args.self.now.ins c.insert.new.self c.as_slice.result before form (λ name. ap (bytes_eq name) (sym c.as_slice.ensures)) h.has_ins c.in_ok-is_new-in-In.ensures.updates;
      has_outs = λ name. h.has_outs name ∙ sym (any_push (is_output name) before form);
      has_nets = λ name path. h.has_nets name path ∙ sym (any_push (is_net name path) before form);
    })

pub returns-in_ok-is_new-in-Out-clause-seen : goal.returns-in_ok-is_new-in-Out-clause-seen
returns-in_ok-is_new-in-Out-clause-seen c = λ before h.
    let form = Out c.in-Out.port in
    rw c.in-Out.is (record {
      has_ins = λ name. h.has_ins name ∙ sym (any_push (is_input name) before form);
      has_outs = has_name is_output c.args.self.now.outs c.insert-in-Out.new.self c.as_slice-in-Out.result before form (λ name. ap (bytes_eq name) (sym c.as_slice-in-Out.ensures)) h.has_outs c.in_ok-is_new-in-Out.ensures.updates;
      has_nets = λ name path. h.has_nets name path ∙ sym (any_push (is_net name path) before form);
    })

pub returns-in_ok-is_new-in-Net-clause-seen : goal.returns-in_ok-is_new-in-Net-clause-seen
returns-in_ok-is_new-in-Net-clause-seen c = λ before h.
    let form = Net c.in-Net.net in
    rw c.in-Net.is (record {
      has_ins = λ name. h.has_ins name ∙ sym (any_push (is_input name) before form);
      has_outs = λ name. h.has_outs name ∙ sym (any_push (is_output name) before form);
      has_nets = has_pair c.args.self.now.nets c.insert-in-Net.new.self (c.as_slice-in-Net.result, c.as_slice-in-Net-2.result) before form
          (λ name path. ap₂ (λ a b. bytes_eq name a && bytes_eq path b) (sym c.as_slice-in-Net.ensures) (sym c.as_slice-in-Net-2.ensures)) h.has_nets c.in_ok-is_new-in-Net.ensures.updates;
    })
