use Rattle.std.proofs.Common.{◌≡◌, refl, sym, ◌∙◌, ap, ap₂, subst, ◌+◌, ◌-◌, ◌*◌, ◌<◌, ◌≤◌, length, map, take, arith}
use Rattle.std.specs.Prelude.{All}
use Rattle.cell_core.specs.declared.cells.Src.TheVariants.{Zero}
use Rattle.row_placer.specs.declared.job.Job.{Job}
use Rattle.std.proofs.lemmas.List.{length-map}
use Rattle.lane_core.specs.Instrs.{IsOnLanes}
use Rattle.lane_core.specs.Places.{AreDistinctBelow, IsPlaceWithin}
use Rattle.row_placer.specs.Told.{Told, MadeTold}
use Rattle.row_placer.specs.Ready.{HoldPorts, AreSettled}
use Rattle.cell_core.specs.Loops.{loop_count}
use Rattle.row_placer.specs.Numbers.{gate_of}
use Rattle.row_placer.specs.Placed.{HavePlaces, IsPrepared, AreOuts, net_place_of}
use Rattle.row_placer.proofs.Whole.{length-loops}
use Rattle.row_placer.proofs.Ports.{outs_apart}
use Rattle.row_placer.proofs.Finish.{finish, nets_within, instr_count}
use Rattle.row_placer.proofs.Prepared.{length-ports}
use Rattle.row_placer.proofs.Sound.{sound}
use Rattle.row_placer.specs.Entries.{AreAtEntries, AreAtCells}
use Rattle.row_placer.proofs.Entries.{at_entries, at_cells}
use Rattle.row_placer.proofs.placing.place_job.Goals as goal

pub run-requires : goal.run-requires
run-requires c =
    let list = c.args.list.now in
    let ready = c.requires.prepared in
    let ports = length-ports list c.args.job.ports (sound list) ready.job_of.ports in
    record {
      few = c.requires.few;
      ready = ready.ready;
      wide = omega (arith, ready.counted);
      known = ready.ports;
      among_ports = omega (arith, ports, c.requires.loops);
      room = omega (arith, ready.room, c.requires.loops);
    }

pub ends_of-requires-clause-loops : goal.ends_of-requires-clause-loops
ends_of-requires-clause-loops c = c.requires.loops

pub ends_of-requires-clause-ports : goal.ends_of-requires-clause-ports
ends_of-requires-clause-ports c =
    let ports = length-ports c.args.list.now c.args.job.ports (sound c.args.list.now) c.requires.prepared.job_of.ports in
    subst (λ (j : Job). c.args.loops ≤ length j.ports) (sym c.in_ok-lanes.ensures.job_is) (omega (arith, ports, c.requires.loops))

pub ends_of-requires-clause-held : goal.ends_of-requires-clause-held
ends_of-requires-clause-held c = subst (λ (j : Job). HoldPorts j (length j.ports) c.in_ok-lanes.lanes.tags.items) (sym c.in_ok-lanes.ensures.job_is) c.in_ok-lanes.ensures.held

pub ends_of-requires-clause-places : goal.ends_of-requires-clause-places
ends_of-requires-clause-places c =
    let list = c.args.list.now in
    let made = c.in_ok-lanes.lanes.made.items in
    let ready = c.requires.prepared in
    let here : HavePlaces list c.args.homes.items made = record {
      small = omega (arith, c.requires.small);
      known_home = ready.homes_of.least;
      all_made = c.in_ok-lanes.ensures.made ∙ ap length ready.job_of.gates ∙ length-map list.cells (gate_of list);
    } in
    subst (λ hs. HavePlaces list hs made) (sym c.deref.ensures.value) here

pub ends_of-requires-clause-zero : goal.ends_of-requires-clause-zero
ends_of-requires-clause-zero c =
    let list = c.args.list.now in
    subst (λ hs. All (λ src. src ≡ Zero → list.inputs + loop_count list < length hs) list.nets) (sym c.deref.ensures.value) c.requires.prepared.zero

pub invariant_of-program : goal.invariant_of-program
invariant_of-program c =
    let list = c.args.list.now in
    let L = c.in_ok-lanes.lanes in
    let le = c.in_ok-lanes.ensures in
    let left = c.args.left.now in
    let homes = c.args.homes.items in
    let loops = c.requires.loops in
    let r = subst (λ (x : Job). IsPrepared list x left homes) (sym le.job_is) c.requires.prepared in
    let count : length L.tags.items ≡ c.len-count.result = sym (c.len-count.ensures ∙ L.tags.ok.0) in
    let settled = subst (λ n. AreSettled L.job n L.tags.items) loops (subst (λ (x : Job). AreSettled x c.args.loops L.tags.items) (sym le.job_is) le.settled) in
    let outs = subst (λ n. AreOuts L.job n L.tags.items c.of-4.result) loops (subst (AreOuts L.job c.args.loops L.tags.items) (sym c.of-4.ensures) c.in-Ok.ensures.outs) in
    let all : length L.made.items ≡ length L.job.gates = le.made ∙ ap (λ (x : Job). length x.gates) (sym le.job_is) in
    let nets = c.of-5.ensures ∙ c.in-Ok.ensures.nets ∙ ap (λ hs. map (net_place_of list hs L.made.items) list.nets) c.deref.ensures.value in
    let ins = c.of-2.ensures ∙ c.truncate.ensures.items in
    let latches = c.of-3.ensures ∙ c.in-Ok.ensures.latches in
    let few : length c.of-3.result ≡ loop_count list = ap length latches ∙ length-loops list list.starts refl in
    record {
      loops_fit = omega (arith, few, r.room, L.long, count);
      instrs_fit = subst (λ n. All (IsOnLanes n) c.of.result) count (subst (All (IsOnLanes (length L.tags.items))) (sym (c.of.ensures ∙ c.into_instrs-instrs.ensures)) L.on_lanes);
      ins_fit = subst (λ n. AreDistinctBelow n c.of-2.result) (ap₂ (λ a b. a - b) (L.long ∙ count) (sym few)) (subst (AreDistinctBelow (length L.job.start - loop_count list)) (sym ins) r.homes_of.ins_apart);
      outs_fit = subst (λ n. AreDistinctBelow n c.of-4.result) (ap₂ (λ a b. a - b) count (sym few)) (outs_apart L.job (loop_count list) L.tags.items c.of-4.result outs settled);
      nets_fit = subst (λ n. All (IsPlaceWithin n (length c.of.result)) c.of-5.result) count
          (nets_within list (length L.tags.items) (length c.of.result) homes L.made.items c.of-5.result (sound c.args.list.now) (subst (λ n. All (λ lane. lane < n) homes) L.long r.below)
          (subst (λ is. All (IsPlaceWithin (length L.tags.items) (length is)) L.made.items) (sym (c.of.ensures ∙ c.into_instrs-instrs.ensures)) L.places) r.homes_of.least
          (all ∙ ap length r.job_of.gates ∙ length-map list.cells (gate_of list)) r.zero nets);
    }

pub returns : goal.returns
returns c =
    let list = c.args.list.now in
    let L = c.in_ok-lanes.lanes in
    let le = c.in_ok-lanes.ensures in
    let job = c.args.job in
    let left = c.args.left.now in
    let homes = c.args.homes.items in
    let loops = c.requires.loops in
    let ready = c.requires.prepared in
    let r = subst (λ (x : Job). IsPrepared list x left homes) (sym le.job_is) ready in
    let count : length L.tags.items ≡ c.len-count.result = sym (c.len-count.ensures ∙ L.tags.ok.0) in
    let wide : length job.start ≡ c.len-count.result = sym le.long ∙ count in
    let settled = subst (λ n. AreSettled L.job n L.tags.items) loops (subst (λ (x : Job). AreSettled x c.args.loops L.tags.items) (sym le.job_is) le.settled) in
    let outs = subst (λ n. AreOuts L.job n L.tags.items c.of-4.result) loops (subst (AreOuts L.job c.args.loops L.tags.items) (sym c.of-4.ensures) c.in-Ok.ensures.outs) in
    let all : length L.made.items ≡ length L.job.gates = le.made ∙ ap (λ (x : Job). length x.gates) (sym le.job_is) in
    let cells : length job.gates ≡ length list.cells = ap length ready.job_of.gates ∙ length-map list.cells (gate_of list) in
    let gates : L.job.gates ≡ map (gate_of list) list.cells = ap (λ (x : Job). x.gates) le.job_is ∙ ready.job_of.gates in
    let nets = c.of-5.ensures ∙ c.in-Ok.ensures.nets ∙ ap (λ hs. map (net_place_of list hs L.made.items) list.nets) c.deref.ensures.value in
    let ins = c.of-2.ensures ∙ c.truncate.ensures.items in
    let few = instr_count (length L.instrs.items) (length job.gates) (length job.ports) c.args.loops (length job.start) (length list.cells) (length list.outs) (loop_count list) c.len-count.result
    le.count cells (length-ports list job.ports (sound list) ready.job_of.ports) loops wide in
    record {
      wide = sym wide;
      computes = finish list _ L.job L.tags.items L.made.items left homes (sound list) r (record {
        lanes = count;
        start = L.long;
        told = subst (Told L.job L.tags.items) (sym (c.of.ensures ∙ c.into_instrs-instrs.ensures)) L.told;
        made_told = subst (λ is. MadeTold L.job is L.made.items) (sym (c.of.ensures ∙ c.into_instrs-instrs.ensures)) L.made_told;
        all_made = all;
        latches = c.of-3.ensures ∙ c.in-Ok.ensures.latches;
        settled = settled;
        outs = outs;
        outs_long = omega (arith, ap length c.of-4.ensures, c.in-Ok.ensures.long, loops);
        nets = nets;
        ins = ins;
      });
      instrs = subst (λ is. length is ≤ (3 * length list.cells + length list.outs + 2 * loop_count list) * c.len-count.result) (sym (c.of.ensures ∙ c.into_instrs-instrs.ensures)) few;
      entries = subst (λ lanes. AreAtEntries list lanes c.of-2.result c.of-5.result) wide
          (subst (λ is. AreAtEntries list (length job.start) is c.of-5.result) (sym ins)
          (at_entries list (length job.start) (take list.inputs homes) homes L.made.items c.of-5.result ready.homes_of (sound list).nets nets));
      made = subst (λ is. AreAtCells list is c.of-5.result) (sym (c.of.ensures ∙ c.into_instrs-instrs.ensures))
          (at_cells list L.job L.instrs.items homes L.made.items c.of-5.result gates (le.made ∙ cells) L.made_at (sound list).nets nets);
    }
