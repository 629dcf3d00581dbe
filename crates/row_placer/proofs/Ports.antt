-- The uses of ports.
use Rattle.std.proofs.Common.{◌≡◌, sym, ◌∙◌, ap, ap₂, subst, ℕ, suc, ◌+◌, ◌-◌, ◌<◌, ◌≤◌, ⊎_elim, cond, List, [], ◌∷◌, ◌++◌, length, get_or, set, drop, arith}
use Rattle.std.specs.Prelude.{◌==◌, slice_get, Some, All}
use Rattle.std.proofs.lemmas.Bool.{cases_lt}
use Rattle.std.proofs.lemmas.Bool.Decides.{nat_tests}
use Rattle.std.proofs.lemmas.Option.{get_or_from_slice_get}
use Rattle.std.proofs.Math.Seq.{drop-cons}
use Rattle.std.proofs.lemmas.List.{get_or_append_left, get_or_push, length_push, get_or_default}
use Rattle.lane_core.specs.Places.{AreDistinctBelow}
use Rattle.row_placer.specs.Placed.{AreOuts}
use Rattle.channel_router.specs.Routes.{brought}
use Rattle.row_placer.specs.declared.roles.Role.TheVariants.{Kept, Port}
use Rattle.row_placer.specs.declared.roles.Tag.{Tag}
use Rattle.row_placer.specs.declared.job.Job.{Job}
use Rattle.row_placer.specs.Told.{role_code, count, tag, free_tag, Exchanged, SameTags, is_tag}
use Rattle.row_placer.specs.Uses.{need, owed_ports}
use Rattle.row_placer.specs.Ready.{Ready, ReadyForPort, HoldPorts, AreSettled, IsUsable}
use Rattle.row_placer.proofs.Carry.{brought_to}
use Rattle.row_placer.proofs.Uses.{usable, used, comes, stays}

port_role : (i : ℕ) → 2 ≤ role_code (Port i)
port_role i = let e : 2 ≤ 4 + i = omega arith in e

-- a port that is begun
pub record Ported (job : Job) (i v : ℕ) (tags : List Tag) (table : List ℕ) : Type 0 where
  pub known : get_or job.ports i 0 ≡ v
  pub low : v < job.base + length job.gates
  pub ready : Ready (v ∷ drop (i + 1) job.ports) (job.base + length job.gates) (need v (drop (i + 1) job.ports) + owed_ports (drop (i + 1) job.ports)) tags table
  pub usable : IsUsable v tags table

pub ported : (job : Job) (i v : ℕ) (tags : List Tag) (table : List ℕ) → slice_get job.ports i ≡ Some v → i < length job.ports → All (λ v. v < job.base + length job.gates) job.ports
    → ReadyForPort job i tags table → Ported job i v tags table
ported job i v tags table got within all r =
    let known = get_or_from_slice_get job.ports i v 0 got in
    let low : v < job.base + length job.gates = subst (λ v. v < job.base + length job.gates) known (all i 0 within) in
    let next : suc i ≡ i + 1 = omega arith in
    let front : drop i job.ports ≡ v ∷ drop (i + 1) job.ports = drop-cons job.ports i 0 within ∙ ap₂ (λ v n. v ∷ drop n job.ports) known next in
    let ready = subst (λ us. Ready us (job.base + length job.gates) (owed_ports us) tags table) front r in
    record {
      known = known;
      low = low;
      ready = ready;
      usable = usable v (drop (i + 1) job.ports) (job.base + length job.gates) (owed_ports (drop (i + 1) job.ports)) tags table ready low;
    }

pub port_used : (job : Job) (i v : ℕ) (tags tags' : List Tag) (table table' : List ℕ) → Ported job i v tags table
    → Exchanged tags tags' (cond (get_or table v 0 == 1) (tag v Kept) free_tag) (tag v (Port i)) → table' ≡ set table v (get_or table v 0 - 1) → ReadyForPort job (i + 1) tags' table'
port_used job i v tags tags' table table' p ex is =
    used v (Port i) (drop (i + 1) job.ports) (job.base + length job.gates) (owed_ports (drop (i + 1) job.ports)) tags tags' table table' p.ready p.low (port_role i) ex is

pub port_held : (job : Job) (i v : ℕ) (tags tags' : List Tag) (table : List ℕ) → Ported job i v tags table
    → Exchanged tags tags' (cond (get_or table v 0 == 1) (tag v Kept) free_tag) (tag v (Port i)) → HoldPorts job i tags → HoldPorts job (i + 1) tags'
port_held job i v tags tags' table p ex held j below =
    ⊎_elim
    (λ low. stays (get_or job.ports j 0) (Port j) v (Port i) (get_or table v 0) tags tags' (port_role j) ex (held j low))
    (λ high. let same : i ≡ j = omega (arith, high, below) in
    subst (λ j. 1 ≤ count (get_or job.ports j 0) (Port j) tags') same
    (subst (λ w. 1 ≤ count w (Port i) tags') (sym p.known) (comes v (Port i) (get_or table v 0) tags tags' (port_role i) ex)))
    (cases_lt j i)

-- where a port is found: above the lanes of the loops before it
pub found_above : (job : Job) (n i v : ℕ) (tags : List Tag) (lane : ℕ) → AreSettled job n tags → n ≤ i → lane < length tags → get_or tags lane free_tag ≡ tag v (Port i) → lane + n < length tags
found_above job n i v tags lane settled le within here =
    ⊎_elim
    (λ low. low)
    (λ high. let s = length tags - 1 - lane in
    let back : length tags - 1 - s ≡ lane = omega (arith, within) in
    let at = settled s (omega (arith, within, high)) in
    let roles : 4 + s ≡ 4 + i = ap (λ (t : Tag). role_code t.role) (sym at ∙ ap (λ l. get_or tags l free_tag) back ∙ here) in
    absurd (omega (arith, roles, within, high, le)))
    (cases_lt (lane + n) (length tags))

pub brought_past : (from to l : ℕ) → from ≤ to → to < l → brought from to l ≡ l
brought_past from to l le lt = grind (arith, nat_tests)

pub settled_more : (job : Job) (n v : ℕ) (tags tags' : List Tag) (lane to : ℕ) → AreSettled job n tags → get_or job.ports n 0 ≡ v → lane < length tags → get_or tags lane free_tag ≡ tag v (Port n)
    → to ≡ length tags - 1 - n → n < length tags → length tags' ≡ length tags → ((l : ℕ) → get_or tags' l free_tag ≡ get_or tags (brought lane to l) free_tag) → AreSettled job (n + 1) tags'
settled_more job n v tags tags' lane to settled known within here is room long lanes s below =
    let above = found_above job n n v tags lane settled (omega arith) within here in
    let place : length tags' - 1 - s ≡ length tags - 1 - s = omega (arith, long) in
    ap (λ l. get_or tags' l free_tag) place ∙ lanes (length tags - 1 - s)
    ∙ ⊎_elim
    (λ old. let past : brought lane to (length tags - 1 - s) ≡ length tags - 1 - s = brought_past lane to (length tags - 1 - s) (omega (arith, above, is)) (omega (arith, is, old, room)) in
    ap (λ l. get_or tags l free_tag) past ∙ settled s old)
    (λ new. let same : s ≡ n = omega (arith, new, below) in
    let at : length tags - 1 - s ≡ to = omega (arith, is, same) in
    ap (λ l. get_or tags l free_tag) (ap (brought lane to) at ∙ brought_to lane to) ∙ here
    ∙ ap₂ (λ w k. tag w (Port k)) (sym known ∙ ap (λ k. get_or job.ports k 0) (sym same)) (sym same))
    (cases_lt s n)

pub same_held : (job : Job) (n : ℕ) (tags tags' : List Tag) → SameTags tags tags' → HoldPorts job n tags → HoldPorts job n tags'
same_held job n tags tags' same held i below = subst (λ k. 1 ≤ k) (sym (same (is_tag (get_or job.ports i 0) (Port i)))) (held i below)

pub port_has : (job : Job) (n i v : ℕ) (tags : List Tag) → HoldPorts job n tags → i < n → slice_get job.ports i ≡ Some v → 1 ≤ count v (Port i) tags
port_has job n i v tags held below got = subst (λ w. 1 ≤ count w (Port i) tags) (get_or_from_slice_get job.ports i v 0 got) (held i below)

pub outs_more : (job : Job) (loops port v lane : ℕ) (tags : List Tag) (outs : List ℕ) → AreOuts job loops tags outs → length outs + loops ≡ port → get_or job.ports port 0 ≡ v
    → lane < length tags → get_or tags lane free_tag ≡ tag v (Port port) → AreOuts job loops tags (outs ++ lane ∷ [])
outs_more job loops port v lane tags outs old at known within here o below =
    ⊎_elim
    (λ low. let e : get_or (outs ++ lane ∷ []) o 0 ≡ get_or outs o 0 = get_or_append_left outs (lane ∷ []) 0 o low in
    (subst (λ l. l < length tags) (sym e) (old o low).0, ap (λ l. get_or tags l free_tag) e ∙ (old o low).1))
    (λ high. let same : o ≡ length outs = omega (arith, high, below, length_push outs lane) in
    let e : get_or (outs ++ lane ∷ []) o 0 ≡ lane = get_or_push outs lane 0 o (sym same) in
    let place : port ≡ loops + o = omega (arith, at, same) in (
      subst (λ l. l < length tags) (sym e) within,
      ap (λ l. get_or tags l free_tag) e ∙ here ∙ ap₂ (λ w k. tag w (Port k)) (sym known ∙ ap (λ k. get_or job.ports k 0) place) place,
    ))
    (cases_lt o (length outs))

-- the outputs' lanes are distinct, and above the loops
pub outs_apart : (job : Job) (loops : ℕ) (tags : List Tag) (outs : List ℕ) → AreOuts job loops tags outs → AreSettled job loops tags → AreDistinctBelow (length tags - loops) outs
outs_apart job loops tags outs are settled = record {
  below = λ o d low. (let within = (are o low).0 in
      let above = found_above job loops (loops + o) (get_or job.ports (loops + o) 0) tags (get_or outs o 0) settled (omega arith) within (are o low).1 in
      let same : get_or outs o d ≡ get_or outs o 0 = get_or_default outs o d 0 low in omega (arith, above, same));
  distinct = λ i j d lt low e. (let ei = get_or_default outs i d 0 (omega (arith, lt, low)) in
      let ej = get_or_default outs j d 0 low in
      let lanes : get_or outs i 0 ≡ get_or outs j 0 = sym ei ∙ e ∙ ej in
      let roles : 4 + (loops + i) ≡ 4 + (loops + j) = ap (λ (t : Tag). role_code t.role) (sym (are i (omega (arith, lt, low))).1 ∙ ap (λ l. get_or tags l free_tag) lanes ∙ (are j low).1) in
      omega (arith, roles, lt));
}
