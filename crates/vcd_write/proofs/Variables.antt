-- The nets in all contexts, by their places.
use Rattle.std.proofs.Common.{◌≡◌, refl, sym, ◌∙◌, ap, ap₂, subst, ℕ, zero, suc, ◌+◌, ◌*◌, ◌-◌, ◌≤◌, ◌<◌, ◌⊎◌, inl, inr, max, Bool, false, Some, List, [], ◌∷◌, ◌++◌, length, map, flat_map, take, get_or, arith}
use Rattle.std.specs.Prelude.{slice_get, option_map}
use Rattle.std.specs.List.{range_with_len}
use Rattle.std.proofs.lemmas.List.{length-map, take_more}
use Rattle.std.proofs.lemmas.Option.{get_or_from_slice_get, none-some, same_Some, slice_get-map}
use Rattle.lists.proofs.Cuts.{got_left, got_right}
use Rattle.lists.proofs.Members.{In, in_flattened, in_got, in_mapped}
use Rattle.ww_rule.specs.Wireworld.{Plane}
use Rattle.pattern_reading.specs.declared.ports.NetLine.{NetLine}
use Rattle.pattern_reading.specs.declared.ports.Ports.{Ports}
use Rattle.streams.proofs.Ranges.{flat_map_more}
use Rattle.streams.specs.declared.streams.Streams.{Streams}
use Rattle.probe_view.specs.Probes.{probed_at}
use Rattle.vcd_write.specs.NetWaves.{NetInContext, NetsHaveTheirBits, greatest_offset, nets_in, nets_in_contexts, shown_of}

got_mapped : {X Y : Type 0} (f : X → Y) (xs : List X) (k : ℕ) (x : X) → slice_get xs k ≡ Some x → slice_get (map f xs) k ≡ Some (f x)
got_mapped f xs k x e = slice_get-map f xs k ∙ ap (option_map f) e

pub nets_many : (context : ℕ) (nets : List NetLine) → length (nets_in context nets) ≡ length nets
nets_many context nets = length-map nets (λ net. record { context = context; net = net })

net_at : (nets : List NetLine) (first many context number : ℕ) (net : NetLine) → context < many → slice_get nets number ≡ Some net
    → slice_get (flat_map (λ c. nets_in c nets) (range_with_len first many)) (context * length nets + number) ≡ Some (record { context = first + context; net = net })
net_at nets first zero context number net low e = absurd (omega (arith, low))
net_at nets first (suc many) zero number net low e =
    let here : 0 * length nets + number ≡ number = omega arith in
    let same : first ≡ first + 0 = omega arith in
    ap (slice_get (flat_map (λ c. nets_in c nets) (range_with_len first (suc many)))) here
    ∙ got_left (nets_in first nets) (flat_map (λ c. nets_in c nets) (range_with_len (first + 1) many)) number (record { context = first; net = net }) (got_mapped (λ net. record { context = first; net = net }) nets number net e)
    ∙ ap (λ c. Some (record { context = c; net = net })) same
net_at nets first (suc many) (suc context) number net low e =
    let rest : List NetInContext = flat_map (λ c. nets_in c nets) (range_with_len (first + 1) many) in
    let here : suc context * length nets + number ≡ length (nets_in first nets) + (context * length nets + number) =
    (let l = nets_many first nets in omega (arith, l)) in
    let same : first + 1 + context ≡ first + suc context = omega arith in
    ap (slice_get (nets_in first nets ++ rest)) here
    ∙ got_right (nets_in first nets) rest (context * length nets + number)
    ∙ net_at nets (first + 1) many context number net (omega (arith, low)) e
    ∙ ap (λ c. Some (record { context = c; net = net })) same

pub variable_at : (ports : Ports) (context number : ℕ) (net : NetLine) → context < ports.c → slice_get ports.nets number ≡ Some net
    → slice_get (nets_in_contexts ports) (context * length ports.nets + number) ≡ Some (record { context = context; net = net })
variable_at ports context number net low e =
    let same : 0 + context ≡ context = omega arith in
    net_at ports.nets 0 ports.c context number net low e ∙ ap (λ c. Some (record { context = c; net = net })) same

pub nets_have_their_bits : NetsHaveTheirBits
nets_have_their_bits ports streams plane context number net cycle low e =
    let variable : NetInContext = record { context = context; net = net } in
    ap (λ bits. get_or bits cycle false)
    (get_or_from_slice_get (map (shown_of ports streams plane) (nets_in_contexts ports)) (context * length ports.nets + number) (probed_at ports streams plane context net) []
    (got_mapped (shown_of ports streams plane) (nets_in_contexts ports) (context * length ports.nets + number) variable (variable_at ports context number net low e)))

-- one more context
pub contexts_more : (nets : List NetLine) (context : ℕ) → flat_map (λ c. nets_in c nets) (range_with_len 0 (context + 1)) ≡ flat_map (λ c. nets_in c nets) (range_with_len 0 context) ++ nets_in context nets
contexts_more nets context =
    let same : 0 + context ≡ context = omega arith in
    flat_map_more (λ c. nets_in c nets) 0 context ∙ ap (λ c. flat_map (λ c. nets_in c nets) (range_with_len 0 context) ++ nets_in c nets) same

-- a variable is of one of the contexts and of one of the nets
in_range : (first count n : ℕ) → In n (range_with_len first count) → n < first + count
in_range first zero n i = absurd i
in_range first (suc count) n (inl e) = omega (arith, e)
in_range first (suc count) n (inr i) = let h : n < first + 1 + count = in_range (first + 1) count n i in omega (arith, h)

pub context_low : (ports : Ports) (variable : NetInContext) → In variable (nets_in_contexts ports) → variable.context < ports.c
context_low ports variable i =
    let (context, there, at) = in_flattened (λ context. nets_in context ports.nets) (range_with_len 0 ports.c) variable i in
    let (net, is_net, same) = in_mapped (λ net. record { context = context; net = net }) ports.nets variable at in
    let low : context < 0 + ports.c = in_range 0 ports.c context there in
    let e : variable.context ≡ context = ap (λ v. v.context) same in
    omega (arith, low, e)

pub net_there : (ports : Ports) (variable : NetInContext) → In variable (nets_in_contexts ports) → In variable.net ports.nets
net_there ports variable i =
    let (context, there, at) = in_flattened (λ context. nets_in context ports.nets) (range_with_len 0 ports.c) variable i in
    let (net, is_net, same) = in_mapped (λ net. record { context = context; net = net }) ports.nets variable at in
    subst (λ n. In n ports.nets) (sym (ap (λ v. v.net) same)) is_net

-- no net begins later than the latest
pub offset_low : (nets : List NetLine) (net : NetLine) → In net nets → net.offset ≤ greatest_offset nets
offset_low [] net i = absurd i
offset_low (first ∷ nets) net (inl e) = let same : net.offset ≡ first.offset = ap (λ n. n.offset) e in omega (arith, same)
offset_low (first ∷ nets) net (inr i) = let low = offset_low nets net i in omega (arith, low)

pub greatest_more : (nets : List NetLine) (last : NetLine) → greatest_offset (nets ++ last ∷ []) ≡ max last.offset (greatest_offset nets)
greatest_more [] last = refl
greatest_more (net ∷ nets) last = let later = greatest_more nets last in omega (arith, later)

pub greatest_next : (nets : List NetLine) (i : ℕ) (net : NetLine) → i < length nets → net ≡ get_or nets i net → greatest_offset (take (i + 1) nets) ≡ max net.offset (greatest_offset (take i nets))
greatest_next nets i net low is =
    ap greatest_offset (take_more nets i net low ∙ ap (λ n. take i nets ++ n ∷ []) (sym is)) ∙ greatest_more (take i nets) net
