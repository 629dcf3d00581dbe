-- The nets of a flat netlist that are listed and drawn.
use Rattle.std.proofs.Common.{◌≡◌, refl, sym, ◌∙◌, ap, ℕ, Bool, true, false, cond, List, [], map}
use Rattle.std.specs.Prelude.{Option}
use Rattle.std.proofs.lemmas.Simd.{map-map}
use denote.Ref.{Bor}
use Rattle.netlist_core.specs.declared.flat.Flat.{Flat}
use Rattle.netlist_core.specs.declared.flat.Net.{Net as FlatNet}
use Rattle.netlist_core.specs.Names.{Name}
use Rattle.netlist_meaning.specs.Flat.{listed_nets, nets_but_clocks}
use Rattle.place_paths.specs.Paths.{name_and_path}
use Rattle.plan_ports.specs.Tables.{named_paths}
use Rattle.plan_ports.proofs.NetLines.{net_words}
use Rattle.routed_plans.specs.declared.nets.SeenPort.{SeenPort}
use Rattle.routed_plans.specs.Drawn.{items_drawn, nets_now}
use Rattle.routed_plans.proofs.Drawn.{drawn-map, drawn_none}

-- the name and the path of a net
abbrev pub words_of : Bor FlatNet → Name × List ℕ
words_of net = name_and_path net.now.place net.now.name

pub words_are : (nets : List (Bor FlatNet)) → named_paths (nets_now nets) ≡ map words_of nets
words_are nets = map-map net_words (λ (net : Bor FlatNet). net.now) nets

-- if no nets are listed, none are drawn
pub none_listed : (flat : Flat) (ports : List (Option SeenPort)) → flat.listed ≡ false → named_paths (items_drawn ports (listed_nets flat)) ≡ []
none_listed flat ports none =
    ap (λ listed. named_paths (items_drawn ports (cond listed (nets_but_clocks flat) []))) none ∙ ap named_paths (drawn_none ports [] refl)

-- if they are, those that are drawn are no clock nets
pub plain_listed : (flat : Flat) (ports : List (Option SeenPort)) → flat.listed ≡ true → items_drawn ports (named_paths (nets_but_clocks flat)) ≡ named_paths (items_drawn ports (listed_nets flat))
plain_listed flat ports listed =
    drawn-map net_words ports (nets_but_clocks flat)
    ∙ ap (λ (b : Bool). named_paths (items_drawn ports (cond b (nets_but_clocks flat) []))) (sym listed)
