use Rattle.std.proofs.Common.{◌+◌, ◌-◌, sym, ◌∙◌, inl, inr, get_or, length, arith}
use Rattle.std.proofs.lemmas.Bool.{cases_eq, cases_lt}
use Rattle.lane_kernel.proofs.PlaneRows.{is_next_plane}
use Rattle.lane_kernel.proofs.UnderWay.{no_tails, none_without_cells}
use Rattle.lane_kernel.proofs.stepping.step_all.Goals as goal

pub returns-clause-next : goal.returns-clause-next
returns-clause-next c i =
    let free = c.args.coming.now in
    let old = c.args.tails.now in
    let e = c.next_words.ensures in
    let lt = c.requires.tails in
    let size = c.requires.size in
    elim (cases_eq (get_or free.cells.now i 0) 0) [
      | inr some ↦ let inner = free.framed i some in let from = inner.from in let to = inner.to in e.inside i (omega (arith, from)) (omega (arith, to, lt))
      | inl empty ↦
          elim (cases_lt i (free.stride + 1)) [
            | inl low ↦ e.outside i (inl low) ∙ no_tails free.cells.now old i c.requires.on_cells empty ∙ sym (none_without_cells free.stride free.tails.now old free.cells.now i empty)
            | inr from ↦
                elim (cases_lt i (length old - (free.stride + 1))) [
                  | inl inside ↦ e.inside i from inside
                  | inr past ↦ e.outside i (inr past) ∙ no_tails free.cells.now old i c.requires.on_cells empty ∙ sym (none_without_cells free.stride free.tails.now old free.cells.now i empty)
                ]
          ]
    ]

pub returns-clause-shows : goal.returns-clause-shows
returns-clause-shows c =
    let free = c.args.coming.now in
    is_next_plane free.stride free.tails.now c.args.tails.now free.cells.now c.next_words.new.tails c.all_fit.ensures c.requires.on_cells (returns-clause-next c)
