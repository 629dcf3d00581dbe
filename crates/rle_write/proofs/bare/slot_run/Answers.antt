use Rattle.std.proofs.Common.{◌-◌, sym, subst, ⊎_elim}
use Rattle.tile_library.specs.RowRuns.{IsRowRun}
use Rattle.plan_layout.specs.declared.slot.Slot.{Slot}
use Rattle.plan_layout.specs.Slots.{slot_of}
use Rattle.rle_write.specs.Dark.{bare_slot}
use Rattle.rle_write.proofs.bare.slot_run.Goals as goal

pub returns-in-Lower : goal.returns-in-Lower
returns-in-Lower c =
    subst (λ slot. IsRowRun (λ x. bare_slot (slot_of slot) x c.args.y) c.args.x (32 - c.args.x) c.piece_run.result) (sym c.in-Lower.is) c.piece_run.ensures

pub returns-in-Whole : goal.returns-in-Whole
returns-in-Whole c =
    let run : Slot → Type 0 = λ slot. IsRowRun (λ x. bare_slot (slot_of slot) x c.args.y) c.args.x (32 - c.args.x) c.piece_run-in-Whole.result in
    ⊎_elim (λ e. subst run (sym e) c.piece_run-in-Whole.ensures) (λ e. subst run (sym e) c.piece_run-in-Whole.ensures) c.in-Whole.is
