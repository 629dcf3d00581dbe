-- Why there is no order.
use Rattle.netlist_core.specs.declared.flat.Flat.{Flat}
use Rattle.netlist_meaning.specs.FlatOrder.{IsNetLoop}
use Rattle.loop_check.specs.declared.ordering.OrderError.{OrderError}
use Rattle.loop_check.specs.declared.ordering.OrderError.TheVariants.{NoMemory, Loop}

-- a refusal names a loop, unless memory ran out
abbrev pub IsOrderRefusal : Flat → OrderError → Type 0
IsOrderRefusal flat NoMemory = Unit {0}
IsOrderRefusal flat (Loop nets) = IsNetLoop flat nets
