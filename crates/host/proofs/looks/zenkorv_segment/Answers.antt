-- `host::looks::zenkorv_segment` meets its contract.
use mathlib.Core.Path.{refl}
use Rattle.host.proofs.looks.zenkorv_segment.Goals as goal

pub returns-in-Err : goal.returns-in-Err
returns-in-Err c = simp (← c.in-Err.ensures) (record { number = c.number.ensures; first = refl; count = refl })

pub returns-in-Ok : goal.returns-in-Ok
returns-in-Ok c = simp (← c.in-Ok.ensures) (record { number = refl; first = refl; count = refl })
