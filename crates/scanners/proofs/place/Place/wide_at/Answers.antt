-- `scanners::place::Place::wide_at` meets its contract: what the decoder and the table say.
use native.Mathlib.Omega.{arith}
use Rattle.scanners.proofs.Stands.{stands_wide, stands_room}
use Rattle.scanners.proofs.place.Place.wide_at.Goals as goal

pub overflow_add-result : goal.overflow_add-result
overflow_add-result c = omega (arith, stands_room _ _ c.decode_cp-c.ensures)

pub returns : goal.returns
returns c = (stands_wide _ _ c.args.self.whole c.requires c.decode_cp-c.ensures, c.class_of_scalar.ensures)
