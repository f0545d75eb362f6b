-- `scanners::place::Place::decode_cp` meets its contract: where a character stands, its lead byte tells which form it has (`Outside`).
use native.Mathlib.Omega.{arith}
use Rattle.scanners.proofs.Outside.{outside}
use Rattle.scanners.proofs.place.Place.decode_cp.Goals as goal

pub bounds-bytes-pos-2 : goal.bounds-bytes-pos-2
bounds-bytes-pos-2 c = omega (arith, (outside _ _ c.args.self.whole c.requires).more)

pub returns-then-b0-lt224 : goal.returns-then-b0-lt224
returns-then-b0-lt224 c = (outside _ _ c.args.self.whole c.requires).two (omega (arith, c.if-b0-lt224.true))

pub bounds-bytes-pos-3 : goal.bounds-bytes-pos-3
bounds-bytes-pos-3 c = omega (arith, (outside _ _ c.args.self.whole c.requires).room3 c.if-b0-lt224.false)

pub returns-then-b0-lt240 : goal.returns-then-b0-lt240
returns-then-b0-lt240 c = (outside _ _ c.args.self.whole c.requires).three c.if-b0-lt224.false c.if-b0-lt240.true

pub bounds-bytes-pos-4 : goal.bounds-bytes-pos-4
bounds-bytes-pos-4 c = omega (arith, (outside _ _ c.args.self.whole c.requires).room4 c.if-b0-lt240.false)

pub returns : goal.returns
returns c = (outside _ _ c.args.self.whole c.requires).four c.if-b0-lt240.false
