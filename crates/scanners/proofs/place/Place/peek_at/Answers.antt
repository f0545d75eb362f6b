-- `scanners::place::Place::peek_at` meets its contract: the end, an ASCII byte, or a character outside ASCII.
use mathlib.Core.Path.{sym, subst}
use Rattle.scanners.specs.Place.{Peeks}
use Rattle.scanners.proofs.Stands.{stands_none, stands_ascii}
use Rattle.scanners.proofs.place.Place.peek_at.Goals as goal

pub returns-in_err-byte : goal.returns-in_err-byte
returns-in_err-byte c =
    subst (Peeks c.args.self.bytes.now c.args.self.pos) (sym c.from_residual.ensures) (stands_none _ _ c.in_err-byte.ensures.lookup.3)

pub returns-then-byte-lt128 : goal.returns-then-byte-lt128
returns-then-byte-lt128 c =
    let h = c.in_ok-byte.ensures.lookup.3 in
    stands_ascii _ _ c.args.self.whole h.0 (h.1 0) c.if-byte-lt128.true
