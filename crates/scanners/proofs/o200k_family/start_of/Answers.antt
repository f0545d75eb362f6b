-- `scanners::o200k_family::start_of` meets its contract: by what stands in front.
use Prim.Native.Nat.{◌+◌}
use mathlib.Core.Path.{◌≡◌, ◌∙◌, subst}
use native.Mathlib.Omega.{arith}
use Rattle.scanners.specs.Place.{Stands}
use Rattle.scanners.proofs.Choice.{start_none, start_at}
use Rattle.scanners.proofs.Stands.{peeked}
use Rattle.scanners.proofs.o200k_family.start_of.Goals as goal

pub returns-in-None : goal.returns-in-None
returns-in-None c = start_none c.in-None.ensures

pub returns-in-Some-Ascii : goal.returns-in-Some-Ascii
returns-in-Some-Ascii c =
    let h = peeked _ _ c.in-Some-Ascii.field-0-is c.in-Some-Ascii.ensures in
    let q : c.args.start.pos + 1 ≡ 1 = omega (arith, c.requires) in
    c.ascii_start.ensures ∙ start_at _ _ _ _ (subst (Stands c.args.start.bytes.now c.args.start.pos c.in-Some-Ascii.b.byte) q h.here)

pub returns-in-Some-Wide : goal.returns-in-Some-Wide
returns-in-Some-Wide c = c.wide_start.ensures ∙ start_at _ _ _ _ (peeked _ _ c.in-Some-Wide.field-0-is c.in-Some-Wide.ensures).0.here
