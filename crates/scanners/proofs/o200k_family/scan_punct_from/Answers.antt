-- `scanners::o200k_family::scan_punct_from` meets its contract: the run is what was passed over and the run from there on.
use mathlib.Core.Path.{sym, ◌∙◌}
use native.Mathlib.Omega.{arith}
use Rattle.pattern.proofs.Step.{punct}
use Rattle.scanners.proofs.Ended.{Went, goes, stops}
use Rattle.scanners.proofs.o200k_family.scan_punct_from.Goals as goal
use Rattle.scanners.proofs.o200k_family.scan_punct_from.Goals.{In-Some}

-- past a character of the run
past : (c : In-Some) → Went punct c.loop-e.at.0.now c.loop-e.at.1.0 c.in-Some.e
past c = goes punct _ _ c.loop-e.invariant.0 (sym c.kind_end.ensures ∙ c.in-Some.is)

pub loop-e-smaller : goal.loop-e-smaller
loop-e-smaller c = let g = past (goal.at.loop-e-smaller c).In-Some in omega (arith, g.past, g.whole)

pub loop-e-preserved : goal.loop-e-preserved
loop-e-preserved c = let g = past (goal.at.loop-e-preserved c).In-Some in (g.whole, c.loop-e.invariant.1 ∙ g.wide)

pub returns : goal.returns
returns c =
    let l = c.loop-e in
    omega (arith, l.invariant.1, stops punct _ _ l.invariant.0 (sym c.kind_end.ensures ∙ c.in_default.is))
