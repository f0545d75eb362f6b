-- `scanners::o200k_family::count_numbers` meets its contract: what was counted and the run from there on are the run.
use mathlib.Core.Path.{sym, ◌∙◌}
use native.Mathlib.Omega.{arith}
use Rattle.pattern.proofs.Step.{number}
use Rattle.scanners.proofs.Ended.{Went, goes, stops_count}
use Rattle.scanners.proofs.o200k_family.count_numbers.Goals as goal
use Rattle.scanners.proofs.o200k_family.count_numbers.Goals.{In-Some}

-- past a character of the run
past : (c : In-Some) → Went number c.loop-e.at.0.now c.loop-e.at.1.0 c.in-Some.e
past c = goes number _ _ c.loop-e.invariant.0 (sym c.number_end.ensures ∙ c.in-Some.is)

pub loop-e-smaller : goal.loop-e-smaller
loop-e-smaller c = let g = past (goal.at.loop-e-smaller c).In-Some in omega (arith, g.past, g.whole)

pub loop-e-preserved : goal.loop-e-preserved
loop-e-preserved c = let g = past (goal.at.loop-e-preserved c).In-Some in (g.whole, omega (arith, g.count, c.loop-e.invariant.1), omega (arith, g.past), c.loop-e.invariant.3)

pub returns : goal.returns
returns c =
    let l = c.loop-e in
    omega (arith, l.invariant.1, stops_count number _ _ l.invariant.0 (sym c.number_end.ensures ∙ c.in_default.is))
