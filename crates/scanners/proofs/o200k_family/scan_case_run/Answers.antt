-- `scanners::o200k_family::scan_case_run` meets its contract: the run from where it has come to ends where the whole run does.
use mathlib.Core.Path.{sym, ◌∙◌}
use native.Mathlib.Omega.{arith}
use Rattle.scanners.proofs.Case.{case_goes, case_stops}
use Rattle.scanners.proofs.o200k_family.scan_case_run.Goals as goal

pub loop-run-smaller : goal.loop-run-smaller
loop-run-smaller c = let g = case_goes _ _ c.loop-run.st c.loop-run.invariant.0 (sym c.case_turn.ensures ∙ c.in-Some.is) in omega (arith, g.past, g.whole)

pub loop-run-preserved : goal.loop-run-preserved
loop-run-preserved c = let g = case_goes _ _ c.loop-run.st c.loop-run.invariant.0 (sym c.case_turn.ensures ∙ c.in-Some.is) in (g.whole, c.loop-run.invariant.1 ∙ g.stop)

pub returns : goal.returns
returns c =
    let l = c.loop-run in
    c.finish.ensures ∙ sym (l.invariant.1 ∙ case_stops _ _ l.st l.invariant.0 (sym c.case_turn.ensures ∙ c.in_default.is))
