-- `scanners::o200k_family::scan_numbers_max3` meets its contract: by whether a number follows, and another.
use mathlib.Core.Path.{sym, ◌∙◌}
use Rattle.pattern.proofs.Step.{number}
use Rattle.scanners.proofs.Ended.{goes}
use Rattle.scanners.proofs.Digits.{more_none, more_some}
use Rattle.scanners.proofs.o200k_family.scan_numbers_max3.Goals as goal

pub returns-in_default : goal.returns-in_default
returns-in_default c = more_none _ _ c.args.at.whole (sym c.number_end.ensures ∙ c.in_default.is)

pub invariant_of-number_end : goal.invariant_of-number_end
invariant_of-number_end c = record { whole = (goes number _ _ c.args.at.whole (sym c.number_end.ensures ∙ c.in-Some.is)).whole }

pub returns : goal.returns
returns c = c.unwrap_or.ensures ∙ more_some _ _ c.args.at.whole (sym c.number_end.ensures ∙ c.in-Some.is) _ c.number_end-2.ensures
