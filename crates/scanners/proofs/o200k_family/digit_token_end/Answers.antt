-- `scanners::o200k_family::digit_token_end` meets its contract: by digit mode.
use native.Mathlib.Omega.{arith}
use Rattle.scanners.proofs.Digits.{digits_one, digits_three, digits_high, digits_as}
use Rattle.scanners.proofs.o200k_family.digit_token_end.Goals as goal

pub returns-in-0 : goal.returns-in-0
returns-in-0 c = digits_as (digits_one _ c.args.first.whole c.requires) c.in-0.is c.plain.ensures.0 c.plain.ensures.1

pub returns-in-1 : goal.returns-in-1
returns-in-1 c = let p = c.plain-in-1.ensures in digits_as (digits_three _ c.args.first.whole c.requires c.scan_numbers_max3.ensures) c.in-1.is p.0 p.1

pub returns-in_default : goal.returns-in_default
returns-in_default c = digits_high c.args.digits (λ q. omega arith) (λ q. omega arith) c.right_aligned_digit_end.ensures
