-- `scanners::o200k_family::Kind::has_ascii` meets its contract: the byte tests tell the class.
use mathlib.Core.Path.{sym, ap, ◌∙◌}
use Rattle.pattern.specs.Regex.{holds}
use Rattle.scanners.specs.Scan.{in_kind}
use Rattle.scanners.proofs.o200k_family.Kind.has_ascii.Goals as goal

pub returns-in-Number : goal.returns-in-Number
unfolding holds
returns-in-Number c =
    let b = c.args.b.byte in
    c.is_digit.ensures ∙ sym (ap (λ d. in_kind d b) c.in-Number.is)

pub returns-in-White : goal.returns-in-White
unfolding holds
returns-in-White c =
    let b = c.args.b.byte in
    c.is_white.ensures ∙ sym (ap (λ d. in_kind d b) c.in-White.is)
