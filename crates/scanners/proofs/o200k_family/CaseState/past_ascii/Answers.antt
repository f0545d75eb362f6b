-- `scanners::o200k_family::CaseState::past_ascii` meets its contract: the byte tests tell the class, since ASCII has no caseless letter and no mark.
use mathlib.Core.Path.{sym, ◌∙◌}
use Rattle.classes.specs.Classes.{class_of}
use Rattle.classes.proofs.Bytes.{ascii_plain}
use Rattle.scanners.proofs.Ascii.{not_upper}
use Rattle.scanners.proofs.o200k_family.CaseState.past_ascii.Goals as goal

pub returns : goal.returns
returns c =
    let a = c.args in
    let u = sym c.is_upper.ensures ∙ c.if-is_upper.false in
    c.then_some.ensures ∙ not_upper (class_of a.b.byte) c.is_letter.ensures u (ascii_plain a.b.byte a.b.low) a.self a.end
