-- `scanners::o200k_family::space_ascii` meets its contract: the byte tests tell the class.
use mathlib.Core.Path.{sym, ap, ◌∙◌}
use native.Mathlib.Omega.{arith}
use Rattle.classes.specs.Classes.{class_of}
use Rattle.classes.proofs.Bytes.{ascii_plain}
use Rattle.classes.specs.declared.Class.TheVariants.{Upper}
use Rattle.scanners.specs.declared.o200k_family.Start.TheVariants.{Letters}
use Rattle.scanners.proofs.Ascii.{class_test}
use Rattle.scanners.proofs.Choice.{space_letter, space_number, space_white_next, space_other}
use Rattle.scanners.proofs.o200k_family.space_ascii.Goals as goal

pub returns-then-is_letter : goal.returns-then-is_letter
returns-then-is_letter c =
    let b = c.args.b.byte in
    ap (λ st. Letters (record { end = c.args.end; state = st })) c.ascii_letter_state.ensures ∙ space_letter (class_of b) c.args.end _ (sym c.is_letter.ensures ∙ c.if-is_letter.true) (ascii_plain b c.args.b.low) (sym (class_test b (omega (arith, c.args.b.low)) Upper))

pub returns-then-is_digit : goal.returns-then-is_digit
returns-then-is_digit c =
    let b = c.args.b.byte in
    space_number (class_of b) c.args.end (sym c.is_digit.ensures ∙ c.if-is_digit.true)

pub returns-then-is_white : goal.returns-then-is_white
returns-then-is_white c =
    let b = c.args.b.byte in
    space_white_next (class_of b) c.args.end (sym c.is_white.ensures ∙ c.if-is_white.true)

pub returns : goal.returns
returns c =
    let b = c.args.b.byte in
    space_other (class_of b) c.args.end (sym c.is_letter.ensures ∙ c.if-is_letter.false) (ascii_plain b c.args.b.low)
    (sym c.is_digit.ensures ∙ c.if-is_digit.false) (sym c.is_white.ensures ∙ c.if-is_white.false)
