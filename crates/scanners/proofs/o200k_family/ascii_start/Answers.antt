-- `scanners::o200k_family::ascii_start` meets its contract: the byte tests tell the class.
use mathlib.Core.Path.{sym, ap, ◌∙◌}
use native.Mathlib.Omega.{arith}
use borrow.Author.Tests.{eq-eqb, ne_eqb}
use Rattle.utf8.specs.Utf8.{chars_at}
use Rattle.classes.proofs.Bytes.{ascii_plain}
use Rattle.classes.specs.declared.Class.TheVariants.{Upper}
use Rattle.scanners.specs.Start.{prefixed_start}
use Rattle.scanners.specs.declared.o200k_family.Start.TheVariants.{Letters}
use Rattle.scanners.proofs.Ascii.{class_test}
use Rattle.scanners.proofs.Choice.{ascii_letter_lem, ascii_number, ascii_prefix, first_space, first_newline}
use Rattle.scanners.proofs.o200k_family.ascii_start.Goals as goal

pub returns-then-is_letter : goal.returns-then-is_letter
returns-then-is_letter c =
    let b = c.args.b.byte in
    ap (λ st. Letters (record { end = c.args.at.pos; state = st })) c.ascii_letter_state.ensures ∙ ascii_letter_lem b _ _ _ c.requires (omega (arith, c.args.b.low)) (sym c.is_letter.ensures ∙ c.if-is_letter.true) (ascii_plain b c.args.b.low) (sym (class_test b (omega (arith, c.args.b.low)) Upper))

pub returns-then-b-eq32 : goal.returns-then-b-eq32
returns-then-b-eq32 c = let b = c.args.b.byte in c.after_space.ensures ∙ first_space b _ (eq-eqb b 32 (omega (arith, c.if-b-eq32.true)))

pub returns-then-is_digit : goal.returns-then-is_digit
returns-then-is_digit c =
    let b = c.args.b.byte in
    ascii_number b _ _ c.requires (omega (arith, c.args.b.low)) (sym c.is_digit.ensures ∙ c.if-is_digit.true)

pub returns-then-is_newline : goal.returns-then-is_newline
returns-then-is_newline c = let b = c.args.b.byte in first_newline b _ (sym c.is_newline.ensures ∙ c.if-is_newline.true)

pub returns : goal.returns
returns c =
    let b = c.args.b.byte in
    c.prefixed_start.ensures ∙ ap (λ w. prefixed_start w c.args.at.pos (chars_at c.args.at.bytes.now c.args.at.pos)) c.is_white.ensures
    ∙ ascii_prefix b _ _ c.requires (omega (arith, c.args.b.low)) (sym c.is_letter.ensures ∙ c.if-is_letter.false) (ascii_plain b c.args.b.low)
    (sym c.is_digit.ensures ∙ c.if-is_digit.false)
    (sym c.is_newline.ensures ∙ c.if-is_newline.false) (ne_eqb b 32 c.if-b-eq32.false)
