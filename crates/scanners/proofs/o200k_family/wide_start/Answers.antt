-- `scanners::o200k_family::wide_start` meets its contract: its class tells.
use mathlib.Core.Path.{sym, ap, ap₂, ◌∙◌}
use Rattle.std.specs.Prelude.{None}
use Rattle.utf8.specs.Utf8.{chars_at, width}
use Rattle.classes.specs.Classes.{class_of}
use Rattle.pattern.proofs.Step.{is_number, is_white}
use Rattle.scanners.specs.Scan.{moved}
use Rattle.scanners.specs.Start.{prefixed_start}
use Rattle.scanners.specs.declared.o200k_family.CaseState.TheVariants.{U}
use Rattle.scanners.specs.declared.o200k_family.Start.TheVariants.{Number}
use Rattle.scanners.proofs.Start.{wordy_stop}
use Rattle.scanners.proofs.Choice.{first_go, first_number, first_prefix, high_newline, high_space}
use Rattle.scanners.proofs.o200k_family.wide_start.Goals as goal

pub returns-in-Some : goal.returns-in-Some
returns-in-Some c =
    let p = c.requires in
    first_go c.args.cp _ (class_of c.args.cp) (sym (c.moved.ensures ∙ ap₂ (λ j e. moved j (U None) e) p.2 p.1) ∙ c.in-Some.is)

pub returns-then-has : goal.returns-then-has
returns-then-has c =
    let p = c.requires in
    ap Number p.1 ∙ first_number c.args.cp _ (class_of c.args.cp) (sym (c.has.ensures ∙ ap is_number p.2) ∙ c.if-has.true)

pub returns : goal.returns
returns c =
    let p = c.requires in
    let cp = c.args.cp in
    c.prefixed_start.ensures ∙ ap₂ (λ w i. prefixed_start w i (chars_at c.args.at.bytes.now c.args.at.pos)) (c.has-2.ensures ∙ ap is_white p.2) p.1
    ∙ first_prefix cp _ (class_of cp) (wordy_stop (class_of cp) (width cp) (sym (c.moved.ensures ∙ ap₂ (λ j e. moved j (U None) e) p.2 p.1) ∙ c.in_default.is))
    (sym (c.has.ensures ∙ ap is_number p.2) ∙ c.if-has.false) (high_newline cp p.0) (high_space cp p.0)
