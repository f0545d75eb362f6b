-- `scanners::o200k_family::try_suffix` meets its contract: with contractions on and an apostrophe in front the rows say what the table says (`suffix_fits`).
use mathlib.Core.Bool.{not}
use mathlib.Core.Path.{◌≡◌, sym, ap, ap₂, ◌∙◌}
use native.Mathlib.Omega.{arith}
use Rattle.std.specs.Option.{unwrap_or}
use lib.ListN.{get_or}
use Rattle.utf8.specs.Utf8.{chars_at}
use Rattle.utf8.proofs.Says.{there}
use Rattle.scanners.specs.Scan.{suffix_span}
use Rattle.scanners.specs.Suffix.{lowered, first_row, suffix_rows}
use Rattle.scanners.proofs.Stands.{stands_ascii}
use Rattle.scanners.proofs.Suffix.{suffix_fits, suffix_room, no_suffix, width_off, width_on}
use Rattle.scanners.proofs.o200k_family.try_suffix.Goals as goal
use Rattle.scanners.proofs.o200k_family.try_suffix.Goals.{After-unwrap_or, then-not-contractions-via-then-not-contractions, then-not-contractions-via-else-not-contractions+then-byte_at-ne39}

-- the apostrophe stands there, and the row is the suffix
fits : (c : After-unwrap_or) → c.unwrap_or.result ≡ suffix_span (chars_at c.args.at.bytes.now c.args.at.pos)
fits c =
    let q : get_or c.args.at.bytes.now c.args.at.pos 0 ≡ 0x27 = sym c.byte_at.ensures ∙ c.if-byte_at-ne39.false in
    let quoted = stands_ascii _ _ c.args.at.whole (there c.args.at.bytes.now c.args.at.pos (omega arith)) (sym q) (omega arith) in
    let b = c.to_ascii_lowercase-b.ensures ∙ ap lowered c.byte_at-2.ensures in
    let d = c.to_ascii_lowercase-d.ensures ∙ ap lowered c.byte_at-3.ensures in
    c.unwrap_or.ensures ∙ ap (λ r. unwrap_or r 0) (c.suffix_row.ensures ∙ ap₂ (first_row suffix_rows) b d) ∙ sym (suffix_fits _ _ quoted)

pub returns-then-not-contractions : goal.returns-then-not-contractions
returns-then-not-contractions c =
    let cs = chars_at c.args.at.bytes.now c.args.at.pos in
    elim c.then-not-contractions.branch [
      | then-not-contractions-via-then-not-contractions w ↦ omega (arith, width_off c.args.contractions cs (ap not w.if-not-contractions.true))
      | then-not-contractions-via-else-not-contractions+then-byte_at-ne39 w ↦
          omega (arith, width_on c.args.contractions cs (ap not w.if-not-contractions.false), no_suffix c.args.at.bytes.now c.args.at.pos c.args.at.whole (λ q. w.if-byte_at-ne39.true (w.byte_at.ensures ∙ q)))
    ]

pub overflow_add-result : goal.overflow_add-result
overflow_add-result c = omega (arith, fits (goal.at.overflow_add-result c).After-unwrap_or, suffix_room (chars_at c.args.at.bytes.now c.args.at.pos), c.args.at.whole)

pub returns : goal.returns
returns c = omega (arith, fits (goal.at.returns c).After-unwrap_or, width_on c.args.contractions (chars_at c.args.at.bytes.now c.args.at.pos) (ap not c.if-not-contractions.false))
