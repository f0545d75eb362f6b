use Prim.Native.Nat.{◌≤◌}
use lib.ListN.{length}
use Rattle.utf8.specs.Utf8.{chars_at}
use Rattle.pattern.specs.Answers.{limit}
use Rattle.scanners.specs.Scan.{Known}
use Rattle.pretokenize.proofs.Filling.{Filling}
use Rattle.pretokenize.proofs.entry.fill.Given as goal

abbrev pub invariant-loop-count : goal.invariant-loop-count
invariant-loop-count l = (length l.text ≤ limit) × Filling l.o l.text l.start l.initial.ends l.ends l.count l.at × Known l.o (chars_at l.text l.at) l.groups
