-- `scanners::o200k_family::scan_tail` meets its contract: the tail is a set of ASCII characters, so its bytes are its characters.
use mathlib.Core.Path.{◌∙◌}
use native.Mathlib.Omega.{arith}
use Rattle.scanners.proofs.Bytes.{tail_run, tail_room}
use Rattle.scanners.proofs.o200k_family.scan_tail.Goals as goal

pub overflow_add-result : goal.overflow_add-result
overflow_add-result c =
    let a = c.args in
    omega (arith, c.tail_len.ensures ∙ tail_run a.slash a.at.bytes.now a.at.pos c.args.at.whole, tail_room a.slash a.at.bytes.now a.at.pos c.args.at.whole)

pub returns : goal.returns
returns c = let a = c.args in omega (arith, c.tail_len.ensures ∙ tail_run a.slash a.at.bytes.now a.at.pos c.args.at.whole)
