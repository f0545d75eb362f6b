-- `pretokenize::entry::next_token` meets its contract: a known group is what digit mode 1 takes.
use native.Mathlib.Omega.{arith}
use Rattle.pretokenize.proofs.Groups.{known_token}
use Rattle.pretokenize.proofs.entry.next_token.Goals as goal

pub returns-then-groups-gt0-2 : goal.returns-then-groups-gt0-2
returns-then-groups-gt0-2 c = known_token c.args.o _ c.requires.known (omega arith) (omega arith) c.advance_pos-a.ensures
