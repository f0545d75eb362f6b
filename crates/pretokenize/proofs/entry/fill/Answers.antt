-- `pretokenize::entry::fill` meets its contract. The loop's invariant: what `Filling` says of the list, the count and the place, and
-- the groups that are known there.
use Prim.Native.Nat.{◌+◌, ◌<◌, ◌≤◌}
use mathlib.Core.Path.{◌≡◌, sym, subst}
use native.Mathlib.Omega.{arith}
use lib.ListN.{length}
use Rattle.std.proofs.lemmas.List.{set-get_or}
use Rattle.utf8.specs.Utf8.{chars_at}
use Rattle.pattern.specs.Answers.{token_end}
use Rattle.pattern.proofs.Accepted.{accepted, on}
use Rattle.pattern.proofs.Walk.{end_on, end_past}
use Rattle.scanners.specs.Scan.{Known}
use Rattle.pretokenize.proofs.Checks.{handed_on}
use Rattle.pretokenize.proofs.Part.{part_some, part_whole, part_end, part_known, known_next}
use Rattle.pretokenize.proofs.Filling.{begins, turns, stops_full, stops_over, refuses}
use Rattle.pretokenize.proofs.entry.fill.Goals as goal
use Rattle.pretokenize.proofs.entry.fill.Goals.{After-next_token-a}

-- past a token: its end, which is in the text and past its start
end : (c : After-next_token-a) → c.loop-count.at + c.next_token-a.result.len ≡ token_end c.args.o c.args.text.now c.loop-count.at
end c = part_end c.args.o c.args.text.now c.loop-count.at c.next_token-a.ensures.len

in_text : (c : After-next_token-a) → (token_end c.args.o c.args.text.now c.loop-count.at ≤ length c.args.text.now) × (c.loop-count.at < token_end c.args.o c.args.text.now c.loop-count.at)
in_text c = let h = c.loop-count.invariant.1.on in ((end_on _ _ _ h).room, end_past _ _ _ h (omega (arith, h.room, c.if-at-text.false)))

pub returns-in_err-checked : goal.returns-in_err-checked
returns-in_err-checked c = rw (handed_on _ c.from_residual.ensures.1) (refuses _ _ _ _ c.in_err-checked.ensures)

pub loop-count-init : goal.loop-count-init
loop-count-init c =
    let h = accepted _ _ _ (sym c.in_ok-checked.ensures) in
    (h.small, begins _ _ _ _ (on h), (λ z. absurd (omega arith)))

pub returns-then-at-text : goal.returns-then-at-text
returns-then-at-text c = rw set-get_or (stops_over _ _ _ _ (sym c.in_ok-checked.ensures) c.loop-count.invariant.1 (omega arith))

pub next_token-a-requires : goal.next_token-a-requires
next_token-a-requires c =
    let l = c.loop-count in
    record { whole = part_whole c.args.text.now l.at l.invariant.1.on; bytes_nonzero = part_some c.args.text.now l.at (omega (arith, l.invariant.1.on.room, c.if-at-text.false)); known = part_known c.args.o c.args.text.now l.at l.invariant.2 }

pub overflow_add-at : goal.overflow_add-at
overflow_add-at c = let d = (goal.at.overflow_add-at c).After-next_token-a in omega (arith, end d, in_text d)

pub overflow_cast-end : goal.overflow_cast-end
overflow_cast-end c = let d = (goal.at.overflow_cast-end c).After-next_token-a in omega (arith, end d, in_text d, d.loop-count.invariant.0)

pub loop-count-preserved : goal.loop-count-preserved
loop-count-preserved c =
    let d = (goal.at.loop-count-preserved c).After-next_token-a in
    let a = c.args in
    let l = c.loop-count in
    let k = known_next a.o a.text.now l.at c.next_token-a.ensures in
    (l.invariant.0, turns _ _ _ _ l.invariant.1 (omega arith) (omega (arith, l.invariant.1.on.room, c.if-at-text.false)) (end d), subst (λ e. Known a.o (chars_at a.text.now e) c.next_token-a.result.groups) (sym (end d)) k)

pub returns : goal.returns
returns c =
    let e : length c.loop-count.ends ≡ c.loop-count.count = omega arith in
    rw e (stops_full _ _ _ _ (sym c.in_ok-checked.ensures) c.loop-count.invariant.1 (omega arith))
