-- `scanners::o200k_family::right_aligned_digit_end` meets its contract: by whether a second number follows, and a third.
use Prim.Native.Nat.{◌+◌, ◌/◌, ◌%◌}
use mathlib.Core.Path.{◌≡◌, refl, sym, ap, ◌∙◌}
use native.Mathlib.Omega.{arith}
use Rattle.std.specs.Prelude.{Some}
use Rattle.utf8.specs.Utf8.{chars_at}
use Rattle.pattern.proofs.Step.{number}
use Rattle.scanners.specs.Scan.{ended, aligned_end}
use Rattle.scanners.proofs.Ended.{Went, goes}
use Rattle.scanners.proofs.Digits.{begun, run_room, right_one, right_two, right_more, digits_as}
use Rattle.scanners.proofs.o200k_family.right_aligned_digit_end.Goals as goal
use Rattle.scanners.proofs.o200k_family.right_aligned_digit_end.Goals.{In-Some, In-Some-number_end}

-- the second and the third number, where they end
second : (c : In-Some) → ended number c.args.first.pos (chars_at c.args.first.bytes.now c.args.first.pos) ≡ Some c.in-Some.second
second c = sym c.number_end.ensures ∙ c.in-Some.is

two : (c : In-Some) → Went number c.args.first.bytes.now c.args.first.pos c.in-Some.second
two c = goes number _ _ (begun _ c.args.first.whole c.requires).whole (second c)

three : (c : In-Some-number_end) → Went number c.args.first.bytes.now c.in-Some.second c.in-Some-number_end.third
three c = goes number _ _ (goes number _ _ (begun _ c.args.first.whole c.requires).whole (sym c.number_end.ensures ∙ c.in-Some.is)).whole (sym c.number_end-2.ensures ∙ c.in-Some-number_end.is)

pub returns-in_default : goal.returns-in_default
returns-in_default c = digits_as (right_one _ c.args.first.whole c.requires (sym c.number_end.ensures ∙ c.in_default.is)) refl c.plain.ensures.0 c.plain.ensures.1

pub invariant_of-number_end : goal.invariant_of-number_end
invariant_of-number_end c = record { whole = (two (goal.at.invariant_of-number_end c).In-Some).whole }

pub returns-in_default-number_end : goal.returns-in_default-number_end
returns-in_default-number_end c =
    let p = c.plain-in_default-number_end.ensures in
    digits_as (right_two _ c.args.first.whole c.requires (sym c.number_end.ensures ∙ c.in-Some.is) (sym c.number_end-2.ensures ∙ c.in_default-number_end.is)) refl p.0 p.1

pub invariant_of-count_numbers : goal.invariant_of-count_numbers
invariant_of-count_numbers c = record { whole = (three (goal.at.invariant_of-count_numbers c).In-Some-number_end).whole }

pub aligned-requires : goal.aligned-requires
aligned-requires c =
    let g = goal.at.aligned-requires c in
    omega (arith, c.count_numbers-more.ensures, run_room number _ _ (three g.In-Some-number_end).whole, (three g.In-Some-number_end).past, (two g.In-Some).past, (begun _ c.args.first.whole c.requires).past)

pub returns : goal.returns
returns c =
    let second = c.in-Some.second in
    let third = c.in-Some-number_end.third in
    let n = c.count_numbers-more.ensures in
    right_more _ c.args.first.whole c.requires (sym c.number_end.ensures ∙ c.in-Some.is) (sym c.number_end-2.ensures ∙ c.in-Some-number_end.is)
    (c.aligned.ensures.0 ∙ ap (λ m. aligned_end c.args.first.pos second third (m % 3)) n) (c.aligned.ensures.1 ∙ ap (λ m. (m + 2) / 3) n)
