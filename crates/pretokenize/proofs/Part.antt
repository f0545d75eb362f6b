-- The part of a text from a place on, as the scanners are lent it.
use Prim.Native.Nat.{ℕ, ◌+◌, ◌-◌, ◌<◌}
use mathlib.Core.List.{List}
use mathlib.Core.Path.{◌≡◌, ap, ◌∙◌, sym, subst}
use native.Mathlib.Omega.{arith}
use lib.ListN.{length, take, drop, length-drop}
use lib.Seq.{drop-drop}
use Rattle.utf8.specs.Utf8.{chars, chars_at, widths}
use Rattle.utf8.proofs.At.{to_end, chars_to_end}
use Rattle.utf8.proofs.Chars.{chars_drop}
use Rattle.utf8.proofs.Place.{On}
use Rattle.pattern.specs.declared.Options.{Options}
use Rattle.pattern.specs.Pattern.{token}
use Rattle.pattern.specs.Answers.{token_end}
use Rattle.scanners.specs.Place.{Whole}
use Rattle.scanners.specs.Scan.{span, Known, Advanced}
use Rattle.pretokenize.proofs.Groups.{leaves_known}

abbrev part : List ℕ → ℕ → List ℕ
part s at = take (length s - at) (drop at s)

part_length : (s : List ℕ) (at : ℕ) → length (part s at) ≡ length s - at
part_length s at = ap length (to_end s at) ∙ length-drop at s

pub part_some : (s : List ℕ) (at : ℕ) → at < length s → 0 < length (part s at)
part_some s at h = omega (arith, part_length s at)

pub part_whole : (s : List ℕ) (at : ℕ) → On s at → Whole (part s at) 0
unfolding chars_at
part_whole s at h = omega (arith, h.rest, ap widths (chars_to_end s at), part_length s at)

-- past the token in front of it
pub part_end : (o : Options) (s : List ℕ) (at : ℕ) {n : ℕ} → n ≡ span (token o (chars (part s at))) (chars (part s at)) → at + n ≡ token_end o s at
unfolding token_end span
part_end o s at e = rw (e, chars_to_end s at)

after_token : (o : Options) (s : List ℕ) (at : ℕ) → chars_at s (token_end o s at) ≡ drop (token o (chars_at s at)) (chars_at s at)
unfolding chars_at token_end
after_token o s at = rw drop-drop at (chars_drop (token o (chars (drop at s))) (drop at s))

-- the groups that are known at a place, and at the next
pub part_known : (o : Options) (s : List ℕ) (at : ℕ) {g : ℕ} → Known o (chars_at s at) g → Known o (chars (part s at)) g
part_known o s at {g} k = subst (λ cs. Known o cs g) (sym (chars_to_end s at)) k

pub known_next : (o : Options) (s : List ℕ) (at : ℕ) {l g : ℕ} → Advanced o (chars (part s at)) l g → Known o (chars_at s (token_end o s at)) g
known_next o s at {l} {g} a = subst (λ cs. Known o cs g) (sym (after_token o s at)) (leaves_known o (chars_at s at) (subst (λ cs. Advanced o cs l g) (chars_to_end s at) a))
