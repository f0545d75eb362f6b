-- Bytes written over the front of a lent list, one piece behind the other, as equations of the list alone.
use Prim.Native.Nat.{ℕ, suc, ◌+◌, ◌-◌, ◌<◌, ◌≤◌}
use mathlib.Core.List.{List, [], ◌∷◌, ◌++◌, append_assoc, append-nil}
use mathlib.Core.Path.{◌≡◌, sym, ◌∙◌, ap}
use native.Mathlib.Omega.{arith}
use lib.ListN.{length, take, drop, set, get_or, length-append, length-drop}
use lib.Seq.{take-length, take_all, take-append_seam, drop-append_seam, drop-drop, drop-length, set_at, drop-cons, append_snoc}
use borrow.Rule.Slice.PartMut.{put_mid}
use Rattle.listing.specs.Listing.{line, on_front}

pub front_length : (v old : List ℕ) → length v ≤ length old → length (on_front v old) ≡ length old
front_length v old h = omega (arith, length-append v (drop (length v) old), length-drop (length v) old)

pub front_fits : (v old l : List ℕ) → l ≡ on_front v old → length v ≤ length l
front_fits v old l e = omega (arith, ap length e, length-append v (drop (length v) old))

-- all of v, and what stood behind it
pub copied : (v old : List ℕ) → take (length v) v ++ drop (length v) old ≡ on_front v old
copied v old = ap (λ l. l ++ drop (length v) old) (take-length v)

-- a list with v on its front, and its part from there on
module _ (v old : List ℕ) {mid : List ℕ} {at : ℕ} (e : at ≡ length v) (m : mid ≡ on_front v old) where
  from_there : drop at mid ≡ drop (length v) old
  from_there = rw (e, m) (drop-append_seam v (drop (length v) old))

  pub rest : take (length mid - at) (drop at mid) ≡ drop (length v) old
  rest = rw from_there (take_all (length mid - at) (drop (length v) old) (omega (arith, ap length from_there, length-drop at mid)))

  -- room for w there
  module _ (w : List ℕ) (h : length (v ++ w) ≤ length old) where
    pub start : at ≤ length mid
    start = omega (arith, e, ap length m, length-append v (drop (length v) old))

    pub room : length w ≤ length (take (length mid - at) (drop at mid))
    room = rw rest (omega (arith, length-drop (length v) old, length-append v w))

  -- w written there
  pub behind : (w new : List ℕ) → new ≡ on_front w (take (length mid - at) (drop at mid)) → put_mid at (length mid - at) mid new ≡ on_front (v ++ w) old
  behind w new n =
      let a : take at mid ≡ v = rw (e, m) (take-append_seam v (drop (length v) old)) in
      let k : length (drop at mid) ≡ length mid - at = length-drop at mid in
      let z : drop (length mid - at) (drop at mid) ≡ [] = rw (← k) (drop-length (drop at mid)) in
      let b : new ≡ w ++ drop (length v + length w) old = n ∙ rw (rest, drop-drop) in
      rw (a, z, append-nil, b, length-append v w) (sym (append_assoc v w (drop (length v + length w) old)))

  -- LF written there
  pub ended : length v < length old → set mid at 10 ≡ on_front (line v) old
  ended h =
      let k : length (line v) ≡ suc (length v) = omega (arith, length-append v (10 ∷ [])) in
      rw (m, drop-cons old (length v) 0 h, set_at v (get_or old (length v) 0) (drop (suc (length v)) old) 10 at (sym e), k, append_snoc)
