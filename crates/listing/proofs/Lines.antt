-- The lines of some numbers, one after another.
use Prim.Native.Nat.{ℕ, ◌+◌, ◌<◌, ◌≤◌}
use mathlib.Core.List.{List, [], ◌∷◌, ◌++◌, append_assoc, append-nil}
use mathlib.Core.Path.{◌≡◌, refl, sym, ◌∙◌, ap}
use native.Mathlib.Omega.{arith}
use native.Mathlib.Numerals.{add-one}
use lib.ListN.{length, take, drop, get_or, length-append, take-append-drop}
use lib.Seq.{take-suc}
use Rattle.listing.specs.Listing.{decimal, line, lines}

lines_append : (xs ys : List ℕ) → lines (xs ++ ys) ≡ lines xs ++ lines ys
unfolding lines
lines_append [] ys = refl
lines_append (x ∷ xs) ys = ap (λ l. line (decimal x) ++ l) (lines_append xs ys) ∙ sym (append_assoc (line (decimal x)) (lines xs) (lines ys))

lines_one : (n : ℕ) → lines (n ∷ []) ≡ line (decimal n)
unfolding lines
lines_one n = append-nil (line (decimal n))

pub lines_next : (ns : List ℕ) (i : ℕ) → i < length ns → lines (take (i + 1) ns) ≡ lines (take i ns) ++ line (decimal (get_or ns i 0))
lines_next ns i h = rw (add-one, take-suc ns i 0 h) (lines_append (take i ns) (get_or ns i 0 ∷ []) ∙ ap (λ l. lines (take i ns) ++ l) (lines_one (get_or ns i 0)))

pub lines_within : (ns : List ℕ) (i : ℕ) → length (lines (take i ns)) ≤ length (lines ns)
lines_within ns i =
    let e = ap length (ap lines (sym (take-append-drop i ns)) ∙ lines_append (take i ns) (drop i ns)) in
    omega (arith, e, length-append (lines (take i ns)) (lines (drop i ns)))
