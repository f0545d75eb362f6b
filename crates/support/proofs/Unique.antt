-- No two answers satisfy the contract of a public function; that of `read_full` leaves open when a reader fails, and what it has.
use mathlib.Core.Path.{◌≡◌, sym, ◌∙◌, subst}
use Prim.Native.Nat.{ℕ, ◌<◌, ◌≤◌}
use Rattle.std.specs.Prelude.{Option, Some, None, Ok, List, length, take, min}
use Rattle.std.specs.Io.KnownBytes.{Consumes, IsAtEnd}
use Rattle.std.proofs.Common.{arith, ap, length-append, length-take-le, take_at}
use Rattle.std.proofs.lemmas.List.{same_lists}
use Rattle.support.proofs.hex_digit.Reads as hex_digit
use Rattle.support.proofs.filled.Reads as filled
use Rattle.support.proofs.read_full.Reads as read_full

pub hex_digit_one : (κs : _) (a : _) (e e' : _) {x y : Option ℕ} → hex_digit.Post κs a x e → hex_digit.Post κs a y e' → x ≡ y
hex_digit_one κs a e e' p q = p ∙ sym q

pub filled_one : (g : _) (κs : _) (t : _) (a : _) (e e' : _) {x y : List ℕ} → filled.Post g κs t a x e → filled.Post g κs t a y e' → x ≡ y
filled_one g κs t a e e' {x} {y} p q = same_lists x y (sym p.0 ∙ q.0) (λ k d h. p.1 k d h ∙ sym (q.1 k d (subst (λ n. k < n) (sym p.0 ∙ q.0) h)))

-- what is read of an input whose bytes are known
given : (xs buf : List ℕ) (new : Option (List ℕ)) (n : ℕ) → n ≤ length buf → Consumes (Some xs) new (take n buf) → (n < length buf → IsAtEnd new) → (n ≡ min (length buf) (length xs)) × (take n buf ≡ take n xs)
given xs buf None n h c e = absurd c
given xs buf (Some ys) n h c e =
    let k = length-take-le n buf h in
    (grind (arith, ap length c, length-append (take n buf) ys, k, e), sym (ap (take n) c ∙ take_at (take n buf) ys n k))

-- of an input whose bytes are known, two reads into one buffer give the same
pub read_full_one : (g : _) (κs : _) (r : _) (o : _) (l : _) (a : _) (e e' : _) {n m : ℕ} (xs : List ℕ) → read_full.Post g κs r o l a (Ok n) e → read_full.Post g κs r o l a (Ok m) e' → r.remaining a.0.now ≡ Some xs → length e.1.0.now ≡ length e'.1.0.now → (n ≡ m) × (take n e.1.0.now ≡ take m e'.1.0.now)
read_full_one g κs r o l a e e' {n} {m} xs p q h k =
    let u = given xs _ _ n p.0.0 (subst (λ i. Consumes i (r.remaining e.0.now) (take n e.1.0.now)) h p.1.0) p.1.1.0 in
    let v = given xs _ _ m q.0.0 (subst (λ i. Consumes i (r.remaining e'.0.now) (take m e'.1.0.now)) h q.1.0) q.1.1.0 in
    let s : n ≡ m = u.0 ∙ ap (λ i. min i (length xs)) k ∙ sym v.0 in
    (s, u.1 ∙ ap (λ i. take i xs) s ∙ sym v.1)
