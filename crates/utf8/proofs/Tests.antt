-- By cases on a test, with what the test says of its parts or of its numbers.
use Prim.Native.Nat.{ℕ, ◌<◌, ◌≤◌}
use mathlib.Core.Bool.{Bool, true, false, cond, not, ◌&&◌}
use mathlib.Core.Path.{◌≡◌, refl, sym}
use native.Mathlib.Omega.{arith}
use lib.Dec.{leb}
use borrow.Author.Tests.{le-leb, lt-leb, leb-true, leb-false}
use Rattle.utf8.specs.Utf8.{pick, within}

pub by_bool : {P : Type 0} (b : Bool) → (b ≡ true → P) → (b ≡ false → P) → P
by_bool true f g = f refl
by_bool false f g = g refl

pub by_cond : {A : Type 0} (P : A → Type 0) (b : Bool) {x y : A} → P x → P y → P (cond b x y)
by_cond P true f g = f
by_cond P false f g = g

pub by_le : {P : Type 0} (a b : ℕ) → (a ≤ b → P) → (b < a → P) → P
by_le a b f g = by_bool (leb a b) (λ e. f (leb-true a b e)) (λ e. g (leb-false a b e))

pub by_within : {A : Type 0} (P : A → Type 0) (a b z : ℕ) {x y : A} → (a ≤ b → b ≤ z → P x) → P y → P (pick (within a b z) x y)
by_within P a b z {x} {y} f g = go (leb a b) (leb b z) (leb-true a b) (leb-true b z)
  where
    go : (s t : Bool) → (s ≡ true → a ≤ b) → (t ≡ true → b ≤ z) → P (pick (pick s t false) x y)
    go true true p q = f (p refl) (q refl)
    go true false p q = g
    go false t p q = g

pub never : {P : Type 0} → true ≡ false → P
never e = absurd (let z : ◌≡◌ {A = ℕ} 0 1 = cc in omega arith)

pub not_true : (b : Bool) → not b ≡ true → b ≡ false
not_true true e = sym e
not_true false e = refl

pub and_both : (a b : Bool) → (a && b) ≡ true → (a ≡ true) × (b ≡ true)
and_both true b e = (refl, e)
and_both false b e = never (sym e)

pub both : (a b : Bool) → pick a b false ≡ true → (a ≡ true) × (b ≡ true)
both true b e = (refl, e)
both false b e = never (cc)

-- a test before others: where all pass, it does and they do
pub passed : (b : Bool) {later : Bool} → (elim b as (λ _. Bool) [ true ↦ later | false ↦ false ]) ≡ true → (b ≡ true) × (later ≡ true)
passed true e = (refl, e)
passed false e = never (sym e)

-- a test of a range, both ways
pub in_range : (a b z : ℕ) → a ≤ b → b ≤ z → within a b z ≡ true
in_range a b z g h = rw (le-leb a b g, le-leb b z h)

pub below : (a b z : ℕ) → b < a → within a b z ≡ false
below a b z g = rw (lt-leb a b g)

pub above : (a b z : ℕ) → z < b → within a b z ≡ false
above a b z h = by_le a b (λ g. rw (le-leb a b g, lt-leb b z h)) (below a b z)

pub range_true : (a b z : ℕ) → within a b z ≡ true → (a ≤ b) × (b ≤ z)
range_true a b z e = let h = both (leb a b) (leb b z) e in (leb-true a b h.0, leb-true b z h.1)
