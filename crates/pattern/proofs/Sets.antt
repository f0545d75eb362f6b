-- The sets of the pattern: what the table says of the characters that they name, and two of them by others.
use mathlib.Core.Bool.{Bool, true, false, true≢false, ◌&&◌ as and, ◌||◌ as or, not, or-false}
use mathlib.Core.Path.{◌≡◌, refl, sym, ap}
use Prim.Native.Nat.{ℕ}
use lib.Dec.{eqb→eq}
use Rattle.classes.specs.Classes.{class_of, same, is_letter}
use Rattle.classes.specs.declared.Class.{Class}
use Rattle.classes.specs.declared.Class.TheVariants.{Number, Whitespace}
use Rattle.pattern.specs.Regex.{holds}
use Rattle.pattern.proofs.Step.{white, newline, prefix, tail, is, is_prefix, is_white}

-- what the table says of the characters that the pattern names
is_elim : (P : ℕ → Type 0) (a c : ℕ) → P a → is a c ≡ true → P c
is_elim P a c x e = rw (eqb→eq c a (rw e tt)) x

pub newline_elim : (P : ℕ → Type 0) → P 10 → P 13 → (c : ℕ) → newline c ≡ true → P c
unfolding holds
newline_elim P x y c e = go (is 13 c) refl (is 10 c) refl e
  where
    go : (a : Bool) → is 13 c ≡ a → (b : Bool) → is 10 c ≡ b → or a (or b false) ≡ true → P c
    go true p b q h = is_elim P 13 c y p
    go false p true q h = is_elim P 10 c x q
    go false p false q h = absurd (true≢false (sym h))

pub newline_white : (c : ℕ) → newline c ≡ true → class_of c ≡ Whitespace
unfolding class_of
newline_white = newline_elim (λ c. class_of c ≡ Whitespace) refl refl

pub newline_is_white : (c : ℕ) → newline c ≡ true → white c ≡ true
unfolding holds
newline_is_white c h = ap is_white (newline_white c h)

pub newline_is_not_space : (c : ℕ) → newline c ≡ true → is 32 c ≡ false
newline_is_not_space = newline_elim (λ c. is 32 c ≡ false) refl refl

pub space_white : (c : ℕ) → is 32 c ≡ true → class_of c ≡ Whitespace
unfolding class_of
space_white c e = is_elim (λ c. class_of c ≡ Whitespace) 32 c refl e

-- the tail: CR, LF and, with the slash option, slash
pub tail_is : (b : Bool) (c : ℕ) → tail b c ≡ or (newline c) (and b (is 47 c))
unfolding holds
tail_is true c = by (is 13 c) (is 10 c) (is 47 c)
  where
    by : (x y z : Bool) → or x (or y (or z false)) ≡ or (or x (or y false)) z
    by true y z = refl
    by false true z = refl
    by false false true = refl
    by false false false = refl
tail_is false c = sym (or-false (newline c))

pub prefix_is : (c : ℕ) → prefix c ≡ and (is_prefix (class_of c)) (not (newline c))
unfolding holds
prefix_is c = by (is 13 c) (is 10 c) (class_of c)
  where
    by : (a b : Bool) (k : Class) → not (or a (or b (or (is_letter k) (or (same Number k) false)))) ≡ and (is_prefix k) (not (or a (or b false)))
    by a b k = go a b (is_letter k) (same Number k)
      where
        go : (a b l n : Bool) → not (or a (or b (or l (or n false)))) ≡ and (not (or l n)) (not (or a (or b false)))
        go true b true n = refl
        go true b false true = refl
        go true b false false = refl
        go false true true n = refl
        go false true false true = refl
        go false true false false = refl
        go false false true n = refl
        go false false false true = refl
        go false false false false = refl
