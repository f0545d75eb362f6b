-- What a refusal says: its row's test, the tests of the rows before it, and its place. So the order is fixed.
use Prim.Native.Nat.{ℕ, ◌<◌, ◌≤◌}
use mathlib.Core.Bool.{Bool, true, false}
use mathlib.Core.List.{List}
use mathlib.Core.Path.{◌≡◌, refl, subst}
use lib.Dec.{ltb}
use lib.ListN.{length}
use borrow.Author.Tests.{ltb-true, ltb-false}
use native.Mathlib.Omega.{arith}
use Rattle.utf8.specs.Utf8.{chars, valid_length, Valid, char_start}
use Rattle.utf8.proofs.Inverse.{valid_room}
use Rattle.pattern.specs.declared.Options.{Options}
use Rattle.pattern.specs.Answers.{Found, passes, fails, limit, row, checks}

module _ (o : Options) (s : List ℕ) (at : ℕ) where
  -- the number and the place of each refusal, and when it is given
  pub data Refused : ℕ → ℕ → Type 0 where
    mode : 2 < o.digits → Refused 1 0
    long : o.digits ≤ 2 → limit < length s → Refused 2 limit
    damaged : o.digits ≤ 2 → length s ≤ limit → valid_length s < length s → Refused 3 (valid_length s)
    past : o.digits ≤ 2 → length s ≤ limit → Valid s → length s < at → Refused 4 (length s)
    inside : o.digits ≤ 2 → length s ≤ limit → Valid s → at ≤ length s → char_start (chars s) at < at → Refused 5 (char_start (chars s) at)

  -- what is found is no refusal, or one of these
  abbrev Told : Found → Type 0
  Told passes = Unit {0}
  Told (fails n place) = Refused n place

  told_row : (n : ℕ) (t : Bool) (place : ℕ) (later : Found) → (t ≡ true → Refused n place) → (t ≡ false → Told later) → Told (row n t place later)
  told_row n true place later f g = f refl
  told_row n false place later f g = g refl

  told : Told (checks o s at)
  unfolding checks
  told =
      told_row 1 (ltb 2 o.digits) 0 _ (λ e. mode (ltb-true _ _ e))
      (λ m. told_row 2 (ltb limit (length s)) limit _ (λ e. long (ltb-false _ _ m) (ltb-true _ _ e))
      (λ l. told_row 3 (ltb (valid_length s) (length s)) (valid_length s) _ (λ e. damaged (ltb-false _ _ m) (ltb-false _ _ l) (ltb-true _ _ e))
      (λ d. let v : Valid s = omega (arith, valid_room s, ltb-false (valid_length s) (length s) d) in
      told_row 4 (ltb (length s) at) (length s) _ (λ e. past (ltb-false _ _ m) (ltb-false _ _ l) v (ltb-true _ _ e))
      (λ p. told_row 5 (ltb (char_start (chars s) at) at) (char_start (chars s) at) _ (λ e. inside (ltb-false _ _ m) (ltb-false _ _ l) v (ltb-false _ _ p) (ltb-true _ _ e))
      (λ _. tt)))))

  pub refused_in_order : (n place : ℕ) → checks o s at ≡ fails n place → Refused n place
  refused_in_order n place e = subst Told e told
