-- What the checks say of a call that passes, and that it passes where they hold.
use Prim.Native.Nat.{ℕ, ◌≤◌}
use mathlib.Core.Bool.{Bool, true, false}
use mathlib.Core.List.{List}
use mathlib.Core.Path.{◌≡◌, refl}
use native.Mathlib.Omega.{arith}
use lib.Dec.{ltb}
use lib.ListN.{length}
use borrow.Author.Tests.{le-ltb, ltb-false}
use Rattle.utf8.specs.Utf8.{chars, valid_length, Valid, char_start}
use Rattle.utf8.proofs.Inverse.{valid_room}
use Rattle.utf8.proofs.Place.{start_le, On, on_start}
use Rattle.pattern.specs.declared.Options.{Options}
use Rattle.pattern.specs.Answers.{Found, passes, limit, row, checks}

-- the call breaks no row: options, text and start are accepted
pub record Accepted (o : Options) (s : List ℕ) (at : ℕ) : Type 0 where
  pub mode : o.digits ≤ 2
  pub small : length s ≤ limit
  pub valid : Valid s
  pub inside : at ≤ length s
  pub start : char_start (chars s) at ≡ at

row_passes : (n : ℕ) (t : Bool) (place : ℕ) (later : Found) → row n t place later ≡ passes → (t ≡ false) × (later ≡ passes)
row_passes n true place later e = let z : ◌≡◌ {A = ℕ} 0 1 = cc in absurd (omega arith)
row_passes n false place later e = (refl, e)

pub accepted : (o : Options) (s : List ℕ) (at : ℕ) → checks o s at ≡ passes → Accepted o s at
unfolding checks
accepted o s at e =
    let c1 = row_passes 1 (ltb 2 o.digits) 0 _ e in
    let c2 = row_passes 2 (ltb limit (length s)) limit _ c1.1 in
    let c3 = row_passes 3 (ltb (valid_length s) (length s)) (valid_length s) _ c2.1 in
    let c4 = row_passes 4 (ltb (length s) at) (length s) _ c3.1 in
    let c5 = row_passes 5 (ltb (char_start (chars s) at) at) (char_start (chars s) at) _ c4.1 in
    record {
      mode = ltb-false _ _ c1.0;
      small = ltb-false _ _ c2.0;
      valid = omega (arith, valid_room s, ltb-false (valid_length s) (length s) c3.0);
      inside = ltb-false _ _ c4.0;
      start = omega (arith, start_le (chars s) at, ltb-false (char_start (chars s) at) at c5.0);
    }

pub accepts : (o : Options) (s : List ℕ) (at : ℕ) → Accepted o s at → checks o s at ≡ passes
unfolding checks
accepts o s at a =
    rw (le-ltb 2 o.digits a.mode, le-ltb limit (length s) a.small, le-ltb (valid_length s) (length s) (omega (arith, a.valid)), le-ltb (length s) at a.inside, le-ltb (char_start (chars s) at) at (omega (arith, a.start)))

-- an accepted start is a place at which a character begins, or the end
pub on : {o : Options} {s : List ℕ} {at : ℕ} → Accepted o s at → On s at
on {o} {s} {at} a = on_start s at a.valid a.inside a.start
