-- The checks, row by row: what a call is told that passes the rows before.
use Prim.Native.Nat.{ℕ, ◌<◌, ◌≤◌}
use mathlib.Core.List.{List}
use mathlib.Core.Path.{◌≡◌, sym, ◌∙◌, ap}
use native.Mathlib.Omega.{arith}
use lib.Dec.{eqb}
use lib.ListN.{length}
use borrow.Author.Tests.{lt-ltb, le-ltb, eqb-true, eqb-false}
use Rattle.std.specs.Prelude.{Result, Err}
use Rattle.std.specs.Result.{IsErrAnd}
use Rattle.std.proofs.lemmas.Result.{err_from_is_err_and}
use Rattle.utf8.specs.Utf8.{chars, valid_length, Valid, char_start, Sound, BadAt, checked}
use Rattle.utf8.proofs.Tests.{by_bool, by_le}
use Rattle.utf8.proofs.Inverse.{valid_room}
use Rattle.utf8.proofs.Place.{start_le}
use Rattle.pattern.specs.declared.Options.{Options}
use Rattle.pattern.specs.Answers.{limit, passes, fails, checks}
use Rattle.pattern.proofs.Accepted.{accepts}

-- what the check of UTF-8 says
pub bad_is : (s : List ℕ) {p : ℕ} → BadAt p ≡ checked s → (p ≡ valid_length s) × (valid_length s < length s)
unfolding checked
bad_is s {p} e =
    by_bool (eqb (valid_length s) (length s))
    (λ t. absurd (let q : BadAt p ≡ Sound = rw t at e in let z : ◌≡◌ {A = ℕ} 0 1 = cc in omega arith))
    (λ t. let q : BadAt p ≡ BadAt (valid_length s) = rw t at e in let r : p ≡ valid_length s = cc in (r, by_le (length s) (valid_length s) (λ h. absurd (eqb-false (valid_length s) (length s) t (omega (arith, valid_room s)))) (λ h. h)))

pub valid_is : (s : List ℕ) → Sound ≡ checked s → Valid s
unfolding checked
valid_is s e =
    by_bool (eqb (valid_length s) (length s))
    (λ t. eqb-true (valid_length s) (length s) t)
    (λ t. absurd (let q : Sound ≡ BadAt (valid_length s) = rw t at e in let z : ◌≡◌ {A = ℕ} 0 1 = cc in omega arith))

-- each row, past those before it
module _ (o : Options) (s : List ℕ) (at : ℕ) where
  pub fails_1 : 2 < o.digits → checks o s at ≡ fails 1 0
  unfolding checks
  fails_1 a = rw (lt-ltb 2 o.digits a)

  module _ (a : o.digits ≤ 2) where
    pub fails_2 : limit < length s → checks o s at ≡ fails 2 limit
    unfolding checks
    fails_2 b = rw (le-ltb 2 o.digits a, lt-ltb limit (length s) b)

    module _ (b : length s ≤ limit) where
      pub fails_3 : valid_length s < length s → checks o s at ≡ fails 3 (valid_length s)
      unfolding checks
      fails_3 c = rw (le-ltb 2 o.digits a, le-ltb limit (length s) b, lt-ltb (valid_length s) (length s) c)

      pub damaged : {p : ℕ} → BadAt p ≡ checked s → checks o s at ≡ fails 3 p
      damaged e = let h = bad_is s e in fails_3 h.1 ∙ ap (fails 3) (sym h.0)

      module _ (c : Valid s) where
        pub fails_4 : length s < at → checks o s at ≡ fails 4 (length s)
        unfolding checks
        fails_4 d = rw (le-ltb 2 o.digits a, le-ltb limit (length s) b, le-ltb (valid_length s) (length s) (omega (arith, c)), lt-ltb (length s) at d)

        pub fails_5 : at ≤ length s → char_start (chars s) at < at → checks o s at ≡ fails 5 (char_start (chars s) at)
        unfolding checks
        fails_5 d f = rw (le-ltb 2 o.digits a, le-ltb limit (length s) b, le-ltb (valid_length s) (length s) (omega (arith, c)), le-ltb (length s) at d, lt-ltb (char_start (chars s) at) at f)

        pub passes_5 : at ≤ length s → at ≤ char_start (chars s) at → checks o s at ≡ passes
        passes_5 d f = accepts o s at (record { mode = a; small = b; valid = c; inside = d; start = omega (arith, start_le (chars s) at) })

-- each answer of the checks
pub ruleset rows = (valid_is, fails_1, fails_2, damaged, fails_4, fails_5, passes_5)

-- a refusal that is handed on whole
pub handed_on : {T E : Type 0} (r : Result T E) {e : E} → IsErrAnd r (λ y. y ≡ e) → r ≡ Err e
handed_on r h = let p = err_from_is_err_and r h in p.1 ∙ ap Err p.2
