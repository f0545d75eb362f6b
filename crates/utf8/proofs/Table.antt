-- What each of the nine ranges of lead bytes says.
use Prim.Native.Nat.{ℕ, ◌<◌, ◌≤◌}
use mathlib.Core.Path.{◌≡◌, refl}
use native.Mathlib.Omega.{arith}
use Rattle.utf8.specs.Utf8.{pick, within, lead_of}
use Rattle.utf8.specs.declared.Lead.{Lead}
use Rattle.std.specs.Prelude.{Option, None, Some}
use Rattle.utf8.specs.declared.Lead.TheVariants.{One, Two, Three, Four}
use Rattle.utf8.proofs.Tests.{in_range, below, above}

pub lead_e0 : lead_of 0xe0 ≡ Some (Three 0xa0 0xbf)
unfolding lead_of
lead_e0 = refl

pub lead_ed : lead_of 0xed ≡ Some (Three 0x80 0x9f)
unfolding lead_of
lead_ed = refl

pub lead_f0 : lead_of 0xf0 ≡ Some (Four 0x90 0xbf)
unfolding lead_of
lead_f0 = refl

pub lead_f4 : lead_of 0xf4 ≡ Some (Four 0x80 0x8f)
unfolding lead_of
lead_f4 = refl

-- a test of a range before others, passed and not
inside : (a b z : ℕ) (x y : Option Lead) → a ≤ b → b ≤ z → pick (within a b z) x y ≡ x
inside a b z x y g h = rw (in_range a b z g h)

past : (a b z : ℕ) (x y : Option Lead) {r : Option Lead} → z < b → y ≡ r → pick (within a b z) x y ≡ r
past a b z x y h e = rw (above a b z h) e

before : (a b z : ℕ) (x y : Option Lead) {r : Option Lead} → b < a → y ≡ r → pick (within a b z) x y ≡ r
before a b z x y h e = rw (below a b z h) e

module _ (b : ℕ) where
  pub lead_00 : b ≤ 0x7f → lead_of b ≡ Some One
  unfolding lead_of
  lead_00 h = inside _ b _ _ _ (omega arith) (omega arith)

  pub lead_c2 : 0xc2 ≤ b → b ≤ 0xdf → lead_of b ≡ Some Two
  unfolding lead_of
  lead_c2 g h = past _ b _ _ _ (omega arith) (inside _ b _ _ _ (omega arith) (omega arith))

  pub lead_e1 : 0xe1 ≤ b → b ≤ 0xec → lead_of b ≡ Some (Three 0x80 0xbf)
  unfolding lead_of
  lead_e1 g h = past _ b _ _ _ (omega arith) (past _ b _ _ _ (omega arith) (past _ b _ _ _ (omega arith) (inside _ b _ _ _ (omega arith) (omega arith))))

  pub lead_ee : 0xee ≤ b → b ≤ 0xef → lead_of b ≡ Some (Three 0x80 0xbf)
  unfolding lead_of
  lead_ee g h = past _ b _ _ _ (omega arith) (past _ b _ _ _ (omega arith) (past _ b _ _ _ (omega arith) (past _ b _ _ _ (omega arith) (past _ b _ _ _ (omega arith) (inside _ b _ _ _ (omega arith) (omega arith))))))

  pub lead_f1 : 0xf1 ≤ b → b ≤ 0xf3 → lead_of b ≡ Some (Four 0x80 0xbf)
  unfolding lead_of
  lead_f1 g h = past _ b _ _ _ (omega arith) (past _ b _ _ _ (omega arith) (past _ b _ _ _ (omega arith) (past _ b _ _ _ (omega arith) (past _ b _ _ _ (omega arith) (past _ b _ _ _ (omega arith) (past _ b _ _ _ (omega arith) (inside _ b _ _ _ (omega arith) (omega arith))))))))

  pub lead_none : 0x80 ≤ b → b ≤ 0xc1 → lead_of b ≡ None
  unfolding lead_of
  lead_none g h = past _ b _ _ _ (omega arith) (before _ b _ _ _ (omega arith) (before _ b _ _ _ (omega arith) (before _ b _ _ _ (omega arith) (before _ b _ _ _ (omega arith) (before _ b _ _ _ (omega arith) (before _ b _ _ _ (omega arith) (before _ b _ _ _ (omega arith) (before _ b _ _ _ (omega arith) (refl)))))))))

  pub lead_past : 0xf5 ≤ b → lead_of b ≡ None
  unfolding lead_of
  lead_past g = past _ b _ _ _ (omega arith) (past _ b _ _ _ (omega arith) (past _ b _ _ _ (omega arith) (past _ b _ _ _ (omega arith) (past _ b _ _ _ (omega arith) (past _ b _ _ _ (omega arith) (past _ b _ _ _ (omega arith) (past _ b _ _ _ (omega arith) (past _ b _ _ _ (omega arith) (refl)))))))))

-- what the check of a lead byte goes by
pub ruleset rows = (lead_00, lead_c2, lead_e0, lead_e1, lead_ed, lead_ee, lead_f0, lead_f1, lead_f4, lead_none, lead_past)
