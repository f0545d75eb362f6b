-- A range of values that have one class.
use Rattle.std.specs.Prelude.{ℕ}
use Rattle.classes.specs.declared.Class.{Class}

pub record Range : Type 0 where
  pub from : ℕ
  pub to : ℕ
  pub is : Class

abbrev pub range : ℕ → ℕ → Class → Range
range a z k = record { from = a; to = z; is = k }
