-- What a byte stands for as a hex digit.
use Rattle.std.specs.Prelude.{ℕ, ◌-◌, ◌&&◌, leb, Option, Some, None, if◌then◌else◌}

-- `0` to `9`, and `a` to `f`
abbrev pub hex_value : ℕ → Option ℕ
hex_value b = (if leb 48 b && leb b 57 then Some (b - 48) else (if leb 97 b && leb b 102 then Some (b - 87) else None))
