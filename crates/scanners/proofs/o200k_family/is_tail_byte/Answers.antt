-- `scanners::o200k_family::is_tail_byte` meets its contract: CR, LF and, with the slash option, slash (`tail_is`).
use mathlib.Core.Bool.{Bool, true, ◌||◌ as or, ◌&&◌ as and}
use mathlib.Core.Path.{◌≡◌, sym, ap, ◌∙◌}
use Prim.Native.Nat.{ℕ}
use Rattle.pattern.proofs.Step.{is, newline, tail}
use Rattle.pattern.proofs.Sets.{tail_is}
use Rattle.scanners.proofs.o200k_family.is_tail_byte.Goals as goal

by : (s : Bool) (b : ℕ) {n t : Bool} → newline b ≡ n → s ≡ t → or n (and t (is 47 b)) ≡ tail s b
by s b {n} e f = sym (tail_is s b ∙ ap (λ n. or n (and s (is 47 b))) e ∙ ap (λ s. or n (and s (is 47 b))) f)

newline_in : (s : Bool) (b : ℕ) → newline b ≡ true → true ≡ tail s b
newline_in s b e = sym (tail_is s b ∙ ap (λ n. or n (and s (is 47 b))) e)

pub returns-then-is_newline : goal.returns-then-is_newline
returns-then-is_newline c =
    let t = c.if-is_newline.true in
    t ∙ newline_in c.args.slash c.args.b (sym c.is_newline.ensures ∙ t)

pub returns-then-slash : goal.returns-then-slash
returns-then-slash c = let a = c.args in by a.slash a.b (sym c.is_newline.ensures ∙ c.if-is_newline.false) c.if-slash.true
