-- Past the first token of a run of digits grouped from the right the run is a multiple of three: the next token is three, and one group less is left.
use Prim.Native.Nat.{ℕ, zero, suc, ◌+◌, ◌-◌, ◌%◌, ◌<◌, ◌≤◌}
use mathlib.Core.Bool.{Bool, cond}
use mathlib.Core.List.{List, [], ◌∷◌}
use mathlib.Core.Path.{◌≡◌, refl, sym, ◌∙◌, ap}
use native.Mathlib.Omega.{arith}
use lib.ListN.{drop}
use Rattle.utf8.proofs.Tests.{by_bool}
use Rattle.classes.specs.Classes.{class_of}
use Rattle.classes.specs.declared.Class.TheVariants as k
use Rattle.classes.proofs.Scan.{same_is}
use Rattle.pattern.specs.declared.Options.{Options}
use Rattle.pattern.specs.Regex.{holds, run}
use Rattle.pattern.specs.Pattern.{token}
use Rattle.pattern.proofs.Runs.{run_step}
use Rattle.pattern.proofs.Step.{number, group_of, step_by, step}
use Rattle.pattern.proofs.ClosedForm.{token_is_step}
use Rattle.scanners.specs.Scan.{span, groups, NextGroup, Known, Advanced}

run_nil : (p : ℕ → Bool) → run p [] ≡ 0
unfolding run
run_nil p = refl

-- the run that is left past n of it
run_drop : (p : ℕ → Bool) (n : ℕ) (cs : List ℕ) → n ≤ run p cs → n + run p (drop n cs) ≡ run p cs
run_drop p zero cs h = omega arith
run_drop p (suc n) [] h = absurd (omega (arith, run_nil p))
run_drop p (suc n) (c ∷ cs) h = by_bool (p c)
    (λ t. let e : run p (c ∷ cs) ≡ suc (run p cs) = run_step p c cs ∙ ap (λ b. cond b (suc (run p cs)) 0) t in omega (arith, run_drop p n cs (omega arith)))
    (λ t. let e : run p (c ∷ cs) ≡ 0 = run_step p c cs ∙ ap (λ b. cond b (suc (run p cs)) 0) t in absurd (omega arith))

-- a token of a run of digits
number_token : (o : Options) (cs : List ℕ) → 1 ≤ run number cs → token o cs ≡ group_of o.digits (run number cs)
unfolding step step_by holds
number_token o [] h = absurd (omega (arith, run_nil number))
number_token o (c ∷ cs) h = by_bool (number c)
    (λ t. token_is_step o (c ∷ cs) ∙ ap (λ j. step_by o j c cs) (same_is k.Number (class_of c) t) ∙ ap (group_of o.digits) (sym (run_step number c cs ∙ ap (λ b. cond b (suc (run number cs)) 0) t)))
    (λ t. let e : run number (c ∷ cs) ≡ 0 = run_step number c cs ∙ ap (λ b. cond b (suc (run number cs)) 0) t in absurd (omega arith))

-- THE GROUPS that a token leaves
pub next_group : (o : Options) (cs : List ℕ) (g : ℕ) → groups o.digits (run number cs) ≡ suc g → NextGroup o (drop (token o cs) cs) g
unfolding group_of
next_group o cs g q = by o.digits refl q
  where
    by : (d : ℕ) → o.digits ≡ d → groups d (run number cs) ≡ suc g → NextGroup o (drop (token o cs) cs) g
    by zero m q = absurd (omega arith)
    by (suc zero) m q = absurd (omega arith)
    by (suc (suc d)) m q =
        let n = run number cs in
        let t : token o cs ≡ (n - 1) % 3 + 1 = number_token o cs (omega arith) ∙ ap (λ d. group_of d n) m in
        let r = run_drop number (token o cs) cs (omega arith) in
        let ds = drop (token o cs) cs in
        record {
          three = number_token o ds (omega arith) ∙ ap (λ d. group_of d (run number ds)) m ∙ omega arith;
          enough = omega arith;
          left = ap (λ d. groups d (run number ds)) m ∙ omega arith;
        }

-- what a token leaves is known of what comes after it
pub leaves_known : (o : Options) (cs : List ℕ) {l g : ℕ} → Advanced o cs l g → Known o (drop (token o cs) cs) g
leaves_known o cs {l} {g} a h = next_group o cs (g - 1) (sym a.left ∙ omega arith)

-- a whole group is what digit mode 1 takes
pub known_token : (o : Options) (cs : List ℕ) {d l r g : ℕ} → Known o cs g → 0 < g → d ≡ 1 → Advanced (record { contractions = o.contractions; digits = d; slash = o.slash }) cs l r → Advanced o cs l (g - 1)
unfolding group_of
known_token o cs {d} {l} {r} {g} k h e a =
    let n = k h in
    let t : token (record { contractions = o.contractions; digits = d; slash = o.slash }) cs ≡ 3 = number_token _ cs (omega (arith, n.enough)) ∙ rw e (omega (arith, n.enough)) in
    record { len = a.len ∙ ap (λ m. span m cs) (t ∙ sym n.three); left = sym n.left }
