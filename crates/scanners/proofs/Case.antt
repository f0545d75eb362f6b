-- A letter run in the closed form, character by character.
use Prim.Native.Nat.{ℕ, suc, ◌+◌, ◌<◌}
use mathlib.Core.Bool.{true, false}
use mathlib.Core.List.{List, [], ◌∷◌}
use mathlib.Core.Option.{Option as Last, none, some, get_or}
use Rattle.std.specs.Prelude.{Option, None, Some}
use Rattle.std.proofs.lemmas.Option.{same_Some}
use mathlib.Core.Path.{◌≡◌, refl, sym, ◌∙◌, ap, subst}
use native.Mathlib.Omega.{arith}
use native.Mathlib.Nat.{add-zero}
use Rattle.utf8.specs.Utf8.{chars_at, width, widths}
use Rattle.classes.specs.Classes.{class_of}
use Rattle.classes.specs.declared.Class.{Class}
use Rattle.classes.specs.declared.Class.TheVariants.{Upper, Lower, Caseless, Mark, Number, Whitespace, Other}
use Rattle.pattern.specs.Regex.{holds, run}
use Rattle.pattern.proofs.Runs.{last_step, last_in}
use Rattle.pattern.proofs.Step.{upperish, lowerish, is_upperish, is_lowerish, case_end}
use Rattle.scanners.specs.Place.{Whole, Stands}
use Rattle.scanners.specs.Scan.{span, run_width, come, moved, turned, finish, upper_stop, case_stop}
use Rattle.scanners.specs.declared.o200k_family.CaseState.{CaseState}
use Rattle.scanners.specs.declared.o200k_family.CaseState.TheVariants.{U, L}
use Rattle.scanners.specs.declared.o200k_family.LetterRun.{LetterRun}
use Rattle.scanners.proofs.Spans.{span_cons}
use Rattle.scanners.proofs.Stands.{by_stands}
use Rattle.scanners.proofs.Ended.{run_in, run_out}

-- no run both ends and goes on
pub stop_go : {P : Type 0} {r : LetterRun} → None ≡ Some r → P
stop_go q = absurd (let z : ◌≡◌ {A = ℕ} 0 1 = cc in omega arith)

come_end : {e f : ℕ} {st next : CaseState} → come e st ≡ come f next → e ≡ f
come_end q = ap LetterRun.end (same_Some _ _ q)

-- what a move says of the run's end
abbrev After : CaseState → ℕ → ℕ → List ℕ → Option LetterRun → Type 0
After st at c cs (Some r) = case_stop st at (c ∷ cs) ≡ case_stop r.state r.end cs
After st at c cs None = case_stop st at (c ∷ cs) ≡ finish st at

module _ (at c : ℕ) (cs : List ℕ) where
  abbrev w : ℕ
  w = width c

  -- the first character's class, and where the rest of the run has its last lower-case, caseless or mark
  front : (last : Option ℕ) {k : Class} {m : Last ℕ} → class_of c ≡ k → last_in upperish lowerish cs ≡ m
      → case_stop (U last) at (c ∷ cs) ≡ upper_stop (last_step (is_upperish k) (is_lowerish k) m (run lowerish cs)) last at (c ∷ cs)
  unfolding case_stop last_in holds
  front last {k} {m} e q =
      ap (λ j. upper_stop (last_step (is_upperish j) (is_lowerish j) (last_in upperish lowerish cs) (run lowerish cs)) last at (c ∷ cs)) e
      ∙ ap (λ o. upper_stop (last_step (is_upperish k) (is_lowerish k) o (run lowerish cs)) last at (c ∷ cs)) q

  back : (last : Option ℕ) (i : ℕ) {m : Last ℕ} → last_in upperish lowerish cs ≡ m → upper_stop m last i cs ≡ case_stop (U last) i cs
  unfolding case_stop
  back last i q = ap (λ o. upper_stop o last i cs) (sym q)

  span_suc : (n : ℕ) → at + span (suc n) (c ∷ cs) ≡ at + w + span n cs
  span_suc n = omega (arith, span_cons n c cs)

  upper_run : {k : Class} → class_of c ≡ k → is_upperish k ≡ true → at + run_width upperish (c ∷ cs) ≡ at + w + run_width upperish cs
  unfolding holds
  upper_run e t = omega (arith, run_in upperish c cs (ap is_upperish e ∙ t))

  no_upper : {k : Class} → class_of c ≡ k → is_upperish k ≡ false → at + run_width upperish (c ∷ cs) ≡ at
  unfolding holds
  no_upper e t = omega (arith, run_out upperish c cs (ap is_upperish e ∙ t))

  -- a lower-case letter: the run goes on in the state L
  lower : at + w + span (run lowerish cs) cs ≡ case_stop L (at + w) cs
  unfolding case_stop run_width
  lower = refl

  -- a caseless letter or a mark: it is the last such, unless another follows
  both : (last : Option ℕ) (m : Last ℕ) → last_in upperish lowerish cs ≡ m → case_stop (U last) at (c ∷ cs) ≡ upper_stop (last_step true true m (run lowerish cs)) last at (c ∷ cs)
      → case_stop (U last) at (c ∷ cs) ≡ case_stop (U (Some (at + w))) (at + w) cs
  unfolding span widths
  both last none q f = f ∙ span_suc 0 ∙ add-zero (at + w) ∙ back (Some (at + w)) (at + w) q
  both last (some n) q f = f ∙ span_suc n ∙ back (Some (at + w)) (at + w) q

  upper : (last : Option ℕ) (k : Class) → class_of c ≡ k → (m : Last ℕ) → last_in upperish lowerish cs ≡ m → After (U last) at c cs (moved k (U last) (at + w))
  upper last Upper e none q = front last e q ∙ ap (finish (U last)) (upper_run e refl) ∙ back last (at + w) q
  upper last Upper e (some n) q = front last e q ∙ span_suc n ∙ back last (at + w) q
  upper last Lower e m q = front last e q ∙ span_suc (run lowerish cs) ∙ lower
  upper last Caseless e m q = both last m q (front last e q)
  upper last Mark e m q = both last m q (front last e q)
  upper last Number e m q = front last e q ∙ ap (finish (U last)) (no_upper e refl)
  upper last Whitespace e m q = front last e q ∙ ap (finish (U last)) (no_upper e refl)
  upper last Other e m q = front last e q ∙ ap (finish (U last)) (no_upper e refl)

  on : {k : Class} → class_of c ≡ k → is_lowerish k ≡ true → case_stop L at (c ∷ cs) ≡ case_stop L (at + w) cs
  unfolding case_stop holds
  on e t = omega (arith, run_in lowerish c cs (ap is_lowerish e ∙ t))

  off : {k : Class} → class_of c ≡ k → is_lowerish k ≡ false → case_stop L at (c ∷ cs) ≡ at
  unfolding case_stop holds
  off e t = omega (arith, run_out lowerish c cs (ap is_lowerish e ∙ t))

  past_lower : (k : Class) → class_of c ≡ k → After L at c cs (moved k L (at + w))
  past_lower Upper e = off e refl
  past_lower Lower e = on e refl
  past_lower Caseless e = on e refl
  past_lower Mark e = on e refl
  past_lower Number e = off e refl
  past_lower Whitespace e = off e refl
  past_lower Other e = off e refl

after : (st : CaseState) (at c : ℕ) (cs : List ℕ) → After st at c cs (moved (class_of c) st (at + width c))
after (U last) at c cs = upper at c cs last (class_of c) refl (last_in upperish lowerish cs) refl
after L at c cs = past_lower at c cs (class_of c) refl

empty : (st : CaseState) (at : ℕ) → case_stop st at [] ≡ finish st at
unfolding case_stop last_in run_width span widths run
empty (U last) at = ap (finish (U last)) (add-zero at)
empty L at = add-zero at

-- THE RUN, character by character
pub record CaseWent (s : List ℕ) (at : ℕ) (st : CaseState) (e : ℕ) (next : CaseState) : Type 0 where
  pub past : at < e
  pub whole : Whole s e
  pub stop : case_stop st at (chars_at s at) ≡ case_stop next e (chars_at s e)

module _ (s : List ℕ) (at : ℕ) (st : CaseState) where
  pub turned_none : chars_at s at ≡ [] → None ≡ turned st at (chars_at s at)
  unfolding turned
  turned_none e = rw e

  pub turned_at : {c e : ℕ} {k : Class} → Stands s at c e → k ≡ class_of c → moved k st e ≡ turned st at (chars_at s at)
  unfolding turned
  turned_at h q = rw (h.then, ← q, h.wide)

  pub case_goes : {e : ℕ} {next : CaseState} → Whole s at → turned st at (chars_at s at) ≡ come e next → CaseWent s at st e next
  case_goes {e} {next} w q =
      by_stands s at w
      (λ c f h.
      let g : moved (class_of c) st (at + width c) ≡ come e next = ap (moved (class_of c) st) (sym h.wide) ∙ turned_at h refl ∙ q in
      let k : f ≡ e = ends st (class_of c) (turned_at h refl ∙ q) in
      record { past = rw k at h.past; whole = rw k at h.whole; stop = ap (case_stop st at) h.then ∙ subst (After st at c (chars_at s f)) g (after st at c (chars_at s f)) ∙ ap (λ i. case_stop next e (chars_at s i)) k })
      (λ n. stop_go (turned_none n ∙ q))
    where
      ends : (st : CaseState) (k : Class) {f e : ℕ} {next : CaseState} → moved k st f ≡ come e next → f ≡ e
      ends (U last) Upper q = come_end q
      ends L Upper q = stop_go q
      ends st Lower q = come_end q
      ends (U last) Caseless q = come_end q
      ends L Caseless q = come_end q
      ends (U last) Mark q = come_end q
      ends L Mark q = come_end q
      ends st Number q = stop_go q
      ends st Whitespace q = stop_go q
      ends st Other q = stop_go q

  pub case_stops : Whole s at → turned st at (chars_at s at) ≡ None → case_stop st at (chars_at s at) ≡ finish st at
  case_stops w q =
      by_stands s at w
      (λ c f h.
      let g : moved (class_of c) st (at + width c) ≡ None = ap (moved (class_of c) st) (sym h.wide) ∙ turned_at h refl ∙ q in
      ap (case_stop st at) h.then ∙ subst (After st at c (chars_at s f)) g (after st at c (chars_at s f)))
      (λ n. ap (case_stop st at) n ∙ empty st at)

-- from its first character on, the run ends where the closed form says
pub case_whole : (at : ℕ) (cs : List ℕ) → case_stop (U None) at cs ≡ at + span (case_end cs) cs
unfolding case_stop case_end run_width
case_whole at cs = by (last_in upperish lowerish cs)
  where
    by : (m : Last ℕ) → upper_stop m None at cs ≡ at + span (get_or m (run upperish cs)) cs
    by none = refl
    by (some n) = refl
