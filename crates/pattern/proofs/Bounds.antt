-- Every token has from one character to all of them.
use mathlib.Core.Bool.{Bool, true, false, cond, true≢false, ◌&&◌ as and}
use mathlib.Core.Path.{◌≡◌, refl, sym, ap}
use mathlib.Core.List.{List, [], ◌∷◌}
use mathlib.Core.Option.{Option, none, some, get_or}
use Prim.Native.Nat.{ℕ, zero, suc, ◌≤◌}
use native.Mathlib.Omega.{arith}
use Prim.Native.Char.{code}
use Prim.Native.String.count
use Prim.Native.String.{String, [] as []ˢ, ◌∷◌ as ◌∷ˢ◌, count}
use lib.ListN.{drop, length, length-drop}
use Rattle.utf8.proofs.Tests.{by_cond, and_both}
use Rattle.classes.specs.Classes.{class_of}
use Rattle.classes.specs.declared.Class.{Class}
use Rattle.classes.specs.declared.Class.TheVariants.{Upper, Lower, Caseless, Mark, Number, Whitespace, Other}
use Rattle.pattern.specs.Regex.{holds, run, spells, either_case}
use Rattle.pattern.proofs.Runs.{run_step, run_le, after, last_step, last_in, AllO, last_all}
use Rattle.pattern.specs.declared.Options.{Options}
use Rattle.pattern.specs.Pattern.{token}
use Rattle.pattern.proofs.Trial.{opens}
use Rattle.pattern.proofs.Step.{upperish, lowerish, number, white, punct, newline, is_upperish, is_lowerish, is_white, is_punct, is, tail, group_of, is_wordy, wordy, case_end, first_fit, suffix_table, suffix_end, word_end, punct_end, is_end, keep, space_end, step_by, step}
use Rattle.pattern.proofs.ClosedForm.{token_is_step}

-- from 1 to l
abbrev Good : ℕ → ℕ → Type 0
Good l n = (1 ≤ n) × (n ≤ l)

last_within : (p q : ℕ → Bool) (cs : List ℕ) → AllO (Good (length cs)) (last_in p q cs)
unfolding last_in
last_within p q [] = tt
last_within p q (c ∷ cs) = last_all (Good (length cs)) (Good (suc (length cs))) (p c) (q c) (last_in p q cs) (run q cs) (λ n w. omega arith) (omega arith) (omega (arith, run_le q cs)) (last_within p q cs)

after_good : (f : List ℕ → ℕ) (cs : List ℕ) (n : ℕ) → ((ds : List ℕ) → f ds ≤ length ds) → Good (length cs) n → Good (length cs) (after f cs n)
after_good f cs n h g = omega (arith, h (drop n cs), length-drop n cs)

case_good : (c : ℕ) (cs : List ℕ) → wordy c ≡ true → Good (suc (length cs)) (case_end (c ∷ cs))
unfolding case_end wordy holds last_in
case_good c cs e = rw (run_step upperish c cs) (by (class_of c) (last_in upperish lowerish cs) (run lowerish cs) (run upperish cs)
    (last_within upperish lowerish cs) (run_le lowerish cs) (run_le upperish cs) e)
  where
    by : (k : Class) (m : Option ℕ) (r u : ℕ) → AllO (Good (length cs)) m → r ≤ length cs → u ≤ length cs → is_wordy k ≡ true
        → Good (suc (length cs)) (get_or (last_step (is_upperish k) (is_lowerish k) m r) (cond (is_upperish k) (suc u) 0))
    by Upper none r u w h g e = omega arith
    by Upper (some n) r u w h g e = omega arith
    by Lower m r u w h g e = omega arith
    by Caseless none r u w h g e = omega arith
    by Caseless (some n) r u w h g e = omega arith
    by Mark none r u w h g e = omega arith
    by Mark (some n) r u w h g e = omega arith
    by Number m r u w h g e = absurd (true≢false (sym e))
    by Whitespace m r u w h g e = absurd (true≢false (sym e))
    by Other m r u w h g e = absurd (true≢false (sym e))

spells_le : (w : String) (cs : List ℕ) → spells w cs ≡ true → count w ≤ length cs
spells_le []ˢ cs e = omega arith
spells_le (a ∷ˢ w) [] e = absurd (true≢false (sym e))
spells_le (a ∷ˢ w) (c ∷ cs) e = rw (count.cons a w) (by (either_case (code a) c) (spells w cs) (spells_le w cs) e)
  where
    by : (b d : Bool) → (d ≡ true → count w ≤ length cs) → and b d ≡ true → suc (count w) ≤ suc (length cs)
    by true true h e = omega (arith, h refl)
    by true false h e = absurd (true≢false (sym e))
    by false d h e = absurd (true≢false (sym e))

first_le : (ws : List String) (cs : List ℕ) → first_fit ws cs ≤ length cs
first_le [] cs = omega arith
first_le (w ∷ ws) cs = by (spells w cs) (spells_le w cs) (first_le ws cs)
  where
    by : (b : Bool) → (b ≡ true → count w ≤ length cs) → first_fit ws cs ≤ length cs → cond b (count w) (first_fit ws cs) ≤ length cs
    by true h g = h refl
    by false h g = g

suffix_le : (o : Options) (cs : List ℕ) → suffix_end o cs ≤ length cs
unfolding suffix_end
suffix_le o cs = by_cond (λ n. n ≤ length cs) o.contractions (first_le suffix_table cs) (omega arith)

word_good : (o : Options) (cs : List ℕ) → opens wordy cs ≡ true → Good (length cs) (word_end o cs)
unfolding opens word_end
word_good o [] e = absurd (true≢false (sym e))
word_good o (c ∷ cs) e = after_good (suffix_end o) (c ∷ cs) (case_end (c ∷ cs)) (suffix_le o) (case_good c cs e)

punct_good : (o : Options) (cs : List ℕ) → opens punct cs ≡ true → Good (length cs) (punct_end o cs)
unfolding opens punct_end
punct_good o [] e = absurd (true≢false (sym e))
punct_good o (c ∷ cs) e = after_good (run (tail o.slash)) (c ∷ cs) (run punct (c ∷ cs)) (run_le (tail o.slash))
    (rw (run_step punct c cs, e) (omega (arith, run_le punct cs)))

space_good : (c : ℕ) (cs : List ℕ) → white c ≡ true → Good (suc (length cs)) (space_end (c ∷ cs))
unfolding space_end
space_good c cs e = rw (run_step white c cs, e) (by (last_in white newline (c ∷ cs)) (is_end (drop (run white cs) cs)) (run white cs) (last_within white newline (c ∷ cs)) (run_le white cs))
  where
    by : (m : Option ℕ) (e : Bool) (r : ℕ) → AllO (Good (suc (length cs))) m → r ≤ length cs → Good (suc (length cs)) (get_or m (keep e (suc r)))
    by (some n) e r w h = w
    by none true r w h = omega arith
    by none false zero w h = omega arith
    by none false (suc n) w h = omega arith

group_good : (d n : ℕ) → Good (suc n) (group_of d (suc n))
unfolding group_of
group_good zero n = omega arith
group_good (suc zero) n = omega arith
group_good (suc (suc d)) n = omega arith

step_good : (o : Options) (c : ℕ) (cs : List ℕ) → Good (suc (length cs)) (step o (c ∷ cs))
unfolding step step_by opens wordy holds
step_good o c cs = go (class_of c) refl
  where
    go : (k : Class) → class_of c ≡ k → Good (suc (length cs)) (step_by o k c cs)
    go Upper e = word_good o (c ∷ cs) (ap is_wordy e)
    go Lower e = word_good o (c ∷ cs) (ap is_wordy e)
    go Caseless e = word_good o (c ∷ cs) (ap is_wordy e)
    go Mark e = word_good o (c ∷ cs) (ap is_wordy e)
    go Number e = omega (arith, group_good o.digits (run number cs), run_le number cs)
    go Whitespace e = by (newline c) (opens wordy cs) (and (is 32 c) (opens punct cs)) (word_good o cs) (λ h. punct_good o cs (and_both (is 32 c) _ h).1) (space_good c cs (ap is_white e))
      where
        by : (b ow s : Bool) → (ow ≡ true → Good (length cs) (word_end o cs)) → (s ≡ true → Good (length cs) (punct_end o cs)) → Good (suc (length cs)) (space_end (c ∷ cs))
            → Good (suc (length cs)) (cond b (space_end (c ∷ cs)) (cond ow (suc (word_end o cs)) (cond s (suc (punct_end o cs)) (space_end (c ∷ cs)))))
        by true ow s w p z = z
        by false true s w p z = omega (arith, w refl)
        by false false true w p z = omega (arith, p refl)
        by false false false w p z = z
    go Other e = by (opens wordy cs) (word_good o cs) (punct_good o (c ∷ cs) (ap is_punct e))
      where
        by : (ow : Bool) → (ow ≡ true → Good (length cs) (word_end o cs)) → Good (suc (length cs)) (punct_end o (c ∷ cs))
            → Good (suc (length cs)) (cond ow (suc (word_end o cs)) (punct_end o (c ∷ cs)))
        by true w p = omega (arith, w refl)
        by false w p = p

pub token_good : (o : Options) (c : ℕ) (cs : List ℕ) → Good (suc (length cs)) (token o (c ∷ cs))
token_good o c cs = rw (token_is_step o (c ∷ cs)) (step_good o c cs)
