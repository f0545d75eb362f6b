-- The first token of the pattern is one step of the closed form.
use mathlib.Core.Bool.{Bool, true, false, cond, ◌&&◌ as and, not}
use mathlib.Core.Path.{◌≡◌, refl, sym, ap, ◌∙◌, fun_ext}
use mathlib.Core.List.{List, [], ◌∷◌}
use mathlib.Core.Option.{Option, none, some, get_or}
use Prim.Native.Nat.{ℕ, zero, suc, ◌+◌, ◌-◌, ◌%◌, ◌≤◌, min}
use native.Mathlib.Nat.{add-zero, zero-add, suc-add}
use native.Mathlib.Omega.{arith}
use Prim.Native.String.{String, count}
use lib.ListN.{drop}
use Rattle.classes.specs.Classes.{class_of}
use Rattle.classes.specs.declared.Class.{Class}
use Rattle.classes.specs.declared.Class.TheVariants.{Upper, Lower, Caseless, Mark, Number, Whitespace, Other}
use Rattle.pattern.specs.Regex.{Piece, opt, many, some as plus, not_ahead, just, non_white, holds, run, down, spells, words_here}
use Rattle.pattern.proofs.Trial.{opens, first_trials, or_assoc, or_none, stop, or_else, up, or_zero, try_each, three, trial_piece, trial, trial_one, trial_many}
use Rattle.pattern.proofs.Runs.{run_step, after, last_step, last_in, last_after}
use Rattle.pattern.proofs.Greedy.{map_o, many_total, many_some}
use Rattle.pattern.specs.declared.Options.{Options}
use Rattle.pattern.specs.Pattern.{alternatives, suffix, digits, token, space, upperish as upper_set, lowerish as lower_set, white as white_set, punct as punct_set, newline as newline_set, prefix as prefix_set, tail as tail_set}
use Rattle.pattern.proofs.Step.{upperish, lowerish, number, white, punct, newline, prefix, tail, is, is_prefix, is_upperish, is_lowerish, is_white, is_wordy, wordy, case_end, first_fit, suffix_table, suffix_end, word_end, punct_end, is_end, keep, space_end, group_of, step_by, step}
use Rattle.pattern.proofs.Sets.{newline_white, newline_is_not_space, space_white, prefix_is}

-- the suffix: the first word that stands there
words_are : (ws : List String) (cs : List ℕ) → or_else (try_each (words_here ws cs) stop cs) (some 0) ≡ some (first_fit ws cs)
unfolding words_here try_each
words_are [] cs = refl
words_are (w ∷ ws) cs = go (spells w cs) refl (words_are ws cs)
  where
    go : (b : Bool) → spells w cs ≡ b → or_else (try_each (words_here ws cs) stop cs) (some 0) ≡ some (first_fit ws cs)
        → or_else (try_each (words_here (w ∷ ws) cs) stop cs) (some 0) ≡ some (cond (spells w cs) (count w) (first_fit ws cs))
    go true e ih = rw (e, words_here) (ap some (add-zero (count w)))
    go false e ih = rw (e, words_here) ih

suffix_is : (o : Options) → trial (suffix o.contractions) stop ≡ (λ ds. some (suffix_end o ds))
unfolding trial trial_piece suffix_end
suffix_is o = fun_ext λ ds. by o.contractions ds
  where
    by : (b : Bool) (ds : List ℕ) → trial (suffix b) stop ds ≡ some (cond b (first_fit suffix_table ds) 0)
    by true ds = words_are suffix_table ds
    by false ds = refl

-- words without the prefix, by alternative 1 and by 2
lower_part : Options → List Piece
lower_part o = many upper_set ∷ plus lower_set ∷ suffix o.contractions

upper_part : Options → List Piece
upper_part o = plus upper_set ∷ many lower_set ∷ suffix o.contractions

lower_is : (o : Options) (cs : List ℕ) → trial (lower_part o) stop cs ≡ map_o (after (suffix_end o) cs) (last_in upperish lowerish cs)
unfolding trial trial_piece lower_part
lower_is o cs = rw (suffix_is o) (many_some upperish lowerish (suffix_end o) cs)

upper_is : (o : Options) (c : ℕ) (cs : List ℕ) → trial (upper_part o) stop (c ∷ cs)
    ≡ cond (upperish c) (some (suc (after (λ ds. after (suffix_end o) ds (run lowerish ds)) cs (run upperish cs)))) none
unfolding trial trial_piece upper_part trial_one
upper_is o c cs = rw (suffix_is o, fun_ext (λ ds. many_total lowerish (suffix_end o) ds), many_total upperish (λ ds. after (suffix_end o) ds (run lowerish ds)) cs)

upper_nil : (o : Options) → trial (upper_part o) stop [] ≡ none
unfolding trial trial_piece upper_part trial_one
upper_nil o = refl

-- a letter or a mark opens a word; nothing else does
word_is : (o : Options) (cs : List ℕ)
    → or_else (trial (lower_part o) stop cs) (trial (upper_part o) stop cs) ≡ cond (opens wordy cs) (some (word_end o cs)) none
unfolding opens wordy word_end case_end last_in holds
word_is o [] = rw (lower_is o [], upper_nil o)
word_is o (c ∷ cs) = rw (lower_is o (c ∷ cs), upper_is o c cs, run_step upperish c cs)
    (by (class_of c) (last_in upperish lowerish cs) (run lowerish cs) (run upperish cs) (last_after upperish lowerish cs))
  where
    S : List ℕ → ℕ
    S = suffix_end o

    by : (k : Class) (m : Option ℕ) (r u : ℕ) → (m ≡ none → run lowerish (drop u cs) ≡ 0)
        → or_else (map_o (after S (c ∷ cs)) (last_step (is_upperish k) (is_lowerish k) m r)) (cond (is_upperish k) (some (suc (after (λ ds. after S ds (run lowerish ds)) cs u))) none)
        ≡ cond (is_wordy k) (some (after S (c ∷ cs) (get_or (last_step (is_upperish k) (is_lowerish k) m r) (cond (is_upperish k) (suc u) 0)))) none
    by Upper none r u z = rw (z refl) (ap some (rw (zero-add, suc-add)))
    by Upper (some n) r u z = refl
    by Lower m r u z = refl
    by Caseless none r u z = refl
    by Caseless (some n) r u z = refl
    by Mark none r u z = refl
    by Mark (some n) r u z = refl
    by Number m r u z = refl
    by Whitespace m r u z = refl
    by Other m r u z = refl

-- alternatives 1 and 2, with the prefix
words : Options → List ℕ → Option ℕ
words o cs = or_else (trial (opt prefix_set ∷ lower_part o) stop cs) (trial (opt prefix_set ∷ upper_part o) stop cs)

words_open : (o : Options) (c : ℕ) (cs : List ℕ) → words o (c ∷ cs)
    ≡ or_else (or_else (cond (prefix c) (up (trial (lower_part o) stop cs)) none) (trial (lower_part o) stop (c ∷ cs)))
    (or_else (cond (prefix c) (up (trial (upper_part o) stop cs)) none) (trial (upper_part o) stop (c ∷ cs)))
unfolding words trial trial_piece trial_one lower_part upper_part
words_open o c cs = refl

-- a mark may be the prefix, and gives the same word
mark_is : (o : Options) (c : ℕ) (cs : List ℕ) → class_of c ≡ Mark
    → trial (lower_part o) stop (c ∷ cs) ≡ or_else (up (trial (lower_part o) stop cs)) (some (after (suffix_end o) (c ∷ cs) 1))
unfolding last_in holds
mark_is o c cs e = rw (lower_is o (c ∷ cs), lower_is o cs, last_in, e) (by (last_in upperish lowerish cs) (run lowerish cs))
  where
    by : (m : Option ℕ) (r : ℕ) → map_o (after (suffix_end o) (c ∷ cs)) (last_step true true m r) ≡ or_else (up (map_o (after (suffix_end o) cs) m)) (some (after (suffix_end o) (c ∷ cs) 1))
    by none r = refl
    by (some n) r = ap some (suc-add n (suffix_end o (drop n cs)))

prefixed : (b : Bool) (l u l' u' : Option ℕ) → or_else l' u' ≡ none
    → or_else (or_else (cond b (up l) none) l') (or_else (cond b (up u) none) u') ≡ cond b (up (or_else l u)) none
prefixed b l u (some n) u' h = cc
prefixed b l u none (some n) h = cc
prefixed true none none none none h = refl
prefixed true none (some n) none none h = refl
prefixed true (some n) u none none h = refl
prefixed false l u none none h = refl

words_is : (o : Options) (c : ℕ) (cs : List ℕ) → words o (c ∷ cs)
    ≡ cond (is_wordy (class_of c)) (some (word_end o (c ∷ cs))) (cond (prefix c) (up (cond (opens wordy cs) (some (word_end o cs)) none)) none)
unfolding opens wordy
words_is o c cs = rw (words_open o c cs, ← word_is o cs, prefix_is c)
    (by (class_of c) (newline c) (trial (lower_part o) stop cs) (trial (upper_part o) stop cs) (trial (lower_part o) stop (c ∷ cs)) (trial (upper_part o) stop (c ∷ cs))
    (word_is o (c ∷ cs)) (mark_is o c cs) (newline_white c))
  where
    by : (k : Class) (b : Bool) (l u l' u' : Option ℕ) → or_else l' u' ≡ cond (is_wordy k) (some (word_end o (c ∷ cs))) none
        → (k ≡ Mark → l' ≡ or_else (up l) (some (after (suffix_end o) (c ∷ cs) 1))) → (b ≡ true → k ≡ Whitespace)
        → or_else (or_else (cond (and (is_prefix k) (not b)) (up l) none) l') (or_else (cond (and (is_prefix k) (not b)) (up u) none) u')
        ≡ cond (is_wordy k) (some (word_end o (c ∷ cs))) (cond (and (is_prefix k) (not b)) (up (or_else l u)) none)
    by Upper b l u l' u' w m n = w
    by Lower b l u l' u' w m n = w
    by Caseless b l u l' u' w m n = w
    by Mark true l u l' u' w m n = cc (n refl)
    by Mark false none u l' u' w m n = rw (m refl) (rw (m refl) at w)
    by Mark false (some i) u l' u' w m n = rw (m refl) at w
    by Number b l u l' u' w m n = w
    by Whitespace b l u l' u' w m n = prefixed (not b) l u l' u' w
    by Other b l u l' u' w m n = prefixed (not b) l u l' u' w

run_total : (p : ℕ → Bool) → trial_many p stop ≡ (λ ds. some (run p ds))
run_total p = fun_ext λ ds. many_total p (λ _. 0) ds ∙ ap some (add-zero (run p ds))

down_head : (n : ℕ) (cs : List ℕ) → 1 ≤ n → try_each (down n) stop cs ≡ some n
unfolding try_each down
down_head zero cs h = absurd (omega arith)
down_head (suc n) cs h = ap some (add-zero (suc n))

pred_suc : (n : ℕ) → suc n - 1 ≡ n
pred_suc n = omega arith

digits_is : (d c : ℕ) (cs : List ℕ) → trial (digits d ∷ []) stop (c ∷ cs) ≡ cond (number c) (some (group_of d (suc (run number cs)))) none
unfolding trial trial_piece trial_one group_of try_each down
digits_is zero c cs = refl
digits_is (suc zero) c cs = rw (run_step number c cs) (by (number c) (run number cs))
  where
    by : (b : Bool) (r : ℕ) → try_each (down (min (cond b (suc r) 0) 3)) stop (c ∷ cs) ≡ cond b (some (min (suc r) 3)) none
    by true r = down_head (min (suc r) 3) (c ∷ cs) (omega arith)
    by false r = refl
digits_is (suc (suc d)) c cs = rw (run_step number c cs) (by (number c) (run number cs))
  where
    by : (b : Bool) (r : ℕ) → try_each (three (cond b (suc r) 0)) stop (c ∷ cs) ≡ cond b (some ((suc r - 1) % 3 + 1)) none
    by true r = rw (pred_suc r) (ap some (add-zero (r % 3 + 1)))
    by false r = refl

punct_part : Options → List Piece
punct_part o = plus punct_set ∷ many (tail_set o.slash) ∷ []

punct_is : (o : Options) (cs : List ℕ) → trial (punct_part o) stop cs ≡ cond (opens punct cs) (some (punct_end o cs)) none
unfolding trial trial_piece trial_one punct_part opens punct_end
punct_is o [] = refl
punct_is o (c ∷ cs) = rw (run_total (tail o.slash), many_total punct (run (tail o.slash)) cs, run_step punct c cs) (by (punct c) (run punct cs))
  where
    by : (b : Bool) (r : ℕ) → cond b (up (some (after (run (tail o.slash)) cs r))) none ≡ cond b (some (after (run (tail o.slash)) (c ∷ cs) (cond b (suc r) 0))) none
    by true r = ap some (sym (suc-add r (run (tail o.slash) (drop r cs))))
    by false r = refl

abbrev shy : Bool → ℕ → Option ℕ
shy true n = some n
shy false zero = none
shy false (suc n) = some n

-- `\s+(?!\S)`, after its first character
shy_is : (cs : List ℕ) → trial_many white (λ ds. cond (opens (holds (just non_white)) ds) none (some 0)) cs ≡ shy (is_end (drop (run white cs) cs)) (run white cs)
unfolding trial_many run opens holds
shy_is [] = refl
shy_is (c ∷ cs) = rw (shy_is cs, run_step white c cs) (by (is_white (class_of c)) (is_end (drop (run white cs) cs)) (run white cs) refl)
  where
    by : (b e : Bool) (r : ℕ) → is_end (drop r cs) ≡ e → cond b (or_else (up (shy e r)) (cond (not b) none (some 0))) (cond (not b) none (some 0)) ≡ shy (is_end (drop (cond b (suc r) 0) (c ∷ cs))) (cond b (suc r) 0)
    by true true r h = rw h
    by true false zero h = rw h
    by true false (suc n) h = rw h
    by false e r h = refl

-- alternatives 5, 6 and 7
spaces : List ℕ → Option ℕ
spaces cs = or_else (trial (many white_set ∷ plus newline_set ∷ []) stop cs)
    (or_else (trial (plus white_set ∷ not_ahead (just non_white) ∷ []) stop cs) (trial (plus white_set ∷ []) stop cs))

spaces_open : (c : ℕ) (cs : List ℕ) → spaces (c ∷ cs)
    ≡ or_else (trial_many white (trial_one newline (trial_many newline stop)) (c ∷ cs))
    (or_else (cond (white c) (up (trial_many white (λ ds. cond (opens (holds (just non_white)) ds) none (some 0)) cs)) none) (cond (white c) (up (trial_many white stop cs)) none))
unfolding spaces trial trial_piece trial_one
spaces_open c cs = refl

spaces_are : (c : ℕ) (cs : List ℕ) → white c ≡ true → spaces (c ∷ cs) ≡ some (space_end (c ∷ cs))
unfolding space_end
spaces_are c cs e = rw (spaces_open c cs, many_some white newline (λ _. 0) (c ∷ cs), shy_is cs, run_total white, run_step white c cs, e)
    (by (last_in white newline (c ∷ cs)) (is_end (drop (run white cs) cs)) (run white cs) refl)
  where
    by : (m : Option ℕ) (e : Bool) (r : ℕ) → is_end (drop r cs) ≡ e → or_else (map_o (after (λ _. 0) (c ∷ cs)) m) (or_else (up (shy e r)) (some (suc r)))
        ≡ some (get_or m (keep (is_end (drop r cs)) (suc r)))
    by (some n) e r h = ap some (add-zero n)
    by none true r h = rw h
    by none false zero h = rw h
    by none false (suc n) h = rw h

punctuation : Options → List ℕ → Option ℕ
punctuation o cs = trial (opt space ∷ punct_part o) stop cs

punct_open : (o : Options) (c : ℕ) (cs : List ℕ) → punctuation o (c ∷ cs)
    ≡ or_else (cond (is 32 c) (up (trial (punct_part o) stop cs)) none) (trial (punct_part o) stop (c ∷ cs))
unfolding punctuation trial trial_piece trial_one punct_part holds
punct_open o c cs = refl

token_open : (o : Options) (cs : List ℕ) → token o cs
    ≡ or_zero (or_else (words o cs) (or_else (trial (digits o.digits ∷ []) stop cs) (or_else (punctuation o cs) (spaces cs))))
unfolding token words punctuation spaces lower_part upper_part punct_part
token_open o cs = rw (first_trials (alternatives o) cs, or_none, or_assoc (trial (opt prefix_set ∷ lower_part o) stop cs))

white_by : (b ow s op : Bool) (w pe sp : ℕ) → (b ≡ true → s ≡ false)
    → or_zero (or_else (cond (not b) (up (cond ow (some w) none)) none) (or_else (or_else (cond s (up (cond op (some pe) none)) none) none) (some sp)))
    ≡ cond b sp (cond ow (suc w) (cond (and s op) (suc pe) sp))
white_by true ow true op w pe sp h = cc (h refl)
white_by true ow false op w pe sp h = refl
white_by false true s op w pe sp h = refl
white_by false false true true w pe sp h = refl
white_by false false true false w pe sp h = refl
white_by false false false op w pe sp h = refl

other_by : (b ow s : Bool) (w p : ℕ) (m z : Option ℕ) → (b ≡ true → Other ≡ Whitespace) → (s ≡ true → Other ≡ Whitespace)
    → or_zero (or_else (cond (not b) (up (cond ow (some w) none)) none) (or_else (or_else (cond s m none) (some p)) z)) ≡ cond ow (suc w) p
other_by true ow s w p m z h g = cc (h refl)
other_by false ow true w p m z h g = cc (g refl)
other_by false true false w p m z h g = refl
other_by false false false w p m z h g = refl

digits_nil : (d : ℕ) → trial (digits d ∷ []) stop [] ≡ none
unfolding trial trial_piece trial_one try_each down run
digits_nil zero = refl
digits_nil (suc zero) = refl
digits_nil (suc (suc d)) = refl

token_nil : (o : Options) → token o [] ≡ 0
unfolding words punctuation spaces lower_part upper_part punct_part trial trial_piece trial_one trial_many
token_nil o = rw (token_open, digits_nil o.digits)

-- THE THEOREM
pub token_is_step : (o : Options) (cs : List ℕ) → token o cs ≡ step o cs
unfolding step step_by holds opens
token_is_step o [] = token_nil o
token_is_step o (c ∷ cs) = go (class_of c) refl
  where
    go : (k : Class) → class_of c ≡ k → token o (c ∷ cs) ≡ step_by o k c cs
    go Upper e = rw (token_open, words_is, e)
    go Lower e = rw (token_open, words_is, e)
    go Caseless e = rw (token_open, words_is, e)
    go Mark e = rw (token_open, words_is, e)
    go Number e = rw (token_open, words_is, prefix_is, digits_is, e)
    go Whitespace e = rw (token_open, words_is, prefix_is, digits_is, punct_open, punct_is o cs, punct_is o (c ∷ cs), spaces_are c cs (ap is_white e), e)
        (white_by (newline c) (opens wordy cs) (is 32 c) (opens punct cs) (word_end o cs) (punct_end o cs) (space_end (c ∷ cs)) (newline_is_not_space c))
    go Other e = rw (token_open, words_is, prefix_is, digits_is, punct_open, punct_is o cs, punct_is o (c ∷ cs), e)
        (other_by (newline c) (opens wordy cs) (is 32 c) (word_end o cs) (punct_end o (c ∷ cs)) _ _ (λ n. sym e ∙ newline_white c n) (λ n. sym e ∙ space_white c n))
