-- Where a text ends in CR or LF and what follows is fresh, its first token is the one that it has alone.
use mathlib.Core.Bool.{Bool, true, false, cond, ◌&&◌ as and, ◌||◌ as or, not}
use mathlib.Core.Path.{◌≡◌, refl, sym, ap}
use mathlib.Core.List.{List, [], ◌∷◌, ◌++◌}
use mathlib.Core.Option.{Option, none, some, get_or}
use Prim.Native.Nat.{ℕ, zero, suc, ◌<◌}
use native.Mathlib.Omega.{arith}
use Prim.Native.Char.{code}
use Prim.Native.String.{String, [] as []ˢ, ◌∷◌ as ◌∷ˢ◌}
use lib.ListN.{drop, take, length, length-append}
use lib.Seq.{drop-append-le}
use Rattle.utf8.proofs.Tests.{by_cond, not_true, and_both, never}
use Rattle.classes.specs.Classes.{class_of}
use Rattle.classes.specs.declared.Class.{Class}
use Rattle.classes.specs.declared.Class.TheVariants.{Upper, Lower, Caseless, Mark, Number, Whitespace, Other}
use Rattle.pattern.specs.declared.Options.{Options}
use Rattle.pattern.specs.Regex.{Set, just, char, holds, run, spells, either_case}
use Rattle.pattern.specs.Pattern.{token, newline as newline_set}
use Rattle.pattern.specs.Records.{none_of, fresh}
use Rattle.pattern.proofs.Trial.{opens}
use Rattle.pattern.proofs.Runs.{run_step, after, last_step, last_in, AllO, last_all, last_none}
use Rattle.pattern.proofs.Step.{upperish, lowerish, number, white, punct, newline, is_upperish, is_lowerish, is_number, is_punct, is, tail, wordy, case_end, first_fit, suffix_table, suffix_end, word_end, punct_end, is_end, keep, space_end, step_by, step}
use Rattle.pattern.proofs.Sets.{newline_elim, newline_white, newline_is_white, tail_is}
use Rattle.pattern.proofs.ClosedForm.{token_is_step}

-- the last character is CR or LF
pub data Closed : List ℕ → Type 0 where
  here : {c : ℕ} → newline c ≡ true → Closed (c ∷ [])
  there : {c : ℕ} {cs : List ℕ} → Closed cs → Closed (c ∷ cs)

pub closed_snoc : (zs : List ℕ) (c : ℕ) → newline c ≡ true → Closed (zs ++ (c ∷ []))
closed_snoc [] c h = here h
closed_snoc (z ∷ zs) c h = there (closed_snoc zs c h)

-- no CR or LF in the leading run of white space
unfoldable quiet : List ℕ → Bool
quiet cs = none_of newline_set (take (run white cs) cs)

quiet_step : (c : ℕ) (cs : List ℕ) → quiet (c ∷ cs) ≡ cond (white c) (and (not (newline c)) (quiet cs)) true
unfolding quiet none_of
quiet_step c cs = rw (run_step white c cs) (by (white c))
  where
    by : (b : Bool) → none_of newline_set (take (cond b (suc (run white cs)) 0) (c ∷ cs)) ≡ cond b (and (not (newline c)) (none_of newline_set (take (run white cs) cs))) true
    by true = refl
    by false = refl

-- a class without CR and LF
abbrev Avoids : (ℕ → Bool) → Type 0
Avoids p = (c : ℕ) → newline c ≡ true → p c ≡ false

run_closed : (p : ℕ → Bool) → Avoids p → (ys : List ℕ) {xs : List ℕ} → Closed xs → run p (xs ++ ys) ≡ run p xs
run_closed p a ys (here {c} h) = rw (run_step p c ys, run_step p c [], a c h)
run_closed p a ys (there {c} {cs} k) = rw (run_step p c (cs ++ ys), run_step p c cs, run_closed p a ys k)

run_lt : (p : ℕ → Bool) → Avoids p → {xs : List ℕ} → Closed xs → run p xs < length xs
run_lt p a (here {c} h) = rw (run_step p c [], a c h) (omega arith)
run_lt p a (there {c} {cs} k) = rw (run_step p c cs) (by_cond (λ n. n < suc (length cs)) (p c) (omega (arith, run_lt p a k)) (omega arith))

-- a run ends before what follows if that does not open with the class
run_append : (p : ℕ → Bool) (xs ys : List ℕ) → run p ys ≡ 0 → run p (xs ++ ys) ≡ run p xs
unfolding run
run_append p [] ys h = h
run_append p (x ∷ xs) ys h = rw (run_step p x (xs ++ ys), run_step p x xs, run_append p xs ys h)

last_closed : (p q : ℕ → Bool) → Avoids p → Avoids q → (ys : List ℕ) {xs : List ℕ} → Closed xs → last_in p q (xs ++ ys) ≡ last_in p q xs
unfolding last_in
last_closed p q a b ys (here {c} h) = rw (a c h, b c h)
last_closed p q a b ys (there {c} {cs} k) = rw (last_closed p q a b ys k, run_closed q b ys k)

last_below : (p q : ℕ → Bool) → Avoids p → Avoids q → {xs : List ℕ} → Closed xs → AllO (λ n. n < length xs) (last_in p q xs)
unfolding last_in
last_below p q a b (here {c} h) = rw (a c h, b c h) tt
last_below p q a b (there {c} {cs} k) =
    let l = run_lt q b k in
    last_all (λ n. n < length cs) (λ n. n < suc (length cs)) (p c) (q c) (last_in p q cs) (run q cs) (λ n w. omega arith) (omega arith) (omega arith) (last_below p q a b k)

-- the classes of the words, of numbers and of punctuation are without CR and LF
upperish_avoids : Avoids upperish
unfolding holds
upperish_avoids c h = ap is_upperish (newline_white c h)

lowerish_avoids : Avoids lowerish
unfolding holds
lowerish_avoids c h = ap is_lowerish (newline_white c h)

number_avoids : Avoids number
unfolding holds
number_avoids c h = ap is_number (newline_white c h)

punct_avoids : Avoids punct
unfolding holds
punct_avoids c h = ap is_punct (newline_white c h)

closed_drop : (n : ℕ) {xs : List ℕ} → n < length xs → Closed xs → Closed (drop n xs)
closed_drop zero l k = k
closed_drop (suc n) l (here h) = absurd (omega arith)
closed_drop (suc n) l (there {c} {cs} k) = closed_drop n (omega arith) k

after_closed : (f : List ℕ → ℕ) (n : ℕ) (ys : List ℕ) {xs : List ℕ} → ((zs : List ℕ) → Closed zs → f (zs ++ ys) ≡ f zs)
    → n < length xs → Closed xs → after f (xs ++ ys) n ≡ after f xs n
after_closed f n ys {xs} h l k = rw (drop-append-le n xs ys (omega arith), h (drop n xs) (closed_drop n l k))

case_closed : (ys : List ℕ) {xs : List ℕ} → Closed xs → case_end (xs ++ ys) ≡ case_end xs
unfolding case_end
case_closed ys k = rw (last_closed upperish lowerish upperish_avoids lowerish_avoids ys k, run_closed upperish upperish_avoids ys k)

case_lt : {xs : List ℕ} → Closed xs → case_end xs < length xs
unfolding case_end
case_lt {xs} k = by (last_in upperish lowerish xs) (last_below upperish lowerish upperish_avoids lowerish_avoids k)
  where
    by : (m : Option ℕ) → AllO (λ n. n < length xs) m → get_or m (run upperish xs) < length xs
    by none w = run_lt upperish upperish_avoids k
    by (some n) w = w

-- the same of each letter of the suffixes, by one computed test
abbrev dodges : String → Bool
dodges []ˢ = true
dodges (a ∷ˢ w) = and (not (either_case (code a) 10)) (and (not (either_case (code a) 13)) (dodges w))

abbrev all_dodge : List String → Bool
all_dodge [] = true
all_dodge (w ∷ ws) = and (dodges w) (all_dodge ws)

spells_closed : (w : String) → dodges w ≡ true → (ys : List ℕ) {zs : List ℕ} → Closed zs → spells w (zs ++ ys) ≡ spells w zs
spells_closed []ˢ d ys k = refl
spells_closed (a ∷ˢ w) d ys (here {c} h) =
    let x = and_both (not (either_case (code a) 10)) _ d in
    let y = and_both (not (either_case (code a) 13)) _ x.1 in
    rw (newline_elim (λ c. either_case (code a) c ≡ false) (not_true (either_case (code a) 10) x.0) (not_true (either_case (code a) 13) y.0) c h)
spells_closed (a ∷ˢ w) d ys (there k) = rw (spells_closed w (and_both (not (either_case (code a) 13)) _ (and_both (not (either_case (code a) 10)) _ d).1).1 ys k)

words_closed : (ws : List String) → all_dodge ws ≡ true → (ys : List ℕ) {zs : List ℕ} → Closed zs → first_fit ws (zs ++ ys) ≡ first_fit ws zs
words_closed [] d ys k = refl
words_closed (w ∷ ws) d ys k = rw (spells_closed w (and_both (dodges w) _ d).0 ys k, words_closed ws (and_both (dodges w) _ d).1 ys k)

suffix_closed : (o : Options) (ys : List ℕ) {zs : List ℕ} → Closed zs → suffix_end o (zs ++ ys) ≡ suffix_end o zs
unfolding suffix_end
suffix_closed o ys k = rw (words_closed suffix_table refl ys k)

word_closed : (o : Options) (ys : List ℕ) {xs : List ℕ} → Closed xs → word_end o (xs ++ ys) ≡ word_end o xs
unfolding word_end
word_closed o ys {xs} k = rw (case_closed ys k) (after_closed (suffix_end o) (case_end xs) ys (λ _ z. suffix_closed o ys z) (case_lt k) k)

punct_closed : (o : Options) (ys : List ℕ) {xs : List ℕ} → run (tail o.slash) ys ≡ 0 → Closed xs → punct_end o (xs ++ ys) ≡ punct_end o xs
unfolding punct_end
punct_closed o ys {xs} t k = rw (run_closed punct punct_avoids ys k)
    (after_closed (run (tail o.slash)) (run punct xs) ys (λ zs _. run_append (tail o.slash) zs ys t) (run_lt punct punct_avoids k) k)

-- white space: the last CR or LF of the run is the same, since the run of white space after xs has none
white_closed : (ys : List ℕ) {xs : List ℕ} → last_in white newline ys ≡ none → Closed xs → last_in white newline (xs ++ ys) ≡ last_in white newline xs
unfolding last_in holds
white_closed ys n (here {c} h) = rw n (by (white c) (newline c) (newline_is_white c h) h)
  where
    by : (b d : Bool) → b ≡ true → d ≡ true → last_step b d none (run newline ys) ≡ last_step b d none (run newline [])
    by true true p q = refl
    by true false p q = refl
    by false d p q = never (sym p)
white_closed ys n (there {c} {cs} k) = rw (white_closed ys n k, run_append newline cs ys (last_none white newline ys n))

white_run : (ys : List ℕ) {xs : List ℕ} → Closed xs → last_in white newline xs ≡ none → (run white (xs ++ ys) ≡ run white xs) × (run white xs < length xs)
unfolding last_in holds
white_run ys (here {c} h) n =
    let y : ◌≡◌ {A = Option ℕ} (some 1) none = rw (newline_white c h, h) at n in
    let z : ◌≡◌ {A = ℕ} 0 1 = cc in
    absurd (omega arith)
white_run ys (there {c} {cs} k) n = rw (run_step white c (cs ++ ys), run_step white c cs) (by (white c) (last_in white newline cs) n (white_run ys k))
  where
    by : (b : Bool) (m : Option ℕ) → last_step b (newline c) m (run newline cs) ≡ none
        → (m ≡ none → (run white (cs ++ ys) ≡ run white cs) × (run white cs < length cs))
        → (cond b (suc (run white (cs ++ ys))) 0 ≡ cond b (suc (run white cs)) 0) × (cond b (suc (run white cs)) 0 < suc (length cs))
    by true none e ih = omega (arith, ih refl)
    by true (some i) e ih = let z : ◌≡◌ {A = ℕ} 0 1 = cc in absurd (omega arith)
    by false m e ih = omega arith

is_end_drop : (n : ℕ) (xs : List ℕ) → n < length xs → is_end (drop n xs) ≡ false
is_end_drop n [] h = absurd (omega arith)
is_end_drop zero (x ∷ xs) h = refl
is_end_drop (suc n) (x ∷ xs) h = is_end_drop n xs (omega arith)

space_closed : (ys : List ℕ) {xs : List ℕ} → last_in white newline ys ≡ none → Closed xs → space_end (xs ++ ys) ≡ space_end xs
unfolding space_end
space_closed ys {xs} n k = rw (white_closed ys n k) (by (last_in white newline xs) refl)
  where
    by : (m : Option ℕ) → last_in white newline xs ≡ m
        → get_or m (keep (is_end (drop (run white (xs ++ ys)) (xs ++ ys))) (run white (xs ++ ys))) ≡ get_or m (keep (is_end (drop (run white xs) xs)) (run white xs))
    by (some i) e = refl
    by none e = let w = white_run ys k e in
        rw (w.0, is_end_drop (run white xs) (xs ++ ys) (omega (arith, w.1, length-append xs ys)), is_end_drop (run white xs) xs w.1)

opens_closed : (p : ℕ → Bool) (ys : List ℕ) {xs : List ℕ} → Closed xs → opens p (xs ++ ys) ≡ opens p xs
unfolding opens
opens_closed p ys (here h) = refl
opens_closed p ys (there k) = refl

quiet_closed : (ys : List ℕ) {xs : List ℕ} → Closed xs → quiet (xs ++ ys) ≡ quiet xs
unfolding holds
quiet_closed ys (here {c} h) = rw (quiet_step c ys, quiet_step c [], newline_white c h, h)
quiet_closed ys (there {c} {cs} k) = rw (quiet_step c (cs ++ ys), quiet_step c cs, quiet_closed ys k)

first_closed : (s : Set) (ys : List ℕ) {xs : List ℕ} → Closed xs → none_of s (take 1 (xs ++ ys)) ≡ none_of s (take 1 xs)
first_closed s ys (here h) = refl
first_closed s ys (there k) = refl

quiet_last : (ys : List ℕ) → quiet ys ≡ true → last_in white newline ys ≡ none
unfolding last_in holds
quiet_last [] h = refl
quiet_last (c ∷ cs) h = by (white c) (newline c) (quiet cs) (last_in white newline cs) (rw (quiet_step c cs) at h) (newline_is_white c) (quiet_last cs)
  where
    by : (b n q : Bool) (m : Option ℕ) → cond b (and (not n) q) true ≡ true → (n ≡ true → b ≡ true) → (q ≡ true → m ≡ none)
        → last_step b n m (run newline cs) ≡ none
    by true true q m h w ih = cc
    by true false q m h w ih = rw (ih h)
    by false true q m h w ih = cc (w refl)
    by false false q m h w ih = refl

fresh_quiet : (o : Options) (ys : List ℕ) → fresh o ys ≡ true → last_in white newline ys ≡ none
unfolding fresh quiet
fresh_quiet o ys h = quiet_last ys (and_both (quiet ys) _ h).0

pub fresh_closed : (o : Options) (ys : List ℕ) {xs : List ℕ} → Closed xs → fresh o (xs ++ ys) ≡ fresh o xs
unfolding fresh quiet
fresh_closed o ys k = rw (quiet_closed ys k, first_closed (just (char "/")) ys k)

fresh_tail : (o : Options) (ys : List ℕ) → fresh o ys ≡ true → run (tail o.slash) ys ≡ 0
unfolding fresh quiet run none_of holds
fresh_tail o [] h = refl
fresh_tail o (y ∷ ys) h = rw (run_step (tail o.slash) y ys, tail_is o.slash y) (by (white y) (newline y) (quiet ys) o.slash (is 47 y) (newline_is_white y) (rw (quiet_step y ys) at h))
  where
    by : (b n q s d : Bool) → (n ≡ true → b ≡ true) → and (cond b (and (not n) q) true) (or (not s) (and (not d) true)) ≡ true → cond (or n (and s d)) (suc (run (tail o.slash) ys)) 0 ≡ 0
    by true true q s d w h = cc
    by false true q s d w h = cc (w refl)
    by b false q true true w h = cc (and_both (cond b q true) false h).1
    by b false q true false w h = refl
    by b false q false d w h = refl

-- a step of the closed form is the one that the text has alone
step_closed : (o : Options) (ys : List ℕ) {xs : List ℕ} → fresh o ys ≡ true → Closed xs → step o (xs ++ ys) ≡ step o xs
unfolding step step_by
step_closed o ys f (here {c} h) = rw (newline_white c h, h) (space_closed ys (fresh_quiet o ys f) (here h))
step_closed o ys f (there {c} {cs} k) = go (class_of c)
  where
    n : last_in white newline ys ≡ none
    n = fresh_quiet o ys f

    go : (k : Class) → step_by o k c (cs ++ ys) ≡ step_by o k c cs
    go Upper = word_closed o ys (there {c = c} k)
    go Lower = word_closed o ys (there {c = c} k)
    go Caseless = word_closed o ys (there {c = c} k)
    go Mark = word_closed o ys (there {c = c} k)
    go Number = rw (run_closed number number_avoids ys k)
    go Whitespace = rw (space_closed ys n (there {c = c} k), opens_closed wordy ys k, word_closed o ys k, opens_closed punct ys k, punct_closed o ys (fresh_tail o ys f) k)
    go Other = rw (opens_closed wordy ys k, word_closed o ys k, punct_closed o ys (fresh_tail o ys f) (there {c = c} k))

-- THE RECORD LEMMA
pub token_closed : (o : Options) (ys : List ℕ) {xs : List ℕ} → fresh o ys ≡ true → Closed xs → token o (xs ++ ys) ≡ token o xs
token_closed o ys {xs} f k = rw (token_is_step o (xs ++ ys), token_is_step o xs) (step_closed o ys f k)
