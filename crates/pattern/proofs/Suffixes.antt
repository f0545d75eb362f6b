-- The suffix table spelled out: which characters behind a word are a suffix, and that no others are.
use mathlib.Core.Bool.{Bool, true, false, ◌&&◌, ◌||◌}
use mathlib.Core.Path.{◌≡◌, refl, sym, ◌∙◌, ap, ap₂}
use mathlib.Core.List.{List, [], ◌∷◌, ◌++◌, map}
use Prim.Native.Nat.{ℕ, suc, ◌+◌, ◌-◌, ◌≤◌}
use Prim.Native.Char.{code}
use Prim.Native.String.count
use Prim.Native.String.{String, [] as []ˢ, ◌∷◌ as ◌∷ˢ◌, count}
use native.Mathlib.Nat.{add-zero}
use native.Mathlib.Omega.{arith}
use lib.Dec.{eqb}
use lib.ListN.{length}
use borrow.Author.Tests.{eqb-true, eqb-false, eq-eqb, ne_eqb}
use Rattle.utf8.specs.Utf8.{pick, within}
use Rattle.utf8.proofs.Tests.{by_bool, never, range_true}
use Rattle.pattern.specs.Regex.{spells, words_here, lengths, onward, matches}
use Rattle.pattern.specs.Pattern.{suffixes, long_s, suffix}

-- the characters of a string
abbrev pub codes : String → List ℕ
codes []ˢ = []
codes (a ∷ˢ w) = code a ∷ codes w

-- do some characters begin with these?
abbrev pub begins_with : List ℕ → List ℕ → Bool
begins_with [] cs = true
begins_with (a ∷ w) [] = false
begins_with (a ∷ w) (c ∷ cs) = eqb c a && begins_with w cs

-- the lengths of those words that stand in front, in order
unfoldable pub in_front : List (List ℕ) → List ℕ → List ℕ
in_front [] cs = []
in_front (w ∷ ws) cs = pick (begins_with w cs) (length w ∷ in_front ws cs) (in_front ws cs)

-- document 01's suffixes, each letter in either case, and apostrophe with U+017F
abbrev pub spellings : List String
spellings =
    "'s" ∷ "'S" ∷ "'t" ∷ "'T" ∷
    "'re" ∷ "'rE" ∷ "'Re" ∷ "'RE" ∷ "'ve" ∷ "'vE" ∷ "'Ve" ∷ "'VE" ∷
    "'m" ∷ "'M" ∷ "'ll" ∷ "'lL" ∷ "'Ll" ∷ "'LL" ∷ "'d" ∷ "'D" ∷
    "'ſ" ∷
    []

-- a word with each small letter in either case, and so each of some words
cases : List ℕ → List (List ℕ)
cases [] = [] ∷ []
cases (a ∷ w) = map (λ v. a ∷ v) (cases w) ++ pick (within 0x61 a 0x7a) (map (λ v. (a - 32) ∷ v) (cases w)) []

cases_of : List String → List (List ℕ)
cases_of [] = []
cases_of (w ∷ ws) = cases (codes w) ++ cases_of ws

in_front_append : (us vs : List (List ℕ)) (cs : List ℕ) → in_front (us ++ vs) cs ≡ in_front us cs ++ in_front vs cs
unfolding in_front
in_front_append [] vs cs = refl
in_front_append (u ∷ us) vs cs = rw (in_front_append us vs cs) (by (begins_with u cs))
  where
    by : (b : Bool) → pick b (length u ∷ (in_front us cs ++ in_front vs cs)) (in_front us cs ++ in_front vs cs) ≡ pick b (length u ∷ in_front us cs) (in_front us cs) ++ in_front vs cs
    by true = refl
    by false = refl

-- words that open with the same character
in_front_cons : (a : ℕ) (ws : List (List ℕ)) (c : ℕ) (cs : List ℕ) → in_front (map (λ v. a ∷ v) ws) (c ∷ cs) ≡ pick (eqb c a) (map suc (in_front ws cs)) []
unfolding in_front
in_front_cons a [] c cs = by (eqb c a)
  where
    by : (b : Bool) → ◌≡◌ {A = List ℕ} [] (pick b [] [])
    by true = refl
    by false = refl
in_front_cons a (w ∷ ws) c cs = rw (in_front_cons a ws c cs) (by (eqb c a) (begins_with w cs))
  where
    by : (b t : Bool) → pick (b && t) (suc (length w) ∷ pick b (map suc (in_front ws cs)) []) (pick b (map suc (in_front ws cs)) []) ≡ pick b (map suc (pick t (length w ∷ in_front ws cs) (in_front ws cs))) []
    by true true = refl
    by true false = refl
    by false t = refl

in_front_none : (a : ℕ) (ws : List (List ℕ)) → in_front (map (λ v. a ∷ v) ws) [] ≡ []
unfolding in_front
in_front_none a [] = refl
in_front_none a (w ∷ ws) = in_front_none a ws

-- the same of capitals, where there are some
capitals : (b : Bool) (a : ℕ) (ws : List (List ℕ)) (c : ℕ) (cs : List ℕ) → in_front (pick b (map (λ v. a ∷ v) ws) []) (c ∷ cs) ≡ pick (b && eqb c a) (map suc (in_front ws cs)) []
unfolding in_front
capitals true a ws c cs = in_front_cons a ws c cs
capitals false a ws c cs = refl

capitals_none : (b : Bool) (a : ℕ) (ws : List (List ℕ)) → in_front (pick b (map (λ v. a ∷ v) ws) []) [] ≡ []
unfolding in_front
capitals_none true a ws = in_front_none a ws
capitals_none false a ws = refl

-- the capital of a small letter is 32 below it
capital : (a c : ℕ) → within 0x61 a 0x7a && eqb c (a - 32) ≡ within 0x61 a 0x7a && eqb (c + 32) a
capital a c = by_bool (within 0x61 a 0x7a) (λ e. rw e (same (range_true 0x61 a 0x7a e))) (λ e. rw e)
  where
    same : (0x61 ≤ a) × (a ≤ 0x7a) → eqb c (a - 32) ≡ eqb (c + 32) a
    same h =
        by_bool (eqb (c + 32) a)
        (λ t. eq-eqb c (a - 32) (omega (arith, h, eqb-true (c + 32) a t)) ∙ sym t)
        (λ t. ne_eqb c (a - 32) (λ q. eqb-false (c + 32) a t (omega (arith, h, q))) ∙ sym t)

-- a character is not both a letter and its capital
apart : (a c : ℕ) → eqb c a ≡ true → within 0x61 a 0x7a && eqb (c + 32) a ≡ false
apart a c e = by_bool (within 0x61 a 0x7a) (λ w. rw w (ne_eqb (c + 32) a (λ q. omega (arith, eqb-true c a e)))) (λ w. rw w)

word_cases : (w : String) (cs : List ℕ) → in_front (cases (codes w)) cs ≡ pick (spells w cs) (count w ∷ []) []
unfolding in_front cases
word_cases []ˢ cs = refl
word_cases (a ∷ˢ w) [] =
    let x = code a in
    let vs = cases (codes w) in
    in_front_append (map (λ v. x ∷ v) vs) (pick (within 0x61 x 0x7a) (map (λ v. (x - 32) ∷ v) vs) []) [] ∙ rw (in_front_none x vs, capitals_none (within 0x61 x 0x7a) (x - 32) vs)
word_cases (a ∷ˢ w) (c ∷ cs) =
    let x = code a in
    let vs = cases (codes w) in
    in_front_append (map (λ v. x ∷ v) vs) (pick (within 0x61 x 0x7a) (map (λ v. (x - 32) ∷ v) vs) []) (c ∷ cs)
    ∙ rw (in_front_cons x vs c cs, capitals (within 0x61 x 0x7a) (x - 32) vs c cs, capital x c, word_cases w cs, count.cons a w) (by (eqb c x) (within 0x61 x 0x7a && eqb (c + 32) x) (spells w cs) (apart x c))
  where
    by : (p q t : Bool) → (p ≡ true → q ≡ false)
        → pick p (map suc (pick t (count w ∷ []) [])) [] ++ pick q (map suc (pick t (count w ∷ []) [])) [] ≡ pick ((p || q) && t) (suc (count w) ∷ []) []
    by true true t e = never (e refl)
    by true false true e = refl
    by true false false e = refl
    by false true true e = refl
    by false true false e = refl
    by false false t e = refl

words_here_lem : (ws : List String) (cs : List ℕ) → words_here ws cs ≡ in_front (cases_of ws) cs
unfolding words_here in_front cases_of
words_here_lem [] cs = refl
words_here_lem (w ∷ ws) cs = by (spells w cs) ∙ sym (in_front_append (cases (codes w)) (cases_of ws) cs ∙ ap₂ (λ x y. x ++ y) (word_cases w cs) (sym (words_here_lem ws cs)))
  where
    by : (b : Bool) → (elim b as (λ _. List ℕ) [ true ↦ count w ∷ words_here ws cs | false ↦ words_here ws cs ]) ≡ pick b (count w ∷ []) [] ++ words_here ws cs
    by true = refl
    by false = refl

spelled : cases_of (suffixes ++ long_s) ≡ map codes spellings
unfolding cases cases_of
spelled = refl

-- a piece with none after it
alone : (ks : List ℕ) → onward (λ k. 0 ∷ []) ks ≡ ks
unfolding onward
alone [] = refl
alone (k ∷ ks) = rw (alone ks, add-zero k)

-- THE SUFFIXES: where contractions are on, what stands in front is one of the spellings, or none is taken
pub suffix_is_spelled : (cs : List ℕ) → matches (suffix true) cs ≡ in_front (map codes spellings) cs ++ (0 ∷ [])
unfolding matches lengths
suffix_is_spelled cs = alone (words_here (suffixes ++ long_s) cs ++ (0 ∷ [])) ∙ ap (λ l. l ++ (0 ∷ [])) (words_here_lem (suffixes ++ long_s) cs ∙ ap (λ ws. in_front ws cs) spelled)
