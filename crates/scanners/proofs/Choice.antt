-- The choice by the first characters, from what the tests of a byte or of a class say.
use Prim.Native.Nat.{ℕ, ◌+◌, ◌≤◌}
use mathlib.Core.Bool.{Bool, true, false, ◌||◌ as or}
use mathlib.Core.List.{List, []}
use mathlib.Core.Path.{◌≡◌, refl, sym, ◌∙◌, ap}
use native.Mathlib.Omega.{arith}
use borrow.Author.Tests.{ne_eqb}
use Rattle.utf8.specs.Utf8.{pick, chars_at, width}
use Rattle.utf8.proofs.Tests.{by_bool, never}
use Rattle.utf8.proofs.Width.{width_1}
use Rattle.classes.specs.Classes.{class_of, same, is_letter}
use Rattle.classes.specs.declared.Class.{Class}
use Rattle.classes.specs.declared.Class.TheVariants as k
use Rattle.classes.proofs.Scan.{same_is}
use Rattle.pattern.proofs.Step.{is_wordy, is_number, is_white, newline, is}
use Rattle.pattern.proofs.Sets.{newline_white, newline_is_not_space, space_white}
use Rattle.scanners.specs.Place.{Stands}
use Rattle.scanners.specs.Scan.{come, moved}
use Rattle.scanners.specs.Start.{or_start, prefixed_start, space_before, space_start, after_space, first_start, start_of}
use Rattle.scanners.specs.declared.o200k_family.CaseState.{CaseState}
use Rattle.scanners.specs.declared.o200k_family.CaseState.TheVariants.{U, L}
use Rattle.std.specs.Prelude.{None}
use Rattle.scanners.specs.declared.o200k_family.Start.TheVariants as start
use Rattle.scanners.proofs.Ascii.{lower_is}
use Rattle.scanners.proofs.Bytes.{newline_ascii}
use Rattle.scanners.proofs.Case.{stop_go}

-- no caseless letter and no mark, as in ASCII
abbrev Plain : Class → Type 0
Plain j = or (same k.Caseless j) (same k.Mark j) ≡ false

plain_wordy : (j : Class) → is_letter j ≡ false → Plain j → is_wordy j ≡ false
plain_wordy k.Upper l p = l
plain_wordy k.Lower l p = l
plain_wordy k.Caseless l p = l
plain_wordy k.Mark l p = p
plain_wordy k.Number l p = refl
plain_wordy k.Whitespace l p = refl
plain_wordy k.Other l p = refl

-- a letter of ASCII enters a letter run
letter_moves : (j : Class) (u : Bool) → is_letter j ≡ true → Plain j → same k.Upper j ≡ u → (e : ℕ) → come e (pick u (U None) L) ≡ moved j (U None) e
letter_moves j true l p q e = sym (ap (λ i. moved i (U None) e) (same_is k.Upper j q))
letter_moves j false l p q e = sym (ap (λ i. moved i (U None) e) (lower_is j l q p))

-- past a space
module _ (j : Class) (e : ℕ) where
  pub space_letter : (u : Bool) → is_letter j ≡ true → Plain j → same k.Upper j ≡ u → or_start (come e (pick u (U None) L)) start.One ≡ space_start j e
  unfolding space_start
  space_letter u l p q = ap (λ m. or_start m (space_before j e)) (letter_moves j u l p q e)

pub space_number : (j : Class) (e : ℕ) → is_number j ≡ true → start.One ≡ space_start j e
unfolding space_start
space_number j e q = sym (ap (λ i. space_start i e) (same_is k.Number j q))

pub space_white_next : (j : Class) (e : ℕ) → is_white j ≡ true → start.White ≡ space_start j e
unfolding space_start
space_white_next j e q = sym (ap (λ i. space_start i e) (same_is k.Whitespace j q))

pub space_other : (j : Class) (e : ℕ) → is_letter j ≡ false → Plain j → is_number j ≡ false → is_white j ≡ false → start.Punct e ≡ space_start j e
unfolding space_start
space_other k.Upper e l p n w = never l
space_other k.Lower e l p n w = never l
space_other k.Caseless e l p n w = never l
space_other k.Mark e l p n w = never p
space_other k.Number e l p n w = never n
space_other k.Whitespace e l p n w = never w
space_other k.Other e l p n w = refl

-- in front
module _ (c : ℕ) (cs : List ℕ) where
  pub first_go : (j : Class) {f : ℕ} {st : CaseState} → moved j (U None) (width c) ≡ come f st → or_start (come f st) start.One ≡ first_start j c cs
  unfolding first_start
  first_go k.Upper q = ap (λ m. or_start m start.One) (sym q)
  first_go k.Lower q = ap (λ m. or_start m start.One) (sym q)
  first_go k.Caseless q = ap (λ m. or_start m start.One) (sym q)
  first_go k.Mark q = ap (λ m. or_start m start.One) (sym q)
  first_go k.Number q = stop_go q
  first_go k.Whitespace q = stop_go q
  first_go k.Other q = stop_go q

  pub first_number : (j : Class) → is_number j ≡ true → start.Number (width c) ≡ first_start j c cs
  unfolding first_start
  first_number j q = sym (ap (λ i. first_start i c cs) (same_is k.Number j q))

  pub first_prefix : (j : Class) → is_wordy j ≡ false → is_number j ≡ false → newline c ≡ false → is 32 c ≡ false → prefixed_start (is_white j) (width c) cs ≡ first_start j c cs
  unfolding first_start
  first_prefix k.Upper w n l s = never w
  first_prefix k.Lower w n l s = never w
  first_prefix k.Caseless w n l s = never w
  first_prefix k.Mark w n l s = never w
  first_prefix k.Number w n l s = never n
  first_prefix k.Whitespace w n l s = rw (l, s)
  first_prefix k.Other w n l s = refl

  pub first_newline : newline c ≡ true → start.White ≡ first_start (class_of c) c cs
  unfolding first_start
  first_newline q = rw (newline_white c q, q)

  pub first_space : is 32 c ≡ true → after_space cs ≡ first_start (class_of c) c cs
  unfolding first_start
  first_space q = rw (space_white c q, q, by_bool (newline c) (λ t. never (sym q ∙ newline_is_not_space c t)) (λ f. f))

-- an ASCII letter in front, and an ASCII character that may be a prefix
pub ascii_letter_lem : (b i : ℕ) (cs : List ℕ) (u : Bool) → i ≡ 1 → b ≤ 0x7f → is_letter (class_of b) ≡ true → Plain (class_of b) → same k.Upper (class_of b) ≡ u
    → or_start (come i (pick u (U None) L)) start.One ≡ first_start (class_of b) b cs
ascii_letter_lem b i cs u one low l p q = ap (λ i. or_start (come i (pick u (U None) L)) start.One) one ∙ first_go b cs (class_of b) (sym (letter_moves (class_of b) u l p q 1 ∙ ap (moved (class_of b) (U None)) (sym (width_1 b low))))

pub ascii_number : (b i : ℕ) (cs : List ℕ) → i ≡ 1 → b ≤ 0x7f → is_number (class_of b) ≡ true → start.Number i ≡ first_start (class_of b) b cs
ascii_number b i cs one low q = ap start.Number one ∙ ap start.Number (sym (width_1 b low)) ∙ first_number b cs (class_of b) q

pub ascii_prefix : (b i : ℕ) (cs : List ℕ) → i ≡ 1 → b ≤ 0x7f → is_letter (class_of b) ≡ false → Plain (class_of b) → is_number (class_of b) ≡ false → newline b ≡ false → is 32 b ≡ false
    → prefixed_start (is_white (class_of b)) i cs ≡ first_start (class_of b) b cs
ascii_prefix b i cs one low l p n q s = ap (λ i. prefixed_start (is_white (class_of b)) i cs) one ∙ ap (λ i. prefixed_start (is_white (class_of b)) i cs) (sym (width_1 b low)) ∙ first_prefix b cs (class_of b) (plain_wordy (class_of b) l p) n q s

-- a character outside ASCII is no CR, no LF and no space
pub high_newline : (c : ℕ) → 0x80 ≤ c → newline c ≡ false
high_newline c h = by_bool (newline c) (λ t. absurd (omega (arith, newline_ascii c t))) (λ f. f)

pub high_space : (c : ℕ) → 0x80 ≤ c → is 32 c ≡ false
high_space c h = ne_eqb c 32 (λ q. omega arith)

-- by what a peek says
pub start_none : {cs : List ℕ} → cs ≡ [] → start.One ≡ start_of cs
unfolding start_of
start_none e = rw e

pub start_at : (s : List ℕ) (at c e : ℕ) → Stands s at c e → first_start (class_of c) c (chars_at s e) ≡ start_of (chars_at s at)
unfolding start_of
start_at s at c e h = sym (ap start_of h.then)

pub space_none : {cs : List ℕ} → cs ≡ [] → start.One ≡ after_space cs
unfolding after_space
space_none e = rw e

pub space_at : (s : List ℕ) (at c e : ℕ) → at ≡ 1 → Stands s at c e → space_start (class_of c) e ≡ after_space (chars_at s at)
unfolding after_space
space_at s at c e q h = sym (ap after_space h.then ∙ ap (λ i. space_start (class_of c) (i + width c)) (sym q) ∙ ap (space_start (class_of c)) (sym h.wide))
