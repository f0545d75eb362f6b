-- The place of the first ill-formed sequence: before it stand the encodings of scalar values, at it stands none, and no other place is so.
use Prim.Native.Nat.{ℕ}
use mathlib.Core.Bool.{true}
use mathlib.Core.List.{List, [], ◌∷◌, ◌++◌, append-nil}
use mathlib.Core.Path.{◌≡◌, refl, sym, ◌∙◌, ap}
use native.Mathlib.Omega.{arith}
use lib.ListN.{length, take, drop, length-append}
use lib.Seq.{take_at}
use Rattle.utf8.specs.Utf8.{decode1, chars, width, widths, valid_length, encode1, encode, scalar, Char, Bad}
use Rattle.utf8.proofs.Width.{widths_encode}
use Rattle.utf8.proofs.Chars.{char_is, chars_char, by_front}
use Rattle.utf8.proofs.Inverse.{decode_encode1, scalars, chars_scalars, encode_chars, chars_after}

-- no scalar value's encoding stands in front of some bytes
abbrev pub NoneInFront : List ℕ → Type 0
NoneInFront bs = (c : ℕ) (rest : List ℕ) → scalar c ≡ true → bs ≡ encode1 c ++ rest → ⊥

-- where the decoder answers Bad
pub bad_is_none : (bs : List ℕ) → decode1 bs ≡ Bad → NoneInFront bs
bad_is_none bs e c rest r q = let w : Bad ≡ Char c (width c) = sym e ∙ ap decode1 q ∙ decode_encode1 c rest r in let z : ◌≡◌ {A = ℕ} 0 1 = cc in omega arith

none_is_empty : (bs : List ℕ) → NoneInFront bs → chars bs ≡ []
none_is_empty bs f = by_front bs (λ c w e. let r = char_is bs e in absurd (f c (drop w bs) r.real r.same)) (λ e. e)

empty_is_none : (bs : List ℕ) → chars bs ≡ [] → NoneInFront bs
empty_is_none bs e c rest r q =
    let w : [] ≡ c ∷ chars (drop (width c) bs) = sym e ∙ chars_char bs (ap decode1 q ∙ decode_encode1 c rest r) in
    omega (arith, ap length w)

-- THE FIRST DAMAGE of a text, or its end
pub first_damage : (s : List ℕ) → (scalars (chars s) ≡ true) × (take (valid_length s) s ≡ encode (chars s)) × NoneInFront (drop (valid_length s) s)
first_damage s =
    let v = valid_length s in
    let q = encode_chars s in
    let n : chars s ≡ chars s ++ chars (drop v s) = ap chars q ∙ chars_after (chars s) (drop v s) (chars_scalars s) in
    let k : length (chars (drop v s)) ≡ 0 = omega (arith, ap length n, length-append (chars s) (chars (drop v s))) in
    (chars_scalars s, ap (take v) q ∙ take_at (encode (chars s)) (drop v s) v (sym (widths_encode (chars s))), empty_is_none (drop v s) (nothing (chars (drop v s)) k))
  where
    nothing : (cs : List ℕ) → length cs ≡ 0 → cs ≡ []
    nothing [] e = refl
    nothing (c ∷ cs) e = absurd (omega arith)

-- no other place is so
pub damage_is_one : (cs rest : List ℕ) → scalars cs ≡ true → NoneInFront rest → valid_length (encode cs ++ rest) ≡ length (encode cs)
damage_is_one cs rest e f = ap widths (chars_after cs rest e ∙ ap (λ l. cs ++ l) (none_is_empty rest f) ∙ append-nil cs) ∙ widths_encode cs
