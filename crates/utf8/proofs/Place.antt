-- Places of a text: where characters begin, and that a valid text may be cut there.
use Prim.Native.Nat.{ℕ, zero, suc, ◌+◌, ◌-◌, ◌/◌, ◌%◌, ◌<◌, ◌≤◌}
use mathlib.Core.Bool.{true, false}
use mathlib.Core.List.{List, [], ◌∷◌, ◌++◌}
use mathlib.Core.Path.{◌≡◌, refl, sym, ◌∙◌, ap}
use native.Mathlib.Omega.{arith}
use native.Mathlib.Nat.{add-zero}
use lib.Dec.{ltb}
use borrow.Author.Tests.{lt-ltb, le-ltb, ltb-false}
use lib.ListN.{length, get_or, take, drop, length-append, get_or-append, get_or-eq_default}
use lib.Seq.{get_or-append-add, get_or-append_seam, get_or-drop, drop-drop, drop-append_seam, take-append_seam, take_at}
use Rattle.utf8.specs.Utf8.{within, decode1, chars, chars_at, width, widths, Valid, char_start, encode1, encode, Char}
use Rattle.utf8.proofs.Tests.{by_le, in_range, below, above}
use Rattle.utf8.proofs.Table.{lead_00}
use Rattle.utf8.proofs.Width.{by_width, encode_1, encode_2, encode_3, encode_4, width_1, width_2, width_3, width_4, length_encode1, widths_split, widths_encode}
use Rattle.utf8.proofs.Chars.{by_front, char_is, chars_char, chars_nil, chars_drop}
use Rattle.utf8.proofs.Inverse.{valid_encode, chars_scalars, scalars_take, encode_split, encode_valid}

-- the definition, by whether the place is in the first character
start_in : (c : ℕ) (cs : List ℕ) (i : ℕ) → i < width c → char_start (c ∷ cs) i ≡ 0
unfolding char_start
start_in c cs i h = rw (lt-ltb i (width c) h)

start_past : (c : ℕ) (cs : List ℕ) (i : ℕ) → width c ≤ i → char_start (c ∷ cs) i ≡ width c + char_start cs (i - width c)
unfolding char_start
start_past c cs i h = rw (le-ltb i (width c) h)

pub start_le : (cs : List ℕ) (i : ℕ) → char_start cs i ≤ i
unfolding char_start
start_le [] i = omega arith
start_le (c ∷ cs) i = by_le (width c) i (λ h. let k = start_le cs (i - width c) in omega (arith, start_past c cs i h)) (λ h. omega (arith, start_in c cs i h))

-- one place back in the same character
pub start_back : (cs : List ℕ) (i : ℕ) → char_start cs i < i → char_start cs (i - 1) ≡ char_start cs i
unfolding char_start
start_back [] i h = refl
start_back (c ∷ cs) i h =
    by_le (width c) i
    (λ g.
    let p = start_past c cs i g in
    let k : char_start cs (i - width c) < i - width c = omega arith in
    let e : i - 1 - width c ≡ i - width c - 1 = omega arith in
    start_past c cs (i - 1) (omega arith) ∙ ap (λ n. width c + n) (ap (char_start cs) e ∙ start_back cs (i - width c) k) ∙ sym p)
    (λ g. start_in c cs (i - 1) (omega arith) ∙ sym (start_in c cs i g))

-- it is where the characters before it end
start_is : (cs : List ℕ) (i : ℕ) → (n : ℕ) × (char_start cs i ≡ widths (take n cs))
unfolding char_start widths
start_is [] i = (0, refl)
start_is (c ∷ cs) i = by_le (width c) i (λ h. let k = start_is cs (i - width c) in (suc k.0, start_past c cs i h ∙ ap (λ n. width c + n) k.1)) (λ h. (0, start_in c cs i h))

-- a character's first byte continues none, and its other bytes do
lead_out : (c : ℕ) → within 0x80 (get_or (encode1 c) 0 0) 0xbf ≡ false
lead_out c =
    by_width c (λ h. rw (encode_1 c h) (below 0x80 c 0xbf (omega arith)))
    (λ g h. rw (encode_2 c g h) (above 0x80 (0xc0 + c / 64) 0xbf (omega arith)))
    (λ g h. rw (encode_3 c g h) (above 0x80 (0xe0 + c / 4096) 0xbf (omega arith)))
    (λ g. rw (encode_4 c g) (above 0x80 (0xf0 + c / 262144) 0xbf (omega arith)))

tail : (m : ℕ) → within 0x80 (0x80 + m % 64) 0xbf ≡ true
tail m = in_range 0x80 (0x80 + m % 64) 0xbf (omega arith) (omega arith)

tail_in : (c i : ℕ) → suc i < width c → within 0x80 (get_or (encode1 c) (suc i) 0) 0xbf ≡ true
tail_in c i k =
    by_width c (λ h. absurd (omega (arith, width_1 c h)))
    (λ g h. let e = width_2 c g h in rw (encode_2 c g h) (go2 i (omega arith)))
    (λ g h. let e = width_3 c g h in rw (encode_3 c g h) (go3 i (omega arith)))
    (λ g. let e = width_4 c g in rw (encode_4 c g) (go4 i (omega arith)))
  where
    go2 : (i : ℕ) → i < 1 → within 0x80 (get_or ((0x80 + c % 64) ∷ []) i 0) 0xbf ≡ true
    go2 zero h = tail c
    go2 (suc i) h = absurd (omega arith)

    go3 : (i : ℕ) → i < 2 → within 0x80 (get_or ((0x80 + c / 64 % 64) ∷ (0x80 + c % 64) ∷ []) i 0) 0xbf ≡ true
    go3 zero h = tail (c / 64)
    go3 (suc i) h = go2 i (omega arith)

    go4 : (i : ℕ) → i < 3 → within 0x80 (get_or ((0x80 + c / 4096 % 64) ∷ (0x80 + c / 64 % 64) ∷ (0x80 + c % 64) ∷ []) i 0) 0xbf ≡ true
    go4 zero h = tail (c / 4096)
    go4 (suc i) h = go3 i (omega arith)

continues : (cs : List ℕ) (i : ℕ) → i ≤ widths cs → within 0x80 (get_or (encode cs) i 0) 0xbf ≡ ltb (char_start cs i) i
unfolding encode widths char_start
continues [] i h = let e : i ≡ 0 = omega arith in rw e
continues (c ∷ cs) i h =
    by_le (width c) i
    (λ g.
    let j = i - width c in
    let e : length (encode1 c) + j ≡ i = omega (arith, length_encode1 c) in
    let k = continues cs j (omega arith) in
    ap (λ n. within 0x80 (get_or (encode1 c ++ encode cs) n 0) 0xbf) (sym e)
    ∙ ap (λ n. within 0x80 n 0xbf) (get_or-append-add (encode1 c) (encode cs) j 0)
    ∙ k
    ∙ shift (width c) (char_start cs j) j i (omega arith)
    ∙ ap (λ n. ltb n i) (sym (start_past c cs i g)))
    (λ g. ap (λ n. within 0x80 n 0xbf) (get_or-append (encode1 c) (encode cs) 0 i (omega (arith, length_encode1 c))) ∙ first i g ∙ ap (λ n. ltb n i) (sym (start_in c cs i g)))
  where
    shift : (w a b i : ℕ) → w + b ≡ i → ltb a b ≡ ltb (w + a) i
    shift w a b i e = by_le b a (λ g. le-ltb a b g ∙ sym (le-ltb (w + a) i (omega arith))) (λ g. lt-ltb a b g ∙ sym (lt-ltb (w + a) i (omega arith)))

    first : (i : ℕ) → i < width c → within 0x80 (get_or (encode1 c) i 0) 0xbf ≡ ltb 0 i
    first zero h = lead_out c
    first (suc i) h = tail_in c i h ∙ sym (lt-ltb 0 (suc i) (omega arith))

-- so in a valid text a byte from 80 to BF is just one that continues a character
pub continues_at : (s : List ℕ) (i : ℕ) → Valid s → i ≤ length s → within 0x80 (get_or s i 0) 0xbf ≡ ltb (char_start (chars s) i) i
continues_at s i e h = ap (λ l. within 0x80 (get_or l i 0) 0xbf) (sym (valid_encode s e)) ∙ continues (chars s) i (omega arith)

pub start_of : (s : List ℕ) (i : ℕ) → Valid s → i ≤ length s → within 0x80 (get_or s i 0) 0xbf ≡ false → char_start (chars s) i ≡ i
start_of s i e h n = omega (arith, start_le (chars s) i, ltb-false (char_start (chars s) i) i (sym (continues_at s i e h) ∙ n))

-- a place of a valid text at which a character begins, or its end: from there on it is valid
pub record On (s : List ℕ) (at : ℕ) : Type 0 where
  pub room : at ≤ length s
  pub rest : at + widths (chars_at s at) ≡ length s

pub on_start : (s : List ℕ) (at : ℕ) → Valid s → at ≤ length s → char_start (chars s) at ≡ at → On s at
unfolding chars_at
on_start s at e h k =
    let n = start_is (chars s) at in
    let q : chars (drop at s) ≡ drop n.0 (chars s) = ap (λ m. chars (drop m s)) (sym k ∙ n.1) ∙ chars_drop n.0 s in
    record { room = h; rest = omega (arith, ap widths q, widths_split n.0 (chars s), sym k ∙ n.1) }

pub on_begins : (s : List ℕ) (at : ℕ) → Valid s → On s at → char_start (chars s) at ≡ at
unfolding chars_at widths
on_begins s at e h =
    by_front (drop at s)
    (λ c w d.
    let r = char_is (drop at s) d in
    let b : get_or s at 0 ≡ get_or (encode1 c) 0 0 = ap (λ n. get_or s n 0) (sym (add-zero at)) ∙ sym (get_or-drop at s 0 0) ∙ ap (λ l. get_or l 0 0) r.same ∙ get_or-append (encode1 c) (drop w (drop at s)) 0 0 (omega (arith, length_encode1 c, r.wide, r.some)) in
    start_of s at e h.room (ap (λ n. within 0x80 n 0xbf) b ∙ lead_out c))
    (λ n.
    let k : length s ≤ at = omega (arith, h.rest, ap widths n) in
    start_of s at e h.room (ap (λ n. within 0x80 n 0xbf) (get_or-eq_default s 0 {n = at} k)))

-- n characters on
pub on_past : (s : List ℕ) (at n : ℕ) → On s at → On s (at + widths (take n (chars_at s at)))
unfolding chars_at
on_past s at n h =
    let w = widths (take n (chars (drop at s))) in
    let q : chars (drop (at + w) s) ≡ drop n (chars (drop at s)) = rw (← (drop-drop w at s)) (chars_drop n (drop at s)) in
    let t = widths_split n (chars (drop at s)) in
    record { room = omega (arith, h.rest); rest = rw q (omega (arith, h.rest)) }

-- the text before such a place is valid
on_before : (s : List ℕ) (at : ℕ) → Valid s → On s at → Valid (take at s)
on_before s at v h =
    let n = start_is (chars s) at in
    let k : at ≡ widths (take n.0 (chars s)) = sym (on_begins s at v h) ∙ n.1 in
    let q : take at s ≡ encode (take n.0 (chars s)) = ap (take at) (sym (valid_encode s v) ∙ encode_split n.0 (chars s)) ∙ take_at _ (encode (drop n.0 (chars s))) at (sym (widths_encode (take n.0 (chars s))) ∙ sym k) in
    rw q (encode_valid (take n.0 (chars s)) (scalars_take n.0 (chars s) (chars_scalars s)))

-- an ASCII byte is a character
pub ascii_char : (b : ℕ) (ys : List ℕ) → b ≤ 0x7f → chars (b ∷ ys) ≡ b ∷ chars ys
unfolding decode1
ascii_char b ys h = let e : decode1 (b ∷ ys) ≡ Char b 1 = rw (lead_00 b h) in chars_char (b ∷ ys) e

-- so a valid text may be cut at one: what stands before it and what stands after it are valid
pub ascii_split : (xs : List ℕ) (b : ℕ) (ys : List ℕ) → b ≤ 0x7f → Valid (xs ++ b ∷ ys) → Valid xs × Valid ys
unfolding chars_at widths
ascii_split xs b ys h v =
    let s = xs ++ b ∷ ys in
    let i = length xs in
    let l = length-append xs (b ∷ ys) in
    let n : within 0x80 (get_or s i 0) 0xbf ≡ false = rw (get_or-append_seam xs b ys 0) (below 0x80 b 0xbf (omega arith)) in
    let on = on_start s i v (omega arith) (start_of s i v (omega arith) n) in
    let t : chars (drop i s) ≡ b ∷ chars ys = ap chars (drop-append_seam xs (b ∷ ys)) ∙ ascii_char b ys h in
    (rw take-append_seam at (on_before s i v on), omega (arith, on.rest, ap widths t, width_1 b h))

-- a text of ASCII bytes is valid
pub ascii_valid : (s : List ℕ) → ((k : ℕ) → k < length s → get_or s k 0 ≤ 0x7f) → Valid s
unfolding widths
ascii_valid [] f = ap widths chars_nil
ascii_valid (b ∷ bs) f =
    let h = f 0 (omega arith) in
    let t = ascii_valid bs (λ k l. f (suc k) (omega arith)) in
    omega (arith, ap widths (ascii_char b bs h), width_1 b h)
