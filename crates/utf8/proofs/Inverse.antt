-- The decoder and the encoding undo one another: on scalar values, and on valid text.
use Prim.Native.Nat.{ℕ, zero, suc, ◌+◌, ◌*◌, ◌/◌, ◌%◌, ◌≤◌}
use mathlib.Core.Bool.{Bool, true, false}
use mathlib.Core.List.{List, [], ◌∷◌, ◌++◌, append_assoc, append-nil}
use mathlib.Core.Path.{◌≡◌, refl, sym, ◌∙◌, ap, subst}
use native.Mathlib.Omega.{arith}
use borrow.Author.Tests.{lt-leb}
use lib.ListN.{length, get_or, take, drop, length-append, length-drop}
use lib.Seq.{drop_at, drop-drop, drop-length}
use Rattle.utf8.specs.Utf8.{lead_of, pick, from3, from4, decode_as, decode1, chars, width, widths, valid_length, Valid, encode1, encode, scalar, Char}
use Rattle.utf8.proofs.Tests.{by_le, both, in_range, range_true}
use Rattle.utf8.proofs.Table.{lead_00, lead_c2, lead_e0, lead_e1, lead_ed, lead_ee, lead_f0, lead_f1, lead_f4}
use Rattle.utf8.proofs.Width.{encode_1, encode_2, encode_3, encode_4, width_1, width_2, width_3, width_4, length_encode1, widths_encode}
use Rattle.utf8.proofs.Chars.{char_is, by_front, chars_char, chars_nil}

back3 : (a z c : ℕ) → 0x800 ≤ c → c ≤ 0xffff → a ≤ 0x80 + c / 64 % 64 → 0x80 + c / 64 % 64 ≤ z → from3 a z (0xe0 + c / 4096) (0x80 + c / 64 % 64) (0x80 + c % 64) ≡ Char c (width c)
back3 a z c g h p q =
    let e : (0xe0 + c / 4096) % 16 * 4096 + (0x80 + c / 64 % 64) % 64 * 64 + (0x80 + c % 64) % 64 ≡ c = omega arith in
    rw (in_range a (0x80 + c / 64 % 64) z p q, in_range 0x80 (0x80 + c % 64) 0xbf (omega arith) (omega arith), e, width_3 c g h)

-- the low bits of each byte, and the digits to the base 64 that they are
low6 : (m : ℕ) → (0x80 + m % 64) % 64 ≡ m % 64
low6 m = omega arith

low3 : (m : ℕ) → m ≤ 4 → (0xf0 + m) % 8 ≡ m
low3 m h = omega arith

digits2 : (c : ℕ) → c / 4096 * 64 + c / 64 % 64 ≡ c / 64
digits2 c = omega arith

digits3 : (c : ℕ) → c / 262144 * 64 + c / 4096 % 64 ≡ c / 4096
digits3 c = omega arith

digits1 : (c : ℕ) → c / 64 * 64 + c % 64 ≡ c
digits1 c = omega arith

top4 : (c : ℕ) → c ≤ 0x10ffff → c / 262144 ≤ 4
top4 c h = omega arith

join4 : (t x y z q2 q1 c : ℕ) → t * 64 + x ≡ q2 → q2 * 64 + y ≡ q1 → q1 * 64 + z ≡ c → t * 262144 + x * 4096 + y * 64 + z ≡ c
join4 t x y z q2 q1 c e3 e2 e1 = omega arith

back4 : (a z c : ℕ) → 0x10000 ≤ c → c ≤ 0x10ffff → a ≤ 0x80 + c / 4096 % 64 → 0x80 + c / 4096 % 64 ≤ z → from4 a z (0xf0 + c / 262144) (0x80 + c / 4096 % 64) (0x80 + c / 64 % 64) (0x80 + c % 64) ≡ Char c (width c)
back4 a z c g h p q =
    let e : (0xf0 + c / 262144) % 8 * 262144 + (0x80 + c / 4096 % 64) % 64 * 4096 + (0x80 + c / 64 % 64) % 64 * 64 + (0x80 + c % 64) % 64 ≡ c
    = simp (low3 (c / 262144) (top4 c h), low6) (join4 (c / 262144) (c / 4096 % 64) (c / 64 % 64) (c % 64) (c / 4096) (c / 64) c (digits3 c) (digits2 c) (digits1 c)) in
    rw (in_range a (0x80 + c / 4096 % 64) z p q, in_range 0x80 (0x80 + c / 64 % 64) 0xbf (omega arith) (omega arith), in_range 0x80 (0x80 + c % 64) 0xbf (omega arith) (omega arith), e, width_4 c g)

high : (c : ℕ) → scalar c ≡ true → 0xd800 ≤ c → (0xe000 ≤ c) × (c ≤ 0x10ffff)
high c e g = range_true 0xe000 c 0x10ffff (rw (lt-leb c 0xd7ff g) at e)

-- a character's bytes decode to it, whatever follows
pub decode_encode1 : (c : ℕ) (rest : List ℕ) → scalar c ≡ true → decode1 (encode1 c ++ rest) ≡ Char c (width c)
unfolding decode1
decode_encode1 c rest e =
    by_le c 0x7f (λ h. rw (encode_1 c h, lead_00 c h, width_1 c h))
    (λ g. by_le c 0x7ff (λ h. let v : (0xc0 + c / 64) % 32 * 64 + (0x80 + c % 64) % 64 ≡ c = omega arith in rw (encode_2 c g h, lead_c2 (0xc0 + c / 64) (omega arith) (omega arith), in_range 0x80 (0x80 + c % 64) 0xbf (omega arith) (omega arith), v, width_2 c g h))
    (λ g. by_le c 0xfff (λ h. let b : 0xe0 + c / 4096 ≡ 0xe0 = omega arith in rw (encode_3 c g (omega arith)) (subst (λ l. decode_as l (0xe0 + c / 4096) (0x80 + c / 64 % 64) (0x80 + c % 64) (get_or rest 0 0) ≡ Char c (width c)) (sym (ap lead_of b ∙ lead_e0)) (back3 0xa0 0xbf c g (omega arith) (omega arith) (omega arith))))
    (λ g. by_le c 0xcfff (λ h. rw (encode_3 c (omega arith) (omega arith), lead_e1 (0xe0 + c / 4096) (omega arith) (omega arith)) (back3 0x80 0xbf c (omega arith) (omega arith) (omega arith) (omega arith)))
    (λ g. by_le c 0xd7ff (λ h. let b : 0xe0 + c / 4096 ≡ 0xed = omega arith in rw (encode_3 c (omega arith) (omega arith)) (subst (λ l. decode_as l (0xe0 + c / 4096) (0x80 + c / 64 % 64) (0x80 + c % 64) (get_or rest 0 0) ≡ Char c (width c)) (sym (ap lead_of b ∙ lead_ed)) (back3 0x80 0x9f c (omega arith) (omega arith) (omega arith) (omega arith))))
    (λ g. let s = high c e g in by_le c 0xffff (λ h. rw (encode_3 c (omega arith) (omega arith), lead_ee (0xe0 + c / 4096) (omega arith) (omega arith)) (back3 0x80 0xbf c (omega arith) (omega arith) (omega arith) (omega arith)))
    (λ g. by_le c 0x3ffff (λ h. let b : 0xf0 + c / 262144 ≡ 0xf0 = omega arith in rw (encode_4 c g) (subst (λ l. decode_as l (0xf0 + c / 262144) (0x80 + c / 4096 % 64) (0x80 + c / 64 % 64) (0x80 + c % 64) ≡ Char c (width c)) (sym (ap lead_of b ∙ lead_f0)) (back4 0x90 0xbf c g (omega arith) (omega arith) (omega arith))))
    (λ g. by_le c 0xfffff (λ h. rw (encode_4 c (omega arith), lead_f1 (0xf0 + c / 262144) (omega arith) (omega arith)) (back4 0x80 0xbf c (omega arith) (omega arith) (omega arith) (omega arith)))
    (λ g. let b : 0xf0 + c / 262144 ≡ 0xf4 = omega arith in rw (encode_4 c (omega arith)) (subst (λ l. decode_as l (0xf0 + c / 262144) (0x80 + c / 4096 % 64) (0x80 + c / 64 % 64) (0x80 + c % 64) ≡ Char c (width c)) (sym (ap lead_of b ∙ lead_f4)) (back4 0x80 0x8f c (omega arith) (omega arith) (omega arith) (omega arith)))))))))))

-- all are scalar values
unfoldable pub scalars : List ℕ → Bool
scalars [] = true
scalars (c ∷ cs) = pick (scalar c) (scalars cs) false

-- the characters of an encoding, whatever follows it
pub chars_after : (cs ys : List ℕ) → scalars cs ≡ true → chars (encode cs ++ ys) ≡ cs ++ chars ys
unfolding encode scalars
chars_after [] ys e = refl
chars_after (c ∷ cs) ys e =
    let s = both (scalar c) (scalars cs) e in
    rw append_assoc
    (chars_char (encode1 c ++ (encode cs ++ ys)) (decode_encode1 c (encode cs ++ ys) s.0)
    ∙ ap (λ l. c ∷ l) (rw (drop_at (encode1 c) (encode cs ++ ys) (width c) (length_encode1 c)) (chars_after cs ys s.1)))

pub chars_encode : (cs : List ℕ) → scalars cs ≡ true → chars (encode cs) ≡ cs
chars_encode cs e = ap chars (sym (append-nil (encode cs))) ∙ chars_after cs [] e ∙ rw (chars_nil, append-nil)

-- some bytes are the encoding of their characters, and what is left from the first ill-formed sequence on
whole : (n : ℕ) (bs : List ℕ) → length bs ≤ n → (scalars (chars bs) ≡ true) × (bs ≡ encode (chars bs) ++ drop (valid_length bs) bs)
unfolding widths encode scalars
whole zero bs h = by_front bs (λ c w e. let r = char_is bs e in absurd (omega (arith, r.some, r.room))) (λ e. rw e (refl, refl))
whole (suc n) bs h =
    by_front bs
    (λ c w e.
    let r = char_is bs e in
    let i = whole n (drop w bs) (omega (arith, r.some, length-drop w bs)) in
    let k : drop (width c + valid_length (drop w bs)) bs ≡ drop (valid_length (drop w bs)) (drop w bs) = rw (← r.wide) (sym (drop-drop (valid_length (drop w bs)) w bs)) in
    rw (chars_char bs e) (rw r.real i.0, r.same ∙ ap (λ l. encode1 c ++ l) i.1 ∙ simp (append_assoc, k)))
    (λ e. rw e (refl, refl))

pub chars_scalars : (bs : List ℕ) → scalars (chars bs) ≡ true
chars_scalars bs = (whole (length bs) bs (omega arith)).0

pub encode_chars : (bs : List ℕ) → bs ≡ encode (chars bs) ++ drop (valid_length bs) bs
encode_chars bs = (whole (length bs) bs (omega arith)).1

-- so a well-formed text is the encoding of its characters
pub valid_encode : (bs : List ℕ) → Valid bs → encode (chars bs) ≡ bs
valid_encode bs e = sym (encode_chars bs ∙ rw (e, drop-length) (append-nil (encode (chars bs))))

pub valid_room : (bs : List ℕ) → valid_length bs ≤ length bs
valid_room bs = omega (arith, widths_encode (chars bs), simp length-append at (ap length (encode_chars bs)))

pub chars_append : (xs ys : List ℕ) → Valid xs → chars (xs ++ ys) ≡ chars xs ++ chars ys
chars_append xs ys v = ap (λ l. chars (l ++ ys)) (sym (valid_encode xs v)) ∙ chars_after (chars xs) ys (chars_scalars xs)

pub encode_valid : (cs : List ℕ) → scalars cs ≡ true → Valid (encode cs)
encode_valid cs e = ap widths (chars_encode cs e) ∙ widths_encode cs

-- the first n characters, and the rest
pub encode_split : (n : ℕ) (cs : List ℕ) → encode cs ≡ encode (take n cs) ++ encode (drop n cs)
unfolding encode
encode_split zero cs = refl
encode_split (suc n) [] = refl
encode_split (suc n) (c ∷ cs) = ap (λ l. encode1 c ++ l) (encode_split n cs) ∙ sym (append_assoc (encode1 c) (encode (take n cs)) (encode (drop n cs)))

pub scalars_take : (n : ℕ) (cs : List ℕ) → scalars cs ≡ true → scalars (take n cs) ≡ true
unfolding scalars
scalars_take zero cs e = refl
scalars_take (suc n) [] e = refl
scalars_take (suc n) (c ∷ cs) e = let s = both (scalar c) (scalars cs) e in rw s.0 (scalars_take n cs s.1)
