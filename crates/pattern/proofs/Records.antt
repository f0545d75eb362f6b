-- A text made of records is cut record by record.
use mathlib.Core.Bool.{true}
use mathlib.Core.Path.{◌≡◌, refl, sym, ap, ap₂, ◌∙◌}
use mathlib.Core.List.{List, [], ◌∷◌, ◌++◌, map, append-nil, append_assoc, map-append, map-map, map-id}
use Prim.Native.Nat.{ℕ, zero, suc, ◌+◌, ◌-◌, ◌≤◌}
use native.Mathlib.Nat.{add-zero, zero-add, add_assoc}
use native.Mathlib.Omega.{arith}
use lib.ListN.{length, take, length-append}
use lib.Seq.{take-append-le}
use Rattle.utf8.specs.Utf8.{chars, chars_at, width, widths, Valid}
use Rattle.utf8.proofs.Tests.{never}
use Rattle.utf8.proofs.Width.{width_1, widths_append}
use Rattle.utf8.proofs.Chars.{chars_nil}
use Rattle.utf8.proofs.Inverse.{chars_append}
use Rattle.utf8.proofs.Place.{start_le, ascii_char, ascii_split}
use Rattle.pattern.specs.declared.Options.{Options}
use Rattle.pattern.specs.Regex.{holds}
use Rattle.pattern.specs.Pattern.{newline, token}
use Rattle.pattern.specs.Answers.{passes, limit, checks, ends_from, ends_at}
use Rattle.pattern.specs.Records.{ends_line, fresh, Records, last, more, join, ends_of_each}
use Rattle.pattern.proofs.Sets.{newline_elim}
use Rattle.pattern.proofs.Bounds.{token_good}
use Rattle.pattern.proofs.Accepted.{accepted, accepts}
use Rattle.pattern.proofs.Closed as c
use Rattle.pattern.proofs.Closed.{Closed, closed_snoc, fresh_closed, token_closed}

-- empty, or closed
pub data Shut : List ℕ → Type 0 where
  empty : Shut []
  shut : {cs : List ℕ} → Closed cs → Shut cs

shut_next : {x : ℕ} {xs : List ℕ} → Shut (x ∷ xs) → Shut xs
shut_next (shut (c.here h)) = empty
shut_next (shut (c.there k)) = shut k

shut_closed : {x : ℕ} {xs : List ℕ} → Shut (x ∷ xs) → Closed (x ∷ xs)
shut_closed (shut k) = k

-- two texts of characters: the ends of the first, then those of the second
ends_append : (o : Options) (k at : ℕ) (xs ys : List ℕ) → fresh o ys ≡ true → Shut xs → k ≤ length xs
    → ends_from o k at (xs ++ ys) ≡ ends_from o k at xs ++ ends_from o 0 (at + widths xs) ys
unfolding ends_from widths
ends_append o zero at [] ys f s h = rw add-zero
ends_append o (suc k) at [] ys f s h = absurd (omega arith)
ends_append o zero at (x ∷ xs) ys f s h =
    let n = token o (x ∷ xs) in
    let t = token_good o x xs in
    rw (token_closed o ys f (shut_closed s), take-append-le n (x ∷ xs) ys t.1)
    (ap (λ l. (at + widths (take n (x ∷ xs))) ∷ l) (ends_append o (n - 1) (at + width x) xs ys f (shut_next s) (omega arith) ∙ rw add_assoc))
ends_append o (suc k) at (x ∷ xs) ys f s h = ends_append o k (at + width x) xs ys f (shut_next s) (omega arith) ∙ rw add_assoc

-- characters that stand j later have their ends j later
ends_moved : (o : Options) (k j at : ℕ) (cs : List ℕ) → ends_from o k (j + at) cs ≡ map (λ e. j + e) (ends_from o k at cs)
unfolding ends_from
ends_moved o k j at [] = refl
ends_moved o zero j at (c ∷ cs) = rw (add_assoc j at (widths (take (token o (c ∷ cs)) (c ∷ cs))), add_assoc j at (width c), ends_moved o (token o (c ∷ cs) - 1) j (at + width c) cs)
ends_moved o (suc k) j at (c ∷ cs) = rw (add_assoc, ends_moved o k j (at + width c) cs)

-- a record that ends in CR or LF, before some text: both are valid, and their characters stand one after the other
pub record Line (r rest : List ℕ) : Type 0 where
  pub self : Valid r
  pub after : Valid rest
  pub closed : Closed (chars r)
  pub both : chars (r ++ rest) ≡ chars r ++ chars rest

-- its bytes before the last, and the last
pub record Snoc (r : List ℕ) : Type 0 where
  pub front : List ℕ
  pub byte : ℕ
  pub is : r ≡ front ++ (byte ∷ [])
  pub new : holds newline byte ≡ true

snoc : (r : List ℕ) → ends_line r ≡ true → Snoc r
unfolding ends_line
snoc [] e = never (sym e)
snoc (b ∷ []) e = record { front = []; byte = b; is = refl; new = e }
snoc (b ∷ c ∷ bs) e = let t = snoc (c ∷ bs) e in record { front = b ∷ t.front; byte = t.byte; is = ap (λ l. b ∷ l) t.is; new = t.new }

line : (r rest : List ℕ) → ends_line r ≡ true → Valid (r ++ rest) → Line r rest
unfolding widths
line r rest e v =
    let t = snoc r e in
    let h : t.byte ≤ 0x7f = newline_elim (λ c. c ≤ 0x7f) (omega arith) (omega arith) t.byte t.new in
    let w : Valid (t.front ++ t.byte ∷ rest) = rw (t.is, append_assoc) at v in
    let p = ascii_split t.front t.byte rest h w in
    let q : chars r ≡ chars t.front ++ (t.byte ∷ []) = ap chars t.is ∙ chars_append t.front (t.byte ∷ []) p.0 ∙ rw (ascii_char t.byte [] h, chars_nil) in
    let self : Valid r = omega (arith, ap widths q, widths_append (chars t.front) (t.byte ∷ []), width_1 t.byte h, p.0, ap length t.is, length-append t.front (t.byte ∷ [])) in
    record { self = self; after = p.1; closed = rw q (closed_snoc (chars t.front) t.byte t.new); both = chars_append r rest self }

ends_two : (o : Options) (r rest : List ℕ) → ends_line r ≡ true → fresh o (chars rest) ≡ true → Valid (r ++ rest) → ends_at o (r ++ rest) 0 ≡ ends_at o r 0 ++ map (λ e. length r + e) (ends_at o rest 0)
unfolding ends_at chars_at
ends_two o r rest e f v =
    let l = line r rest e v in
    let q : 0 + widths (chars r) ≡ length r + 0 = omega (arith, l.self) in
    rw l.both (ends_append o 0 0 (chars r) (chars rest) f (shut l.closed) (omega arith)
    ∙ ap (λ z. ends_from o 0 0 (chars r) ++ z) (ap (λ n. ends_from o 0 n (chars rest)) q ∙ ends_moved o 0 (length r) 0 (chars rest)))

-- what follows a record is fresh, whatever stands after it
fresh_join : (o : Options) {s : List ℕ} {rs : List (List ℕ)} → Records o (s ∷ rs) → Valid (join (s ∷ rs)) → fresh o (chars (join (s ∷ rs))) ≡ fresh o (chars s)
unfolding join
fresh_join o last v = rw append-nil
fresh_join o (more {r = s} {s = t} {rs = ts} e f m) v =
    let l = line s (join (t ∷ ts)) e v in
    rw l.both (fresh_closed o (chars (join (t ∷ ts))) l.closed)

pub data Each (P : List ℕ → Type 0) : List (List ℕ) → Type 0 where
  none : Each P []
  one : {r : List ℕ} {rs : List (List ℕ)} → P r → Each P rs → Each P (r ∷ rs)

each_valid : (o : Options) {rs : List (List ℕ)} → Records o rs → Valid (join rs) → Each Valid rs
unfolding join
each_valid o last v = one (rw append-nil at v) none
each_valid o (more {r = r} {s = s} {rs = rs} e f m) v = let l = line r (join (s ∷ rs)) e v in one l.self (each_valid o m l.after)

each_moved : (o : Options) (k at : ℕ) (rs : List (List ℕ)) → ends_of_each o (k + at) rs ≡ map (λ e. k + e) (ends_of_each o at rs)
unfolding ends_of_each
each_moved o k at [] = refl
each_moved o k at (r ∷ rs) = simp (add_assoc, map-append, map-map, each_moved o k (at + length r) rs)

ends_of_records : (o : Options) {rs : List (List ℕ)} → Records o rs → Valid (join rs) → ends_at o (join rs) 0 ≡ ends_of_each o 0 rs
unfolding join ends_of_each
ends_of_records o (last {r}) v = simp (append-nil, zero-add, map-id)
ends_of_records o (more {r} {s} {rs} e f m) v =
    let l = line r (join (s ∷ rs)) e v in
    let q : ends_at o r 0 ≡ map (λ e. 0 + e) (ends_at o r 0) = simp (zero-add, map-id) in
    ends_two o r (join (s ∷ rs)) e (fresh_join o m l.after ∙ f) v
    ∙ ap₂ ◌++◌ q (ap (λ z. map (λ e. length r + e) z) (ends_of_records o m l.after) ∙ sym (each_moved o (length r) 0 (s ∷ rs)) ∙ ap (λ n. ends_of_each o n (s ∷ rs)) (omega arith))

-- THE RECORD THEOREM
pub record CutByRecord (o : Options) (rs : List (List ℕ)) : Type 0 where
  pub accepted : Each (λ r. checks o r 0 ≡ passes) rs
  pub ends : ends_at o (join rs) 0 ≡ ends_of_each o 0 rs

-- a record is no longer than the text
each_accepted : (o : Options) (n : ℕ) (rs : List (List ℕ)) → o.digits ≤ 2 → n + length (join rs) ≤ limit → Each Valid rs → Each (λ r. checks o r 0 ≡ passes) rs
unfolding join
each_accepted o n [] d h none = none
each_accepted o n (r ∷ rs) d h (one v w) =
    let l = length-append r (join rs) in
    one (accepts o r 0 (record { mode = d; small = omega arith; valid = v; inside = omega arith; start = omega (arith, start_le (chars r) 0) }))
    (each_accepted o (n + length r) rs d (omega arith) w)

pub cut_by_record : (o : Options) {rs : List (List ℕ)} → Records o rs → checks o (join rs) 0 ≡ passes → CutByRecord o rs
cut_by_record o {rs} m e =
    let a = accepted o (join rs) 0 e in
    record { accepted = each_accepted o 0 rs a.mode (omega (arith, a.small)) (each_valid o m a.valid); ends = ends_of_records o m a.valid }
