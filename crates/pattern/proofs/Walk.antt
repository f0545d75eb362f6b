-- The walk over a text: each token is not empty and ends on a character, the ends climb to the length, and the tokens put together are the text.
use Prim.Native.Nat.{ℕ, zero, suc, ◌+◌, ◌-◌, ◌<◌, ◌≤◌}
use mathlib.Core.List.{List, [], ◌∷◌, ◌++◌, map}
use mathlib.Core.Path.{◌≡◌, refl, sym, ◌∙◌, ap}
use native.Mathlib.Omega.{arith}
use native.Mathlib.Nat.{add-zero}
use lib.ListN.{length, take, drop, take-append-drop}
use lib.Seq.{take_all, drop-drop, drop-length}
use Rattle.utf8.specs.Utf8.{chars, chars_at, width, widths, char_start}
use Rattle.utf8.proofs.Tests.{by_le}
use Rattle.utf8.proofs.Width.{widths_some}
use Rattle.utf8.proofs.Chars.{chars_nil, chars_drop}
use Rattle.utf8.proofs.Place.{On, on_begins, on_past}
use Rattle.pattern.specs.declared.Options.{Options}
use Rattle.pattern.specs.Pattern.{token}
use Rattle.pattern.specs.Records.{join}
use Rattle.pattern.specs.Answers.{passes, checks, token_end, ends_from, ends_at, written}
use Rattle.pattern.proofs.Bounds.{token_good}
use Rattle.pattern.proofs.Accepted.{accepted, on}

by_chars : {P : Type 0} (cs : List ℕ) → (cs ≡ [] → P) → ((c : ℕ) (ds : List ℕ) → cs ≡ c ∷ ds → P) → P
by_chars [] f g = f refl
by_chars (c ∷ cs) f g = g c cs refl

-- a token's end: past its start, and on a character
pub end_past : (o : Options) (s : List ℕ) (at : ℕ) → On s at → at < length s → at < token_end o s at
unfolding token_end widths
end_past o s at h k =
    by_chars (chars_at s at)
    (λ e. absurd (omega (arith, h.rest, ap widths e)))
    (λ c ds e. rw e (omega (arith, widths_some (token o (c ∷ ds)) c ds (token_good o c ds).0)))

pub end_on : (o : Options) (s : List ℕ) (at : ℕ) → On s at → On s (token_end o s at)
unfolding token_end
end_on o s at h = on_past s at (token o (chars_at s at)) h

-- THE TOKEN: of an accepted call before the end of the text
pub record Token (s : List ℕ) (at end : ℕ) : Type 0 where
  pub nonempty : at < end
  pub within : end ≤ length s
  pub whole : char_start (chars s) end ≡ end

pub token_is_whole : (o : Options) (s : List ℕ) (at : ℕ) → checks o s at ≡ passes → at < length s → Token s at (token_end o s at)
token_is_whole o s at e h =
    let a = accepted o s at e in
    let k = end_on o s at (on a) in
    record { nonempty = end_past o s at (on a) h; within = k.room; whole = on_begins s (token_end o s at) a.valid k }

-- the ends: past k characters, those from there on
ends_skip : (o : Options) (k at : ℕ) (cs : List ℕ) → ends_from o k at cs ≡ ends_from o 0 (at + widths (take k cs)) (drop k cs)
unfolding ends_from widths
ends_skip o zero at cs = rw add-zero
ends_skip o (suc k) at [] = refl
ends_skip o (suc k) at (c ∷ cs) = let e : at + width c + widths (take k cs) ≡ at + (width c + widths (take k cs)) = omega arith in ends_skip o k (at + width c) cs ∙ rw e

ends_cons : (o : Options) (n at c : ℕ) (cs : List ℕ) → 1 ≤ n → ends_from o (n - 1) (at + width c) cs ≡ ends_from o 0 (at + widths (take n (c ∷ cs))) (drop n (c ∷ cs))
unfolding widths
ends_cons o zero at c cs h = absurd (omega arith)
ends_cons o (suc n) at c cs h =
    let q : suc n - 1 ≡ n = omega arith in
    let e : at + width c + widths (take n cs) ≡ at + (width c + widths (take n cs)) = omega arith in
    rw q (ends_skip o n (at + width c) cs ∙ rw e)

-- each end is the definition's at its own start
pub ends_some : (o : Options) (s : List ℕ) (at : ℕ) → On s at → at < length s → ends_at o s at ≡ token_end o s at ∷ ends_at o s (token_end o s at)
unfolding ends_at token_end ends_from widths chars_at
ends_some o s at h k =
    by_chars (chars (drop at s))
    (λ e. absurd (omega (arith, h.rest, ap widths e)))
    (λ c ds e.
    let n = token o (c ∷ ds) in
    let w = widths (take n (c ∷ ds)) in
    let q : drop n (c ∷ ds) ≡ chars (drop (at + w) s) = sym (rw (drop-drop, e) at (chars_drop n (drop at s))) in
    rw e (ap (λ l. (at + w) ∷ l) (ends_cons o n at c ds (token_good o c ds).0 ∙ ap (ends_from o 0 (at + w)) q)))

pub ends_none : (o : Options) (s : List ℕ) → ends_at o s (length s) ≡ []
unfolding ends_at ends_from chars_at
ends_none o s = rw (drop-length s, chars_nil)

-- the ends rise from a to b
pub data Climbs : ℕ → List ℕ → ℕ → Type 0 where
  there : {a : ℕ} → Climbs a [] a
  past : {a b e : ℕ} {es : List ℕ} → a < e → Climbs e es b → Climbs a (e ∷ es) b

pub climbs_le : {a b : ℕ} {es : List ℕ} → Climbs a es b → a ≤ b
climbs_le there = omega arith
climbs_le (past h k) = let l = climbs_le k in omega arith

pub climbs_append : {a b c : ℕ} {es fs : List ℕ} → Climbs a es b → Climbs b fs c → Climbs a (es ++ fs) c
climbs_append there k = k
climbs_append (past h j) k = past h (climbs_append j k)

pub climbs_moved : (n : ℕ) {a b : ℕ} {es : List ℕ} → Climbs a es b → Climbs (n + a) (map (λ e. n + e) es) (n + b)
climbs_moved n there = there
climbs_moved n (past {a} {b} {e} h k) = let l : n + a < n + e = omega arith in past l (climbs_moved n k)

climb : (o : Options) (s : List ℕ) (n at : ℕ) → length s - at ≤ n → On s at → Climbs at (ends_at o s at) (length s)
climb o s zero at m h = let q : at ≡ length s = omega (arith, h.room) in rw (q, ends_none o s) there
climb o s (suc n) at m h = by_le (length s) at
    (λ k. let q : at ≡ length s = omega (arith, h.room) in rw (q, ends_none o s) there)
    (λ k. let p = end_past o s at h k in rw (ends_some o s at h k) (past p (climb o s n (token_end o s at) (omega arith) (end_on o s at h))))

-- THE WALK
pub walk_climbs : (o : Options) (s : List ℕ) (at : ℕ) → checks o s at ≡ passes → Climbs at (ends_at o s at) (length s)
walk_climbs o s at e = climb o s (length s) at (omega arith) (on (accepted o s at e))

pub climbs_length : {a b : ℕ} {es : List ℕ} → Climbs a es b → a + length es ≤ b
climbs_length there = omega arith
climbs_length (past h k) = let l = climbs_length k in omega arith

-- a fill with room for as many ends as the text has bytes writes them all
pub fill_whole : (o : Options) (s : List ℕ) (at room : ℕ) → checks o s at ≡ passes → length s ≤ room → written o s at room ≡ ends_at o s at
unfolding written
fill_whole o s at room e h = let l = climbs_length (walk_climbs o s at e) in rw e (take_all room (ends_at o s at) (omega arith))

-- the parts of a text between a place and each end after it
unfoldable pub parts : List ℕ → ℕ → List ℕ → List (List ℕ)
parts s at [] = []
parts s at (e ∷ es) = take (e - at) (drop at s) ∷ parts s e es

parts_join : (s : List ℕ) {at end : ℕ} {es : List ℕ} → Climbs at es end → end ≡ length s → join (parts s at es) ≡ drop at s
unfolding join parts
parts_join s there e = rw (e, drop-length s)
parts_join s (past {a = at} {e = e} h c) q =
    let k : at + (e - at) ≡ e = omega arith in
    rw (parts_join s c q, ← (ap (λ n. drop n s) k), ← (drop-drop (e - at) at s)) (take-append-drop (e - at) (drop at s))

pub tokens_are_text : (o : Options) (s : List ℕ) → checks o s 0 ≡ passes → join (parts s 0 (ends_at o s 0)) ≡ s
tokens_are_text o s e = parts_join s (walk_climbs o s 0 e) refl
