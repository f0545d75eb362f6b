-- A walk goes on: a call from an end that was answered is accepted, and next ends or fills one after another give what one walk gives.
use Prim.Native.Nat.{ℕ, zero, suc, ◌+◌, ◌<◌}
use mathlib.Core.List.{List, [], ◌∷◌, ◌++◌}
use mathlib.Core.Path.{◌≡◌, refl, sym, ◌∙◌, ap}
use native.Mathlib.Omega.{arith}
use native.Mathlib.Nat.{zero-add, suc-add}
use lib.ListN.{length, length-append}
use lib.Seq.{take-nil}
use borrow.Author.Tests.{eq-eqb, ne_eqb}
use Rattle.utf8.proofs.Tests.{by_le}
use Rattle.classes.specs.Classes.{Said, gives, says}
use Rattle.pattern.specs.declared.Options.{Options}
use Rattle.pattern.specs.Answers.{Found, passes, fails, checks, token_end, next_end, ends_at, written, last_or, fill, fill_list}
use Rattle.pattern.proofs.Accepted.{accepted, accepts, on}
use Rattle.pattern.proofs.Walk.{token_is_whole, ends_some, ends_none}

-- THE NEXT STEP, from an accepted start before the end of the text
pub goes_on : (o : Options) (s : List ℕ) (at : ℕ) → checks o s at ≡ passes → at < length s
    → (next_end o s at ≡ gives (token_end o s at)) × (checks o s (token_end o s at) ≡ passes) × (ends_at o s at ≡ token_end o s at ∷ ends_at o s (token_end o s at))
unfolding next_end
goes_on o s at p h =
    let a = accepted o s at p in
    let t = token_is_whole o s at p h in
    (rw (p, ne_eqb at (length s) (λ q. omega arith)), accepts o s (token_end o s at) (record { mode = a.mode; small = a.small; valid = a.valid; inside = t.within; start = t.whole }), ends_some o s at (on a) h)

-- an end that is answered, and the ends that follow it; none where the text ends or the call is refused
abbrev pub and_then : Said ℕ → (ℕ → List ℕ) → List ℕ
and_then (gives e) f = e ∷ f e
and_then (says n place) f = []

module _ (o : Options) (s : List ℕ) where
  -- so many next ends, each from the end before
  unfoldable pub next_ends : ℕ → ℕ → List ℕ
  next_ends zero at = []
  next_ends (suc n) at = and_then (next_end o s at) (next_ends n)

  -- where there is no token: nothing is written, whatever the room, and no end is answered
  record Stopped (at : ℕ) : Type 0 where
    room : (n : ℕ) → written o s at n ≡ []
    next : (f : ℕ → List ℕ) → and_then (next_end o s at) f ≡ []

  refused : (at : ℕ) {n place : ℕ} → checks o s at ≡ fails n place → Stopped at
  unfolding written next_end
  refused at e = record { room = λ n. rw e; next = λ f. rw e }

  over : (at : ℕ) → checks o s at ≡ passes → at ≡ length s → Stopped at
  unfolding written next_end
  over at e q = record { room = λ n. rw (e, q, ends_none o s) (take-nil n); next = λ f. rw (e, eq-eqb at (length s) q) }

  by_token : {P : Type 0} (at : ℕ) → (Stopped at → P) → (checks o s at ≡ passes → at < length s → P) → P
  by_token {P} at f g = go (checks o s at) refl
    where
      go : (x : Found) → checks o s at ≡ x → P
      go (fails n place) e = f (refused at e)
      go passes e = by_le (length s) at (λ k. f (over at e (omega (arith, (accepted o s at e).inside)))) (g e)

  -- what is written with no room, and with room for the token before the end
  written_zero : (at : ℕ) → written o s at 0 ≡ []
  unfolding written
  written_zero at = by_token at (λ z. z.room 0) (λ e _. rw e)

  written_next : (at room : ℕ) → checks o s at ≡ passes → at < length s → written o s at (suc room) ≡ token_end o s at ∷ written o s (token_end o s at) room
  unfolding written
  written_next at room e h = let g = goes_on o s at e h in rw (e, g.2, g.1)

  -- THE NEXT ENDS, one after another, are what a fill with so much room writes
  pub next_ends_are_written : (n at : ℕ) → next_ends n at ≡ written o s at n
  unfolding next_ends
  next_ends_are_written zero at = sym (written_zero at)
  next_ends_are_written (suc n) at =
      by_token at
      (λ z. z.next (next_ends n) ∙ sym (z.room (suc n)))
      (λ e h. rw ((goes_on o s at e h).0, written_next at n e h) (ap (λ l. token_end o s at ∷ l) (next_ends_are_written n (token_end o s at))))

  -- past the last end that is written the checks say what they said, and what is written next is what would have been
  written_on : (n m at : ℕ) → let x = last_or at (written o s at n) in (checks o s x ≡ checks o s at) × (written o s at n ++ written o s x m ≡ written o s at (n + m))
  written_on zero m at = rw (written_zero at, zero-add m) (refl, refl)
  written_on (suc n) m at =
      by_token at
      (λ z. rw (z.room (suc n)) (refl, z.room m ∙ sym (z.room (suc n + m))))
      (λ e h.
      let w = written_on n m (token_end o s at) in
      rw (written_next at n e h, suc-add n m) (w.0 ∙ (goes_on o s at e h).1 ∙ sym e, ap (λ l. token_end o s at ∷ l) w.1 ∙ sym (written_next at (n + m) e h)))

  last_append : (x : ℕ) (xs ys : List ℕ) → last_or x (xs ++ ys) ≡ last_or (last_or x xs) ys
  last_append x [] ys = refl
  last_append x (y ∷ xs) ys = last_append y xs ys

  -- TWO FILLS, the second from the next start of the first, say together what one with the room of both says
  pub fills_are_one : (n m at : ℕ) → let f = fill o s at n in let g = fill o s f.next m in
      (g.found ≡ f.found) × (record { found = f.found; count = f.count + g.count; next = g.next } ≡ fill o s at (n + m))
  unfolding fill
  fills_are_one n m at =
      let w = written_on n m at in
      let es = written o s at n in
      let fs = written o s (last_or at es) m in
      (w.0, rw (← w.1, length-append es fs, last_append at es fs))

  -- a lent list: empty if it was, kept where there is no token, and the token's end in front where there is one
  list_none : (at : ℕ) → fill_list o s at [] ≡ []
  unfolding fill_list
  list_none at = rw (written_zero at)

  list_kept : {at : ℕ} → Stopped at → (xs : List ℕ) → fill_list o s at xs ≡ xs
  unfolding fill_list
  list_kept z xs = rw (z.room (length xs))

  list_next : (at x : ℕ) (xs : List ℕ) → checks o s at ≡ passes → at < length s → fill_list o s at (x ∷ xs) ≡ token_end o s at ∷ fill_list o s (token_end o s at) xs
  unfolding fill_list
  list_next at x xs e h = rw (written_next at (length xs) e h)

  -- and leave together the list that one leaves
  pub lists_are_one : (xs ys : List ℕ) (at : ℕ) → fill_list o s at xs ++ fill_list o s (fill o s at (length xs)).next ys ≡ fill_list o s at (xs ++ ys)
  unfolding fill
  lists_are_one [] ys at = rw (list_none at, written_zero at)
  lists_are_one (x ∷ xs) ys at =
      by_token at
      (λ z. rw (z.room (suc (length xs)), list_kept z (x ∷ xs), list_kept z ys, list_kept z (x ∷ (xs ++ ys))))
      (λ e h. rw (list_next at x xs e h, list_next at x (xs ++ ys) e h, written_next at (length xs) e h) (ap (λ l. token_end o s at ∷ l) (lists_are_one xs ys (token_end o s at))))
