-- What is answered at the edges: where the token is empty, with no room, at the end of the text, and that only the part from the start on counts.
use Prim.Native.Nat.{ℕ, ◌+◌, ◌-◌, ◌<◌, ◌≤◌}
use mathlib.Core.List.{List, []}
use mathlib.Core.Path.{◌≡◌, refl}
use native.Mathlib.Nat.{zero-add}
use native.Mathlib.Omega.{arith}
use lib.Dec.{eqb}
use lib.ListN.{length, drop, length-take, length-drop}
use lib.Seq.{take_all}
use borrow.Author.Tests.{eq-eqb, eqb-false}
use Rattle.utf8.specs.Utf8.{chars_at}
use Rattle.utf8.proofs.Tests.{by_bool}
use Rattle.classes.specs.Classes.{gives, says}
use Rattle.pattern.specs.declared.Options.{Options}
use Rattle.pattern.specs.Answers.{Found, passes, fails, checks, token_end, next_end, token_bytes, written, fill}
use Rattle.pattern.proofs.Accepted.{accepted}
use Rattle.pattern.proofs.Walk.{token_is_whole, ends_none}

-- two texts that are the same from a start on have the same end there
pub from_the_start : (o : Options) (s t : List ℕ) (at : ℕ) → drop at s ≡ drop at t → token_end o s at ≡ token_end o t at
unfolding token_end chars_at
from_the_start o s t at e = rw e

-- the end of the token at a start is that of the part from there on, cut alone
pub end_of_the_rest : (o : Options) (s : List ℕ) (at : ℕ) → token_end o s at ≡ at + token_end o (drop at s) 0
unfolding token_end chars_at
end_of_the_rest o s at = rw zero-add

-- an accepted start at the end of the text
module _ (o : Options) (s : List ℕ) (e : checks o s (length s) ≡ passes) where
  pub next_at_end : next_end o s (length s) ≡ says 0 (length s)
  unfolding next_end
  next_at_end = rw (e, eq-eqb (length s) (length s) refl)

  pub fill_at_end : (room : ℕ) → fill o s (length s) room ≡ record { found = passes; count = 0; next = length s }
  unfolding fill written
  fill_at_end room = rw (e, ends_none o s, take_all {A = ℕ} room [] (omega arith))

-- an accepted start with no room
pub fill_no_room : (o : Options) (s : List ℕ) (at : ℕ) → checks o s at ≡ passes → fill o s at 0 ≡ record { found = passes; count = 0; next = at }
unfolding fill written
fill_no_room o s at e = rw e

-- the next end, where there is one, is past the start and in the text
pub next_in : (o : Options) (s : List ℕ) (at : ℕ) {e : ℕ} → next_end o s at ≡ gives e → (at < e) × (e ≤ length s)
unfolding next_end
next_in o s at {e} q = by (checks o s at) refl
  where
    by : (f : Found) → checks o s at ≡ f → (at < e) × (e ≤ length s)
    by (fails n p) r = absurd (let w : says n p ≡ gives e = rw r at q in let z : ◌≡◌ {A = ℕ} 0 1 = cc in omega arith)
    by passes r =
        by_bool (eqb at (length s))
        (λ t. absurd (let w : says 0 (length s) ≡ gives e = rw (r, t) at q in let z : ◌≡◌ {A = ℕ} 0 1 = cc in omega arith))
        (λ t.
        let w : gives (token_end o s at) ≡ gives e = rw (r, t) at q in
        let y : token_end o s at ≡ e = cc in
        let k : at < length s = omega (arith, (accepted o s at r).inside, eqb-false at (length s) t) in
        let h = token_is_whole o s at r k in
        (omega (arith, h.nonempty), omega (arith, h.within)))

-- THE TOKEN IS EMPTY at the end of the text or on a refusal, which the next end tells by a number, and nowhere else
pub token_empty : (o : Options) (s : List ℕ) (at : ℕ) {n place : ℕ} → next_end o s at ≡ says n place → token_bytes o s at ≡ []
unfolding token_bytes
token_empty o s at e = rw e

pub token_not_empty : (o : Options) (s : List ℕ) (at : ℕ) {e : ℕ} → next_end o s at ≡ gives e → 0 < length (token_bytes o s at)
unfolding token_bytes
token_not_empty o s at {e} q = let h = next_in o s at q in rw q (omega (arith, length-take (e - at) (drop at s), length-drop at s, h))
