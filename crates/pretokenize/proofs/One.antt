-- A fill with room for one end says what next end says.
use Prim.Native.Nat.{ℕ, ◌<◌, ◌≤◌}
use mathlib.Core.List.{List, []}
use mathlib.Core.Path.{◌≡◌, sym, ◌∙◌, ap}
use native.Mathlib.Omega.{arith}
use lib.ListN.{length}
use borrow.Author.Tests.{eq-eqb, ne_eqb}
use Rattle.classes.specs.Classes.{gives, says}
use Rattle.utf8.proofs.Tests.{by_le}
use Rattle.pattern.specs.declared.Options.{Options}
use Rattle.pattern.specs.Answers.{passes, fails, checks, next_end, token_end, ends_at, written, fill}
use Rattle.pattern.proofs.Accepted.{accepted, on}
use Rattle.pattern.proofs.Walk.{end_past, ends_some, ends_none}

module _ (o : Options) (s : List ℕ) (at : ℕ) where
  module _ (p : checks o s at ≡ passes) where
    -- at the end of the text nothing is written, and before it the token's end
    over : length s ≤ at → (at ≡ length s) × ((fill o s at 1).next ≡ at)
    unfolding fill written
    over h =
        let e : at ≡ length s = omega (arith, (on (accepted o s at p)).room) in
        let n : ends_at o s at ≡ [] = ap (ends_at o s) e ∙ ends_none o s in
        (e, rw (p, n))

    before : at < length s → ((fill o s at 1).next ≡ token_end o s at) × (at < token_end o s at)
    unfolding fill written
    before h = (rw (p, ends_some o s at (on (accepted o s at p)) h), end_past o s at (on (accepted o s at p)) h)

    ended : {n : ℕ} → n ≡ (fill o s at 1).next → n ≡ at → says 0 at ≡ next_end o s at
    unfolding next_end
    ended e m = by_le (length s) at (λ h. let q = (over h).0 in rw (p, eq-eqb at (length s) q) (ap (says 0) q)) (λ h. absurd (omega (arith, before h, e, m)))

    found : {n : ℕ} → n ≡ (fill o s at 1).next → (n ≡ at → ⊥) → gives n ≡ next_end o s at
    unfolding next_end
    found e m = by_le (length s) at (λ h. absurd (m (e ∙ (over h).1))) (λ h. rw (p, ne_eqb at (length s) (λ q. omega arith)) (ap gives (e ∙ (before h).0)))

  module _ {count n : ℕ} (e : record { found = passes; count = count; next = n } ≡ fill o s at 1) where
    passed : checks o s at ≡ passes
    unfolding fill
    passed = sym (ap (λ f. f.found) e)

    pub one_ended : n ≡ at → says 0 at ≡ next_end o s at
    one_ended = ended passed (ap (λ f. f.next) e)

    pub one_found : (n ≡ at → ⊥) → gives n ≡ next_end o s at
    one_found = found passed (ap (λ f. f.next) e)

  pub one_refused : {n place : ℕ} → record { found = fails n place; count = 0; next = at } ≡ fill o s at 1 → says n place ≡ next_end o s at
  unfolding fill next_end
  one_refused e = let r = sym (ap (λ f. f.found) e) in rw r
