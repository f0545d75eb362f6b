-- The steps of a walker, one after another, give what one walk gives.
use Prim.Native.Nat.{ℕ, zero, suc}
use mathlib.Core.List.{List, [], ◌∷◌}
use mathlib.Core.Path.{◌≡◌, refl, ◌∙◌, ap}
use Rattle.classes.specs.Classes.{Said, gives, says}
use Rattle.pattern.specs.Answers.{next_end, written, last_or, fill}
use Rattle.pattern.proofs.GoesOn.{and_then, next_ends, next_ends_are_written}
use Rattle.pretokenize.specs.Entry.{step_end, moved_by, moved}
use Rattle.pretokenize.specs.declared.entry.Walker.{Walker}

module _ (s : List ℕ) where
  -- the ends that so many steps answer, and the walker after them
  unfoldable pub step_ends : ℕ → Walker → List ℕ
  step_ends zero w = []
  step_ends (suc n) w = and_then (step_end w s) (λ _. step_ends n (moved w s))

  unfoldable pub stepped : ℕ → Walker → Walker
  stepped zero w = w
  stepped (suc n) w = stepped n (moved w s)

  -- a walker's steps are its next ends
  steps_are_next : (n : ℕ) (w : Walker) → step_ends n w ≡ next_ends w.options s n w.at
  unfolding step_ends next_ends
  steps_are_next zero w = refl
  steps_are_next (suc n) w = by (steps_are_next n) (next_end w.options s w.at)
    where
      by : ((v : Walker) → step_ends n v ≡ next_ends v.options s n v.at) → (x : Said ℕ) → and_then x (λ _. step_ends n (moved_by w x)) ≡ and_then x (next_ends w.options s n)
      by ih (gives e) = ap (λ l. e ∷ l) (ih (record { options = w.options; at = e }))
      by ih (says k place) = refl

  -- a walker that is not moved stays where it is
  stays : (n : ℕ) (w : Walker) {k place : ℕ} → step_end w s ≡ says k place → stepped n w ≡ w
  unfolding stepped
  stays zero w e = refl
  stays (suc n) w e = ap (λ x. stepped n (moved_by w x)) e ∙ stays n w e

  stepped_last : (n : ℕ) (w : Walker) → stepped n w ≡ record { options = w.options; at = last_or w.at (next_ends w.options s n w.at) }
  unfolding stepped next_ends
  stepped_last zero w = refl
  stepped_last (suc n) w = by (stepped_last n) (step_end w s) refl
    where
      by : ((v : Walker) → stepped n v ≡ record { options = v.options; at = last_or v.at (next_ends v.options s n v.at) })
          → (x : Said ℕ) → step_end w s ≡ x → stepped n (moved_by w x) ≡ record { options = w.options; at = last_or w.at (and_then x (next_ends w.options s n)) }
      by ih (gives e) q = ih (record { options = w.options; at = e })
      by ih (says k place) q = stays n w q

  -- THE STEPS answer what a fill with so much room writes, and leave the walker at its next start
  pub steps_are_written : (n : ℕ) (w : Walker) → step_ends n w ≡ written w.options s w.at n
  steps_are_written n w = steps_are_next n w ∙ next_ends_are_written w.options s n w.at

  pub stepped_is_next : (n : ℕ) (w : Walker) → stepped n w ≡ record { options = w.options; at = (fill w.options s w.at n).next }
  unfolding fill
  stepped_is_next n w = stepped_last n w ∙ ap (λ l. record { options = w.options; at = last_or w.at l }) (next_ends_are_written w.options s n w.at)
