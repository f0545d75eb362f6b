-- No two answers satisfy the contract of an entry point: an answer can be read back from document 01's numbers and places.
use Prim.Native.Nat.{ℕ, zero, suc}
use mathlib.Core.List.{List}
use mathlib.Core.Path.{◌≡◌, refl, sym, ◌∙◌, ap, ap₂}
use seplogic.Ra.Ura.{Ura}
use base.Logic.{SProp}
use prog.Memory.{Memory}
use prog.Routine.{Routine}
use types.Logic.{Logic}
use contract.Monad.{Fun, fact}
use Rattle.std.specs.Prelude.{Result, Ok, Err}
use Rattle.utf8.proofs.Unique.{one}
use Rattle.classes.specs.Classes.{Said, gives, says}
use Rattle.pattern.specs.Answers.{Found, passes, fails, Fill}
use Rattle.pretokenize.specs.declared.entry.Refusal.{Refusal}
use Rattle.pretokenize.specs.declared.entry.Refusal.TheVariants.{Mode, Long, Damaged, Past, Inside}
use Rattle.pretokenize.specs.declared.entry.NextEnd.{NextEnd}
use Rattle.pretokenize.specs.declared.entry.NextEnd.TheVariants.{At, End}
use Rattle.pretokenize.specs.declared.entry.Filled.{Filled}
use Rattle.pretokenize.specs.declared.entry.Step.{Step}
use Rattle.pretokenize.specs.Entry.{number, place, verdict, said, filled, step_end, moved}
use Rattle.pretokenize.proofs.entry.Refusal.number.Reads as number_of_lem
use Rattle.pretokenize.proofs.entry.Refusal.place.Reads as place_of
use Rattle.pretokenize.proofs.entry.RefusalFromBadAt.from.Reads as from
use Rattle.pretokenize.proofs.entry.checked.Reads as checked
use Rattle.pretokenize.proofs.entry.next_end.Reads as next-end
use Rattle.pretokenize.proofs.entry.token.Reads as token
use Rattle.pretokenize.proofs.entry.fill.Reads as fill
use Rattle.pretokenize.proofs.entry.Walker.step.Reads as step
use Rattle.pretokenize.specs.contracts.entry.Walker.step_in_place as in_place
use Rattle.pretokenize.specs.declared.entry.Walker.{Walker}

-- the answers, read back from document 01's numbers and places
refusal : ℕ → ℕ → Refusal
refusal zero p = Mode
refusal (suc zero) p = Mode
refusal (suc (suc zero)) p = Long
refusal (suc (suc (suc zero))) p = Damaged p
refusal (suc (suc (suc (suc zero)))) p = Past p
refusal (suc (suc (suc (suc (suc n))))) p = Inside p

same_refusal : (r : Refusal) → refusal (number r) (place r) ≡ r
unfolding refusal
same_refusal Mode = refl
same_refusal Long = refl
same_refusal (Damaged p) = refl
same_refusal (Past p) = refl
same_refusal (Inside p) = refl

found_back : Found → Result Unit Refusal
found_back passes = Ok tt
found_back (fails n p) = Err (refusal n p)

same_verdict : (x : Result Unit Refusal) → found_back (verdict x) ≡ x
unfolding found_back
same_verdict (Ok _) = refl
same_verdict (Err r) = ap Err (same_refusal r)

said_back : Said ℕ → Result NextEnd Refusal
said_back (gives e) = Ok (At e)
said_back (says zero p) = Ok (End p)
said_back (says (suc k) p) = Err (refusal (suc k) p)

same_end : (x : Result NextEnd Refusal) → said_back (said x) ≡ x
unfolding said_back refusal
same_end (Ok (At e)) = refl
same_end (Ok (End p)) = refl
same_end (Err Mode) = refl
same_end (Err Long) = refl
same_end (Err (Damaged p)) = refl
same_end (Err (Past p)) = refl
same_end (Err (Inside p)) = refl

fill_by : Found → ℕ → ℕ → Result Filled Refusal
fill_by passes c m = Ok (record { count = c; next = m })
fill_by (fails n p) c m = Err (refusal n p)

fill_back : Fill → Result Filled Refusal
fill_back x = fill_by x.found x.count x.next

same_fill : (at : ℕ) (x : Result Filled Refusal) → fill_back (filled at x) ≡ x
unfolding fill_back fill_by
same_fill at (Ok f) = refl
same_fill at (Err r) = ap Err (same_refusal r)

one_verdict : {x y : Result Unit Refusal} {b : Found} → verdict x ≡ b → verdict y ≡ b → x ≡ y
one_verdict = one verdict found_back same_verdict

one_end : {x y : Result NextEnd Refusal} {b : Said ℕ} → said x ≡ b → said y ≡ b → x ≡ y
one_end = one said said_back same_end

one_fill : (at : ℕ) {x y : Result Filled Refusal} {b : Fill} → filled at x ≡ b → filled at y ≡ b → x ≡ y
one_fill at = one (filled at) fill_back (same_fill at)

-- the contracts are those that the functions are proved against
pub checked_one : (κs : _) (a : _) (e e' : _) {x y : Result Unit Refusal} → checked.Post κs a x e → checked.Post κs a y e' → x ≡ y
checked_one κs a e e' p q = one_verdict p q

pub number_one : (κs : _) (a : _) (e e' : _) {x y : ℕ} → number_of_lem.Post κs a x e → number_of_lem.Post κs a y e' → x ≡ y
number_one κs a e e' p q = p ∙ sym q

pub place_one : (κs : _) (a : _) (e e' : _) {x y : ℕ} → place_of.Post κs a x e → place_of.Post κs a y e' → x ≡ y
place_one κs a e e' p q = p ∙ sym q

pub from_one : (κs : _) (a : _) (e e' : _) {x y : Refusal} → from.Post κs a x e → from.Post κs a y e' → x ≡ y
from_one κs a e e' p q = p ∙ sym q

pub next_end_one : (κs : _) (a : _) (e e' : _) {x y : Result NextEnd Refusal} → next-end.Post κs a x e → next-end.Post κs a y e' → x ≡ y
next_end_one κs a e e' p q = one_end p q

pub token_one : (κs : _) (a : _) (e e' : _) (x y : _) → token.Post κs a x e → token.Post κs a y e' → (x.now ≡ y.now) × (x.ref_ptr ≡ y.ref_ptr)
token_one κs a e e' x y p q = (p.0 ∙ sym q.0, p.1 ∙ sym q.1)

pub fill_one : (κs : _) (a : _) (e e' : _) {x y : Result Filled Refusal} → fill.Post κs a x e → fill.Post κs a y e' → (x ≡ y) × (e.1.1.1.0.now ≡ e'.1.1.1.0.now)
fill_one κs a e e' p q = (one_fill _ p.0 q.0, p.1 ∙ sym q.1)

pub step_one : (κs : _) (a : _) (e e' : _) {x y : Step} → step.Post κs a x e → step.Post κs a y e' → x ≡ y
step_one κs a e e' p q = ap₂ (λ n w. record { answer = n; walker = w }) (one_end p.0 q.0) (p.1 ∙ sym q.1)

-- the walker lent: its contract is the assertion of this fact, which fixes the answer and the walker behind the reference
in_place_says : {M : Type 1} {𝓤 : Ura M} (𝓛 : Logic 𝓤) (mem : Memory → SProp 𝓤) (run : Routine → Fun 𝓤) (κs : _) (a : _) (e : _) (r : Result NextEnd Refusal)
    → (in_place.clauses 𝓛 mem run κs a).ensures tt r e ≡ fact 𝓤 ((said r ≡ step_end a.0.now a.1.0.now) × (e.0.now ≡ moved a.0.now a.1.0.now))
in_place_says 𝓛 mem run κs a e r = refl

pub in_place_one : (w : Walker) (s : List ℕ) {x y : Result NextEnd Refusal} {u v : Walker} → (said x ≡ step_end w s) × (u ≡ moved w s) → (said y ≡ step_end w s) × (v ≡ moved w s) → (x ≡ y) × (u ≡ v)
in_place_one w s p q = (one_end p.0 q.0, p.1 ∙ sym q.1)
