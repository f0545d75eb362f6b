-- What a fill has done when it has written so many ends.
use Prim.Native.Nat.{ℕ, suc, ◌+◌, ◌-◌, ◌<◌, ◌≤◌}
use mathlib.Core.List.{List, [], ◌∷◌, ◌++◌, append-nil}
use mathlib.Core.Path.{◌≡◌, refl, sym, ◌∙◌, ap}
use native.Mathlib.Omega.{arith}
use native.Mathlib.Numerals.{add-one}
use lib.ListN.{length, take, drop, set, length-set, take-append-drop}
use lib.Seq.{take-suc-set, drop-set-lt, drop-drop, append_snoc, length-take-le, take-nil}
use Rattle.utf8.proofs.Place.{On}
use Rattle.pattern.specs.declared.Options.{Options}
use Rattle.pattern.specs.Answers.{passes, fails, checks, token_end, ends_at, last_or, written, fill, fill_list}
use Rattle.pattern.proofs.Walk.{end_on, ends_some, ends_none}

last_snoc : (x : ℕ) (xs : List ℕ) (y : ℕ) → last_or x (xs ++ (y ∷ [])) ≡ y
last_snoc x [] y = refl
last_snoc x (z ∷ xs) y = last_snoc z xs y

module _ (o : Options) (s : List ℕ) (start : ℕ) (old : List ℕ) where
  pub record Filling (ends : List ℕ) (count at : ℕ) : Type 0 where
    pub on : On s at
    pub room : count ≤ length ends
    pub same : length ends ≡ length old
    pub left : take (length old) (ends_at o s start) ≡ take count ends ++ take (length old - count) (ends_at o s at)
    pub kept : drop count ends ≡ drop count old
    pub last : last_or start (take count ends) ≡ at

  pub begins : On s start → Filling old 0 start
  begins h = let e : length old - 0 ≡ length old = omega arith in record { on = h; room = omega arith; same = refl; left = rw e; kept = refl; last = refl }

  pub turns : {ends : List ℕ} {count at e : ℕ} → Filling ends count at → count < length ends → at < length s → e ≡ token_end o s at → Filling (set ends count e) (count + 1) e
  turns {ends} {count} {at} {e} f c a q =
      let k : length old - count ≡ suc (length old - (count + 1)) = omega (arith, f.same) in
      let w : ends_at o s at ≡ e ∷ ends_at o s e = rw q (ends_some o s at f.on a) in
      let t : take (count + 1) (set ends count e) ≡ take count ends ++ (e ∷ []) = rw add-one (take-suc-set ends count e c) in
      record {
        on = rw q (end_on o s at f.on);
        room = omega (arith, length-set ends count e);
        same = length-set ends count e ∙ f.same;
        left = f.left ∙ rw (w, k) (sym (ap (λ l. l ++ take (length old - (count + 1)) (ends_at o s e)) t ∙ append_snoc (take count ends) e (take (length old - (count + 1)) (ends_at o s e))));
        kept = drop-set-lt (count + 1) ends count e (omega arith) ∙ sym (drop-drop 1 count ends) ∙ ap (drop 1) f.kept ∙ drop-drop 1 count old;
        last = ap (last_or start) t ∙ last_snoc start (take count ends) e;
      }

  -- at the end, for want of room or of text
  module _ (p : checks o s start ≡ passes) {ends : List ℕ} {count at : ℕ} (f : Filling ends count at) where
    all : take (length old - count) (ends_at o s at) ≡ [] → written o s start (length old) ≡ take count ends
    unfolding written
    all e = rw p (f.left ∙ rw e (append-nil (take count ends)))

    full : length ends ≤ count → take (length old - count) (ends_at o s at) ≡ []
    full h = let e : length old - count ≡ 0 = omega (arith, f.same) in rw e

    over : length s ≤ at → take (length old - count) (ends_at o s at) ≡ []
    over h = let e : at ≡ length s = omega (arith, f.on.room) in rw (e, ends_none o s) (take-nil (length old - count))

    stops : take (length old - count) (ends_at o s at) ≡ [] → (record { found = passes; count = count; next = at } ≡ fill o s start (length old)) × (ends ≡ fill_list o s start old)
    unfolding fill fill_list
    stops e =
        let w = all e in
        let n : length (take count ends) ≡ count = length-take-le count ends f.room in
        (rw (w, p, n, f.last), rw (w, n, ← f.kept) (sym (take-append-drop count ends)))

    pub stops_full : length ends ≤ count → (record { found = passes; count = count; next = at } ≡ fill o s start (length old)) × (ends ≡ fill_list o s start old)
    stops_full h = stops (full h)

    pub stops_over : length s ≤ at → (record { found = passes; count = count; next = at } ≡ fill o s start (length old)) × (ends ≡ fill_list o s start old)
    stops_over h = stops (over h)

  -- refused
  pub refuses : {n p : ℕ} → fails n p ≡ checks o s start → (record { found = fails n p; count = 0; next = start } ≡ fill o s start (length old)) × (old ≡ fill_list o s start old)
  unfolding written fill fill_list
  refuses e = rw (← e) (refl, refl)
