-- A record is cut alike wherever it stands.
use mathlib.Core.Bool.{Bool, true, false, ◌&&◌ as and}
use mathlib.Core.Path.{◌≡◌, refl, sym, ◌∙◌}
use mathlib.Core.List.{List, [], ◌∷◌, ◌++◌, map, append-nil, append_assoc}
use Prim.Native.Nat.{ℕ, ◌+◌, ◌-◌, ◌≤◌}
use native.Mathlib.Nat.{add-zero, zero-add, add_assoc}
use native.Mathlib.Omega.{arith}
use lib.Dec.{ltb, leb}
use lib.ListN.{length, length-append}
use borrow.Author.Tests.{lt-ltb, le-ltb, le-leb, lt-leb}
use Rattle.utf8.specs.Utf8.{pick}
use Rattle.pattern.specs.declared.Options.{Options}
use Rattle.pattern.specs.Answers.{passes, checks, ends_at}
use Rattle.pattern.specs.Records.{Records, join, ends_of_each, ends_inside}
use Rattle.pattern.proofs.Walk.{Climbs, there, past, climbs_le, climbs_append, climbs_moved, walk_climbs}
use Rattle.pattern.proofs.Records.{Each, none, one, cut_by_record}

-- what lies before a stretch, in it and after it
module _ (at n : ℕ) where
  inside_append : (es fs : List ℕ) → ends_inside at n (es ++ fs) ≡ ends_inside at n es ++ ends_inside at n fs
  unfolding ends_inside
  inside_append [] fs = refl
  inside_append (e ∷ es) fs = rw (inside_append es fs) (by (and (ltb at e) (leb e (at + n))))
    where
      by : (b : Bool) → pick b ((e - at) ∷ (ends_inside at n es ++ ends_inside at n fs)) (ends_inside at n es ++ ends_inside at n fs)
          ≡ pick b ((e - at) ∷ ends_inside at n es) (ends_inside at n es) ++ ends_inside at n fs
      by true = refl
      by false = refl

  inside_before : {a b : ℕ} {es : List ℕ} → Climbs a es b → b ≤ at → ends_inside at n es ≡ []
  unfolding ends_inside
  inside_before there h = refl
  inside_before (past {e = e} g k) h = rw (le-ltb at e (omega (arith, climbs_le k))) (inside_before k h)

  inside_after : {a b : ℕ} {es : List ℕ} → Climbs a es b → at + n ≤ a → ends_inside at n es ≡ []
  unfolding ends_inside
  inside_after there h = refl
  inside_after (past {e = e} g k) h = rw (lt-ltb at e (omega arith), lt-leb e (at + n) (omega arith)) (inside_after k (omega arith))

  inside_all : {a b : ℕ} {es : List ℕ} → Climbs a es b → b ≤ n → ends_inside at n (map (λ e. at + e) es) ≡ es
  unfolding ends_inside
  inside_all there h = refl
  inside_all (past {e = e} g k) h =
      let l = climbs_le k in
      let q : at + e - at ≡ e = omega arith in
      rw (lt-ltb at (at + e) (omega arith), le-leb (at + e) (at + n) (omega arith), q, inside_all k h)

-- the records before and after it
each_append : (o : Options) (at : ℕ) (qs bs : List (List ℕ)) → ends_of_each o at (qs ++ bs) ≡ ends_of_each o at qs ++ ends_of_each o (at + length (join qs)) bs
unfolding join ends_of_each
each_append o at [] bs = rw add-zero
each_append o at (a ∷ qs) bs = rw (each_append o (at + length a) qs bs, length-append a (join qs), add_assoc) (sym (append_assoc (map (λ e. at + e) (ends_at o a 0)) _ _))

each_left : {P : List ℕ → Type 0} (qs bs : List (List ℕ)) → Each P (qs ++ bs) → Each P qs
each_left [] bs k = none
each_left (q ∷ qs) bs (one p k) = one p (each_left qs bs k)

each_right : {P : List ℕ → Type 0} (qs bs : List (List ℕ)) → Each P (qs ++ bs) → Each P bs
each_right [] bs k = k
each_right (q ∷ qs) bs (one p k) = each_right qs bs k

each_first : {P : List ℕ → Type 0} {r : List ℕ} {bs : List (List ℕ)} → Each P (r ∷ bs) → P r
each_first (one p k) = p

each_climbs : (o : Options) (at : ℕ) {rs : List (List ℕ)} → Each (λ r. checks o r 0 ≡ passes) rs → Climbs at (ends_of_each o at rs) (at + length (join rs))
unfolding ends_of_each join
each_climbs o at none = rw add-zero there
each_climbs o at (one {r} {rs} a k) =
    rw (length-append r (join rs), ← (add_assoc at (length r) (length (join rs))))
    (climbs_append (rw add-zero at (climbs_moved at (walk_climbs o r 0 a))) (each_climbs o (at + length r) k))

-- THE CUTS INSIDE A RECORD of a text are those that it has alone
pub record_alone : (o : Options) (qs : List (List ℕ)) (r : List ℕ) (bs : List (List ℕ)) → Records o (qs ++ r ∷ bs) → checks o (join (qs ++ r ∷ bs)) 0 ≡ passes
    → ends_inside (length (join qs)) (length r) (ends_at o (join (qs ++ r ∷ bs)) 0) ≡ ends_at o r 0
unfolding ends_of_each
record_alone o qs r bs m e =
    let c = cut_by_record o m e in
    let at = length (join qs) in
    let rest = each_right qs (r ∷ bs) c.accepted in
    let before : ends_inside at (length r) (ends_of_each o 0 qs) ≡ [] = inside_before at (length r) (each_climbs o 0 (each_left qs (r ∷ bs) c.accepted)) (omega arith) in
    let here : ends_inside at (length r) (map (λ e. at + e) (ends_at o r 0)) ≡ ends_at o r 0 = inside_all at (length r) (walk_climbs o r 0 (each_first rest)) (omega arith) in
    let after : ends_inside at (length r) (ends_of_each o (at + length r) bs) ≡ [] = inside_after at (length r) (each_climbs o (at + length r) (each_right (r ∷ []) bs rest)) (omega arith) in
    rw (c.ends, each_append o 0 qs (r ∷ bs), zero-add at, inside_append, before, inside_append, here, after) (append-nil (ends_at o r 0))

-- so two texts that hold the same record cut it the same
pub record_alike : (o : Options) (r : List ℕ) (qs bs qs' bs' : List (List ℕ))
    → Records o (qs ++ r ∷ bs) → checks o (join (qs ++ r ∷ bs)) 0 ≡ passes → Records o (qs' ++ r ∷ bs') → checks o (join (qs' ++ r ∷ bs')) 0 ≡ passes
    → ends_inside (length (join qs)) (length r) (ends_at o (join (qs ++ r ∷ bs)) 0) ≡ ends_inside (length (join qs')) (length r) (ends_at o (join (qs' ++ r ∷ bs')) 0)
record_alike o r qs bs qs' bs' m e m' e' = record_alone o qs r bs m e ∙ sym (record_alone o qs' r bs' m' e')
