-- The ranges are sorted and disjoint, and with those of White_Space give each value one class: one test that is computed over the tables, and the law that turns it into the rule.
use Rattle.std.proofs.Common.{◌≡◌, ℕ, suc, ◌≤◌, Bool, true, false, ltb, leb, List, [], ◌∷◌, refl, ◌∙◌, arith, ltb-true, leb-true}
use Rattle.utf8.specs.Utf8.{pick, within}
use Rattle.utf8.proofs.Tests.{both, passed, below, above, range_true}
use Rattle.classes.specs.Range.{Range}
use Rattle.classes.specs.Ranges.{ranges}
use Rattle.classes.specs.Classes.{white_space, class_in, class_of}
use Rattle.classes.specs.declared.Class.{Class}
use Rattle.classes.specs.declared.Class.TheVariants.{Other}

-- the range holds c
abbrev Holds : Range → ℕ → Type 0
Holds r c = within r.from c r.to ≡ true

pub data In (r : Range) : List Range → Type 0 where
  here : {rs : List Range} → In r (r ∷ rs)
  there : {s : Range} {rs : List Range} → In r rs → In r (s ∷ rs)

-- THE TESTS. Each range has a value, and begins past the one before it; n is the least value that the first may have
abbrev ascends : ℕ → List Range → Bool
ascends n [] = true
ascends n (r ∷ rs) = elim (pick (leb n r.from) (leb r.from r.to) false) [ true ↦ ascends (suc r.to) rs | false ↦ false ]

-- no range shares a value with w; with none of some
abbrev pub clear : Range → List Range → Bool
clear w [] = true
clear w (r ∷ rs) = elim (pick (ltb w.to r.from) true (ltb r.to w.from)) [ true ↦ clear w rs | false ↦ false ]

abbrev apart : List Range → List Range → Bool
apart [] rs = true
apart (w ∷ ws) rs = elim (clear w rs) [ true ↦ apart ws rs | false ↦ false ]

pub ranges_ascend : ascends 0 ranges ≡ true
unfolding ranges
ranges_ascend = refl

pub white_ascends : ascends 0 white_space ≡ true
unfolding white_space
white_ascends = refl

pub white_apart : apart white_space ranges ≡ true
unfolding white_space ranges
white_apart = refl

-- THE LAW. What follows a range begins past it
least : {r : Range} (n : ℕ) {rs : List Range} → ascends n rs ≡ true → In r rs → n ≤ r.from
least {r} n a here = let t = passed (pick (leb n r.from) (leb r.from r.to) false) a in leb-true n r.from (both (leb n r.from) _ t.0).0
least n a (there {s} i) =
    let t = passed (pick (leb n s.from) (leb s.from s.to) false) a in
    let b = both (leb n s.from) _ t.0 in
    omega (arith, least (suc s.to) t.1 i, leb-true n s.from b.0, leb-true s.from s.to b.1)

-- so the first range that holds c is the only one
class_in_lem : {r : Range} (n c : ℕ) (k : Class) {rs : List Range} → ascends n rs ≡ true → In r rs → Holds r c → class_in rs c k ≡ r.is
unfolding class_in
class_in_lem n c k a here h = rw (h, class_in)
class_in_lem {r} n c k a (there {s} {rs} i) h =
    let t = passed (pick (leb n s.from) (leb s.from s.to) false) a in
    rw (above s.from c s.to (omega (arith, least (suc s.to) t.1 i, range_true r.from c r.to h)), class_in) (class_in_lem (suc s.to) c k t.1 i h)

-- a range that is clear of some: what it holds, none of them holds
either : (a b : Bool) {P : Type 0} → pick a true b ≡ true → (a ≡ true → P) → (b ≡ true → P) → P
either true b e f g = f refl
either false b e f g = g e

pub class_past : (c : ℕ) (k : Class) (w : Range) (rs : List Range) → clear w rs ≡ true → Holds w c → class_in rs c k ≡ k
unfolding class_in
class_past c k w [] a h = refl
class_past c k w (r ∷ rs) a h =
    let t = passed (pick (ltb w.to r.from) true (ltb r.to w.from)) a in
    let b = range_true w.from c w.to h in
    let n : within r.from c r.to ≡ false = either (ltb w.to r.from) (ltb r.to w.from) t.0
    (λ e. below r.from c r.to (omega (arith, ltb-true w.to r.from e)))
    (λ e. above r.from c r.to (omega (arith, ltb-true r.to w.from e))) in
    rw (n, class_in) (class_past c k w rs t.1 h)

apart_in : {w : Range} {ws : List Range} (rs : List Range) → apart ws rs ≡ true → In w ws → clear w rs ≡ true
apart_in {w} rs a here = (passed (clear w rs) a).0
apart_in rs a (there {s} i) = apart_in rs (passed (clear s rs) a).1 i

-- EACH VALUE HAS ONE CLASS: that of any range, of either table, that holds it
pub listed_class : (c : ℕ) {r : Range} → In r ranges → Holds r c → class_of c ≡ r.is
unfolding class_of
listed_class c i h = class_in_lem 0 c _ ranges_ascend i h

pub white_class : (c : ℕ) {r : Range} → In r white_space → Holds r c → class_of c ≡ r.is
unfolding class_of
white_class c {r} i h = class_past c _ r ranges (apart_in ranges white_apart i) h ∙ class_in_lem 0 c Other white_ascends i h

-- and Other where none does
none_holds : (c : ℕ) (k : Class) (rs : List Range) → ((r : Range) → In r rs → within r.from c r.to ≡ false) → class_in rs c k ≡ k
unfolding class_in
none_holds c k [] n = refl
none_holds c k (r ∷ rs) n = rw (n r here, class_in) (none_holds c k rs (λ s i. n s (there i)))

pub other_class : (c : ℕ) → ((r : Range) → In r ranges → within r.from c r.to ≡ false) → ((r : Range) → In r white_space → within r.from c r.to ≡ false) → class_of c ≡ Other
unfolding class_of
other_class c n m = none_holds c _ ranges n ∙ none_holds c Other white_space m
