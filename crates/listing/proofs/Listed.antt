-- What a sheet's listing is in each case, and that there is room for it.
use Prim.Native.Nat.{ℕ, ◌*◌, ◌^◌, ◌<◌, ◌≤◌}
use mathlib.Core.List.{List, [], ◌∷◌, ◌++◌}
use mathlib.Core.Path.{◌≡◌, sym, ◌∙◌, ap, subst}
use native.Mathlib.Omega.{arith}
use lib.ListN.{length, take, drop, length-append}
use lib.Seq.{take-append_seam}
use Rattle.pattern.specs.declared.Options.{Options}
use borrow.Author.Tests.{lt-ltb, le-ltb}
use Rattle.pattern.specs.Pattern.{o200k}
use Rattle.pattern.specs.Answers.{passes, fails, checks, ends_at, written, fill, fill_list}
use Rattle.pattern.proofs.Walk.{Climbs, there, past, climbs_le, climbs_length, walk_climbs, fill_whole}
use Rattle.listing.specs.Listing.{sheet_limit, ascii, decimal, line, lines, ends_lines, refused_line, listing}
use Rattle.listing.proofs.Decimal.{decimal_few}

module _ (s : List ℕ) where
  pub when_long : sheet_limit < length s → listing s ≡ refused_line 2 sheet_limit
  unfolding listing
  when_long h = rw (lt-ltb sheet_limit (length s) h)

  module _ (h : length s ≤ sheet_limit) where
    pub when_cut : checks o200k s 0 ≡ passes → listing s ≡ ends_lines (ends_at o200k s 0)
    unfolding listing
    when_cut e = rw (le-ltb sheet_limit (length s) h, e)

    pub when_refused : {n place : ℕ} → checks o200k s 0 ≡ fails n place → listing s ≡ refused_line n place
    unfolding listing
    when_refused e = rw (le-ltb sheet_limit (length s) h, e)

-- two numbers of at most twenty digits
pub refused_fits : (n place : ℕ) → n < 10 ^ 20 → place < 10 ^ 20 → length (refused_line n place) ≤ 53
unfolding refused_line
refused_fits n place h k =
    let w = decimal n ++ (ascii " at " ++ decimal place) in
    omega (arith, decimal_few n 19 h, decimal_few place 19 k, length-append (decimal n) (ascii " at " ++ decimal place), length-append (ascii "refused " ++ w) (10 ∷ []))

-- five digits and LF for each end
lines_fit : {a b : ℕ} {es : List ℕ} → Climbs a es b → b ≤ sheet_limit → length (lines es) ≤ 6 * length es
unfolding lines
lines_fit there h = omega arith
lines_fit (past {e = e} {es = es} k c) h =
    let l = climbs_le c in
    let f : e < 10 ^ 5 = omega arith in
    omega (arith, lines_fit c h, decimal_few e 4 f, length-append (line (decimal e)) (lines es), length-append (decimal e) (10 ∷ []))

pub ends_fit : (s : List ℕ) → length s ≤ sheet_limit → checks o200k s 0 ≡ passes → length (ends_lines (ends_at o200k s 0)) ≤ 393227
unfolding ends_lines
ends_fit s h e =
    let c = walk_climbs o200k s 0 e in
    let l = climbs_length c in
    let es = ends_at o200k s 0 in
    let f : length es < 10 ^ 5 = omega arith in
    omega (arith, l, lines_fit c h, decimal_few (length es) 4 f, length-append (line (ascii "ends " ++ decimal (length es))) (lines es), length-append (ascii "ends " ++ decimal (length es)) (10 ∷ []))

-- what a fill from zero with room for a whole sheet leaves
pub record Whole (s ends : List ℕ) (count : ℕ) : Type 0 where
  pub pass : checks o200k s 0 ≡ passes
  pub all : take count ends ≡ ends_at o200k s 0
  pub within : count ≤ length ends

module _ {o : Options} (q : o ≡ o200k) (s : List ℕ) where
  pub whole : (old : List ℕ) {ends : List ℕ} {count next : ℕ} → length s ≤ length old → record { found = passes; count = count; next = next } ≡ fill o s 0 (length old) → ends ≡ fill_list o s 0 old → Whole s ends count
  unfolding fill fill_list
  whole old {ends} {count} room e l =
      let p : checks o s 0 ≡ passes = sym (ap (λ f. f.found) e) in
      let w : written o s 0 (length old) ≡ ends_at o s 0 = fill_whole o s 0 (length old) p room in
      let n : count ≡ length (ends_at o s 0) = ap (λ f. f.count) e ∙ ap length w in
      let m : ends ≡ ends_at o s 0 ++ drop (length (ends_at o s 0)) old = l ∙ ap (λ es. es ++ drop (length es) old) w in
      record {
        pass = subst (λ x. checks x s 0 ≡ passes) q p;
        all = rw (← q, n, m) (take-append_seam (ends_at o s 0) (drop (length (ends_at o s 0)) old));
        within = omega (arith, n, ap length m, length-append (ends_at o s 0) (drop (length (ends_at o s 0)) old));
      }

  pub refused : (room : ℕ) {n place : ℕ} → record { found = fails n place; count = 0; next = 0 } ≡ fill o s 0 room → checks o200k s 0 ≡ fails n place
  unfolding fill
  refused room {n} {place} e = subst (λ x. checks x s 0 ≡ fails n place) q (sym (ap (λ f. f.found) e))
