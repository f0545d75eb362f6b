-- A scan of rows, row by row; and that the rows of the ranges say what the ranges say.
use Rattle.std.proofs.Common.{◌≡◌, ℕ, ◌<◌, true, false, List, [], ◌∷◌, ◌++◌, length, slice_index_or, sym, refl, ap, ◌∙◌, arith, eqb-true}
use Rattle.utf8.specs.Utf8.{within}
use Rattle.classes.specs.Range.{Range, range}
use Rattle.classes.specs.Ranges.{ranges}
use Rattle.classes.specs.Classes.{class_in, class_of, rank, same}
use Rattle.classes.specs.Rows.{named, rows_of, ranges_of, table, class_at}
use Rattle.classes.specs.declared.Class.{Class}
use Rattle.classes.specs.declared.Class.TheVariants.{Upper, Lower, Caseless, Mark, Number, Whitespace, Other}

-- rows too short for a range
pub rows_end : (c : ℕ) (k : Class) (l : List ℕ) → length l < 3 → class_in (ranges_of l) c k ≡ k
unfolding class_in ranges_of
rows_end c k [] h = refl
rows_end c k (a ∷ []) h = refl
rows_end c k (a ∷ z ∷ []) h = refl
rows_end c k (a ∷ z ∷ j ∷ l) h = absurd (omega arith)

-- a row in front
row_front : (row rest : List ℕ) → length row ≡ 3 → ranges_of (row ++ rest) ≡ range (slice_index_or row 0 0) (slice_index_or row 1 0) (named (slice_index_or row 2 0)) ∷ ranges_of rest
unfolding ranges_of
row_front [] rest h = absurd (omega arith)
row_front (a ∷ []) rest h = absurd (omega arith)
row_front (a ∷ z ∷ []) rest h = absurd (omega arith)
row_front (a ∷ z ∷ j ∷ []) rest h = refl
row_front (a ∷ z ∷ j ∷ n ∷ l) rest h = absurd (omega arith)

module _ (row rest : List ℕ) (c : ℕ) (k : Class) where
  pub row_holds : length row ≡ 3 → within (slice_index_or row 0 0) c (slice_index_or row 1 0) ≡ true → class_in (ranges_of (row ++ rest)) c k ≡ named (slice_index_or row 2 0)
  unfolding class_in
  row_holds h e = rw (row_front row rest h, e, class_in)

  pub row_past : length row ≡ 3 → within (slice_index_or row 0 0) c (slice_index_or row 1 0) ≡ false → class_in (ranges_of (row ++ rest)) c k ≡ class_in (ranges_of rest) c k
  unfolding class_in
  row_past h e = rw (row_front row rest h, e, class_in)

named_rank : (k : Class) → named (rank k) ≡ k
named_rank Upper = refl
named_rank Lower = refl
named_rank Caseless = refl
named_rank Mark = refl
named_rank Number = refl
named_rank Whitespace = refl
named_rank Other = refl

-- a class that the test finds is that class
pub same_is : (j k : Class) → same j k ≡ true → k ≡ j
same_is j k e = sym (named_rank k) ∙ ap named (sym (eqb-true (rank j) (rank k) e)) ∙ named_rank j

ranges_back : (rs : List Range) → ranges_of (rows_of rs) ≡ rs
unfolding ranges_of rows_of
ranges_back [] = refl
ranges_back (r ∷ rs) = rw (named_rank r.is, ranges_back rs)

-- THE TABLE says the class of each value
pub table_class : (c : ℕ) → class_at table c ≡ class_of c
unfolding class_at table class_of
table_class c = rw (ranges_back ranges)
