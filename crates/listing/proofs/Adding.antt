-- Pieces written one behind the other are one piece.
use Prim.Native.Nat.{ℕ, ◌+◌, ◌≤◌}
use mathlib.Core.List.{List, [], ◌++◌, append_assoc}
use mathlib.Core.Path.{◌≡◌, refl, sym, ◌∙◌, ap, ap₂, subst}
use native.Mathlib.Omega.{arith}
use native.Mathlib.Nat.{add-zero}
use lib.ListN.{length, take, drop, length-append, length-drop, take-append-drop}
use lib.Seq.{take_at, drop_at, drop-drop, length-take-le}
use Rattle.listing.specs.declared.Page.{Page}
use Rattle.io.specs.Digits.{last_digits, IsDigitCount}
use Rattle.listing.specs.Listing.{decimal}
use Rattle.listing.specs.Page.{HasRoom, Adds}
use Rattle.listing.proofs.Decimal.{decimal_spelled}

module _ {p q r : Page} {a b : List ℕ} where
  pub adds_both : Adds p a q → Adds q b r → p.len ≤ length p.out.now → Adds p (a ++ b) r
  adds_both f s h =
      let old = p.out.now in
      let k = length-take-le p.len old h in
      let all = length-append a b in
      let seam : length (take p.len old ++ a) ≡ q.len = omega (arith, s, f.longer, length-append (take p.len old) a, k) in
      let e : q.out.now ≡ (take p.len old ++ a) ++ drop (p.len + length a) old = f.written ∙ sym (append_assoc (take p.len old) a _) in
      let front : take q.len q.out.now ≡ take p.len old ++ a = ap (take q.len) e ∙ take_at _ _ q.len seam in
      let behind : drop (q.len + length b) q.out.now ≡ drop (p.len + length (a ++ b)) old =
      sym (drop-drop (length b) q.len q.out.now) ∙ ap (drop (length b)) (ap (drop q.len) e ∙ drop_at _ _ q.len seam) ∙ drop-drop (length b) (p.len + length a) old ∙ ap (λ n. drop n old) (omega (arith, all)) in
      record {
        same_buffer = s.same_buffer ∙ f.same_buffer;
        longer = omega (arith, f.longer, s.longer, all);
        written = s.written ∙ ap₂ (λ x y. x ++ (b ++ y)) front behind ∙ append_assoc (take p.len old) a _ ∙ ap (λ l. take p.len old ++ l) (sym (append_assoc a b _));
      }

-- what `io::decimal` spelled
pub digits_added : {p q : Page} (n k : ℕ) (ds : List ℕ) → Adds p (take k ds) q → IsDigitCount 10 1 n k → take k ds ≡ last_digits 10 k n → Adds p (decimal n) q
digits_added {p} {q} n k ds h d e = subst (λ w. Adds p w q) (e ∙ sym (decimal_spelled n k d)) h

pub digits_fit : (p : Page) (n k : ℕ) (ds : List ℕ) → HasRoom p (decimal n) → IsDigitCount 10 1 n k → take k ds ≡ last_digits 10 k n → HasRoom p (take k ds)
digits_fit p n k ds h d e = subst (HasRoom p) (sym (e ∙ sym (decimal_spelled n k d))) h

pub kept : {p q : Page} {w : List ℕ} → HasRoom p w → Adds p w q → length q.out.now ≡ length p.out.now
kept {p} {q} {w} h f =
    let old = p.out.now in
    omega (arith, ap length f.written, length-append (take p.len old) (w ++ drop (p.len + length w) old), length-append w (drop (p.len + length w) old), length-take-le p.len old (omega arith), length-drop (p.len + length w) old)

-- room for two pieces is room for the second behind the first
pub fits_second : {p q : Page} (a b : List ℕ) → HasRoom p (a ++ b) → Adds p a q → HasRoom q b
fits_second {p} a b h f =
    let first : HasRoom p a = omega (arith, length-append a b) in
    omega (arith, length-append a b, f.longer, kept first f)

pub adds_none : (p : Page) → p.len ≤ length p.out.now → Adds p [] p
adds_none p h = record {
  same_buffer = refl;
  longer = omega arith;
  written = rw add-zero (sym (take-append-drop p.len p.out.now));
}
