-- What one more read gave stands behind what stood at the front.
use Rattle.std.proofs.Common.{◌≡◌, ℕ, ◌+◌, ◌≤◌, List, ◌++◌, length, take, sym, ap, ◌∙◌, subst, length-take-le, rules}
use Rattle.std.proofs.Math.Seq.{take-append-add}
use Rattle.std.proofs.lemmas.List.{take-append-le}
use Rattle.std.specs.Io.KnownBytes.{Consumes}
use Rattle.std.proofs.KnownBytes.{Consumes-trans}
use borrow.Rule.Slice.PartMut.{put_mid, post_of}
use Rattle.support.proofs.read_full.Goals as goal

-- the front of a list whose rest, from done on, was written over
front : (done n k : ℕ) (xs ys : List ℕ) → done ≤ length xs → n ≤ length ys → take (done + n) (put_mid done k xs ys) ≡ take done xs ++ take n ys
front done n k xs ys within fits =
    let whole = put_mid done k xs ys in
    ap (λ m. take (m + n) whole) (sym (length-take-le done xs within)) ∙ take-append-add (take done xs) (ys ++ post_of done k xs) n ∙ ap (λ l. take done xs ++ l) (take-append-le n ys (post_of done k xs) fits)

pub loop-done-preserved : goal.loop-done-preserved
loop-done-preserved g c =
    let l = c.loop-done in
    let e = front l.done c.in_ok-n.n _ l.buf c.read.new.buf l.invariant.within c.in_ok-n.ensures.bound.0 in
    record {
      within = search rules;
      given = subst (Consumes _ _) (sym e) (Consumes-trans _ _ _ _ _ l.invariant.given c.in_ok-n.ensures.bytes.0);
    }
