-- The refusal's number, and its place with LF behind it.
use Rattle.std.proofs.Common.{◌≡◌, ℕ, List, [], ◌∷◌, ◌++◌, sym, ap, subst, append_assoc, arith}
use Rattle.listing.specs.Page.{Adds}
use Rattle.listing.specs.Listing.{ascii, decimal, line, refused_line}
use Rattle.listing.proofs.Adding.{adds_both}
use Rattle.listing.proofs.Page.push_refused.Goals as goal

-- the line's two pieces
number : ℕ → List ℕ
number n = ascii "refused " ++ decimal n

place : ℕ → List ℕ
place p = line (ascii " at " ++ decimal p)

pieces : (n p : ℕ) → number n ++ place p ≡ refused_line n p
unfolding refused_line number place
pieces n p = ap (λ l. ascii "refused " ++ l) (sym (append_assoc (decimal n) (ascii " at " ++ decimal p) (10 ∷ [])))

pub returns : goal.returns
unfolding number place
returns c =
    let a = c.args in
    subst (λ w. Adds a.self.now w c.push_line.new.self) (pieces a.number a.place) (adds_both c.push_words.ensures c.push_line.ensures (omega arith))
