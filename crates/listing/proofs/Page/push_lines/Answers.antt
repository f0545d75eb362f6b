-- The line of the next number stands behind the lines before it, and there is room for it.
use Rattle.std.proofs.Common.{◌≡◌, ◌+◌, ◌++◌, ◌<◌, ℕ, List, length, take, get_or, sym, ap, ◌∙◌, subst, arith}
use Rattle.listing.specs.Page.{Adds}
use Rattle.listing.specs.Listing.{decimal, line, lines}
use Rattle.listing.proofs.Lines.{lines_next, lines_within}
use Rattle.listing.proofs.Adding.{adds_both, adds_none, fits_second}
use Rattle.listing.proofs.Page.push_lines.Goals as goal

pub loop-n-init : goal.loop-n-init
unfolding lines
loop-n-init c = adds_none c.args.self.now (omega arith)

-- the line of the number at i
next : (ns : List ℕ) (i n : ℕ) → i < length ns → n ≡ get_or ns i 0 → lines (take (i + 1) ns) ≡ lines (take i ns) ++ line (decimal n)
next ns i n h e = lines_next ns i h ∙ ap (λ m. lines (take i ns) ++ line (decimal m)) (sym e)

pub push_line-requires : goal.push_line-requires
push_line-requires c =
    let a = c.args in
    let i = c.loop-n.n-index in
    let e = next a.ns.now i c.from.result c.loop-n-test.true c.from.ensures in
    fits_second (lines (take i a.ns.now)) (line (decimal c.from.result)) (omega (arith, ap length e, lines_within a.ns.now (i + 1))) c.loop-n.invariant

pub loop-n-preserved : goal.loop-n-preserved
loop-n-preserved c =
    let a = c.args in
    let e = next a.ns.now c.loop-n.n-index c.from.result c.loop-n-test.true c.from.ensures in
    subst (λ w. Adds a.self.now w c.push_line.new.self) (sym e) (adds_both c.loop-n.invariant c.push_line.ensures (omega arith))
