-- Each branch writes the lines of its case, and there is room for the longest.
use Rattle.std.proofs.Common.{◌∙◌, length, sym, ap, ap₂, subst, arith}
use lib.Seq.{length-take-le}
use Rattle.listing.specs.Page.{Adds}
use Rattle.listing.specs.Listing.{refused_line, ends_lines}
use Rattle.listing.proofs.Listed.{when_cut, when_refused, ends_fit, Whole, whole, refused}
use Rattle.listing.proofs.Page.push_listing.Goals as goal
use Rattle.listing.proofs.Page.push_listing.Goals.{In-Ok}

-- the whole sheet is cut
cut : (c : In-Ok) → Whole c.args.sheet.now c.fill.new.ends c.in-Ok.f.count
cut c = whole c.o200k.ensures c.args.sheet.now _ (omega arith) c.in-Ok.ensures.0 c.in-Ok.ensures.1

pub slice_bounds-ends-end : goal.slice_bounds-ends-end
slice_bounds-ends-end c = (cut (goal.at.slice_bounds-ends-end c).In-Ok).within

pub slice_bounds-push_ends-end : goal.slice_bounds-push_ends-end
slice_bounds-push_ends-end c = let h = cut (goal.at.slice_bounds-push_ends-end c).In-Ok in sym (length-take-le _ _ h.within)

pub push_ends-requires : goal.push_ends-requires
push_ends-requires c =
    let h = cut (goal.at.push_ends-requires c).In-Ok in
    omega (arith, ap (λ es. length (ends_lines es)) h.all, ends_fit _ (omega arith) h.pass)

pub returns-in-Ok : goal.returns-in-Ok
returns-in-Ok c =
    let h = cut (goal.at.returns-in-Ok c).In-Ok in
    subst (λ w. Adds c.args.self.now w c.push_ends.new.self) (ap ends_lines h.all ∙ sym (when_cut c.args.sheet.now (omega arith) h.pass)) c.push_ends.ensures

pub returns-in-Err : goal.returns-in-Err
returns-in-Err c =
    let k = refused c.o200k.ensures c.args.sheet.now _ c.in-Err.ensures.0 in
    let e = ap₂ refused_line (c.from.ensures ∙ c.number.ensures) c.place.ensures ∙ sym (when_refused c.args.sheet.now (omega arith) k) in
    subst (λ w. Adds c.args.self.now w c.push_refused-in-Err.new.self) e c.push_refused-in-Err.ensures
