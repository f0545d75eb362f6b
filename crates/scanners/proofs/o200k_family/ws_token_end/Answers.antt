-- `scanners::o200k_family::ws_token_end` meets its contract: the scan from where it has come to, with what is known of the run so far, ends where the whole scan does.
use Prim.Native.Nat.{◌-◌, ◌<◌}
use mathlib.Core.Bool.{Bool}
use mathlib.Core.Path.{◌≡◌, refl, sym, ap, ◌∙◌, subst}
use native.Mathlib.Omega.{arith}
use lib.ListN.{length}
use Rattle.std.specs.Prelude.{None, Some}
use Rattle.utf8.specs.Utf8.{pick, chars, chars_at}
use Rattle.pattern.proofs.Step.{white, newline}
use Rattle.scanners.specs.Place.{Whole}
use Rattle.scanners.proofs.Ended.{goes}
use Rattle.scanners.proofs.White.{white_from, white_whole, white_goes, white_stops}
use Rattle.scanners.proofs.o200k_family.ws_token_end.Goals as goal
use Rattle.scanners.proofs.o200k_family.ws_token_end.Goals.{After-is_newline}

-- past a character of the run, whether it is a CR or LF or not
smaller : (c : After-is_newline) → length c.loop-e.at.0.now - c.in-Some.e < length c.loop-e.at.0.now - c.loop-e.at.1.0
smaller c = let g = goes white _ _ c.loop-e.invariant.0 (sym c.kind_end.ensures ∙ c.in-Some.is) in omega (arith, g.past, g.whole)

preserved : (c : After-is_newline) {b : Bool} → c.is_newline.result ≡ b
    → Whole c.loop-e.at.0.now c.in-Some.e × (white_from None 0 0 (chars c.args.at.bytes.now) ≡ white_from (pick b (Some c.in-Some.e) c.loop-e.last_nl_end) c.loop-e.at.1.0 c.in-Some.e (chars_at c.loop-e.at.0.now c.in-Some.e))
preserved c t =
    let l = c.loop-e in
    let e = c.in-Some.e in
    let q = sym c.kind_end.ensures ∙ c.in-Some.is in
    let n = sym (c.is_newline.ensures ∙ ap newline c.byte_at.ensures) ∙ t in
    ((goes white _ _ l.invariant.0 q).whole, l.invariant.1 ∙ white_goes _ _ l.last_nl_end l.last_char_start l.invariant.0 q ∙ ap (λ b. white_from (pick b (Some e) l.last_nl_end) l.at.1.0 e (chars_at l.at.0.now e)) n)

pub loop-e-init : goal.loop-e-init
unfolding chars_at
loop-e-init c =
    let s = c.args.at.bytes.now in
    (c.args.at.whole, subst (λ p. white_from None 0 0 (chars s) ≡ white_from None 0 p (chars_at s p)) (sym c.requires) refl)

pub loop-e-smaller : goal.loop-e-smaller
loop-e-smaller c = smaller (goal.at.loop-e-smaller c).After-is_newline

pub loop-e-smaller-then-is_newline : goal.loop-e-smaller-then-is_newline
loop-e-smaller-then-is_newline c = smaller (goal.at.loop-e-smaller-then-is_newline c).After-is_newline

pub loop-e-preserved : goal.loop-e-preserved
loop-e-preserved c = preserved (goal.at.loop-e-preserved c).After-is_newline c.if-is_newline.false

pub loop-e-preserved-then-is_newline : goal.loop-e-preserved-then-is_newline
loop-e-preserved-then-is_newline c = preserved (goal.at.loop-e-preserved-then-is_newline c).After-is_newline c.if-is_newline.true

pub returns : goal.returns
returns c =
    let l = c.loop-e in
    c.ws_stop.ensures ∙ sym (sym (white_whole _) ∙ l.invariant.1 ∙ white_stops _ l.at.1.0 l.last_nl_end l.last_char_start l.invariant.0 (sym c.kind_end.ensures ∙ c.in_default.is))
