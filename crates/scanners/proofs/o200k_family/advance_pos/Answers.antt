-- `scanners::o200k_family::advance_pos` meets its contract: the choice leads to the definition's token (`leads`), and each scanner answers what it leads to.
use Prim.Native.Nat.{ℕ, ◌+◌}
use mathlib.Core.List.{List}
use Rattle.scanners.specs.declared.o200k_family.Start.{Start}
use mathlib.Core.Path.{◌≡◌, sym, ap, ◌∙◌, subst}
use Rattle.utf8.specs.Utf8.{chars, chars_at}
use Rattle.std.specs.Prelude.{Some}
use Rattle.pattern.proofs.Step.{number, tail}
use Rattle.scanners.specs.Place.{Whole}
use Rattle.scanners.specs.Scan.{span, run_width, suffix_width, ended}
use Rattle.scanners.proofs.Ended.{goes}
use Rattle.scanners.proofs.Start.{Leads, leads}
use Rattle.scanners.proofs.Digits.{groups_none}
use Rattle.scanners.proofs.o200k_family.advance_pos.Goals as goal
use Rattle.scanners.proofs.o200k_family.advance_pos.Goals.{After-start_of}

-- what the choice leads to, in the arm that was taken
led : (c : After-start_of) {y : Start} → c.start_of.result ≡ y → Leads c.args.o c.args.bytes.now y
unfolding chars chars_at
led c q = subst (Leads c.args.o c.args.bytes.now) (sym c.start_of.ensures ∙ q) (leads c.args.o c.args.bytes.now c.requires.whole c.requires.bytes_nonzero)

-- where the first number ends
first : (s : List ℕ) {e : ℕ} → Whole s 0 → ended number 0 (chars s) ≡ Some e → Whole s e
unfolding chars chars_at
first s w q = (goes number s 0 w q).whole

pub invariant_of-scan_case_run : goal.invariant_of-scan_case_run
invariant_of-scan_case_run c = record { whole = (led (goal.at.invariant_of-scan_case_run c).After-start_of c.in-Letters.is).0.from }

pub invariant_of-scan_punct_from : goal.invariant_of-scan_punct_from
invariant_of-scan_punct_from c = record { whole = (led (goal.at.invariant_of-scan_punct_from c).After-start_of c.in-Punct.is).0.from }

pub invariant_of-digit_token_end : goal.invariant_of-digit_token_end
invariant_of-digit_token_end c = record { whole = first _ c.requires.whole (led (goal.at.invariant_of-digit_token_end c).After-start_of c.in-Number.is).0 }

pub digit_token_end-requires : goal.digit_token_end-requires
digit_token_end-requires c = (led (goal.at.digit_token_end-requires c).After-start_of c.in-Number.is).0

pub invariant_of-try_suffix : goal.invariant_of-try_suffix
invariant_of-try_suffix c = record { whole = subst (Whole c.args.bytes.now) (sym c.scan_case_run-end.ensures) (led (goal.at.invariant_of-try_suffix c).After-start_of c.in-Letters.is).0.to }

pub invariant_of-scan_tail : goal.invariant_of-scan_tail
invariant_of-scan_tail c = record { whole = subst (Whole c.args.bytes.now) (sym c.scan_punct_from-end.ensures) (led (goal.at.invariant_of-scan_tail c).After-start_of c.in-Punct.is).0.to }

pub returns-in-Letters : goal.returns-in-Letters
returns-in-Letters c =
    let a = c.args in
    let l = led (goal.at.returns-in-Letters c).After-start_of c.in-Letters.is in
    let end = c.scan_case_run-end.result in
    let e : c.try_suffix.result ≡ end + suffix_width a.o.contractions (chars_at a.bytes.now end) = c.try_suffix.ensures in
    record {
      len = c.plain.ensures.0 ∙ e ∙ ap (λ n. n + suffix_width a.o.contractions (chars_at a.bytes.now n)) c.scan_case_run-end.ensures ∙ l.0.token;
      left = c.plain.ensures.1 ∙ groups_none a.o.digits l.1;
    }

pub returns-in-Punct : goal.returns-in-Punct
returns-in-Punct c =
    let a = c.args in
    let l = led (goal.at.returns-in-Punct c).After-start_of c.in-Punct.is in
    record {
      len = c.plain-in-Punct.ensures.0 ∙ c.scan_tail.ensures ∙ ap (λ n. n + run_width (tail a.o.slash) (chars_at a.bytes.now n)) c.scan_punct_from-end.ensures ∙ l.0.token;
      left = c.plain-in-Punct.ensures.1 ∙ groups_none a.o.digits l.1;
    }

pub returns-in-White : goal.returns-in-White
returns-in-White c =
    let l = led (goal.at.returns-in-White c).After-start_of c.in-White.is in
    record { len = c.plain-in-White.ensures.0 ∙ c.ws_token_end.ensures ∙ l.0; left = c.plain-in-White.ensures.1 ∙ groups_none c.args.o.digits l.1 }

pub returns-in-Number : goal.returns-in-Number
returns-in-Number c =
    let l = led (goal.at.returns-in-Number c).After-start_of c.in-Number.is in
    record { len = c.digit_token_end.ensures.len ∙ ap (λ n. span n (chars c.args.bytes.now)) (sym l.1); left = c.digit_token_end.ensures.left }

pub returns-in-One : goal.returns-in-One
returns-in-One c =
    let l = led (goal.at.returns-in-One c).After-start_of c.in-One.is in
    record { len = c.plain-in-One.ensures.0 ∙ l.0; left = c.plain-in-One.ensures.1 ∙ groups_none c.args.o.digits l.1 }
