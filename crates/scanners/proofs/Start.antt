-- Which scanner a token is for: what each answers from there is the closed form's token.
use Prim.Native.Nat.{ℕ, suc, ◌+◌, ◌<◌}
use mathlib.Core.Bool.{Bool, true, false, cond, ◌&&◌ as and, and-false}
use mathlib.Core.List.{List, [], ◌∷◌}
use mathlib.Core.Option.{none}
use Rattle.std.specs.Prelude.{Option, None, Some}
use mathlib.Core.Path.{◌≡◌, refl, sym, ◌∙◌, ap, subst}
use native.Mathlib.Omega.{arith}
use lib.ListN.{length, drop}
use borrow.Author.Tests.{eqb-true}
use Rattle.utf8.specs.Utf8.{pick, chars, chars_at, width, widths}
use Rattle.utf8.proofs.Tests.{by_bool}
use Rattle.classes.specs.Classes.{class_of}
use Rattle.classes.specs.declared.Class.{Class}
use Rattle.classes.specs.declared.Class.TheVariants as k
use Rattle.pattern.specs.declared.Options.{Options}
use Rattle.pattern.specs.Regex.{holds, run}
use Rattle.pattern.specs.Pattern.{token}
use Rattle.pattern.proofs.Trial.{opens}
use Rattle.pattern.proofs.Runs.{run_step, after, last_in}
use Rattle.pattern.proofs.Step.{is_wordy, is_number, is_punct, is_white, wordy, number, white, punct, newline, is, tail, case_end, first_fit, suffix_table, suffix_end, word_end, punct_end, space_end, is_end, keep, group_of, step_by, step}
use Rattle.pattern.proofs.Sets.{newline_white}
use Rattle.pattern.proofs.ClosedForm.{token_is_step}
use Rattle.scanners.specs.Place.{Whole, Stands}
use Rattle.scanners.specs.Scan.{span, run_width, suffix_span, suffix_width, ended, come, moved, turned, case_stop}
use Rattle.scanners.specs.Start.{or_start, prefixed_start, space_start, after_space, first_start, start_of}
use Rattle.scanners.specs.declared.o200k_family.CaseState.{CaseState}
use Rattle.scanners.specs.declared.o200k_family.CaseState.TheVariants.{U}
use Rattle.scanners.specs.declared.o200k_family.LetterRun.{LetterRun}
use Rattle.scanners.specs.declared.o200k_family.Start.{Start}
use Rattle.scanners.specs.declared.o200k_family.Start.TheVariants as start
use Rattle.scanners.proofs.Stands.{by_stands}
use Rattle.scanners.proofs.Ended.{ended_at, went}
use Rattle.scanners.proofs.Case.{stop_go, case_goes, case_whole, turned_at}
use Rattle.scanners.proofs.Spans.{span_none, span_add, span_cons, chars_past, whole_past}

-- a letter run entered past its first character, at f in the state st, and its suffix: the token ends at end
pub record Letters (o : Options) (s : List ℕ) (f : ℕ) (st : CaseState) (end : ℕ) : Type 0 where
  pub from : Whole s f
  pub to : Whole s (case_stop st f (chars_at s f))
  pub token : case_stop st f (chars_at s f) + suffix_width o.contractions (chars_at s (case_stop st f (chars_at s f))) ≡ end

pub record Punct (o : Options) (s : List ℕ) (f end : ℕ) : Type 0 where
  pub from : Whole s f
  pub to : Whole s (f + run_width punct (chars_at s f))
  pub token : f + run_width punct (chars_at s f) + run_width (tail o.slash) (chars_at s (f + run_width punct (chars_at s f))) ≡ end

suffix_is : (o : Options) (cs : List ℕ) → suffix_width o.contractions cs ≡ span (suffix_end o cs) cs
unfolding suffix_width suffix_span suffix_end span widths
suffix_is o cs = by o.contractions
  where
    by : (b : Bool) → pick b (span (first_fit suffix_table cs) cs) 0 ≡ span (cond b (first_fit suffix_table cs) 0) cs
    by true = refl
    by false = refl

module _ (o : Options) (s : List ℕ) (at : ℕ) (w : Whole s at) where
  -- n characters, and what f says of the rest
  after_is : (n : ℕ) (f : List ℕ → ℕ) {e : ℕ} → e ≡ at + span n (chars_at s at) → e + span (f (chars_at s e)) (chars_at s e) ≡ at + span (after f (chars_at s at) n) (chars_at s at)
  after_is n f {e} q =
      let c : chars_at s e ≡ drop n (chars_at s at) = ap (chars_at s) q ∙ chars_past s at n in
      ap (λ cs. e + span (f cs) cs) c ∙ omega (arith, q, span_add n (f (drop n (chars_at s at))) (chars_at s at))

  word : {f : ℕ} {st : CaseState} → turned (U None) at (chars_at s at) ≡ come f st → Letters o s f st (at + span (word_end o (chars_at s at)) (chars_at s at))
  unfolding word_end
  word {f} {st} q =
      let g = case_goes s at (U None) w q in
      let e : case_stop st f (chars_at s f) ≡ at + span (case_end (chars_at s at)) (chars_at s at) = sym g.stop ∙ case_whole at (chars_at s at) in
      record {
        from = g.whole;
        to = rw e (whole_past s at (case_end (chars_at s at)) w);
        token = ap (λ n. case_stop st f (chars_at s f) + n) (suffix_is o (chars_at s (case_stop st f (chars_at s f)))) ∙ after_is (case_end (chars_at s at)) (suffix_end o) e;
      }

  -- punctuation whose first character ends at f
  mark : {c f : ℕ} → Stands s at c f → punct c ≡ true → Punct o s f (at + span (punct_end o (chars_at s at)) (chars_at s at))
  unfolding punct_end run_width
  mark {c} {f} h t =
      let g = went punct s at h t in
      let e : f + run_width punct (chars_at s f) ≡ at + span (run punct (chars_at s at)) (chars_at s at) = sym g.wide in
      record {
        from = g.whole;
        to = rw e (whole_past s at (run punct (chars_at s at)) w);
        token = after_is (run punct (chars_at s at)) (run (tail o.slash)) e;
      }

-- what a choice is to lead to, and that no run of digits is left open by any but digits
abbrev pub Leads : Options → List ℕ → Start → Type 0
Leads o s (start.Letters r) = Letters o s r.end r.state (span (token o (chars s)) (chars s)) × (run number (chars s) ≡ 0)
Leads o s (start.Punct f) = Punct o s f (span (token o (chars s)) (chars s)) × (run number (chars s) ≡ 0)
Leads o s start.White = (span (space_end (chars s)) (chars s) ≡ span (token o (chars s)) (chars s)) × (run number (chars s) ≡ 0)
Leads o s (start.Number f) = (ended number 0 (chars s) ≡ Some f) × (token o (chars s) ≡ group_of o.digits (run number (chars s)))
Leads o s start.One = (1 ≡ span (token o (chars s)) (chars s)) × (run number (chars s) ≡ 0)

-- a letter run is entered just where a letter or a mark opens it
enters : (at : ℕ) (cs : List ℕ) {f : ℕ} {st : CaseState} → turned (U None) at cs ≡ come f st → opens wordy cs ≡ true
unfolding turned opens wordy
enters at [] q = stop_go q
enters at (c ∷ cs) q = by (class_of c) (at + width c) q
  where
    by : (j : Class) (e : ℕ) {f : ℕ} {st : CaseState} → moved j (U None) e ≡ come f st → is_wordy j ≡ true
    by k.Upper e q = refl
    by k.Lower e q = refl
    by k.Caseless e q = refl
    by k.Mark e q = refl
    by k.Number e q = stop_go q
    by k.Whitespace e q = stop_go q
    by k.Other e q = stop_go q

pub wordy_stop : (j : Class) (e : ℕ) → moved j (U None) e ≡ None → is_wordy j ≡ false
wordy_stop k.Upper e q = stop_go (sym q)
wordy_stop k.Lower e q = stop_go (sym q)
wordy_stop k.Caseless e q = stop_go (sym q)
wordy_stop k.Mark e q = stop_go (sym q)
wordy_stop k.Number e q = refl
wordy_stop k.Whitespace e q = refl
wordy_stop k.Other e q = refl

leaves : (at : ℕ) (cs : List ℕ) → turned (U None) at cs ≡ None → opens wordy cs ≡ false
unfolding turned opens wordy
leaves at [] q = refl
leaves at (c ∷ cs) q = wordy_stop (class_of c) (at + width c) q

white_is : (c : ℕ) → class_of c ≡ k.Whitespace → white c ≡ true
unfolding holds
white_is c q = ap is_white q

punct_is : (c : ℕ) → class_of c ≡ k.Other → punct c ≡ true
unfolding holds
punct_is c q = ap is_punct q

-- one character of white space that is no CR or LF, before none
lone_white : (c : ℕ) (cs : List ℕ) → white c ≡ true → newline c ≡ false → run white cs ≡ 0 → last_in white newline cs ≡ none → space_end (c ∷ cs) ≡ 1
unfolding space_end last_in
lone_white c cs x n r l = rw (x, n, l, run_step white c cs, x, r) (by (is_end cs))
  where
    by : (b : Bool) → keep b 1 ≡ 1
    by true = refl
    by false = refl

lone_end : (c : ℕ) → white c ≡ true → newline c ≡ false → space_end (c ∷ []) ≡ 1
unfolding run last_in
lone_end c x n = lone_white c [] x n refl refl

lone_number : (c d : ℕ) (cs : List ℕ) → white c ≡ true → newline c ≡ false → class_of d ≡ k.Number → space_end (c ∷ d ∷ cs) ≡ 1
unfolding holds last_in
lone_number c d cs x n q =
    let u : white d ≡ false = ap is_white q in
    let v : newline d ≡ false = by_bool (newline d) (λ t. let z : ◌≡◌ {A = ℕ} 0 1 = cc (newline_white d t) in absurd (omega arith)) (λ f. f) in
    lone_white c (d ∷ cs) x n (run_step white d cs ∙ ap (λ b. cond b (suc (run white cs)) 0) u) (rw (u, v))

module _ (o : Options) (s : List ℕ) (w : Whole s 0) {c e : ℕ} (h : Stands s 0 c e) where
  abbrev ds : List ℕ
  ds = chars_at s e

  whole_is : chars s ≡ c ∷ ds
  unfolding chars_at
  whole_is = h.then

  wide_is : e ≡ width c
  wide_is = omega (arith, h.wide)

  span_first : (n : ℕ) → span (suc n) (chars s) ≡ e + span n ds
  span_first n = ap (span (suc n)) whole_is ∙ span_cons n c ds ∙ ap (λ i. i + span n ds) (sym wide_is)

  token_by : {j : Class} → class_of c ≡ j → token o (chars s) ≡ step_by o j c ds
  unfolding step
  token_by q = ap (token o) whole_is ∙ token_is_step o (c ∷ ds) ∙ ap (λ j. step_by o j c ds) q

  no_number : {j : Class} → class_of c ≡ j → is_number j ≡ false → run number (chars s) ≡ 0
  unfolding holds
  no_number q f = ap (run number) whole_is ∙ run_step number c ds ∙ ap (λ b. cond b (suc (run number ds)) 0) (ap is_number q ∙ f)

  -- a word from the front
  letters : {j : Class} {st : CaseState} {f : ℕ} → class_of c ≡ j → is_number j ≡ false → moved j (U None) (width c) ≡ come f st → step_by o j c ds ≡ word_end o (c ∷ ds) → Leads o s (or_start (come f st) start.One)
  unfolding chars_at turned
  letters {j} {st} {f} q n m t =
      let i : 0 + width c ≡ width c = omega arith in
      let g : turned (U None) 0 (chars_at s 0) ≡ come f st = ap (turned (U None) 0) whole_is ∙ ap (moved (class_of c) (U None)) i ∙ ap (λ j. moved j (U None) (width c)) q ∙ m in
      let r : 0 + span (word_end o (chars s)) (chars s) ≡ span (token o (chars s)) (chars s) = omega (arith, ap (λ n. span n (chars s)) (token_by q ∙ t ∙ ap (word_end o) (sym whole_is))) in
      (subst (Letters o s f st) r (word o s 0 w g), no_number q n)

  -- a word past a prefix
  prefixed : {j : Class} {st : CaseState} {f : ℕ} → class_of c ≡ j → is_number j ≡ false → turned (U None) e ds ≡ come f st → step_by o j c ds ≡ suc (word_end o ds) → Leads o s (or_start (come f st) start.One)
  prefixed {j} {st} {f} q n g t =
      let r : e + span (word_end o ds) ds ≡ span (token o (chars s)) (chars s) = sym (ap (λ n. span n (chars s)) (token_by q ∙ t) ∙ span_first (word_end o ds)) in
      (subst (Letters o s f st) r (word o s e h.whole g), no_number q n)

  -- punctuation from the front, and past a space
  marks : {j : Class} → class_of c ≡ j → is_number j ≡ false → is_punct j ≡ true → step_by o j c ds ≡ punct_end o (c ∷ ds) → Leads o s (start.Punct (width c))
  unfolding chars_at holds
  marks {j} q n p t =
      let r : 0 + span (punct_end o (chars s)) (chars s) ≡ span (token o (chars s)) (chars s) = omega (arith, ap (λ n. span n (chars s)) (token_by q ∙ t ∙ ap (punct_end o) (sym whole_is))) in
      (subst (λ f. Punct o s f (span (token o (chars s)) (chars s))) wide_is (subst (Punct o s e) r (mark o s 0 w h (ap is_punct q ∙ p))), no_number q n)

  spaced : {j : Class} {d f : ℕ} → class_of c ≡ j → is_number j ≡ false → Stands s e d f → punct d ≡ true → step_by o j c ds ≡ suc (punct_end o ds) → Leads o s (start.Punct f)
  spaced {j} {d} {f} q n g p t =
      let r : e + span (punct_end o ds) ds ≡ span (token o (chars s)) (chars s) = sym (ap (λ n. span n (chars s)) (token_by q ∙ t) ∙ span_first (punct_end o ds)) in
      (subst (Punct o s f) r (mark o s e h.whole g p), no_number q n)

  blank : {j : Class} → class_of c ≡ j → is_number j ≡ false → step_by o j c ds ≡ space_end (c ∷ ds) → Leads o s start.White
  blank q n t = (ap (λ n. span n (chars s)) (sym (token_by q ∙ t ∙ ap space_end (sym whole_is))), no_number q n)

  -- digits
  counted : class_of c ≡ k.Number → Leads o s (start.Number (width c))
  unfolding chars_at holds step_by
  counted q =
      let t : number c ≡ true = ap is_number q in
      (sym (ended_at number s 0 true h (sym t)) ∙ ap Some wide_is, token_by q ∙ ap (group_of o.digits) (sym (ap (run number) whole_is ∙ run_step number c ds ∙ ap (λ b. cond b (suc (run number ds)) 0) t)))

  -- past a prefix: by whether a letter run is entered
  past_prefix : (b : Bool) {j : Class} → class_of c ≡ j → is_number j ≡ false → (opens wordy ds ≡ true → step_by o j c ds ≡ suc (word_end o ds))
      → (opens wordy ds ≡ false → Leads o s (pick b start.White (start.Punct (width c)))) → Leads o s (prefixed_start b (width c) ds)
  unfolding prefixed_start
  past_prefix b {j} q n f g = subst (λ i. Leads o s (or_start (turned (U None) i ds) (pick b start.White (start.Punct (width c))))) wide_is (by (turned (U None) e ds) refl)
    where
      by : (m : Option LetterRun) → turned (U None) e ds ≡ m → Leads o s (or_start m (pick b start.White (start.Punct (width c))))
      by (Some run) r = prefixed q n r (f (enters e ds r))
      by None r = g (leaves e ds r)

  -- white space, by the tests that its step makes
  white_step : {x y z : Bool} → newline c ≡ x → opens wordy ds ≡ y → and (is 32 c) (opens punct ds) ≡ z
      → step_by o k.Whitespace c ds ≡ cond x (space_end (c ∷ ds)) (cond y (suc (word_end o ds)) (cond z (suc (punct_end o ds)) (space_end (c ∷ ds))))
  unfolding step_by
  white_step p q r = rw (p, q, r)

  -- a space that stands alone
  lone : class_of c ≡ k.Whitespace → newline c ≡ false → is 32 c ≡ true → opens wordy ds ≡ false → opens punct ds ≡ false → space_end (c ∷ ds) ≡ 1 → Leads o s start.One
  unfolding width
  lone q n u x p z =
      let i : c ≡ 32 = eqb-true c 32 u in
      let l : e ≡ 1 = wide_is ∙ ap width i in
      (omega (arith, l, ap (λ n. span n (chars s)) (token_by q ∙ white_step n x (ap (and (is 32 c)) p ∙ and-false (is 32 c)) ∙ z), span_first 0, span_none ds), no_number q refl)

  -- what the next character says
  next_wordy : {d f : ℕ} {j : Class} → Stands s e d f → class_of d ≡ j → opens wordy ds ≡ is_wordy j
  unfolding opens wordy
  next_wordy g r = ap (opens wordy) g.then ∙ ap is_wordy r

  next_punct : {d f : ℕ} {j : Class} → Stands s e d f → class_of d ≡ j → opens punct ds ≡ is_punct j
  unfolding opens holds
  next_punct g r = ap (opens punct) g.then ∙ ap is_punct r

  next_turn : {d f : ℕ} {j : Class} → Stands s e d f → class_of d ≡ j → turned (U None) e ds ≡ moved j (U None) f
  next_turn g r = sym (turned_at s e (U None) g (sym r))

  -- past a space, by the class of the next character
  past_space : {d f : ℕ} → class_of c ≡ k.Whitespace → newline c ≡ false → is 32 c ≡ true → Stands s e d f → (j : Class) → class_of d ≡ j → Leads o s (space_start j f)
  unfolding space_start
  past_space q n u g k.Upper r = prefixed q refl (next_turn g r) (white_step n (next_wordy g r) refl)
  past_space q n u g k.Lower r = prefixed q refl (next_turn g r) (white_step n (next_wordy g r) refl)
  past_space q n u g k.Caseless r = prefixed q refl (next_turn g r) (white_step n (next_wordy g r) refl)
  past_space q n u g k.Mark r = prefixed q refl (next_turn g r) (white_step n (next_wordy g r) refl)
  past_space {d} {f} q n u g k.Number r = lone q n u (next_wordy g r) (next_punct g r) (ap (λ l. space_end (c ∷ l)) g.then ∙ lone_number c d (chars_at s f) (white_is c q) n r)
  past_space q n u g k.Whitespace r = blank q refl (white_step n (next_wordy g r) (ap (and (is 32 c)) (next_punct g r) ∙ and-false (is 32 c)))
  past_space {d} {f} q n u g k.Other r = spaced q refl g (punct_is d r) (white_step n (next_wordy g r) (ap (and (is 32 c)) (next_punct g r) ∙ ap (λ b. and b true) u))

  space : class_of c ≡ k.Whitespace → newline c ≡ false → is 32 c ≡ true → Leads o s (after_space ds)
  unfolding after_space opens width
  space q n u = by_stands s e h.whole
      (λ d f g.
      let i : 1 + width d ≡ f = omega (arith, g.wide, wide_is ∙ ap width (eqb-true c 32 u)) in
      rw g.then (subst (λ x. Leads o s (space_start (class_of d) x)) (sym i) (past_space q n u g (class_of d) refl)))
      (λ z. rw z (lone q n u (ap (opens wordy) z) (ap (opens punct) z) (ap (λ l. space_end (c ∷ l)) z ∙ lone_end c (white_is c q) n)))

  -- by the class of the first character
  lead : (j : Class) → class_of c ≡ j → Leads o s (first_start j c ds)
  unfolding first_start step_by
  lead k.Upper q = letters q refl refl refl
  lead k.Lower q = letters q refl refl refl
  lead k.Caseless q = letters q refl refl refl
  lead k.Mark q = letters q refl refl refl
  lead k.Number q = counted q
  lead k.Other q = past_prefix false q refl (λ t. rw t) (λ t. marks q refl refl (rw t))
  lead k.Whitespace q = by_bool (newline c)
      (λ t. rw t (blank q refl (rw t)))
      (λ t. by_bool (is 32 c)
      (λ u. rw (t, u) (space q t u))
      (λ u. rw (t, u) (past_prefix true q refl (λ x. rw (t, x)) (λ x. blank q refl (rw (t, x, u))))))

-- THE CHOICE leads to the definition's token
pub leads : (o : Options) (s : List ℕ) → Whole s 0 → 0 < length s → Leads o s (start_of (chars s))
unfolding start_of chars_at widths
leads o s w l = by_stands s 0 w
    (λ c _ h. subst (λ cs. Leads o s (start_of cs)) (sym h.then) (lead o s w h (class_of c) refl))
    (λ n. absurd (omega (arith, w, ap widths n)))
