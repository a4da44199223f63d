-- The lines behind the header are lawful, and none of them begins as a line of the header.
use Rattle.std.proofs.Common.{◌≡◌, ℕ, ◌+◌, ◌^◌, ◌<◌, ◌≤◌, true, false, not, leb, ◌&&◌, List, [], ◌∷◌, ◌++◌, length, refl, sym, ap, subst, append_assoc, arith, ◌%◌}
use Rattle.std.specs.Prelude.{Option, Some, None, codes}
use Rattle.std.specs.Fmt.{decimal}
use Rattle.std.specs.Str.Parse.{digits_value}
use Rattle.std.proofs.lemmas.Bool.{eq-eqb, le-leb, leb-true, and_parts}
use Rattle.std.proofs.lemmas.Fmt.{decimal_is_IsNumeral, decimal_by_steps}
use Rattle.std.proofs.lemmas.List.{length-append}
use Rattle.cp_codec.specs.Exact.{IsByte}
use Rattle.cp_grammar.specs.Grammar.{checked, seq}
use Rattle.cp_grammar.specs.Lists.{until_spelling, UntilFits}
use Rattle.cp_grammar.specs.Lawful.{IsLawful}
use Rattle.cp_grammar.specs.Words.{is_end, is_word, token, same_bytes, is_decimal}
use Rattle.cp_grammar.specs.Laws.{AreCases, one_field_lawful, mapped_lawful, checked_lawful, seq_lawful, with_unit, with_variant, no_cases}
use Rattle.cp_grammar.specs.ListLaws.{until_lawful}
use Rattle.cp_grammar.specs.WordLaws.{lawful_text, token_lawful, exact_bytes}
use Rattle.cp_events.specs.declared.event.Event.TheVariants as event
use Rattle.cp_events.specs.declared.schedule.Line.{Line}
use Rattle.cp_events.specs.declared.schedule.Line.TheVariants as line
use Rattle.cp_call_words.specs.ValueLaws.{member_line_lawful, member_space_lawful}
use Rattle.cp_call_words.specs.declared.context.Context.{Context}
use Rattle.cp_call_words.specs.CallLaws.{user_op_lawful}
use Rattle.cp_schedule.specs.Fronts.{behind, ended_number, ended_number_reading}
use Rattle.cp_schedule.specs.Events.{client_word, thread_word, stop_words, crash_end, crash_cases, crashing, Crash, crash_words, line_word, line_crash, crash_of, line_words, event_line, any_line, event_lines}
use Rattle.cp_schedule.proofs.FrontLaws.{after_lawful}
use Rattle.cp_schedule.proofs.HeaderLaws.{IsBehindHeader}

-- ---- numbers with whichever end

same_self : (xs : List ℕ) → same_bytes xs xs ≡ true
same_self [] = refl
same_self (x ∷ xs) = rw (eq-eqb x x refl, same_self xs) refl

digit_no_end : (d : ℕ) → d < 10 → is_end (48 + d) ≡ false
digit_no_end d lt = grind arith

word_push : (w : List ℕ) (b : ℕ) → is_word w ≡ true → is_end b ≡ false → is_word (w ++ b ∷ []) ≡ true
unfolding is_word
word_push [] b p q = absurd cc
word_push (x ∷ []) b p q = rw (p, q) refl
word_push (x ∷ y ∷ xs) b p q = let h = and_parts (not (is_end x)) (is_word (y ∷ xs)) p in rw (h.0, word_push (y ∷ xs) b h.1 q) refl

one_digit : (d : ℕ) → d < 10 → is_word ((48 + d) ∷ []) ≡ true
unfolding is_word
one_digit d lt = rw (digit_no_end d lt) refl

pub decimal_word : (n : ℕ) → n < 2 ^ 64 → is_word (decimal n) ≡ true
decimal_word n lt = decimal_by_steps (λ _ w. is_word w ≡ true) one_digit (λ m ds le p. word_push ds (48 + m % 10) p (digit_no_end (m % 10) (omega arith))) n lt

pub ended_lawful : (most : ℕ) → most < 2 ^ 64 → IsLawful IsByte (ended_number most)
unfolding ended_number_reading is_decimal
ended_lawful most lt =
    let law = mapped_lawful IsByte (checked token (λ t. is_decimal t.0 && leb (digits_value 10 t.0) most)) (checked_lawful IsByte token token_lawful _) (λ t. (digits_value 10 t.0, t.1)) (λ p. (decimal p.0, p.1))
    (λ t fits. let h = and_parts (same_bytes t.0 (decimal (digits_value 10 t.0))) (leb (digits_value 10 t.0) most) fits.1 in ap (λ (w : List ℕ). (w, t.1)) (sym (exact_bytes _ _ h.0))) in
    record {
      again = λ p rest fits.
          let back : digits_value 10 (decimal p.0) ≡ p.0 = (decimal_is_IsNumeral p.0 (omega (arith, fits.0))).1 in
          let canonical : same_bytes (decimal p.0) (decimal (digits_value 10 (decimal p.0))) ≡ true = rw back (same_self (decimal p.0)) in
          let small : leb (digits_value 10 (decimal p.0)) most ≡ true = rw back (le-leb _ _ fits.0) in
          law.again p rest (((decimal_word p.0 (omega (arith, fits.0)), fits.1), rw (canonical, small) refl), ap (λ (n : ℕ). (n, p.1)) back);
      takes = λ bs p rest good e.
          let h = law.takes bs p rest good e in
          let g = and_parts (same_bytes (decimal p.0) (decimal (digits_value 10 (decimal p.0)))) (leb (digits_value 10 (decimal p.0)) most) h.1.0.1 in
          let small : digits_value 10 (decimal p.0) ≤ most = leb-true _ _ g.1 in
          (h.0, (subst (λ (q : ℕ × ℕ). q.0 ≤ most) h.1.1 small, h.1.0.0.1));
    }

-- ---- a crash

crashing_lawful : IsLawful IsByte crashing
crashing_lawful = checked_lawful IsByte (ended_number 9) (ended_lawful 9 (omega arith)) (λ m. leb 1 m.0)

stop_lawful : IsLawful IsByte stop_words
unfolding stop_words
stop_lawful = search (lawful_text, after_lawful)

stop_cases : AreCases IsByte crash_end crash_cases
stop_cases = with_unit IsByte crash_end 10 None _ refl (with_variant IsByte crash_end 32 Some (λ stop. stop) stop_words _ stop_lawful (λ x. refl) (λ x. refl) (no_cases IsByte crash_end))

crash_lawful : IsLawful IsByte crash_words
unfolding crash_words
crash_lawful =
    mapped_lawful IsByte (seq crashing (λ m. crash_cases m.1)) (seq_lawful IsByte crashing crashing_lawful (λ m. crash_cases m.1) (λ m. stop_cases.laws m.1)) (λ p. (p.0.0, p.1)) (λ c. ((c.0, crash_end c.1), c.1))
    (λ x fits. let e = stop_cases.tags x.0.1 x.1 fits.1 in ap (λ (k : ℕ). ((x.0.0, k), x.1)) e)

crash_parts : (m : ℕ) (stop : Option (ℕ × ℕ)) → line_crash (Some (line.One (crash_of m stop))) ≡ Some (m, stop)
crash_parts m None = refl
crash_parts m (Some stop) = refl

crash_word : (m : ℕ) (stop : Option (ℕ × ℕ)) → line_word (Some (line.One (crash_of m stop))) ≡ (codes "crash", 32)
crash_word m None = refl
crash_word m (Some stop) = refl

pub crash_back : (c : Crash) → line_crash (Some (line.One (crash_of c.0 c.1))) ≡ Some c
crash_back c = crash_parts c.0 c.1

pub crash_tag : (c : Crash) → line_word (Some (line.One (crash_of c.0 c.1))) ≡ (codes "crash", 32)
crash_tag c = crash_word c.0 c.1

-- ---- every line

client_lawful : (end : ℕ) → is_end end ≡ true → IsLawful IsByte (client_word end)
unfolding client_word
client_lawful end is = search lawful_text

thread_lawful : (end : ℕ) → is_end end ≡ true → IsLawful IsByte (thread_word end)
unfolding thread_word
thread_lawful end is = search lawful_text

words_lawful : (context : Context) → IsLawful IsByte (line_words context)
unfolding line_words
words_lawful context = search (lawful_text, user_op_lawful, member_line_lawful, member_space_lawful, client_lawful, thread_lawful, crash_lawful, crash_back, crash_tag) depth 20 fits 20000

pub event_lawful : (context : Context) → IsLawful IsByte (event_line context)
unfolding event_line
event_lawful context = one_field_lawful IsByte (line_words context) (words_lawful context)

-- no line is empty
some_line : (context : Context) (before : List Line) (x : Line) → (any_line context before).Fits (Some x) → 1 ≤ length ((any_line context before).spelling (Some x))
unfolding event_line line_words
some_line context before (line.Settle n) fits = omega arith
some_line context before (line.One event.Open) fits = omega arith
some_line context before (line.One (event.Tick m ms)) fits = omega arith
some_line context before (line.One (event.ClientTick c ms)) fits = omega arith
some_line context before (line.One (event.Call c t o)) fits = omega arith
some_line context before (line.One (event.Deliver k)) fits = omega arith
some_line context before (line.One (event.Crash m)) fits = omega arith
some_line context before (line.One (event.CrashAfter m w x)) fits = omega arith
some_line context before (line.One (event.Start m)) fits = omega arith

pub events_lawful : (context : Context) → IsLawful IsByte (event_lines context)
unfolding event_lines
events_lawful context = until_lawful IsByte (any_line context) (λ before. event_lawful context) (some_line context)

-- ---- no line begins as one of the header

line_is_behind : (context : Context) (o : Option Line) (ts : List ℕ) → IsBehindHeader ((event_line context).spelling o ++ ts)
unfolding event_line line_words behind
line_is_behind context None ts = record { no_snapshot = refl; no_groups = refl; no_limit = refl; no_reads = refl }
line_is_behind context (Some (line.Settle n)) ts = record { no_snapshot = refl; no_groups = refl; no_limit = refl; no_reads = refl }
line_is_behind context (Some (line.One event.Open)) ts = record { no_snapshot = refl; no_groups = refl; no_limit = refl; no_reads = refl }
line_is_behind context (Some (line.One (event.Tick m ms))) ts = record { no_snapshot = refl; no_groups = refl; no_limit = refl; no_reads = refl }
line_is_behind context (Some (line.One (event.ClientTick c ms))) ts = record { no_snapshot = refl; no_groups = refl; no_limit = refl; no_reads = refl }
line_is_behind context (Some (line.One (event.Call c t o))) ts = record { no_snapshot = refl; no_groups = refl; no_limit = refl; no_reads = refl }
line_is_behind context (Some (line.One (event.Deliver k))) ts = record { no_snapshot = refl; no_groups = refl; no_limit = refl; no_reads = refl }
line_is_behind context (Some (line.One (event.Crash m))) ts = record { no_snapshot = refl; no_groups = refl; no_limit = refl; no_reads = refl }
line_is_behind context (Some (line.One (event.CrashAfter m w x))) ts = record { no_snapshot = refl; no_groups = refl; no_limit = refl; no_reads = refl }
line_is_behind context (Some (line.One (event.Start m))) ts = record { no_snapshot = refl; no_groups = refl; no_limit = refl; no_reads = refl }

pub lines_are_behind : (context : Context) (xs : List Line) (rest : List ℕ) → IsBehindHeader ((event_lines context).spelling xs ++ rest)
unfolding event_lines until_spelling
lines_are_behind context [] rest = line_is_behind context None rest
lines_are_behind context (x ∷ xs) rest =
    let more = until_spelling (any_line context) (x ∷ []) xs in
    rw (append_assoc ((event_line context).spelling (Some x)) more rest) (line_is_behind context (Some x) (more ++ rest))

-- ---- how many lines there are

long_until : (context : Context) (xs before : List Line) → UntilFits (any_line context) before xs → length xs ≤ length (until_spelling (any_line context) before xs)
unfolding until_spelling UntilFits
long_until context [] before fits = omega arith
long_until context (x ∷ xs) before fits =
    omega (arith, length-append ((event_line context).spelling (Some x)) (until_spelling (any_line context) (before ++ x ∷ []) xs), some_line context before x fits.0, long_until context xs (before ++ x ∷ []) fits.1)

-- there are no more lines than bytes
pub lines_are_few : (context : Context) (xs : List Line) → (event_lines context).Fits xs → length xs ≤ length ((event_lines context).spelling xs)
unfolding event_lines
lines_are_few context xs fits = long_until context xs [] fits
