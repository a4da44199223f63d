-- The grammar of schedules is lawful, and what a reader tells of a text follows from what the text spells.
use Rattle.std.proofs.Common.{◌≡◌, ℕ, ◌+◌, ◌<◌, ◌≤◌, Bool, true, false, cond, not, ltb, List, [], ◌∷◌, ◌++◌, length, Result, Ok, Err, refl, ap, append_assoc, arith}
use Rattle.std.specs.List.{AllByRecursion}
use Rattle.std.specs.Prelude.{IfOk}
use Rattle.cp_schedule.specs.declared.reading.ScheduleError.{ScheduleError}
use Rattle.std.proofs.lemmas.Bool.{ltb-false, ltb-true, lt-ltb}
use Rattle.std.proofs.lemmas.List.{length-append}
use Rattle.cp_base.proofs.Tests.{first_true}
use Rattle.cp_codec.specs.Exact.{IsByte}
use Rattle.cp_grammar.specs.Grammar.{Grammar, seq, whole}
use Rattle.cp_grammar.specs.Lawful.{IsLawful}
use Rattle.cp_grammar.specs.Lists.{UntilFits}
use Rattle.cp_events.specs.declared.plan.HoldLimit.{HoldLimit}
use Rattle.cp_grammar.specs.Laws.{mapped_lawful, whole_again, whole_takes}
use Rattle.cp_events.specs.declared.schedule.Schedule.{Schedule}
use Rattle.cp_schedule.specs.Header.{opening, is_limited, limit_line, limit_lines, header_behind, header, lines_of}
use Rattle.cp_schedule.specs.Events.{event_lines}
use Rattle.cp_schedule.specs.Schedules.{schedule, context_of}
use Rattle.cp_schedule.specs.Reading.{NotBuilt, at_line, has_members, schedule_of, Answers, IsRead}
use Rattle.cp_schedule.proofs.FrontLaws.{IsLawfulBefore, before_all, seq_before}
use Rattle.cp_schedule.proofs.HeaderLaws.{IsBehindHeader, anywhere, opening_lawful, header_lawful}
use Rattle.cp_schedule.proofs.EventLaws.{events_lawful, lines_are_behind, lines_are_few}

anywhere_lawful : {A : Type 0} (g : Grammar ℕ A) → IsLawfulBefore anywhere g → IsLawful IsByte g
anywhere_lawful g law = record { again = λ x rest fits. law.again x rest tt fits; takes = law.takes }

pub schedule_lawful : IsLawful IsByte schedule
unfolding schedule
schedule_lawful =
    mapped_lawful IsByte (seq header (λ plan. event_lines (context_of plan)))
    (anywhere_lawful (seq header (λ plan. event_lines (context_of plan)))
    (seq_before IsBehindHeader anywhere header (λ plan. event_lines (context_of plan)) header_lawful (λ plan. before_all anywhere (event_lines (context_of plan)) (events_lawful (context_of plan)))
    (λ plan lines rest may fits. lines_are_behind (context_of plan) lines rest)))
    (λ p. record { plan = p.0; lines = p.1 }) (λ s. (s.plan, s.lines)) (λ x fits. refl)

-- ---- the first two lines

-- what stands behind the first two lines of a schedule
behind_opening : Schedule → List ℕ
behind_opening s = (header_behind s.plan.members).spelling (lines_of s.plan).1 ++ (event_lines (context_of s.plan)).spelling s.lines

spelled_opening : (s : Schedule) → schedule.spelling s ≡ opening.spelling s.plan.members ++ behind_opening s
unfolding schedule header behind_opening
spelled_opening s = append_assoc (opening.spelling s.plan.members) ((header_behind s.plan.members).spelling (lines_of s.plan).1) ((event_lines (context_of s.plan)).spelling s.lines)

fits_opening : (s : Schedule) → schedule.Fits s → opening.Fits s.plan.members
unfolding schedule header
fits_opening s fits = fits.0.0.0.0

opens : (bytes : List ℕ) (s : Schedule) → schedule.Fits s → bytes ≡ schedule.spelling s → opening.reading bytes ≡ Ok (s.plan.members, behind_opening s)
opens bytes s fits is = rw (is, spelled_opening s) (opening_lawful.again s.plan.members (behind_opening s) (fits_opening s fits))

-- ---- what a text is

no_test : {A E : Type 0} (b : Bool) (e : E) (r : Result A E) (x : A) → cond b (Err e) r ≡ Ok x → (b ≡ false) × (r ≡ Ok x)
no_test true e r x h = absurd cc
no_test false e r x h = (refl, h)

at_ok : (bytes : List ℕ) (r : Result Schedule ℕ) (s : Schedule) → at_line bytes r ≡ Ok s → r ≡ Ok s
at_ok bytes (Ok t) s h = cc
at_ok bytes (Err place) s h = absurd cc

zero_below : (n : ℕ) → ltb 0 n ≡ false → n ≡ 0
zero_below n h = let le : n ≤ 0 = ltb-false 0 n h in omega arith

none_below : (n : ℕ) → n ≡ 0 → ltb 0 n ≡ false
none_below n e = rw e refl

pub text_is_read : (bytes : List ℕ) (s : Schedule) → AllByRecursion IsByte bytes → schedule_of bytes ≡ Ok s → IsRead bytes s
text_is_read bytes s good h =
    let parts = no_test (has_members (opening.reading bytes)) (NotBuilt 2) (at_line bytes (whole schedule bytes)) s h in
    let is = whole_takes IsByte schedule schedule_lawful bytes s good (at_ok bytes (whole schedule bytes) s parts.1) in
    let opened = opens bytes s is.1 is.0 in
    let none : ltb 0 s.plan.members ≡ false = rw opened at parts.0 in
    record { fits = is.1; text = is.0; alone = zero_below s.plan.members none }

pub read_text_is : (bytes : List ℕ) (s : Schedule) → IsRead bytes s → schedule_of bytes ≡ Ok s
read_text_is bytes s is =
    let opened = opens bytes s is.fits is.text in
    let none : has_members (opening.reading bytes) ≡ false = rw opened (none_below s.plan.members is.alone) in
    let spelled : whole schedule bytes ≡ Ok s = rw is.text (whole_again IsByte schedule schedule_lawful s is.fits) in
    rw (none, spelled) refl

pub members_are_told : (bytes : List ℕ) (s : Schedule) → schedule.Fits s → bytes ≡ schedule.spelling s → 0 < s.plan.members → schedule_of bytes ≡ Err (NotBuilt 2)
members_are_told bytes s fits is some =
    let opened = opens bytes s fits is in
    let more : ltb 0 s.plan.members ≡ true = lt-ltb 0 s.plan.members some in
    rw (opened, more) refl

-- a text spells at most one schedule
pub spelled_once : (bytes : List ℕ) (s t : Schedule) → schedule.Fits s → schedule.Fits t → bytes ≡ schedule.spelling s → bytes ≡ schedule.spelling t → s ≡ t
spelled_once bytes s t fits_s fits_t is_s is_t =
    let one : whole schedule bytes ≡ Ok s = rw is_s (whole_again IsByte schedule schedule_lawful s fits_s) in
    let other : whole schedule bytes ≡ Ok t = rw is_t (whole_again IsByte schedule schedule_lawful t fits_t) in
    cc

fits_lines : (s : Schedule) → schedule.Fits s → (event_lines (context_of s.plan)).Fits s.lines
unfolding schedule
fits_lines s fits = fits.0.1

spelled_lines : (s : Schedule) → length ((event_lines (context_of s.plan)).spelling s.lines) ≤ length (schedule.spelling s)
unfolding schedule
spelled_lines s = omega (arith, length-append (header.spelling s.plan) ((event_lines (context_of s.plan)).spelling s.lines))

-- there are fewer lines than bytes
pub lines_within : (bytes : List ℕ) (s : Schedule) → IsRead bytes s → length s.lines ≤ length bytes
lines_within bytes s is =
    let few = lines_are_few (context_of s.plan) s.lines (fits_lines s is.fits) in
    omega (arith, few, spelled_lines s, ap length is.text)

-- ---- limits are few

few_limits : (xs before : List HoldLimit) → UntilFits limit_line before xs → length before ≤ 16 → length before + length xs ≤ 16
unfolding UntilFits limit_line
few_limits [] before fits le = omega arith
few_limits (x ∷ xs) before fits le =
    let h = first_true (ltb (length before) 16) (not (is_limited before x.lock)) fits.0.1 in
    let below : length before < 16 = ltb-true _ _ h in
    omega (arith, below, few_limits xs (before ++ x ∷ []) fits.1 (omega (arith, below, length-append before (x ∷ []))), length-append before (x ∷ []))

fits_limits : (s : Schedule) → schedule.Fits s → limit_lines.Fits s.plan.limits
unfolding schedule header header_behind
fits_limits s fits = fits.0.0.0.1.1.1.1.1.0

limits_are_few : (s : Schedule) → schedule.Fits s → length s.plan.limits ≤ 16
unfolding limit_lines
limits_are_few s fits = omega (arith, few_limits s.plan.limits [] (fits_limits s fits) (omega arith))

-- ---- what the reader promises

pub limits_is : (bytes : List ℕ) (r : Result Schedule ScheduleError) → AllByRecursion IsByte bytes → Answers r (schedule_of bytes) → IfOk r (λ s. length s.plan.limits ≤ 16)
limits_is bytes (Ok s) good told = limits_are_few s (text_is_read bytes s good told).fits
limits_is bytes (Err e) good told = tt

pub found_is : (bytes : List ℕ) (r : Result Schedule ScheduleError) → AllByRecursion IsByte bytes → Answers r (schedule_of bytes) → IfOk r (λ s. IsRead bytes s)
found_is bytes (Ok s) good told = text_is_read bytes s good told
found_is bytes (Err e) good told = tt

pub few_is : (bytes : List ℕ) (r : Result Schedule ScheduleError) → AllByRecursion IsByte bytes → Answers r (schedule_of bytes) → IfOk r (λ s. length s.lines ≤ length bytes)
few_is bytes (Ok s) good told = lines_within bytes s (text_is_read bytes s good told)
few_is bytes (Err e) good told = tt
