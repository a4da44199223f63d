-- Each line of a schedule has one line feed, at its end.
use Rattle.std.proofs.Common.{◌≡◌, ℕ, zero, suc, ◌+◌, ◌≤◌, List, [], ◌∷◌, ◌++◌, length, take, drop, refl, sym, ap, ◌∙◌, append_assoc, arith}
use Rattle.std.specs.Prelude.{Option, Some, None, codes}
use Rattle.std.proofs.lemmas.List.{take_at, take-append-drop}
use Rattle.std.proofs.lemmas.Grind.{flat_map-append}
use Rattle.std.specs.Fmt.{decimal}
use Rattle.cp_base.specs.Text.{line}
use Rattle.cp_grammar.specs.Grammar.{Grammar, checked}
use Rattle.cp_grammar.specs.Words.{number_word}
use Rattle.cp_grammar.specs.Lists.{until_spelling, UntilFits}
use Rattle.cp_events.specs.declared.plan.Plan.{Plan}
use Rattle.cp_events.specs.declared.plan.HoldLimit.{HoldLimit}
use Rattle.cp_events.specs.declared.schedule.Line.{Line}
use Rattle.cp_events.specs.declared.schedule.Schedule.{Schedule}
use Rattle.cp_call_words.specs.Values.{name_word, between_word}
use Rattle.cp_call_words.specs.declared.context.Context.{Context}
use Rattle.cp_schedule.specs.Fronts.{optional, spelling_if_there, FitsIfThere}
use Rattle.cp_schedule.specs.Header.{opening, size_line, clients_line, snapshot_line, groups_words, which_groups, may_have, groups_line, may_follow, one_limit, limit_line, limit_lines, reads_words, which_reads, reads_line, header_behind, header}
use Rattle.cp_schedule.specs.Events.{client_word, thread_word, stop_words, crash_end, crash_cases, crash_words, line_words, event_line, any_line, event_lines}
use Rattle.cp_schedule.specs.Schedules.{schedule, context_of}
use Rattle.cp_schedule.specs.Reading.{lines_if, header_lines}
use Rattle.cp_schedule.specs.Laws.{lines_text, text_before, text_from, StandsAt}
use Rattle.cp_schedule.proofs.EventLaws.{decimal_word}
use Rattle.cp_schedule.proofs.Feeds.{feeds, feeds_append, feeds_none, feed_line, feed_space, ended_feeds, Counts, counted}
use Rattle.cp_schedule.proofs.CallFeeds.{member_space, member_line, user_op_feeds}

-- ---- the lines behind the header

client_space : Counts (client_word 32) 0
unfolding client_word
client_space = search counted

thread_space : Counts (thread_word 32) 0
unfolding thread_word
thread_space = search counted

after_words : feeds (codes "after ") ≡ 0
unfolding feeds
after_words = refl

choice_words : feeds (codes "choice ") ≡ 0
unfolding feeds
choice_words = refl

stop_feeds : Counts stop_words 1
unfolding stop_words
stop_feeds = search (counted, after_words, choice_words)

crash_step : (m : ℕ) → m ≤ 9 → (o : Option (ℕ × ℕ)) → (crash_cases (crash_end o)).Fits o → feeds ((decimal m ++ crash_end o ∷ []) ++ (crash_cases (crash_end o)).spelling o) ≡ 1
crash_step m le None fits =
    omega (arith, feeds_append (decimal m ++ 10 ∷ []) [], ended_feeds (decimal m) 10 (decimal_word m (omega arith)), feed_line, feeds_none)
crash_step m le (Some stop) fits =
    omega (arith, feeds_append (decimal m ++ 32 ∷ []) (stop_words.spelling stop), ended_feeds (decimal m) 32 (decimal_word m (omega arith)), feed_space, stop_feeds.counts stop fits.0)

crash_feeds : Counts crash_words 1
unfolding crash_words
crash_feeds = record { counts = λ c fits. crash_step c.0 fits.0.0.0.0 c.1 fits.0.1 }

words_feeds : (context : Context) → Counts (line_words context) 1
unfolding line_words
words_feeds context = search (counted, client_space, thread_space, member_space, member_line, user_op_feeds, crash_feeds) depth 20 fits 20000

pub event_feeds : (context : Context) → Counts (event_line context) 1
unfolding event_line
event_feeds context = record { counts = (words_feeds context).counts }

-- ---- the header

cp_base : feeds (line (codes "cp 1")) ≡ 1
unfolding feeds
cp_base = refl

members_words : feeds (codes "members ") ≡ 0
unfolding feeds
members_words = refl

size_words : feeds (codes "size ") ≡ 0
unfolding feeds
size_words = refl

clients_words : feeds (codes "clients ") ≡ 0
unfolding feeds
clients_words = refl

snapshot_words : feeds (codes "snapshot ") ≡ 0
unfolding feeds
snapshot_words = refl

groups_front : feeds (codes "groups ") ≡ 0
unfolding feeds
groups_front = refl

limit_words : feeds (codes "limit ") ≡ 0
unfolding feeds
limit_words = refl

reads_front : feeds (codes "reads ") ≡ 0
unfolding feeds
reads_front = refl

optional_feeds : {A : Type 0} (front : List ℕ) (g : Grammar ℕ A) → feeds front ≡ 0 → Counts g 1 → (o : Option A) → FitsIfThere g o → feeds (spelling_if_there front g o) ≡ lines_if o
optional_feeds front g none law None fits = feeds_none
optional_feeds front g none law (Some x) fits = omega (arith, feeds_append front (g.spelling x), none, law.counts x fits)

module _ {A : Type 0} (front : List ℕ) (none : feeds front ≡ 0) (item : List A → Grammar ℕ A) (laws : (before : List A) → Counts (item before) 1) where
  pub lines_feeds : (xs before : List A) → UntilFits (λ b. optional front (item b)) before xs → feeds (until_spelling (λ b. optional front (item b)) before xs) ≡ length xs
  unfolding until_spelling UntilFits
  lines_feeds [] before fits = feeds_none
  lines_feeds (x ∷ xs) before fits =
      let more = until_spelling (λ b. optional front (item b)) (before ++ x ∷ []) xs in
      omega (arith, feeds_append (front ++ (item before).spelling x) more, feeds_append front ((item before).spelling x), none, (laws before).counts x fits.0, lines_feeds xs (before ++ x ∷ []) fits.1)

name_space : Counts (name_word 32) 0
unfolding name_word
name_space = search counted

groups_words_feeds : Counts groups_words 1
unfolding groups_words
groups_words_feeds = search counted

groups_feeds : (members : ℕ) (o : Option _) → (groups_line members).Fits o → feeds ((groups_line members).spelling o) ≡ lines_if o
unfolding groups_line which_groups
groups_feeds members o fits = optional_feeds (codes "groups ") (checked which_groups (may_have members)) groups_front (record { counts = λ x f. groups_words_feeds.counts x f.0 }) o fits

reads_words_feeds : Counts reads_words 1
unfolding reads_words
reads_words_feeds = search counted

reads_feeds : (o : Option _) → reads_line.Fits o → feeds (reads_line.spelling o) ≡ lines_if o
unfolding reads_line which_reads
reads_feeds o fits = optional_feeds (codes "reads ") which_reads reads_front (record { counts = reads_words_feeds.counts }) o fits

snapshot_number : Counts (between_word 10 1 1000000) 1
snapshot_number = search counted

snapshot_feeds : (o : Option ℕ) → snapshot_line.Fits o → feeds (snapshot_line.spelling o) ≡ lines_if o
unfolding snapshot_line
snapshot_feeds o fits = optional_feeds (codes "snapshot ") (between_word 10 1 1000000) snapshot_words snapshot_number o fits

limit_feeds : (before : List HoldLimit) → Counts (checked one_limit (may_follow before)) 1
limit_feeds before = search (counted, name_space)

limits_feeds : (limits : List HoldLimit) → limit_lines.Fits limits → feeds (limit_lines.spelling limits) ≡ length limits
unfolding limit_lines limit_line
limits_feeds limits fits = lines_feeds (codes "limit ") limit_words (λ b. checked one_limit (may_follow b)) limit_feeds limits [] fits

nine : Counts (number_word 10 9) 1
nine = search counted

opening_feeds : (n : ℕ) → opening.Fits n → feeds (opening.spelling n) ≡ 2
unfolding opening
opening_feeds n fits =
    let number = (number_word 10 9).spelling n in
    omega (arith, feeds_append (line (codes "cp 1")) (codes "members " ++ number), feeds_append (codes "members ") number, cp_base, members_words, nine.counts n fits)

size_feeds : (members : ℕ) → Counts (size_line members) 1
unfolding size_line
size_feeds members = search (counted, size_words)

clients_feeds : Counts clients_line 1
unfolding clients_line
clients_feeds = search (counted, clients_words)

pub header_feeds : (plan : Plan) → header.Fits plan → feeds (header.spelling plan) ≡ header_lines plan
unfolding header header_behind
header_feeds h fits =
    let reads = reads_line.spelling h.reads in
    let limits = limit_lines.spelling h.limits in
    let groups = (groups_line h.members).spelling h.groups in
    let snapshot = snapshot_line.spelling h.snapshot in
    let clients = clients_line.spelling h.clients in
    let size = (size_line h.members).spelling h.size in
    let f = fits.0.1 in
    omega (arith, feeds_append (opening.spelling h.members) (size ++ (clients ++ (snapshot ++ (groups ++ (limits ++ reads))))), feeds_append size (clients ++ (snapshot ++ (groups ++ (limits ++ reads)))), feeds_append clients (snapshot ++ (groups ++ (limits ++ reads))), feeds_append snapshot (groups ++ (limits ++ reads)), feeds_append groups (limits ++ reads), feeds_append limits reads, opening_feeds h.members fits.0.0, (size_feeds h.members).counts h.size f.0, clients_feeds.counts h.clients f.1.0, snapshot_feeds h.snapshot f.1.1.0, groups_feeds h.members h.groups f.1.1.1.0, limits_feeds h.limits f.1.1.1.1.0, reads_feeds h.reads f.1.1.1.1.1)

-- ---- the n-th line behind the header

taken_feeds : (context : Context) (xs before : List Line) (n : ℕ) → UntilFits (any_line context) before xs → n ≤ length xs → feeds (lines_text context (take n xs)) ≡ n
unfolding UntilFits
taken_feeds context [] before zero fits le = feeds_none
taken_feeds context (x ∷ xs) before zero fits le = feeds_none
taken_feeds context [] before (suc n) fits le = absurd (omega arith)
taken_feeds context (x ∷ xs) before (suc n) fits le =
    omega (arith, feeds_append ((event_line context).spelling (Some x)) (lines_text context (take n xs)), (event_feeds context).counts (Some x) fits.0, taken_feeds context xs (before ++ x ∷ []) n fits.1 (omega arith))

spelled_lines : (context : Context) (xs before : List Line) → until_spelling (any_line context) before xs ≡ lines_text context xs ++ (event_line context).spelling None
unfolding until_spelling
spelled_lines context [] before = refl
spelled_lines context (x ∷ xs) before =
    ap (λ (r : List ℕ). (event_line context).spelling (Some x) ++ r) (spelled_lines context xs (before ++ x ∷ [])) ∙ sym (append_assoc ((event_line context).spelling (Some x)) (lines_text context xs) ((event_line context).spelling None))

parted_lines : (context : Context) (xs : List Line) (n : ℕ) → lines_text context xs ≡ lines_text context (take n xs) ++ lines_text context (drop n xs)
parted_lines context xs n = ap (lines_text context) (sym (take-append-drop n xs)) ∙ flat_map-append (λ l. (event_line context).spelling (Some l)) (take n xs) (drop n xs)

before_and_from : (s : Schedule) (n : ℕ) → schedule.spelling s ≡ text_before s n ++ text_from s n
unfolding schedule event_lines
before_and_from s n =
    let context = context_of s.plan in
    let front = lines_text context (take n s.lines) in
    let back = lines_text context (drop n s.lines) in
    let last = (event_line context).spelling None in
    let lines : until_spelling (any_line context) [] s.lines ≡ front ++ (back ++ last) = spelled_lines context s.lines [] ∙ ap (λ (r : List ℕ). r ++ last) (parted_lines context s.lines n) ∙ append_assoc front back last in
    ap (λ (r : List ℕ). header.spelling s.plan ++ r) lines ∙ sym (append_assoc (header.spelling s.plan) front (back ++ last))

before_feeds : (s : Schedule) (n : ℕ) → schedule.Fits s → n ≤ length s.lines → feeds (text_before s n) ≡ header_lines s.plan + n
unfolding schedule event_lines
before_feeds s n fits le =
    omega (arith, feeds_append (header.spelling s.plan) (lines_text (context_of s.plan) (take n s.lines)), header_feeds s.plan fits.0.0, taken_feeds (context_of s.plan) s.lines [] n fits.0.1 le)

pub lines_are_numbered : (s : Schedule) (n : ℕ) → schedule.Fits s → n ≤ length s.lines → StandsAt s n
unfolding feeds
lines_are_numbered s n fits le =
    let is = before_and_from s n in
    let front : take (length (text_before s n)) (schedule.spelling s) ≡ text_before s n = rw is (take_at (text_before s n) (text_from s n) (length (text_before s n)) refl) in
    let count : feeds (text_before s n) ≡ header_lines s.plan + n = before_feeds s n fits le in
    record { text = is; number = rw front (omega (arith, count)) }
